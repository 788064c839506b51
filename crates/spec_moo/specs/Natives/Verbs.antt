-- Built-in functions over verbs and programs (Programmer's Manual, "Operations Involving Verbs"): `verbs` to `set_verb_code`, and `eval`.
use Rattle.std.specs.Prelude.{ℕ, zero, suc, ℤ, pos, Bool, true, false, not, ◌&&◌, ◌++◌, List, [], ◌∷◌, if◌then◌else◌, Option, Some, None, option_map, codes}
use Rattle.spec_value.specs.Datum.{Datum, integer, object, text, list, Data, no_data, item, Text, fold_case, same_text, verb_not_found, invalid_argument}
use Rattle.spec_program.specs.Tree.{the_end}
use Rattle.spec_program.specs.Spelling.{canonical_lines}
use Rattle.spec_program.specs.ReadPrograms.{Parsed, program, faulty, Fault, parsed, parsed_lines, fault_text}
use Rattle.spec_world.specs.World.{Verb, ObjectPart, no_object, any_object, this_object, PrepositionPart, no_preposition, any_preposition, preposition_set, eval_native}
use Rattle.spec_world.specs.Permissions.{in_place, list_members, change_members, change_owner, read_verb, write_verb, program_verb, evaluate}
use Rattle.spec_world.specs.VerbNames.{names_in, any_spells}
use Rattle.spec_world.specs.Prepositions.{Phrase, sets}
use Rattle.spec_world.specs.Words.{spaced}
use Rattle.spec_world.specs.Members.{verb_added, verb_deleted, verb_changed}
use Rattle.spec_moo.specs.Scene.{Scene, in_world}
use Rattle.spec_moo.specs.NativeEffect.{Caller, NativeEffect, begins}
use Rattle.spec_moo.specs.Calling.{eval_call}
use Rattle.spec_moo.specs.Natives.Rows.{an_object, a_text, a_verb, text_lines, owner_bits_names, verb_specifier, Row, in_group, unless, wants, if_there, may_do, if_valid, is_valid, answers_with, zero_value, list_value, of_other_kinds}
use Rattle.spec_moo.specs.Natives.Properties.{are_bits, has_bit, letter_if, as_texts}

-- ---- a verb of an object, by a word or by its place from 1

abbrev pub place_of_word : Text → List Verb → Option ℕ
place_of_word word [] = None
place_of_word word (v ∷ vs) = if any_spells v.names word then Some zero else option_map suc (place_of_word word vs)

abbrev pub place_there : List Verb → ℕ → Option ℕ
place_there vs n = option_map (λ v. n) (in_place vs n)

abbrev pub verb_place : List Verb → Datum → Option ℕ
verb_place vs (text word) = place_of_word word vs
verb_place vs (integer (pos (suc n))) = place_there vs n
verb_place vs _ = None

abbrev pub with_verb_there : Scene → ℕ → Option Verb → (ℕ → Verb → NativeEffect) → NativeEffect
with_verb_there s n v f = if_there s verb_not_found v (f n)

-- of a valid object, and of a verb that is there
abbrev pub if_verb : Scene → ℤ → Datum → (ℕ → Verb → NativeEffect) → NativeEffect
if_verb s o d f = if_valid s o (λ x. if_there s verb_not_found (verb_place x.verbs d) (λ n. with_verb_there s n (in_place x.verbs n) f))

-- ---- `verbs`

abbrev pub verb_names : List Verb → List Text
verb_names [] = []
verb_names (v ∷ vs) = v.names ∷ verb_names vs

abbrev pub verbs_row : Scene → Caller → List Datum → NativeEffect
verbs_row s c (object o ∷ []) = if_valid s o (λ x. unless s (may_do s c (list_members o) ∷ []) (answers_with s (list_value (as_texts (verb_names x.verbs)))))
verbs_row s c _ = of_other_kinds s

-- ---- owner, bits and names

abbrev pub verb_bits : Verb → Text
verb_bits v = letter_if v.readable (codes "r") ++ (letter_if v.writable (codes "w") ++ (letter_if v.callable (codes "x") ++ letter_if v.debug (codes "d")))

abbrev pub with_info : ℤ → Text → Text → Verb → Verb
with_info owner b names v = record v {
  names = names;
  owner = owner;
  readable = has_bit (codes "r") b;
  writable = has_bit (codes "w") b;
  callable = has_bit (codes "x") b;
  debug = has_bit (codes "d") b;
}

abbrev pub is_none_named : List Text → Bool
is_none_named [] = true
is_none_named (t ∷ ts) = false

abbrev pub info_fits : Scene → ℤ → Text → Text → Bool
info_fits s owner b names = is_valid s owner && are_bits (codes "rwxd") b && not (is_none_named (names_in names))

abbrev pub verb_info_row : Scene → Caller → List Datum → NativeEffect
verb_info_row s c (object o ∷ d ∷ []) =
    if_verb s o d (λ n v. unless s (may_do s c (read_verb o n) ∷ []) (answers_with s (list_value (object v.owner ∷ text (verb_bits v) ∷ text v.names ∷ []))))
verb_info_row s c _ = of_other_kinds s

abbrev pub set_verb_info_row : Scene → Caller → List Datum → NativeEffect
set_verb_info_row s c (object o ∷ d ∷ list (item (object owner) (item (text b) (item (text names) no_data))) ∷ []) =
    if_verb s o d (λ n v.
    unless s (may_do s c (write_verb o n) ∷ may_do s c (change_owner v.owner owner) ∷ wants (info_fits s owner b names) invalid_argument ∷ [])
    (answers_with (in_world s (verb_changed s.world o n (with_info owner b names))) zero_value))
set_verb_info_row s c _ = of_other_kinds s

-- ---- what a command has to name: objects, and a preposition by any member of its set

abbrev pub object_part_text : ObjectPart → Text
object_part_text no_object = codes "none"
object_part_text any_object = codes "any"
object_part_text this_object = codes "this"

abbrev pub object_part : Text → Option ObjectPart
object_part t =
    if same_text t (codes "none") then Some no_object else if same_text t (codes "any") then Some any_object
    else if same_text t (codes "this") then Some this_object else None

abbrev pub between_slashes : List Phrase → Text
between_slashes [] = []
between_slashes (p ∷ []) = spaced p
between_slashes (p ∷ q ∷ ps) = spaced p ++ (47 ∷ between_slashes (q ∷ ps))

abbrev pub set_text : List (List Phrase) → ℕ → Text
set_text [] n = []
set_text (ps ∷ more) zero = between_slashes ps
set_text (ps ∷ more) (suc n) = set_text more n

abbrev pub preposition_text : PrepositionPart → Text
preposition_text no_preposition = codes "none"
preposition_text any_preposition = codes "any"
preposition_text (preposition_set n) = set_text sets n

abbrev pub has_member : Text → List Phrase → Bool
has_member t [] = false
has_member t (p ∷ ps) = if same_text (spaced p) (fold_case t) then true else has_member t ps

abbrev pub set_with : Text → List (List Phrase) → Option ℕ
set_with t [] = None
set_with t (ps ∷ more) = if has_member t ps then Some zero else option_map suc (set_with t more)

abbrev pub preposition_part : Text → Option PrepositionPart
preposition_part t =
    if same_text t (codes "none") then Some no_preposition else if same_text t (codes "any") then Some any_preposition
    else option_map preposition_set (set_with t sets)

pub record Specifier : Type 0 where
  pub direct : ObjectPart
  pub preposition : PrepositionPart
  pub indirect : ObjectPart

abbrev pub all_three : Option ObjectPart → Option PrepositionPart → Option ObjectPart → Option Specifier
all_three (Some d) (Some p) (Some i) = Some (record { direct = d; preposition = p; indirect = i })
all_three _ _ _ = None

abbrev pub specifier : Text → Text → Text → Option Specifier
specifier d p i = all_three (object_part d) (preposition_part p) (object_part i)

abbrev pub with_specifier : Specifier → Verb → Verb
with_specifier a v = record v { direct = a.direct; preposition = a.preposition; indirect = a.indirect }

abbrev pub verb_args_row : Scene → Caller → List Datum → NativeEffect
verb_args_row s c (object o ∷ d ∷ []) =
    if_verb s o d (λ n v.
    unless s (may_do s c (read_verb o n) ∷ [])
    (answers_with s (list_value (text (object_part_text v.direct) ∷ text (preposition_text v.preposition) ∷ text (object_part_text v.indirect) ∷ []))))
verb_args_row s c _ = of_other_kinds s

abbrev pub set_verb_args_row : Scene → Caller → List Datum → NativeEffect
set_verb_args_row s c (object o ∷ d ∷ list (item (text t) (item (text p) (item (text i) no_data))) ∷ []) =
    if_verb s o d (λ n v.
    unless s (may_do s c (write_verb o n) ∷ [])
    (if_there s invalid_argument (specifier t p i) (λ a. answers_with (in_world s (verb_changed s.world o n (with_specifier a))) zero_value)))
set_verb_args_row s c _ = of_other_kinds s

-- ---- verbs that come and go

abbrev pub new_verb : Specifier → ℤ → Text → Text → Verb
new_verb a owner b names =
    with_info owner b names
    (record {
      names = names;
      owner = owner;
      readable = false;
      writable = false;
      callable = false;
      debug = false;
      direct = a.direct;
      preposition = a.preposition;
      indirect = a.indirect;
      program = the_end;
    })

abbrev pub add_verb_row : Scene → Caller → List Datum → NativeEffect
add_verb_row s c
    (object o ∷ list (item (object owner) (item (text b) (item (text names) no_data))) ∷ list (item (text t) (item (text p) (item (text i) no_data))) ∷ []) =
    if_valid s o (λ x.
    unless s (may_do s c (change_members o) ∷ may_do s c (change_owner c.call.programmer owner) ∷ wants (info_fits s owner b names) invalid_argument ∷ [])
    (if_there s invalid_argument (specifier t p i) (λ a. answers_with (in_world s (verb_added s.world o (new_verb a owner b names))) zero_value)))
add_verb_row s c _ = of_other_kinds s

abbrev pub delete_verb_row : Scene → Caller → List Datum → NativeEffect
delete_verb_row s c (object o ∷ d ∷ []) =
    if_verb s o d (λ n v. unless s (may_do s c (change_members o) ∷ []) (answers_with (in_world s (verb_deleted s.world o n)) zero_value))
delete_verb_row s c _ = of_other_kinds s

-- ---- code, in its canonical spelling

abbrev pub verb_code_row : Scene → Caller → List Datum → NativeEffect
verb_code_row s c (object o ∷ d ∷ []) =
    if_verb s o d (λ n v. unless s (may_do s c (read_verb o n) ∷ []) (answers_with s (list_value (as_texts (canonical_lines v.program)))))
verb_code_row s c _ = of_other_kinds s

abbrev pub texts_of : Data → List Text
texts_of no_data = []
texts_of (item (text t) xs) = t ∷ texts_of xs
texts_of (item x xs) = texts_of xs

abbrev pub fault_value : Fault → Datum
fault_value f = list_value (text (fault_text f) ∷ [])

-- nothing is wrong, or one fault is
abbrev pub programmed : Scene → ℤ → ℕ → Parsed → NativeEffect
programmed s o n (program p) = answers_with (in_world s (verb_changed s.world o n (λ v. record v { program = p }))) (list_value [])
programmed s o n (faulty f) = answers_with s (fault_value f)

abbrev pub set_verb_code_row : Scene → Caller → List Datum → NativeEffect
set_verb_code_row s c (object o ∷ d ∷ list lines ∷ []) =
    if_verb s o d (λ n v. unless s (may_do s c (program_verb o n) ∷ []) (programmed s o n (parsed_lines (texts_of lines))))
set_verb_code_row s c _ = of_other_kinds s

-- ---- `eval`: {1, value}, or {0, {fault}}

abbrev pub evaluated : Scene → Caller → Text → Parsed → NativeEffect
evaluated s c t (program p) = begins s (record { name = eval_native; stage = 1; arguments = text t ∷ [] }) (eval_call c.call) p no_data
evaluated s c t (faulty f) = answers_with s (list_value (integer (pos 0) ∷ fault_value f ∷ []))

abbrev pub eval_row : Scene → Caller → List Datum → NativeEffect
eval_row s c (text t ∷ []) = unless s (may_do s c evaluate ∷ []) (evaluated s c t (parsed t))
eval_row s c _ = of_other_kinds s

abbrev pub eval_stage : Scene → Datum → NativeEffect
eval_stage s v = answers_with s (list_value (integer (pos 1) ∷ v ∷ []))

-- ---- the group

abbrev pub verb_rows : List (Text × Row)
verb_rows =
    (codes "verbs", record { wanted = an_object ∷ []; further = []; act = verbs_row })
    ∷ (codes "verb_info", record { wanted = an_object ∷ a_verb ∷ []; further = []; act = verb_info_row })
    ∷ (codes "set_verb_info", record { wanted = an_object ∷ a_verb ∷ owner_bits_names ∷ []; further = []; act = set_verb_info_row })
    ∷ (codes "verb_args", record { wanted = an_object ∷ a_verb ∷ []; further = []; act = verb_args_row })
    ∷ (codes "set_verb_args", record { wanted = an_object ∷ a_verb ∷ verb_specifier ∷ []; further = []; act = set_verb_args_row })
    ∷ (codes "add_verb", record { wanted = an_object ∷ owner_bits_names ∷ verb_specifier ∷ []; further = []; act = add_verb_row })
    ∷ (codes "delete_verb", record { wanted = an_object ∷ a_verb ∷ []; further = []; act = delete_verb_row })
    ∷ (codes "verb_code", record { wanted = an_object ∷ a_verb ∷ []; further = []; act = verb_code_row })
    ∷ (codes "set_verb_code", record { wanted = an_object ∷ a_verb ∷ text_lines ∷ []; further = []; act = set_verb_code_row })
    ∷ (codes "eval", record { wanted = a_text ∷ []; further = []; act = eval_row })
    ∷ []

abbrev pub verbs : Scene → Caller → Text → List Datum → Option NativeEffect
verbs s c name args = in_group verb_rows s c name args
