-- How a built-in function is called (Programmer's Manual, "Built-in Functions"): the arguments that it takes, and its errors in their order.
use Rattle.std.specs.Prelude.{◌+◌, ℤ, neg_ℤ, pos, nat_le, Bool, true, false, ◌&&◌, ◌||◌, List, [], ◌∷◌, length, if◌then◌else◌, is_some, Option, Some, None, option_map}
use Rattle.std.specs.Ordering.{int_eq}
use Rattle.spec_value.specs.Datum.{Datum, integer, object, text, list, Data, no_data, item, of_list, Text, ErrorCode, type_mismatch, permission_denied, wrong_argument_count, invalid_argument}
use Rattle.spec_value.specs.Answer.{gives}
use Rattle.spec_world.specs.World.{Object, object_at}
use Rattle.spec_world.specs.Permissions.{Act, may}
use Rattle.spec_moo.specs.Properties.{row_of}
use Rattle.spec_moo.specs.Scene.{Scene}
use Rattle.spec_moo.specs.NativeEffect.{Caller, NativeEffect, answers, refuses}

-- ---- kinds of arguments

-- the three lists have given items: an owner and bits; these and names; a verb's direct object, preposition and indirect object
pub data Sort : Type 0 where
  any_value an_integer an_object a_text a_verb text_lines owner_and_bits owner_bits_names verb_specifier : Sort

abbrev pub are_texts : Data → Bool
are_texts no_data = true
are_texts (item (text t) xs) = are_texts xs
are_texts (item x xs) = false

-- a verb is told by a word, or by its place
abbrev pub fits : Sort → Datum → Bool
fits any_value v = true
fits an_integer (integer n) = true
fits an_object (object o) = true
fits a_text (text t) = true
fits a_verb (text t) = true
fits a_verb (integer n) = true
fits text_lines (list xs) = are_texts xs
fits owner_and_bits (list (item (object o) (item (text b) no_data))) = true
fits owner_bits_names (list (item (object o) (item (text b) (item (text n) no_data)))) = true
fits verb_specifier (list (item (text d) (item (text p) (item (text i) no_data)))) = true
fits _ _ = false

-- ---- a row: the arguments that it wants, those that it takes besides, and what it does with them

pub record Row : Type 0 where
  pub wanted : List Sort
  pub further : List Sort
  pub act : Scene → Caller → List Datum → NativeEffect

abbrev pub counts_fit : Row → List Datum → Bool
counts_fit r args = nat_le (length r.wanted) (length args) && nat_le (length args) (length r.wanted + length r.further)

abbrev pub all_fit : List Sort → List Sort → List Datum → Bool
all_fit wanted further [] = true
all_fit [] [] (v ∷ vs) = false
all_fit [] (k ∷ ks) (v ∷ vs) = fits k v && all_fit [] ks vs
all_fit (k ∷ ks) further (v ∷ vs) = fits k v && all_fit ks further vs

-- a wrong count, then wrong kinds, and then what the row says
abbrev pub by_row : Scene → Caller → List Datum → Row → NativeEffect
by_row s c args r =
    if counts_fit r args then (if all_fit r.wanted r.further args then r.act s c args else refuses s type_mismatch)
    else refuses s wrong_argument_count

-- what a group says of a name, if it has it
abbrev pub in_group : List (Text × Row) → Scene → Caller → Text → List Datum → Option NativeEffect
in_group rows s c name args = option_map (by_row s c args) (row_of rows name)

-- ---- errors in their order

pub record Check : Type 0 where
  pub holds : Bool
  pub otherwise : ErrorCode

-- the first that fails decides
abbrev pub unless : Scene → List Check → NativeEffect → NativeEffect
unless s [] e = e
unless s (k ∷ ks) e = if k.holds then unless s ks e else refuses s k.otherwise

abbrev pub wants : Bool → ErrorCode → Check
wants b e = record { holds = b; otherwise = e }

abbrev pub is_valid : Scene → ℤ → Bool
is_valid s o = is_some (object_at s.world o)

abbrev pub is_valid_or_none : Scene → ℤ → Bool
is_valid_or_none s o = int_eq o (neg_ℤ (pos 1)) || is_valid s o

-- what is absent raises its error
abbrev pub if_there : {X : Type 0} → Scene → ErrorCode → Option X → (X → NativeEffect) → NativeEffect
if_there s e None f = refuses s e
if_there s e (Some x) f = f x

abbrev pub may_do : Scene → Caller → Act → Check
may_do s c a = wants (may s.world c.call.programmer a) permission_denied

abbrev pub if_valid : Scene → ℤ → (Object → NativeEffect) → NativeEffect
if_valid s o f = if_there s invalid_argument (object_at s.world o) f

-- ---- answers

abbrev pub answers_with : Scene → Datum → NativeEffect
answers_with s v = answers s (gives v)

-- the value of a function that has none of its own
abbrev pub zero_value : Datum
zero_value = integer (pos 0)

abbrev pub list_value : List Datum → Datum
list_value vs = list (of_list vs)

-- the kinds of the arguments were tested before
abbrev pub of_other_kinds : Scene → NativeEffect
of_other_kinds s = refuses s type_mismatch
