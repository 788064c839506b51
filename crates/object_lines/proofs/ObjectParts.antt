-- The lines of an object, part by part, and what is known of the parts of an object that is read.
use Rattle.std.proofs.Common.{◌≡◌, ◌≤◌, ℤ, ◌&&◌, List, [], ◌∷◌, ◌++◌, length, Some, IsTrue, ap, ◌∙◌, codes, arith, append_assoc, length-append}
use Rattle.std.specs.List.{list_all}
use Rattle.std.specs.Fmt.{signed_decimal}
use Rattle.spec_value.specs.Datum.{Text, is_text, in_number_range}
use Rattle.spec_value.proofs.Entries.{first_holds, second_holds}
use Rattle.spec_program.specs.Spelling.{canonical_lines}
use Rattle.spec_world.specs.World.{World, Header, Object, Slot, Verb, object_at}
use Rattle.spec_world.specs.Checkpoint.{fields, counted, verb_line, each_verb, verb_lines, object_lines, each_object}
use Rattle.spec_checkpoint.specs.Holding.{slot_holds, verb_holds, header_holds, object_holds, numbered_object_holds}
use Rattle.named_objects.specs.Told.{slots_found, object_names}
use Rattle.object_lines.specs.Parts.{each_slot, family_lines}
use Rattle.object_lines.specs.Readable.{is_content_read, is_slot_read, is_preposition_read, is_verb_read, is_object_read}
use Rattle.object_lines.proofs.Lists.{both_of_all}
use Rattle.object_lines.proofs.SlotLines.{slots_as_lines, as_many_lines, slots_hold}

-- ---- verbs

pub verb_parts : (v : Verb) (more rest : List Text)
    → ((verb_line v (length (canonical_lines v.program)) ∷ canonical_lines v.program) ++ more) ++ rest ≡ verb_line v (length (canonical_lines v.program)) ∷ (canonical_lines v.program ++ (more ++ rest))
verb_parts v more rest = ap (λ ts. verb_line v (length (canonical_lines v.program)) ∷ ts) (append_assoc (canonical_lines v.program) more rest)

pub front_within : {A : Type 0} (xs ys : List A) → length xs ≤ length (xs ++ ys)
front_within xs ys = let both = length-append xs ys in omega arith

verbs_within : (vs : List Verb) → length vs ≤ length (each_verb vs)
verbs_within [] = omega arith
verbs_within (v ∷ vs) = let later = verbs_within vs in let both = length-append (canonical_lines v.program) (each_verb vs) in omega arith

pub verbs_counted : (vs : List Verb) (rest : List Text) → length vs ≤ length (each_verb vs ++ rest)
verbs_counted vs rest = let within = verbs_within vs in let front = front_within (each_verb vs) rest in omega arith

-- ---- slots

pub slots_counted : (ss : List Slot) (rest : List Text) → length ss ≤ length (each_slot ss ++ rest)
slots_counted ss rest = let many = as_many_lines ss in let front = front_within (each_slot ss) rest in omega arith

-- ---- objects

abbrev pub slots_told : World → ℤ → List Slot
slots_told w o = slots_found w o (object_names w o)

-- behind its number come the lines of its family, its slots and its verbs
abbrev pub behind_number : World → ℤ → Object → List Text → List Text
behind_number w o x rest = family_lines x ++ (counted (codes "slots") (length (slots_told w o)) ∷ (each_slot (slots_told w o) ++ (verb_lines x.verbs ++ rest)))

pub object_parts : (w : World) (o : ℤ) (x : Object) (rest : List Text) → object_lines w o x ++ rest ≡ fields (codes "object" ∷ signed_decimal o ∷ []) ∷ behind_number w o x rest
object_parts w o x rest =
    let same = slots_as_lines w o in
    let ss : List Slot = slots_told w o in
    let front : List Text → List Text = λ ts. fields (codes "object" ∷ signed_decimal o ∷ []) ∷ (family_lines x ++ ts) in
    (λ i. front (counted (codes "slots") (length (same i)) ∷ ((same i ++ verb_lines x.verbs) ++ rest)))
    ∙ (λ i. front (counted (codes "slots") (as_many_lines ss i) ∷ append_assoc (each_slot ss) (verb_lines x.verbs) rest i))

module _ (o : ℤ) (x : Object) (h : IsTrue (is_object_read (o, x))) where
  numbered : IsTrue (numbered_object_holds (o, x))
  numbered = first_holds (numbered_object_holds (o, x)) _ h

  extra : IsTrue (list_all (λ e. is_content_read (e.1).content) x.slots && list_all (λ v. is_preposition_read v.preposition) x.verbs)
  extra = second_holds (numbered_object_holds (o, x)) _ h

  pub object_in_range : IsTrue (in_number_range o)
  object_in_range = first_holds (in_number_range o) (object_holds x) numbered

  pub object_is : IsTrue (object_holds x)
  object_is = second_holds (in_number_range o) (object_holds x) numbered

  lists : IsTrue (list_all in_number_range x.children && (list_all in_number_range x.contents && (list_all is_text x.defines && (list_all (λ e. slot_holds e.1) x.slots && list_all verb_holds x.verbs))))
  lists = second_holds (header_holds x.header) _ object_is

  rest_of : IsTrue (list_all (λ e. slot_holds e.1) x.slots && list_all verb_holds x.verbs)
  rest_of = second_holds (list_all is_text x.defines) _ (second_holds (list_all in_number_range x.contents) _ (second_holds (list_all in_number_range x.children) _ lists))

  pub object_verbs : IsTrue (list_all is_verb_read x.verbs)
  object_verbs =
      both_of_all verb_holds (λ v. is_preposition_read v.preposition) x.verbs (second_holds (list_all (λ e. slot_holds e.1) x.slots) (list_all verb_holds x.verbs) rest_of)
      (second_holds (list_all (λ e. is_content_read (e.1).content) x.slots) (list_all (λ v. is_preposition_read v.preposition) x.verbs) extra)

  own_slots : IsTrue (list_all (λ e. is_slot_read e.1) x.slots)
  own_slots =
      both_of_all (λ e. slot_holds e.1) (λ e. is_content_read (e.1).content) x.slots (first_holds (list_all (λ e. slot_holds e.1) x.slots) (list_all verb_holds x.verbs) rest_of)
      (first_holds (list_all (λ e. is_content_read (e.1).content) x.slots) (list_all (λ v. is_preposition_read v.preposition) x.verbs) extra)

  pub object_slots : (w : World) → object_at w o ≡ Some x → IsTrue (list_all is_slot_read (slots_told w o))
  object_slots w is = slots_hold w o is_slot_read x is own_slots (object_names w o)

module _ (x : Object) (h : IsTrue (object_holds x)) where
  pub family_header : IsTrue (header_holds x.header)
  family_header = first_holds (header_holds x.header) _ h

  behind_header : IsTrue (list_all in_number_range x.children && (list_all in_number_range x.contents && (list_all is_text x.defines && (list_all (λ e. slot_holds e.1) x.slots && list_all verb_holds x.verbs))))
  behind_header = second_holds (header_holds x.header) _ h

  pub family_children : IsTrue (list_all in_number_range x.children)
  family_children = first_holds (list_all in_number_range x.children) _ behind_header

  behind_children : IsTrue (list_all in_number_range x.contents && (list_all is_text x.defines && (list_all (λ e. slot_holds e.1) x.slots && list_all verb_holds x.verbs)))
  behind_children = second_holds (list_all in_number_range x.children) _ behind_header

  pub family_contents : IsTrue (list_all in_number_range x.contents)
  family_contents = first_holds (list_all in_number_range x.contents) _ behind_children

  pub family_defines : IsTrue (list_all is_text x.defines)
  family_defines = first_holds (list_all is_text x.defines) _ (second_holds (list_all in_number_range x.contents) _ behind_children)

module _ (g : Header) (h : IsTrue (header_holds g)) where
  pub naming_name : IsTrue (is_text g.name)
  naming_name = first_holds (is_text g.name) _ h

  behind_name : IsTrue (in_number_range g.owner && (in_number_range g.parent && in_number_range g.location))
  behind_name = second_holds (is_text g.name) _ h

  pub naming_owner : IsTrue (in_number_range g.owner)
  naming_owner = first_holds (in_number_range g.owner) _ behind_name

  behind_owner : IsTrue (in_number_range g.parent && in_number_range g.location)
  behind_owner = second_holds (in_number_range g.owner) _ behind_name

  pub naming_parent : IsTrue (in_number_range g.parent)
  naming_parent = first_holds (in_number_range g.parent) (in_number_range g.location) behind_owner

  pub naming_location : IsTrue (in_number_range g.location)
  naming_location = second_holds (in_number_range g.parent) (in_number_range g.location) behind_owner

-- the lines of the next object, before those of the others
pub objects_on : (w : World) (e : ℤ × Object) (es : List (ℤ × Object)) (rest : List Text) → each_object w (e ∷ es) ++ rest ≡ object_lines w e.0 e.1 ++ (each_object w es ++ rest)
objects_on w e es rest = append_assoc (object_lines w e.0 e.1) (each_object w es) rest
