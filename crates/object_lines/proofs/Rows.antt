-- The fields of the lines of links, slots and verbs.
use Rattle.std.proofs.Common.{◌≡◌, ◌≤◌, ◌<◌, ◌^◌, ℕ, ℤ, ◌&&◌, List, [], ◌∷◌, Option, Some, None, IsTrue, refl, sym, ap, codes, arith}
use Rattle.std.proofs.lemmas.Bool.{leb-true, lt-ltb}
use Rattle.std.specs.Fmt.{decimal, signed_decimal}
use Rattle.spec_value.specs.Datum.{Datum, text, is_text, in_number_range, is_value}
use Rattle.spec_value.proofs.Entries.{first_holds, second_holds, both_hold}
use Rattle.spec_program.specs.Trees.{is_tree}
use Rattle.spec_world.specs.World.{Link, Slot, Verb, PrepositionPart, no_preposition, any_preposition, preposition_set}
use Rattle.spec_world.specs.WellFormed.{is_connection}
use Rattle.spec_world.specs.Checkpoint.{fields, object_text, programming_held, slot_bits, content_text, verb_bits, part_text, preposition_number}
use Rattle.spec_checkpoint.specs.Records.{link_holds}
use Rattle.spec_checkpoint.proofs.Fields.{whole_preposition}
use Rattle.spec_checkpoint.specs.Holding.{content_holds, slot_holds, preposition_holds, verb_holds}
use Rattle.line_fields.specs.Fields.{Field, word, held, spelled, all_spelled, is_field, are_fields}
use Rattle.line_fields.specs.Values.{is_readable, nests_no_deeper}
use Rattle.line_fields.proofs.Words.{word_decimal, word_signed, word_object, word_slot_bits, word_verb_bits, word_part, word_preposition}
use Rattle.object_lines.specs.Readable.{is_link_read, is_content_read, is_slot_read, is_preposition_read, is_verb_read}
use Rattle.object_lines.specs.Parts.{one_slot_line}
use Rattle.object_lines.proofs.LinkValues.{programming_readable}

more : (f : Field) (fs : List Field) → IsTrue (is_field f) → IsTrue (are_fields fs) → IsTrue (are_fields (f ∷ fs))
more f fs h k = both_hold (is_field f) (are_fields fs) h k

none_more : IsTrue (are_fields [])
none_more = refl

-- ---- links

abbrev pub link_row : ℤ × Link → List Field
link_row e = word (signed_decimal e.0) ∷ word (object_text (e.1).person) ∷ held (programming_held (e.1).programming) ∷ []

module _ (c : ℤ) (k : Link) (h : IsTrue (is_link_read (c, k))) where
  holds : IsTrue (link_holds (c, k))
  holds = second_holds (is_connection c) (link_holds (c, k)) h

  pub link_connection : IsTrue (is_connection c)
  link_connection = first_holds (is_connection c) (link_holds (c, k)) h

  pub link_number : IsTrue (in_number_range c)
  link_number = first_holds (in_number_range c) (in_number_range k.person && is_value (programming_held k.programming)) holds

  later : IsTrue (in_number_range k.person && is_value (programming_held k.programming))
  later = second_holds (in_number_range c) (in_number_range k.person && is_value (programming_held k.programming)) holds

  pub link_person : IsTrue (in_number_range k.person)
  link_person = first_holds (in_number_range k.person) (is_value (programming_held k.programming)) later

  pub link_value : IsTrue (is_readable (programming_held k.programming))
  link_value = programming_readable k.programming (second_holds (in_number_range k.person) (is_value (programming_held k.programming)) later)

  pub link_fields : IsTrue (are_fields (link_row (c, k)))
  link_fields =
      more (word (signed_decimal c)) (word (object_text k.person) ∷ held (programming_held k.programming) ∷ []) (word_signed c link_number)
      (more (word (object_text k.person)) (held (programming_held k.programming) ∷ []) (word_object k.person)
      (more (held (programming_held k.programming)) [] (second_holds (in_number_range k.person) (is_value (programming_held k.programming)) later) none_more))

-- ---- slots

abbrev pub content_field : Option Datum → Field
content_field None = word (codes "clear")
content_field (Some v) = held v

pub content_spelled : (d : Option Datum) → spelled (content_field d) ≡ content_text d
content_spelled None = refl
content_spelled (Some v) = refl

content_is_field : (d : Option Datum) → IsTrue (content_holds d) → IsTrue (is_field (content_field d))
content_is_field None h = refl
content_is_field (Some v) h = h

abbrev pub slot_row : Slot → List Field
slot_row s = word (object_text s.owner) ∷ word (slot_bits s) ∷ content_field s.content ∷ []

pub slot_spelled : (s : Slot) → fields (codes "slot" ∷ all_spelled (slot_row s)) ≡ one_slot_line s
slot_spelled s = ap (λ t. fields (codes "slot" ∷ object_text s.owner ∷ slot_bits s ∷ t ∷ [])) (content_spelled s.content)

module _ (s : Slot) (h : IsTrue (is_slot_read s)) where
  slot_is : IsTrue (slot_holds s)
  slot_is = first_holds (slot_holds s) (is_content_read s.content) h

  pub slot_owner : IsTrue (in_number_range s.owner)
  slot_owner = first_holds (in_number_range s.owner) (content_holds s.content) slot_is

  pub slot_content : IsTrue (content_holds s.content)
  slot_content = second_holds (in_number_range s.owner) (content_holds s.content) slot_is

  pub slot_nests : IsTrue (is_content_read s.content)
  slot_nests = second_holds (slot_holds s) (is_content_read s.content) h

  pub slot_fields : IsTrue (are_fields (slot_row s))
  slot_fields =
      more (word (object_text s.owner)) (word (slot_bits s) ∷ content_field s.content ∷ []) (word_object s.owner)
      (more (word (slot_bits s)) (content_field s.content ∷ []) (word_slot_bits s) (more (content_field s.content) [] (content_is_field s.content slot_content) none_more))

pub content_readable : (v : Datum) → IsTrue (is_value v) → IsTrue (nests_no_deeper v) → IsTrue (is_readable v)
content_readable v h k = both_hold (is_value v) (nests_no_deeper v) h k

-- ---- verbs

pub set_number : (n : ℕ) → IsTrue (is_preposition_read (preposition_set n)) → n ≤ 14
set_number n h = leb-true n 14 h

abbrev pub verb_row : Verb → ℕ → List Field
verb_row v n =
    held (text v.names)
    ∷ word (object_text v.owner)
    ∷ word (verb_bits v)
    ∷ word (part_text v.direct)
    ∷ word (preposition_number v.preposition)
    ∷ word (part_text v.indirect)
    ∷ word (decimal n)
    ∷ []

module _ (v : Verb) (h : IsTrue (is_verb_read v)) where
  verb_is : IsTrue (verb_holds v)
  verb_is = first_holds (verb_holds v) (is_preposition_read v.preposition) h

  pub verb_preposition : IsTrue (is_preposition_read v.preposition)
  verb_preposition = second_holds (verb_holds v) (is_preposition_read v.preposition) h

  pub verb_names : IsTrue (is_text v.names)
  verb_names = first_holds (is_text v.names) _ verb_is

  verb_later : IsTrue (in_number_range v.owner && (preposition_holds v.preposition && is_tree v.program))
  verb_later = second_holds (is_text v.names) _ verb_is

  pub verb_owner : IsTrue (in_number_range v.owner)
  verb_owner = first_holds (in_number_range v.owner) _ verb_later

  verb_rest : IsTrue (preposition_holds v.preposition && is_tree v.program)
  verb_rest = second_holds (in_number_range v.owner) _ verb_later

  pub verb_tree : IsTrue (is_tree v.program)
  verb_tree = second_holds (preposition_holds v.preposition) (is_tree v.program) verb_rest

  pub verb_are_fields : (n : ℕ) → n < 2 ^ 64 → IsTrue (are_fields (verb_row v n))
  verb_are_fields n l =
      let count : List Field = word (decimal n) ∷ [] in
      let indirect : List Field = word (part_text v.indirect) ∷ count in
      let preposition : List Field = word (preposition_number v.preposition) ∷ indirect in
      let direct : List Field = word (part_text v.direct) ∷ preposition in
      let bits : List Field = word (verb_bits v) ∷ direct in
      let owner : List Field = word (object_text v.owner) ∷ bits in
      more (held (text v.names)) owner verb_names
      (more (word (object_text v.owner)) bits (word_object v.owner)
      (more (word (verb_bits v)) direct (word_verb_bits v)
      (more (word (part_text v.direct)) preposition (word_part v.direct)
      (more (word (preposition_number v.preposition)) indirect (word_preposition v.preposition (first_holds (preposition_holds v.preposition) (is_tree v.program) verb_rest))
      (more (word (part_text v.indirect)) count (word_part v.indirect) (more (word (decimal n)) [] (word_decimal n l) none_more))))))

set_holds : (p : PrepositionPart) → IsTrue (is_preposition_read p) → IsTrue (preposition_holds p)
set_holds no_preposition h = refl
set_holds any_preposition h = refl
set_holds (preposition_set n) h = lt-ltb n (2 ^ 31) (let low = set_number n h in omega (arith, low))

-- which preposition a field says
pub no_preposition_is : (p : PrepositionPart) → IsTrue (is_preposition_read p) → preposition_number p ≡ codes "none" → no_preposition ≡ p
no_preposition_is p h e = whole_preposition no_preposition p refl (set_holds p h) (sym e)

pub any_preposition_is : (p : PrepositionPart) → IsTrue (is_preposition_read p) → preposition_number p ≡ codes "any" → any_preposition ≡ p
any_preposition_is p h e = whole_preposition any_preposition p refl (set_holds p h) (sym e)

pub some_set : (p : PrepositionPart) → (preposition_number p ≡ codes "none" → ⊥) → (preposition_number p ≡ codes "any" → ⊥) → (n : ℕ) × (p ≡ preposition_set n)
some_set no_preposition a b = absurd (a refl)
some_set any_preposition a b = absurd (b refl)
some_set (preposition_set n) a b = (n, refl)
