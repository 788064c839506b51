-- Fields without a fault: values that nest no deeper than values are read, and sets of prepositions that there are.
use Rattle.std.proofs.Common.{◌≡◌, ℕ, ◌&&◌, ◌||◌, nat_le, Bool, true, false, not, List, [], ◌∷◌, codes, Option, Some, None, IsTrue, refl, ap, sym, subst, ◌∙◌}
use Rattle.spec_value.specs.Datum.{Text, same_text, is_text, text, in_number_range, Datum, is_value}
use Rattle.spec_value.specs.Literal.{literal}
use Rattle.std.specs.Fmt.{decimal}
use Rattle.spec_value.proofs.Entries.{first_holds, second_holds}
use Rattle.spec_value.proofs.Same.{same_texts}
use Rattle.spec_world.specs.World.{PrepositionPart, no_preposition, any_preposition, preposition_set, Slot, Verb}
use Rattle.spec_world.specs.Checkpoint.{fields, object_text, slot_bits, content_text, verb_bits, part_text, preposition_number}
use Rattle.spec_checkpoint.specs.Holding.{content_holds, slot_holds, preposition_holds, verb_holds}
use Rattle.spec_checkpoint.proofs.Fields.{number_small, whole_value, whole_content, whole_preposition}
use Rattle.spec_faults.specs.Cutting.{fields_in}
use Rattle.spec_faults.specs.Plain as plain
use Rattle.spec_faults.specs.Plain.{passes}
use Rattle.spec_faults.specs.Literals.{value_of, is_literal, any}
use Rattle.spec_faults.specs.Forms as form
use Rattle.spec_faults.specs.Forms.{Wanted, word, other, value, is_misspelt, is_no_value, one_is, has_form, least, fault_of}
use Rattle.spec_faults.specs.FieldLaws.{IsField, unmarked, spelled, AreFields}
use Rattle.spec_faults.specs.Reach.{is_near, content_near, preposition_near}
use Rattle.spec_faults.proofs.Spelling.{numbers_told, values_spelled}
use Rattle.spec_faults.proofs.FieldsBack.{decimal_unmarked, signed_unmarked, fields_told}
use Rattle.spec_faults.proofs.FieldsSuit.{slot_bits_suit, verb_bits_suit, part_suits}

-- ---- fields that pass

abbrev pub Passed : Wanted → Text → Type 0
Passed (word w) t = Unit {0}
Passed (other test) t = IsTrue (test t)
Passed (value test) t = IsTrue (test t)

abbrev pub AllPassed : List Wanted → List Text → Type 0
AllPassed [] ts = Unit {0}
AllPassed (w ∷ ws) [] = Unit {0}
AllPassed (w ∷ ws) (t ∷ ts) = Passed w t × AllPassed ws ts

passed : (b : Bool) → not b ≡ false → IsTrue b
passed true e = refl
passed false e = cc

one_passed : (w : Wanted) (t : Text) → is_misspelt w t ≡ false → is_no_value w t ≡ false → Passed w t
one_passed (word w) t h k = tt
one_passed (other test) t h k = passed (test t) h
one_passed (value test) t h k = passed (test t) k

first_not : (a b : Bool) → (a || b) ≡ false → a ≡ false
first_not true b e = cc
first_not false b e = refl

second_not : (a b : Bool) → (a || b) ≡ false → b ≡ false
second_not true b e = cc
second_not false b e = e

all_passed : (ws : List Wanted) (ts : List Text) → one_is is_misspelt ws ts ≡ false → one_is is_no_value ws ts ≡ false → AllPassed ws ts
all_passed [] ts h k = tt
all_passed (w ∷ ws) [] h k = tt
all_passed (w ∷ ws) (t ∷ ts) h k = (
  one_passed w t (first_not (is_misspelt w t) (one_is is_misspelt ws ts) h) (first_not (is_no_value w t) (one_is is_no_value ws ts) k),
  all_passed ws ts (second_not (is_misspelt w t) (one_is is_misspelt ws ts) h) (second_not (is_no_value w t) (one_is is_no_value ws ts) k),
)

none_least : (a b c : Bool) → least a b c ≡ None → (b ≡ false) × (c ≡ false)
none_least false b c e = cc
none_least true true c e = cc
none_least true false true e = cc
none_least true false false e = (refl, refl)

pub none_passed : (ws : List Wanted) (ts : List Text) → fault_of ws ts ≡ None → AllPassed ws ts
none_passed ws ts e = let n = none_least (has_form ws ts) (one_is is_misspelt ws ts) (one_is is_no_value ws ts) e in all_passed ws ts n.0 n.1

-- the fields of a line that has no fault
pub line_passed : (ws : List Wanted) (t : Text) (ts : List Text) → AreFields (t ∷ ts) → fault_of ws (fields_in (fields (t ∷ ts))) ≡ None → AllPassed ws (t ∷ ts)
line_passed ws t ts f e = none_passed ws (t ∷ ts) (ap (fault_of ws) (sym (fields_told t ts f)) ∙ e)

-- ---- what they say

pub literal_near : (v : Datum) → IsTrue (is_value v) → IsTrue (is_literal any (literal v)) → IsTrue (is_near v)
literal_near v h p = go (value_of (literal v)) refl p
  where
    go : (o : Option Datum) → value_of (literal v) ≡ o → IsTrue (passes any o) → IsTrue (is_near v)
    go None e q = cc
    go (Some u) e q = let l = values_spelled (literal v) u e in subst (λ x. IsTrue (is_near x)) (whole_value u v l.range h l.spelled) l.depth

pub either_way : (a b : Bool) (P : Type 0) → (IsTrue a → P) → (IsTrue b → P) → IsTrue (a || b) → P
either_way true b P f g h = f refl
either_way false b P f g h = g h

none_some : (v : Datum) → ◌≡◌ {A = Option Datum} None (Some v) → ⊥
none_some v e = cc

content_passed : (o : Option Datum) → IsTrue (content_holds o) → IsTrue (same_text (content_text o) (codes "clear") || is_literal any (content_text o)) → IsTrue (content_near o)
content_passed None h p = refl
content_passed (Some v) h p =
    either_way (same_text (literal v) (codes "clear")) (is_literal any (literal v)) (IsTrue (is_near v))
    (λ s. absurd (none_some v (whole_content None (Some v) refl h (sym (same_texts (literal v) (codes "clear") s))))) (literal_near v h) p

other_set : (p : PrepositionPart) (n : ℕ) → p ≡ preposition_set n → (p ≡ no_preposition → ⊥) × (p ≡ any_preposition → ⊥)
other_set p n e = (λ d. cc, λ d. cc)

set_passed : (n : ℕ) → IsTrue (preposition_holds (preposition_set n))
    → IsTrue ((same_text (decimal n) (codes "none") || (same_text (decimal n) (codes "any") || false)) || plain.is_number 0 14 (decimal n)) → IsTrue (nat_le n 14)
set_passed n h p =
    either_way (same_text (decimal n) (codes "none") || (same_text (decimal n) (codes "any") || false)) (plain.is_number 0 14 (decimal n)) (IsTrue (nat_le n 14))
    (either_way (same_text (decimal n) (codes "none")) (same_text (decimal n) (codes "any") || false) (IsTrue (nat_le n 14))
    (λ s. absurd ((other_set (preposition_set n) n refl).0 (whole_preposition (preposition_set n) no_preposition h refl (same_texts (decimal n) (codes "none") s))))
    (either_way (same_text (decimal n) (codes "any")) false (IsTrue (nat_le n 14))
    (λ s. absurd ((other_set (preposition_set n) n refl).1 (whole_preposition (preposition_set n) any_preposition h refl (same_texts (decimal n) (codes "any") s))))
    (λ s. cc)))
    (λ s. second_holds (nat_le 0 n) (nat_le n 14) (sym (ap (passes (λ m. nat_le 0 m && nat_le m 14)) (numbers_told n (number_small n h))) ∙ s)) p

preposition_passed : (p : PrepositionPart) → IsTrue (preposition_holds p)
    → IsTrue (plain.is_one_of (codes "none" ∷ codes "any" ∷ []) (preposition_number p) || plain.is_number 0 14 (preposition_number p)) → IsTrue (preposition_near p)
preposition_passed no_preposition h p = refl
preposition_passed any_preposition h p = refl
preposition_passed (preposition_set n) h p = set_passed n h p

-- ---- lines

content_field : (o : Option Datum) → IsField (content_text o)
content_field None = unmarked (codes "clear") refl
content_field (Some v) = spelled v

pub slot_near : (s : Slot) → IsTrue (slot_holds s) → fault_of form.slot_form (fields_in (fields (codes "slot" ∷ object_text s.owner ∷ slot_bits s ∷ content_text s.content ∷ []))) ≡ None
    → IsTrue (content_near s.content)
slot_near s h e =
    let f : AreFields (codes "slot" ∷ object_text s.owner ∷ slot_bits s ∷ content_text s.content ∷ []) = (unmarked (codes "slot") refl, (unmarked (object_text s.owner) (signed_unmarked s.owner), ((slot_bits_suit s).field, (content_field s.content, tt)))) in
    let p = line_passed form.slot_form (codes "slot") (object_text s.owner ∷ slot_bits s ∷ content_text s.content ∷ []) f e in
    content_passed s.content (second_holds (in_number_range s.owner) (content_holds s.content) h) p.1.1.1.0

preposition_field : (p : PrepositionPart) → IsField (preposition_number p)
preposition_field no_preposition = unmarked (codes "none") refl
preposition_field any_preposition = unmarked (codes "any") refl
preposition_field (preposition_set n) = unmarked (decimal n) (decimal_unmarked n)

abbrev verb_fields : Verb → ℕ → List Text
verb_fields v n = literal (text v.names) ∷ object_text v.owner ∷ verb_bits v ∷ part_text v.direct ∷ preposition_number v.preposition ∷ part_text v.indirect ∷ decimal n ∷ []

pub verb_near : (v : Verb) (n : ℕ) → IsTrue (verb_holds v) → fault_of form.verb_form (fields_in (fields (codes "verb" ∷ verb_fields v n))) ≡ None → IsTrue (preposition_near v.preposition)
verb_near v n h e =
    let f : AreFields (codes "verb" ∷ verb_fields v n) = (
      unmarked (codes "verb") refl,
      (spelled (text v.names), (unmarked (object_text v.owner) (signed_unmarked v.owner), ((verb_bits_suit v).field, ((part_suits v.direct).field, (preposition_field v.preposition, ((part_suits v.indirect).field, (unmarked (decimal n) (decimal_unmarked n), tt))))))),
    ) in
    let p = line_passed form.verb_form (codes "verb") (verb_fields v n) f e in
    preposition_passed v.preposition (first_holds (preposition_holds v.preposition) _ (second_holds (in_number_range v.owner) _ (second_holds (is_text v.names) _ h))) p.1.1.1.1.1.0

pub variable_near : (e : Text × Datum) → IsTrue (is_value e.1) → fault_of form.variable_form (fields_in (fields (codes "var" ∷ literal (text e.0) ∷ literal e.1 ∷ []))) ≡ None → IsTrue (is_near e.1)
variable_near e h n =
    let f : AreFields (codes "var" ∷ literal (text e.0) ∷ literal e.1 ∷ []) = (unmarked (codes "var") refl, (spelled (text e.0), (spelled e.1, tt))) in
    let p = line_passed form.variable_form (codes "var") (literal (text e.0) ∷ literal e.1 ∷ []) f n in
    literal_near e.1 h p.1.1.0

pub held_near : (v : Datum) → IsTrue (is_value v) → fault_of form.held_form (fields_in (literal v)) ≡ None → IsTrue (is_near v)
held_near v h e =
    let f : AreFields (literal v ∷ []) = (spelled v, tt) in
    let p = line_passed form.held_form (literal v) [] f e in
    literal_near v h p.0
