-- Fields of which each is what is wanted have no fault.
use Rattle.std.proofs.Common.{◌≡◌, suc, ◌==◌, ◌&&◌, ◌||◌, Bool, true, false, not, List, [], ◌∷◌, length, None, IsTrue, refl, ap, ◌∙◌, eq-eqb}
use Rattle.std.specs.List.{list_all}
use Rattle.spec_value.specs.Datum.{Text, same_text}
use Rattle.spec_value.proofs.Entries.{both_hold}
use Rattle.spec_world.specs.Checkpoint.{fields}
use Rattle.spec_faults.specs.Cutting.{fields_in, is_filled}
use Rattle.spec_faults.specs.Forms.{Wanted, word, other, value, is_other_word, is_misspelt, is_no_value, one_is, has_form, least, fault_of}
use Rattle.spec_faults.specs.Awaited.{Verdict, goes_on, by_fault, by_form, told, one}
use Rattle.spec_faults.specs.FieldLaws.{IsField, AreFields}
use Rattle.spec_faults.proofs.FieldsBack.{fields_told}

abbrev pub Meets : Wanted → Text → Type 0
Meets (word w) t = IsTrue (same_text w t)
Meets (other test) t = IsTrue (test t)
Meets (value test) t = IsTrue (test t)

pub record Suits (w : Wanted) (t : Text) : Type 0 where
  pub field : IsField t
  pub filled : IsTrue (is_filled t)
  pub meets : Meets w t

abbrev pub AllSuit : List Wanted → List Text → Type 0
AllSuit [] [] = Unit {0}
AllSuit (w ∷ ws) (t ∷ ts) = Suits w t × AllSuit ws ts
AllSuit _ _ = ⊥

pub are_fields : (ws : List Wanted) (ts : List Text) → AllSuit ws ts → AreFields ts
are_fields [] [] s = tt
are_fields [] (t ∷ ts) s = absurd s
are_fields (w ∷ ws) [] s = absurd s
are_fields (w ∷ ws) (t ∷ ts) s = (s.0.field, are_fields ws ts s.1)

same_length : (ws : List Wanted) (ts : List Text) → AllSuit ws ts → length ts ≡ length ws
same_length [] [] s = refl
same_length [] (t ∷ ts) s = absurd s
same_length (w ∷ ws) [] s = absurd s
same_length (w ∷ ws) (t ∷ ts) s = ap suc (same_length ws ts s.1)

all_filled : (ws : List Wanted) (ts : List Text) → AllSuit ws ts → IsTrue (list_all is_filled ts)
all_filled [] [] s = refl
all_filled [] (t ∷ ts) s = absurd s
all_filled (w ∷ ws) [] s = absurd s
all_filled (w ∷ ws) (t ∷ ts) s = both_hold (is_filled t) (list_all is_filled ts) s.0.filled (all_filled ws ts s.1)

not_true : (b : Bool) → IsTrue b → not b ≡ false
not_true true h = refl
not_true false h = cc

no_other_word : (w : Wanted) (t : Text) → Meets w t → is_other_word w t ≡ false
no_other_word (word u) t m = not_true (same_text u t) m
no_other_word (other test) t m = refl
no_other_word (value test) t m = refl

not_misspelt : (w : Wanted) (t : Text) → Meets w t → is_misspelt w t ≡ false
not_misspelt (word u) t m = refl
not_misspelt (other test) t m = not_true (test t) m
not_misspelt (value test) t m = refl

some_value : (w : Wanted) (t : Text) → Meets w t → is_no_value w t ≡ false
some_value (word u) t m = refl
some_value (other test) t m = refl
some_value (value test) t m = not_true (test t) m

module _ (so : Wanted → Text → Bool) (never : (w : Wanted) (t : Text) → Meets w t → so w t ≡ false) where
  none_is : (ws : List Wanted) (ts : List Text) → AllSuit ws ts → one_is so ws ts ≡ false
  none_is [] [] s = refl
  none_is [] (t ∷ ts) s = absurd s
  none_is (w ∷ ws) [] s = absurd s
  none_is (w ∷ ws) (t ∷ ts) s = ap (λ b. b || one_is so ws ts) (never w t s.0.meets) ∙ none_is ws ts s.1

pub form_had : (ws : List Wanted) (ts : List Text) → AllSuit ws ts → IsTrue (has_form ws ts)
form_had ws ts s =
    both_hold (length ts == length ws) (list_all is_filled ts && not (one_is is_other_word ws ts)) (eq-eqb (length ts) (length ws) (same_length ws ts s))
    (both_hold (list_all is_filled ts) (not (one_is is_other_word ws ts)) (all_filled ws ts s) (ap not (none_is is_other_word no_other_word ws ts s)))

pub no_fault : (ws : List Wanted) (ts : List Text) → AllSuit ws ts → fault_of ws ts ≡ None
no_fault ws ts s =
    ap (λ b. least b (one_is is_misspelt ws ts) (one_is is_no_value ws ts)) (form_had ws ts s)
    ∙ ap (λ b. least true b (one_is is_no_value ws ts)) (none_is is_misspelt not_misspelt ws ts s)
    ∙ ap (λ b. least true false b) (none_is is_no_value some_value ws ts s)

-- the fields of a line of such fields
pub fields_back : (ws : List Wanted) (t : Text) (ts : List Text) → AllSuit ws (t ∷ ts) → fields_in (fields (t ∷ ts)) ≡ t ∷ ts
fields_back ws t ts s = fields_told t ts (are_fields ws (t ∷ ts) s)

pub form_told : (ws : List Wanted) (t : Text) (ts : List Text) (next : List Text → Verdict) → AllSuit ws (t ∷ ts)
    → by_form ws (fields_in (fields (t ∷ ts))) next ≡ next (t ∷ ts)
form_told ws t ts next s =
    ap (λ us. by_form ws us next) (fields_back ws t ts s) ∙ ap (λ o. by_fault o (t ∷ ts) next) (no_fault ws (t ∷ ts) s)

pub one_told : (ws : List Wanted) (t : Text) (ts : List Text) → AllSuit ws (t ∷ ts) → told (one ws) (fields (t ∷ ts)) ≡ goes_on []
one_told ws t ts s = form_told ws t ts (λ us. goes_on []) s
