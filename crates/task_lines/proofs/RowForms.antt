-- Rows that have a form, and the least of their faults.
use Rattle.std.proofs.Common.{◌≡◌, ℕ, zero, suc, ◌<◌, ◌==◌, ◌&&◌, ◌||◌, Bool, true, false, not, List, [], ◌∷◌, length, Option, Some, None, Result, Ok, Err, IsTrue, refl, ap, sym, subst, ◌∙◌, arith}
use Rattle.std.proofs.lemmas.Bool.{or_left, or_right}
use Rattle.std.proofs.lemmas.Bool.Decides.{nat_tests}
use Rattle.std.specs.List.{list_all}
use Rattle.spec_value.specs.Datum.{Text, same_text}
use Rattle.spec_value.proofs.Entries.{first_holds, second_holds, both_hold}
use Rattle.spec_value.proofs.Same.{same_texts, text_itself}
use Rattle.spec_world.specs.Checkpoint as fault
use Rattle.spec_world.specs.Checkpoint.{CheckpointFault}
use Rattle.spec_faults.specs.Cutting.{field_at, is_filled, fields_in, among}
use Rattle.spec_faults.specs.Forms.{Wanted, word, other, value, is_other_word, is_misspelt, is_no_value, one_is, has_form, least, fault_of, form_among}
use Rattle.spec_faults.specs.Awaited.{Awaited, Verdict, faulty, goes_on, by_fault, by_form}
use Rattle.checkpoint_lines.proofs.Telling.{some_field, in_places, listed}
use Rattle.checkpoint_lines.specs.Rows.{row_fields}
use Rattle.checkpoint_lines.specs.Told.{meant, line_fields, all_fields, is_cut, row_fault, Checks, IsRowFault, RowTells, IsNextRow}
use Rattle.checkpoint_lines.specs.declared.fault.DecodeError.{DecodeError}
use Rattle.checkpoint_lines.specs.declared.fault.DecodeError.TheVariants.{Line, Memory}
use Rattle.checkpoint_lines.specs.declared.fault.FaultKind.{FaultKind}
use Rattle.checkpoint_lines.specs.declared.fault.FaultKind.TheVariants as kind
use Rattle.checkpoint_lines.specs.declared.row.Row.{Row}
use Rattle.checkpoint_lines.specs.declared.lines.Lines.{Lines}
use Rattle.task_lines.specs.Verdicts.{IsWhole, VerdictTells}
use Rattle.task_lines.proofs.Telling.{whole_is, whole_fault, form_length}

-- ---- a row that was read is whole

fields_there : (t : Text) → fields_in t ≡ [] → ⊥
fields_there t e = let some = some_field (among 0) t in let none = ap length e in omega (arith, some, none)

pub is_whole : (r : Row) (l m : Lines) → IsNextRow r l m → IsTrue (is_cut (row_fields r)) → IsWhole r
is_whole r l m n cut = record { filled = n.filled; cut = cut; some = λ e. fields_there n.line (sym n.fields ∙ ap all_fields e) }

-- ---- one field, or none

abbrev pub wanted_at : List Wanted → ℕ → Wanted
wanted_at [] n = word []
wanted_at (w ∷ ws) zero = w
wanted_at (w ∷ ws) (suc n) = wanted_at ws n

module _ (so : Wanted → Text → Bool) where
  pub one_at : (ws : List Wanted) (ts : List Text) (n : ℕ) → length ts ≡ length ws → n < length ws → so (wanted_at ws n) (field_at ts n) ≡ true → one_is so ws ts ≡ true
  one_at [] ts n e l h = absurd (omega (arith, l))
  one_at (w ∷ ws) [] n e l h = absurd (omega (arith, e))
  one_at (w ∷ ws) (t ∷ ts) zero e l h = or_left (so w t) (one_is so ws ts) h
  one_at (w ∷ ws) (t ∷ ts) (suc n) e l h = or_right (so w t) (one_is so ws ts) (one_at ws ts n (omega (arith, e)) (omega (arith, l)) h)

  abbrev pub Passed : List Wanted → List Text → Type 0
  Passed (w ∷ ws) (t ∷ ts) = (so w t ≡ false) × Passed ws ts
  Passed _ _ = Unit {0}

  none_passed : (ws : List Wanted) (ts : List Text) → Passed ws ts → one_is so ws ts ≡ false
  none_passed [] ts h = refl
  none_passed (w ∷ ws) [] h = refl
  none_passed (w ∷ ws) (t ∷ ts) h = ap (λ b. b || one_is so ws ts) h.0 ∙ none_passed ws ts h.1

  pub none_of : (ws : List Wanted) (n : ℕ) (ts : List Text) → length ts ≡ n → Passed ws (in_places n 0 ts) → one_is so ws ts ≡ false
  none_of ws n ts e h = ap (one_is so ws) (listed n ts e) ∙ none_passed ws (in_places n 0 ts) h

-- ---- whether it has the form

other_word : (ws : List Wanted) (ts : List Text) → one_is is_other_word ws ts ≡ true → has_form ws ts ≡ false
other_word ws ts h = go (length ts == length ws) (list_all is_filled ts) h
  where
    go : (a b : Bool) → one_is is_other_word ws ts ≡ true → (a && (b && not (one_is is_other_word ws ts))) ≡ false
    go true true e = ap not e
    go true false e = refl
    go false b e = refl

-- it has another word there
pub no_form_at : (ws : List Wanted) (ts : List Text) (n : ℕ) → n < length ws → is_other_word (wanted_at ws n) (field_at ts n) ≡ true → has_form ws ts ≡ false
no_form_at ws ts n l h = go (length ts == length ws) refl
  where
    same : (length ts == length ws) ≡ true → length ts ≡ length ws
    same e = grind (arith, nat_tests)

    go : (b : Bool) → (length ts == length ws) ≡ b → has_form ws ts ≡ false
    go true e = other_word ws ts (one_at is_other_word ws ts n (same e) l h)
    go false e = ap (λ b. b && (list_all is_filled ts && not (one_is is_other_word ws ts))) e

pub no_form_long : (ws : List Wanted) (ts : List Text) → (length ts == length ws) ≡ false → has_form ws ts ≡ false
no_form_long ws ts e = ap (λ b. b && (list_all is_filled ts && not (one_is is_other_word ws ts))) e

pub form_is : (ws : List Wanted) (ts : List Text) → (length ts == length ws) ≡ true → IsTrue (list_all is_filled ts) → one_is is_other_word ws ts ≡ false → has_form ws ts ≡ true
form_is ws ts e f h =
    both_hold (length ts == length ws) (list_all is_filled ts && not (one_is is_other_word ws ts)) e
    (both_hold (list_all is_filled ts) (not (one_is is_other_word ws ts)) f (ap not h))

word_turned : (t w : Text) → same_text t w ≡ true → same_text w t ≡ true
word_turned t w h = subst (λ u. same_text w u ≡ true) (sym (same_texts t w h)) (text_itself w)

pub no_word_turned : (t w : Text) → same_text t w ≡ false → not (same_text w t) ≡ true
no_word_turned t w h = go (same_text w t) refl
  where
    go : (b : Bool) → same_text w t ≡ b → not b ≡ true
    go true e = let turned = word_turned w t e in absurd (cc (turned, h))
    go false e = refl

pub no_form : (ts : List Text) → (ts ≡ [] → ⊥) → fault_of [] ts ≡ Some fault.line
no_form [] h = absurd (h refl)
no_form (t ∷ ts) h = ap (λ b. least b false false) (no_form_long [] (t ∷ ts) (longer (length ts)))
  where
    longer : (n : ℕ) → (suc n == 0) ≡ false
    longer n = grind (arith, nat_tests)

-- ---- the least fault of a whole row

module _ (r : Row) (ws : List Wanted) (w : IsWhole r) where
  fault_is : (h : has_form ws (row_fields r) ≡ true) (a b : Bool) → one_is is_misspelt ws (row_fields r) ≡ a → one_is is_no_value ws (row_fields r) ≡ b → fault_of ws (line_fields r) ≡ least true a b
  fault_is h a b e f = ap (fault_of ws) (whole_is r w) ∙ (λ i. least (h i) (e i) (f i))

  pub whole_none : has_form ws (row_fields r) ≡ true → one_is is_misspelt ws (row_fields r) ≡ false → one_is is_no_value ws (row_fields r) ≡ false → fault_of ws (line_fields r) ≡ None
  whole_none h e f = fault_is h false false e f

  whole_misspelt : has_form ws (row_fields r) ≡ true → one_is is_misspelt ws (row_fields r) ≡ true → fault_of ws (line_fields r) ≡ Some fault.number
  whole_misspelt h e = fault_is h true (one_is is_no_value ws (row_fields r)) e refl

  whole_no_value : has_form ws (row_fields r) ≡ true → one_is is_misspelt ws (row_fields r) ≡ false → one_is is_no_value ws (row_fields r) ≡ true → fault_of ws (line_fields r) ≡ Some fault.value
  whole_no_value h e f = fault_is h false true e f

  row_faulty : (k : FaultKind) (e : DecodeError) → e ≡ row_fault r k → fault_of ws (line_fields r) ≡ Some (meant k) → IsRowFault e r (fault_of ws (line_fields r))
  row_faulty k e is f = subst (λ d. IsRowFault d r (fault_of ws (line_fields r))) (sym (is ∙ whole_fault r k w)) (refl, f)

  module _ {X : Type 0} where
    -- a field that is no literal
    pub number_fault : (res : Result X DecodeError) (e : DecodeError) (test : Bool) → res ≡ Err e → Checks res r kind.Number test → has_form ws (row_fields r) ≡ true → (test ≡ false → one_is is_misspelt ws (row_fields r) ≡ true)
        → IsRowFault e r (fault_of ws (line_fields r))
    number_fault res e test was t h m = go e (subst (λ s. Checks s r kind.Number test) was t)
      where
        go : (e : DecodeError) → Checks {A = X} (Err e) r kind.Number test → IsRowFault e r (fault_of ws (line_fields r))
        go (Line n k) c = row_faulty kind.Number (Line n k) c.1 (whole_misspelt h (m c.0))
        go (Memory a) c = tt

    -- a literal
    pub value_fault : (res : Result X DecodeError) (e : DecodeError) (test : Bool) → res ≡ Err e → Checks res r kind.Value test → has_form ws (row_fields r) ≡ true → one_is is_misspelt ws (row_fields r) ≡ false
        → (test ≡ false → one_is is_no_value ws (row_fields r) ≡ true) → IsRowFault e r (fault_of ws (line_fields r))
    value_fault res e test was t h s m = go e (subst (λ q. Checks q r kind.Value test) was t)
      where
        go : (e : DecodeError) → Checks {A = X} (Err e) r kind.Value test → IsRowFault e r (fault_of ws (line_fields r))
        go (Line n k) c = row_faulty kind.Value (Line n k) c.1 (whole_no_value h s (m c.0))
        go (Memory a) c = tt

    -- the last test of a row
    pub last_number : (res : Result X DecodeError) (test : Bool) → Checks res r kind.Number test → has_form ws (row_fields r) ≡ true → (test ≡ false → one_is is_misspelt ws (row_fields r) ≡ true)
        → (test ≡ true → one_is is_misspelt ws (row_fields r) ≡ false) → one_is is_no_value ws (row_fields r) ≡ false → RowTells res r ws
    last_number (Ok x) test t h m n v = whole_none h (n t) v
    last_number (Err e) test t h m n v = number_fault (Err e) e test refl t h m

module _ {A : Type 0} where
  pub row_passed : (res : Result A DecodeError) (y e : DecodeError) (r : Row) (ws : List Wanted) → res ≡ Err y → y ≡ e → IsRowFault e r (fault_of ws (line_fields r)) → RowTells res r ws
  row_passed res y e r ws is same f = subst (λ s. RowTells s r ws) (sym (is ∙ ap (λ d. Err d) same)) f

  verdict_faulty : (e : DecodeError) (r : Row) (ws : List Wanted) (next : List Text → Verdict) (after : A → List Awaited) → IsRowFault e r (fault_of ws (line_fields r)) → VerdictTells (Err e) r (by_form ws (line_fields r) next) after
  verdict_faulty (Line n k) r ws next after f = (f.0, ap (λ o. by_fault o (line_fields r) next) f.1)
  verdict_faulty (Memory e) r ws next after f = tt

  pub verdict_row : (res : Result A DecodeError) (y e : DecodeError) (r : Row) (ws : List Wanted) (next : List Text → Verdict) (after : A → List Awaited) → res ≡ Err y → y ≡ e → IsRowFault e r (fault_of ws (line_fields r))
      → VerdictTells res r (by_form ws (line_fields r) next) after
  verdict_row res y e r ws next after is same f = subst (λ s. VerdictTells s r (by_form ws (line_fields r) next) after) (sym (is ∙ ap (λ d. Err d) same)) (verdict_faulty e r ws next after f)

  -- where it has no fault of its fields
  pub verdict_next : (res : Result A DecodeError) (r : Row) (ws : List Wanted) (next : List Text → Verdict) (after : A → List Awaited) → fault_of ws (line_fields r) ≡ None → VerdictTells res r (next (line_fields r)) after
      → VerdictTells res r (by_form ws (line_fields r) next) after
  verdict_next res r ws next after f v = subst (λ o. VerdictTells res r (by_fault o (line_fields r) next) after) (sym f) v

-- ---- one form among others

module _ (r : Row) (w : IsWhole r) (forms : List (List Wanted)) where
  pub form_there : (ws : List Wanted) → form_among forms (row_fields r) ≡ ws → form_among forms (line_fields r) ≡ ws
  form_there ws e = ap (form_among forms) (whole_is r w) ∙ e

  -- it has none of them
  pub formless : (e : DecodeError) → form_among forms (row_fields r) ≡ [] → e ≡ row_fault r kind.Line → IsRowFault e r (fault_of (form_among forms (line_fields r)) (line_fields r))
  formless e none is =
      subst (λ d. IsRowFault d r (fault_of (form_among forms (line_fields r)) (line_fields r))) (sym (is ∙ whole_fault r kind.Line w))
      (refl, ap (λ ws. fault_of ws (line_fields r)) (form_there [] none) ∙ no_form (line_fields r) (λ h. w.some (sym (whole_is r w) ∙ h)))

  pub fault_there : (ws : List Wanted) (e : DecodeError) → form_among forms (row_fields r) ≡ ws → IsRowFault e r (fault_of ws (line_fields r)) → IsRowFault e r (fault_of (form_among forms (line_fields r)) (line_fields r))
  fault_there ws e is f = subst (λ us. IsRowFault e r (fault_of us (line_fields r))) (sym (form_there ws is)) f

  pub none_there : (ws : List Wanted) → form_among forms (row_fields r) ≡ ws → fault_of ws (line_fields r) ≡ None → fault_of (form_among forms (line_fields r)) (line_fields r) ≡ None
  none_there ws is f = ap (λ us. fault_of us (line_fields r)) (form_there ws is) ∙ f

pub told_fault : {A : Type 0} (res : Result A DecodeError) (e : DecodeError) (r : Row) (ws : List Wanted) → res ≡ Err e → RowTells res r ws → IsRowFault e r (fault_of ws (line_fields r))
told_fault res e r ws was t = subst (λ s. RowTells s r ws) was t

pub told_none : {A : Type 0} (res : Result A DecodeError) (x : A) (r : Row) (ws : List Wanted) → res ≡ Ok x → RowTells res r ws → fault_of ws (line_fields r) ≡ None
told_none res x r ws was t = subst (λ s. RowTells s r ws) was t
