-- What a reader tells of a line with one field behind its word.
use Rattle.std.proofs.Common.{◌≡◌, ◌||◌, ℤ, Bool, true, false, not, List, [], ◌∷◌, Result, Ok, Err, refl, ap, subst, ◌∙◌}
use Rattle.spec_value.specs.Datum.{Text}
use Rattle.spec_faults.specs.Cutting.{field_at}
use Rattle.spec_faults.specs.Forms.{word, other, value, is_other_word, one_is}
use Rattle.spec_faults.specs.Awaited.{Awaited, Verdict, goes_on}
use Rattle.checkpoint_lines.specs.declared.fault.DecodeError.{DecodeError}
use Rattle.checkpoint_lines.specs.declared.fault.FaultKind.TheVariants as kind
use Rattle.checkpoint_lines.specs.declared.row.Row.{Row}
use Rattle.checkpoint_lines.specs.declared.lines.Lines.{Lines}
use Rattle.checkpoint_lines.specs.Rows.{row_fields}
use Rattle.checkpoint_lines.specs.Told.{HasRoom, Tells, IsRow, IsNextRow, IsHeaded, Checks}
use Rattle.checkpoint_lines.proofs.Telling.{row_goes, row_faulty, all_meet, fails_misspelt, fails_value, in_places, listed, one_word, IsOne}

pub both_sides : (P : ℤ → ℤ → Type 0) {a b c d : ℤ} → a ≡ b → c ≡ d → P a c → P b d
both_sides P {a} {b} {c} {d} e f p = subst (λ x. P x d) e (subst (λ y. P a y) f p)

module _ {A : Type 0} (r : Row) (l m : Lines) (w : Text) (f : Text → Bool) (single : (t : Text) → f t ≡ true → IsOne t) (a : Awaited) (next : List Text → Verdict) (after : A → List Awaited)
    (there : HasRoom l → IsNextRow r l m × IsHeaded r w 1) where
  -- of a field that is no literal
  pub other_told : (res : Result A DecodeError) → IsRow a (λ _. word w ∷ other f ∷ []) next → Checks res r kind.Number (f (field_at (row_fields r) 1))
      → ((x : A) → res ≡ Ok x → next (in_places 2 0 (row_fields r)) ≡ goes_on (after x)) → Tells res l m (a ∷ []) after
  other_told (Ok x) row c goes = λ room.
      let n = there room in
      let ts : List Text = in_places 2 0 (row_fields r) in
      let is : row_fields r ≡ ts = listed 2 (row_fields r) n.1.many in
      let words : one_is is_other_word (word w ∷ other f ∷ []) ts ≡ false = one_word w (other f ∷ []) (field_at (row_fields r) 0) (field_at (row_fields r) 1 ∷ []) n.1.word refl in
      let met = all_meet r (word w ∷ other f ∷ []) ts is refl n.0.filled words (ap (λ b. not b || false) c) refl (single (field_at (row_fields r) 1) c) in
      row_goes l m r a (λ _. word w ∷ other f ∷ []) next (after x) n.0 row met.1 (ap next met.0 ∙ goes x refl)
  other_told (Err e) row c goes = λ room.
      let n = there room in
      let ts : List Text = in_places 2 0 (row_fields r) in
      let is : row_fields r ≡ ts = listed 2 (row_fields r) n.1.many in
      let words : one_is is_other_word (word w ∷ other f ∷ []) ts ≡ false = one_word w (other f ∷ []) (field_at (row_fields r) 0) (field_at (row_fields r) 1 ∷ []) n.1.word refl in
      row_faulty e l m r a (λ _. word w ∷ other f ∷ []) next n.0 row
      (fails_misspelt r (word w ∷ other f ∷ []) ts is refl n.0.filled words {A = A} (Err e) e (f (field_at (row_fields r) 1)) refl c (λ h. ap (λ b. not b || false) h))

  -- of a literal
  pub value_told : (res : Result A DecodeError) → IsRow a (λ _. word w ∷ value f ∷ []) next → Checks res r kind.Value (f (field_at (row_fields r) 1))
      → ((x : A) → res ≡ Ok x → next (in_places 2 0 (row_fields r)) ≡ goes_on (after x)) → Tells res l m (a ∷ []) after
  value_told (Ok x) row c goes = λ room.
      let n = there room in
      let ts : List Text = in_places 2 0 (row_fields r) in
      let is : row_fields r ≡ ts = listed 2 (row_fields r) n.1.many in
      let words : one_is is_other_word (word w ∷ value f ∷ []) ts ≡ false = one_word w (value f ∷ []) (field_at (row_fields r) 0) (field_at (row_fields r) 1 ∷ []) n.1.word refl in
      let met = all_meet r (word w ∷ value f ∷ []) ts is refl n.0.filled words refl (ap (λ b. not b || false) c) (single (field_at (row_fields r) 1) c) in
      row_goes l m r a (λ _. word w ∷ value f ∷ []) next (after x) n.0 row met.1 (ap next met.0 ∙ goes x refl)
  value_told (Err e) row c goes = λ room.
      let n = there room in
      let ts : List Text = in_places 2 0 (row_fields r) in
      let is : row_fields r ≡ ts = listed 2 (row_fields r) n.1.many in
      let words : one_is is_other_word (word w ∷ value f ∷ []) ts ≡ false = one_word w (value f ∷ []) (field_at (row_fields r) 0) (field_at (row_fields r) 1 ∷ []) n.1.word refl in
      row_faulty e l m r a (λ _. word w ∷ value f ∷ []) next n.0 row
      (fails_value r (word w ∷ value f ∷ []) ts is refl n.0.filled words {A = A} (Err e) e (f (field_at (row_fields r) 1)) refl c refl (λ h. ap (λ b. not b || false) h))
