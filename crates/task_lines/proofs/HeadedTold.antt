-- What lines with a word in front tell: a variable's, and that of what a command line gave.
use Rattle.std.proofs.Common.{◌≡◌, Bool, true, false, not, ◌||◌, List, [], ◌∷◌, length, Option, Some, None, Result, Ok, Err, refl, ap, sym, subst, ◌∙◌, codes, arith}
use Rattle.spec_value.specs.Datum.{Text, Datum}
use Rattle.spec_faults.specs.Cutting.{field_at}
use Rattle.spec_faults.specs.Plain.{passes}
use Rattle.spec_faults.specs.Literals.{value_of, is_literal, any, is_string, is_start}
use Rattle.spec_faults.specs.Forms.{Wanted, word, string, literal, value, is_misspelt, is_no_value, is_other_word, one_is, fault_of, variable_form, start_form}
use Rattle.spec_faults.specs.Awaited.{Awaited, one, goes_on}
use Rattle.checkpoint_lines.specs.Rows.{row_fields}
use Rattle.checkpoint_lines.specs.Told.{GoesOn, TellsFault, line_fields, row_fault, IsRow, IsNextRow, IsHeaded, IsRowFault, Checks}
use Rattle.checkpoint_lines.specs.declared.fault.DecodeError.{DecodeError}
use Rattle.checkpoint_lines.specs.declared.fault.FaultKind.TheVariants as kind
use Rattle.checkpoint_lines.specs.declared.row.Row.{Row}
use Rattle.checkpoint_lines.specs.declared.lines.Lines.{Lines}
use Rattle.checkpoint_lines.proofs.Telling.{in_places, listed, one_word, literal_one, all_meet, no_value, fails_value, row_goes, row_faulty}
use Rattle.task_lines.proofs.RowForms.{one_at}

pub form_is_row : (ws : List Wanted) → IsRow (one ws) (λ _. ws) (λ _. goes_on [])
form_is_row ws = record { told = λ t. refl; first = λ more. refl }

-- ---- a variable

module _ (r : Row) (l m : Lines) (n : IsNextRow r l m) (head : IsHeaded r (codes "var") 2) where
  abbrev variable_fields : List Text
  variable_fields = in_places 3 0 (row_fields r)

  variable_words : one_is is_other_word variable_form variable_fields ≡ false
  variable_words = one_word (codes "var") (string ∷ literal ∷ []) (field_at (row_fields r) 0) (field_at (row_fields r) 1 ∷ field_at (row_fields r) 2 ∷ []) head.word refl

  variable_faulty : (e : DecodeError) → IsRowFault e r (fault_of variable_form (line_fields r)) → TellsFault e l (one variable_form ∷ [])
  variable_faulty e f = row_faulty e l m r (one variable_form) (λ _. variable_form) (λ _. goes_on []) n (form_is_row variable_form) f

  module _ {A : Type 0} where
    pub name_fails : (res : Result A DecodeError) (e : DecodeError) → res ≡ Err e → Checks res r kind.Value (is_literal is_string (field_at (row_fields r) 1)) → TellsFault e l (one variable_form ∷ [])
    name_fails res e was c =
        variable_faulty e
        (fails_value r variable_form variable_fields (listed 3 (row_fields r) head.many) refl n.filled variable_words res e (is_literal is_string (field_at (row_fields r) 1)) was c refl
        (λ f. one_at is_no_value variable_form variable_fields 1 refl (omega arith) (ap not f)))

    pub value_fails : (res : Result A DecodeError) (e : DecodeError) → res ≡ Err e → Checks res r kind.Value (is_literal any (field_at (row_fields r) 2)) → TellsFault e l (one variable_form ∷ [])
    value_fails res e was c =
        variable_faulty e
        (fails_value r variable_form variable_fields (listed 3 (row_fields r) head.many) refl n.filled variable_words res e (is_literal any (field_at (row_fields r) 2)) was c refl
        (λ f. one_at is_no_value variable_form variable_fields 2 refl (omega arith) (ap not f)))

  pub variable_goes : is_literal is_string (field_at (row_fields r) 1) ≡ true → is_literal any (field_at (row_fields r) 2) ≡ true → GoesOn l m (one variable_form ∷ []) []
  variable_goes name content =
      let values : one_is is_no_value variable_form variable_fields ≡ false = (λ i. not (name i) || (not (content i) || false)) in
      let all = all_meet r variable_form variable_fields (listed 3 (row_fields r) head.many) refl n.filled variable_words refl values (literal_one any (field_at (row_fields r) 2) content) in
      row_goes l m r (one variable_form) (λ _. variable_form) (λ _. goes_on []) [] n (form_is_row variable_form) all.1 refl

-- ---- what a command line gave

none_starts : (o : Option Datum) → passes any o ≡ false → passes is_start o ≡ false
none_starts None h = refl
none_starts (Some u) h = cc

module _ (r : Row) (l m : Lines) (n : IsNextRow r l m) (head : IsHeaded r (codes "start") 1) where
  abbrev start_fields : List Text
  start_fields = in_places 2 0 (row_fields r)

  start_words : one_is is_other_word start_form start_fields ≡ false
  start_words = one_word (codes "start") (value (is_literal is_start) ∷ []) (field_at (row_fields r) 0) (field_at (row_fields r) 1 ∷ []) head.word refl

  start_no_value : is_literal is_start (field_at (row_fields r) 1) ≡ false → one_is is_no_value start_form start_fields ≡ true
  start_no_value f = one_at is_no_value start_form start_fields 1 refl (omega arith) (ap not f)

  start_faulty : (e : DecodeError) → IsRowFault e r (fault_of start_form (line_fields r)) → TellsFault e l (one start_form ∷ [])
  start_faulty e f = row_faulty e l m r (one start_form) (λ _. start_form) (λ _. goes_on []) n (form_is_row start_form) f

  -- no value stands there
  pub start_fails : {A : Type 0} (res : Result A DecodeError) (e : DecodeError) → res ≡ Err e → Checks res r kind.Value (is_literal any (field_at (row_fields r) 1)) → TellsFault e l (one start_form ∷ [])
  start_fails res e was c =
      start_faulty e
      (fails_value r start_form start_fields (listed 2 (row_fields r) head.many) refl n.filled start_words res e (is_literal any (field_at (row_fields r) 1)) was c refl
      (λ f. start_no_value (none_starts (value_of (field_at (row_fields r) 1)) f)))

  -- another value does
  pub no_start : (v : Datum) → value_of (field_at (row_fields r) 1) ≡ Some v → is_start v ≡ false → TellsFault (row_fault r kind.Value) l (one start_form ∷ [])
  no_start v e h =
      start_faulty (row_fault r kind.Value)
      (no_value r start_form start_fields (listed 2 (row_fields r) head.many) refl n.filled start_words refl (start_no_value (ap (passes is_start) e ∙ h)))

  pub start_goes : (v : Datum) → value_of (field_at (row_fields r) 1) ≡ Some v → is_start v ≡ true → GoesOn l m (one start_form ∷ []) []
  start_goes v e h =
      let is : is_literal is_start (field_at (row_fields r) 1) ≡ true = ap (passes is_start) e ∙ h in
      let all = all_meet r start_form start_fields (listed 2 (row_fields r) head.many) refl n.filled start_words refl (λ i. not (is i) || false) (literal_one is_start (field_at (row_fields r) 1) is) in
      row_goes l m r (one start_form) (λ _. start_form) (λ _. goes_on []) [] n (form_is_row start_form) all.1 refl
