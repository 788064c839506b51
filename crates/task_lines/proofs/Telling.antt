-- What readers tell, one behind another, and what a row tells.
use Rattle.std.proofs.Common.{◌≡◌, ℕ, zero, suc, ◌+◌, ◌-◌, ◌==◌, ◌&&◌, ◌||◌, Bool, true, false, not, if◌then◌else◌, List, [], ◌∷◌, ◌++◌, length, Option, Some, None, Result, Ok, Err, alloc_error, IsTrue, refl, ap, sym, subst, ◌∙◌, append_assoc, arith}
use Rattle.std.proofs.lemmas.Bool.Decides.{nat_tests}
use Rattle.std.specs.List.{list_all}
use Rattle.spec_value.specs.Datum.{Text}
use Rattle.spec_value.proofs.Entries.{first_holds, second_holds, both_hold}
use Rattle.spec_world.specs.Checkpoint.{fields, CheckpointFault}
use Rattle.spec_faults.specs.Cutting.{fields_in, field_at, is_filled, lines_of}
use Rattle.spec_faults.specs.Forms.{Wanted, word, other, value, is_other_word, is_misspelt, is_no_value, one_is, has_form, least, fault_of}
use Rattle.spec_faults.specs.Awaited.{Awaited, Verdict, faulty, goes_on, by_fault, by_form, told, opened}
use Rattle.spec_faults.specs.Faults.{fault_at, behind_line, at_line, at_last, fault_among}
use Rattle.spec_faults.proofs.FieldsBack.{fields_spelled}
use Rattle.checkpoint_lines.proofs.Telling.{goes_then, fault_then, row_told, line_goes, line_faulty, cut_fields}
use Rattle.checkpoint_lines.specs.Rows.{row_fields}
use Rattle.checkpoint_lines.specs.Told.{meant, IsFault, fault_left, lines_in, HasRoom, GoesOn, TellsFault, Tells, all_fields, line_fields, is_cut, row_fault, IsRow, IsNextRow, IsRowFault, RowTells}
use Rattle.checkpoint_lines.specs.declared.fault.DecodeError.{DecodeError}
use Rattle.checkpoint_lines.specs.declared.fault.DecodeError.TheVariants.{Line, Memory}
use Rattle.checkpoint_lines.specs.declared.fault.FaultKind.{FaultKind}
use Rattle.checkpoint_lines.specs.declared.fault.FaultKind.TheVariants as kind
use Rattle.checkpoint_lines.specs.declared.row.Row.{Row}
use Rattle.checkpoint_lines.specs.declared.lines.Lines.{Lines}
use Rattle.task_lines.specs.Verdicts.{IsWhole, VerdictTells}

-- ---- one behind another

module _ {A : Type 0} where
  -- nothing is read between them
  pub tells_then : (res : Result A DecodeError) (l m k : Lines) (now next : List Awaited) (after : A → List Awaited) → (HasRoom l → GoesOn l m now next) → Tells res m k next after → Tells res l k now after
  tells_then (Ok x) l m k now next after g t = λ room. let on = g room in goes_then l m k now next (after x) on (t on.room)
  tells_then (Err e) l m k now next after g t = λ room. let on = g room in fault_then e l m now next on (t on.room)

  pub tells_behind : (res : Result A DecodeError) (l m : Lines) (now more : List Awaited) (after : A → List Awaited) → Tells res l m now after → Tells res l m (now ++ more) (λ x. after x ++ more)
  tells_behind (Ok x) l m now more after t = λ room.
      let on = t room in
      record {
        fault = λ us. ap (fault_left l) (append_assoc now more us) ∙ on.fault (more ++ us) ∙ ap (fault_left m) (sym (append_assoc (after x) more us));
        lines = on.lines;
        room = on.room;
      }
  tells_behind (Err e) l m now more after t = λ room us. subst (λ bs. IsFault e (fault_left l bs)) (sym (append_assoc now more us)) (t room (more ++ us))

  -- a fault that is passed on
  pub tells_passed : (res : Result A DecodeError) (y e : DecodeError) (l m : Lines) (now : List Awaited) (after : A → List Awaited) → res ≡ Err y → y ≡ e → (HasRoom l → TellsFault e l now) → Tells res l m now after
  tells_passed res y e l m now after is same t =
      subst (λ r. Tells r l m now after) (sym (is ∙ ap (λ d. Err d) same)) t

  pub tells_memory : (res : Result A DecodeError) (y : DecodeError) (l m : Lines) (now : List Awaited) (after : A → List Awaited) → res ≡ Err y → y ≡ Memory alloc_error → Tells res l m now after
  tells_memory res y l m now after is same = tells_passed res y (Memory alloc_error) l m now after is same (λ room more. tt)

-- what is awaited alike is told alike
same_left : (l : Lines) (A B : List Awaited) → opened A ≡ opened B → fault_left l A ≡ fault_left l B
same_left l A B e = go (lines_of l.left.now).lines
  where
    go : (ts : List Text) → fault_among ts (lines_of l.left.now).rest (suc l.count) A ≡ fault_among ts (lines_of l.left.now).rest (suc l.count) B
    go [] = ap (λ o. at_last o (lines_of l.left.now).rest (suc l.count)) e
    go (t ∷ ts) = ap (λ o. at_line o t (suc l.count) (λ more. fault_among ts (lines_of l.left.now).rest (suc (suc l.count)) more)) e

pub goes_alike : (l : Lines) (A B : List Awaited) → ((more : List Awaited) → opened (A ++ more) ≡ opened (B ++ more)) → HasRoom l → GoesOn l l A B
goes_alike l A B e room = record { fault = λ more. same_left l (A ++ more) (B ++ more) (e more); lines = refl; room = room }

-- ---- a row

module _ {A : Type 0} where
  pub verdict_tells : (res : Result A DecodeError) (l m : Lines) (r : Row) (a : Awaited) (form : List Text → List Wanted) (next : List Text → Verdict) (after : A → List Awaited)
      → IsNextRow r l m → IsRow a form next → VerdictTells res r (by_form (form (line_fields r)) (line_fields r) next) after → Tells res l m (a ∷ []) after
  verdict_tells (Ok x) l m r a form next after n is v = λ room. line_goes l m n.line a (after x) n.next is.first (row_told l m r a form next n is ∙ v)
  verdict_tells (Err (Line i k)) l m r a form next after n is v = λ room.
      subst (λ j. TellsFault (Line j k) l (a ∷ [])) (sym (v.0 ∙ n.number)) (line_faulty l m n.line a k n.next is.first (row_told l m r a form next n is ∙ v.1))
  verdict_tells (Err (Memory e)) l m r a form next after n is v = λ room more. tt

  -- where nothing is told of what comes
  pub row_verdict : (res : Result A DecodeError) (r : Row) (ws : List Wanted) (next : List Text → Verdict) (after : A → List Awaited) → RowTells res r ws → ((x : A) → res ≡ Ok x → next (line_fields r) ≡ goes_on (after x))
      → VerdictTells res r (by_form ws (line_fields r) next) after
  row_verdict (Ok x) r ws next after t h = ap (λ o. by_fault o (line_fields r) next) t ∙ h x refl
  row_verdict (Err (Line n k)) r ws next after t h = (t.0, ap (λ o. by_fault o (line_fields r) next) t.1)
  row_verdict (Err (Memory e)) r ws next after t h = tt

  pub verdict_passed : (res : Result A DecodeError) (y : DecodeError) (n : ℕ) (k : FaultKind) (r : Row) (v : Verdict) (after : A → List Awaited) → res ≡ Err y → y ≡ Line n k → n ≡ r.line → v ≡ faulty 0 (meant k)
      → VerdictTells res r v after
  verdict_passed res y n k r v after is same line f = subst (λ s. VerdictTells s r v after) (sym (is ∙ ap (λ d. Err d) same)) (line, f)

-- ---- a whole row

pub whole_is : (r : Row) → IsWhole r → line_fields r ≡ row_fields r
whole_is r h = cut_fields (row_fields r) h.cut

pub whole_fault : (r : Row) (k : FaultKind) → IsWhole r → row_fault r k ≡ Line r.line k
whole_fault r k h = go (is_cut (row_fields r)) h.cut
  where
    go : (b : Bool) → IsTrue b → Line r.line (if b then k else kind.Line) ≡ Line r.line k
    go true e = refl
    go false e = cc

pub form_length : (ws : List Wanted) (ts : List Text) → has_form ws ts ≡ true → length ts ≡ length ws
form_length ws ts h = same (first_holds (length ts == length ws) (list_all is_filled ts && not (one_is is_other_word ws ts)) h)
  where
    same : (length ts == length ws) ≡ true → length ts ≡ length ws
    same e = grind (arith, nat_tests)
