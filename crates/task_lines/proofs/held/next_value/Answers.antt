use Rattle.std.proofs.Common.{◌≡◌, suc, [], ◌∷◌, true, length, IfOk, IsTrue, refl, ap, sym, subst, ◌∙◌}
use Rattle.std.specs.Prelude.{option_map}
use Rattle.std.proofs.lemmas.Result.{err_from_is_err_and}
use Rattle.spec_value.specs.Datum.{is_value}
use Rattle.spec_value.proofs.Entries.{first_holds, both_hold}
use Rattle.held_values.specs.Wanted.{wanted_fits}
use Rattle.line_fields.specs.Fields.{held}
use Rattle.line_fields.specs.Values.{nests_no_deeper}
use Rattle.spec_faults.specs.Cutting.{field_at}
use Rattle.spec_faults.specs.Awaited.{values}
use Rattle.checkpoint_lines.specs.Rows.{row_fields}
use Rattle.checkpoint_lines.specs.Told.{TellsFault}
use Rattle.checkpoint_lines.proofs.Giving.{gives_passed}
use Rattle.task_lines.proofs.Telling.{tells_passed}
use Rattle.task_lines.proofs.HeldRows.{value_none, value_line, value_misspelt, value_goes, value_unfit, if_not}
use Rattle.task_lines.proofs.held.next_value.Goals as goal

pub returns-in_err-row : goal.returns-in_err-row
returns-in_err-row c = record {
  reads = λ v rest h fits e.
      let memory = c.in_err-row.ensures.reads (held v) [] rest (both_hold (is_value v) true (first_holds (is_value v) (nests_no_deeper v) h) refl) e in
      let passed = err_from_is_err_and c.from_residual.result c.from_residual.ensures.1 in
      gives_passed c.from_residual.result passed.0 _ passed.1 (cc (passed.2, memory));
  fits =
      let passed = err_from_is_err_and c.from_residual.result c.from_residual.ensures.1 in
      subst (λ r. IfOk r (λ v. IsTrue (wanted_fits c.args.wanted (option_map (λ b. b.now) c.args.before) v))) (sym passed.1) tt;
  tells = λ around more h vs goes.
      let passed = err_from_is_err_and c.from_residual.result c.from_residual.ensures.1 in
      tells_passed c.from_residual.result passed.0 _ _ _ _ _ passed.1 (cc (passed.2)) (λ room. value_none _ c.args.lines.now more around h vs (c.in_err-row.ensures.tells room));
}

pub returns-then-len-ne1 : goal.returns-then-len-ne1
returns-then-len-ne1 c = record {
  reads = λ v rest h fits e.
      let row = c.in_ok-row.ensures.reads (held v) [] rest (both_hold (is_value v) true (first_holds (is_value v) (nests_no_deeper v) h) refl) e in
      let one : c.len.result ≡ 1 = c.len.ensures ∙ ap length row.0.0 in
      absurd (c.if-len-ne1.true one);
  fits = tt;
  tells = λ around more h vs goes room.
      let row = c.in_ok-row.ensures.tells room in
      let t = value_line _ _ c.in_ok-row.row more around h vs row.0 row.1 (λ one. c.if-len-ne1.true (c.len.ensures ∙ one)) in
      subst (λ e. TellsFault e c.args.lines.now (values (suc more) around h vs ∷ [])) (sym c.fault.ensures) t;
}

pub returns-in_err-value : goal.returns-in_err-value
returns-in_err-value c = record {
  reads = λ v rest h fits e.
      let row = c.in_ok-row.ensures.reads (held v) [] rest (both_hold (is_value v) true (first_holds (is_value v) (nests_no_deeper v) h) refl) e in
      let memory = c.in_err-value.ensures.reads v h (ap (λ ts. field_at ts 0) row.0.0) in
      let passed = err_from_is_err_and c.from_residual-in_err-value.result c.from_residual-in_err-value.ensures.1 in
      gives_passed c.from_residual-in_err-value.result passed.0 _ passed.1 (cc (passed.2, memory));
  fits =
      let passed = err_from_is_err_and c.from_residual-in_err-value.result c.from_residual-in_err-value.ensures.1 in
      subst (λ r. IfOk r (λ v. IsTrue (wanted_fits c.args.wanted (option_map (λ b. b.now) c.args.before) v))) (sym passed.1) tt;
  tells = λ around more h vs goes.
      let passed = err_from_is_err_and c.from_residual-in_err-value.result c.from_residual-in_err-value.ensures.1 in
      let one : length (row_fields c.in_ok-row.row) ≡ 1 = sym c.len.ensures ∙ c.if-len-ne1.false in
      tells_passed c.from_residual-in_err-value.result passed.0 _ _ _ _ _ passed.1 (cc (passed.2))
      (λ room. value_misspelt _ _ c.in_ok-row.row _ more around h vs (c.in_ok-row.ensures.tells room).0 one c.in_err-value.ensures.tells);
}

pub returns-then-fits : goal.returns-then-fits
returns-then-fits c = record {
  reads = λ v rest h fits e.
      let row = c.in_ok-row.ensures.reads (held v) [] rest (both_hold (is_value v) true (first_holds (is_value v) (nests_no_deeper v) h) refl) e in
      let value : c.in_ok-value.value ≡ v = c.in_ok-value.ensures.reads v h (ap (λ ts. field_at ts 0) row.0.0) in
      (value, row.1);
  fits = c.fits.ensures.tells c.if-fits.true;
  tells = λ around more h vs goes room.
      let row = c.in_ok-row.ensures.tells room in
      let one : length (row_fields c.in_ok-row.row) ≡ 1 = sym c.len.ensures ∙ c.if-len-ne1.false in
      value_goes _ _ c.in_ok-row.row more around h vs c.args.wanted (option_map (λ b. b.now) c.args.before) c.in_ok-value.value goes row.0 row.1 one c.in_ok-value.ensures.tells c.in_ok-value.ensures.said (c.fits.ensures.tells c.if-fits.true);
}

pub returns : goal.returns
returns c = record {
  reads = λ v rest h fits e.
      let row = c.in_ok-row.ensures.reads (held v) [] rest (both_hold (is_value v) true (first_holds (is_value v) (nests_no_deeper v) h) refl) e in
      let value : c.in_ok-value.value ≡ v = c.in_ok-value.ensures.reads v h (ap (λ ts. field_at ts 0) row.0.0) in
      let so : c.fits.result ≡ true = c.fits.ensures.finds (subst (λ u. IsTrue (wanted_fits c.args.wanted (option_map (λ b. b.now) c.args.before) u)) (sym value) fits) in
      absurd (cc (so, c.if-fits.false));
  fits = tt;
  tells = λ around more h vs goes room.
      let row = c.in_ok-row.ensures.tells room in
      let one : length (row_fields c.in_ok-row.row) ≡ 1 = sym c.len.ensures ∙ c.if-len-ne1.false in
      let unfit = if_not (wanted_fits c.args.wanted (option_map (λ b. b.now) c.args.before) c.in_ok-value.value) (λ so. cc (c.fits.ensures.finds so, c.if-fits.false)) in
      let t = value_unfit _ _ c.in_ok-row.row more around h vs c.args.wanted (option_map (λ b. b.now) c.args.before) c.in_ok-value.value goes row.0 row.1 one c.in_ok-value.ensures.tells c.in_ok-value.ensures.said unfit in
      subst (λ e. TellsFault e c.args.lines.now (values (suc more) around h vs ∷ [])) (sym c.fault-else-fits.ensures) t;
}
