use Rattle.std.proofs.Common.{◌≡◌, [], ◌∷◌, true, refl, ap}
use Rattle.spec_value.proofs.Entries.{both_hold}
use Rattle.spec_world.specs.Checkpoint.{flags_text}
use Rattle.line_fields.specs.Bits.{flags_of}
use Rattle.line_fields.specs.Fields.{word, is_field}
use Rattle.line_fields.proofs.Words.{word_flags}
use Rattle.checkpoint_lines.specs.Rows.{Left, row_fields}
use Rattle.spec_faults.specs.Cutting.{field_at}
use Rattle.checkpoint_lines.proofs.Giving.{gives_ok}
use Rattle.std.proofs.lemmas.Result.{err_from_is_err_and}
use Rattle.checkpoint_lines.proofs.Giving.{gives_passed}
use Rattle.checkpoint_lines.proofs.Going.{passed_on, one_row, row_read, row_by_check, if_always}
use Rattle.object_lines.specs.ObjectAwaited.{flags_awaited}
use Rattle.object_lines.proofs.RowFaults.{flags_form, flags_fail, flags_stand}
use Rattle.spec_faults.specs.Awaited.{one, goes_on}
use Rattle.spec_faults.specs.Forms.{other}
use Rattle.spec_faults.specs.Plain.{are_flags}
use Rattle.checkpoint_lines.specs.declared.fault.FaultKind.TheVariants as kind
use Rattle.object_lines.proofs.header.next_flags.Goals as goal

pub returns-in_err-row : goal.returns-in_err-row
returns-in_err-row c = record {
  reads = λ x rest l.
      let memory = c.in_err-row.ensures.reads (word (flags_text x) ∷ []) rest refl (both_hold (is_field (word (flags_text x))) true (word_flags x) refl) refl l in
      let passed = err_from_is_err_and c.from_residual.result c.from_residual.ensures.1 in
      gives_passed c.from_residual.result passed.0 _ passed.1 (cc (passed.2, memory));
  tells = let passed = err_from_is_err_and c.from_residual.result c.from_residual.ensures.1 in passed_on c.from_residual.result passed.0 _ c.args.lines.now _ flags_awaited (λ _. []) passed.1 passed.2 (λ room. c.in_err-row.ensures.tells room (one flags_form) (other (are_flags 6) ∷ []) (λ _. goes_on []) (one_row flags_form) refl refl);
}

pub returns : goal.returns
returns c = record {
  reads = λ x rest l.
      let row = c.in_ok-row.ensures.reads (word (flags_text x) ∷ []) rest refl (both_hold (is_field (word (flags_text x))) true (word_flags x) refl) refl l in
      gives_ok c.object_flags.result (flags_of x) (λ f. (f ≡ flags_of x) × Left c.next_with.new.self rest) (c.object_flags.ensures.reads x (ap (λ ts. field_at ts 1) row.0.0)) (refl, row.1);
  tells = row_read c.object_flags.result c.args.lines.now c.next_with.new.self c.in_ok-row.row (one flags_form) flags_form (λ _. goes_on []) (λ _. []) (one_row flags_form) (λ room. let row = c.in_ok-row.ensures.tells room in (row.0, (row_by_check c.object_flags.result c.in_ok-row.row kind.Number flags_form (are_flags 6 (field_at (row_fields c.in_ok-row.row) 1)) c.object_flags.ensures.tells (λ e was. flags_fail c.in_ok-row.row row.1 row.0.filled c.object_flags.result e was c.object_flags.ensures.tells) (flags_stand c.in_ok-row.row row.1 row.0.filled), if_always c.object_flags.result (λ _. goes_on [] ≡ goes_on []) (λ _. refl))));
}
