use Rattle.std.proofs.Common.{◌≡◌, ◌∷◌, [], true, refl, ap, sym, subst, ◌∙◌, arith}
use Rattle.std.specs.Fmt.{decimal}
use Rattle.std.proofs.lemmas.Result.{err_from_is_err_and}
use Rattle.spec_value.proofs.Entries.{both_hold}
use Rattle.line_fields.specs.Fields.{word, is_field}
use Rattle.line_fields.proofs.Words.{word_decimal}
use Rattle.spec_faults.specs.Cutting.{field_at}
use Rattle.spec_faults.specs.Awaited.{held}
use Rattle.checkpoint_lines.specs.Told.{TellsFault}
use Rattle.checkpoint_lines.proofs.Giving.{gives_passed}
use Rattle.task_lines.proofs.Telling.{tells_passed}
use Rattle.task_lines.proofs.HeldRows.{count_headed, count_misspelt, count_goes, count_unfit}
use Rattle.task_lines.proofs.held.next_held_count.Goals as goal

pub returns-in_err-row : goal.returns-in_err-row
returns-in_err-row c = record {
  reads = λ rest small e.
      let memory = c.in_err-row.ensures.reads (word (decimal c.args.wanted) ∷ []) rest refl (both_hold (is_field (word (decimal c.args.wanted))) true (word_decimal c.args.wanted (omega (arith, small))) refl) refl e in
      let passed = err_from_is_err_and c.from_residual.result c.from_residual.ensures.1 in
      gives_passed c.from_residual.result passed.0 _ passed.1 (cc (passed.2, memory));
  tells = λ hs same.
      let passed = err_from_is_err_and c.from_residual.result c.from_residual.ensures.1 in
      tells_passed c.from_residual.result passed.0 _ _ _ _ _ passed.1 (cc (passed.2)) (λ room. count_headed _ c.args.lines.now hs (c.in_err-row.ensures.tells room));
}

pub returns-in_err-count : goal.returns-in_err-count
returns-in_err-count c = record {
  reads = λ rest small e.
      let row = c.in_ok-row.ensures.reads (word (decimal c.args.wanted) ∷ []) rest refl (both_hold (is_field (word (decimal c.args.wanted))) true (word_decimal c.args.wanted (omega (arith, small))) refl) refl e in
      let never = c.in_err-count.ensures.reads c.args.wanted small (ap (λ ts. field_at ts 1) row.0.0) in
      absurd (cc (never));
  tells = λ hs same.
      let passed = err_from_is_err_and c.from_residual-in_err-count.result c.from_residual-in_err-count.ensures.1 in
      tells_passed c.from_residual-in_err-count.result passed.0 _ _ _ _ _ passed.1 (cc (passed.2))
      (λ room. let row = c.in_ok-row.ensures.tells room in count_misspelt _ _ c.in_ok-row.row hs row.0 row.1 _ c.in_err-count.ensures.tells);
}

pub returns-then-count-wanted : goal.returns-then-count-wanted
returns-then-count-wanted c = record {
  reads = λ rest small e.
      let row = c.in_ok-row.ensures.reads (word (decimal c.args.wanted) ∷ []) rest refl (both_hold (is_field (word (decimal c.args.wanted))) true (word_decimal c.args.wanted (omega (arith, small))) refl) refl e in
      (tt, row.1);
  tells = λ hs same room.
      let row = c.in_ok-row.ensures.tells room in
      count_goes _ _ c.in_ok-row.row hs row.0 row.1 c.in_ok-count.count c.in_ok-count.ensures.tells c.in_ok-count.ensures.said (c.if-count-wanted.true ∙ sym same);
}

pub returns : goal.returns
returns c = record {
  reads = λ rest small e.
      let row = c.in_ok-row.ensures.reads (word (decimal c.args.wanted) ∷ []) rest refl (both_hold (is_field (word (decimal c.args.wanted))) true (word_decimal c.args.wanted (omega (arith, small))) refl) refl e in
      let count = c.in_ok-count.ensures.reads c.args.wanted small (ap (λ ts. field_at ts 1) row.0.0) in
      let same : c.in_ok-count.count ≡ c.args.wanted = cc (count) in
      absurd (c.if-count-wanted.false same);
  tells = λ hs same room.
      let row = c.in_ok-row.ensures.tells room in
      let t = count_unfit _ _ c.in_ok-row.row hs row.0 row.1 c.in_ok-count.count c.in_ok-count.ensures.tells c.in_ok-count.ensures.said (λ e. c.if-count-wanted.false (e ∙ same)) in
      subst (λ e. TellsFault e c.args.lines.now (held hs ∷ [])) (sym c.fault.ensures) t;
}
