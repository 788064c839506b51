use Rattle.std.proofs.Common.{◌≡◌, [], ◌∷◌, ◌++◌, ◌<◌, ◌^◌, None, length, sym, subst, ◌∙◌, ap, codes, arith}
use Rattle.spec_world.specs.Checkpoint.{counted, literal_lines}
use Rattle.spec_faults.specs.Codes.{total}
use Rattle.spec_faults.specs.Awaited.{held, each_held}
use Rattle.checkpoint_lines.specs.Rows.{Left}
use Rattle.checkpoint_lines.proofs.Telling.{goes_then, fault_then}
use Rattle.task_lines.proofs.Telling.{tells_passed}
use Rattle.task_lines.proofs.Wanting.{all_wanted}
use Rattle.checkpoint_lines.proofs.Rests.{rest_small}
use Rattle.moo_code.specs.Rebuilding.{from_deepest}
use Rattle.task_lines.proofs.Loops.{as_many_fit, as_many_literals}
use Rattle.std.proofs.lemmas.Result.{err_from_is_err_and}
use Rattle.checkpoint_lines.proofs.Giving.{gives_passed}
use Rattle.task_lines.proofs.held.next_held.Goals as goal

pub returns-in_err-next_held_count : goal.returns-in_err-next_held_count
returns-in_err-next_held_count c = record {
  reads = λ vs rest h fits l.
      let count : length c.args.wanted.now ≡ length vs = as_many_fit None c.args.wanted.now vs fits in
      let here = subst (λ n. Left c.args.lines.now (counted (codes "held") n ∷ (literal_lines vs ++ rest))) (sym count) l in
      let bound = (rest_small (counted (codes "held") (length vs)) (literal_lines vs ++ rest) l.1).0 in
      let many = as_many_literals vs rest in
      let small : length c.args.wanted.now < 2 ^ 63 = omega (arith, bound, many, count) in
      let memory = c.in_err-next_held_count.ensures.reads (literal_lines vs ++ rest) small here in
      let passed = err_from_is_err_and c.from_residual.result c.from_residual.ensures.1 in
      gives_passed c.from_residual.result passed.0 _ passed.1 (cc (passed.2, memory));
  tells = λ hs is.
      let same : total hs ≡ length c.args.wanted.now = all_wanted hs ∙ ap length (sym is) in
      let passed = err_from_is_err_and c.from_residual.result c.from_residual.ensures.1 in
      tells_passed c.from_residual.result passed.0 _ _ _ _ _ passed.1 (cc (passed.2)) (c.in_err-next_held_count.ensures.tells hs same);
}

pub returns-in_err-values : goal.returns-in_err-values
returns-in_err-values c = record {
  reads = λ vs rest h fits l.
      let count : length c.args.wanted.now ≡ length vs = as_many_fit None c.args.wanted.now vs fits in
      let here = subst (λ n. Left c.args.lines.now (counted (codes "held") n ∷ (literal_lines vs ++ rest))) (sym count) l in
      let bound = (rest_small (counted (codes "held") (length vs)) (literal_lines vs ++ rest) l.1).0 in
      let many = as_many_literals vs rest in
      let small : length c.args.wanted.now < 2 ^ 63 = omega (arith, bound, many, count) in
      let next_held_count = c.in_ok-next_held_count.ensures.reads (literal_lines vs ++ rest) small here in
      let memory = c.in_err-values.ensures.reads vs rest h fits next_held_count.1 in
      let passed = err_from_is_err_and c.from_residual-in_err-values.result c.from_residual-in_err-values.ensures.1 in
      gives_passed c.from_residual-in_err-values.result passed.0 _ passed.1 (cc (passed.2, memory));
  tells = λ hs is.
      let same : total hs ≡ length c.args.wanted.now = all_wanted hs ∙ ap length (sym is) in
      let passed = err_from_is_err_and c.from_residual-in_err-values.result c.from_residual-in_err-values.ensures.1 in
      tells_passed c.from_residual-in_err-values.result passed.0 _ _ _ _ _ passed.1 (cc (passed.2))
      (λ room. let count = c.in_ok-next_held_count.ensures.tells hs same room in fault_then _ _ _ (held hs ∷ []) (each_held hs) count (c.in_err-values.ensures.tells hs is count.room));
}

pub returns : goal.returns
returns c = record {
  reads = λ vs rest h fits l.
      let count : length c.args.wanted.now ≡ length vs = as_many_fit None c.args.wanted.now vs fits in
      let here = subst (λ n. Left c.args.lines.now (counted (codes "held") n ∷ (literal_lines vs ++ rest))) (sym count) l in
      let bound = (rest_small (counted (codes "held") (length vs)) (literal_lines vs ++ rest) l.1).0 in
      let many = as_many_literals vs rest in
      let small : length c.args.wanted.now < 2 ^ 63 = omega (arith, bound, many, count) in
      let next_held_count = c.in_ok-next_held_count.ensures.reads (literal_lines vs ++ rest) small here in
      let values = c.in_ok-values.ensures.reads vs rest h fits next_held_count.1 in
      (c.in_ok-operands.ensures ∙ ap from_deepest values.0, values.1);
  tells = λ hs is room.
      let same : total hs ≡ length c.args.wanted.now = all_wanted hs ∙ ap length (sym is) in
      let count = c.in_ok-next_held_count.ensures.tells hs same room in
      goes_then _ _ _ (held hs ∷ []) (each_held hs) [] count (c.in_ok-values.ensures.tells hs is count.room);
}
