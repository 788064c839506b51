use Rattle.std.proofs.Common.{◌≡◌, ◌∙◌, ◌≤◌, ◌<◌, suc, ◌+◌, List, ◌++◌, length, drop, ap, subst, arith, ◌∷◌, []}
use Rattle.std.proofs.Math.ListN.{drop_of_length-le}
use Rattle.std.proofs.lemmas.Result.{err_from_is_err_and}
use Rattle.spec_world.specs.World.{Verb}
use Rattle.spec_world.specs.Checkpoint.{each_verb}
use Rattle.checkpoint_lines.specs.Rows.{Left}
use Rattle.checkpoint_lines.proofs.Giving.{gives_passed}
use Rattle.object_lines.specs.Readable.{is_verb_read}
use Rattle.object_lines.proofs.Lists.{next_at, holds_at, one_read, all_read}
use Rattle.object_lines.proofs.ObjectParts.{verb_parts}
use Rattle.checkpoint_lines.proofs.Going.{no_memory, passed_on, none_yet, one_fails, one_of_them, all_of_them}
use Rattle.spec_faults.specs.Awaited.{again}
use Rattle.spec_faults.specs.Awaited as awaited
use Rattle.object_lines.proofs.verb.so_many_verbs.Goals as goal

pub reading-init : goal.reading-init
reading-init c = (
  λ xs rest h n l. (l, ap (λ ys. ys ++ xs) c.new-verbs.ensures.items),
  none_yet c.args.lines.now c.args.count awaited.each_verb,
)

pub returns-in_err-verb : goal.returns-in_err-verb
returns-in_err-verb c = record {
  reads = λ xs rest h n l.
      let within : c.reading._verb < length xs = omega arith in
      let at = next_at xs c.reading._verb within in
      let later : List Verb = drop (suc c.reading._verb) xs in
      let inv = c.reading.invariant.0 xs rest h n l in
      let here = subst (λ us. Left c.reading.lines us) (verb_parts at.0 (each_verb later) rest) (subst (λ us. Left c.reading.lines (each_verb us ++ rest)) at.2 inv.0) in
      let memory = c.in_err-verb.ensures.reads at.0 (each_verb later ++ rest) (holds_at is_verb_read xs c.reading._verb at.0 at.1 h) here in
      let passed = err_from_is_err_and c.from_residual.result c.from_residual.ensures.1 in
      gives_passed c.from_residual.result passed.0 _ passed.1 (cc (passed.2, memory));
  tells = let passed = err_from_is_err_and c.from_residual.result c.from_residual.ensures.1 in passed_on c.from_residual.result passed.0 _ c.args.lines.now _ (again c.args.count awaited.each_verb ∷ []) (λ _. []) passed.1 passed.2 (one_fails _ c.args.lines.now c.reading.lines c.args.count c.reading._verb awaited.each_verb (omega arith) c.reading.invariant.1 c.in_err-verb.ensures.tells);
}

pub reading-preserved : goal.reading-preserved
reading-preserved c = (
  λ xs rest h n l.
      let within : c.reading._verb < length xs = omega arith in
      let at = next_at xs c.reading._verb within in
      let later : List Verb = drop (suc c.reading._verb) xs in
      let inv = c.reading.invariant.0 xs rest h n l in
      let here = subst (λ us. Left c.reading.lines us) (verb_parts at.0 (each_verb later) rest) (subst (λ us. Left c.reading.lines (each_verb us ++ rest)) at.2 inv.0) in
      let one = c.in_ok-verb.ensures.reads at.0 (each_verb later ++ rest) (holds_at is_verb_read xs c.reading._verb at.0 at.1 h) here in
      let next : suc c.reading._verb ≡ c.reading._verb + 1 = omega arith in
      let all = one_read c.reading.verbs.items c.push.new.self.items c.in_ok-verb.verb at.0 (drop c.reading._verb xs) later xs c.in_ok-push.ensures.items one.0 at.2 inv.1 in
      (subst (λ i. Left c.next_verb.new.lines (each_verb (drop i xs) ++ rest)) next one.1, subst (λ i. c.push.new.self.items ++ drop i xs ≡ xs) next all),
  one_of_them c.args.lines.now c.reading.lines c.next_verb.new.lines c.args.count c.reading._verb awaited.each_verb (omega arith) c.reading.invariant.1 c.in_ok-verb.ensures.tells,
)

pub returns : goal.returns
returns c = record {
  reads = λ xs rest h n l.
      let inv = c.reading.invariant.0 xs rest h n l in
      let past : length xs ≤ c.reading._verb = omega arith in
      let left : Left c.reading.lines rest = subst (λ us. Left c.reading.lines (each_verb us ++ rest)) (drop_of_length-le xs past) inv.0 in
      (c.shrink_to_fit.ensures.items ∙ all_read c.reading.verbs.items xs xs c.reading._verb past inv.1, left);
  tells = all_of_them c.args.lines.now c.reading.lines c.args.count c.reading._verb awaited.each_verb (omega arith) c.reading.invariant.1;
}

pub returns-in_err-push-clause-tells : goal.returns-in_err-push-clause-tells
returns-in_err-push-clause-tells c = let passed = err_from_is_err_and c.from_residual-in_err-push.result c.from_residual-in_err-push.ensures.1 in no_memory c.from_residual-in_err-push.result passed.0 c.args.lines.now _ (again c.args.count awaited.each_verb ∷ []) (λ _. []) passed.1 passed.2
