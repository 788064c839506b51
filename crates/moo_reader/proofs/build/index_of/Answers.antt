use Rattle.std.proofs.Common.{◌≡◌, ◌&&◌, ap, ◌∙◌}
use Rattle.std.specs.Prelude.{not}
use Rattle.moo_reader.specs.Views.{found_of, operand_of, braces_of}
use Rattle.moo_reader.proofs.Targets.{indexed}
use Rattle.moo_reader.proofs.build.index_of.Goals as goal

pub returns : goal.returns
returns c =
    let w = c.args.operand.whole.value in
    let still : c.still_target-is_target.result ≡ (w.is_target && not w.ranged) =
    c.still_target-is_target.ensures ∙ ap (λ x. x.is_target && not c.deref-2.result.now.ranged) c.deref.ensures
    ∙ ap (λ x. w.is_target && not x.ranged) c.deref-2.ensures in
    c.as_operand.ensures
    ∙ indexed (found_of c.in_ok-found.found) (operand_of c.args.operand).found (found_of c.args.index) w.is_target w.ranged
    c.still_target-is_target.result (braces_of w.braces) c.in_ok-found.ensures still
