use Rattle.std.proofs.Common.{arith, ◌∙◌}
use Rattle.std.proofs.lemmas.Grind.{common_steps}
use Rattle.streams.proofs.Growing.{written_more}
use Rattle.streams.proofs.writing.write_text.Goals as goal

pub piece-preserved : goal.piece-preserved
piece-preserved g c = (
  written_more _ _ _ c.args.text.now c.piece.at c.in-Ok.count c.piece.invariant.0 c.in-Ok.ensures.bytes,
  grind (arith, common_steps),
  c.in-Ok.ensures.well (omega (arith, c.in-Ok.count-test)) ∙ c.piece.invariant.2,
)
