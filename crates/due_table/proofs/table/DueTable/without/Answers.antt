use Rattle.std.proofs.Common.{sym, subst, ap, ◌∙◌}
use Rattle.due_table.specs.Pairs.{without_pair}
use Rattle.due_table.specs.Held.{IsSound, pairs_of}
use Rattle.due_table.proofs.Moments.{pairs_without}
use Rattle.due_table.proofs.Kept.{sound_without}
use Rattle.due_table.proofs.table.DueTable.without.Goals as goal

pub invariant_of-result : goal.invariant_of-result
invariant_of-result c = subst IsSound (sym c.in_ok-moments.ensures) (sound_without c.args.moment c.args.key _ c.ranges.moment.fits c.self.invariant)

pub returns : goal.returns
returns c =
    ap pairs_of c.in_ok-moments.ensures
    ∙ pairs_without 0 4294967296 c.args.moment c.args.key _ c.self.invariant.0
    ∙ ap (without_pair (c.args.moment, c.args.key)) c.self.view_is
