use Rattle.std.proofs.Common.{sym, subst, ap, ◌∙◌}
use Rattle.due_table.specs.Pairs.{with_pair}
use Rattle.due_table.specs.Held.{IsSound, pairs_of}
use Rattle.due_table.proofs.Moments.{pairs_with}
use Rattle.due_table.proofs.Kept.{sound_with}
use Rattle.due_table.proofs.table.DueTable.with.Goals as goal

pub invariant_of-result : goal.invariant_of-result
invariant_of-result c = subst IsSound (sym c.in_ok-moments.ensures) (sound_with c.args.moment c.args.key _ c.ranges.moment.fits c.requires c.self.invariant)

pub returns : goal.returns
returns c =
    ap pairs_of c.in_ok-moments.ensures
    ∙ pairs_with 0 4294967296 c.args.moment c.args.key _ c.self.invariant.0
    ∙ ap (with_pair (c.args.moment, c.args.key)) c.self.view_is
