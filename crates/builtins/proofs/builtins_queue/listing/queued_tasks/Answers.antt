use Rattle.std.proofs.Common.{w32}
use Rattle.std.proofs.lemmas.Int.{to_z-of_z}
use Rattle.builtins.proofs.Seeing.{queued}
use Rattle.builtins.proofs.builtins_queue.listing.queued_tasks.Goals as goal

pub returns-clause-left : goal.returns-clause-left
returns-clause-left g c =
    let programmer = to_z-of_z w32 c.args.programmer c.ranges.programmer in
    queued g.V.View.holds g.V.View.now c.args.view.now c.is_wizard.new.view c.read_waiting.new.view c.seen.new.view c.args.programmer c.in_ok-all.all c.in_ok-ids.ids c.in_ok-items.items.items c.in_ok-value.value
    c.requires.well_formed (rw programmer at c.in_ok-all.ensures.left) c.in_ok-ids.ensures.left (rw (programmer, c.as_slice.ensures) at c.in_ok-items.ensures.left) c.in_ok-value.ensures
