use Rattle.std.proofs.Common.{ap, ◌∙◌, is_some}
use Rattle.moo_program.specs.Names.{known}
use Rattle.moo_task.proofs.LookedUp.{found_has}
use Rattle.moo_task.proofs.moo_forks.lookup.Slots.has.Goals as goal

pub returns : goal.returns
returns c = c.is_some.ensures ∙ ap is_some c.slot.ensures ∙ found_has (known c.args.self.now) c.args.name.now
