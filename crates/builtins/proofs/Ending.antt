-- What `shutdown` leaves.
use Rattle.std.proofs.Common.{[], true}
use Rattle.spec_world.specs.Permissions.{may, administer}
use Rattle.spec_moo.specs.Natives.Tasks.{shutdown_row}
use Rattle.rules.proofs.InheritStanding.{apart_stands}
use Rattle.builtins_view.proofs.Keeping.{Keeping, tested}

pub shutdown_keeps : Keeping (λ s c. shutdown_row s c [])
shutdown_keeps s c h = tested (may s.world c.call.programmer administer) _ _ h (λ k. apart_stands s.world s.world.next true h)
