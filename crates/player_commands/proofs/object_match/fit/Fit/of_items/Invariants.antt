use Rattle.std.proofs.Common.{◌≡◌, drop}
use Rattle.spec_value.specs.Datum.{of_list}
use Rattle.spec_world.specs.Naming.{texts_in}
use Rattle.player_commands.specs.Fits.{either_fit, some_fit}
use Rattle.player_commands.proofs.object_match.fit.Fit.of_items.Given as goal

abbrev pub invariant-loop-item : goal.invariant-loop-item
invariant-loop-item l = either_fit l.fit (some_fit (texts_in (of_list (drop l.item-index l.items))) l.text) ≡ some_fit (texts_in (of_list l.items)) l.text
