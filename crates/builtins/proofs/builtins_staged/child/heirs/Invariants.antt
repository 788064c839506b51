use Rattle.std.proofs.Common.{◌≡◌, [], drop}
use Rattle.builtins.specs.Children.{put_heirs}
use Rattle.builtins.proofs.builtins_staged.child.heirs.Given as goal

abbrev pub invariant-loop-entry : goal.invariant-loop-entry
invariant-loop-entry l = put_heirs l.owner (drop l.entry-index l.inherited) l.slots ≡ put_heirs l.owner l.inherited []
