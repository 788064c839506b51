use Rattle.std.proofs.Common.{◌≡◌, ◌++◌, drop, filter, not}
use Rattle.spec_world.specs.WellFormed.{lists}
use Rattle.builtins_view.proofs.reparenting.along.left_out.Given as goal

abbrev pub invariant-loop-object : goal.invariant-loop-object
invariant-loop-object l =
    l.left.items ++ filter (λ o. not (lists l.others o)) (drop l.object-index l.objects) ≡ filter (λ o. not (lists l.others o)) l.objects
