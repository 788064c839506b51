use Rattle.std.proofs.Common.{◌≡◌, drop}
use Rattle.std.specs.Ordering.{int_eq}
use Rattle.std.specs.List.{list_all}
use Rattle.spec_world.specs.WellFormed.{on_object}
use Rattle.world_checks.specs.Ways.{up_of}
use Rattle.world_checks.proofs.object_checks.kin.are_below.Given as goal

abbrev pub invariant-loop-number : goal.invariant-loop-number
invariant-loop-number l =
    list_all (λ c. on_object l.draft c (λ y. int_eq (up_of l.way y) l.above)) l.list
    ≡ list_all (λ c. on_object l.draft c (λ y. int_eq (up_of l.way y) l.above)) (drop l.number-index l.list)
