use Rattle.std.proofs.Common.{◌≡◌, ◌++◌, drop, filter, not}
use Rattle.std.specs.Ordering.{int_eq}
use Rattle.rules.proofs.relatives.lists.without.Given as goal

abbrev pub invariant-loop-other : goal.invariant-loop-other
invariant-loop-other l =
    l.others.items ++ filter (λ p. not (int_eq l.object p)) (drop l.other-index l.objects) ≡ filter (λ p. not (int_eq l.object p)) l.objects
