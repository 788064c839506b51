use Rattle.std.proofs.Common.{◌≡◌, ◌++◌, drop, filter, not}
use Rattle.spec_value.specs.Datum.{fold_case, same_text}
use Rattle.builtins_view.proofs.builtins_family.deleting.without.Given as goal

abbrev pub invariant-loop-other : goal.invariant-loop-other
invariant-loop-other l =
    l.others.items ++ filter (λ q. not (same_text (fold_case l.name) (fold_case q))) (drop l.other-index l.names)
    ≡ filter (λ q. not (same_text (fold_case l.name) (fold_case q))) l.names
