use Rattle.std.proofs.Common.{◌≡◌, ◌+◌, drop, map}
use Rattle.std.specs.Prelude.{option_map}
use Rattle.builtins_view.specs.Specifiers.{first_with}
use Rattle.builtins_view.proofs.builtins_change.specifier.first_with.Given as goal

abbrev pub invariant-loop-number : goal.invariant-loop-number
invariant-loop-number l =
    option_map (λ n. l.number + n) (first_with l.text (map (λ s. map (λ m. m.now) s.now) (drop l.number l.sets)))
    ≡ first_with l.text (map (λ s. map (λ m. m.now) s.now) l.sets)
