-- Operators (Programmer's Manual, "Arithmetic Operators", "Values as True or False").
use Rattle.std.specs.Prelude.{ℕ, zero, suc, List, [], if◌then◌else◌}
use Rattle.spec_value.specs.Datum.{Datum, is_true}
use Rattle.spec_value.specs.Operators.{UnaryOperator, BinaryOperator, unary_value, binary_value}
use Rattle.spec_moo.specs.Scene.{Scene}
use Rattle.spec_moo.specs.Effect.{Effect, hands, takes, answered, on_one, on_two}

abbrev pub unary_effect : Scene → UnaryOperator → List Datum → Effect
unary_effect s u vs = on_one s (λ x. answered s (unary_value u x)) vs

abbrev pub binary_effect : Scene → BinaryOperator → List Datum → Effect
binary_effect s op vs = on_two s (λ x y. answered s (binary_value op x y)) vs

-- `a && b`, `a || b`: the operand that decides is the value
abbrev pub both_effect : Scene → List Datum → Effect
both_effect s vs = on_one s (λ x. if is_true x then takes 2 [] else hands s x) vs

abbrev pub either_effect : Scene → List Datum → Effect
either_effect s vs = on_one s (λ x. if is_true x then hands s x else takes 2 []) vs

-- `c ? a | b` takes one arm; after the first it is done
abbrev pub conditional_effect : Scene → ℕ → List Datum → Effect
conditional_effect s (suc zero) vs = on_one s (λ x. if is_true x then takes 2 [] else takes 3 []) vs
conditional_effect s n vs = on_one s (λ x. hands s x) vs
