-- The operators of the definitions, by their names here.
use Rattle.spec_value.specs.Operators.{BinaryOperator as BinaryOperatorOf, plus, minus, times, divided_by, remainder_by, to_the, equals, differs, less, less_or_equal, greater, greater_or_equal, is_in, UnaryOperator as UnaryOperatorOf, negation, not_true}
use Rattle.moo_value.specs.declared.operator.BinaryOperator.{BinaryOperator}
use Rattle.moo_value.specs.declared.operator.BinaryOperator.TheVariants.{Plus, Minus, Times, DividedBy, RemainderBy, ToThe, Equals, Differs, Less, LessOrEqual, Greater, GreaterOrEqual, IsIn}
use Rattle.moo_value.specs.declared.operator.UnaryOperator.{UnaryOperator}
use Rattle.moo_value.specs.declared.operator.UnaryOperator.TheVariants.{Negation, NotTrue}

abbrev pub binary_of : BinaryOperator → BinaryOperatorOf
binary_of Plus = plus
binary_of Minus = minus
binary_of Times = times
binary_of DividedBy = divided_by
binary_of RemainderBy = remainder_by
binary_of ToThe = to_the
binary_of Equals = equals
binary_of Differs = differs
binary_of Less = less
binary_of LessOrEqual = less_or_equal
binary_of Greater = greater
binary_of GreaterOrEqual = greater_or_equal
binary_of IsIn = is_in

abbrev pub unary_of : UnaryOperator → UnaryOperatorOf
unary_of Negation = negation
unary_of NotTrue = not_true
