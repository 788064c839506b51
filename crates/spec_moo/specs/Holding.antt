-- What lists, calls of functions, operators and indexes hold from one part to the next fits each of their parts.
use Rattle.std.specs.Prelude.{◌≡◌, ℕ, suc, List, Some, IsTrue}
use Rattle.spec_value.specs.Datum.{Datum, Text}
use Rattle.spec_value.specs.Operators.{BinaryOperator}
use Rattle.spec_program.specs.Tree.{Expr, binary, property, index, range, Arguments, listing, call}
use Rattle.spec_program.specs.Construct.{Construct, of_expr}
use Rattle.spec_program.specs.Place.{Part, part_at}
use Rattle.spec_world.specs.WellFormed.{held_fits}
use Rattle.spec_moo.specs.Held.{way_at, held_at_first, held_with}

-- what it holds at first fits its first part
abbrev pub FirstHolds : Construct → Type 0
FirstHolds c = (around : ℕ) (x : Part) → part_at c 1 ≡ Some x → IsTrue (held_fits around x.held (held_at_first c))

-- with the value of a part beside what was held, it fits the next one
abbrev pub NextHolds : Construct → Type 0
NextHolds c =
    (around n : ℕ) (x y : Part) (hs vs : List Datum) (v : Datum)
    → part_at c (suc n) ≡ Some x → IsTrue (held_fits around x.held hs) → held_with (way_at c (suc n)) hs v ≡ Some vs
    → part_at c (suc (suc n)) ≡ Some y → IsTrue (held_fits around y.held vs)

abbrev pub ListsHold : Type 0
ListsHold = (es : Arguments) → FirstHolds (of_expr (listing es)) × NextHolds (of_expr (listing es))

abbrev pub CallsHold : Type 0
CallsHold = (f : Text) (es : Arguments) → FirstHolds (of_expr (call f es)) × NextHolds (of_expr (call f es))

-- of an operator with two operands, a property read, an index and a range
abbrev pub OperandsHold : Type 0
OperandsHold =
    (op : BinaryOperator) (a b c : Expr)
    → NextHolds (of_expr (binary op a b)) × NextHolds (of_expr (property a b)) × NextHolds (of_expr (index a b)) × NextHolds (of_expr (range a b c))
