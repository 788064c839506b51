-- An operator and an integer that is its whole right operand: six steps of the machine, from one place before operators to the next.
use Rattle.std.specs.Prelude.{◌≡◌, ℕ, Bool, List, [], ◌∷◌, Option, Some, None}
use Rattle.spec_value.specs.Datum.{integer}
use Rattle.spec_program.specs.Tree.{Expr, binary, literal}
use Rattle.spec_program.specs.Tokens.{Placed}
use Rattle.spec_program.specs.ReadExpressions as by
use Rattle.spec_program.specs.ReadExpressions.{Found, found_at}
use Rattle.spec_program.specs.Frames as f
use Rattle.spec_program.specs.Frames.{an_expression, Frames}
use Rattle.spec_reader.specs.Next.{goes, reads_operators}
use Rattle.spec_reader.specs.Behind.{joined}
use Rattle.spec_reader.specs.Whole.{after}
use Rattle.moo_value.specs.Operators.{binary_of}
use Rattle.reader_begins.specs.declared.term.Term.{Term}

abbrev pub integer_at : ℕ → ℕ → Found
integer_at m line = found_at line (literal (integer (by.integer_value m))) []

abbrev pub tree_with : Expr → Term → Expr
tree_with a t = binary (binary_of t.operator) a (literal (integer (by.integer_value t.number)))

abbrev pub with_term : Found → Term → Found
with_term a t = joined a (f.by_operator (binary_of t.operator)) (integer_at t.number t.line)

-- whatever stands before it, and whatever was begun
abbrev pub TermRead : ℕ → List Placed → Term → List Placed → Type 0
TermRead k old t new =
    (b : Bool) (a : Found) (fs : Frames an_expression)
    → after 6 (goes (reads_operators b k a fs) old) ≡ goes (reads_operators b k (with_term a t) fs) new

-- two tokens before a third, whatever is behind
abbrev pub TermBefore : ℕ → Placed → Placed → Placed → Term → Type 0
TermBefore k p q r t = (us : List Placed) → TermRead k (p ∷ q ∷ r ∷ us) t (r ∷ us)

-- the first two tokens, where another is behind them
abbrev pub TermNext : ℕ → List Placed → Term → Type 0
TermNext k ts t = (p : Placed) × (q : Placed) × (r : Placed) × (us : List Placed) × (ts ≡ p ∷ q ∷ r ∷ us) × TermRead k (p ∷ q ∷ r ∷ us) t (r ∷ us)

abbrev pub TermTaken : ℕ → List Placed → Option Term → List Placed → Type 0
TermTaken k old None new = new ≡ old
TermTaken k old (Some t) new = TermRead k old t new
