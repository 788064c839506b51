-- An expression is read back from the tokens of its canonical spelling.
use Rattle.std.specs.Prelude.{ℕ, suc, ◌<◌, ◌≡◌, Bool, true, false, ◌&&◌, List, length, IsTrue}
use Rattle.spec_program.specs.Tree.{Expr, literal, variable, own_length, unary, binary, both, either, conditional, listing, call, property, verb_call, index, range, caught, assignment, scatter, Arguments, no_arguments, argument, splice}
use Rattle.spec_program.specs.Tokens.{Placed}
use Rattle.spec_program.specs.Reading.{got, Node}
use Rattle.spec_program.specs.ReadExpressions.{expression}
use Rattle.spec_program.specs.Trees.{expr_fits}
use Rattle.spec_program.specs.CanonicalTokens.{expression_tokens, Laid, Loose, Stops}

-- neither braces, nor catches, nor assignments
abbrev mutual
  pub is_simple : Expr → Bool
  is_simple (literal v) = true
  is_simple (variable x) = true
  is_simple own_length = true
  is_simple (unary u a) = is_simple a
  is_simple (binary op a c) = is_simple a && is_simple c
  is_simple (both a c) = is_simple a && is_simple c
  is_simple (either a c) = is_simple a && is_simple c
  is_simple (conditional c x y) = is_simple c && (is_simple x && is_simple y)
  is_simple (listing es) = false
  is_simple (call f es) = all_simple es
  is_simple (property o p) = is_simple o && is_simple p
  is_simple (verb_call o v es) = is_simple o && (is_simple v && all_simple es)
  is_simple (index x i) = is_simple x && is_simple i
  is_simple (range x i j) = is_simple x && (is_simple i && is_simple j)
  is_simple (caught e codes d) = false
  is_simple (assignment t e) = false
  is_simple (scatter xs e) = false

  pub all_simple : Arguments → Bool
  all_simple no_arguments = true
  all_simple (argument e more) = is_simple e && all_simple more
  all_simple (splice e more) = is_simple e && all_simple more

-- just this tree, whatever may stand behind it
pub record ReadBack (n : ℕ) (b : Bool) (e : Expr) (ts us : List Placed) : Type 0 where
  pub line : ℕ
  pub nodes : List Node
  pub reads : expression n b 0 ts ≡ got (record { tree = e; line = line; nodes = nodes }) us

abbrev pub SimpleReadBack : Type 0
SimpleReadBack =
    (e : Expr) (n : ℕ) (b : Bool) (ts us : List Placed) → IsTrue (is_simple e) → IsTrue (expr_fits b e)
    → Laid (expression_tokens e) ts us → suc (length ts) < n → Loose us → Stops 0 us → ReadBack n b e ts us
