-- Expressions, arguments and codes are read back from the tokens of their canonical spelling.
use Rattle.std.specs.Prelude.{ℕ, suc, ◌<◌, ◌≡◌, Bool, false, List, ◌++◌, [], ◌∷◌, length, IsTrue}
use Rattle.spec_program.specs.Tree.{Expr, Arguments, Codes}
use Rattle.spec_program.specs.Tokens as t
use Rattle.spec_program.specs.Tokens.{Placed}
use Rattle.spec_program.specs.Reading.{got, Node}
use Rattle.spec_program.specs.ReadExpressions as by
use Rattle.spec_program.specs.ReadExpressions.{expression}
use Rattle.spec_program.specs.Moves.{begins_with}
use Rattle.spec_program.specs.Trees.{expr_fits, arguments_fit, codes_fit}
use Rattle.spec_program.specs.CanonicalTokens.{expression_tokens, arguments_tokens, codes_tokens, Laid, Loose, Stops}
use Rattle.spec_program.specs.CanonicalLaws.{ReadBack}

-- just this tree, whatever may stand behind it
abbrev pub ExpressionReadBack : Type 0
ExpressionReadBack =
    (e : Expr) (n : ℕ) (b : Bool) (ts us : List Placed) → IsTrue (expr_fits b e)
    → Laid (expression_tokens e) ts us → suc (length ts) < n → Loose us → Stops 0 us → ReadBack n b e ts us

pub record ArgumentsAgain (n : ℕ) (b : Bool) (es : Arguments) (ts us : List Placed) : Type 0 where
  pub nodes : List Node
  pub reads : by.arguments_to t.close_parenthesis n (expression n) b ts ≡ got (record { tree = es; nodes = nodes }) us

-- up to the parenthesis that closes them
abbrev pub ArgumentsReadBack : Type 0
ArgumentsReadBack =
    (es : Arguments) (n : ℕ) (b : Bool) (ts us : List Placed) → IsTrue (arguments_fit b es)
    → Laid (arguments_tokens es ++ t.sign t.close_parenthesis ∷ []) ts us → suc (length ts) < n → ArgumentsAgain n b es ts us

pub record CodesAgain (n : ℕ) (b : Bool) (c : Codes) (ts us : List Placed) : Type 0 where
  pub nodes : List Node
  pub reads : by.error_codes n (expression n) b ts ≡ got (record { tree = c; nodes = nodes }) us

-- before what is neither a comma nor goes on with an expression
abbrev pub CodesReadBack : Type 0
CodesReadBack =
    (c : Codes) (n : ℕ) (b : Bool) (ts us : List Placed) → IsTrue (codes_fit b c)
    → Laid (codes_tokens c) ts us → suc (length ts) < n → Loose us → Stops 0 us → begins_with t.comma us ≡ false → CodesAgain n b c ts us
