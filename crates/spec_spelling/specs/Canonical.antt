-- Canonical spellings, character by character: what they are cut into, and what is read of them.
use Rattle.std.specs.Prelude.{◌≡◌, Bool, List, [], Option, IsTrue}
use Rattle.spec_value.specs.Datum.{Text}
use Rattle.spec_program.specs.Tree.{Expr, Arguments, Codes, Program}
use Rattle.spec_program.specs.Tokens.{tokens_of}
use Rattle.spec_program.specs.ReadPrograms.{program, parsed, joined_lines, parsed_lines}
use Rattle.spec_program.specs.Trees.{expr_fits, arguments_fit, codes_fit, program_fits, is_tree}
use Rattle.spec_program.specs.Spelling.{expression_text, arguments_text, codes_text, canonical_lines}
use Rattle.spec_program.specs.CanonicalTokens.{expression_tokens, arguments_tokens, codes_tokens, Laid}
use Rattle.spec_spelling.specs.ProgramTokens.{program_tokens}

-- into just these tokens, and nothing behind them
abbrev pub ExpressionsCut : Type 0
ExpressionsCut = (e : Expr) (b : Bool) → IsTrue (expr_fits b e) → Laid (expression_tokens e) (tokens_of (expression_text e)) []

abbrev pub ArgumentsCut : Type 0
ArgumentsCut = (es : Arguments) (b : Bool) → IsTrue (arguments_fit b es) → Laid (arguments_tokens es) (tokens_of (arguments_text es)) []

abbrev pub CodesCut : Type 0
CodesCut = (c : Codes) (b : Bool) → IsTrue (codes_fit b c) → Laid (codes_tokens c) (tokens_of (codes_text c)) []

-- however deep it is, and whatever loops it stands in
abbrev pub ProgramsCut : Type 0
ProgramsCut = (p : Program) (loops : List (Option Text)) → IsTrue (program_fits loops p) → Laid (program_tokens p) (tokens_of (joined_lines (canonical_lines p))) []

-- each line with its line end
abbrev pub LinesReadBack : Type 0
LinesReadBack = (p : Program) → IsTrue (is_tree p) → parsed_lines (canonical_lines p) ≡ program p

-- a text spells it
abbrev pub EachSpelled : Type 0
EachSpelled = (p : Program) → IsTrue (is_tree p) → (t : Text) × (parsed t ≡ program p)

-- the lines that a text is spelled with anew have its tree
abbrev pub SpelledAnew : Type 0
SpelledAnew = (t : Text) (p : Program) → parsed t ≡ program p → parsed_lines (canonical_lines p) ≡ program p

abbrev pub OneTree : Type 0
OneTree = (p q : Program) → IsTrue (is_tree p) → IsTrue (is_tree q) → canonical_lines p ≡ canonical_lines q → p ≡ q
