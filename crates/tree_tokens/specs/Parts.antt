-- The tokens of one part.
use Rattle.std.specs.Prelude.{List, [], ◌∷◌, ◌++◌, None}
use Rattle.spec_program.specs.Tokens as t
use Rattle.spec_program.specs.Tokens.{Token, Keyword}
use Rattle.spec_program.specs.CanonicalTokens.{expression_tokens, codes_tokens}
use Rattle.spec_spelling.specs.ProgramTokens.{head, program_tokens}
use Rattle.moo_tree.specs.ExpressionView.{codes_of}
use Rattle.moo_tree.specs.StatementView.{program_of}
use Rattle.moo_tree.specs.declared.statement.Branch.{Branch}
use Rattle.moo_tree.specs.declared.statement.Arm.{Arm}
use Rattle.moo_tree.specs.declared.expression.Argument.{Argument}
use Rattle.moo_tree.specs.declared.expression.Argument.TheVariants.{Value, Splice}
use Rattle.moo_tree.specs.declared.expression.Item.{Item}
use Rattle.moo_tree.specs.declared.expression.Item.TheVariants.{Required, Optional, Rest, Default}

abbrev pub one_argument : Argument → List Token
one_argument (Value e) = expression_tokens e
one_argument (Splice e) = t.sign t.at_sign ∷ expression_tokens e

abbrev pub one_item : Item → List Token
one_item (Required x) = t.word x ∷ []
one_item (Optional x) = t.sign t.question ∷ t.word x ∷ []
one_item (Rest x) = t.sign t.at_sign ∷ t.word x ∷ []
one_item (Default x e) = t.sign t.question ∷ t.word x ∷ t.sign t.assign ∷ expression_tokens e

-- a branch behind its word
abbrev pub one_branch : Keyword → Branch → List Token
one_branch word b = head word None (expression_tokens b.condition) ++ program_tokens (program_of b.body.items)

abbrev pub one_arm : Arm → List Token
one_arm a = head t.except_word a.variable (codes_tokens (codes_of a.codes)) ++ program_tokens (program_of a.body.items)
