-- What the printer writes of one part.
use Rattle.std.specs.Prelude.{ℕ, List, ◌∷◌, ◌++◌, Option, Some, None, codes}
use Rattle.std.specs.Borrow.{Bor}
use Rattle.spec_value.specs.Datum.{Text}
use Rattle.spec_program.specs.Spelling.{expression_text, within, head, before_name, codes_text, program_lines, deeper}
use Rattle.moo_tree.specs.ExpressionView.{codes_of}
use Rattle.moo_tree.specs.StatementView.{program_of}
use Rattle.moo_tree.specs.declared.statement.Branch.{Branch}
use Rattle.moo_tree.specs.declared.statement.Arm.{Arm}
use Rattle.moo_tree.specs.declared.expression.Argument.{Argument}
use Rattle.moo_tree.specs.declared.expression.Argument.TheVariants.{Value, Splice}
use Rattle.moo_tree.specs.declared.expression.Item.{Item}
use Rattle.moo_tree.specs.declared.expression.Item.TheVariants.{Required, Optional, Rest, Default}

abbrev pub text_of : Option (Bor (List ℕ)) → Option Text
text_of None = None
text_of (Some s) = Some s.now

abbrev pub one_argument : Argument → Text
one_argument (Value e) = expression_text e
one_argument (Splice e) = 64 ∷ expression_text e

abbrev pub one_item : Item → Text
one_item (Required x) = x
one_item (Optional x) = 63 ∷ x
one_item (Rest x) = 64 ∷ x
one_item (Default x e) = 63 ∷ within x (codes " = ") (expression_text e)

-- a branch behind its word
abbrev pub branch_lines : Text → Text → Branch → List Text
branch_lines indent word b = (indent ++ head word (expression_text b.condition)) ∷ program_lines (deeper indent) (program_of b.body.items)

-- the head of a handler
abbrev pub except_line : Text → Arm → Text
except_line indent a = indent ++ head (codes "except" ++ before_name a.variable) (codes_text (codes_of a.codes))
