-- What is kept the last one first, and one before it.
use Rattle.std.proofs.Common.{◌≡◌, List, [], ◌∷◌, ◌++◌, map, reverse, ap, ◌∙◌}
use Rattle.std.proofs.lemmas.List.{map-append, reverse-append}
use Rattle.moo_tree.specs.declared.expression.Argument.{Argument}
use Rattle.moo_tree.specs.declared.expression.Item.{Item}
use Rattle.moo_tree.specs.ExpressionView.{arguments_of, items_of}
use Rattle.spec_program.specs.Tree.{Statement}
use Rattle.moo_tree.specs.declared.statement.Branch.{Branch}
use Rattle.moo_tree.specs.declared.statement.Arm.{Arm}
use Rattle.moo_tree.specs.StatementView.{program_of, branches_of, arms_of}
use Rattle.moo_reader.specs.declared.block.Stray.{Stray}
use Rattle.moo_reader.specs.BlockViews.{stray_of, strays_of}

pub one_before : (reversed : List Argument) (a : Argument) → arguments_of (reverse (reversed ++ a ∷ [])) ≡ arguments_of (a ∷ reverse reversed)
one_before reversed a = ap arguments_of (reverse-append reversed (a ∷ []))

pub item_before : (reversed : List Item) (i : Item) → items_of (reverse (reversed ++ i ∷ [])) ≡ items_of (i ∷ reverse reversed)
item_before reversed i = ap items_of (reverse-append reversed (i ∷ []))

-- ---- statements, branches, handlers and strays

pub statement_before : (reversed : List Statement) (s : Statement) → program_of (reverse (reversed ++ s ∷ [])) ≡ program_of (s ∷ reverse reversed)
statement_before reversed s = ap program_of (reverse-append reversed (s ∷ []))

pub branch_before : (reversed : List Branch) (b : Branch) → branches_of (reverse (reversed ++ b ∷ [])) ≡ branches_of (b ∷ reverse reversed)
branch_before reversed b = ap branches_of (reverse-append reversed (b ∷ []))

pub arm_before : (reversed : List Arm) (a : Arm) → arms_of (reverse (reversed ++ a ∷ [])) ≡ arms_of (a ∷ reverse reversed)
arm_before reversed a = ap arms_of (reverse-append reversed (a ∷ []))

pub strays_before : (ss others : List Stray) → strays_of (others ++ ss) ≡ strays_of ss ++ strays_of others
strays_before ss others = ap reverse (map-append stray_of others ss) ∙ reverse-append (map stray_of others) (map stray_of ss)
