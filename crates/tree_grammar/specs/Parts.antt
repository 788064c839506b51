-- Whether one argument or one item is of the grammar, and how high it is.
use Rattle.std.specs.Prelude.{ℕ, Bool, true, false, ◌&&◌}
use Rattle.spec_program.specs.Trees.{is_name, expr_fits, expr_height}
use Rattle.moo_tree.specs.declared.expression.Argument.{Argument}
use Rattle.moo_tree.specs.declared.expression.Argument.TheVariants.{Value, Splice}
use Rattle.moo_tree.specs.declared.expression.Item.{Item}
use Rattle.moo_tree.specs.declared.expression.Item.TheVariants.{Required, Optional, Rest, Default}

abbrev pub one_argument_fits : Bool → Argument → Bool
one_argument_fits b (Value e) = expr_fits b e
one_argument_fits b (Splice e) = expr_fits b e

abbrev pub one_argument_height : Argument → ℕ
one_argument_height (Value e) = expr_height e
one_argument_height (Splice e) = expr_height e

abbrev pub one_item_fits : Bool → Item → Bool
one_item_fits b (Required x) = is_name x
one_item_fits b (Optional x) = is_name x
one_item_fits b (Rest x) = is_name x
one_item_fits b (Default x e) = is_name x && expr_fits b e

-- no more than its default is
abbrev pub one_item_height : Item → ℕ
one_item_height (Required x) = 0
one_item_height (Optional x) = 0
one_item_height (Rest x) = 0
one_item_height (Default x e) = expr_height e

-- it takes what is left of a list
abbrev pub one_is_rest : Item → Bool
one_is_rest (Required x) = false
one_is_rest (Optional x) = false
one_is_rest (Rest x) = true
one_is_rest (Default x e) = false
