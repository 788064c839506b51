-- What is written part by part is the spelling of the whole.
use Rattle.std.proofs.Common.{◌≡◌, ◌≤◌, List, ◌∷◌, ◌++◌, refl, arith}
use Rattle.spec_program.specs.Spelling.{further_arguments, further_items}
use Rattle.moo_tree.specs.Depth.{arguments_depth, items_depth}
use Rattle.moo_tree.specs.ExpressionView.{arguments_of, items_of}
use Rattle.moo_tree.specs.declared.expression.Argument.{Argument}
use Rattle.moo_tree.specs.declared.expression.Argument.TheVariants.{Value, Splice}
use Rattle.moo_tree.specs.declared.expression.Item.{Item}
use Rattle.moo_tree.specs.declared.expression.Item.TheVariants.{Required, Optional, Rest, Default}
use Rattle.moo_printer.specs.Written.{one_argument, one_item}

pub more_arguments : (a : Argument) (es : List Argument) → further_arguments (arguments_of (a ∷ es)) ≡ 44 ∷ 32 ∷ (one_argument a ++ further_arguments (arguments_of es))
more_arguments (Value e) es = refl
more_arguments (Splice e) es = refl

pub more_items : (x : Item) (xs : List Item) → further_items (items_of (x ∷ xs)) ≡ 44 ∷ 32 ∷ (one_item x ++ further_items (items_of xs))
more_items (Required x) xs = refl
more_items (Optional x) xs = refl
more_items (Rest x) xs = refl
more_items (Default x e) xs = refl

pub other_arguments : (a : Argument) (es : List Argument) → arguments_depth (arguments_of es) ≤ arguments_depth (arguments_of (a ∷ es))
other_arguments (Value e) es = omega arith
other_arguments (Splice e) es = omega arith

pub other_items : (x : Item) (xs : List Item) → items_depth (items_of xs) ≤ items_depth (items_of (x ∷ xs))
other_items (Required x) xs = omega arith
other_items (Optional x) xs = omega arith
other_items (Rest x) xs = omega arith
other_items (Default x e) xs = omega arith
