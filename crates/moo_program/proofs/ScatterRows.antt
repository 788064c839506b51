-- An item is put before those after it, and the items before what follows them.
use Rattle.std.proofs.Common.{◌≡◌, ◌<◌, ℕ, zero, suc, List, [], ◌∷◌, length, drop, refl, ap, arith}
use Rattle.std.specs.Prelude.{get_or}
use Rattle.spec_moo.specs.Effects.Scatter.{item_count}
use Rattle.spec_program.specs.Construct.{of_expr, of_default}
use Rattle.spec_program.specs.Tree.{Items, no_items, required, optional, remaining, defaulted}
use Rattle.moo_tree.specs.ExpressionView.{items_of}
use Rattle.moo_tree.specs.declared.expression.Item.{Item}
use Rattle.moo_tree.specs.declared.expression.Item.TheVariants.{Required, Optional, Rest, Default}
use Rattle.moo_code.specs.Instruction.{Slot, scatter_on}
use Rattle.moo_code.specs.Layout.{Around, Layout, stop, own, inner, plain, default_layout, items_layout}
use Rattle.moo_program.specs.Drafting.{State, over, with_gap}

pub items_counted : (xs : List Item) → item_count (items_of xs) ≡ length xs
items_counted [] = refl
items_counted (Required x ∷ xs) = ap suc (items_counted xs)
items_counted (Optional x ∷ xs) = ap suc (items_counted xs)
items_counted (Rest x ∷ xs) = ap suc (items_counted xs)
items_counted (Default x e ∷ xs) = ap suc (items_counted xs)

module _ (x : Around) (w : List Slot) (ds : List ℕ) where
  pub items_over : (n : ℕ) (xs : Items) (l : Layout) (s : State)
      → over (items_layout x w ds n xs l) s ≡ over (items_layout x w ds n xs stop) (over l s)
  items_over n no_items l s = refl
  items_over n (required y more) l s = ap with_gap (items_over (suc n) more l s)
  items_over n (optional y more) l s = ap with_gap (items_over (suc n) more l s)
  items_over n (remaining y more) l s = ap with_gap (items_over (suc n) more l s)
  items_over n (defaulted y e more) l s =
      ap (over (inner (plain (of_default y e)) (default_layout x y e) (own (scatter_on w n) (0 ∷ ds) stop))) (items_over (suc n) more l s)

  pub item_next : (m : ℕ) (xs : List Item) (i : ℕ) (d : Item) (s : State) → i < length xs
      → over (items_layout x w ds m (items_of (get_or xs i d ∷ [])) stop) (over (items_layout x w ds (suc m) (items_of (drop (suc i) xs)) stop) s)
      ≡ over (items_layout x w ds m (items_of (drop i xs)) stop) s
  item_next m [] i d s h = absurd (omega arith)
  item_next m (Required y ∷ xs) zero d s h = refl
  item_next m (Optional y ∷ xs) zero d s h = refl
  item_next m (Rest y ∷ xs) zero d s h = refl
  item_next m (Default y e ∷ xs) zero d s h = refl
  item_next m (y ∷ xs) (suc i) d s h = item_next m xs i d s (omega arith)
