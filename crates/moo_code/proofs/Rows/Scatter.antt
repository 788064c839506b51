-- The row of scattering assignment: first the right side, then what is given, then the defaults of what is missing.
use Rattle.std.proofs.Common.{◌≡◌, ℕ, zero, suc, ◌+◌, ◌==◌, List, [], ◌∷◌, ◌++◌, length, true, false, cond, Option, Some, None, if◌then◌else◌, refl, sym, ap, ◌∙◌, subst, arith}
use Rattle.std.specs.Prelude.{option_map}
use Rattle.spec_value.specs.Datum.{Datum}
use Rattle.spec_value.specs.Scatter.{Scattering, gets, refuses, scattered, required_target, optional_target, rest_target}
use Rattle.spec_program.specs.Tree.{Expr, scatter, Items, no_items, required, optional, remaining, defaulted}
use Rattle.spec_program.specs.Construct.{Construct, of_expr, of_default}
use Rattle.spec_program.specs.Place.{Part, part, nth, item_parts, any_list}
use Rattle.spec_moo.specs.Scene.{Scene}
use Rattle.spec_moo.specs.Effect.{Effect, takes}
use Rattle.spec_moo.specs.Effects.Scatter.{item_kinds, item_count, given, all_given, missing, default_or_end, assigned, defaults_after, scattered_effect}
use Rattle.spec_moo.specs.Tables.{effect}
use Rattle.moo_code.specs.Instruction as code
use Rattle.moo_code.specs.Instruction.{Slot, as_value, placed, scatter_on, store_default}
use Rattle.moo_code.specs.Layout.{Around, Layout, stop, own, inner, plain, above, expr_layout, slots_of, default_parts, items_layout, layout}
use Rattle.moo_code.specs.Performing.{performed, items_of}
use Rattle.moo_code.specs.Machine.{place_for}
use Rattle.moo_code.proofs.Fits.{HoldsIn, Fits, FitsOn, Does}
use Rattle.moo_code.proofs.Suiting.{Good, good_one}
use Rattle.moo_code.proofs.Rows.Expressions.{Row}
use Rattle.moo_code.proofs.Rows.Targets.{same_one}
use Rattle.moo_code.proofs.Rows.Numbers.{same_number, smaller_number, place_same, place_fallen, Placed, placed_here, placed_later}

-- ---- items without their defaults

kinds_same : (xs : Items) → item_kinds (items_of (slots_of xs)) ≡ item_kinds xs
kinds_same no_items = refl
kinds_same (required y more) = ap (λ z. required_target ∷ z) (kinds_same more)
kinds_same (optional y more) = ap (λ z. optional_target ∷ z) (kinds_same more)
kinds_same (remaining y more) = ap (λ z. rest_target ∷ z) (kinds_same more)
kinds_same (defaulted y e more) = ap (λ z. optional_target ∷ z) (kinds_same more)

given_same : (xs : Items) (vs : List (Option Datum)) (e : Effect) → all_given (items_of (slots_of xs)) vs e ≡ all_given xs vs e
given_same no_items vs e = refl
given_same (required y more) [] e = refl
given_same (optional y more) [] e = refl
given_same (remaining y more) [] e = refl
given_same (defaulted y d more) [] e = refl
given_same (required y more) (v ∷ vs) e = ap (given y v) (given_same more vs e)
given_same (optional y more) (v ∷ vs) e = ap (given y v) (given_same more vs e)
given_same (remaining y more) (v ∷ vs) e = ap (given y v) (given_same more vs e)
given_same (defaulted y d more) (v ∷ vs) e = ap (given y v) (given_same more vs e)

missing_same : (n : ℕ) (xs : Items) (vs : List (Option Datum)) → missing n (items_of (slots_of xs)) vs ≡ missing n xs vs
missing_same n no_items vs = refl
missing_same zero (required y more) [] = refl
missing_same zero (optional y more) [] = refl
missing_same zero (remaining y more) [] = refl
missing_same zero (defaulted y d more) [] = refl
missing_same (suc n) (required y more) [] = refl
missing_same (suc n) (optional y more) [] = refl
missing_same (suc n) (remaining y more) [] = refl
missing_same (suc n) (defaulted y d more) [] = refl
missing_same zero (required y more) (v ∷ vs) = ap (option_map suc) (missing_same zero more vs)
missing_same zero (optional y more) (v ∷ vs) = ap (option_map suc) (missing_same zero more vs)
missing_same zero (remaining y more) (v ∷ vs) = ap (option_map suc) (missing_same zero more vs)
missing_same zero (defaulted y d more) (None ∷ vs) = refl
missing_same zero (defaulted y d more) (Some v ∷ vs) = ap (option_map suc) (missing_same zero more vs)
missing_same (suc n) (required y more) (v ∷ vs) = ap (option_map suc) (missing_same n more vs)
missing_same (suc n) (optional y more) (v ∷ vs) = ap (option_map suc) (missing_same n more vs)
missing_same (suc n) (remaining y more) (v ∷ vs) = ap (option_map suc) (missing_same n more vs)
missing_same (suc n) (defaulted y d more) (v ∷ vs) = ap (option_map suc) (missing_same n more vs)

assigned_same : (s : Scene) (xs : Items) (l : Datum) (r : Scattering) → assigned s (items_of (slots_of xs)) l r ≡ assigned s xs l r
assigned_same s xs l (refuses e) = refl
assigned_same s xs l (gets vs) = given_same xs vs _ ∙ ap (λ m. all_given xs vs (default_or_end s l m)) (missing_same 0 xs vs)

after_same : (s : Scene) (xs : Items) (n : ℕ) (l : Datum) (r : Scattering) → defaults_after s (items_of (slots_of xs)) n l r ≡ defaults_after s xs n l r
after_same s xs n l (refuses e) = refl
after_same s xs n l (gets vs) = ap (default_or_end s l) (missing_same n xs vs)

-- ---- the default of what is missing is a part, and its place is known

abbrev Found : ℕ → Items → List Part → ℕ → Type 0
Found j xs tail m = ((i : ℕ) → i ≡ j + m → Placed (default_parts j xs) i) × HoldsIn (nth (item_parts xs ++ tail) m) 1

number_or : Option ℕ → ℕ
number_or None = 0
number_or (Some n) = n

one_less : (o : Option ℕ) (m : ℕ) → option_map suc o ≡ Some m → (k : ℕ) × (o ≡ Some k) × (m ≡ suc k)
unfolding number_or
one_less None m e = cc
one_less (Some k) m e = (k, refl, sym (ap (λ o. number_or o) e))

-- behind an item that is no default
plainly : (j : ℕ) (more : Items) (tail : List Part) (p : Part) (o : Option ℕ) (m : ℕ) → option_map suc o ≡ Some m → ((k : ℕ) → o ≡ Some k → Found (suc j) more tail k)
    → ((i : ℕ) → i ≡ j + m → Placed (default_parts (suc j) more) i) × HoldsIn (nth (p ∷ (item_parts more ++ tail)) m) 1
plainly j more tail p o m e r =
    let k = one_less o m e in
    ((λ i is. (r k.0 k.1).0 i (omega (arith, is, k.2))), subst (λ z. HoldsIn (nth (p ∷ (item_parts more ++ tail)) z) 1) (sym k.2) (r k.0 k.1).1)

behind : (j : ℕ) (more : Items) (tail : List Part) (p : Part) (o : Option ℕ) (m : ℕ) → option_map suc o ≡ Some m → ((k : ℕ) → o ≡ Some k → Found (suc j) more tail k)
    → ((i : ℕ) → i ≡ j + m → Placed (j ∷ default_parts (suc j) more) i) × HoldsIn (nth (p ∷ (item_parts more ++ tail)) m) 1
behind j more tail p o m e r = let k = plainly j more tail p o m e r in ((λ i is. placed_later j i (default_parts (suc j) more) (k.0 i is)), k.1)

found : (n : ℕ) (xs : Items) (vs : List (Option Datum)) (j : ℕ) (tail : List Part) (m : ℕ) → missing n xs vs ≡ Some m → Found j xs tail m
found n no_items vs j tail m e = cc
found zero (required y more) [] j tail m e = cc
found zero (optional y more) [] j tail m e = cc
found zero (remaining y more) [] j tail m e = cc
found zero (defaulted y d more) [] j tail m e = cc
found (suc n) (required y more) [] j tail m e = cc
found (suc n) (optional y more) [] j tail m e = cc
found (suc n) (remaining y more) [] j tail m e = cc
found (suc n) (defaulted y d more) [] j tail m e = cc
found zero (required y more) (v ∷ vs) j tail m e = plainly j more tail _ (missing zero more vs) m e (λ k h. found zero more vs (suc j) tail k h)
found zero (optional y more) (v ∷ vs) j tail m e = plainly j more tail _ (missing zero more vs) m e (λ k h. found zero more vs (suc j) tail k h)
found zero (remaining y more) (v ∷ vs) j tail m e = plainly j more tail _ (missing zero more vs) m e (λ k h. found zero more vs (suc j) tail k h)
found zero (defaulted y d more) (None ∷ vs) j tail m e = by m e
  where
    by : (m : ℕ) → Some 0 ≡ Some m → ((i : ℕ) → i ≡ j + m → Placed (j ∷ default_parts (suc j) more) i) × HoldsIn (nth (part (of_default y d) (any_list ∷ []) ∷ (item_parts more ++ tail)) m) 1
    by zero e = ((λ i is. placed_here j i (default_parts (suc j) more) (omega (arith, is))), (refl, tt))
    by (suc m) e = cc
found zero (defaulted y d more) (Some v ∷ vs) j tail m e = behind j more tail (part (of_default y d) (any_list ∷ [])) (missing zero more vs) m e (λ k h. found zero more vs (suc j) tail k h)
found (suc n) (required y more) (v ∷ vs) j tail m e = plainly j more tail _ (missing n more vs) m e (λ k h. found n more vs (suc j) tail k h)
found (suc n) (optional y more) (v ∷ vs) j tail m e = plainly j more tail _ (missing n more vs) m e (λ k h. found n more vs (suc j) tail k h)
found (suc n) (remaining y more) (v ∷ vs) j tail m e = plainly j more tail _ (missing n more vs) m e (λ k h. found n more vs (suc j) tail k h)
found (suc n) (defaulted y d more) (v ∷ vs) j tail m e = behind j more tail (part (of_default y d) (any_list ∷ [])) (missing n more vs) m e (λ k h. found n more vs (suc j) tail k h)

-- ---- the row

module _ (items : Items) (e0 : Expr) (x : Around) where
  abbrev c : Construct
  c = of_expr (scatter items e0)

  abbrev all : List Part
  all = item_parts items ++ part (of_expr e0) [] ∷ []

  -- a jump to each default, and the end
  default_good : (after : ℕ) (to : ℕ → ℕ) (ns : List ℕ) (l : Layout) (s : Scene) (v : Datum) → place_for after (placed to ns) 0 ≡ to 0 → ((i : ℕ) → Placed (default_parts 1 items) i → place_for after (placed to ns) i ≡ to i)
      → (n : ℕ) (vs : List (Option Datum)) (o : Option ℕ) → missing n items vs ≡ o → Good c after to ns l as_value (default_or_end s v o)
  default_good after to ns l s v end known n vs None is = (end, tt)
  default_good after to ns l s v end known n vs (Some m) is =
      let f = found n items vs 1 (part (of_expr e0) [] ∷ []) m is in
      (known (suc m) (f.0 (suc m) (omega arith)), f.1)

  given_good : (after : ℕ) (to : ℕ → ℕ) (ns : List ℕ) (l : Layout) (xs : Items) (vs : List (Option Datum)) (e : Effect) → Good c after to ns l as_value e → Good c after to ns l as_value (all_given xs vs e)
  given_good after to ns l no_items vs e h = h
  given_good after to ns l (required y more) [] e h = h
  given_good after to ns l (optional y more) [] e h = h
  given_good after to ns l (remaining y more) [] e h = h
  given_good after to ns l (defaulted y d more) [] e h = h
  given_good after to ns l (required y more) (None ∷ vs) e h = given_good after to ns l more vs e h
  given_good after to ns l (optional y more) (None ∷ vs) e h = given_good after to ns l more vs e h
  given_good after to ns l (remaining y more) (None ∷ vs) e h = given_good after to ns l more vs e h
  given_good after to ns l (defaulted y d more) (None ∷ vs) e h = given_good after to ns l more vs e h
  given_good after to ns l (required y more) (Some v ∷ vs) e h = given_good after to ns l more vs e h
  given_good after to ns l (optional y more) (Some v ∷ vs) e h = given_good after to ns l more vs e h
  given_good after to ns l (remaining y more) (Some v ∷ vs) e h = given_good after to ns l more vs e h
  given_good after to ns l (defaulted y d more) (Some v ∷ vs) e h = given_good after to ns l more vs e h

  assigned_good : (after : ℕ) (to : ℕ → ℕ) (s : Scene) (v : Datum) → after ≡ to 0 → (r : Scattering) → Good c after to (default_parts 1 items) stop as_value (assigned s items v r)
  assigned_good after to s v end (refuses e) = (place_fallen after to 0 (default_parts 1 items) end, tt)
  assigned_good after to s v end (gets vs) =
      given_good after to (default_parts 1 items) stop items vs (default_or_end s v (missing 0 items vs))
      (default_good after to (default_parts 1 items) stop s v (place_fallen after to 0 (default_parts 1 items) end) (λ i h. h after to) 0 vs (missing 0 items vs) refl)

  later_good : (after : ℕ) (to : ℕ → ℕ) (l : Layout) (s : Scene) (n : ℕ) (v : Datum) (r : Scattering) → Good c after to (0 ∷ default_parts 1 items) l as_value (defaults_after s items n v r)
  later_good after to l s n v (refuses e) = (refl, tt)
  later_good after to l s n v (gets vs) = default_good after to (0 ∷ default_parts 1 items) l s v refl (λ i h. placed_later 0 i (default_parts 1 items) h after to) n vs (missing n items vs) refl

  scatter_does : (n : ℕ) → n ≡ item_count items → Does x c (suc n) (code.scatter (slots_of items)) (default_parts 1 items) stop
  unfolding performed effect
  scatter_does n is f vars g ps ks st s vs to after sees count falls =
      let same : (suc n == suc (item_count items)) ≡ true = ap (λ z. suc z == suc (item_count items)) is ∙ same_number (suc (item_count items)) in
      let go : Datum → Effect = λ v. assigned s items v (scattered (item_kinds items) v) in
      let whole : (v : Datum) → scattered_effect s items (suc n) v ≡ go v =
      λ v. ap (λ b. if b then go v else defaults_after s items (suc n) v (scattered (item_kinds items) v)) same in
      let plain_too : (v : Datum) → assigned s (items_of (slots_of items)) v (scattered (item_kinds (items_of (slots_of items))) v) ≡ go v =
      λ v. assigned_same s items v (scattered (item_kinds (items_of (slots_of items))) v) ∙ ap (λ z. assigned s items v (scattered z v)) (kinds_same items) in
      let e = same_one s (scattered_effect s items (suc n)) go whole vs in (
        same_one s _ go plain_too vs ∙ sym e,
        sym (ap (λ b. cond b 1 0) same),
        subst (Good c after to (default_parts 1 items) stop as_value) (sym e)
            (good_one c after to (default_parts 1 items) stop as_value s go vs count (λ v. assigned_good after to s v (falls.0 refl) (scattered (item_kinds items) v))),
      )

  later_does : (n k : ℕ) (l : Layout) → n + suc k ≡ item_count items → Does x c (suc n) (scatter_on (slots_of items) (suc n)) (0 ∷ default_parts 1 items) l
  unfolding performed effect
  later_does n k l is f vars g ps ks st s vs to after sees count falls =
      let other : (suc n == suc (item_count items)) ≡ false = smaller_number (suc n) (suc (item_count items)) (omega (arith, is)) in
      let go : Datum → Effect = λ v. defaults_after s items (suc n) v (scattered (item_kinds items) v) in
      let whole : (v : Datum) → scattered_effect s items (suc n) v ≡ go v =
      λ v. ap (λ b. if b then assigned s items v (scattered (item_kinds items) v) else go v) other in
      let plain_too : (v : Datum) → defaults_after s (items_of (slots_of items)) (suc n) v (scattered (item_kinds (items_of (slots_of items))) v) ≡ go v =
      λ v. after_same s items (suc n) v (scattered (item_kinds (items_of (slots_of items))) v) ∙ ap (λ z. defaults_after s items (suc n) v (scattered z v)) (kinds_same items) in
      let e = same_one s (scattered_effect s items (suc n)) go whole vs in (
        same_one s _ go plain_too vs ∙ sym e,
        sym (ap (λ b. cond b 1 0) other),
        subst (Good c after to (0 ∷ default_parts 1 items) l as_value) (sym e)
            (good_one c after to (0 ∷ default_parts 1 items) l as_value s go vs count (λ v. later_good after to l s (suc n) v (scattered (item_kinds items) v))),
      )

  abbrev last : Layout
  last = inner (plain (of_expr e0)) (expr_layout (above x 0) e0) (own (code.scatter (slots_of items)) (default_parts 1 items) stop)

  items_on : (xs : Items) (n : ℕ) → n + item_count xs ≡ item_count items
      → FitsOn x c n (item_parts xs ++ part (of_expr e0) [] ∷ []) (items_layout (above x 1) (slots_of items) (default_parts 1 items) (suc n) xs last)
  items_on no_items n is = (λ s h l. (refl, refl), (refl, refl, refl, (refl, refl, scatter_does n (omega (arith, is)), tt)))
  items_on (required y more) n is = (refl, items_on more (suc n) (omega (arith, is)))
  items_on (optional y more) n is = (refl, items_on more (suc n) (omega (arith, is)))
  items_on (remaining y more) n is = (refl, items_on more (suc n) (omega (arith, is)))
  items_on (defaulted y e more) n is =
      (λ s h l. (refl, refl), (refl, refl, refl, (refl, refl, later_does n (item_count more) (items_layout (above x 1) (slots_of items) (default_parts 1 items) (suc (suc n)) more last) is, items_on more (suc n) (omega (arith, is)))))

  nth_last : (xs : Items) → HoldsIn (nth (item_parts xs ++ part (of_expr e0) [] ∷ []) (item_count xs)) 0
  nth_last no_items = (refl, tt)
  nth_last (required y more) = nth_last more
  nth_last (optional y more) = nth_last more
  nth_last (remaining y more) = nth_last more
  nth_last (defaulted y e more) = nth_last more

  pub scatter_fits_here : Fits x c 0 0 all (layout x c)
  unfolding performed effect
  scatter_fits_here = (
    refl,
    refl,
    (λ f vars g ps ks st s vs to after sees count falls. (
      none_left vs count,
      sym (ap (λ b. cond b 1 0) (smaller_number 0 (suc (item_count items)) (omega arith))),
      (place_same after to (suc (item_count items)) [], nth_last items),
    )),
    items_on items 0 (omega arith),
  )
    where
      none_left : (vs : List Datum) → length vs ≡ 0 → takes (suc (item_count items)) (vs ++ []) ≡ takes (suc (item_count items)) []
      none_left [] n = refl
      none_left (v ∷ vs) n = absurd (omega (arith, n))

pub scatter_fits : (xs : Items) (e : Expr) → Row (of_expr (scatter xs e))
scatter_fits xs e x = scatter_fits_here xs e x
