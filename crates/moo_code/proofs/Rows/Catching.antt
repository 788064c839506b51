-- The row of a caught expression: its codes, then the expression, then perhaps a default.
use Rattle.std.proofs.Common.{◌≡◌, ℕ, suc, ◌+◌, ◌==◌, ◌||◌, List, [], ◌∷◌, ◌++◌, length, Bool, true, false, cond, Some, None, if◌then◌else◌, refl, sym, ap, ◌∙◌, subst, drop, arith}
use Rattle.std.proofs.lemmas.List.{append-nil}
use Rattle.spec_value.specs.Datum.{Datum}
use Rattle.spec_program.specs.Tree.{Expr, caught, Arguments, no_arguments, argument, splice, Codes, any_code, codes_in, Fallback, the_code, instead}
use Rattle.spec_program.specs.Construct.{Construct, of_expr}
use Rattle.spec_program.specs.Place.{Kind, any_list, Part, part, nth, part_at, argument_parts, code_parts, fallback_parts}
use Rattle.spec_moo.specs.Scene.{Scene}
use Rattle.spec_moo.specs.Leaving.{Leaving, returned, failed, broken, continued, takes_code}
use Rattle.spec_moo.specs.Held.{beside, listed, spliced, argument_ways, code_ways, nth_way}
use Rattle.spec_moo.specs.Effect.{Effect, hands, takes, on_two}
use Rattle.spec_moo.specs.Effects.Handlers.{argument_count, code_count, all_codes, no_codes, codes_known, codes_held, without_codes, expression_catches}
use Rattle.spec_moo.specs.Tables.{effect, has_step}
use Rattle.moo_code.specs.Instruction.{as_value, sign_parts, placed, caught_value, begin_part}
use Rattle.moo_code.specs.Layout.{Around, Layout, own, inner, watched, above, expr_layout, arguments_layout, end_codes, fallback_layout, caught_sign}
use Rattle.moo_code.specs.Performing.{performed, catches_by, passes_by}
use Rattle.moo_code.specs.Machine.{place_for}
use Rattle.moo_code.proofs.Fits.{HoldsIn, CaughtFits, Fits, FitsOn, Does}
use Rattle.moo_code.proofs.Suiting.{Good, good_two}
use Rattle.moo_code.proofs.Rows.Expressions.{Row}
use Rattle.moo_code.proofs.Rows.Lists.{drop_next, way_drop}
use Rattle.moo_code.proofs.Rows.Numbers.{same_number, smaller_number, greater_number, place_same}

pub arguments_end : (kinds : List Kind) (es : Arguments) (tail : List Part) → nth (argument_parts kinds es ++ tail) (argument_count es) ≡ nth tail 0
arguments_end kinds no_arguments tail = refl
arguments_end kinds (argument e more) tail = arguments_end kinds more tail
arguments_end kinds (splice e more) tail = arguments_end kinds more tail

pub codes_end : (kinds : List Kind) (codes : Codes) (tail : List Part) → nth (code_parts kinds codes ++ tail) (code_count codes) ≡ nth tail 0
codes_end kinds any_code tail = refl
codes_end kinds (codes_in es) tail = arguments_end kinds es tail

known_not_one : (codes : Codes) → (1 == codes_known codes) ≡ false
known_not_one any_code = refl
known_not_one (codes_in no_arguments) = refl
known_not_one (codes_in (argument e es)) = smaller_number 1 (suc (suc (argument_count es))) (omega arith)
known_not_one (codes_in (splice e es)) = smaller_number 1 (suc (suc (argument_count es))) (omega arith)

all_false : (a b c : Bool) → a ≡ false → b ≡ false → c ≡ false → ((a || b) || c) ≡ false
all_false a b c e f g = ap (λ z. (z || b) || c) e ∙ ap (λ z. z || c) f ∙ g

last_true : (a b c : Bool) → c ≡ true → ((a || b) || c) ≡ true
last_true true b c e = refl
last_true false true c e = refl
last_true false false c e = e

module _ (e : Expr) (codes : Codes) (d : Fallback) (x : Around) where
  abbrev c : Construct
  c = of_expr (caught e codes d)

  -- ---- what it catches

  caught_if : (to : ℕ → ℕ) (ns : List ℕ) (b : Bool) (f : Effect) → CaughtFits c (place_for 0 (placed to ns)) to 1 (Some f) → CaughtFits c (place_for 0 (placed to ns)) to 1 (cond b (Some f) None)
  caught_if to ns true f h = h
  caught_if to ns false f h = tt

  catching : (d' : Fallback) → d' ≡ d → (s : Scene) (held : List Datum) (l : Leaving) (to : ℕ → ℕ) → length held ≡ 1
      → (passes_by (caught_sign (suc (suc (code_count codes))) d') l ≡ l) × (catches_by s (caught_sign (suc (suc (code_count codes))) d') held l ≡ expression_catches s codes d' held l)
      × CaughtFits c (place_for 0 (placed to (sign_parts (caught_sign (suc (suc (code_count codes))) d')))) to 1 (expression_catches s codes d' held l)
  catching d' is s [] l to n = absurd (omega (arith, n))
  catching d' is s (v ∷ u ∷ held) l to n = absurd (omega (arith, n))
  catching the_code is s (v ∷ []) (returned w) to n = (refl, refl, tt)
  catching the_code is s (v ∷ []) (broken w) to n = (refl, refl, tt)
  catching the_code is s (v ∷ []) (continued w) to n = (refl, refl, tt)
  catching the_code is s (v ∷ []) (failed f) to n = (refl, refl, caught_if to (0 ∷ []) (takes_code v f.code) (hands s f.code) (refl, tt))
  catching (instead y) is s (v ∷ []) (returned w) to n = (refl, refl, tt)
  catching (instead y) is s (v ∷ []) (broken w) to n = (refl, refl, tt)
  catching (instead y) is s (v ∷ []) (continued w) to n = (refl, refl, tt)
  catching (instead y) is s (v ∷ []) (failed f) to n =
      let m = suc (suc (code_count codes)) in
      let there : nth (code_parts (any_list ∷ []) codes ++ fallback_parts d) (code_count codes) ≡ Some (part (of_expr y) []) =
      codes_end (any_list ∷ []) codes (fallback_parts d) ∙ ap (λ z. nth (fallback_parts z) 0) (sym is) in
      (refl, refl, caught_if to (m ∷ []) (takes_code v f.code) (takes m []) (place_same 0 to m [], subst (λ o. HoldsIn o 0) (sym there) (refl, tt)))

  -- ---- after the expression, and after its codes

  value_does : (l : Layout) → Does x c 1 caught_value (0 ∷ []) l
  unfolding performed effect
  value_does l f vars g ps ks st s vs to after sees count falls =
      let go : Effect = on_two s (λ c v. hands s v) vs in
      let same : (if 1 == codes_known codes then takes 1 (codes_held codes vs) else without_codes s 1 vs) ≡ go = ap (λ b. if b then takes 1 (codes_held codes vs) else go) (known_not_one codes) in (
        sym same,
        sym (ap (λ b. cond b 1 0) (known_not_one codes)),
        subst (Good c after to (0 ∷ []) l as_value) (sym same) (good_two c after to (0 ∷ []) l as_value s (λ c v. hands s v) vs count (λ c v. (refl, tt))),
      )

  fallback_on : (d' : Fallback) (k : ℕ) → nth_way (code_ways codes) k ≡ beside → has_step c (suc (suc k)) ≡ false → FitsOn x c (suc k) (fallback_parts d') (fallback_layout (above x 0) d')
  fallback_on the_code k z h = tt
  fallback_on (instead y) k z h = ((λ s h l. (refl, refl)), (refl, refl, z, (h, refl)))

module _ (e : Expr) (es0 : Arguments) (d : Fallback) (x : Around) (known : codes_known (codes_in es0) ≡ suc (argument_count es0)) (held_is : (vs : List Datum) → codes_held (codes_in es0) vs ≡ vs) where
  abbrev w : Construct
  w = of_expr (caught e (codes_in es0) d)

  abbrev Tail : Layout
  Tail = own (begin_part 1 1 1 []) (1 ∷ []) (fallback_layout (above x 0) d)

  is_known : (n : ℕ) → n ≡ suc (argument_count es0) → (n == codes_known (codes_in es0)) ≡ true
  is_known n h = ap (λ z. n == z) known ∙ ap (λ z. z == suc (argument_count es0)) h ∙ same_number (suc (argument_count es0))

  not_step : (k : ℕ) → (suc (suc k) == codes_known (codes_in es0)) ≡ false → has_step w (suc (suc k)) ≡ false
  not_step k h = all_false (suc (suc k) == 0) (suc (suc k) == 1) (suc (suc k) == codes_known (codes_in es0)) (greater_number (suc (suc k)) 0 (omega arith)) (greater_number (suc (suc k)) 1 (omega arith)) h

  known_does : (n : ℕ) → n ≡ suc (argument_count es0) → Does x w n (begin_part 1 1 1 []) (1 ∷ []) (fallback_layout (above x 0) d)
  unfolding performed effect
  known_does n h f vars g ps ks st s vs to after sees count falls =
      let same : (if n == codes_known (codes_in es0) then takes 1 (codes_held (codes_in es0) vs) else without_codes s n vs) ≡ takes 1 vs =
      ap (λ b. if b then takes 1 (codes_held (codes_in es0) vs) else without_codes s n vs) (is_known n h) ∙ ap (takes 1) (held_is vs) in (
        ap (takes 1) (append-nil vs) ∙ sym same,
        sym (ap (λ b. cond b 1 0) (is_known n h)),
        subst (Good w after to (1 ∷ []) (fallback_layout (above x 0) d) as_value) (sym same) (refl, (count, tt)),
      )

  abbrev Rest : Arguments → List Part
  Rest more = argument_parts (any_list ∷ []) more ++ fallback_parts d

  mutual
    codes_fit : (more : Arguments) (k : ℕ) → suc k + argument_count more ≡ argument_count es0 → drop (suc k) (argument_ways es0) ≡ argument_ways more
        → Fits x w (suc (suc k)) 1 (Rest more) (arguments_layout (above x 1) 1 as_value more Tail)
    codes_fit no_arguments k h z =
        let n : suc (suc k) ≡ suc (argument_count es0) = omega (arith, h) in
        let past : (suc (suc (suc k)) == codes_known (codes_in es0)) ≡ false = ap (λ y. suc (suc (suc k)) == y) known ∙ greater_number (suc (suc (suc k))) (suc (argument_count es0)) (omega (arith, h)) in
        (last_true (suc (suc k) == 0) (suc (suc k) == 1) (suc (suc k) == codes_known (codes_in es0)) (is_known (suc (suc k)) n), refl, known_does (suc (suc k)) n, fallback_on e (codes_in es0) d x d (suc k) (way_drop (suc k) (argument_ways es0) ∙ ap (λ y. nth_way y 0) z) (not_step (suc k) past))
    codes_fit (argument a more) k h z = (
      not_step k (ap (λ y. suc (suc k) == y) known ∙ smaller_number (suc (suc k)) (suc (argument_count es0)) (omega (arith, h))),
      refl,
      (λ s h l. (refl, refl), (refl, refl, (way_drop (suc k) (argument_ways es0) ∙ ap (λ y. nth_way y 0) z, tt, refl, tt, tt), codes_fit more (suc k) (omega (arith, h)) (drop_next (suc k) (argument_ways es0) listed (argument_ways more) z))),
    )
    codes_fit (splice a more) k h z = (
      not_step k (ap (λ y. suc (suc k) == y) known ∙ smaller_number (suc (suc k)) (suc (argument_count es0)) (omega (arith, h))),
      refl,
      (λ s h l. (refl, refl), (refl, refl, (way_drop (suc k) (argument_ways es0) ∙ ap (λ y. nth_way y 0) z, tt, refl, tt, tt), codes_fit more (suc k) (omega (arith, h)) (drop_next (suc k) (argument_ways es0) spliced (argument_ways more) z))),
    )

  begins : (l : Layout) → HoldsIn (part_at w 2) 1 → (0 == codes_known (codes_in es0)) ≡ false → Does x w 0 (begin_part 0 0 2 (no_codes ∷ [])) (2 ∷ []) l
  unfolding performed effect
  begins l holds h f vars g ps ks st s vs to after sees count falls =
      let same : (if 0 == codes_known (codes_in es0) then takes 1 (codes_held (codes_in es0) vs) else without_codes s 0 vs) ≡ takes 2 (no_codes ∷ []) =
      ap (λ b. if b then takes 1 (codes_held (codes_in es0) vs) else takes 2 (no_codes ∷ [])) h in
      (none_left vs count ∙ sym same, sym (ap (λ b. cond b 1 0) h), subst (Good w after to (2 ∷ []) l as_value) (sym same) (refl, holds))
    where
      none_left : (vs : List Datum) → length vs ≡ 0 → takes 2 (vs ++ no_codes ∷ []) ≡ takes 2 (no_codes ∷ [])
      none_left [] n = refl
      none_left (v ∷ vs) n = absurd (omega (arith, n))

-- ---- the row

one_held : (v : Datum) (vs : List Datum) → length vs ≡ 0 → takes 1 (vs ++ v ∷ []) ≡ takes 1 (v ∷ [])
one_held v [] n = refl
one_held v (u ∷ vs) n = absurd (omega (arith, n))

pub caught_fits : (e : Expr) (codes : Codes) (d : Fallback) → Row (of_expr (caught e codes d))
unfolding performed effect
caught_fits e any_code d x = (
  refl,
  refl,
  (λ f vars g ps ks st s vs to after sees count falls. (one_held all_codes vs count, refl, (refl, (refl, tt)))),
  ((refl, refl, catching e any_code d x d refl), (refl, refl, refl, (refl, refl, value_does e any_code d x (fallback_layout (above x 0) d), fallback_on e any_code d x d 0 refl refl))),
)
caught_fits e (codes_in no_arguments) d x = (
  refl,
  refl,
  (λ f vars g ps ks st s vs to after sees count falls. (one_held no_codes vs count, refl, (refl, (refl, tt)))),
  ((refl, refl, catching e (codes_in no_arguments) d x d refl), (refl, refl, refl, (refl, refl, value_does e (codes_in no_arguments) d x (fallback_layout (above x 0) d), fallback_on e (codes_in no_arguments) d x d 0 refl refl))),
)
caught_fits e (codes_in (argument a es)) d x =
    let l1 = arguments_layout (above x 1) 1 as_value (argument a es) (end_codes (argument a es) (fallback_layout (above x 0) d)) in
    let l = inner (watched x 1 (caught_sign (suc (suc (code_count (codes_in (argument a es))))) d) (of_expr e)) (expr_layout (above x 1) e) (own caught_value (0 ∷ []) l1) in
    let zero_not = smaller_number 0 (suc (suc (argument_count es))) (omega arith) in
    let n : 1 + argument_count es ≡ suc (argument_count es) = omega arith in (
      refl,
      refl,
      begins e (argument a es) d x refl (λ vs. refl) l (refl, tt) zero_not,
      (
        (refl, refl, catching e (codes_in (argument a es)) d x d refl),
        (
          refl,
          refl,
          refl,
          (
            refl,
            refl,
            value_does e (codes_in (argument a es)) d x l1,
            (λ s h l. (refl, refl), (refl, refl, (refl, tt, refl, tt, tt), codes_fit e (argument a es) d x refl (λ vs. refl) es 0 n refl)),
          ),
        ),
      ),
    )
caught_fits e (codes_in (splice a es)) d x =
    let l1 = arguments_layout (above x 1) 1 as_value (splice a es) (end_codes (splice a es) (fallback_layout (above x 0) d)) in
    let l = inner (watched x 1 (caught_sign (suc (suc (code_count (codes_in (splice a es))))) d) (of_expr e)) (expr_layout (above x 1) e) (own caught_value (0 ∷ []) l1) in
    let zero_not = smaller_number 0 (suc (suc (argument_count es))) (omega arith) in
    let n : 1 + argument_count es ≡ suc (argument_count es) = omega arith in (
      refl,
      refl,
      begins e (splice a es) d x refl (λ vs. refl) l (refl, tt) zero_not,
      (
        (refl, refl, catching e (codes_in (splice a es)) d x d refl),
        (
          refl,
          refl,
          refl,
          (
            refl,
            refl,
            value_does e (codes_in (splice a es)) d x l1,
            (λ s h l. (refl, refl), (refl, refl, (refl, tt, refl, tt, tt), codes_fit e (splice a es) d x refl (λ vs. refl) es 0 n refl)),
          ),
        ),
      ),
    )
