-- Rows of targets in brackets, of assignment, and of a scattering item's default.
use Rattle.std.proofs.Common.{◌≡◌, suc, ◌+◌, List, [], ◌∷◌, length, refl, sym, ap, ◌∙◌, arith, drop, replicate}
use Rattle.spec_value.specs.Datum.{Datum, Text}
use Rattle.spec_program.specs.Tree.{Expr, assignment, Target, to_index, to_range}
use Rattle.spec_program.specs.Construct.{of_expr, of_target, of_default}
use Rattle.spec_program.specs.Place.{arity, any_value}
use Rattle.spec_moo.specs.Scene.{Scene}
use Rattle.spec_moo.specs.Effect.{Effect, sets, ends, on_one}
use Rattle.spec_moo.specs.Effects.Access.{stored, stored_effect}
use Rattle.spec_moo.specs.Tables.{effect}
use Rattle.spec_moo.proofs.EffectTests.{of_one}
use Rattle.moo_code.specs.Instruction.{as_value, target_at, placed, shape_arity}
use Rattle.moo_code.specs.Layout.{stop, layout, in_brackets, above, shape_of}
use Rattle.moo_code.specs.Performing.{performed, target_of}
use Rattle.moo_code.specs.Machine.{place_for}
use Rattle.moo_code.proofs.Fits.{Suited}
use Rattle.moo_code.proofs.Suiting.{good_one, wrong, storing}
use Rattle.moo_code.proofs.Surroundings.{shape_arity_is, target_arity_is, stored_is}
use Rattle.moo_code.proofs.Rows.Expressions.{Row, many_values}

pub index_target_fits : (t : Target) (i : Expr) → Row (of_target (to_index t i))
index_target_fits t i x =
    let n = many_values (arity t) in
    let k : length (replicate (arity t) any_value) ≡ 0 + arity t = omega (arith, n) in
    let m : length (replicate (arity t) any_value) + 1 ≡ suc (arity t) = omega (arith, n) in (
      refl,
      refl,
      (
        λ s h l. (refl, refl),
        (
          refl,
          refl,
          refl,
          (
            refl,
            k,
            (
              λ s h l. (refl, refl),
              (refl, ap (λ z. layout (in_brackets x z (target_at (shape_of t) x.height)) (of_expr i)) (sym n), refl, (refl, m)),
            ),
          ),
        ),
      ),
    )

pub range_target_fits : (t : Target) (i j : Expr) → Row (of_target (to_range t i j))
range_target_fits t i j x =
    let n = many_values (arity t) in
    let k : length (replicate (arity t) any_value) ≡ 0 + arity t = omega (arith, n) in
    let n2 = many_values (suc (arity t)) in
    let k2 : length (replicate (suc (arity t)) any_value) ≡ length (replicate (arity t) any_value) + 1 = omega (arith, n, n2) in
    let m : length (replicate (suc (arity t)) any_value) + 1 ≡ suc (suc (arity t)) = omega (arith, n2) in (
      refl,
      refl,
      (
        λ s h l. (refl, refl),
        (
          refl,
          refl,
          refl,
          (
            refl,
            k,
            (
              λ s h l. (refl, refl),
              (
                refl,
                ap (λ z. layout (in_brackets x z (target_at (shape_of t) x.height)) (of_expr i)) (sym n),
                refl,
                (refl, k2, (λ s h l. (refl, refl), (refl, ap (λ z. layout (in_brackets x z (target_at (shape_of t) x.height)) (of_expr j)) (sym n2), refl, (refl, m)))),
              ),
            ),
          ),
        ),
      ),
    )

pub same_one : (s : Scene) (f g : Datum → Effect) → ((v : Datum) → f v ≡ g v) → (vs : List Datum) → on_one s f vs ≡ on_one s g vs
same_one s f g e [] = refl
same_one s f g e (v ∷ []) = e v
same_one s f g e (v ∷ u ∷ vs) = refl

pub assignment_fits : (t : Target) (e : Expr) → Row (of_expr (assignment t e))
unfolding performed effect
assignment_fits t e x =
    let n = many_values (arity t) in
    let k : length (replicate (arity t) any_value) ≡ 0 + arity t = omega (arith, n) in
    let m : suc (shape_arity (shape_of t)) ≡ length (replicate (arity t) any_value) + 1 = omega (arith, n, shape_arity_is t) in (
      refl,
      refl,
      (
        λ s h l. (refl, refl),
        (
          refl,
          refl,
          refl,
          (
            refl,
            k,
            (
              λ s h l. (refl, refl),
              (
                refl,
                ap (λ z. layout (above x z) (of_expr e)) (sym n),
                refl,
                (
                  refl,
                  m,
                  (λ f vars g ps ks st s vs to after sees count falls. (
                    ap (λ z. on_one s (λ v. stored_effect s v (stored s.world f.call.programmer vars (target_of (shape_of t)) vs v)) (drop z vs)) (target_arity_is t)
                        ∙ same_one s (λ v. stored_effect s v (stored s.world f.call.programmer vars (target_of (shape_of t)) vs v)) (λ v. stored_effect s v (stored s.world f.call.programmer vars t vs v)) (λ v. ap (stored_effect s v) (stored_is s.world f.call.programmer vars t vs v)) (drop (arity t) vs),
                    refl,
                    of_one (Suited (of_expr (assignment t e)) (place_for after (placed to [])) to stop as_value) (wrong (assignment t e) after to [] stop (falls.0 refl)) s (λ v. stored_effect s v (stored s.world f.call.programmer vars t vs v)) (drop (arity t) vs)
                        (λ v. storing (assignment t e) after to [] stop (falls.0 refl) s v (stored s.world f.call.programmer vars t vs v)),
                  )),
                  tt,
                ),
              ),
            ),
          ),
        ),
      ),
    )

pub default_fits : (y : Text) (e : Expr) → Row (of_default y e)
unfolding performed effect
default_fits y e x = (
  refl,
  refl,
  (
    λ s h l. (refl, refl),
    (
      refl,
      refl,
      refl,
      (
        refl,
        refl,
        (λ f vars g ps ks st s vs to after sees count falls. (
          refl,
          refl,
          good_one (of_default y e) after to [] stop as_value s (λ v. sets y v (ends s)) vs count (λ v. (falls.0 refl, (refl, refl))),
        )),
        tt,
      ),
    ),
  ),
)
