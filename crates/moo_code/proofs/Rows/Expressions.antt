-- Rows of expressions and targets whose parts are counted by numbers.
use Rattle.std.proofs.Common.{◌≡◌, ℕ, zero, suc, [], ◌∷◌, length, if◌then◌else◌, refl, sym, ap}
use Rattle.spec_value.specs.Datum.{Datum, Text, is_true}
use Rattle.spec_value.specs.Operators.{unary_value, binary_value}
use Rattle.spec_value.specs.Indexing.{index_value, range_value}
use Rattle.spec_program.specs.Tree.{Expr, literal, variable, own_length, unary, binary, both, either, conditional, property, index, range, to_variable, to_property}
use Rattle.spec_program.specs.Construct.{Construct, of_expr, of_target}
use Rattle.spec_program.specs.Place.{parts, any_value}
use Rattle.std.specs.Prelude.{replicate}
use Rattle.spec_moo.specs.Effect.{hands, takes, answered}
use Rattle.spec_moo.specs.Properties.{read}
use Rattle.spec_moo.specs.Effects.Access.{variable_value}
use Rattle.spec_moo.specs.Effects.Lists.{length_in}
use Rattle.spec_moo.specs.Tables.{effect}
use Rattle.moo_code.specs.Instruction.{as_value, chosen}
use Rattle.moo_code.specs.Layout.{Around, stop, own, inner, plain, layout, above}
use Rattle.moo_code.specs.Performing.{performed}
use Rattle.moo_code.specs.Stands.{first_size}
use Rattle.moo_code.proofs.Fits.{Fits}
use Rattle.moo_code.proofs.Suiting.{good_one, good_if, answer, one_answers, two_answer, three_answer}

abbrev pub Row : Construct → Type 0
Row c = (x : Around) → Fits x c 0 (first_size c) (parts c) (layout x c)

pub literal_fits : (v : Datum) → Row (of_expr (literal v))
unfolding performed effect
literal_fits v x = (refl, refl, λ f vars g ps ks st s vs to after sees count falls. (refl, refl, (falls.0 refl, tt)), tt)

pub variable_fits : (y : Text) → Row (of_expr (variable y))
unfolding performed effect
variable_fits y x = (refl, refl, λ f vars g ps ks st s vs to after sees count falls. (refl, refl, answer (variable y) after to [] stop (falls.0 refl) s (variable_value vars y)), tt)

pub length_fits : Row (of_expr own_length)
unfolding performed effect
length_fits x = (refl, refl, λ f vars g ps ks st s vs to after sees count falls. (ap (λ a. answered s (length_in a)) (sym (sees.2 s g)), refl, answer own_length after to [] stop (falls.0 refl) s _), tt)

pub unary_fits : (u : _) (a : Expr) → Row (of_expr (unary u a))
unfolding performed effect
unary_fits u a x = (
  refl,
  refl,
  (
    λ s h l. (refl, refl),
    (
      refl,
      refl,
      refl,
      (refl, refl, λ f vars g ps ks st s vs to after sees count falls. (refl, refl, one_answers (unary u a) after to [] stop (falls.0 refl) s (unary_value u) vs), tt),
    ),
  ),
)

pub binary_fits : (op : _) (a b : Expr) → Row (of_expr (binary op a b))
unfolding performed effect
binary_fits op a b x = (
  refl,
  refl,
  (
    λ s h l. (refl, refl),
    (
      refl,
      refl,
      refl,
      (
        refl,
        refl,
        (
          λ s h l. (refl, refl),
          (
            refl,
            refl,
            refl,
            (refl, refl, λ f vars g ps ks st s vs to after sees count falls. (refl, refl, two_answer (binary op a b) after to [] stop (falls.0 refl) s (binary_value op) vs), tt),
          ),
        ),
      ),
    ),
  ),
)

pub property_fits : (o p : Expr) → Row (of_expr (property o p))
unfolding performed effect
property_fits o p x = (
  refl,
  refl,
  (
    λ s h l. (refl, refl),
    (
      refl,
      refl,
      refl,
      (
        refl,
        refl,
        (
          λ s h l. (refl, refl),
          (
            refl,
            refl,
            refl,
            (refl, refl, λ f vars g ps ks st s vs to after sees count falls. (refl, refl, two_answer (property o p) after to [] stop (falls.0 refl) s (read s.world f.call.programmer) vs), tt),
          ),
        ),
      ),
    ),
  ),
)

pub index_fits : (a i : Expr) → Row (of_expr (index a i))
unfolding performed effect
index_fits a i x = (
  refl,
  refl,
  (
    λ s h l. (refl, refl),
    (
      refl,
      refl,
      refl,
      (
        refl,
        refl,
        (
          λ s h l. (refl, refl),
          (
            refl,
            refl,
            refl,
            (refl, refl, λ f vars g ps ks st s vs to after sees count falls. (refl, refl, two_answer (index a i) after to [] stop (falls.0 refl) s index_value vs), tt),
          ),
        ),
      ),
    ),
  ),
)

pub range_fits : (a i j : Expr) → Row (of_expr (range a i j))
unfolding performed effect
range_fits a i j x = (
  refl,
  refl,
  (
    λ s h l. (refl, refl),
    (
      refl,
      refl,
      refl,
      (
        refl,
        refl,
        (
          λ s h l. (refl, refl),
          (
            refl,
            refl,
            refl,
            (
              refl,
              refl,
              (
                λ s h l. (refl, refl),
                (
                  refl,
                  refl,
                  refl,
                  (refl, refl, λ f vars g ps ks st s vs to after sees count falls. (refl, refl, three_answer (range a i j) after to [] stop (falls.0 refl) s range_value vs), tt),
                ),
              ),
            ),
          ),
        ),
      ),
    ),
  ),
)

-- ---- one part or the other

pub both_fits : (a b : Expr) → Row (of_expr (both a b))
unfolding performed effect
both_fits a b x =
    let l = inner (plain (of_expr b)) (layout (above x 0) (of_expr b)) stop in (
      refl,
      refl,
      (
        λ s h l. (refl, refl),
        (
          refl,
          refl,
          refl,
          (
            refl,
            refl,
            (λ f vars g ps ks st s vs to after sees count falls. (
              refl,
              refl,
              good_one (of_expr (both a b)) after to (0 ∷ []) l as_value s (λ v. if is_true v then takes 2 [] else hands s v) vs count
                  (λ v. good_if (of_expr (both a b)) after to (0 ∷ []) l as_value (is_true v) (takes 2 []) (hands s v) (falls.1 tt, (refl, tt)) (refl, tt)),
            )),
            (λ s h l. (refl, refl), (refl, refl, refl, (refl, refl))),
          ),
        ),
      ),
    )

pub either_fits : (a b : Expr) → Row (of_expr (either a b))
unfolding performed effect
either_fits a b x =
    let l = inner (plain (of_expr b)) (layout (above x 0) (of_expr b)) stop in (
      refl,
      refl,
      (
        λ s h l. (refl, refl),
        (
          refl,
          refl,
          refl,
          (
            refl,
            refl,
            (λ f vars g ps ks st s vs to after sees count falls. (
              refl,
              refl,
              good_one (of_expr (either a b)) after to (0 ∷ []) l as_value s (λ v. if is_true v then hands s v else takes 2 []) vs count
                  (λ v. good_if (of_expr (either a b)) after to (0 ∷ []) l as_value (is_true v) (hands s v) (takes 2 []) (refl, tt) (falls.1 tt, (refl, tt))),
            )),
            (λ s h l. (refl, refl), (refl, refl, refl, (refl, refl))),
          ),
        ),
      ),
    )

pub conditional_fits : (c a b : Expr) → Row (of_expr (conditional c a b))
unfolding performed effect
conditional_fits c a b x =
    let l2 = inner (plain (of_expr b)) (layout (above x 0) (of_expr b)) stop in
    let l = inner (plain (of_expr a)) (layout (above x 0) (of_expr a)) (own chosen (0 ∷ []) l2) in
    let d = of_expr (conditional c a b) in (
      refl,
      refl,
      (
        λ s h l. (refl, refl),
        (
          refl,
          refl,
          refl,
          (
            refl,
            refl,
            (λ f vars g ps ks st s vs to after sees count falls. (
              refl,
              refl,
              good_one d after to (3 ∷ []) l as_value s (λ v. if is_true v then takes 2 [] else takes 3 []) vs count
                  (λ v. good_if d after to (3 ∷ []) l as_value (is_true v) (takes 2 []) (takes 3 []) (falls.1 tt, (refl, tt)) (refl, (refl, tt))),
            )),
            (
              λ s h l. (refl, refl),
              (
                refl,
                refl,
                refl,
                (
                  refl,
                  refl,
                  (λ f vars g ps ks st s vs to after sees count falls. (refl, refl, good_one d after to (0 ∷ []) l2 as_value s (λ v. hands s v) vs count (λ v. (refl, tt)))),
                  (λ s h l. (refl, refl), (refl, refl, refl, (refl, refl))),
                ),
              ),
            ),
          ),
        ),
      ),
    )

-- ---- targets

pub many_values : (n : ℕ) → length (replicate n any_value) ≡ n
many_values zero = refl
many_values (suc n) = ap suc (many_values n)

pub variable_target_fits : (y : Text) → Row (of_target (to_variable y))
variable_target_fits y x = (refl, refl)

pub property_target_fits : (o p : Expr) → Row (of_target (to_property o p))
property_target_fits o p x =
    (refl, refl, (λ s h l. (refl, refl), (refl, refl, refl, (refl, refl, (λ s h l. (refl, refl), (refl, refl, refl, (refl, refl)))))))
