-- Rows of statements without handlers, and of programs.
use Rattle.std.proofs.Common.{◌≡◌, ℕ, zero, suc, List, [], ◌∷◌, ◌++◌, length, Bool, true, false, cond, Option, Some, None, if◌then◌else◌, refl, sym, ap, subst, arith}
use Rattle.std.specs.Prelude.{ℤ, pos, negsuc, ◌+ℤ◌, int_le, option_map}
use Rattle.spec_value.specs.Datum.{Datum, integer, object, text, error, list, Data, Text, is_true, type_mismatch, limit_exceeded}
use Rattle.spec_program.specs.Tree.{Expr, evaluate, give, give_zero, for_each, for_range, repeat, fork, finished, leave_loop, next_turn, Program, the_end, seq}
use Rattle.spec_program.specs.Construct.{Construct, of_statement, of_program}
use Rattle.spec_program.specs.Place.{program_parts, part_at, tree_of}
use Rattle.spec_value.specs.Places.{item_at}
use Rattle.spec_moo.specs.Scene.{Scene, has_ids}
use Rattle.spec_moo.specs.Leaving.{Leaving, returned, failed, broken, continued, BodyLeft, ended, left_by, read_left}
use Rattle.spec_moo.specs.Effect.{takes, ends, leaves, erring}
use Rattle.spec_moo.specs.Pending.{Pending}
use Rattle.moo_code.specs.Stands.{pending}
use Rattle.spec_moo.specs.Effects.Loops.{Turn, turn_effect, list_turn, list_loop_effect, are_bounds, range_turn, range_turn_at, first_turn, later_turn, range_loop_effect, loop_catches}
use Rattle.spec_moo.specs.Effects.Handlers.{go_on_leaving}
use Rattle.spec_moo.specs.Effects.Forks.{fork_in, fork_after}
use Rattle.spec_moo.specs.Tables.{effect}
use Rattle.moo_code.specs.Instruction.{as_value, skipped, in_loop, placed, next_item, next_of_range, begin_part}
use Rattle.moo_code.specs.Layout.{Around, Layout, stop, own, inner, gap, watched, program_layout, in_body}
use Rattle.moo_code.specs.Performing.{performed}
use Rattle.moo_code.specs.Machine.{place_for}
use Rattle.moo_code.proofs.Fits.{IsEmpty, HoldsIn, CaughtFits, Fits}
use Rattle.moo_code.proofs.Suiting.{Good, good_one, good_if}
use Rattle.moo_code.proofs.Rows.Expressions.{Row}

pub evaluate_fits : (e : Expr) → Row (of_statement (evaluate e))
unfolding performed effect
evaluate_fits e x = (
  refl,
  refl,
  (
    λ s h l. (refl, refl),
    (
      refl,
      refl,
      refl,
      (
        refl,
        refl,
        (λ f vars g ps ks st s vs to after sees count falls. (
          refl,
          refl,
          good_one (of_statement (evaluate e)) after to [] stop as_value s (λ v. ends s) vs count (λ v. (falls.0 refl, (refl, refl))),
        )),
        tt,
      ),
    ),
  ),
)

pub give_fits : (e : Expr) → Row (of_statement (give e))
unfolding performed effect
give_fits e x = (
  refl,
  refl,
  (
    λ s h l. (refl, refl),
    (
      refl,
      refl,
      refl,
      (
        refl,
        refl,
        (λ f vars g ps ks st s vs to after sees count falls. (
          refl,
          refl,
          good_one (of_statement (give e)) after to [] stop as_value s (λ v. leaves (returned v)) vs count (λ v. tt),
        )),
        tt,
      ),
    ),
  ),
)

pub give_zero_fits : Row (of_statement give_zero)
unfolding performed effect
give_zero_fits x = (refl, refl, λ f vars g ps ks st s vs to after sees count falls. (refl, refl, tt), tt)

pub leave_fits : (y : Option Text) → Row (of_statement (leave_loop y))
unfolding performed effect
leave_fits y x = (refl, refl, λ f vars g ps ks st s vs to after sees count falls. (ap (λ n. leaves (broken n)) (sym (sees.1 y)), refl, tt), tt)

pub next_fits : (y : Option Text) → Row (of_statement (next_turn y))
unfolding performed effect
next_fits y x = (refl, refl, λ f vars g ps ks st s vs to after sees count falls. (ap (λ n. leaves (continued n)) (sym (sees.1 y)), refl, tt), tt)

-- ---- what a loop catches in its body

none_left : (vs : List Datum) → length vs ≡ 0 → (m : ℕ) → takes m (vs ++ []) ≡ takes m []
none_left [] n m = refl
none_left (v ∷ vs) n m = absurd (omega (arith, n))

loop_caught : (c : Construct) (to : ℕ → ℕ) (m : ℕ) (p : Program) → tree_of (part_at c m) ≡ Some (of_program p) → IsEmpty c → (s : Scene) (l : Leaving) → CaughtFits c (place_for 0 (placed to (0 ∷ []))) to m (loop_catches s l)
loop_caught c to m p tree none s (returned v) = tt
loop_caught c to m p tree none s (failed f) = tt
loop_caught c to m p tree none s (broken zero) = (refl, none)
loop_caught c to m p tree none s (broken (suc k)) = tt
loop_caught c to m p tree none s (continued zero) = (p, tree)
loop_caught c to m p tree none s (continued (suc k)) = tt

-- ---- loops

pub while_fits : (y : Option Text) (c : Expr) (p : Program) → Row (of_statement (repeat y c p))
unfolding performed effect
while_fits y c p x =
    let w = of_statement (repeat y c p) in
    let l = inner (watched x 0 in_loop (of_program p)) (program_layout (in_body x 0 y) p) (own (begin_part 0 0 1 []) (1 ∷ []) stop) in (
      refl,
      refl,
      (λ f vars g ps ks st s vs to after sees count falls. (none_left vs count 1, refl, (falls.1 tt, (refl, tt)))),
      (
        λ s h l. (refl, refl),
        (
          refl,
          refl,
          refl,
          (
            refl,
            refl,
            (λ f vars g ps ks st s vs to after sees count falls. (
              refl,
              refl,
              good_one w after to (0 ∷ []) l as_value s (λ v. if is_true v then takes 2 [] else ends s) vs count
                  (λ v. good_if w after to (0 ∷ []) l as_value (is_true v) (takes 2 []) (ends s) (falls.1 tt, (refl, tt)) (refl, (refl, refl))),
            )),
            (
              (refl, refl, λ s h l to n. (refl, refl, loop_caught w to 2 p refl (refl, refl) s l)),
              (
                refl,
                refl,
                refl,
                (refl, refl, (λ f vars g ps ks st s vs to after sees count falls. (none_left vs count 1, refl, (refl, (refl, tt)))), tt),
              ),
            ),
          ),
        ),
      ),
    )

-- a turn holds two values
abbrev HasTwo : Turn → Type 0
HasTwo None = Unit {0}
HasTwo (Some t) = length t.1 ≡ 2

item_two : (xs : Data) (k : ℕ) (o : Option Datum) → HasTwo (option_map (λ v. (v, list xs ∷ integer (pos (suc k)) ∷ [])) o)
item_two xs k None = tt
item_two xs k (Some v) = refl

list_two : (vs : List Datum) → HasTwo (list_turn vs)
list_two (list xs ∷ []) = item_two xs 0 (item_at xs 0)
list_two (list xs ∷ integer (pos k) ∷ []) = item_two xs k (item_at xs k)
list_two vs = tt

range_two : (kind : ℤ → Datum) (a b : ℤ) → HasTwo (range_turn kind a b)
range_two kind a b = by (int_le a b)
  where
    by : (z : Bool) → HasTwo (cond z (Some (kind a, kind a ∷ kind b ∷ [])) None)
    by true = refl
    by false = tt

first_two : (vs : List Datum) → HasTwo (first_turn vs)
first_two (integer a ∷ integer b ∷ []) = range_two (λ z. integer z) a b
first_two (object a ∷ object b ∷ []) = range_two (λ z. object z) a b
first_two vs = tt

later_two : (vs : List Datum) → HasTwo (later_turn vs)
later_two (integer a ∷ integer b ∷ []) = range_two (λ z. integer z) (a +ℤ pos 1) b
later_two (object a ∷ object b ∷ []) = range_two (λ z. object z) (a +ℤ pos 1) b
later_two vs = tt

turn_good : (c : Construct) (after : ℕ) (to : ℕ → ℕ) (ns : List ℕ) (l : Layout) (s : Scene) (y : Text) (m : ℕ) → place_for after (placed to ns) 0 ≡ to 0 → place_for after (placed to ns) m ≡ to m → IsEmpty c → HoldsIn (part_at c m) 2
    → (o : Turn) → HasTwo o → Good c after to ns l skipped (turn_effect s y m o)
turn_good c after to ns l s y m end part none holds None h = (end, none)
turn_good c after to ns l s y m end part none holds (Some t) h = (part, subst (HoldsIn (part_at c m)) (sym h) holds)

module _ (y : Text) (e : Expr) (p : Program) where
  abbrev each : Construct
  each = of_statement (for_each y e p)

  item_good : (after : ℕ) (to : ℕ → ℕ) (ns : List ℕ) (l : Layout) (s : Scene) → place_for after (placed to ns) 0 ≡ to 0 → place_for after (placed to ns) 2 ≡ to 2 → (vs : List Datum) → Good each after to ns l skipped (list_loop_effect s y vs)
  item_good after to ns l s end part [] = (end, (refl, (refl, refl), λ v. refl))
  item_good after to ns l s end part (list xs ∷ vs) = turn_good each after to ns l s y 2 end part (refl, refl) (refl, tt) (list_turn (list xs ∷ vs)) (list_two (list xs ∷ vs))
  item_good after to ns l s end part (integer n ∷ vs) = (end, (refl, (refl, refl), λ v. refl))
  item_good after to ns l s end part (object n ∷ vs) = (end, (refl, (refl, refl), λ v. refl))
  item_good after to ns l s end part (text n ∷ vs) = (end, (refl, (refl, refl), λ v. refl))
  item_good after to ns l s end part (error n ∷ vs) = (end, (refl, (refl, refl), λ v. refl))

  pub each_fits : Row (of_statement (for_each y e p))
  unfolding performed effect
  each_fits x = (
    refl,
    refl,
    (
      λ s h l. (refl, refl),
      (
        refl,
        refl,
        refl,
        (
          refl,
          refl,
          (λ f vars g ps ks st s vs to after sees count falls. (refl, refl, item_good after to (0 ∷ []) (inner (watched x 2 in_loop (of_program p)) (program_layout (in_body x 2 (Some y)) p) (own (next_item y) (2 ∷ []) stop)) s refl (falls.1 tt) vs)),
          (
            (refl, refl, λ s h l to n. (refl, refl, loop_caught each to 2 p refl (refl, refl) s l)),
            (
              refl,
              refl,
              refl,
              (refl, refl, (λ f vars g ps ks st s vs to after sees count falls. (refl, refl, item_good after to (2 ∷ []) stop s (falls.0 refl) refl vs)), tt),
            ),
          ),
        ),
      ),
    ),
  )

module _ (y : Text) (a b : Expr) (p : Program) where
  abbrev over : Construct
  over = of_statement (for_range y a b p)

  range_good : (after : ℕ) (to : ℕ → ℕ) (ns : List ℕ) (l : Layout) (s : Scene) → place_for after (placed to ns) 0 ≡ to 0 → place_for after (placed to ns) 3 ≡ to 3 → (n : ℕ) (vs : List Datum) → HasTwo (range_turn_at n vs)
      → Good over after to ns l skipped (range_loop_effect s y n vs)
  range_good after to ns l s end part n vs two =
      good_if over after to ns l skipped (are_bounds vs) (turn_effect s y 3 (range_turn_at n vs)) (erring s type_mismatch)
      (turn_good over after to ns l s y 3 end part (refl, refl) (refl, tt) (range_turn_at n vs) two) (end, (refl, (refl, refl), λ v. refl))

  pub over_fits : Row (of_statement (for_range y a b p))
  unfolding performed effect
  over_fits x = (
    refl,
    refl,
    (
      λ s h l. (refl, refl),
      (
        refl,
        refl,
        refl,
        (
          refl,
          refl,
          (
            λ s h l. (refl, refl),
            (
              refl,
              refl,
              refl,
              (
                refl,
                refl,
                (λ f vars g ps ks st s vs to after sees count falls. (refl, refl, range_good after to (0 ∷ []) (inner (watched x 2 in_loop (of_program p)) (program_layout (in_body x 2 (Some y)) p) (own (next_of_range y) (3 ∷ []) stop)) s refl (falls.1 tt) 2 vs (first_two vs))),
                (
                  (refl, refl, λ s h l to n. (refl, refl, loop_caught over to 3 p refl (refl, refl) s l)),
                  (
                    refl,
                    refl,
                    refl,
                    (refl, refl, (λ f vars g ps ks st s vs to after sees count falls. (refl, refl, range_good after to (3 ∷ []) stop s (falls.0 refl) refl 3 vs (later_two vs))), tt),
                  ),
                ),
              ),
            ),
          ),
        ),
      ),
    ),
  )

-- ---- a finally part

pub finished_fits : (p q : Program) → Row (of_statement (finished p q))
unfolding performed effect
finished_fits p q x =
    let c = of_statement (finished p q) in (
      refl,
      refl,
      (λ f vars g ps ks st s vs to after sees count falls. (none_left vs count 1, refl, (falls.1 tt, (refl, tt)))),
      (
        (refl, refl, λ s h l to n. (refl, refl, (refl, (refl, tt)))),
        (
          refl,
          refl,
          refl,
          (
            refl,
            refl,
            (λ f vars g ps ks st s vs to after sees count falls. (refl, refl, (falls.1 tt, (refl, tt)))),
            (
              λ s h l. (refl, refl),
              (
                refl,
                refl,
                refl,
                (
                  refl,
                  refl,
                  (λ f vars g ps ks st s vs to after sees count falls. (
                    refl,
                    refl,
                    good_one c after to [] stop as_value s (λ d. go_on_leaving s (read_left d)) vs count (λ d. left_good c after to s (falls.0 refl) (read_left d)),
                  )),
                  tt,
                ),
              ),
            ),
          ),
        ),
      ),
    )
  where
    left_good : (c : Construct) (after : ℕ) (to : ℕ → ℕ) (s : Scene) → after ≡ to 0 → (o : Option BodyLeft) → Good (of_statement (finished p q)) after to [] stop as_value (go_on_leaving s o)
    left_good c after to s e None = (e, (refl, refl))
    left_good c after to s e (Some ended) = (e, (refl, refl))
    left_good c after to s e (Some (left_by l)) = tt

-- ---- fork

fork_good : (y : Option Text) (e : Expr) (b : Program) (after : ℕ) (to : ℕ → ℕ) (s : Scene) (p : Pending) → after ≡ to 0 → (d : Datum) → Good (of_statement (fork y e b)) after to [] (gap stop) skipped (fork_in s p y b d)
fork_good y e b after to s p end (integer (pos n)) = good_if (of_statement (fork y e b)) after to [] (gap stop) skipped (has_ids s) (fork_after s p y b n) (erring s limit_exceeded) (named y) (end, (refl, (refl, refl), λ v. refl))
  where
    named : (z : Option Text) → Good (of_statement (fork y e b)) after to [] (gap stop) skipped (fork_after s p z b n)
    named None = (end, (refl, refl))
    named (Some z) = (end, (refl, refl))
fork_good y e b after to s p end (integer (negsuc n)) = (end, (refl, (refl, refl), λ v. refl))
fork_good y e b after to s p end (object n) = (end, (refl, (refl, refl), λ v. refl))
fork_good y e b after to s p end (text n) = (end, (refl, (refl, refl), λ v. refl))
fork_good y e b after to s p end (error n) = (end, (refl, (refl, refl), λ v. refl))
fork_good y e b after to s p end (list n) = (end, (refl, (refl, refl), λ v. refl))

pub fork_fits : (y : Option Text) (e : Expr) (b : Program) → Row (of_statement (fork y e b))
unfolding performed effect
fork_fits y e b x = (
  refl,
  refl,
  (
    λ s h l. (refl, refl),
    (
      refl,
      refl,
      refl,
      (
        refl,
        refl,
        (λ f vars g ps ks st s vs to after sees count falls. (
          refl,
          refl,
          good_one (of_statement (fork y e b)) after to [] (gap stop) skipped s (λ d. fork_in s (pending f vars g ps) y b d) vs count (λ d. fork_good y e b after to s (pending f vars g ps) (falls.0 refl) d),
        )),
        (refl, tt),
      ),
    ),
  ),
)

-- ---- programs

left_fits : (x : Around) (whole p : Program) (n : ℕ) → Fits x (of_program whole) n 0 (program_parts p) (program_layout x p)
left_fits x whole the_end n = (refl, refl)
left_fits x whole (seq s p) n = (refl, refl, (λ s h l. (refl, refl), (refl, refl, refl, left_fits x whole p (suc n))))

pub program_fits : (p : Program) → Row (of_program p)
program_fits p x = left_fits x p p 0
