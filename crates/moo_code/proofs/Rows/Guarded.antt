-- The row of `try` with handlers: first the codes of each, then the body, then perhaps one handler.
use Rattle.std.proofs.Common.{◌≡◌, ℕ, zero, suc, ◌+◌, List, [], ◌∷◌, ◌++◌, length, length-append, Bool, true, false, cond, Option, Some, None, if◌then◌else◌, refl, sym, ap, ◌∙◌, subst, drop, arith, append_assoc}
use Rattle.std.proofs.lemmas.List.{append-nil}
use Rattle.spec_value.specs.Datum.{Datum, Text}
use Rattle.spec_program.specs.Tree.{Expr, guarded, Arguments, no_arguments, argument, splice, Codes, any_code, codes_in, Arms, no_arms, except, Program}
use Rattle.spec_program.specs.Construct.{Construct, of_expr, of_statement, of_program}
use Rattle.spec_program.specs.Place.{Kind, any_list, code_list, all_codes as all_kind, Part, part, nth, part_at, argument_parts, code_parts, codes_kind, arm_kinds, arm_parts}
use Rattle.spec_moo.specs.Scene.{Scene}
use Rattle.spec_moo.specs.Pending.{Pending}
use Rattle.spec_moo.specs.Leaving.{Leaving, returned, failed, broken, continued, Failure, failure_value, takes_code}
use Rattle.spec_moo.specs.Held.{beside, listed, spliced, argument_ways, arm_ways, nth_way}
use Rattle.spec_moo.specs.Effect.{Effect, takes, sets_named}
use Rattle.spec_moo.specs.Effects.Handlers.{code_count, argument_count, all_codes, no_codes, ArmPoint, one_code, last_code, one_program, code_points, arm_points, nth_point, is_step, codes_from, point_effect, handler_for, body_catches}
use Rattle.spec_moo.specs.Tables.{effect, has_step}
use Rattle.moo_code.specs.Instruction.{as_value, with_handlers, handler_parts, placed, begin_part, finish}
use Rattle.moo_code.specs.Layout.{Around, Layout, own, inner, plain, watched, above, expr_layout, program_layout, arms_layout, arm_arguments_layout, last_of, next_part, next_held, arm_count, handler_rows}
use Rattle.moo_code.specs.Performing.{performed, catches_by, passes_by, first_handler}
use Rattle.moo_code.specs.Machine.{place_for}
use Rattle.moo_code.specs.Stands.{pending}
use Rattle.moo_code.proofs.Fits.{HoldsIn, CaughtFits, Lands, Fits, FitsOn, Does}
use Rattle.moo_code.proofs.Suiting.{Good}
use Rattle.moo_code.proofs.Rows.Expressions.{Row}
use Rattle.moo_code.proofs.Rows.Lists.{nth_drop, drop_next, way_drop}
use Rattle.moo_code.proofs.Rows.Catching.{codes_end}
use Rattle.moo_code.proofs.Rows.Numbers.{place_same, Placed, placed_here, placed_later}

point_drop : (n : ℕ) (ps : List ArmPoint) → nth_point ps n ≡ nth_point (drop n ps) 0
point_drop zero ps = refl
point_drop (suc n) [] = refl
point_drop (suc n) (p ∷ ps) = point_drop n ps

-- the codes that are known at once are held beside those before
codes_are : (n : ℕ) (held : List Datum) (arms : Arms) → codes_from n held arms ≡ takes (next_part n arms) (held ++ next_held arms)
codes_are n held no_arms = ap (takes 1) (sym (append-nil held))
codes_are n held (except y any_code p later) = codes_are (suc n) (held ++ all_codes ∷ []) later ∙ ap (takes (next_part (suc n) later)) (append_assoc held (all_codes ∷ []) (next_held later))
codes_are n held (except y (codes_in no_arguments) p later) = codes_are (suc n) (held ++ no_codes ∷ []) later ∙ ap (takes (next_part (suc n) later)) (append_assoc held (no_codes ∷ []) (next_held later))
codes_are n held (except y (codes_in (argument e es)) p later) = refl
codes_are n held (except y (codes_in (splice e es)) p later) = refl

kinds_count : (arms : Arms) → length (arm_kinds arms) ≡ arm_count arms
kinds_count no_arms = refl
kinds_count (except y codes p later) = ap suc (kinds_count later)

-- rows of handlers
rows_are : (n : ℕ) (arms : Arms) (held : List Datum) (f : Failure) → first_handler (handler_rows n arms) held f ≡ handler_for n arms held f
rows_are n no_arms held f = refl
rows_are n (except y codes p later) [] f = refl
rows_are n (except y codes p later) (c ∷ held) f =
    ap (λ z. if takes_code c f.code then Some (sets_named y (failure_value f) (takes (suc (n + code_count codes)) [])) else z) (rows_are (suc (n + code_count codes)) later held f)

module _ (p : Program) (arms0 : Arms) (x : Around) where
  abbrev c : Construct
  c = of_statement (guarded p arms0)

  abbrev all : List Part
  all = arm_parts [] arms0

  step_is : (i : ℕ) (a : ArmPoint) → nth_point (arm_points arms0) i ≡ a → has_step c (suc (suc i)) ≡ is_step a
  step_is i a e = ap is_step e

  effect_is : (s : Scene) (q : Pending) (i : ℕ) (vs : List Datum) (a : ArmPoint) → nth_point (arm_points arms0) i ≡ a → effect s q c (suc (suc i)) vs ≡ point_effect s (suc (suc (suc i))) vs a
  unfolding effect
  effect_is s q i vs a e = ap (point_effect s (suc (suc (suc i))) vs) e

  -- the part that is begun next can be begun with the codes that are known
  next_holds : (later : Arms) (j : ℕ) (before : List Kind) (l m : ℕ) → drop j all ≡ arm_parts before later → l ≡ length before → l + arm_count later ≡ length (arm_kinds arms0) → m ≡ l + length (next_held later)
      → HoldsIn (part_at c (next_part (suc j) later)) m
  next_holds no_arms j before l m d k total is = (omega (arith, total, is), tt)
  next_holds (except y any_code q later) j before l m d k total is =
      next_holds later (suc j) (before ++ all_kind ∷ []) (suc l) m (drop_next j all (part (of_program q) []) (arm_parts (before ++ all_kind ∷ []) later) d) (omega (arith, k, length-append before (all_kind ∷ []))) (omega (arith, total)) (omega (arith, is))
  next_holds (except y (codes_in no_arguments) q later) j before l m d k total is =
      next_holds later (suc j) (before ++ code_list ∷ []) (suc l) m (drop_next j all (part (of_program q) []) (arm_parts (before ++ code_list ∷ []) later) d) (omega (arith, k, length-append before (code_list ∷ []))) (omega (arith, total)) (omega (arith, is))
  next_holds (except y (codes_in (argument e es)) q later) j before l m d k total is =
      subst (λ o. HoldsIn o m) (sym (nth_drop j all ∙ ap (λ z. nth z 0) d)) (omega (arith, k, is, length-append before (any_list ∷ [])), tt)
  next_holds (except y (codes_in (splice e es)) q later) j before l m d k total is =
      subst (λ o. HoldsIn o m) (sym (nth_drop j all ∙ ap (λ z. nth z 0) d)) (omega (arith, k, is, length-append before (any_list ∷ [])), tt)

  -- ---- after a handler's last code, and after a program

  begins_next : (i k : ℕ) (before : List Kind) (later : Arms) (l : Layout) → nth_point (arm_points arms0) i ≡ last_code later → drop (suc (suc i)) all ≡ arm_parts before later → suc k ≡ length before → suc k + arm_count later ≡ length (arm_kinds arms0)
      → Does x c (suc (suc i)) (begin_part 0 (suc k) (next_part (suc (suc (suc i))) later) (next_held later)) (next_part (suc (suc (suc i))) later ∷ []) l
  unfolding performed
  begins_next i k before later l point d many total f vars g ps ks st s vs to after sees count falls =
      let m = next_part (suc (suc (suc i))) later in
      let e = effect_is s (pending f vars g ps) i vs (last_code later) point ∙ codes_are (suc (suc (suc i))) vs later in
      (sym e, refl, subst (Good c after to (m ∷ []) l as_value) (sym e) (place_same after to m [], next_holds later (suc (suc i)) before (suc k) (length (vs ++ next_held later)) d many total (omega (arith, count, length-append vs (next_held later)))))

  finishes : (i : ℕ) (l : Layout) → nth_point (arm_points arms0) i ≡ one_program → Does x c (suc (suc i)) (finish 0) (0 ∷ []) l
  unfolding performed
  finishes i l point f vars g ps ks st s vs to after sees count falls =
      let e = effect_is s (pending f vars g ps) i vs one_program point in
      (sym e, refl, subst (Good c after to (0 ∷ []) l as_value) (sym e) (refl, (refl, refl)))

  -- a handler's program
  program_on : (i n k : ℕ) (q : Program) (before : List Kind) (later : Arms) → nth_point (arm_points arms0) i ≡ one_program → nth_way (arm_ways arms0) i ≡ beside → n ≡ suc (suc (suc i))
      → FitsOn x c (suc (suc i)) (arm_parts before later) (arms_layout x k (suc (suc (suc i))) later)
      → FitsOn x c (suc i) (part (of_program q) [] ∷ arm_parts before later) (inner (plain (of_program q)) (program_layout (above x 0) q) (own (finish 0) (0 ∷ []) (arms_layout x k n later)))
  program_on i n k q before later point way is more = (
    (λ s h l. (refl, refl)),
    (
      refl,
      refl,
      way,
      (
        step_is i one_program point,
        refl,
        finishes i (arms_layout x k n later) point,
        subst (λ z. FitsOn x c (suc (suc i)) (arm_parts before later) (arms_layout x k z later)) (sym is) more,
      ),
    ),
  )

  -- its codes, at least one
  module _ (k : ℕ) (before : List Kind) (many : length before ≡ k) (later : Arms) (total : suc k + arm_count later ≡ length (arm_kinds arms0)) (q : Program) (n0 : ℕ) where
    abbrev K : List Kind
    K = before ++ any_list ∷ []

    abbrev R : List Part
    R = part (of_program q) [] ∷ arm_parts (before ++ code_list ∷ []) later

    abbrev L : Layout
    L = inner (plain (of_program q)) (program_layout (above x 0) q) (own (finish 0) (0 ∷ []) (arms_layout x (suc k) n0 later))

    abbrev Goes : ℕ → Arguments → Type 0
    Goes i es = FitsOn x c (suc i) (argument_parts K es ++ R) (arm_arguments_layout x k (suc (suc i)) es (λ m. next_part m later) (next_held later) L)

    length_K : length K ≡ suc k
    length_K = omega (arith, many, length-append before (any_list ∷ []))

    abbrev Done : ℕ → Type 0
    Done i = (j : ℕ) → drop j all ≡ R → drop j (arm_points arms0) ≡ one_program ∷ arm_points later → drop j (arm_ways arms0) ≡ beside ∷ arm_ways later → j ≡ i → FitsOn x c (suc j) R L

    abbrev IsSome : Arguments → Type 0
    IsSome no_arguments = ⊥
    IsSome es = Unit {0}

    same_K : (e : Expr) → expr_layout (above x (suc k)) e ≡ expr_layout (above x (length K)) e
    same_K e = ap (λ z. expr_layout (above x z) e) (sym length_K)

    -- after the last code
    last_on : (i : ℕ) → nth_point (arm_points arms0) i ≡ last_code later → drop (suc i) all ≡ R → FitsOn x c (suc (suc i)) R L
        → Fits x c (suc (suc i)) (length K) R (own (begin_part 0 (suc k) (next_part (suc (suc (suc i))) later) (next_held later)) (next_part (suc (suc (suc i))) later ∷ []) L)
    last_on i point d fin = (
      step_is i (last_code later) point,
      sym length_K,
      begins_next i k (before ++ code_list ∷ []) later L point (drop_next (suc i) all (part (of_program q) []) (arm_parts (before ++ code_list ∷ []) later) d) (omega (arith, many, length-append before (code_list ∷ []))) total,
      fin,
    )

    -- what was done after one code
    first_point : Arguments → ArmPoint
    first_point no_arguments = last_code later
    first_point es = one_code

    points_argument : (e : Expr) (more : Arguments) → code_points (argument e more) later ≡ first_point more ∷ code_points more later
    unfolding first_point
    points_argument e no_arguments = refl
    points_argument e (argument a more) = refl
    points_argument e (splice a more) = refl

    points_splice : (e : Expr) (more : Arguments) → code_points (splice e more) later ≡ first_point more ∷ code_points more later
    unfolding first_point
    points_splice e no_arguments = refl
    points_splice e (argument a more) = refl
    points_splice e (splice a more) = refl

    after_code : (i : ℕ) (more : Arguments) → nth_point (arm_points arms0) i ≡ first_point more → drop (suc i) all ≡ argument_parts K more ++ R
        → drop (suc i) (arm_points arms0) ≡ code_points more later ++ one_program ∷ arm_points later → drop (suc i) (arm_ways arms0) ≡ argument_ways more ++ beside ∷ arm_ways later
        → (IsSome more → Goes (suc i) more) → Done (i + suc (argument_count more))
        → Fits x c (suc (suc i)) (length K) (argument_parts K more ++ R)
        (last_of more (own (begin_part 0 (suc k) (next_part (suc (suc (suc i))) later) (next_held later)) (next_part (suc (suc (suc i))) later ∷ []) L) (arm_arguments_layout x k (suc (suc (suc i))) more (λ m. next_part m later) (next_held later) L))
    unfolding first_point
    after_code i no_arguments point d P w rec fin = last_on i point d (fin (suc i) d P w (omega arith))
    after_code i (argument e more) point d P w rec fin = (step_is i one_code point, refl, rec tt)
    after_code i (splice e more) point d P w rec fin = (step_is i one_code point, refl, rec tt)

    codes_go : (i : ℕ) (es : Arguments) → drop i all ≡ argument_parts K es ++ R → drop i (arm_points arms0) ≡ code_points es later ++ one_program ∷ arm_points later
        → drop i (arm_ways arms0) ≡ argument_ways es ++ beside ∷ arm_ways later → IsSome es → Done (i + argument_count es) → Goes i es
    codes_go i no_arguments d P w s fin = absurd s
    codes_go i (argument e more) d P w s fin =
        let P2 = P ∙ ap (λ z. z ++ one_program ∷ arm_points later) (points_argument e more) in
        let d' = drop_next i all (part (of_expr e) K) (argument_parts K more ++ R) d in
        let P' = drop_next i (arm_points arms0) (first_point more) (code_points more later ++ one_program ∷ arm_points later) P2 in
        let w' = drop_next i (arm_ways arms0) listed (argument_ways more ++ beside ∷ arm_ways later) w in (
          λ s h l. (refl, refl),
          (
            refl,
            same_K e,
            (way_drop i (arm_ways arms0) ∙ ap (λ z. nth_way z 0) w, tt, sym length_K, tt, refl),
            after_code i more (point_drop i (arm_points arms0) ∙ ap (λ z. nth_point z 0) P2) d' P' w' (λ h. codes_go (suc i) more d' P' w' h (λ j a b z n. fin j a b z (omega (arith, n)))) fin,
          ),
        )
    codes_go i (splice e more) d P w s fin =
        let P2 = P ∙ ap (λ z. z ++ one_program ∷ arm_points later) (points_splice e more) in
        let d' = drop_next i all (part (of_expr e) K) (argument_parts K more ++ R) d in
        let P' = drop_next i (arm_points arms0) (first_point more) (code_points more later ++ one_program ∷ arm_points later) P2 in
        let w' = drop_next i (arm_ways arms0) spliced (argument_ways more ++ beside ∷ arm_ways later) w in (
          λ s h l. (refl, refl),
          (
            refl,
            same_K e,
            (way_drop i (arm_ways arms0) ∙ ap (λ z. nth_way z 0) w, tt, sym length_K, tt, refl),
            after_code i more (point_drop i (arm_points arms0) ∙ ap (λ z. nth_point z 0) P2) d' P' w' (λ h. codes_go (suc i) more d' P' w' h (λ j a b z n. fin j a b z (omega (arith, n)))) fin,
          ),
        )

  arms_on : (arms : Arms) (j k : ℕ) (before : List Kind) → drop j all ≡ arm_parts before arms → drop j (arm_points arms0) ≡ arm_points arms → drop j (arm_ways arms0) ≡ arm_ways arms → length before ≡ k
      → k + arm_count arms ≡ length (arm_kinds arms0) → FitsOn x c (suc j) (arm_parts before arms) (arms_layout x k (suc (suc j)) arms)
  arms_on no_arms j k before d P w many total = tt
  arms_on (except y any_code q later) j k before d P w many total =
      program_on j (suc (suc (suc j) + 0)) (suc k) q (before ++ all_kind ∷ []) later (point_drop j (arm_points arms0) ∙ ap (λ z. nth_point z 0) P) (way_drop j (arm_ways arms0) ∙ ap (λ z. nth_way z 0) w) (omega arith)
      (arms_on later (suc j) (suc k) (before ++ all_kind ∷ []) (drop_next j all (part (of_program q) []) (arm_parts (before ++ all_kind ∷ []) later) d) (drop_next j (arm_points arms0) one_program (arm_points later) P)
      (drop_next j (arm_ways arms0) beside (arm_ways later) w) (omega (arith, many, length-append before (all_kind ∷ []))) (omega (arith, total)))
  arms_on (except y (codes_in no_arguments) q later) j k before d P w many total =
      program_on j (suc (suc (suc j) + 0)) (suc k) q (before ++ code_list ∷ []) later (point_drop j (arm_points arms0) ∙ ap (λ z. nth_point z 0) P) (way_drop j (arm_ways arms0) ∙ ap (λ z. nth_way z 0) w) (omega arith)
      (arms_on later (suc j) (suc k) (before ++ code_list ∷ []) (drop_next j all (part (of_program q) []) (arm_parts (before ++ code_list ∷ []) later) d) (drop_next j (arm_points arms0) one_program (arm_points later) P)
      (drop_next j (arm_ways arms0) beside (arm_ways later) w) (omega (arith, many, length-append before (code_list ∷ []))) (omega (arith, total)))
  arms_on (except y (codes_in (argument e es)) q later) j k before d P w many total =
      let n = suc (suc (suc j) + suc (argument_count es)) in
      codes_go k before many later (omega (arith, total)) q n j (argument e es) d P w tt
      (λ i a b z is.
      program_on i n (suc k) q (before ++ code_list ∷ []) later (point_drop i (arm_points arms0) ∙ ap (λ v. nth_point v 0) b) (way_drop i (arm_ways arms0) ∙ ap (λ v. nth_way v 0) z) (omega (arith, is))
      (arms_on later (suc i) (suc k) (before ++ code_list ∷ []) (drop_next i all (part (of_program q) []) (arm_parts (before ++ code_list ∷ []) later) a) (drop_next i (arm_points arms0) one_program (arm_points later) b)
      (drop_next i (arm_ways arms0) beside (arm_ways later) z) (omega (arith, many, length-append before (code_list ∷ []))) (omega (arith, total))))
  arms_on (except y (codes_in (splice e es)) q later) j k before d P w many total =
      let n = suc (suc (suc j) + suc (argument_count es)) in
      codes_go k before many later (omega (arith, total)) q n j (splice e es) d P w tt
      (λ i a b z is.
      program_on i n (suc k) q (before ++ code_list ∷ []) later (point_drop i (arm_points arms0) ∙ ap (λ v. nth_point v 0) b) (way_drop i (arm_ways arms0) ∙ ap (λ v. nth_way v 0) z) (omega (arith, is))
      (arms_on later (suc i) (suc k) (before ++ code_list ∷ []) (drop_next i all (part (of_program q) []) (arm_parts (before ++ code_list ∷ []) later) a) (drop_next i (arm_points arms0) one_program (arm_points later) b)
      (drop_next i (arm_ways arms0) beside (arm_ways later) z) (omega (arith, many, length-append before (code_list ∷ []))) (omega (arith, total))))

-- ---- handlers

nth_add : (j n i : ℕ) (ps : List Part) → i ≡ j + n → nth ps i ≡ nth (drop j ps) n
nth_add zero n i ps e = let d : i ≡ n = omega (arith, e) in ap (nth ps) d
nth_add (suc j) n i [] e = refl
nth_add (suc j) n zero (p ∷ ps) e = absurd (omega (arith, e))
nth_add (suc j) n (suc i) (p ∷ ps) e = nth_add j n i ps (omega (arith, e))

drop_none : (n : ℕ) → drop {A = Part} n [] ≡ []
drop_none zero = refl
drop_none (suc n) = refl

drop_add : (j n i : ℕ) (ps : List Part) → i ≡ j + n → drop i ps ≡ drop n (drop j ps)
drop_add zero n i ps e = let d : i ≡ n = omega (arith, e) in ap (λ z. drop z ps) d
drop_add (suc j) n i [] e = drop_none i ∙ sym (drop_none n)
drop_add (suc j) n zero (p ∷ ps) e = absurd (omega (arith, e))
drop_add (suc j) n (suc i) (p ∷ ps) e = drop_add j n i ps (omega (arith, e))

arguments_past : (kinds : List Kind) (es : Arguments) (q : Part) (ps : List Part) → drop (suc (argument_count es)) (argument_parts kinds es ++ q ∷ ps) ≡ ps
arguments_past kinds no_arguments q ps = refl
arguments_past kinds (argument e more) q ps = arguments_past kinds more q ps
arguments_past kinds (splice e more) q ps = arguments_past kinds more q ps

codes_past : (kinds : List Kind) (codes : Codes) (q : Part) (ps : List Part) → drop (suc (code_count codes)) (code_parts kinds codes ++ q ∷ ps) ≡ ps
codes_past kinds any_code q ps = refl
codes_past kinds (codes_in es) q ps = arguments_past kinds es q ps

module _ (p : Program) (arms0 : Arms) where
  abbrev try_ : Construct
  try_ = of_statement (guarded p arms0)

  abbrev arms_parts : List Part
  arms_parts = arm_parts [] arms0

  abbrev Taken : (ℕ → ℕ) → Option Effect → Type 0
  Taken to o = CaughtFits try_ (place_for 0 (placed to (handler_parts (handler_rows 1 arms0)))) to 1 o

  taken_if : (to : ℕ → ℕ) (b : Bool) (y : Option Text) (v : Datum) (m : ℕ) (more : Option Effect) → Lands try_ (place_for 0 (placed to (handler_parts (handler_rows 1 arms0)))) to (takes m []) → Taken to more
      → Taken to (cond b (Some (sets_named y v (takes m []))) more)
  taken_if to true None v m more h r = h
  taken_if to true (Some y) v m more h r = h
  taken_if to false y v m more h r = r

  handlers_fit : (arms : Arms) (j : ℕ) (before : List Kind) (held : List Datum) (f : Failure) (to : ℕ → ℕ) → drop j arms_parts ≡ arm_parts before arms
      → ((i : ℕ) → Placed (handler_parts (handler_rows (suc j) arms)) i → Placed (handler_parts (handler_rows 1 arms0)) i) → Taken to (handler_for (suc j) arms held f)
  handlers_fit no_arms j before held f to d known = tt
  handlers_fit (except y codes q later) j before [] f to d known = tt
  handlers_fit (except y codes q later) j before (v ∷ held) f to d known =
      let n = code_count codes in
      let m = suc (suc j + n) in
      let step : suc j + n ≡ suc (j + n) = omega arith in
      let there : nth arms_parts (j + n) ≡ Some (part (of_program q) []) =
      nth_add j n (j + n) arms_parts refl ∙ ap (λ z. nth z n) d ∙ codes_end (before ++ any_list ∷ []) codes (part (of_program q) [] ∷ arm_parts (before ++ codes_kind codes ∷ []) later) in
      let holds : HoldsIn (part_at try_ m) 0 = subst (λ z. HoldsIn (nth (part (of_program p) (arm_kinds arms0) ∷ arms_parts) z) 0) (sym step) (subst (λ o. HoldsIn o 0) (sym there) (refl, tt)) in
      let past : drop (suc j + n) arms_parts ≡ arm_parts (before ++ codes_kind codes ∷ []) later =
      drop_add j (suc n) (suc j + n) arms_parts (omega arith) ∙ ap (drop (suc n)) d ∙ codes_past (before ++ any_list ∷ []) codes (part (of_program q) []) (arm_parts (before ++ codes_kind codes ∷ []) later) in
      taken_if to (takes_code v f.code) y (failure_value f) m (handler_for m later held f) (known m (placed_here m m (handler_parts (handler_rows m later)) refl) 0 to, holds)
      (handlers_fit later (suc j + n) (before ++ codes_kind codes ∷ []) held f to past (λ i h. known i (placed_later m i (handler_parts (handler_rows m later)) h)))

  catching : (s : Scene) (held : List Datum) (l : Leaving) (to : ℕ → ℕ)
      → (passes_by (with_handlers (handler_rows 1 arms0)) l ≡ l) × (catches_by s (with_handlers (handler_rows 1 arms0)) held l ≡ body_catches arms0 held l) × Taken to (body_catches arms0 held l)
  catching s held (returned v) to = (refl, refl, tt)
  catching s held (broken v) to = (refl, refl, tt)
  catching s held (continued v) to = (refl, refl, tt)
  catching s held (failed f) to = (refl, rows_are 1 arms0 held f, handlers_fit arms0 0 [] held f to refl (λ i h. h))

pub guarded_fits : (p : Program) (arms : Arms) → Row (of_statement (guarded p arms))
unfolding performed effect
guarded_fits p arms x =
    let c = of_statement (guarded p arms) in
    let m = next_part 1 arms in
    let count = kinds_count arms in
    let many : arm_count arms ≡ length (arm_kinds arms) + 0 = omega (arith, count) in
    let body = inner (watched x (arm_count arms) (with_handlers (handler_rows 1 arms)) (of_program p)) (program_layout (above x (arm_count arms)) p) (own (finish (arm_count arms)) (0 ∷ []) (arms_layout x 0 2 arms)) in (
      refl,
      refl,
      (λ f vars g ps ks st s vs to after sees n. λ falls. (
        sym (codes_are 1 vs arms),
        refl,
        subst (Good c after to (m ∷ []) body as_value) (sym (codes_are 1 vs arms))
            (place_same after to m [], next_holds p arms x arms 0 [] 0 (length (vs ++ next_held arms)) refl refl (omega (arith, count)) (omega (arith, n, length-append vs (next_held arms)))),
      )),
      (
        (refl, sym count, λ s h l to n. catching p arms s h l to),
        (
          refl,
          ap (λ z. program_layout (above x z) p) (sym count),
          refl,
          (refl, many, (λ f vars g ps ks st s vs to after sees n falls. (refl, refl, (refl, (refl, refl)))), arms_on p arms x arms 0 0 [] refl refl refl refl (omega (arith, count))),
        ),
      ),
    )
