-- The row of `if`: its conditions and programs in turn.
use Rattle.std.proofs.Common.{◌≡◌, ℕ, suc, List, [], ◌∷◌, ◌++◌, Bool, true, false, not, ◌&&◌, cond, Some, None, if◌then◌else◌, refl, sym, ap, ◌∙◌, subst, drop, arith}
use Rattle.std.specs.Prelude.{is_none}
use Rattle.spec_value.specs.Datum.{Datum, is_true}
use Rattle.spec_program.specs.Tree.{branch, Branches, no_branches, on, Otherwise, no_else, else_do, Program}
use Rattle.spec_program.specs.Construct.{Construct, of_expr, of_statement, of_program}
use Rattle.spec_program.specs.Place.{Part, part, nth, branch_parts, otherwise_parts, statement_parts}
use Rattle.spec_moo.specs.Scene.{Scene}
use Rattle.spec_moo.specs.Pending.{Pending}
use Rattle.spec_moo.specs.Effect.{takes, ends, on_one}
use Rattle.spec_moo.specs.Effects.Branches.{is_odd, is_positive, part_or_end}
use Rattle.spec_moo.specs.Tables.{effect, once_at, has_step}
use Rattle.moo_code.specs.Instruction.{as_value, test, test_last, finish}
use Rattle.moo_code.specs.Layout.{Around, Layout, own, inner, plain, above, program_layout, otherwise_layout, branches_layout, testing}
use Rattle.moo_code.specs.Performing.{performed}
use Rattle.moo_code.specs.Stands.{pending}
use Rattle.moo_code.proofs.Fits.{HoldsIn, Fits, FitsOn, Does, IsInner}
use Rattle.moo_code.proofs.Suiting.{Good, good_one, good_if}
use Rattle.moo_code.proofs.Rows.Expressions.{Row}
use Rattle.moo_code.proofs.Rows.Lists.{nth_drop, drop_next}
use Rattle.moo_code.proofs.Rows.Numbers.{smaller_number, greater_number, place_same, place_other}

module _ (bs0 : Branches) (q0 : Otherwise) (x : Around) where
  abbrev chain : Construct
  chain = of_statement (branch bs0 q0)

  abbrev all : List Part
  all = statement_parts (branch bs0 q0)

  -- after a condition, and after a program
  after_test : (s : Scene) (p : Pending) (n : ℕ) (vs : List Datum) → is_odd n ≡ true
      → effect s p chain n vs ≡ on_one s (λ v. if is_true v then takes (suc n) [] else part_or_end s (suc (suc n)) (nth all (suc n))) vs
  unfolding effect
  after_test s p n vs h = ap (λ b. cond b (on_one s (λ v. if is_true v then takes (suc n) [] else part_or_end s (suc (suc n)) (nth all (suc n))) vs) (ends s)) h

  after_program : (s : Scene) (p : Pending) (n : ℕ) (vs : List Datum) → is_odd n ≡ false → effect s p chain n vs ≡ ends s
  unfolding effect
  after_program s p n vs h = ap (λ b. cond b (on_one s (λ v. if is_true v then takes (suc n) [] else part_or_end s (suc (suc n)) (nth all (suc n))) vs) (ends s)) h

  step_odd : (n : ℕ) (p : Part) → is_odd n ≡ true → nth all n ≡ Some p → has_step chain n ≡ true
  step_odd n p h e =
      ap (λ b. cond b (b && not (is_none (nth all n))) (is_positive n)) h ∙ ap (λ o. not (is_none o)) e

  step_last : (n : ℕ) → is_odd n ≡ true → nth all n ≡ None → has_step chain n ≡ false
  step_last n h e = ap (λ b. cond b (b && not (is_none (nth all n))) (is_positive n)) h ∙ ap (λ o. not (is_none o)) e

  step_even : (n : ℕ) → is_odd (suc n) ≡ false → has_step chain (suc n) ≡ true
  step_even n h = ap (λ b. cond b (b && not (is_none (nth all (suc n)))) true) h

  -- ---- the operation after condition n, with the program behind it

  holds_there : (n : ℕ) (p : Program) → nth all n ≡ Some (part (of_program p) []) → HoldsIn (nth all n) 0
  holds_there n p e = subst (λ o. HoldsIn o 0) (sym e) (refl, tt)

  test_does : (n : ℕ) (first : Bool) (p : Program) (o : Part) (l : Layout) → is_odd n ≡ true → IsInner l → nth all n ≡ Some (part (of_program p) []) → nth all (suc n) ≡ Some o → HoldsIn (nth all (suc n)) 0 → cond first 1 0 ≡ once_at 1 n
      → Does x chain n (test first (suc n) (suc (suc n))) (suc (suc n) ∷ []) l
  unfolding performed
  test_does n first p o l odd has there next holds priced f vars g ps ks st s vs to after sees count falls =
      let e = after_test s (pending f vars g ps) n vs odd ∙ ap (λ z. on_one s (λ v. if is_true v then takes (suc n) [] else part_or_end s (suc (suc n)) z) vs) next in (
        sym e,
        priced,
        subst (Good chain after to (suc (suc n) ∷ []) l as_value) (sym e)
            (good_one chain after to (suc (suc n) ∷ []) l as_value s (λ v. if is_true v then takes (suc n) [] else takes (suc (suc n)) []) vs count
            (λ v. good_if chain after to (suc (suc n) ∷ []) l as_value (is_true v) (takes (suc n) []) (takes (suc (suc n)) [])
            (place_other after to (suc n) (suc (suc n)) (greater_number (suc (suc n)) (suc n) (omega arith)) ∙ falls.1 has, holds_there n p there) (place_same after to (suc (suc n)) [], holds))),
      )

  last_does : (n : ℕ) (first : Bool) (p : Program) (l : Layout) → is_odd n ≡ true → IsInner l → nth all n ≡ Some (part (of_program p) []) → nth all (suc n) ≡ None → cond first 1 0 ≡ once_at 1 n
      → Does x chain n (test_last first (suc n)) (0 ∷ []) l
  unfolding performed
  last_does n first p l odd has there next priced f vars g ps ks st s vs to after sees count falls =
      let e = after_test s (pending f vars g ps) n vs odd ∙ ap (λ z. on_one s (λ v. if is_true v then takes (suc n) [] else part_or_end s (suc (suc n)) z) vs) next in (
        sym e,
        priced,
        subst (Good chain after to (0 ∷ []) l as_value) (sym e)
            (good_one chain after to (0 ∷ []) l as_value s (λ v. if is_true v then takes (suc n) [] else ends s) vs count
            (λ v. good_if chain after to (0 ∷ []) l as_value (is_true v) (takes (suc n) []) (ends s)
            (place_other after to (suc n) 0 (smaller_number 0 (suc n) (omega arith)) ∙ falls.1 has, holds_there n p there) (refl, (refl, refl)))),
      )

  finish_does : (n : ℕ) (l : Layout) → is_odd (suc (suc n)) ≡ false → Does x chain (suc (suc n)) (finish 0) (0 ∷ []) l
  unfolding performed
  finish_does n l odd f vars g ps ks st s vs to after sees count falls =
      let e = after_program s (pending f vars g ps) (suc (suc n)) vs odd in
      (sym e, sym (ap (λ b. cond b 1 0) (greater_number (suc (suc n)) 1 (omega arith))), subst (Good chain after to (0 ∷ []) l as_value) (sym e) (refl, (refl, refl)))

  abbrev tail : Branches → Otherwise → List Part
  tail more q = branch_parts more ++ otherwise_parts q

  test_fits : (n : ℕ) (first : Bool) (p : Program) (more : Branches) (q : Otherwise) (l : Layout) → is_odd n ≡ true → IsInner l → drop n all ≡ part (of_program p) [] ∷ tail more q → cond first 1 0 ≡ once_at 1 n
      → FitsOn x chain n (part (of_program p) [] ∷ tail more q) l → Fits x chain n 1 (part (of_program p) [] ∷ tail more q) (testing first (suc n) more q l)
  test_fits n first p no_branches no_else l odd has d priced on_it =
      let there = nth_drop n all ∙ ap (λ z. nth z 0) d in
      let next = nth_drop (suc n) all ∙ ap (λ z. nth z 0) (drop_next n all (part (of_program p) []) [] d) in
      (step_odd n (part (of_program p) []) odd there, refl, last_does n first p l odd has there next priced, on_it)
  test_fits n first p no_branches (else_do r) l odd has d priced on_it =
      let there = nth_drop n all ∙ ap (λ z. nth z 0) d in
      let next : nth all (suc n) ≡ Some (part (of_program r) []) = nth_drop (suc n) all ∙ ap (λ z. nth z 0) (drop_next n all (part (of_program p) []) (part (of_program r) [] ∷ []) d) in
      (step_odd n (part (of_program p) []) odd there, refl, test_does n first p (part (of_program r) []) l odd has there next (subst (λ o. HoldsIn o 0) (sym next) (refl, tt)) priced, on_it)
  test_fits n first p (on c r more) q l odd has d priced on_it =
      let there = nth_drop n all ∙ ap (λ z. nth z 0) d in
      let next : nth all (suc n) ≡ Some (part (of_expr c) []) = nth_drop (suc n) all ∙ ap (λ z. nth z 0) (drop_next n all (part (of_program p) []) (part (of_expr c) [] ∷ part (of_program r) [] ∷ tail more q) d) in
      (step_odd n (part (of_program p) []) odd there, refl, test_does n first p (part (of_expr c) []) l odd has there next (subst (λ o. HoldsIn o 0) (sym next) (refl, tt)) priced, on_it)

  branches_on : (bs : Branches) (q : Otherwise) (first : Bool) (n : ℕ) → is_odd n ≡ false → drop n all ≡ tail bs q → cond first 1 0 ≡ once_at 1 (suc n)
      → FitsOn x chain n (tail bs q) (branches_layout x first (suc n) bs q (otherwise_layout x q))
  branches_on no_branches no_else first n odd d priced = tt
  branches_on no_branches (else_do p) first n odd d priced =
      let past = nth_drop (suc n) all ∙ ap (λ z. nth z 0) (drop_next n all (part (of_program p) []) [] d) in
      (λ s h l. (refl, refl), (refl, refl, refl, (step_last (suc n) (ap not odd) past, refl)))
  branches_on (on c p more) q first n odd d priced =
      let d1 : drop (suc n) all ≡ part (of_program p) [] ∷ tail more q = drop_next n all (part (of_expr c) []) (part (of_program p) [] ∷ tail more q) d in
      let d2 : drop (suc (suc n)) all ≡ tail more q = drop_next (suc n) all (part (of_program p) []) (tail more q) d1 in
      let odd2 : is_odd (suc (suc n)) ≡ false = ap (λ b. not (not b)) odd in
      let below : Layout = branches_layout x false (suc (suc (suc n))) more q (otherwise_layout x q) in
      let free : 0 ≡ once_at 1 (suc (suc (suc n))) = sym (ap (λ b. cond b 1 0) (greater_number (suc (suc (suc n))) 1 (omega arith))) in (
        λ s h l. (refl, refl),
        (
          refl,
          refl,
          refl,
          test_fits (suc n) first p more q (inner (plain (of_program p)) (program_layout (above x 0) p) (own (finish 0) (0 ∷ []) below)) (ap not odd) tt d1 priced
              (λ s h l. (refl, refl), (refl, refl, refl, (step_even (suc n) odd2, refl, finish_does n below odd2, branches_on more q false (suc (suc n)) odd2 d2 free))),
        ),
      )

pub branch_fits : (bs : Branches) (q : Otherwise) → Row (of_statement (branch bs q))
branch_fits no_branches no_else x = (refl, refl)
branch_fits no_branches (else_do p) x = (refl, refl, branches_on no_branches (else_do p) x no_branches (else_do p) true 0 refl refl refl)
branch_fits (on c p more) q x = (refl, refl, branches_on (on c p more) q x (on c p more) q true 0 refl refl refl)
