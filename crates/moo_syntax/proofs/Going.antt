-- What the steps of a reader keep of the text.
use Rattle.std.proofs.Common.{◌≡◌, ℕ, zero, suc, ◌+◌, ◌<◌, ◌≤◌, true, false, List, length, refl, sym, ap, ◌∙◌, subst, arith}
use Rattle.spec_program.specs.Tokens.{Placed}
use Rattle.spec_program.specs.Frames.{Kind, Of, Frames, push, whole_text}
use Rattle.spec_program.specs.ReadPrograms.{parsed_by, parsed_tokens}
use Rattle.spec_reader.specs.Next.{Next, found, sticks, State, goes, state_means}
use Rattle.spec_reader.specs.Behind.{found_by}
use Rattle.spec_reader.specs.Step.{step, step_of}
use Rattle.spec_reader.specs.Work.{work, is_over}
use Rattle.spec_reader.specs.Whole.{start, after, outcome}
use Rattle.spec_reader.proofs.StepHolds.{step_keeps}
use Rattle.spec_reader.proofs.StepWorks.{step_works}
use Rattle.spec_reader.proofs.WholeRead.{start_means, end_means}
use Rattle.moo_syntax.specs.StandsFor.{StandsFor}
use Rattle.moo_syntax.specs.Advances.{Advances}

-- no more tokens are left than there were, and what is still to be read gives the answer to all
pub record Going (all : List Placed) (s : State) : Type 0 where
  pub left : length s.left ≤ length all
  pub means : parsed_by all (state_means (2 + length all) s) ≡ parsed_tokens all

pub going_first : (all : List Placed) (s : State) → s ≡ start all → Going all s
going_first all s h =
    subst (Going all) (sym h) (record { left = omega arith; means = start_means (2 + length all) all (omega arith) })

-- ---- a step or several, with the same state or another in its place

pub step_advances : (s r : State) → r ≡ step s → Advances s r
unfolding after
step_advances s r h =
    record {
      more = 0;
      stands = record { left = ap (λ x. x.left) h; work = ap work h; means = λ all n. ap (λ x. parsed_by all (state_means n x)) h };
    }

pub another_advances : (s r q : State) → Advances s r → StandsFor r q → Advances s q
another_advances s r q a i =
    let j = a.stands in
    record {
      more = a.more;
      stands = record { left = i.left ∙ j.left; work = i.work ∙ j.work; means = λ all n. i.means all n ∙ j.means all n };
    }

-- ---- what is kept

going_one : (all : List Placed) (s : State) → Going all s → Going all (step s)
going_one all s g =
    let l = g.left in
    let k = step_keeps (2 + length all) s (omega (arith, l)) in
    let m = k.left in
    record { left = omega (arith, l, m); means = ap (λ x. parsed_by all x) k.means ∙ g.means }

going_on : (all : List Placed) (i : ℕ) (s : State) → Going all s → Going all (after i s)
unfolding after
going_on all zero s g = g
going_on all (suc i) s g = going_on all i (step s) (going_one all s g)

going_there : (all : List Placed) (s q : State) → Going all s → StandsFor s q → Going all q
going_there all s q g i =
    let l = g.left in
    let n = ap (λ x. length x) i.left in
    record { left = omega (arith, l, n); means = i.means all (2 + length all) ∙ g.means }

pub going_instead : (all : List Placed) (s q : State) → Going all s → Advances s q → Going all q
going_instead all s q g a = going_there all (after (suc a.more) s) q (going_on all (suc a.more) s g) a.stands

-- ---- and the work that is left

found_no_more : {a : Kind} (fs : Frames a) (v : Of a) (ts : List Placed) → work (found_by fs v ts) ≤ work (goes (found fs v) ts)
found_no_more whole_text v ts = omega arith
found_no_more (push g fs) v ts = let w = step_works (goes (found (push g fs) v) ts) refl in omega (arith, w)

step_no_more : (x : Next) (ts : List Placed) → work (step_of x ts) ≤ work (goes x ts)
step_no_more (found fs v) ts = found_no_more fs v ts
step_no_more sticks ts = omega arith
step_no_more x ts = let w = step_works (goes x ts) refl in omega (arith, w)

no_more : (i : ℕ) (s : State) → work (after i s) ≤ work s
unfolding after
no_more zero s = omega arith
no_more (suc i) s =
    let w = no_more i (step s) in
    let v = step_no_more s.next s.left in
    omega (arith, w, v)

less_at_first : (i : ℕ) (s : State) → is_over s.next ≡ false → work (after (suc i) s) < work s
unfolding after
less_at_first i s e =
    let w = step_works s e in
    let v = no_more i (step s) in
    omega (arith, w, v)

pub going_less : (s q : State) → is_over s.next ≡ false → Advances s q → work q < work s
going_less s q e a =
    let w = less_at_first a.more s e in
    let m = a.stands.work in
    omega (arith, w, m)

pub going_over : (all : List Placed) (s : State) → Going all s → is_over s.next ≡ true → outcome all s ≡ parsed_tokens all
going_over all s g e = sym (end_means (2 + length all) all s e) ∙ g.means
