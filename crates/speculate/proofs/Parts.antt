-- Lists that are played a part after the other.
use Rattle.std.proofs.Common.{◌≡◌, ℕ, zero, suc, ◌+◌, ◌-◌, ◌≤◌, IsTrue, List, [], ◌∷◌, ◌++◌, length, take, drop, slice_range, refl, sym, ap, ◌∙◌, subst, arith, length-take}
use Rattle.std.proofs.lemmas.Bool.{and_parts, and_from, eqb-true}
use Rattle.std.specs.Prelude.{max}
use Rattle.spec_world.specs.World.{World}
use Rattle.spec_world.specs.Step.{Step, runs_on, RunsOn, AllInRange}
use Rattle.spec_world.specs.Outcome.{Outcome}
use Rattle.spec_moo.specs.Steps.{play1, play}
use Rattle.spec_moo.proofs.StepWorlds.{next_follows, play_goes_on}
use Rattle.spec_world.proofs.WorldsKept.{agrees_of}
use Rattle.view.specs.Sound.{IsSound}
use Rattle.view.proofs.SoundKeeps.{sound_step}
use Rattle.speculate.specs.BoardState.{runs}
use Rattle.speculate.specs.Parts.{PlaysBehind}
use Rattle.speculate.specs.declared.held.Mark.{Mark}
use Rattle.speculate.specs.declared.held.Mark.TheVariants.{Kept, Rerun, Lost}

-- ---- numbers

taken_numbers : (n k : ℕ) (ss : List Step) → IsTrue (runs_on n ss) → IsTrue (runs_on n (take k ss))
taken_numbers n zero ss h = refl
taken_numbers n (suc k) [] h = refl
taken_numbers n (suc k) (s ∷ ss) h = let p = and_parts _ _ h in and_from _ _ p.0 (taken_numbers (suc n) k ss p.1)

later_numbers : (n k : ℕ) (ss : List Step) → IsTrue (runs_on n ss) → IsTrue (runs_on (n + k) (drop k ss))
later_numbers n zero ss h = let e : n ≡ n + 0 = omega arith in let P : ℕ → Type 0 = λ m. IsTrue (runs_on m ss) in subst P e h
later_numbers n (suc k) [] h = refl
later_numbers n (suc k) (s ∷ ss) h =
    let e : suc n + k ≡ n + suc k = omega arith in
    let P : ℕ → Type 0 = λ m. IsTrue (runs_on m (drop k ss)) in subst P e (later_numbers (suc n) k ss (and_parts _ _ h).1)

taken_range : (k : ℕ) (ss : List Step) → AllInRange ss → AllInRange (take k ss)
taken_range zero ss h = refl
taken_range (suc k) [] h = refl
taken_range (suc k) (s ∷ ss) h = let p = and_parts _ _ h in and_from _ _ p.0 (taken_range k ss p.1)

later_range : (k : ℕ) (ss : List Step) → AllInRange ss → AllInRange (drop k ss)
later_range zero ss h = h
later_range (suc k) [] h = refl
later_range (suc k) (s ∷ ss) h = later_range k ss (and_parts _ _ h).1

-- the next number after steps that run on
next_after : (w : World) (ss : List Step) → IsSound w → AllInRange ss → RunsOn w ss → ((play w ss).0).next ≡ w.next + length ss
unfolding play
next_after w [] sound all h = omega arith
next_after w (s ∷ ss) sound all h =
    let p = and_parts _ _ h in
    let q = and_parts _ _ all in
    let number : s.number ≡ w.next = eqb-true s.number w.next p.0 in
    let u = (play1 w s).0 in
    let follows : u.next ≡ max (suc s.number) w.next = next_follows w s (agrees_of w sound.well_formed) q.0 in
    let e : suc w.next ≡ u.next = omega (arith, number, follows) in
    let P : ℕ → Type 0 = λ n. IsTrue (runs_on n ss) in
    let rest = next_after u ss (sound_step w s sound q.0) q.1 (subst P e p.1) in omega (arith, rest, e)

-- what is left runs on too
pub part_runs_on : (w u : World) (ss : List Step) (os : List Outcome) (first end : ℕ) → IsSound w → first ≤ length ss → RunsOn w ss → AllInRange ss → play w (take first ss) ≡ (u, os)
    → RunsOn u (slice_range ss first end) × AllInRange (slice_range ss first end)
part_runs_on w u ss os first end sound inside h all e =
    let long : length (take first ss) ≡ first = omega (arith, length-take first ss) in
    let next : w.next + first ≡ u.next = sym (ap (λ n. w.next + n) long) ∙ sym (next_after w (take first ss) sound (taken_range first ss all) (taken_numbers w.next first ss h)) ∙ ap (λ r. (r.0).next) e in
    let P : ℕ → Type 0 = λ n. IsTrue (runs_on n (drop first ss)) in
    (taken_numbers u.next (end - first) (drop first ss) (subst P next (later_numbers w.next first ss h)), taken_range (end - first) (drop first ss) (later_range first ss all))

-- ---- steps in parts

abbrev no_steps : List Step
no_steps = []

pub taken_twice : (first k : ℕ) (ss : List Step) → take (first + k) ss ≡ take first ss ++ take k (drop first ss)
taken_twice zero k ss = let e : 0 + k ≡ k = omega arith in ap (λ n. take n ss) e
taken_twice (suc first) zero [] = let e : suc first + 0 ≡ suc (first + 0) = omega arith in ap (λ n. take n no_steps) e
taken_twice (suc first) (suc k) [] = let e : suc first + suc k ≡ suc (first + suc k) = omega arith in ap (λ n. take n no_steps) e
taken_twice (suc first) k (s ∷ ss) = let e : suc first + k ≡ suc (first + k) = omega arith in ap (λ n. take n (s ∷ ss)) e ∙ ap (λ l. s ∷ l) (taken_twice first k ss)

-- the first steps of a part
pub first_of_part : (n count : ℕ) (ss : List Step) → count ≤ n → take count (take n ss) ≡ take count ss
first_of_part n zero ss l = refl
first_of_part zero (suc count) ss l = absurd (omega (arith, l))
first_of_part (suc n) (suc count) [] l = refl
first_of_part (suc n) (suc count) (s ∷ ss) l = ap (λ r. s ∷ r) (first_of_part n count ss (omega (arith, l)))

-- a part behind those before it
pub played_behind : (w u v : World) (ss ts : List Step) (before all : List Outcome) → play w ss ≡ (u, before) → PlaysBehind u ts before v all → play w (ss ++ ts) ≡ (v, all)
played_behind w u v ss ts before all h (os, e, is) =
    let rest : World × List Outcome → World × List Outcome = λ r. ((play r.0 ts).0, r.1 ++ (play r.0 ts).1) in
    play_goes_on w ss ts ∙ ap rest h ∙ ap (λ (r : World × List Outcome). (r.0, before ++ r.1)) e ∙ ap (λ (l : List Outcome). (v, l)) (sym is)

-- so many steps of what is left
pub played_next : (w u v : World) (ss : List Step) (first k : ℕ) (before all : List Outcome)
    → play w (take first ss) ≡ (u, before) → PlaysBehind u (take k (drop first ss)) before v all → play w (take (first + k) ss) ≡ (v, all)
played_next w u v ss first k before all h more =
    ap (play w) (taken_twice first k ss) ∙ played_behind w u v (take first ss) (take k (drop first ss)) before all h more

-- a whole part of them
pub played_part : (w u v : World) (ss : List Step) (first end : ℕ) (before all : List Outcome) → first ≤ end
    → play w (take first ss) ≡ (u, before) → PlaysBehind u (slice_range ss first end) before v all → play w (take end ss) ≡ (v, all)
played_part w u v ss first end before all l h more =
    let n : first + (end - first) ≡ end = omega (arith, l) in
    let P : ℕ → Type 0 = λ m. play w (take m ss) ≡ (v, all) in subst P n (played_next w u v ss first (end - first) before all h more)

-- and the first steps of one
pub played_in_part : (w u v : World) (ss : List Step) (first end n : ℕ) (before all : List Outcome) → n ≤ end - first
    → play w (take first ss) ≡ (u, before) → PlaysBehind u (take n (slice_range ss first end)) before v all → play w (take (first + n) ss) ≡ (v, all)
played_in_part w u v ss first end n before all l h more =
    let P : List Step → Type 0 = λ l. PlaysBehind u l before v all in
    played_next w u v ss first n before all h (subst P (first_of_part (end - first) n (drop first ss) l) more)

pub runs_append : (ms ns : List Mark) → runs (ms ++ ns) ≡ runs ms + runs ns
runs_append [] ns = omega arith
runs_append (Kept ∷ ms) ns = runs_append ms ns
runs_append (Rerun ∷ ms) ns = let e = runs_append ms ns in omega (arith, e)
runs_append (Lost ∷ ms) ns = let e = runs_append ms ns in omega (arith, e)
