-- Playing one step more.
use Rattle.std.proofs.Common.{◌≡◌, ◌≤◌, ◌+◌, ◌==◌, ℕ, zero, suc, List, [], ◌∷◌, ◌++◌, length, take, IsTrue, Some, slice_get, refl, ap, subst, arith}
use Rattle.std.proofs.lemmas.Bool.{eqb-true}
use Rattle.std.specs.List.{list_all}
use Rattle.spec_world.specs.World.{World}
use Rattle.spec_world.specs.Step.{Step, in_range, runs_on, RunsOn, AllInRange}
use Rattle.spec_world.specs.Outcome.{Outcome}
use Rattle.spec_moo.specs.Steps.{play1, play}
use Rattle.view.proofs.Renumbered.{number_small}
use Rattle.spec_value.proofs.Entries.{first_holds, second_holds}
use Rattle.world.specs.Counted.{Counted}

abbrev outcome_first : Outcome → World × List Outcome → World × List Outcome
outcome_first o p = (p.0, o ∷ p.1)

abbrev pub then_step : World × List Outcome → Step → World × List Outcome
then_step p s = ((play1 p.0 s).0, p.1 ++ (play1 p.0 s).1 ∷ [])

pub play_more : (w : World) (ss : List Step) (k : ℕ) (s : Step) → slice_get ss k ≡ Some s → play w (take (suc k) ss) ≡ then_step (play w (take k ss)) s
unfolding play
play_more w [] k s is = cc
play_more w (x ∷ ss) zero s is =
    let e : x ≡ s = cc in rw e refl
play_more w (x ∷ ss) (suc k) s is = ap (outcome_first (play1 w x).1) (play_more (play1 w x).0 ss k s is)

pub range_at : (ss : List Step) (k : ℕ) (s : Step) → AllInRange ss → slice_get ss k ≡ Some s → IsTrue (in_range s)
range_at [] k s all is = cc
range_at (x ∷ ss) zero s all is =
    let e : x ≡ s = cc in subst (λ z. IsTrue (in_range z)) e (first_holds (in_range x) (list_all in_range ss) all)
range_at (x ∷ ss) (suc k) s all is = range_at ss k s (second_holds (in_range x) (list_all in_range ss) all) is

pub play_none : (w : World) (ss : List Step) → play w (take 0 ss) ≡ (w, [])
unfolding play
play_none w [] = refl
play_none w (s ∷ ss) = refl

-- nothing was played
pub nothing_played : (w u : Counted) (ss : List Step) (n : ℕ) (os : List Outcome) → n ≡ 0 → u ≡ w → os ≡ [] → play w.plain (take n ss) ≡ (u.plain, os)
nothing_played w u ss n os a b c = rw (a, b, c) (play_none w.plain ss)

-- ---- a list is not long, since its numbers run on

runs_below : (n : ℕ) (ss : List Step) → n ≤ 33554432 → IsTrue (runs_on n ss) → AllInRange ss → n + length ss ≤ 33554432
runs_below n [] small runs all = omega arith
runs_below n (s ∷ ss) small runs all =
    let number : s.number ≡ n = eqb-true s.number n (first_holds (s.number == n) (runs_on (suc n) ss) runs) in
    let most = number_small s (first_holds (in_range s) (list_all in_range ss) all) in
    let rest = runs_below (suc n) ss (omega arith) (second_holds (s.number == n) (runs_on (suc n) ss) runs) (second_holds (in_range s) (list_all in_range ss) all) in
    omega (arith, rest)

pub runs_few : (w : World) (ss : List Step) → RunsOn w ss → AllInRange ss → length ss ≤ 33554432
runs_few w [] runs all = omega arith
runs_few w (s ∷ ss) runs all =
    let number : s.number ≡ w.next = eqb-true s.number w.next (first_holds (s.number == w.next) (runs_on (suc w.next) ss) runs) in
    let most = number_small s (first_holds (in_range s) (list_all in_range ss) all) in
    omega (arith, runs_below w.next (s ∷ ss) (omega arith) runs all)
