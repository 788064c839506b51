-- A step on a world, and steps one after another.
use Rattle.std.proofs.Common.{IfOk, Result, Ok, Err, ◌≡◌, ℕ, ◌+◌, ◌<◌, ◌≤◌, List, [], ◌∷◌, ◌++◌, length, get_or, take, sym, ap, ◌∙◌, arith, add-one}
use Rattle.std.proofs.Math.Seq.{take-suc, take-length}
use Rattle.spec_world.specs.World.{World}
use Rattle.spec_world.specs.Step.{Step}
use Rattle.spec_world.specs.Outcome.{Outcome}
use Rattle.spec_moo.specs.Steps.{play1, play}
use Rattle.spec_moo.proofs.StepWorlds.{play_goes_on}
use Rattle.view.specs.Law.{Goes}
use Rattle.steps.specs.StepsPerformed as performed
use Rattle.task_run.specs.Performed.{StepsTo}

-- what a step left and gave is what it plays
pub is_played : (p : World × Outcome) (v : World) (o : Outcome) → StepsTo p v o → p ≡ (v, o)
is_played p v o h = λ i. (sym h.0 i, h.1 i)

-- one step more
pub played_more : (w u v : World) (ss : List Step) (i : ℕ) (d : Step) (os : List Outcome) (o : Outcome)
    → i < length ss → play w (take i ss) ≡ (u, os) → play1 u (get_or ss i d) ≡ (v, o) → play w (take (i + 1) ss) ≡ (v, os ++ o ∷ [])
unfolding play
played_more w u v ss i d os o l h k =
    let s = get_or ss i d in
    let rest : World × Outcome → World × List Outcome = λ p. (p.0, os ++ p.1 ∷ []) in
    let more : World × List Outcome → World × List Outcome = λ r. ((play r.0 (s ∷ [])).0, r.1 ++ (play r.0 (s ∷ [])).1) in
    rw add-one (ap (play w) (take-suc ss i d l) ∙ play_goes_on w (take i ss) (s ∷ []) ∙ ap more h ∙ ap rest k)

-- no step yet
pub none_played : (w u : World) (ss : List Step) (n : ℕ) (os : List Outcome) → n ≡ 0 → u ≡ w → os ≡ [] → (play w (take n ss) ≡ (u, os)) × (n ≤ length ss)
unfolding play
none_played w u ss n os zero_steps same none_given = (ap (λ k. play w (take k ss)) zero_steps ∙ (λ i. (sym same i, sym none_given i)), omega arith)

-- the first part
pub first_played : (w u v : World) (ss : List Step) (i n : ℕ) (os : List Outcome)
    → play w (take i ss) ≡ (u, os) → n ≡ i → v ≡ u → i ≤ length ss → (play w (take n ss) ≡ (v, os)) × (n ≤ length ss)
first_played w u v ss i n os h count same l = (ap (λ k. play w (take k ss)) count ∙ h ∙ ap (λ (x : World). (x, os)) (sym same), omega arith)

-- the whole
pub all_played : (w u : World) (ss : List Step) (i : ℕ) (os : List Outcome) → play w (take i ss) ≡ (u, os) → i ≡ length ss → play w ss ≡ (u, os)
all_played w u ss i os h e = sym (ap (play w) (ap (λ k. take k ss) e ∙ take-length ss)) ∙ h

-- what a step plays over a view is what it left and gave
pub stepped : {V : Type 0} (holds : V → World → Type 0) (now : V → World → World) (a b : V) (f : World → World × Outcome) (o : Outcome)
    → Goes holds now a b (λ before after. performed.StepsTo (f before) after o) → Goes holds now a b (λ before after. StepsTo (f before) after o)
stepped holds now a b f o goes w left = let g = goes w left in (g.0, (ap (λ p. p.0) (sym g.1), ap (λ p. p.1) g.1))

pub answer_stepped : {V E : Type 0} (holds : V → World → Type 0) (now : V → World → World) (a b : V) (f : World → World × Outcome) (r : Result Outcome E)
    → IfOk r (λ o. Goes holds now a b (λ before after. performed.StepsTo (f before) after o)) → IfOk r (λ o. Goes holds now a b (λ before after. StepsTo (f before) after o))
answer_stepped holds now a b f (Ok o) goes = stepped holds now a b f o goes
answer_stepped holds now a b f (Err e) goes = tt
