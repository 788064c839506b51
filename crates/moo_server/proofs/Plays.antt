-- A list that is played a part after the other.
use Rattle.std.proofs.Common.{◌≡◌, ℕ, zero, suc, ◌+◌, ◌-◌, ◌<◌, ◌≤◌, ◌⊎◌, inl, inr, List, [], ◌∷◌, ◌++◌, length, take, drop, slice_range, Option, refl, sym, ap, ◌∙◌, subst, arith, length-take, append_assoc}
use Rattle.std.specs.Io.KnownBytes.{Appends}
use Rattle.std.proofs.Math.Seq.{take-length}
use Rattle.spec_world.specs.World.{World}
use Rattle.spec_world.specs.Step.{Step}
use Rattle.spec_world.specs.Outcome.{Outcome}
use Rattle.spec_moo.specs.Steps.{play1, play}
use Rattle.spec_moo.proofs.StepWorlds.{play_goes_on}
use Rattle.speculate.proofs.Parts.{taken_twice, first_of_part}
use Rattle.moo_server.specs.Printed.{outcome_lines, printed}
use Rattle.task_step.specs.declared.partial.Partial.{Partial}
use Rattle.task_step.specs.declared.partial.Refusal.{Refusal}
use Rattle.task_step.specs.declared.partial.Refusal.TheVariants.{Memory, Workers, Numbers}
use Rattle.moo_server.specs.declared.parts.Played.{Played}
use Rattle.moo_server.specs.declared.parts.Played.TheVariants.{Whole, Part, Unwritten}
use Rattle.moo_server.specs.Runs.{PlaysTo, IsPlayed, EndsIn}
use Rattle.moo_server.proofs.Writing.{nothing_written, written_on, written_as}

-- ---- one part more

played_length : (w : World) (ss : List Step) → length (play w ss).1 ≡ length ss
unfolding play
played_length w [] = refl
played_length w (s ∷ ss) = let e = played_length (play1 w s).0 ss in omega (arith, e)

printed_append : (ss ts : List Step) (os ps : List Outcome) → length os ≡ length ss → printed (ss ++ ts) (os ++ ps) ≡ printed ss os ++ printed ts ps
printed_append [] ts [] ps h = refl
printed_append [] ts (o ∷ os) ps h = absurd (omega (arith, h))
printed_append (s ∷ ss) ts [] ps h = absurd (omega (arith, h))
printed_append (s ∷ ss) ts (o ∷ os) ps h =
    ap (λ l. outcome_lines s.number o ++ l) (printed_append ss ts os ps (omega (arith, h))) ∙ sym (append_assoc (outcome_lines s.number o) (printed ss os) (printed ts ps))

-- nothing is played yet
pub none_played : (w : World) (ss : List Step) (old : Option (List ℕ)) → PlaysTo w (take 0 ss) w old old
unfolding play
none_played w ss old = ([], refl, nothing_written old)

-- after steps that were played
played_on : (w u v : World) (ss ts : List Step) (ps : List Outcome) (old middle new : Option (List ℕ))
    → PlaysTo w ss u old middle → play u ts ≡ (v, ps) → Appends middle new (printed ts ps) → PlaysTo w (ss ++ ts) v old new
played_on w u v ss ts ps old middle new (os, e, wrote) f more =
    let rest : World × List Outcome → World × List Outcome = λ r. ((play r.0 ts).0, r.1 ++ (play r.0 ts).1) in
    let long : length os ≡ length ss = sym (ap (λ r. length r.1) e) ∙ played_length w ss in (
      os ++ ps,
      play_goes_on w ss ts ∙ ap rest e ∙ ap (λ r. (r.0, os ++ r.1)) f,
      written_as old new _ _ (sym (printed_append ss ts os ps long)) (written_on old middle new _ _ wrote more),
    )

-- so many steps of what is left
pub more_played : (w u v : World) (ss ts : List Step) (ps : List Outcome) (old middle new : Option (List ℕ)) (first k : ℕ)
    → PlaysTo w (take first ss) u old middle → ts ≡ take k (drop first ss) → play u ts ≡ (v, ps) → Appends middle new (printed ts ps) → PlaysTo w (take (first + k) ss) v old new
more_played w u v ss ts ps old middle new first k h is e wrote =
    let whole : take first ss ++ ts ≡ take (first + k) ss = ap (λ l. take first ss ++ l) is ∙ sym (taken_twice first k ss) in
    let P : List Step → Type 0 = λ l. PlaysTo w l v old new in subst P whole (played_on w u v (take first ss) ts ps old middle new h e wrote)

-- the last part was played
pub all_played : (w u : World) (ss : List Step) (old new : Option (List ℕ)) (first : ℕ) → first ≡ length ss → PlaysTo w (take first ss) u old new → PlaysTo w ss u old new
all_played w u ss old new first e h =
    let P : List Step → Type 0 = λ l. PlaysTo w l u old new in subst P (ap (λ n. take n ss) e ∙ take-length ss) h

pub part_played : (w u v : World) (ss : List Step) (ps : List Outcome) (old middle new : Option (List ℕ)) (first end : ℕ) → first ≤ end
    → PlaysTo w (take first ss) u old middle → play u (slice_range ss first end) ≡ (v, ps) → Appends middle new (printed (slice_range ss first end) ps) → PlaysTo w (take end ss) v old new
part_played w u v ss ps old middle new first end l h e wrote =
    let n : first + (end - first) ≡ end = omega (arith, l) in
    let P : ℕ → Type 0 = λ m. PlaysTo w (take m ss) v old new in
    subst P n (more_played w u v ss (slice_range ss first end) ps old middle new first (end - first) h refl e wrote)

-- ---- want of memory

-- a list that may run, by a number of workers that there may be, is refused for want of memory alone
pub only_memory : (r : Refusal) (workers : ℕ) (Runs : Type 0) → 0 < workers → workers ≤ 64 → Runs
    → (r ≡ Workers → (workers ≡ 0) ⊎ (64 < workers)) → (r ≡ Numbers → (0 < workers) × (workers ≤ 64) × (Runs → ⊥)) → r ≡ Memory
only_memory Memory n R a b runs h k = refl
only_memory Workers n R a b runs h k = elim (h refl) [ inl z ↦ absurd (omega (arith, a, z)) | inr l ↦ absurd (omega (arith, b, l)) ]
only_memory Numbers n R a b runs h k = absurd ((k refl).2 runs)

pub ended_in_part : (w u : World) (ss : List Step) (first end : ℕ) (p : Partial) (old middle new : Option (List ℕ)) (r : Played)
    → first ≤ end → end ≤ length ss → p.count ≤ end - first → PlaysTo w (take first ss) u old middle
    → play u (take p.count (slice_range ss first end)) ≡ (p.world.plain, p.outcomes.items) → EndsIn (slice_range ss first end) first p middle new r → IsPlayed w ss old new r
ended_in_part w u ss first end p old middle new (Whole after) l m n h e x = absurd x
ended_in_part w u ss first end p old middle new Unwritten l m n h e x = tt
ended_in_part w u ss first end p old middle new (Part after count) l m n h e (same, counted, wrote) =
    let is : take p.count (slice_range ss first end) ≡ take p.count (drop first ss) = first_of_part (end - first) p.count (drop first ss) n in
    let all = more_played w u p.world.plain ss (take p.count (slice_range ss first end)) p.outcomes.items old middle new first p.count h is e wrote in
    let P : ℕ → Type 0 = λ k. PlaysTo w (take k ss) p.world.plain old new in
    let Q : World → Type 0 = λ v. PlaysTo w (take count ss) v old new in
    (omega (arith, l, m, n, counted), subst Q (ap (λ c. c.plain) (sym same)) (subst P (sym counted) all))
