-- Each change keeps a board honest.
use Rattle.std.proofs.Common.{Bool, true, false, if◌then◌else◌, ◌≡◌, ℕ, zero, suc, ◌+◌, ◌<◌, ◌≤◌, List, [], ◌∷◌, ◌++◌, length, take, IsTrue, Some, None, slice_get, slice_set, inl, inr, refl, sym, ap, subst, ◌∙◌, arith, length-append, length-drop}
use Rattle.std.proofs.lemmas.List.{take_all}
use Rattle.std.proofs.lemmas.List.Elements.{All-set, All-replicate}
use Rattle.std.proofs.lemmas.Option.{slice_get_within, slice_get_cases}
use Rattle.spec_world.specs.World.{World}
use Rattle.spec_world.specs.Questions.{Agrees, verbs_at}
use Rattle.spec_world.specs.Step.{Step, RunsOn, AllInRange, in_range}
use Rattle.spec_world.specs.Outcome.{Outcome}
use Rattle.spec_moo.specs.Steps.{play1, play}
use Rattle.world.specs.Counted.{Counted}
use Rattle.view.specs.Sound.{IsSound}
use Rattle.speculate.specs.declared.held.Held.{Held}
use Rattle.speculate.specs.declared.held.Held.TheVariants.{Empty, Loss, Holds}
use Rattle.speculate.specs.declared.held.Mark.{Mark}
use Rattle.speculate.specs.declared.held.Mark.TheVariants.{Kept, Rerun, Lost}
use Rattle.speculate.specs.Right.{Guessed, IsRight, after_guess}
use Rattle.speculate.specs.BoardState.{BoardState, FitsStep, runs, IsHonest, IsSeen, opened_on, with_held, world_after}
use Rattle.speculate.specs.Verbs.{SameVerbs, KnowsVerbs}
use Rattle.speculate.specs.Progress.{Committed, Commits, with_commit, IsSince, Advances, ready, rest, IsUndone, StaysPut, AdvancesInPart, AllHeld}
use Rattle.speculate.proofs.Places.{fits_at, fits_set, fits_any, fits_empty, fits_length, ready_more, ready_all, held_at}
use Rattle.speculate.proofs.Plays.{play_more, play_none, range_at}
use Rattle.view.proofs.SoundKeeps.{sound_step}

pub kept_plays : (w : World) (s : Step) (g : Guessed) (w' : Counted) (n : ℕ) (o : Outcome) → IsSound w → g.step ≡ s → IsRight g → Agrees w g.reads
    → w' ≡ record { plain = after_guess g w; opened = n } → o ≡ g.outcome → play1 w s ≡ (w'.plain, o)
kept_plays w s g w' n o sound same right agrees a b =
    let P : Step → Type 0 = λ z. play1 w z ≡ (after_guess g w, g.outcome) in
    rw (a, b) (subst P same (right w sound agrees))

-- the changes of a right guess leave the world sound
pub kept_is_sound : (w : World) (s : Step) (g : Guessed) → IsSound w → IsTrue (in_range s) → g.step ≡ s → IsRight g → Agrees w g.reads → IsSound (after_guess g w)
kept_is_sound w s g sound range same right agrees =
    let P : Step → Type 0 = λ z. IsSound (play1 w z).0 in
    subst IsSound (ap (λ (p : World × Outcome). p.0) (right w sound agrees)) (subst P (sym same) (sound_step w s sound range))

-- whatever a position holds, its commit is one step of the play
pub committed_plays : (w : Counted) (s : Step) (h : Held) (w' : Counted) (o : Outcome) (m : Mark) → IsSound w.plain → FitsStep s h → Committed w s h w' o m → play1 w.plain s ≡ (w'.plain, o)
committed_plays w s Empty w' o m sound fits c = absurd c
committed_plays w s Loss w' o m sound fits c = c.0.0
committed_plays w s (Holds g seen) w' o m sound fits c =
    elim c [ inl a ↦ kept_plays w.plain s g w' w.opened o sound fits.0 fits.1 a.0 a.1 a.2 | inr b ↦ b.1.0 ]

-- one more mark
pub runs_more : (ms : List Mark) (m : Mark) → runs (ms ++ m ∷ []) ≡ runs ms + runs (m ∷ [])
runs_more [] m = omega arith
runs_more (Kept ∷ ms) m = runs_more ms m
runs_more (Rerun ∷ ms) m = omega (arith, runs_more ms m)
runs_more (Lost ∷ ms) m = omega (arith, runs_more ms m)

-- and one view was opened for each mark but Kept
views_more : (w : Counted) (s : Step) (h : Held) (w' : Counted) (o : Outcome) (m : Mark) (ms : List Mark) (n u : ℕ)
    → Committed w s h w' o m → w.opened ≡ n + runs ms + u → w'.opened ≡ n + runs (ms ++ m ∷ []) + u
views_more w s Empty w' o m ms n u c h = absurd c
views_more w s Loss w' o m ms n u c h = rw c.1 (omega (arith, runs_more ms Lost, c.0.1))
views_more w s (Holds g seen) w' o m ms n u c h =
    elim c [
      | inl a ↦ rw a.3 (omega (arith, runs_more ms Kept, ap (λ (x : Counted). x.opened) a.1))
      | inr b ↦ rw b.2 (omega (arith, runs_more ms Rerun, b.1.1))
    ]

holds_something : (w : Counted) (s : Step) (h : Held) (w' : Counted) (o : Outcome) (m : Mark) → Committed w s h w' o m → h ≡ Empty → ⊥
holds_something w s h w' o m c is =
    let P : Held → Type 0 = λ x. Committed w s x w' o m in subst P is c

-- ---- the next position is committed

next_played : (w : World) (ss : List Step) (k : ℕ) (now : World) (os : List Outcome) (s : Step) (w' : World) (o : Outcome)
    → play w (take k ss) ≡ (now, os) → slice_get ss k ≡ Some s → play1 now s ≡ (w', o) → play w (take (suc k) ss) ≡ (w', os ++ o ∷ [])
next_played w ss k now os s w' o before at one = rw (play_more w ss k s at, before, one) refl

-- the verbs are those since the same number of steps as before, or since this one
still_steady : (b : BoardState) (w : Counted) (os : List Outcome) (since : ℕ) → IsHonest b → IsSince b w since → length os ≡ suc (length b.outcomes)
    → play b.base.plain (take (suc (length b.outcomes)) b.steps) ≡ (w.plain, os)
    → (k : ℕ) → since ≤ k → k ≤ length os → SameVerbs (world_after b.base.plain b.steps k) w.plain
still_steady b w os since honest is more played k above below = elim (slice_get_cases os k).1 [ inl a ↦ before (a.1) | inr a ↦ now (omega (arith, a.0)) ]
  where
    before : k < length os → SameVerbs (world_after b.base.plain b.steps k) w.plain
    before less =
        elim is [
          | inl s ↦ λ o. s.1 o ∙ honest.steady k (omega (arith, s.0)) (omega arith) o
          | inr s ↦ absurd (omega (arith, s))
        ]

    now : k ≡ suc (length b.outcomes) → SameVerbs (world_after b.base.plain b.steps k) w.plain
    now e =
        let is_now : world_after b.base.plain b.steps k ≡ w.plain = rw e (ap (λ (p : World × List Outcome). p.0) played) in
        λ o. sym (ap (λ (x : World). verbs_at x o) is_now)

still_since : (b : BoardState) (w : Counted) (since : ℕ) → IsHonest b → IsSince b w since → since ≤ suc (length b.outcomes)
still_since b w since honest is = elim is [ inl s ↦ omega (arith, s.0, honest.since) | inr s ↦ omega (arith, s) ]

pub commits_keeps : (b b' : BoardState) → IsHonest b → Commits b b' → IsHonest b'
commits_keeps b b' honest c =
    let fits = fits_at b.steps b.held (length b.outcomes) c.step c.held honest.held c.step_is c.held_is in
    let one = committed_plays b.world c.step c.held c.world c.outcome c.mark honest.sound fits c.committed in
    let within = slice_get_within b.steps (length b.outcomes) c.step c.step_is in
    let more : length (b.outcomes ++ c.outcome ∷ []) ≡ suc (length b.outcomes) = omega (arith, length-append b.outcomes (c.outcome ∷ [])) in
    let after : IsSound (play1 b.world.plain c.step).0 = sound_step b.world.plain c.step honest.sound (range_at b.steps (length b.outcomes) c.step honest.in_range c.step_is) in
    let played = next_played b.base.plain b.steps (length b.outcomes) b.world.plain b.outcomes c.step c.world.plain c.outcome honest.played c.step_is one in
    let next : IsHonest (with_commit b c.world c.outcome c.mark c.since) = record {
      sound = subst IsSound (ap (λ (p : World × Outcome). p.0) one) after;
      numbers = honest.numbers;
      in_range = honest.in_range;
      count = omega arith;
      marks = omega (arith, length-append b.marks (c.mark ∷ []), honest.marks);
      played = rw more played;
      held = fits_any b.steps b.held (length b.outcomes) Empty (λ s. tt) honest.held;
      seen = All-set (IsSeen b.base.plain b.steps) b.held (length b.outcomes) Empty tt honest.seen;
      views = views_more b.world c.step c.held c.world c.outcome c.mark b.marks b.base.opened b.undone c.committed honest.views;
      since = rw more (still_since b c.world c.since honest c.since_is);
      steady = still_steady b c.world (b.outcomes ++ c.outcome ∷ []) c.since honest c.since_is more played;
    } in
    subst IsHonest (sym c.after) next

pub advances_keep : (k : ℕ) (b b' : BoardState) → IsHonest b → Advances k b b' → IsHonest b'
advances_keep zero b b' honest a = subst IsHonest (sym a) honest
advances_keep (suc k) b b' honest a = commits_keeps a.0 b' (advances_keep k b a.0 honest a.1) a.2

-- ---- nothing is committed

pub undone_keeps : (b : BoardState) (w : Counted) (n : ℕ) → IsHonest b → IsUndone b.world b.undone w n → IsHonest (record b { world = w; undone = n })
undone_keeps b w n honest u = record {
  sound = subst IsSound (sym u.0) honest.sound;
  numbers = honest.numbers;
  in_range = honest.in_range;
  count = honest.count;
  marks = honest.marks;
  played = honest.played ∙ ap (λ (p : World). (p, b.outcomes)) (sym u.0);
  held = honest.held;
  seen = honest.seen;
  since = honest.since;
  steady = λ k above below o. ap (λ (x : World). verbs_at x o) u.0 ∙ honest.steady k above below o;
  views = elim u.1 [ inl a ↦ omega (arith, a.0, a.1, honest.views) | inr a ↦ omega (arith, a.0, a.1, honest.views) ];
}

pub stays_keep : (b b' : BoardState) → IsHonest b → StaysPut b b' → IsHonest b'
stays_keep b b' honest s = subst IsHonest (sym s.3) (undone_keeps b s.0 s.1 honest s.2)

pub part_keeps : (b b' : BoardState) → IsHonest b → AdvancesInPart b b' → IsHonest b'
part_keeps b b' honest p = stays_keep p.2.0 b' (advances_keep p.0 b p.2.0 honest p.2.1) p.2.2

-- ---- a position takes something

-- what fits its step
pub holding_keeps : (b : BoardState) (i : ℕ) (s : Step) (h : Held) → IsHonest b → slice_get b.steps i ≡ Some s → FitsStep s h → IsSeen b.base.plain b.steps h
    → IsHonest (with_held b i h)
holding_keeps b i s h honest at fits seen = record {
  sound = honest.sound;
  numbers = honest.numbers;
  in_range = honest.in_range;
  count = honest.count;
  marks = honest.marks;
  played = honest.played;
  held = fits_set b.steps b.held i s h honest.held at fits;
  seen = All-set (IsSeen b.base.plain b.steps) b.held i h seen honest.seen;
  views = honest.views;
  since = honest.since;
  steady = honest.steady;
}

-- a loss
pub lose_keeps : (b : BoardState) (i : ℕ) → IsHonest b → IsHonest (with_held b i Loss)
lose_keeps b i honest = record {
  sound = honest.sound;
  numbers = honest.numbers;
  in_range = honest.in_range;
  count = honest.count;
  marks = honest.marks;
  played = honest.played;
  held = fits_any b.steps b.held i Loss (λ s. tt) honest.held;
  seen = All-set (IsSeen b.base.plain b.steps) b.held i Loss tt honest.seen;
  views = honest.views;
  since = honest.since;
  steady = honest.steady;
}

pub opened_honest : (base : Counted) (ss : List Step) → IsSound base.plain → RunsOn base.plain ss → AllInRange ss → IsHonest (opened_on base ss)
unfolding play
opened_honest base ss sound runs range = record {
  sound = sound;
  numbers = runs;
  in_range = range;
  count = omega arith;
  marks = refl;
  played = refl;
  held = fits_empty ss;
  seen = All-replicate (IsSeen base.plain ss) (length ss) Empty tt;
  views = omega arith;
  since = omega arith;
  steady = λ k above below o.
      let none : k ≡ 0 = omega arith in
      let is_now : world_after base.plain ss k ≡ base.plain = rw none (ap (λ (p : World × List Outcome). p.0) (play_none base.plain ss)) in
      sym (ap (λ (x : World). verbs_at x o) is_now);
}

-- ---- nothing happened

pub stays_same : (b b' : BoardState) → b' ≡ b → StaysPut b b'
stays_same b b' e = (b.world, b.undone, (refl, inl (refl, refl)), e)

pub stays_at : (b : BoardState) (w : Counted) (n : ℕ) (os : List Outcome) (ms : List Mark) (hs : List Held)
    → IsUndone b.world b.undone w n → os ≡ b.outcomes → ms ≡ b.marks → hs ≡ b.held
    → StaysPut b record { base = b.base; steps = b.steps; world = w; outcomes = os; marks = ms; held = hs; undone = n; since = b.since }
stays_at b w n os ms hs u a c d = (w, n, u, rw (a, c, d) refl)

-- ---- what an advance counts

-- what was ready before a commit is one more than what is ready after it
pub commits_ready : (b b' : BoardState) → Commits b b' → ready (rest b) ≡ suc (ready (rest b'))
commits_ready b b' c =
    let more : length (b.outcomes ++ c.outcome ∷ []) ≡ suc (length b.outcomes) = omega (arith, length-append b.outcomes (c.outcome ∷ [])) in
    let P : BoardState → Type 0 = λ x. ready (rest b) ≡ suc (ready (rest x)) in
    subst P (sym c.after) (rw more (ready_more b.held (length b.outcomes) c.held Empty c.held_is (holds_something b.world c.step c.held c.world c.outcome c.mark c.committed)))

pub commits_count : (b b' : BoardState) → Commits b b' → length b'.outcomes ≡ suc (length b.outcomes)
commits_count b b' c = omega (arith, length-append b.outcomes (c.outcome ∷ []), ap (λ (x : BoardState). length x.outcomes) c.after)

-- an advance keeps the base and the steps, and counts what it commits
pub advances_same : (k : ℕ) (b b' : BoardState) → Advances k b b' → (b'.base ≡ b.base) × (b'.steps ≡ b.steps) × (length b'.outcomes ≡ k + length b.outcomes)
advances_same zero b b' a = (ap (λ (x : BoardState). x.base) a, ap (λ (x : BoardState). x.steps) a, omega (arith, ap (λ (x : BoardState). length x.outcomes) a))
advances_same (suc k) b b' a =
    let m : BoardState = a.0 in
    let r = advances_same k b m a.1 in
    let c = a.2 in
    (ap (λ (x : BoardState). x.base) c.after ∙ r.0, ap (λ (x : BoardState). x.steps) c.after ∙ r.1, omega (arith, commits_count m b' c, r.2))

-- where each later position holds something, an advance ends the list
pub advances_all : (b b' : BoardState) (k : ℕ) → IsHonest b → AllHeld (rest b) → k ≡ ready (rest b) → Advances k b b' → length b'.outcomes ≡ length b.steps
advances_all b b' k honest all is a =
    let s = advances_same k b b' a in
    let n = fits_length b.steps b.held honest.held in
    let r = ready_all (rest b) all in
    omega (arith, length-drop (length b.outcomes) b.held, honest.count, s.2)

-- an honest board at the end of its list is the whole play
pub ended_plays : (b : BoardState) → IsHonest b → length b.outcomes ≡ length b.steps → play b.base.plain b.steps ≡ (b.world.plain, b.outcomes)
ended_plays b honest end =
    let e : take (length b.outcomes) b.steps ≡ b.steps = take_all (length b.outcomes) b.steps (omega arith) in
    rw e at honest.played

-- ---- the next commit, by its parts

-- a step that leaves the verbs, or may have changed some
pub since_is : (b : BoardState) (w : Counted) (leaves : Bool) (at since : ℕ) → at ≡ length b.outcomes → since ≡ (if leaves then b.since else suc at)
    → (IsTrue leaves → SameVerbs b.world.plain w.plain) → IsSince b w since
since_is b w true at since here is same = inl (is, same refl)
since_is b w false at since here is same = inr (is ∙ ap suc here)

pub commit_at : (b : BoardState) (at : ℕ) (s : Step) (h : Held) (w : Counted) (o : Outcome) (m : Mark) (os : List Outcome) (ms : List Mark) (hs : List Held) (n : ℕ)
    → at ≡ length b.outcomes → slice_get b.steps at ≡ Some s → slice_get b.held at ≡ Some h → Committed b.world s h w o m
    → os ≡ b.outcomes ++ o ∷ [] → ms ≡ b.marks ++ m ∷ [] → hs ≡ slice_set b.held at Empty → n ≡ b.undone → (since : ℕ) → IsSince b w since
    → Commits b record { base = b.base; steps = b.steps; world = w; outcomes = os; marks = ms; held = hs; undone = n; since = since }
commit_at b at s h w o m os ms hs n here s_at h_at done os_is ms_is hs_is n_is since since_is = record {
  step = s;
  held = h;
  world = w;
  outcome = o;
  mark = m;
  since = since;
  since_is = since_is;
  step_is = subst (λ (k : ℕ). slice_get b.steps k ≡ Some s) here s_at;
  held_is = subst (λ (k : ℕ). slice_get b.held k ≡ Some h) here h_at;
  committed = done;
  after = rw (os_is, ms_is, hs_is, n_is, here) refl;
}

-- ---- what a held guess knows of the verbs

pub knows_verbs : (b : BoardState) (at : ℕ) (h : Held) → IsHonest b → slice_get b.held at ≡ Some h → KnowsVerbs h b.since (length b.outcomes) b.world.plain
knows_verbs b at h honest is = go h (held_at (IsSeen b.base.plain b.steps) b.held at h honest.seen is)
  where
    go : (x : Held) → IsSeen b.base.plain b.steps x → KnowsVerbs x b.since (length b.outcomes) b.world.plain
    go Empty seen = tt
    go Loss seen = tt
    go (Holds g None) seen = λ within. absurd within
    go (Holds g (Some k)) seen = λ within. let P : World → Type 0 = λ x. SameVerbs x b.world.plain in subst P (sym seen) (honest.steady k within.0 within.1)
