use Rattle.std.proofs.Common.{ℕ, ◌+◌, ◌≡◌, List, ap, [], ◌∷◌, ◌++◌, length, Some, slice_get, inl, refl, sym, subst, arith}
use Rattle.std.proofs.lemmas.Option.{slice_get_read, slice_get_within}
use Rattle.spec_world.specs.World.{World}
use Rattle.spec_world.specs.Questions.{Change}
use Rattle.spec_world.specs.Outcome.{Outcome}
use Rattle.speculate.specs.declared.held.Held.TheVariants.{Empty}
use Rattle.speculate.specs.BoardState.{BoardState}
use Rattle.speculate.specs.Progress.{IsNextHeld, Commits, StaysPut}
use Rattle.speculate.specs.Fresh.{Passes}
use Rattle.speculate.specs.Known.{AreStamped, KnowsFresh}
use Rattle.speculate.specs.Verbs.{KnowsVerbs}
use Rattle.speculate.proofs.Honest.{commits_keeps, commits_count, commit_at, since_is, stays_keep, stays_at, knows_verbs}
use Rattle.speculate.proofs.Places.{fits_at, fits_length, length_set, restored}
use Rattle.speculate.proofs.Plays.{range_at}
use Rattle.speculate.proofs.Seen.{seen}
use Rattle.speculate.proofs.Stamped.{knows_fresh, passes_turn, stamped_next, stamped_still}
use Rattle.speculate.proofs.board.Board.commit_held.Goals as goal

pub returns-then-is_err-clause-err : goal.returns-then-is_err-clause-err
returns-then-is_err-clause-err c =
    let b : BoardState = seen c.self.inside in
    let b' : BoardState = record { base = b.base; steps = b.steps; world = b.world; outcomes = c.reserve.new.self.items; marks = b.marks; held = b.held; undone = b.undone; since = b.since } in
    subst (λ (x : BoardState). StaysPut x b') c.self.view_is (stays_at b b.world b.undone c.reserve.new.self.items b.marks b.held (refl, inl (refl, refl)) c.reserve.ensures.items refl refl)

pub returns-then-is_err-2-clause-err : goal.returns-then-is_err-2-clause-err
returns-then-is_err-2-clause-err c =
    let b : BoardState = seen c.self.inside in
    let b' : BoardState = record { base = b.base; steps = b.steps; world = b.world; outcomes = c.reserve.new.self.items; marks = c.reserve-2.new.self.items; held = b.held; undone = b.undone; since = b.since } in
    subst (λ (x : BoardState). StaysPut x b') c.self.view_is
    (stays_at b b.world b.undone c.reserve.new.self.items c.reserve-2.new.self.items b.held (refl, inl (refl, refl)) c.reserve.ensures.items c.reserve-2.ensures.items refl)

pub take_out-held-requires : goal.take_out-held-requires
take_out-held-requires c =
    let n = subst IsNextHeld (sym c.self.view_is) c.requires in
    let w = slice_get_within c.self.inside.held.items (length c.self.inside.outcomes.items) n.0 n.1 in
    omega arith

pub index-requires : goal.index-requires
index-requires c =
    let w = slice_get_within c.self.inside.held.items c.len-at.result c.take_out-held.result c.take_out-held.ensures.value in
    let e = fits_length c.self.inside.steps.items c.self.inside.held.items c.self.invariant.0.held in
    omega arith

pub commit-requires-clause-range : goal.commit-requires-clause-range
commit-requires-clause-range c =
    let w = slice_get_within c.self.inside.held.items c.len-at.result c.take_out-held.result c.take_out-held.ensures.value in
    let e = fits_length c.self.inside.steps.items c.self.inside.held.items c.self.invariant.0.held in
    let at : slice_get c.self.inside.steps.items c.len-at.result ≡ Some c.index.result.now = slice_get_read c.self.inside.steps.items (length c.self.inside.steps.items) c.len-at.result c.index.result.now refl (omega arith) c.index.ensures in
    range_at c.self.inside.steps.items c.len-at.result c.index.result.now c.self.invariant.0.in_range at

pub commit-requires-clause-fits : goal.commit-requires-clause-fits
commit-requires-clause-fits c =
    let w = slice_get_within c.self.inside.held.items c.len-at.result c.take_out-held.result c.take_out-held.ensures.value in
    let e = fits_length c.self.inside.steps.items c.self.inside.held.items c.self.invariant.0.held in
    let at : slice_get c.self.inside.steps.items c.len-at.result ≡ Some c.index.result.now = slice_get_read c.self.inside.steps.items (length c.self.inside.steps.items) c.len-at.result c.index.result.now refl (omega arith) c.index.ensures in
    fits_at c.self.inside.steps.items c.self.inside.held.items c.len-at.result c.index.result.now c.take_out-held.result c.self.invariant.0.held at c.take_out-held.ensures.value

pub invariant_of-self-in-Ok : goal.invariant_of-self-in-Ok
invariant_of-self-in-Ok c =
    let made : Commits (seen c.self.inside) record { base = c.self.inside.base.value; steps = c.self.inside.steps.items; world = c.commit.new.world; outcomes = c.push_reserved.new.self.items; marks = c.push_reserved-in-Ok.new.self.items; held = c.take_out-held.new.held.items; undone = c.commit.new.undone; since = c.since_after-self-inside.result } =
    let w = slice_get_within c.self.inside.held.items c.len-at.result c.take_out-held.result c.take_out-held.ensures.value in
    let e = fits_length c.self.inside.steps.items c.self.inside.held.items c.self.invariant.0.held in
    let at : slice_get c.self.inside.steps.items c.len-at.result ≡ Some c.index.result.now = slice_get_read c.self.inside.steps.items (length c.self.inside.steps.items) c.len-at.result c.index.result.now refl (omega arith) c.index.ensures in
    let os : c.push_reserved.new.self.items ≡ c.self.inside.outcomes.items ++ c.in-Ok.done.outcome ∷ [] = rw (← c.reserve.ensures.items) c.push_reserved.ensures.items in
    let ms : c.push_reserved-in-Ok.new.self.items ≡ c.self.inside.marks.items ++ c.in-Ok.done.mark ∷ [] = rw (← c.reserve-2.ensures.items) c.push_reserved-in-Ok.ensures.items in
    commit_at (seen c.self.inside) c.len-at.result c.index.result.now c.take_out-held.result c.commit.new.world c.in-Ok.done.outcome c.in-Ok.done.mark
    c.push_reserved.new.self.items c.push_reserved-in-Ok.new.self.items c.take_out-held.new.held.items c.commit.new.undone
    (omega arith) at c.take_out-held.ensures.value c.in-Ok.ensures.ok.0 os ms c.take_out-held.ensures.rest c.in-Ok.ensures.ok.1
    c.since_after-self-inside.result
    (since_is (seen c.self.inside) c.commit.new.world c.in-Ok.done.leaves_verbs c.len-at.result c.since_after-self-inside.result (omega arith) c.since_after-self-inside.ensures c.in-Ok.ensures.verbs) in
    let honest = commits_keeps (seen c.self.inside) _ c.self.invariant.0 made in
    let more : c.len-at.result + 1 ≡ length c.push_reserved.new.self.items = omega (arith, commits_count (seen c.self.inside) _ made) in
    let passes : Passes (length c.push_reserved.new.self.items) c.self.inside.stamps c.stamp.new.self c.in-Ok.done.changes =
    subst (λ (n : ℕ). Passes n c.self.inside.stamps c.stamp.new.self c.in-Ok.done.changes) more
    (subst (λ (cs : List Change). Passes (c.len-at.result + 1) c.self.inside.stamps c.stamp.new.self cs) c.as_slice.ensures c.stamp.ensures) in (
      honest,
      stamped_next c.self.inside.base.value.plain c.self.inside.steps.items (length c.self.inside.outcomes.items) (length c.push_reserved.new.self.items)
          c.self.inside.world.plain c.commit.new.world.plain c.self.inside.stamps c.stamp.new.self
          (commits_count (seen c.self.inside) _ made) (ap (λ (p : World × List Outcome). p.0) honest.played) c.self.invariant.1
          (passes_turn c.self.inside.stamps c.stamp.new.self (length c.push_reserved.new.self.items) c.in-Ok.done.changes c.self.inside.world.plain c.commit.new.world.plain c.in-Ok.ensures.changes passes),
    )

pub returns-in-Ok-clause-ok : goal.returns-in-Ok-clause-ok
returns-in-Ok-clause-ok c =
    let made : Commits (seen c.self.inside) record { base = c.self.inside.base.value; steps = c.self.inside.steps.items; world = c.commit.new.world; outcomes = c.push_reserved.new.self.items; marks = c.push_reserved-in-Ok.new.self.items; held = c.take_out-held.new.held.items; undone = c.commit.new.undone; since = c.since_after-self-inside.result } =
    let w = slice_get_within c.self.inside.held.items c.len-at.result c.take_out-held.result c.take_out-held.ensures.value in
    let e = fits_length c.self.inside.steps.items c.self.inside.held.items c.self.invariant.0.held in
    let at : slice_get c.self.inside.steps.items c.len-at.result ≡ Some c.index.result.now = slice_get_read c.self.inside.steps.items (length c.self.inside.steps.items) c.len-at.result c.index.result.now refl (omega arith) c.index.ensures in
    let os : c.push_reserved.new.self.items ≡ c.self.inside.outcomes.items ++ c.in-Ok.done.outcome ∷ [] = rw (← c.reserve.ensures.items) c.push_reserved.ensures.items in
    let ms : c.push_reserved-in-Ok.new.self.items ≡ c.self.inside.marks.items ++ c.in-Ok.done.mark ∷ [] = rw (← c.reserve-2.ensures.items) c.push_reserved-in-Ok.ensures.items in
    commit_at (seen c.self.inside) c.len-at.result c.index.result.now c.take_out-held.result c.commit.new.world c.in-Ok.done.outcome c.in-Ok.done.mark
    c.push_reserved.new.self.items c.push_reserved-in-Ok.new.self.items c.take_out-held.new.held.items c.commit.new.undone
    (omega arith) at c.take_out-held.ensures.value c.in-Ok.ensures.ok.0 os ms c.take_out-held.ensures.rest c.in-Ok.ensures.ok.1
    c.since_after-self-inside.result
    (since_is (seen c.self.inside) c.commit.new.world c.in-Ok.done.leaves_verbs c.len-at.result c.since_after-self-inside.result (omega arith) c.since_after-self-inside.ensures c.in-Ok.ensures.verbs) in
    let P : BoardState → Type 0 = λ v. Commits v record { base = c.self.inside.base.value; steps = c.self.inside.steps.items; world = c.commit.new.world; outcomes = c.push_reserved.new.self.items; marks = c.push_reserved-in-Ok.new.self.items; held = c.take_out-held.new.held.items; undone = c.commit.new.undone; since = c.since_after-self-inside.result } in
    subst P c.self.view_is made

pub put_back-requires : goal.put_back-requires
put_back-requires c =
    let w = slice_get_within c.self.inside.held.items c.len-at.result c.take_out-held.result c.take_out-held.ensures.value in
    rw c.take_out-held.ensures.rest (omega (arith, length_set c.self.inside.held.items c.len-at.result Empty))

left : (c : goal.After-put_back) → StaysPut (seen c.self.inside) record { base = c.self.inside.base.value; steps = c.self.inside.steps.items; world = c.commit.new.world; outcomes = c.reserve.new.self.items; marks = c.reserve-2.new.self.items; held = c.put_back.new.held.items; undone = c.commit.new.undone; since = c.self.inside.since }
left c =
    stays_at (seen c.self.inside) c.commit.new.world c.commit.new.undone c.reserve.new.self.items c.reserve-2.new.self.items c.put_back.new.held.items
    c.in-Err.ensures.err.1 c.reserve.ensures.items c.reserve-2.ensures.items
    (restored c.self.inside.held.items c.take_out-held.new.held.items c.put_back.new.held.items c.len-at.result c.take_out-held.result c.in-Err.held
    c.take_out-held.ensures.rest c.put_back.ensures c.in-Err.ensures.err.0 c.take_out-held.ensures.value)

pub invariant_of-self-in-Err : goal.invariant_of-self-in-Err
invariant_of-self-in-Err c = (
  stays_keep (seen c.self.inside) _ c.self.invariant.0 (left c),
  stamped_still c.self.inside.base.value.plain c.self.inside.steps.items (length c.reserve.new.self.items) c.self.inside.world.plain c.commit.new.world.plain c.self.inside.stamps c.in-Err.ensures.err.1.0
      (subst (λ (os : List Outcome). AreStamped c.self.inside.base.value.plain c.self.inside.steps.items (length os) c.self.inside.world.plain c.self.inside.stamps) (sym c.reserve.ensures.items) c.self.invariant.1),
)

pub returns-in-Err-clause-err : goal.returns-in-Err-clause-err
returns-in-Err-clause-err c =
    let P : BoardState → Type 0 = λ v. StaysPut v record { base = c.self.inside.base.value; steps = c.self.inside.steps.items; world = c.commit.new.world; outcomes = c.reserve.new.self.items; marks = c.reserve-2.new.self.items; held = c.put_back.new.held.items; undone = c.commit.new.undone; since = c.self.inside.since } in
    subst P c.self.view_is (left c)

pub commit-requires-clause-steady : goal.commit-requires-clause-steady
commit-requires-clause-steady c =
    let here : length c.self.inside.outcomes.items ≡ c.len-at.result = omega arith in
    let P : ℕ → Type 0 = λ n. KnowsVerbs c.take_out-held.result c.self.inside.since n c.self.inside.world.plain in
    subst P here (knows_verbs (seen c.self.inside) c.len-at.result c.take_out-held.result c.self.invariant.0 c.take_out-held.ensures.value)

pub commit-requires-clause-fresh : goal.commit-requires-clause-fresh
commit-requires-clause-fresh c =
    let here : length c.self.inside.outcomes.items ≡ c.len-at.result = omega arith in
    let P : ℕ → Type 0 = λ n. KnowsFresh c.take_out-held.result n c.self.inside.stamps c.self.inside.world.plain in
    subst P here (knows_fresh (seen c.self.inside) c.self.inside.stamps c.len-at.result c.take_out-held.result c.self.invariant.0 c.self.invariant.1 c.take_out-held.ensures.value)
