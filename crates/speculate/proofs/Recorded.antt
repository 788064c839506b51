-- A step run over nothing but its reads.
use Rattle.std.proofs.Common.{◌≡◌, List, [], sym, ap, subst, ◌∙◌}
use Rattle.spec_world.specs.World.{World}
use Rattle.spec_world.specs.Questions.{Read, Change, Agrees}
use Rattle.spec_world.specs.Step.{Step}
use Rattle.spec_world.specs.Outcome.{Outcome}
use Rattle.spec_moo.specs.Steps.{play1}
use Rattle.view.specs.Law.{Goes}
use Rattle.world.specs.Trace.{Trace, IsStart, world_now}
use Rattle.task_run.specs.Performed.{StepsTo}
use Rattle.speculate.specs.Fresh.{Covers}
use Rattle.speculate.specs.Right.{IsRight}
use Rattle.speculate.specs.declared.slots_read.SlotsRead.{SlotsRead}

abbrev pub nothing_yet : World → Trace
nothing_yet home = record { home = home; reads = []; changes = [] }

-- it gives a right guess
pub right_guess : (home : World) (s : Step) (new : Trace) (o : Outcome)
    → Goes IsStart world_now (nothing_yet home) new (λ before after. StepsTo (play1 before s) after o)
    → IsRight record { step = s; reads = new.reads; changes = new.changes; outcome = o; before = home }
right_guess home s new o goes w sound agrees =
    let g = goes w (sound, agrees) in
    λ i. (sym g.1.0 i, g.1.1 i)

-- the same by its parts
pub right_at : (home : World) (s s' : Step) (old new : Trace) (rs : List Read) (cs : List Change) (o : Outcome)
    → old ≡ nothing_yet home → s' ≡ s → rs ≡ new.reads → cs ≡ new.changes
    → Goes IsStart world_now old new (λ before after. StepsTo (play1 before s) after o)
    → IsRight record { step = s'; reads = rs; changes = cs; outcome = o; before = home }
right_at home s s' old new rs cs o empty same reads changes goes =
    let G : Trace → Type 0 = λ t. Goes IsStart world_now t new (λ before after. StepsTo (play1 before s) after o) in
    rw (same, reads, changes) (right_guess home s new o (subst G empty goes))

-- the world that it began with stays its home
pub same_home : (now before : World) (old new : Trace) → old ≡ nothing_yet now → new.home ≡ old.home → before ≡ now → before ≡ new.home
same_home now before old new empty home is = is ∙ sym (home ∙ ap (λ (t : Trace). t.home) empty)

-- which agrees with what was read
pub home_agrees : (before : World) (t : Trace) (rs : List Read) → before ≡ t.home → rs ≡ t.reads → Agrees t.home t.reads → Agrees before rs
home_agrees before t rs home reads agrees = rw (home, reads) agrees

-- and with which agrees what answers alike all that may have been asked
pub home_covers : (before : World) (t : Trace) (rs : List Read) (s : SlotsRead) → before ≡ t.home → rs ≡ t.reads → Covers t.home t.reads s → Covers before rs s
home_covers before t rs s home reads covers = rw (home, reads) covers
