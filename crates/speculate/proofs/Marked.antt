-- What a step does over a view that tells on which objects slots were asked for.
use Rattle.std.proofs.Common.{◌≡◌, ℤ, List, Option, Some, None, IfSome, sym, ap, subst, ◌∙◌}
use Rattle.std.specs.Option.{unwrap_or}
use Rattle.spec_world.specs.World.{World}
use Rattle.spec_world.specs.Step.{Step}
use Rattle.spec_world.specs.Outcome.{Outcome}
use Rattle.spec_world.specs.Questions.{Change, Agrees, ask, apply_all}
use Rattle.spec_moo.specs.Steps.{play1}
use Rattle.view.specs.Law.{Goes, AreSound}
use Rattle.view.specs.Sound.{IsSound}
use Rattle.world.specs.Marked.{AreOnThese}
use Rattle.world.specs.Trace.{Trace, IsStart, world_now}
use Rattle.task_run.specs.Performed.{StepsTo}
use Rattle.task_run.proofs.Playing.{is_played}
use Rattle.speculate.specs.Lanes.{DoesOn}
use Rattle.speculate.proofs.Recorded.{nothing_yet}

-- the same world with the same changes
now_is : (home : World) (old new : Trace) (cs : List Change) → old ≡ nothing_yet home → new.home ≡ old.home → cs ≡ new.changes → world_now new new.home ≡ apply_all cs home
now_is home old new cs empty stays changes =
    ap (apply_all new.changes) (stays ∙ ap (λ (t : Trace). t.home) empty) ∙ ap (λ (xs : List Change). apply_all xs home) (sym changes)

-- it may begin
pub begins : (home : World) (old : Trace) → old ≡ nothing_yet home → IsSound home → IsStart old old.home
begins home old empty sound = subst (λ (t : Trace). IsStart t t.home) (sym empty) (sound, tt)

pub begins_sound : (home : World) (old : Trace) → old ≡ nothing_yet home → AreSound IsStart world_now old
begins_sound home old empty = subst (AreSound IsStart world_now) (sym empty) (λ w start. start.0)

-- in each world that answers alike what was asked it does the same
pub marked_does : (home : World) (s : Step) (old new : Trace) (cs : List Change) (o : Outcome) (os : List ℤ) → old ≡ nothing_yet home → new.home ≡ old.home → cs ≡ new.changes
    → Goes IsStart world_now old new (λ before after. StepsTo (play1 before s) after o) → AreOnThese new.home new.reads os → DoesOn os home s cs o
marked_does home s old new cs o os empty stays changes goes covers w sound alike =
    let G : Trace → Type 0 = λ t. Goes IsStart world_now t new (λ before after. StepsTo (play1 before s) after o) in
    let same : new.home ≡ home = stays ∙ ap (λ (t : Trace). t.home) empty in
    let agrees : Agrees w new.reads = covers w sound (λ q on. alike q on ∙ ap (λ (v : World). ask v q) (sym same)) in
    let gone : Goes IsStart world_now (nothing_yet home) new (λ before after. StepsTo (play1 before s) after o) = subst G empty goes in
    let g : StepsTo (play1 w s) (world_now new w) o = (gone w (sound, agrees)).1 in
    is_played (play1 w s) (apply_all cs w) o (ap (λ (ds : List Change). apply_all ds w) changes ∙ g.0, g.1)

-- it leaves the world sound
pub marked_sound : (home : World) (old new : Trace) (cs : List Change) → old ≡ nothing_yet home → new.home ≡ old.home → cs ≡ new.changes → IsStart new new.home
    → AreSound IsStart world_now new → IsSound (apply_all cs home)
marked_sound home old new cs empty stays changes start sound = subst IsSound (now_is home old new cs empty stays changes) (sound new.home start)

-- which the records are, where they were made
pub marked_records : (home : World) (old new : Trace) (cs : List Change) (fork : Option World) → old ≡ nothing_yet home → new.home ≡ old.home → cs ≡ new.changes
    → unwrap_or fork (world_now new new.home) ≡ world_now new new.home → IfSome fork (λ d. d ≡ apply_all cs home)
marked_records home old new cs None empty stays changes is = tt
marked_records home old new cs (Some d) empty stays changes is =
    is ∙ now_is home old new cs empty stays changes
