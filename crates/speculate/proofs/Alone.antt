-- Steps of a list on one thread.
use Rattle.std.proofs.Common.{◌≡◌, ◌+◌, ℕ, List, ◌∷◌, ◌++◌, [], Option, Some, None, IfSome, refl, sym, ap, subst, ◌∙◌, arith}
use Rattle.std.specs.Option.{unwrap_or}
use Rattle.spec_world.specs.World.{World}
use Rattle.spec_world.specs.Step.{Step}
use Rattle.spec_world.specs.Outcome.{Outcome}
use Rattle.spec_world.specs.Questions.{Change, Agrees, apply_all}
use Rattle.spec_moo.specs.Steps.{play1}
use Rattle.view.specs.Law.{Goes, AreSound}
use Rattle.view.specs.Sound.{IsSound}
use Rattle.world.specs.Amended.{Amended, amended_now}
use Rattle.world.specs.Counted.{Counted}
use Rattle.task_run.specs.Performed.{StepsTo}
use Rattle.task_run.proofs.Playing.{is_played}
use Rattle.speculate.specs.Right.{Guessed, IsRight, after_guess}
use Rattle.speculate.specs.BoardState.{runs}
use Rattle.speculate.specs.declared.held.Mark.{Mark}
use Rattle.speculate.proofs.Honest.{kept_plays, runs_more}

-- a right guess that agrees with the world: what becomes of it is the step
pub kept_step : (w w' : Counted) (s : Step) (g : Guessed) (o : Outcome) → IsSound w.plain → g.step ≡ s → IsRight g → Agrees w.plain g.reads
    → (w' ≡ record { plain = after_guess g w.plain; opened = w.opened }) × (o ≡ g.outcome) → (play1 w.plain s ≡ (w'.plain, o)) × (w'.opened ≡ w.opened)
kept_step w w' s g o sound same right agrees h =
    (kept_plays w.plain s g w' w.opened o sound same right agrees h.0 h.1, ap (λ (x : Counted). x.opened) h.0)

abbrev pub unchanged : World → Amended
unchanged home = record { home = home; changes = [] }

abbrev IsHome : Amended → World → Type 0
IsHome a w = w ≡ a.home

abbrev changed_world : Amended → World → World
changed_world a w = amended_now a

-- the same world with the same changes
amended_same : (home : World) (old new : Amended) (cs : List Change) → old ≡ unchanged home → new.home ≡ old.home → cs ≡ new.changes → amended_now new ≡ apply_all cs home
amended_same home old new cs empty stays changes =
    ap (apply_all new.changes) (stays ∙ ap (λ (a : Amended). a.home) empty) ∙ ap (λ (xs : List Change). apply_all xs home) (sym changes)

-- what a step does on a borrowed world is what it plays there
pub tried : (home : World) (s : Step) (old new : Amended) (cs : List Change) (o : Outcome) → old ≡ unchanged home → new.home ≡ old.home → cs ≡ new.changes
    → Goes IsHome changed_world old new (λ before after. StepsTo (play1 before s) after o) → play1 home s ≡ (apply_all cs home, o)
tried home s old new cs o empty stays changes goes =
    let P : Amended → Type 0 = λ a. StepsTo (play1 (amended_now a) s) (amended_now new) o in
    let g : StepsTo (play1 home s) (amended_now new) o = subst P empty (goes new.home refl).1 in
    is_played (play1 home s) (apply_all cs home) o (sym (amended_same home old new cs empty stays changes) ∙ g.0, g.1)

-- and leaves it sound
pub tried_sound : (home : World) (old new : Amended) (cs : List Change) → old ≡ unchanged home → new.home ≡ old.home → cs ≡ new.changes → AreSound IsHome changed_world new → IsSound (apply_all cs home)
tried_sound home old new cs empty stays changes sound =
    subst IsSound (amended_same home old new cs empty stays changes) (sound new.home refl)

-- which the records are, where they were made
pub tried_records : (home : World) (old new : Amended) (cs : List Change) (fork : Option World) → old ≡ unchanged home → new.home ≡ old.home → cs ≡ new.changes
    → unwrap_or fork (apply_all new.changes new.home) ≡ apply_all new.changes new.home → IfSome fork (λ d. d ≡ apply_all cs home)
tried_records home old new cs None empty stays changes is = tt
tried_records home old new cs (Some d) empty stays changes is =
    is ∙ amended_same home old new cs empty stays changes

-- one mark more
pub views_on : (ms ns : List Mark) (m : Mark) (n k j : ℕ) → k ≡ n + runs ms → j ≡ k + runs (m ∷ []) → ns ≡ ms ++ m ∷ [] → j ≡ n + runs ns
views_on ms ns m n k j h i e = rw e (omega (arith, runs_more ms m, h, i))
