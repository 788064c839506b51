-- Tasks that are put into the queue.
use Rattle.std.proofs.Common.{◌≡◌, ℕ, ℤ, List, [], ◌∷◌, ◌++◌, map, Some, ap, ◌∙◌}
use Rattle.std.proofs.lemmas.List.{map-append}
use Rattle.spec_value.specs.Table.{with}
use Rattle.spec_world.specs.World.{World, Task}
use Rattle.spec_world.specs.Questions.{apply, new_task}
use Rattle.spec_world.specs.Outcome as outcome
use Rattle.spec_moo.specs.Scene.{enqueued}
use Rattle.spec_moo.specs.Scene as scene
use Rattle.moo_task.specs.Deeds.{scene_of, due_of, queued_of}
use Rattle.moo_task.specs.declared.deeds.Deeds.{Deeds}
use Rattle.moo_task.specs.declared.deeds.Due.{Due}
use Rattle.moo_task.specs.declared.deeds.Queued.{Queued}
use Rattle.view.specs.Law.{Goes}

pub put_into_queue : {V : Type 0} (holds : V → World → Type 0) (now : V → World → World) (a b : V) (d : Deeds) (qs : List Queued) (due : Due) (i : ℤ) (t : Task)
    → qs ≡ d.queued.items ++ record { id = i; due = due } ∷ [] → due_of due ≡ scene.due_of t.waiting
    → Goes holds now a b (λ before after. after ≡ apply (new_task i (Some t)) before)
    → Goes holds now a b (λ before after. (n : ℕ) → record (scene_of d after n) { queued = map queued_of qs } ≡ enqueued (scene_of d before n) i t)
put_into_queue holds now a b d qs due i t more when wrote w left =
    let g = wrote w left in
    let all : map queued_of qs ≡ map queued_of d.queued.items ++ record { id = i; due = scene.due_of t.waiting } ∷ []
    = ap (map queued_of) more ∙ map-append queued_of d.queued.items (record { id = i; due = due } ∷ []) ∙ ap (λ (u : outcome.Due). map queued_of d.queued.items ++ record { id = i; due = u } ∷ []) when
    in (
      g.0,
      λ n. ap (λ u. record (scene_of d u n) { queued = map queued_of qs }) g.1
          ∙ ap (λ (zs : List outcome.Queued). record (scene_of d (record (now a w) { tasks = with (now a w).tasks i t }) n) { queued = zs }) all,
    )
