-- What the run of a task came to.
use Rattle.std.proofs.Common.{◌≡◌, ◌∙◌, ap, sym, refl, subst, ℕ, ◌-◌, ℤ, List, ◌∷◌}
use Rattle.spec_value.specs.Datum.{Datum}
use Rattle.spec_world.specs.World.{World}
use Rattle.spec_world.specs.WellFormed.{FramesStand}
use Rattle.spec_moo.specs.Scene.{Scene}
use Rattle.spec_moo.specs.Pending as pending
use Rattle.spec_moo.specs.Pending.{done, raised, out_of_ticks, waiting, killed}
use Rattle.spec_moo.specs.Segment.{Ended, segment}
use Rattle.spec_moo.specs.Steps.Running.{run, after_stop}
use Rattle.spec_moo.specs.Worlds as worlds
use Rattle.spec_moo.specs.Worlds.{StopKeeps}
use Rattle.spec_moo.proofs.SegmentWorlds.{segments_keep}
use Rattle.spec_world.specs.Outcome.{value_of}
use Rattle.spec_ready.specs.Ready.{IsReady}
use Rattle.spec_ready.proofs.Readiness.{values_leave_ready, ticks_aside}
use Rattle.moo_code.specs.Machine.{Kept, Outer, verb}
use Rattle.moo_code.specs.Runs.{StoppedAs}
use Rattle.moo_task.specs.Deeds.{scene_of}
use Rattle.moo_task.specs.Effects.{waiting_of}
use Rattle.moo_task.specs.Outcomes.{ticks_of, running_kept}
use Rattle.moo_task.specs.declared.deeds.Deeds.{Deeds}
use Rattle.moo_task.specs.declared.running.Running.{Running}
use Rattle.local_code.specs.Stopping.{IsUnderWay, begins, resumes, StopsAsSegment, stop_in, stopped_at}
use Rattle.local_code.specs.declared.moo_run.stopped.Stop.{Stop}
use Rattle.local_code.specs.declared.moo_run.stopped.Stop.TheVariants.{Ends, OutOfTicks, Waits}
use Rattle.moo_task.specs.UnderWay as task
use Rattle.moo_task.specs.UnderWay.{verb_of}
use Rattle.moo_task.proofs.Stopped.{stops_are_kept}
use Rattle.task_step.specs.OutcomeView.{result_of}
use Rattle.task_step.specs.declared.outcome.Ending.{Ending}
use Rattle.task_step.specs.declared.outcome.Ending.TheVariants.{Value}
use Rattle.steps.specs.Stops.{CanBeKept, StopIs, left_at, Settles, HasRun}
use Rattle.steps.specs.StepsPerformed.{HasValue}
use Rattle.steps.specs.Tasks.{MayRun}
use Rattle.steps.specs.declared.step_tasks.finish.Finish.{Finish}
use Rattle.steps.proofs.Values.{no_value_else}

-- ---- the stop of a machine, and that of the definition

abbrev pub EntriesStand : pending.Stop → Type 0
EntriesStand (waiting why es) = FramesStand es
EntriesStand why = Unit {0}

keeps_stand : (k : ℕ) (s : Scene) (why : pending.Stop) → StopKeeps k s why → EntriesStand why
keeps_stand k s (waiting why es) h = h.1.1.0
keeps_stand k s (done v) h = tt
keeps_stand k s (raised f) h = tt
keeps_stand k s (out_of_ticks ts) h = tt
keeps_stand k s killed h = tt

-- a step that ended with a value
value_result : (e : Ending) → HasValue e → (v : Datum) × (result_of e ≡ value_of v)
value_result (Value v) h = (v, refl)
value_result _ h = absurd h

pub record Means (e : Ended) (stop : Stop) (s : Scene) (ks : List Outer) (t : ℕ) : Type 0 where
  pub scene : e.scene ≡ s
  pub stop_is : StopIs e.stop stop ks
  pub left : e.ticks_left ≡ left_at stop t

means : (e : Ended) (stop : Stop) (s : Scene) (k : Kept) (ks : List Outer) (t : ℕ) → StoppedAs e (stop_in stop s k ks t) → EntriesStand e.stop → Means e stop s (verb k ∷ ks) t
means e (Ends end) s k ks t h stand =
    record { scene = ap (λ (x : Ended). x.scene) (sym h); stop_is = ap (λ (x : Ended). x.stop) (sym h); left = ap (λ (x : Ended). x.ticks_left) (sym h) }
means e (OutOfTicks ts) s k ks t h stand =
    record { scene = ap (λ (x : Ended). x.scene) (sym h); stop_is = ap (λ (x : Ended). x.stop) (sym h); left = ap (λ (x : Ended). x.ticks_left) (sym h) }
means e (Waits u) s k ks t h stand =
    record {
      scene = ap (λ (x : Ended). x.scene) (sym h.1);
      stop_is = (h.0, ap (λ (x : Ended). x.stop) (sym h.1), h.2, subst (λ (x : Ended). EntriesStand x.stop) (sym h.1) stand);
      left = ap (λ (x : Ended). x.ticks_left) (sym h.1);
    }

-- a task that waits can be kept
kept : (n t u : ℕ) (s w : Scene) (p : pending.Pending) (stop : Stop) (k : Kept) (ks : List Outer) → worlds.SceneAgrees n s → worlds.IsUnderWay p
    → StoppedAs (segment t s p) (stop_in stop w k ks u) → CanBeKept stop (verb k ∷ ks)
kept n t u s w p (Ends end) k ks agrees under h = tt
kept n t u s w p (OutOfTicks ts) k ks agrees under h = tt
kept n t u s w p (Waits why) k ks agrees under h = stops_are_kept n t u s w p (waiting_of why) (verb k ∷ ks) agrees under h

-- ---- from the beginning of a run

-- a task that begins or goes on does so for the machine's loop
pub loops : (k : Kept) (ks : List Outer) → task.IsUnderWay k ks → IsUnderWay k ks
loops k ks (task.begins h) = begins (record { entries = h.entries; waiting = h.waiting; standing = h.standing; place = h.place; operands = h.operands })
loops k ks (task.resumes h) =
    resumes (record { frame = h.frame; entries = h.entries; at_call = h.at_call; value = h.value; waiting = h.waiting; standing = h.standing; is = h.is })

-- what is under way where it stops
abbrev pub verbs_at : Running → List Outer
verbs_at r = verb (running_kept r) ∷ r.outer

module _ (d e : Deeds) (w u : World) (task q : Running) (p : pending.Pending) (x : Stop) (may : MayRun task p) (ready : IsReady (scene_of d w (ticks_of task)))
    (stops : StopsAsSegment d w task (stopped_at x e u q)) where
  stops_as : StoppedAs (segment (ticks_of task) (scene_of d w (ticks_of task)) p) (stopped_at x e u q)
  stops_as = stops (verb_of p) p.frame.variables p.focus p.frame.pieces may.pending.player_is may.pending.stands

  pub can_be_kept : CanBeKept x (verbs_at q)
  can_be_kept =
      kept w.next (ticks_of task) (ticks_of q) (scene_of d w (ticks_of task)) (scene_of e u (ticks_of q)) p x (running_kept q) q.outer ready.agrees may.keeps stops_as

  the_end : Means (segment (ticks_of task) (scene_of d w (ticks_of task)) p) x (scene_of e u (ticks_of q)) (verbs_at q) (ticks_of q)
  the_end =
      let end = segment (ticks_of task) (scene_of d w (ticks_of task)) p in
      means end x (scene_of e u (ticks_of q)) (running_kept q) q.outer (ticks_of q) stops_as
      (keeps_stand w.next end.scene end.stop (segments_keep w.next (ticks_of task) (scene_of d w (ticks_of task)) p ready.agrees may.keeps))

  module _ (f : Deeds) (v : World) (player : ℤ) (r : Finish) (players : player ≡ task.player) (settles : Settles player x (verbs_at q) r.ending e u f v)
      (used : r.ticks ≡ ticks_of task - left_at x (ticks_of q)) where
    pub has_run : HasRun (run (scene_of d w (ticks_of task)) p) v f r
    has_run =
        let end = segment (ticks_of task) (scene_of d w (ticks_of task)) p in
        let after = settles end.stop the_end.stop_is (ticks_of q) in
        record {
          left = ticks_of q;
          scene =
              ap (λ (z : ℤ). after_stop z end.scene end.stop) (may.pending.player_is ∙ sym players) ∙ ap (λ (z : Scene). after_stop player z end.stop) the_end.scene ∙ sym (after.0);
          result = after.1;
          ticks = ap (λ n. ticks_of task - n) the_end.left ∙ sym used;
        }

    -- ---- after a value

    pub value_ready : HasValue r.ending → (t : ℕ) → IsReady (scene_of f v t)
    value_ready value t =
        let s : Scene = scene_of d w (ticks_of task) in
        let end = segment (ticks_of task) s p in
        let given = value_result r.ending value in
        let is : end.stop ≡ done given.0 = no_value_else end.stop given.0 (has_run.result ∙ given.1) in
        ticks_aside (scene_of f v has_run.left) t (subst IsReady has_run.scene (values_leave_ready s p given.0 ready may.keeps is))
