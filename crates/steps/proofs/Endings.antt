-- What the end of a task does, by how it stopped.
use Rattle.std.proofs.Common.{◌≡◌, ◌∙◌, ap, sym, refl, subst, ℕ, ℤ, List, [], ◌∷◌, Option, Some, None}
use Rattle.std.proofs.lemmas.List.{append-nil}
use Rattle.spec_value.specs.Datum.{Text}
use Rattle.spec_world.specs.World.{World, Entry, Task, Waiting}
use Rattle.spec_world.specs.Links.{connection_of}
use Rattle.spec_moo.specs.Scene.{Scene, enqueued}
use Rattle.spec_moo.specs.Pending.{Stop, done, raised, out_of_ticks, waiting, killed}
use Rattle.spec_moo.specs.Telling.{stop_lines}
use Rattle.spec_moo.specs.Steps.Running.{told, told_on, after_stop, stopped_as, waiting_result, waiting_task, put_by}
use Rattle.std.specs.declared.vec.Vec.{Vec}
use Rattle.std.specs.declared.alloc.Global.{Global}
use Rattle.spec_world.specs.WellFormed.{FramesStand}
use Rattle.spec_moo.specs.Leaving.{Traced}
use Rattle.moo_code.specs.Machine.{Outer}
use Rattle.moo_code.specs.Stands.{AllWait}
use Rattle.moo_task.specs.Deeds.{scene_of}
use Rattle.moo_task.specs.Effects.{waiting_of}
use Rattle.moo_task.specs.Outcomes.{end_of}
use Rattle.moo_task.specs.declared.effect.Waiting.{Waiting as WaitingOf}
use Rattle.moo_task.specs.declared.outcome.End.{End}
use Rattle.local_code.specs.declared.moo_run.stopped.Stop.{Stop as MachineStop}
use Rattle.local_code.specs.declared.moo_run.stopped.Stop.TheVariants.{Ends, OutOfTicks, Waits}
use Rattle.moo_task.specs.declared.deeds.Deeds.{Deeds}
use Rattle.task_step.specs.OutcomeView.{result_of}
use Rattle.task_step.specs.declared.outcome.Ending.{Ending}
use Rattle.steps.specs.Stops.{SettlesAs, Settles, StopIs}

-- no lines
on_link : (s : Scene) (c : Option ℤ) → told_on s c [] ≡ s
on_link s None = refl
on_link s (Some c) = ap (λ (o : List (ℤ × Text)). record s { output = o }) (append-nil s.output)

pub told_nothing : (s : Scene) (who : ℤ) → told s who [] ≡ s
told_nothing s who = on_link s (connection_of s.world who)

-- nobody is told of a value, or that a task was killed
abbrev pub IsQuiet : Stop → Type 0
IsQuiet (done v) = Unit {0}
IsQuiet killed = Unit {0}
IsQuiet why = ⊥

quiet_stop : (player : ℤ) (s : Scene) (why : Stop) → IsQuiet why → after_stop player s why ≡ s
quiet_stop player s (done v) q = told_nothing s player
quiet_stop player s killed q = told_nothing s player
quiet_stop player s (raised f) q = absurd q
quiet_stop player s (out_of_ticks ts) q = absurd q
quiet_stop player s (waiting why es) q = absurd q

pub quietly : (player : ℤ) (why : Stop) (e : Ending) (d : Deeds) (w : World) → IsQuiet why → stopped_as why ≡ result_of e → SettlesAs player why e d w d w
quietly player why e d w q is t = (sym (quiet_stop player (scene_of d w t) why q), is)

-- the player is told the lines of an error, or of want of ticks
abbrev pub IsTold : Stop → Type 0
IsTold (raised f) = Unit {0}
IsTold (out_of_ticks ts) = Unit {0}
IsTold why = ⊥

told_stop : (player : ℤ) (s : Scene) (why : Stop) → IsTold why → after_stop player s why ≡ told s player (stop_lines why)
told_stop player s (raised f) q = refl
told_stop player s (out_of_ticks ts) q = refl
told_stop player s (done v) q = absurd q
told_stop player s killed q = absurd q
told_stop player s (waiting why es) q = absurd q

pub telling : (player : ℤ) (why : Stop) (e : Ending) (d f : Deeds) (before after : World) (lines : List Text) → IsTold why → stopped_as why ≡ result_of e
    → lines ≡ stop_lines why → after ≡ before → ((t : ℕ) → scene_of f before t ≡ told (scene_of d before t) player lines) → SettlesAs player why e d before f after
telling player why e d f before after lines q is same unchanged tells t = (
  ap (λ (w : World). scene_of f w t) unchanged ∙ tells t ∙ ap (told (scene_of d before t) player) same ∙ sym (told_stop player (scene_of d before t) why q),
  is,
)

-- a task that waits without an id is not put anywhere
pub not_put : (player : ℤ) (why : Waiting) (es : List Entry) (e : Ending) (d : Deeds) (w : World) → d.task ≡ None → waiting_result why ≡ result_of e
    → SettlesAs player (waiting why es) e d w d w
not_put player why es e d w none is t = (sym (ap (λ (i : Option ℤ). put_by (scene_of d w t) i (waiting_task player why es)) none), is)

-- one with an id is put there
pub put_there : (player : ℤ) (why : Waiting) (es : List Entry) (e : Ending) (d f : Deeds) (before after : World) (i : ℤ) (task : Task) → d.task ≡ Some i
    → task ≡ waiting_task player why es → waiting_result why ≡ result_of e → ((t : ℕ) → scene_of f after t ≡ enqueued (scene_of d before t) i task)
    → SettlesAs player (waiting why es) e d before f after
put_there player why es e d f before after i task some same is put t = (
  put t ∙ ap (enqueued (scene_of d before t) i) same ∙ sym (ap (λ (j : Option ℤ). put_by (scene_of d before t) j (waiting_task player why es)) some),
  is,
)

-- ---- what the stop of a machine does

module _ (player : ℤ) (ks : List Outer) (e : Ending) (d f : Deeds) (before after : World) where
  pub ends_settles : (stop : MachineStop) (end : End) → stop ≡ Ends end → SettlesAs player (end_of end) e d before f after → Settles player stop ks e d before f after
  ends_settles stop end is h why s =
      let same : why ≡ end_of end = subst (λ (x : MachineStop). StopIs why x ks) is s in subst (λ (x : Stop). SettlesAs player x e d before f after) (sym same) h

  pub ticks_settle : (stop : MachineStop) (ts : Vec Traced Global) → stop ≡ OutOfTicks ts → SettlesAs player (out_of_ticks ts.items) e d before f after
      → Settles player stop ks e d before f after
  ticks_settle stop ts is h why s =
      let same : why ≡ out_of_ticks ts.items = subst (λ (x : MachineStop). StopIs why x ks) is s in subst (λ (x : Stop). SettlesAs player x e d before f after) (sym same) h

  pub waits_settle : (stop : MachineStop) (u : WaitingOf) → stop ≡ Waits u
      → ((es : List Entry) → AllWait es ks → FramesStand es → SettlesAs player (waiting (waiting_of u) es) e d before f after) → Settles player stop ks e d before f after
  waits_settle stop u is h why s =
      let there = subst (λ (x : MachineStop). StopIs why x ks) is s in
      subst (λ (x : Stop). SettlesAs player x e d before f after) (sym there.1) (h there.0 there.2 there.3)
