-- Rows of the built-in functions over tasks that wait, check by check.
use Rattle.std.proofs.Common.{◌≡◌, ℤ, Bool, true, false, [], ◌∷◌, Some, None, Result, Ok, Err, sym, ap, ◌∙◌, subst, if◌then◌else◌}
use Rattle.spec_value.specs.Datum.{Datum, integer, invalid_argument, permission_denied}
use Rattle.spec_value.specs.Answer.{gives}
use Rattle.spec_value.specs.Table.{at, with}
use Rattle.spec_world.specs.World.{World, Task, timed}
use Rattle.spec_world.specs.Permissions.{may, control_task}
use Rattle.spec_world.specs.Questions.{apply, new_task}
use Rattle.spec_moo.specs.Scene.{Scene, in_world}
use Rattle.spec_moo.specs.NativeEffect.{Caller, NativeEffect, dies, refuses}
use Rattle.spec_moo.specs.Natives.Rows.{unless, wants, may_do, if_there, answers_with, zero_value}
use Rattle.spec_moo.specs.Natives.Tasks.{task_programmer, is_suspended, with_task, without_task, resumes, is_own_id, kills, kill_task_row}
use Rattle.moo_value.specs.Answers.{answer_of}
use Rattle.moo_value.specs.declared.error.MooError.{MooError}
use Rattle.moo_value.specs.declared.error.MooError.TheVariants.{InvalidArgument}
use Rattle.moo_task.specs.Deeds.{scene_of}
use Rattle.moo_task.specs.declared.deeds.Deeds.{Deeds}
use Rattle.moo_task.specs.declared.effect.NativeEffect.TheVariants.{Answers, Dies}
use Rattle.view.specs.Law.{Goes, Tells}
use Rattle.builtins_view.specs.Said.{with_programmer, Does}
use Rattle.builtins.specs.BuiltinsQueueActing.{Acts}

-- ---- a task that is there and may be controlled

kills_so : (s : Scene) (k : Caller) (i : ℤ) (t : Task) → at s.world.tasks i ≡ Some t → may s.world k.call.programmer (control_task (task_programmer t)) ≡ true
    → kills s k i ≡ answers_with (without_task s i) zero_value
kills_so s k i t found allowed =
    ap (λ m. if_there s invalid_argument m (λ u. unless s (may_do s k (control_task (task_programmer u)) ∷ []) (answers_with (without_task s i) zero_value))) found
    ∙ ap (λ b. if b then (answers_with (without_task s i) zero_value) else refuses s permission_denied) allowed

suspended_so : (s : Scene) (k : Caller) (i : ℤ) (v : Datum) (t : Task) (b : Bool) → at s.world.tasks i ≡ Some t → may s.world k.call.programmer (control_task (task_programmer t)) ≡ true
    → is_suspended t.waiting ≡ b
    → resumes s k i v ≡ (if b then (answers_with (with_task s i (record t { waiting = timed s.moment v })) zero_value) else refuses s invalid_argument)
suspended_so s k i v t b found allowed held =
    ap (λ m. if_there s invalid_argument m whole) found
    ∙ ap (λ z. if z then (unless s (wants (is_suspended t.waiting) invalid_argument ∷ []) (timed_answer t)) else refuses s permission_denied) allowed
    ∙ ap (λ z. if z then timed_answer t else refuses s invalid_argument) held
  where
    timed_answer : Task → NativeEffect
    timed_answer u = answers_with (with_task s i (record u { waiting = timed s.moment v })) zero_value

    whole : Task → NativeEffect
    whole u = unless s (may_do s k (control_task (task_programmer u)) ∷ wants (is_suspended u.waiting) invalid_argument ∷ []) (timed_answer u)

-- ---- calls

module _ {V : Type 0} (holds : V → World → Type 0) (now : V → World → World) (d : Deeds) (who i : ℤ) where
  pub dies_itself : (a : V) → is_own_id i d.task ≡ true → Goes holds now a a (λ before after. Acts (λ s c. kill_task_row s c (integer i ∷ [])) d before who Dies after)
  dies_itself a own w left = (left, λ n k. ap (λ b. if b then dies (scene_of d (now a w) n) else kills (scene_of d (now a w) n) (with_programmer k who) i) own)

  pub kills_other : (a e : V) (x : Result Datum MooError) → is_own_id i d.task ≡ false → Goes holds now a e (λ before after. Does (λ s c. kills s c i) before after who (answer_of x))
      → Goes holds now a e (λ before after. Acts (λ s c. kill_task_row s c (integer i ∷ [])) d before who (Answers x) after)
  kills_other a e x own told w left =
      let t = told w left in
      (t.0, λ n k. ap (λ b. if b then dies (scene_of d (now a w) n) else kills (scene_of d (now a w) n) (with_programmer k who) i) own ∙ t.1 (scene_of d (now a w) n) k)

module _ {V : Type 0} (holds : V → World → Type 0) (now : V → World → World) (who i : ℤ) (a b e : V) (t : Task) (owner : ℤ) where
  pub kills_one : (f : V) (v : Datum) → v ≡ zero_value → owner ≡ task_programmer t → Tells holds now a b (λ w. at w.tasks i ≡ Some t)
      → Tells holds now b e (λ w. may w who (control_task owner) ≡ true)
      → Goes holds now e f (λ before after. after ≡ apply (new_task i None) before) → Goes holds now a f (λ before after. Does (λ s c. kills s c i) before after who (gives v))
  kills_one f v zero whose read allowed wrote w left =
      let g = wrote w left in
      let m = allowed w g.0 in
      let r = read w m.0 in
      let may_so : may (now a w) who (control_task (task_programmer t)) ≡ true = subst (λ (o : ℤ). may (now a w) who (control_task o) ≡ true) whose (subst (λ (x : World). may x who (control_task owner) ≡ true) r.1.0 m.1.1) in
      let after : now f w ≡ apply (new_task i None) (now a w) = g.1 ∙ ap (apply (new_task i None)) (m.1.0 ∙ r.1.0) in
      (r.0, λ s k. kills_so (in_world s (now a w)) (with_programmer k who) i t r.1.1 may_so ∙ ap (λ x. answers_with (in_world s x) zero_value) (sym after) ∙ ap (λ x. answers_with (in_world s (now f w)) x) (sym zero))

  pub not_suspended : (d : Deeds) (v : Datum) → owner ≡ task_programmer t → is_suspended t.waiting ≡ false → Tells holds now a b (λ w. at w.tasks i ≡ Some t)
      → Tells holds now b e (λ w. may w who (control_task owner) ≡ true)
      → Goes holds now a e (λ before after. Acts (λ s c. resumes s c i v) d before who (Answers (Err InvalidArgument)) after)
  not_suspended d v whose held read allowed w left =
      let m = allowed w left in
      let r = read w m.0 in
      let may_so : may (now a w) who (control_task (task_programmer t)) ≡ true = subst (λ (o : ℤ). may (now a w) who (control_task o) ≡ true) whose (subst (λ (x : World). may x who (control_task owner) ≡ true) r.1.0 m.1.1) in
      (r.0, λ n k. suspended_so (scene_of d (now a w) n) (with_programmer k who) i v t false r.1.1 may_so held ∙ ap (λ x. refuses (scene_of d x n) invalid_argument) (sym (m.1.0 ∙ r.1.0)))

  pub resumes_one : (f : V) (d : Deeds) (v x : Datum) (u : Task) → x ≡ zero_value → u ≡ record t { waiting = timed d.moment v } → owner ≡ task_programmer t → is_suspended t.waiting ≡ true
      → Tells holds now a b (λ w. at w.tasks i ≡ Some t) → Tells holds now b e (λ w. may w who (control_task owner) ≡ true)
      → Goes holds now e f (λ before after. after ≡ apply (new_task i (Some u)) before)
      → Goes holds now a f (λ before after. Acts (λ s c. resumes s c i v) d before who (Answers (Ok x)) after)
  resumes_one f d v x u zero is whose held read allowed wrote w left =
      let g = wrote w left in
      let m = allowed w g.0 in
      let r = read w m.0 in
      let may_so : may (now a w) who (control_task (task_programmer t)) ≡ true = subst (λ (o : ℤ). may (now a w) who (control_task o) ≡ true) whose (subst (λ (x : World). may x who (control_task owner) ≡ true) r.1.0 m.1.1) in
      let after : now f w ≡ record (now a w) { tasks = with (now a w).tasks i (record t { waiting = timed d.moment v }) }
      = g.1 ∙ ap (apply (new_task i (Some u))) (m.1.0 ∙ r.1.0) ∙ ap (λ y. apply (new_task i (Some y)) (now a w)) is
      in (
        r.0,
        λ n k. suspended_so (scene_of d (now a w) n) (with_programmer k who) i v t true r.1.1 may_so held ∙ ap (λ y. answers_with (scene_of d y n) zero_value) (sym after)
            ∙ ap (λ y. answers_with (scene_of d (now f w) n) y) (sym zero),
      )
