-- When a step may run a task: the parts of its world agree, and its scene agrees with them.
use Rattle.std.specs.Prelude.{◌≡◌, ℕ, ℤ, true, [], ◌∷◌, Some, None, IsTrue, codes}
use Rattle.spec_value.specs.Datum.{Datum, Data, Text}
use Rattle.spec_value.specs.Table.{at}
use Rattle.spec_program.specs.Tree.{Program}
use Rattle.spec_world.specs.World.{World, Call, Start, Task}
use Rattle.spec_world.specs.WellFormed.{IsWellFormed, is_connection}
use Rattle.spec_world.specs.Links.{connection_object, open_link, close_link}
use Rattle.spec_world.specs.Step.{Step, in_range}
use Rattle.spec_moo.specs.Scene.{Scene, in_world, with_ticks}
use Rattle.spec_moo.specs.Linking.{link_closed}
use Rattle.spec_moo.specs.Pending.{Pending, done}
use Rattle.spec_moo.specs.Worlds.{SceneAgrees, IsUnderWay}
use Rattle.spec_moo.specs.Steps.{numbered}
use Rattle.spec_moo.specs.Steps.Outcomes.{opening_scene}
use Rattle.spec_moo.specs.Steps.Running.{run, told_on, begun, gone_on}
use Rattle.spec_moo.specs.Steps.Events.{with_own_task, may_log_in}

pub record IsReady (s : Scene) : Type 0 where
  pub agrees : SceneAgrees s.world.next s

-- ---- before any task, and with other ticks

abbrev pub OpensReady : Type 0
OpensReady = (w : World) (s : Step) (t : ℕ) → IsWellFormed w → IsTrue (in_range s) → IsReady (opening_scene (numbered s.number w) s t)

abbrev pub TicksAside : Type 0
TicksAside = (s : Scene) (t : ℕ) → IsReady s → IsReady (with_ticks s t)

-- ---- links, and tasks that leave the queue

abbrev pub LinksOpen : Type 0
LinksOpen =
    (s : Scene) (c : ℤ) → IsReady s → IsTrue (is_connection c) → at s.world.links c ≡ None
    → IsReady (in_world s (open_link s.world c (record { person = connection_object c; programming = None })))

abbrev pub LinksClose : Type 0
LinksClose = (s : Scene) (c : ℤ) → IsReady s → IsReady (in_world s (close_link s.world c))

abbrev pub TasksLeave : Type 0
TasksLeave = (s : Scene) (i : ℤ) (t : Task) → at s.world.tasks i ≡ Some t → IsReady s → IsReady (with_own_task s i)

-- ---- after a task that gave a value, and after a login

abbrev pub ValuesLeaveReady : Type 0
ValuesLeaveReady =
    (s : Scene) (p : Pending) (v : Datum) → IsReady s → IsUnderWay p → (run s p).stop ≡ done v → IsReady (run s p).scene

-- the player has the link, and any older one is closed
abbrev pub relinked : Scene → ℤ → ℤ → Scene
relinked s c who =
    let t : Scene = link_closed s who in
    told_on (in_world t (open_link t.world c (record { person = who; programming = None }))) (Some c) (codes "*** Connected ***" ∷ [])

abbrev pub PlayersLogIn : Type 0
PlayersLogIn = (s : Scene) (c who : ℤ) → IsReady s → may_log_in s c who ≡ true → IsReady (relinked s c who)

-- ---- what begins, and what goes on

abbrev pub BeginningsStand : Type 0
BeginningsStand = (player : ℤ) (c : Call) (word : Text) (s : Start) (args : Data) (body : Program) → IsUnderWay (begun player c word s args body)

abbrev pub GoingOnStands : Type 0
GoingOnStands =
    (s : Scene) (i : ℤ) (t : Task) (v : Datum) (p : Pending) → IsReady s → at s.world.tasks i ≡ Some t → gone_on t t.waiting v ≡ Some p → IsUnderWay p
