use Rattle.std.proofs.Common.{◌≡◌, ◌≤◌, length, map, drop}
use Rattle.spec_world.specs.World.{Call}
use Rattle.spec_moo.specs.Scene.{Scene}
use Rattle.spec_moo.specs.Leaving.{Leaving}
use Rattle.moo_code.specs.Machine.{Step, handlers_at}
use Rattle.moo_code.specs.Names.{names_of}
use Rattle.moo_program.specs.Meaning.{handler_meant}
use Rattle.moo_task.specs.Meant.{leaving_meant}
use Rattle.moo_task.specs.Shown.{Around}
use Rattle.local_code.specs.Offers.{offered}
use Rattle.local_code.proofs.moo_unwind.unwind.leave.Given as goal

abbrev pub invariant-loop-handler : goal.invariant-loop-handler
invariant-loop-handler l = record {
  same : l.state ≡ l.initial.state;
  so_far : (a : Around) (c : Call) (out : Scene → Leaving → Step) → length l.initial.state.slots.items ≤ length (names_of a.program)
      → offered a c out (handlers_at (map (handler_meant (names_of a.program)) l.handlers) l.initial.state.place) (leaving_meant l.initial.left) l.initial.state
      ≡ offered a c out (handlers_at (map (handler_meant (names_of a.program)) (drop l.handler-index l.handlers)) l.initial.state.place) (leaving_meant l.left) l.initial.state;
}
