-- A task that waited in a world whose tasks agree is under way when it goes on.
use Rattle.std.proofs.Common.{◌≡◌, ℤ, List, [], ◌∷◌, Option, Some, None, IsTrue, refl, sym, subst, arith}
use Rattle.spec_value.specs.Datum.{Datum}
use Rattle.spec_value.specs.Table.{at}
use Rattle.spec_value.proofs.Entries.{second_holds}
use Rattle.spec_program.specs.Construct.{Construct, of_expr, of_target, of_default, of_statement, of_program, Piece}
use Rattle.spec_program.specs.Place.{is_call, Linked}
use Rattle.spec_world.specs.World.{World, Entry, frame_entry, native_entry, Task, Waiting, forked, timed, idle, reading_on}
use Rattle.spec_world.specs.WellFormed.{is_moment, fork_fits, at_beginning, waiting_fits, TaskStands, FramesStand}
use Rattle.spec_world.specs.Agreeing.{EntriesHold, Agrees}
use Rattle.spec_moo.specs.Pending.{hand, Pending, going_on}
use Rattle.spec_moo.specs.Standing.{LooksAt}
use Rattle.spec_moo.specs.Steps.Running.{beginning_of, begun_again, gone_on}
use Rattle.spec_moo.specs.Worlds.{IsUnderWay}
use Rattle.spec_ready.specs.Ready.{BeginningsStand}

pub beginnings_stand : BeginningsStand
beginnings_stand player c word s args body = ((refl, tt), (refl, (omega arith, refl)))

abbrev pub GoesOn : Option Pending → Type 0
GoesOn None = Unit {0}
GoesOn (Some p) = IsUnderWay p

from_call : (r c : Construct) (v : Datum) (ps : List Piece) → IsTrue (is_call c) → Linked c ps r → LooksAt r ps (hand v)
from_call r (of_expr e) v ps is h = (e, h)
from_call r (of_target t) v ps is h = cc
from_call r (of_default x e) v ps is h = cc
from_call r (of_statement t) v ps is h = cc
from_call r (of_program q) v ps is h = cc

behind_call : (player : ℤ) (v : Datum) (es : List Entry) → FramesStand es → EntriesHold es → GoesOn (going_on player (hand v) es)
behind_call player v [] h k = tt
behind_call player v (frame_entry g ∷ es) h k = ((from_call (of_program g.program) (h.0).0 v g.pieces (h.0).1 (h.0).2, h.1), k)
behind_call player v (native_entry n ∷ es) h k = tt

no_pieces : (ps : List Piece) → IsTrue (at_beginning ps) → ps ≡ []
no_pieces [] k = refl
no_pieces (p ∷ ps) k = cc

fork_begins : (t : Task) (es : List Entry) → IsTrue (fork_fits es) → GoesOn (begun_again (record t { entries = es }) (beginning_of es))
fork_begins t [] k = cc
fork_begins t (frame_entry f ∷ []) k =
    ((subst (λ ps. Linked (of_program f.program) ps (of_program f.program)) (sym (no_pieces f.pieces k)) refl, tt), (refl, (omega arith, refl)))
fork_begins t (frame_entry f ∷ e ∷ es) k = cc
fork_begins t (native_entry n ∷ es) k = cc

goes_on : (w : World) (t : Task) (why : Waiting) (v : Datum) → IsTrue (waiting_fits w t why) → TaskStands t why → EntriesHold t.entries
    → GoesOn (gone_on t why v)
goes_on w t (forked m) v h k holds = fork_begins t t.entries (second_holds (is_moment m) _ h)
goes_on w t (timed m u) v h k holds = behind_call t.player u t.entries k holds
goes_on w t idle v h k holds = behind_call t.player v t.entries k holds
goes_on w t (reading_on c) v h k holds = behind_call t.player v t.entries k holds

pub waiting_goes_on : (w : World) (i : ℤ) (t : Task) (v : Datum) → Agrees w → at w.tasks i ≡ Some t → GoesOn (gone_on t t.waiting v)
waiting_goes_on w i t v h e = goes_on w t t.waiting v (h.queue.task_waits i t e) (h.queue.task_places i t e) (h.queue.task_entries i t e)
