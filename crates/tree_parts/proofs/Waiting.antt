-- What is under way waits, where each verb stands at a call.
use Rattle.std.proofs.Common.{◌≡◌, ◌∙◌, ap, sym, refl, subst, ℕ, ◌+◌, ◌<◌, ℤ, List, [], ◌∷◌, length, take, get_or}
use Rattle.spec_world.specs.World.{Entry, frame_entry, native_entry, Waiting, forked, timed, idle, reading_on, Task}
use Rattle.spec_world.specs.WellFormed.{FramesStand}
use Rattle.spec_moo.specs.Steps.Running.{waiting_task}
use Rattle.moo_code.specs.Machine.{Kept, Outer, verb, native}
use Rattle.moo_code.specs.Stands.{AllWait}
use Rattle.moo_task.specs.Keeping.{AllAtCall, HasStopped, task_of}
use Rattle.moo_task.specs.Frames.{outer_of, outers_of}
use Rattle.moo_task.specs.declared.frame.Outer.{Outer as Stored}
use Rattle.moo_task.proofs.Kept.{stops_as}
use Rattle.moo_task.proofs.Stacks.{one_copied}
use Rattle.tree_parts.specs.Arriving.{StandsThere}
use Rattle.tree_parts.specs.Telling.{WaitsAtCalls}
use Rattle.tree_parts.specs.Standing.{OuterStands, AllStand}

-- the entries for which they stand
record Entries (ks : List Outer) : Type 0 where
  entries : List Entry
  waiting : AllWait entries ks
  standing : FramesStand entries

entries_for : (ks : List Outer) → AllStand ks → Entries ks
entries_for [] h = record { entries = []; waiting = tt; standing = tt }
entries_for (verb k ∷ ks) h =
    let more = entries_for ks h.1 in
    record { entries = frame_entry (h.0).frame ∷ more.entries; waiting = ((h.0).waits, more.waiting); standing = ((h.0).stands, more.standing) }
entries_for (native n ∷ ks) h =
    let more = entries_for ks h.1 in
    record { entries = native_entry n ∷ more.entries; waiting = (refl, more.waiting); standing = more.standing }

at_call : (k : Kept) (ks : List Outer) → StandsThere k → AllStand ks → AllAtCall (verb k ∷ ks)
at_call k ks h st =
    let more = entries_for ks st in
    record { frame = h.frame; entries = more.entries; waiting = (h.waits, more.waiting); standing = (h.stands, more.standing) }

pub has_stopped : (why : Waiting) (k : Kept) (ks : List Outer) → WaitsAtCalls why → StandsThere k → AllStand ks → HasStopped why (verb k ∷ ks)
has_stopped (forked due) k ks c h st = absurd c
has_stopped (timed due v) k ks c h st = at_call k ks h st
has_stopped idle k ks c h st = at_call k ks h st
has_stopped (reading_on n) k ks c h st = at_call k ks h st

made_of : (player : ℤ) (why : Waiting) (k : Kept) (ks : List Outer) (t : Task) → WaitsAtCalls why → StandsThere k → AllStand ks
    → ((es : List Entry) → AllWait es (verb k ∷ ks) → FramesStand es → t ≡ waiting_task player why es) → t ≡ task_of player why (verb k ∷ ks)
made_of player why k ks t c h st is =
    let more = entries_for ks st in
    let es : List Entry = frame_entry h.frame ∷ more.entries in
    is es (h.waits, more.waiting) (h.stands, more.standing)
    ∙ sym (stops_as player why (verb k ∷ ks) es (has_stopped why k ks c h st) (h.waits, more.waiting) (h.stands, more.standing))

-- one more
pub stand_more : (os : List Stored) (i : ℕ) (o : Stored) → i < length os → o ≡ get_or os i o → AllStand (outers_of (take i os)) → OuterStands (outer_of o)
    → AllStand (outers_of (take (i + 1) os))
stand_more os i o small is h st = subst AllStand (one_copied os i o (outers_of (take i os)) _ small is refl refl) (st, h)

-- the same of what waits as it was made
pub made_from : (player p : ℤ) (why : Waiting) (k : Kept) (ks js : List Outer) (t : Task) → WaitsAtCalls why → StandsThere k → AllStand js → ks ≡ js → p ≡ player
    → ((es : List Entry) → AllWait es (verb k ∷ ks) → FramesStand es → t ≡ waiting_task p why es) → t ≡ task_of player why (verb k ∷ js)
made_from player p why k ks js t c h st same players is =
    made_of player why k js t c h st
    (λ es w f. is es (subst (λ z. AllWait es (verb k ∷ z)) (sym same) w) f ∙ ap (λ z. waiting_task z why es) players)
