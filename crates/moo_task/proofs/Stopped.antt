-- A task that a segment leaves waiting may be kept.
use Rattle.std.proofs.Common.{sym, subst, List, [], ◌∷◌, IsTrue}
use Rattle.spec_world.specs.World.{Entry, frame_entry, native_entry, Waiting, forked, timed, idle, reading_on, World}
use Rattle.spec_world.specs.WellFormed.{begins_with_frame, FramesStand}
use Rattle.spec_moo.specs.Pending.{waiting}
use Rattle.spec_moo.specs.Segment.{Ended, segment}
use Rattle.spec_moo.specs.Worlds.{MayWait, StopKeeps}
use Rattle.spec_moo.proofs.SegmentWorlds.{segments_keep}
use Rattle.moo_code.specs.Machine.{Outer, verb, native}
use Rattle.moo_code.specs.Stands.{AllWait}
use Rattle.moo_task.specs.Keeping.{AllAtCall, HasStopped}
use Rattle.moo_task.specs.Laws.{StopsAreKept}

at_call : (es : List Entry) (ks : List Outer) → IsTrue (begins_with_frame es) → AllWait es ks → FramesStand es → AllAtCall ks
at_call [] ks b h st = cc
at_call (native_entry n ∷ es) ks b h st = cc
at_call (frame_entry f ∷ es) [] b h st = absurd h
at_call (frame_entry f ∷ es) (native m ∷ ks) b h st = absurd h
at_call (frame_entry f ∷ es) (verb k ∷ ks) b h st = record { frame = f; entries = es; waiting = h; standing = st }

no_fork : (w : World) (why : Waiting) (ks : List Outer) → MayWait w why → AllAtCall ks → HasStopped why ks
no_fork w (forked m) ks may h = absurd may
no_fork w (timed m v) ks may h = h
no_fork w idle ks may h = h
no_fork w (reading_on c) ks may h = h

pub stops_are_kept : StopsAreKept
stops_are_kept k t u s w p why ks agrees under h =
    let keeps : StopKeeps k (segment t s p).scene (segment t s p).stop = segments_keep k t s p agrees under in
    let there : StopKeeps k w (waiting why h.0) = subst (λ (e : Ended). StopKeeps k e.scene e.stop) (sym h.1) keeps in
    no_fork w.world why ks there.1.0 (at_call h.0 ks there.1.1.1.0 h.2 there.1.1.0)
