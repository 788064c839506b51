-- A segment keeps what a world's objects, links and tasks agree on.
use Rattle.std.proofs.Common.{ℕ, zero, suc, Bool, true, false}
use Rattle.spec_moo.specs.Scene.{Scene, with_ticks}
use Rattle.spec_moo.specs.Pending.{Pending, Turned, goes_on, halts}
use Rattle.spec_moo.specs.Turn.{cost, turn}
use Rattle.spec_moo.specs.Sizes.{begins_stage}
use Rattle.spec_moo.specs.Segment.{Settled, charges, begins, ends, carried, free_turn, settle, settled, beyond, through, reached, paid, charged, unpaid, Ended, segment}
use Rattle.spec_moo.specs.Worlds.{IsUnderWay, SceneAgrees, StopKeeps, TurnedKeeps}
use Rattle.spec_moo.proofs.TurnWorlds.{turns_keep}

-- the world's next number stays this one
module _ (fixed : ℕ) where
  ticking : (s : Scene) (t : ℕ) → SceneAgrees fixed s → SceneAgrees fixed (with_ticks s t)
  ticking s t h = record { world = h.world; number = h.number; before = h.before; moment = h.moment; ids = h.ids; own = h.own; next = h.next }

  abbrev SettledKeeps : Settled → Type 0
  SettledKeeps (charges s p) = SceneAgrees fixed s × IsUnderWay p
  SettledKeeps (begins s p) = SceneAgrees fixed s × IsUnderWay p
  SettledKeeps (ends s why) = StopKeeps fixed s why

  abbrev EachKeeps : (Scene → Pending → Settled) → Type 0
  EachKeeps more = (s : Scene) (p : Pending) → SceneAgrees fixed s → IsUnderWay p → SettledKeeps (more s p)

  carried_keeps : (more : Scene → Pending → Settled) (t : Turned) → EachKeeps more → TurnedKeeps fixed t → SettledKeeps (carried more t)
  carried_keeps more (goes_on s p) each h = each s p h.0 h.1
  carried_keeps more (halts s why) each h = h

  settle_keeps : (n : ℕ) (s : Scene) (p : Pending) → SceneAgrees fixed s → IsUnderWay p → SettledKeeps (settle n s p)
  unfolding settle
  settle_keeps zero s p h k = (h, k)
  settle_keeps (suc n) s p h k = go (settle_keeps n) (cost p) (begins_stage p)
    where
      go : EachKeeps (settle n) → (m : ℕ) (b : Bool) → SettledKeeps (free_turn m b (settle n) s p)
      go each zero false = carried_keeps (settle n) (turn s p) each (turns_keep fixed s p h k)
      go each zero true = (h, k)
      go each (suc m) b = (h, k)

  through_keeps : (n : ℕ) (s : Scene) (p : Pending) → SceneAgrees fixed s → IsUnderWay p → SettledKeeps (through n s p)
  unfolding through
  through_keeps zero s p h k = settle_keeps _ s p h k
  through_keeps (suc n) s p h k = go (through_keeps n) (settled s p) (settle_keeps _ s p h k)
    where
      go : EachKeeps (through n) → (r : Settled) → SettledKeeps r → SettledKeeps (beyond (through n) r)
      go each (charges u q) m = m
      go each (begins u q) m = carried_keeps (through n) (turn u q) each (turns_keep fixed u q m.0 m.1)
      go each (ends u why) m = m

  abbrev EndKeeps : Ended → Type 0
  EndKeeps e = StopKeeps fixed e.scene e.stop

  pub segments_keep : (t : ℕ) (s : Scene) (p : Pending) → SceneAgrees fixed s → IsUnderWay p → StopKeeps fixed (segment t s p).scene (segment t s p).stop
  unfolding segment
  segments_keep zero s p h k = go (reached s p) (through_keeps _ s p h k)
    where
      go : (r : Settled) → SettledKeeps r → EndKeeps (unpaid r)
      go (charges u q) m = m.0
      go (begins u q) m = m.0
      go (ends u why) m = m
  segments_keep (suc t) s p h k = go (segments_keep t) (reached s p) (through_keeps _ s p h k)
    where
      on_turn : ((s : Scene) (p : Pending) → SceneAgrees fixed s → IsUnderWay p → EndKeeps (segment t s p)) → (r : Turned) → TurnedKeeps fixed r
          → EndKeeps (paid (segment t) t r)
      on_turn each (goes_on u q) m = each u q m.0 m.1
      on_turn each (halts u why) m = m

      go : ((s : Scene) (p : Pending) → SceneAgrees fixed s → IsUnderWay p → EndKeeps (segment t s p)) → (r : Settled) → SettledKeeps r
          → EndKeeps (charged (segment t) t r)
      go each (charges u q) m = on_turn each (turn (with_ticks u t) q) (turns_keep fixed (with_ticks u t) q (ticking u t m.0) m.1)
      go each (begins u q) m = on_turn each (turn (with_ticks u t) q) (turns_keep fixed (with_ticks u t) q (ticking u t m.0) m.1)
      go each (ends u why) m = m
