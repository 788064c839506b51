-- Segments of tasks over values lead to values, as their turns do.
use Rattle.std.proofs.Common.{ℕ, zero, suc, ◌<◌, ◌≤◌, ◌^◌, Bool, true, false, arith}
use Rattle.spec_moo.specs.Scene.{Scene, with_ticks}
use Rattle.spec_moo.specs.Pending.{Pending, Turned, goes_on, halts}
use Rattle.spec_moo.specs.Turn.{cost, turn}
use Rattle.spec_moo.specs.Sizes.{begins_stage}
use Rattle.spec_world.specs.WellFormed.{frames}
use Rattle.spec_moo.specs.Worlds.{SceneAgrees, IsUnderWay, TurnedKeeps}
use Rattle.spec_moo.specs.Segment as segments
use Rattle.spec_moo.specs.Segment.{Settled, charges, carried, free_turn, settle, settled, beyond, through, reached, paid, charged, unpaid, Ended, segment}
use Rattle.spec_moo.proofs.TurnWorlds.{turns_keep}
use Rattle.spec_values_kept.specs.WorldValues.{IsNumber}
use Rattle.spec_values_kept.specs.UnderWay.{SceneHolds, Holds, StopHolds, TurnedHolds}
use Rattle.spec_values_kept.specs.Whole.{SegmentsHold}
use Rattle.spec_values_kept.proofs.Numbers.{below_in_range, small_number}
use Rattle.spec_values_kept.proofs.Contents.{few_contained}
use Rattle.spec_values_kept.proofs.TurnsHold.{turns_hold}

-- the world's next number stays this one
module _ (fixed : ℕ) where
  abbrev UnderWay : Scene → Pending → Type 0
  UnderWay s p = (SceneHolds s × Holds p) × (SceneAgrees fixed s × IsUnderWay p)

  abbrev SettledHolds : Settled → Type 0
  SettledHolds (charges s p) = UnderWay s p
  SettledHolds (segments.begins s p) = UnderWay s p
  SettledHolds (segments.ends s why) = SceneHolds s × StopHolds why

  abbrev EachHolds : (Scene → Pending → Settled) → Type 0
  EachHolds more = (s : Scene) (p : Pending) → UnderWay s p → SettledHolds (more s p)

  turned : (s : Scene) (p : Pending) → UnderWay s p → TurnedHolds (turn s p)
  turned s p h =
      let l : suc (frames p.outer) ≤ 50 = h.1.1.1.1.0 in turns_hold s p h.0.0 (few_contained s.world h.1.0.world.objects) (omega (arith, l)) h.1.1.0 h.0.1

  carried_holds : (more : Scene → Pending → Settled) (t : Turned) → EachHolds more → TurnedHolds t → TurnedKeeps fixed t → SettledHolds (carried more t)
  carried_holds more (goes_on s p) each h k = each s p (h, k)
  carried_holds more (halts s why) each h k = h

  settle_holds : (n : ℕ) (s : Scene) (p : Pending) → UnderWay s p → SettledHolds (settle n s p)
  unfolding settle
  settle_holds zero s p h = h
  settle_holds (suc n) s p h = go (settle_holds n) (cost p) (begins_stage p)
    where
      go : EachHolds (settle n) → (m : ℕ) (b : Bool) → SettledHolds (free_turn m b (settle n) s p)
      go each zero false = carried_holds (settle n) (turn s p) each (turned s p h) (turns_keep fixed s p h.1.0 h.1.1)
      go each zero true = h
      go each (suc m) b = h

  through_holds : (n : ℕ) (s : Scene) (p : Pending) → UnderWay s p → SettledHolds (through n s p)
  unfolding through
  through_holds zero s p h = settle_holds _ s p h
  through_holds (suc n) s p h = go (through_holds n) (settled s p) (settle_holds _ s p h)
    where
      go : EachHolds (through n) → (r : Settled) → SettledHolds r → SettledHolds (beyond (through n) r)
      go each (charges u q) m = m
      go each (segments.begins u q) m = carried_holds (through n) (turn u q) each (turned u q m) (turns_keep fixed u q m.1.0 m.1.1)
      go each (segments.ends u why) m = m

  abbrev EndHolds : Ended → Type 0
  EndHolds e = SceneHolds e.scene × StopHolds e.stop

  abbrev RunsHold : ℕ → Type 0
  RunsHold t = (s : Scene) (p : Pending) → IsNumber t → UnderWay s p → EndHolds (segment t s p)

  one_fewer : (t : ℕ) → IsNumber (suc t) → IsNumber t
  one_fewer t h = let l : suc t < 2 ^ 31 = small_number (suc t) h in below_in_range t (omega (arith, l))

  -- the ticks that are left are told
  ticking : (t : ℕ) (s : Scene) (p : Pending) → IsNumber t → UnderWay s p → UnderWay (with_ticks s t) p
  ticking t s p i h =
      let w = h.0.0 in let a = h.1.0 in (
        ((w.0, ((w.1).0, (((w.1).1).0, (i, (((w.1).1).1).1)))), h.0.1),
        (record { world = a.world; number = a.number; before = a.before; moment = a.moment; ids = a.ids; own = a.own; next = a.next }, h.1.1),
      )

  segment_holds : (t : ℕ) → RunsHold t
  unfolding segment
  segment_holds zero s p i h = go (reached s p) (through_holds _ s p h)
    where
      go : (r : Settled) → SettledHolds r → EndHolds (unpaid r)
      go (charges u q) m = (m.0.0, tt)
      go (segments.begins u q) m = (m.0.0, tt)
      go (segments.ends u why) m = m
  segment_holds (suc t) s p i h = go (segment_holds t) (reached s p) (through_holds _ s p h)
    where
      fewer : IsNumber t
      fewer = one_fewer t i

      on_turn : RunsHold t → (r : Turned) → TurnedHolds r → TurnedKeeps fixed r → EndHolds (paid (segment t) t r)
      on_turn each (goes_on u q) m k = each u q fewer (m, k)
      on_turn each (halts u why) m k = m

      charged_turn : RunsHold t → (u : Scene) (q : Pending) → UnderWay u q → EndHolds (paid (segment t) t (turn (with_ticks u t) q))
      charged_turn each u q m =
          let k : UnderWay (with_ticks u t) q = ticking t u q fewer m in on_turn each (turn (with_ticks u t) q) (turned (with_ticks u t) q k) (turns_keep fixed (with_ticks u t) q k.1.0 k.1.1)

      go : RunsHold t → (r : Settled) → SettledHolds r → EndHolds (charged (segment t) t r)
      go each (charges u q) m = charged_turn each u q m
      go each (segments.begins u q) m = charged_turn each u q m
      go each (segments.ends u why) m = m

pub segments_hold : SegmentsHold
segments_hold k t s p i a u w h = segment_holds k t s p i ((w, h), (a, u))
