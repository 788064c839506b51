-- Segments lead on by permitted changes, as their turns do.
use Rattle.std.proofs.Common.{ℕ, zero, suc, Bool, true, false, List}
use Rattle.spec_world.specs.World.{World}
use Rattle.spec_moo.specs.Scene.{Scene, with_ticks}
use Rattle.spec_moo.specs.Pending.{Pending, Turned, goes_on, halts}
use Rattle.spec_moo.specs.Turn.{cost, turn}
use Rattle.spec_moo.specs.Sizes.{begins_stage}
use Rattle.spec_moo.specs.Segment as segments
use Rattle.spec_moo.specs.Segment.{Settled, charges, carried, free_turn, settle, settled, beyond, through, reached, paid, charged, unpaid, Ended, segment}
use Rattle.spec_moo.specs.Worlds.{IsUnderWay, SceneAgrees, TurnedKeeps}
use Rattle.spec_moo.proofs.TurnWorlds.{turns_keep}
use Rattle.spec_rights.specs.Chains.{Right, Holds, PendingHolds}
use Rattle.spec_rights.proofs.Extending.{Reached}
use Rattle.spec_rights.proofs.Turns.{Halted, TurnedReaches, turn_goes}

-- from this world on, while the world's next number stays this one
module _ (start : Right → Bool) (w : World) (fixed : ℕ) where
  abbrev pub Under : Scene → Pending → Type 0
  Under s p = (SceneAgrees fixed s × IsUnderWay p) × ((hs : List Right) × (Reached start w hs s.world × PendingHolds (Holds start hs) p))

  ticking : (s : Scene) (t : ℕ) (p : Pending) → Under s p → Under (with_ticks s t) p
  ticking s t p ((h, k), r) =
      ((record { world = h.world; number = h.number; before = h.before; moment = h.moment; ids = h.ids; own = h.own; next = h.next }, k), r)

  abbrev Led : Turned → Type 0
  Led (goes_on s p) = Under s p
  Led (halts s why) = (hs : List Right) × Halted start w hs s why

  pub turn_leads : (s : Scene) (p : Pending) → Under s p → Led (turn s p)
  turn_leads s p ((h, k), (hs, (r, b))) = go (turn s p) (turns_keep fixed s p h k) (turn_goes start w hs s p h.world r b)
    where
      go : (t : Turned) → TurnedKeeps fixed t → TurnedReaches start w t → Led t
      go (goes_on u q) a c = (a, c)
      go (halts u why) a c = c

  abbrev SettledLeads : Settled → Type 0
  SettledLeads (charges s p) = Under s p
  SettledLeads (segments.begins s p) = Under s p
  SettledLeads (segments.ends s why) = (hs : List Right) × Halted start w hs s why

  abbrev EachLeads : (Scene → Pending → Settled) → Type 0
  EachLeads more = (s : Scene) (p : Pending) → Under s p → SettledLeads (more s p)

  carried_leads : (more : Scene → Pending → Settled) (t : Turned) → EachLeads more → Led t → SettledLeads (carried more t)
  carried_leads more (goes_on s p) each h = each s p h
  carried_leads more (halts s why) each h = h

  settle_leads : (n : ℕ) (s : Scene) (p : Pending) → Under s p → SettledLeads (settle n s p)
  unfolding settle
  settle_leads zero s p h = h
  settle_leads (suc n) s p h = go (settle_leads n) (cost p) (begins_stage p)
    where
      go : EachLeads (settle n) → (m : ℕ) (b : Bool) → SettledLeads (free_turn m b (settle n) s p)
      go each zero false = carried_leads (settle n) (turn s p) each (turn_leads s p h)
      go each zero true = h
      go each (suc m) b = h

  through_leads : (n : ℕ) (s : Scene) (p : Pending) → Under s p → SettledLeads (through n s p)
  unfolding through
  through_leads zero s p h = settle_leads _ s p h
  through_leads (suc n) s p h = go (through_leads n) (settled s p) (settle_leads _ s p h)
    where
      go : EachLeads (through n) → (r : Settled) → SettledLeads r → SettledLeads (beyond (through n) r)
      go each (charges u q) m = m
      go each (segments.begins u q) m = carried_leads (through n) (turn u q) each (turn_leads u q m)
      go each (segments.ends u why) m = m

  abbrev pub EndLeads : Ended → Type 0
  EndLeads e = (hs : List Right) × Halted start w hs e.scene e.stop

  pub segment_leads : (t : ℕ) (s : Scene) (p : Pending) → Under s p → EndLeads (segment t s p)
  unfolding segment
  segment_leads zero s p h = go (reached s p) (through_leads _ s p h)
    where
      go : (r : Settled) → SettledLeads r → EndLeads (unpaid r)
      go (charges u q) m = (m.1.0, m.1.1.0)
      go (segments.begins u q) m = (m.1.0, m.1.1.0)
      go (segments.ends u why) m = m
  segment_leads (suc t) s p h = go (segment_leads t) (reached s p) (through_leads _ s p h)
    where
      on_turn : ((s : Scene) (p : Pending) → Under s p → EndLeads (segment t s p)) → (r : Turned) → Led r → EndLeads (paid (segment t) t r)
      on_turn each (goes_on u q) m = each u q m
      on_turn each (halts u why) m = m

      go : ((s : Scene) (p : Pending) → Under s p → EndLeads (segment t s p)) → (r : Settled) → SettledLeads r → EndLeads (charged (segment t) t r)
      go each (charges u q) m = on_turn each (turn (with_ticks u t) q) (turn_leads (with_ticks u t) q (ticking u t q m))
      go each (segments.begins u q) m = on_turn each (turn (with_ticks u t) q) (turn_leads (with_ticks u t) q (ticking u t q m))
      go each (segments.ends u why) m = m
