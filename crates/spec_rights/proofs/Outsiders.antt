-- A slot keeps what it holds while outsiders alone run.
use Rattle.std.proofs.Common.{◌≡◌, ◌⊎◌, inl, inr, ℕ, ◌≤◌, ℤ, pos, Bool, true, false, not, ◌&&◌, ◌||◌, List, Option, Some, None, refl, sym, ap, ◌∙◌, subst, cond, arith, IsTrue}
use Rattle.std.specs.Prelude.{option_map, int_le, nat_abs, ◌+ℤ◌}
use Rattle.std.specs.Ordering.{int_eq}
use Rattle.spec_value.specs.Datum.{Text}
use Rattle.spec_value.proofs.Entries.{first_holds, second_holds}
use Rattle.spec_world.specs.World.{World, Header, Object, Slot, Verb, object_at}
use Rattle.spec_world.specs.Inherit.{slot_of, slot_at, line_bound, ancestors}
use Rattle.spec_world.specs.WellFormed.{lists}
use Rattle.spec_world.specs.Agreeing.{Agrees}
use Rattle.spec_world.specs.Questions.{header_at}
use Rattle.spec_world.specs.Members.{verb_changed}
use Rattle.spec_world.specs.Families.{nowhere, next_object}
use Rattle.spec_world.specs.Permissions as act
use Rattle.spec_world.specs.Permissions.{write_bits, write_slot, change_members, of_object, on_slot, owns_or, is_wizard, may}
use Rattle.spec_world.proofs.Trees.{some_same}
use Rattle.spec_world.proofs.WorldTrees.{of_all}
use Rattle.spec_world.proofs.ObjectChanges.{at_change}
use Rattle.spec_moo.specs.Steps.{play}
use Rattle.spec_rights.specs.Permitted.{Allows, SlotStays, SlotComesOrGoes, Taken, IsRecycled, LineChanges, SameStanding, SameBits, Permitted}
use Rattle.spec_rights.specs.Chains.{acting, Begun, world_after, Right, to_run_as, to_take, In, Holds, Chain, starts, serves, changes, types, names, takes}
use Rattle.spec_rights.specs.LeftAlone.{is_outsider, outside, OutsidersLeaveSlots, TurnsLeaveSlots}
use Rattle.spec_rights.proofs.Denied.{denied, not_so, standing_by_wizards, programmed_header, programmed_greatest}
use Rattle.spec_rights.proofs.Wizards.{Plain, plain_first, plain_still, plain_then}
use Rattle.spec_rights.proofs.OwnLines.{line_found, bound_grows, nowhere_is_old, on_own_line, itself_on, parent_nowhere_or_on, line_carried}
use Rattle.spec_rights.proofs.Strangers.{first_false}
use Rattle.spec_moo.specs.Sizes.{begins_stage}
use Rattle.spec_moo.specs.Turn.{turn}
use Rattle.spec_rights.proofs.Acting.{turns_act}
use Rattle.spec_rights.proofs.Steps.{lists_permit}

-- another program leaves each slot
programmed_slot : (w : World) (o : ℤ) (n : ℕ) (f : Verb → Verb) (q : ℤ) (p : Text) → slot_at (verb_changed w o n f) q p ≡ slot_at w q p
unfolding verb_changed
programmed_slot w o n f q p = ap (λ m. slot_of m p) (at_change w o q _) ∙ go (object_at w q) (int_eq q o)
  where
    go : (m : Option Object) (b : Bool) → slot_of (option_map (λ y. cond b (record y { verbs = Rattle.spec_world.specs.Members.with_verb y.verbs n f }) y) m) p ≡ slot_of m p
    go None b = refl
    go (Some x) true = refl
    go (Some x) false = refl

module _ (w : World) (h : Agrees w) (o : ℤ) (p : Text) (s : Slot) (first : Object) (is : object_at w o ≡ Some first) (slot : slot_at w o p ≡ Some s) where
  abbrev pub Above : ℤ → Type 0
  Above a = IsTrue (lists (ancestors w o) a)

  -- an object on the line with the same parent, owner and bit w
  abbrev pub SameKin : World → ℤ → Object → Type 0
  SameKin u a x = (y : Object) × (object_at u a ≡ Some y) × ((y.header.parent ≡ x.header.parent) × ((y.header.owner ≡ x.header.owner) × (y.header.writable ≡ x.header.writable)))

  pub record Held (u : World) : Type 0 where
    pub plain : Plain w u
    pub kin : (a : ℤ) (x : Object) → Above a → object_at w a ≡ Some x → SameKin u a x
    pub none : object_at u nowhere ≡ None
    pub bound : line_bound w ≤ line_bound u
    pub low : IsTrue (int_le nowhere u.greatest)
    pub held : slot_at u o p ≡ Some s

  -- ---- one outsider

  module _ (u : World) (who : ℤ) (held : Held u) (outsider : IsTrue (is_outsider w o s who)) where
    wizardless : is_wizard u who ≡ false
    wizardless = go (is_wizard u who) refl
      where
        go : (b : Bool) → is_wizard u who ≡ b → is_wizard u who ≡ false
        go false e = e
        go true e =
            denied (is_wizard w who) (held.plain.wizards who e)
            (not_so (is_wizard w who) (first_holds (not (is_wizard w who)) _ (first_holds (not (is_wizard w who) && not (owns_or who s.owner s.writable)) _ outsider)))

    closed_slot : owns_or who s.owner s.writable ≡ false
    closed_slot =
        not_so (owns_or who s.owner s.writable) (second_holds (not (is_wizard w who)) _ (first_holds (not (is_wizard w who) && not (owns_or who s.owner s.writable)) _ outsider))

    closed_above : (a : ℤ) (x y : Object) → Above a → object_at w a ≡ Some x → y.header.owner ≡ x.header.owner → y.header.writable ≡ x.header.writable
        → owns_or who y.header.owner y.header.writable ≡ false
    closed_above a x y l e own bit =
        (λ i. owns_or who (own i) (bit i))
        ∙ sym (ap (λ m. of_object m (λ z. owns_or who z.header.owner z.header.writable)) e)
        ∙ not_so (of_object (object_at w a) (λ z. owns_or who z.header.owner z.header.writable))
        (of_all (λ b. not (of_object (object_at w b) (λ z. owns_or who z.header.owner z.header.writable))) (ancestors w o) (second_holds (not (is_wizard w who) && not (owns_or who s.owner s.writable)) _ outsider) a l)

    no_slot : Allows u who (write_slot o p) → ⊥
    unfolding may
    no_slot k = denied _ k ((λ i. wizardless i || on_slot (held.held i) (λ t. owns_or who t.owner t.writable)) ∙ closed_slot)

    module _ (a : ℤ) (y : Object) (there : object_at u a ≡ Some y) (closed : owns_or who y.header.owner y.header.writable ≡ false) where
      no_members : Allows u who (change_members a) → ⊥
      unfolding may
      no_members k = denied _ k ((λ i. wizardless i || of_object (there i) (λ z. owns_or who z.header.owner z.header.writable)) ∙ closed)

      no_bits : Allows u who (write_bits a) → ⊥
      unfolding may
      no_bits k =
          denied _ k ((λ i. wizardless i || of_object (there i) (λ z. int_eq who z.header.owner)) ∙ first_false (int_eq who y.header.owner) y.header.writable closed)

      no_change : Allows u who (act.change_object a) → ⊥
      unfolding may
      no_change k =
          denied _ k ((λ i. wizardless i || of_object (there i) (λ z. int_eq who z.header.owner)) ∙ first_false (int_eq who y.header.owner) y.header.writable closed)

    -- on the line nothing may be changed
    above_closed : (a : ℤ) → Above a → (Allows u who (change_members a) → ⊥) × (Allows u who (act.change_object a) → ⊥)
    above_closed a l =
        let f = on_own_line w h.objects o first is a l in let k = held.kin a f.0 l f.1 in
        let closed = closed_above a f.0 k.0 l f.1 k.2.1.0 k.2.1.1 in
        (no_members a k.0 k.1 closed, no_change a k.0 k.1 closed)

  -- ---- a change by one

  held_then : (begun : ℤ → Type 0) (u v : World) (who : ℤ) → Permitted begun u who v → IsTrue (is_outsider w o s who) → ((a : ℤ) → Above a → begun a → ⊥) → Held u → Held v
  held_then begun u v who d outsider untaken held =
      record { plain = plain_then w begun u v who d plain held.plain; kin = kin; none = none; bound = bounds.0; low = bounds.1; held = kept }
    where
      plain : is_wizard u who ≡ false
      plain = wizardless u who held outsider

      never_taken : (a : ℤ) → Above a → Taken begun u who a → ⊥
      never_taken a l (inl k) = (above_closed u who held outsider a l).1 k
      never_taken a l (inr k) = untaken a l k

      bounds : (line_bound w ≤ line_bound v) × IsTrue (int_le nowhere v.greatest)
      bounds = go d.greatest
        where
          before : line_bound w ≤ nat_abs (u.greatest +ℤ pos 1)
          before = held.bound

          go : (v.greatest ≡ u.greatest) ⊎ (v.greatest ≡ next_object u) → (line_bound w ≤ nat_abs (v.greatest +ℤ pos 1)) × IsTrue (int_le nowhere v.greatest)
          go (inl e) = subst (λ g. (line_bound w ≤ nat_abs (g +ℤ pos 1)) × IsTrue (int_le nowhere g)) (sym e) (before, held.low)
          go (inr e) =
              let more = bound_grows u.greatest held.low in let b = more.0 in
              subst (λ g. (line_bound w ≤ nat_abs (g +ℤ pos 1)) × IsTrue (int_le nowhere g)) (sym e) (omega (arith, before, b), more.1)

      none : object_at v nowhere ≡ None
      none = go (object_at v nowhere) refl
        where
          go : (m : Option Object) → object_at v nowhere ≡ m → object_at v nowhere ≡ None
          go None e = e
          go (Some z) e = absurd (nowhere_is_old u.greatest held.low (d.new nowhere z held.none e).number)

      -- an object on the line stays there
      kin : (a : ℤ) (x : Object) → Above a → object_at w a ≡ Some x → SameKin v a x
      kin a x l e = go (object_at v a) refl
        where
          k : SameKin u a x
          k = held.kin a x l e

          closed : owns_or who k.0.header.owner k.0.header.writable ≡ false
          closed = closed_above u who held outsider a x k.0 l e k.2.1.0 k.2.1.1

          standing : (z : Object) → SameStanding k.0.header z.header ⊎ Allows u who (act.write_standing a) → z.header.owner ≡ k.0.header.owner
          standing z (inl i) = i.0
          standing z (inr i) = denied (is_wizard u who) (standing_by_wizards u who a i) plain

          bits : (z : Object) → SameBits k.0.header z.header ⊎ Allows u who (write_bits a) → z.header.writable ≡ k.0.header.writable
          bits z (inl i) = i.1
          bits z (inr i) = absurd (no_bits u who held outsider a k.0 k.1 closed i)

          gone : IsRecycled begun u who v k.0.header.parent → ⊥
          gone (t, i, j, m) = by (parent_nowhere_or_on w h.objects o first is a x l e)
            where
              by : (x.header.parent ≡ nowhere) ⊎ Above x.header.parent → ⊥
              by (inl n) = let clash : None ≡ Some t = sym held.none ∙ ap (object_at u) (sym (k.2.0 ∙ n)) ∙ i in absurd (cc (clash))
              by (inr n) = never_taken k.0.header.parent (subst Above (sym k.2.0) n) m

          parent : (z : Object) → (z.header.parent ≡ k.0.header.parent) ⊎ ((Allows u who (act.change_object a) × Allows u who (act.have_child z.header.parent)) ⊎ IsRecycled begun u who v k.0.header.parent)
              → z.header.parent ≡ k.0.header.parent
          parent z (inl i) = i
          parent z (inr (inl i)) = absurd (no_change u who held outsider a k.0 k.1 closed i.0)
          parent z (inr (inr i)) = absurd (gone i)

          go : (m : Option Object) → object_at v a ≡ m → SameKin v a x
          go None i = absurd (never_taken a l (d.gone a k.0 k.1 i))
          go (Some z) i =
              let c = d.kept a k.0 z k.1 i in
              (z, i, (parent z c.parent ∙ k.2.0, (standing z c.standing ∙ k.2.1.0, bits z c.bits ∙ k.2.1.1)))

      line : ancestors u o ≡ ancestors w o
      line = line_found w u o (line_carried w h.objects o first is u held.none (λ a x l e. let k = held.kin a x l e in (k.0, k.1, k.2.0))) held.bound

      line_stays : LineChanges begun u who o → ⊥
      line_stays (a, below, i) = go (subst (λ ps. IsTrue (lists ps a)) line below) i
        where
          go : Above a → Allows u who (change_members a) ⊎ Taken begun u who a → ⊥
          go l (inl k) = (above_closed u who held outsider a l).0 k
          go l (inr k) = never_taken a l k

      same_slot : (n : Option Slot) → SlotStays u who o p (Some s) n → n ≡ Some s
      same_slot None k = absurd k
      same_slot (Some t) k = ap Some (go k.rest k.owner)
        where
          go : (t ≡ record s { owner = t.owner }) ⊎ Allows u who (write_slot o p) → (t.owner ≡ s.owner) ⊎ (Allows u who (write_slot o p) × Allows u who (act.change_owner s.owner t.owner)) → t ≡ s
          go (inr i) j = absurd (no_slot u who held outsider i)
          go (inl i) (inr j) = absurd (no_slot u who held outsider j.0)
          go (inl i) (inl j) = i ∙ (λ c. record s { owner = j c })

      kept : slot_at v o p ≡ Some s
      kept = go (kin o first (itself_on w h.objects o first is) is)
        where
          before : SameKin u o first
          before = held.kin o first (itself_on w h.objects o first is) is

          go : SameKin v o first → slot_at v o p ≡ Some s
          go (z, i, more) = ap (λ m. slot_of m p) i ∙ by ((d.kept o before.0 z before.1 i).slots p)
            where
              now : slot_of (Some before.0) p ≡ Some s
              now = sym (ap (λ m. slot_of m p) before.1) ∙ held.held

              by : SlotStays u who o p (slot_of (Some before.0) p) (slot_of (Some z) p) ⊎ (LineChanges begun u who o × SlotComesOrGoes (slot_of (Some before.0) p) (slot_of (Some z) p)) → slot_of (Some z) p ≡ Some s
              by (inl k) = same_slot (slot_of (Some z) p) (subst (λ m. SlotStays u who o p m (slot_of (Some z) p)) now k)
              by (inr k) = absurd (line_stays k.0)

  -- where each header and that slot stay
  held_still : (u v : World) → ((q : ℤ) → header_at v q ≡ header_at u q) → v.greatest ≡ u.greatest → slot_at v o p ≡ slot_at u o p → Held u → Held v
  held_still u v headers great same held =
      record {
        plain = plain_still w u v headers great held.plain;
        kin = kin;
        none = none (object_at v nowhere) refl;
        bound = subst (λ g. line_bound w ≤ nat_abs (g +ℤ pos 1)) (sym great) held.bound;
        low = subst (λ g. IsTrue (int_le nowhere g)) (sym great) held.low;
        held = same ∙ held.held;
      }
    where
      header_of : (a : ℤ) (y : Object) → object_at u a ≡ Some y → (z : Object) × (object_at v a ≡ Some z) × (z.header ≡ y.header)
      header_of a y e = go (object_at v a) refl
        where
          go : (m : Option Object) → object_at v a ≡ m → (z : Object) × (object_at v a ≡ Some z) × (z.header ≡ y.header)
          go None i =
              let clash : None ≡ Some y.header = sym (ap (option_map (λ (c : Object). c.header)) i) ∙ headers a ∙ ap (option_map (λ (c : Object). c.header)) e in absurd (cc (clash))
          go (Some z) i = (z, i, some_same (sym (ap (option_map (λ (c : Object). c.header)) i) ∙ headers a ∙ ap (option_map (λ (c : Object). c.header)) e))

      kin : (a : ℤ) (x : Object) → Above a → object_at w a ≡ Some x → SameKin v a x
      kin a x l e =
          let k = held.kin a x l e in let z = header_of a k.0 k.1 in
          (z.0, z.1, (ap (λ (c : Header). c.parent) z.2 ∙ k.2.0, (ap (λ (c : Header). c.owner) z.2 ∙ k.2.1.0, ap (λ (c : Header). c.writable) z.2 ∙ k.2.1.1)))

      none : (m : Option Object) → object_at v nowhere ≡ m → object_at v nowhere ≡ None
      none None i = i
      none (Some z) i =
          let clash : Some z.header ≡ None = sym (ap (option_map (λ (c : Object). c.header)) i) ∙ headers nowhere ∙ ap (option_map (λ (c : Object). c.header)) held.none in absurd (cc (clash))

  held_first : Held w
  held_first =
      record {
        plain = plain_first w h;
        kin = λ a x l e. (x, e, (refl, (refl, refl)));
        none = go (object_at w nowhere) refl;
        bound = omega arith;
        low = first_holds (int_le nowhere w.greatest) _ h.objects.greatest_in_range;
        held = slot;
      }
    where
      go : (m : Option Object) → object_at w nowhere ≡ m → object_at w nowhere ≡ None
      go None e = e
      go (Some z) e = absurd (cc (h.objects.numbers nowhere z e))

  -- ---- along a chain

  abbrev pub Unnamed : List Right → Type 0
  Unnamed gs = ((q : ℤ) → In gs (to_run_as q) → ⊥) × ((a : ℤ) → Above a → In gs (to_take a) → ⊥)

  runs_outside : (gs : List Right) (who : ℤ) → Unnamed gs → Holds (outside w o s) gs (to_run_as who) → IsTrue (is_outsider w o s who)
  runs_outside gs who none (inl e) = e
  runs_outside gs who none (inr k) = absurd (none.0 who k)

  never_begun : (gs : List Right) → Unnamed gs → (a : ℤ) → Above a → Holds (outside w o s) gs (to_take a) → ⊥
  never_begun gs none a l (inl e) = denied (lists (ancestors w o) a) l (not_so (lists (ancestors w o) a) e)
  never_begun gs none a l (inr k) = none.1 a l k

  number_of : Right → ℤ
  number_of (to_run_as q) = q
  number_of (to_take q) = q

  pub chain_held : (gs : List Right) (u : World) → Chain (outside w o s) w gs u → Held u × Unnamed gs
  unfolding number_of
  chain_held gs u starts = (held_first, (λ q k. k, λ a l k. k))
  chain_held gs u (serves _ v _ r same) =
      let q = chain_held gs v r in
      (held_still v u (λ a. ap (λ es. header_at (record v { objects = es }) a) same.0) same.1 (ap (λ es. slot_at (record v { objects = es }) o p) same.0) q.0, q.1)
  chain_held gs u (changes _ v _ who r runs d) =
      let q = chain_held gs v r in
      (held_then (λ a. Holds (outside w o s) gs (to_take a)) v u who d (runs_outside gs who q.1 runs) (never_begun gs q.1) q.0, q.1)
  chain_held gs u (types _ v who a n body r typing allowed) =
      let q = chain_held gs v r in
      (held_still v _ (programmed_header v a n (λ m. record m { program = body })) (programmed_greatest v a n (λ m. record m { program = body })) (programmed_slot v a n (λ m. record m { program = body }) o p) q.0, q.1)
  chain_held gs u (names hs _ who a r runs wizard) =
      let q = chain_held hs u r in denied (is_wizard u who) wizard (wizardless u who q.0 (runs_outside hs who q.1 runs))
  chain_held gs u (takes hs _ who a r runs allowed) =
      let q = chain_held hs u r in (q.0, (λ m k. named m q.1 k, λ b l k. taken q.0 q.1 b l k))
    where
      named : (m : ℤ) → Unnamed hs → (to_run_as m ≡ to_take a) ⊎ In hs (to_run_as m) → ⊥
      named m none (inl e) = cc
      named m none (inr k) = none.0 m k

      taken : Held u → Unnamed hs → (b : ℤ) → Above b → (to_take b ≡ to_take a) ⊎ In hs (to_take b) → ⊥
      taken held none b l (inr k) = none.1 b l k
      taken held none b l (inl e) =
          (above_closed u who held (runs_outside hs who none runs) b l).1 (subst (λ m. Allows u who (act.change_object m)) (sym (ap number_of e)) allowed)

pub outsiders_leave_slots : OutsidersLeaveSlots
outsiders_leave_slots w ss o p s h range slot all = go (object_at w o) refl
  where
    reached : (gs : List Right) × Chain (outside w o s) w gs (play w ss).0
    reached = let r = lists_permit (outside w o s) w ss h range all in (r.0, r.1.0)

    go : (m : Option Object) → object_at w o ≡ m → slot_at (play w ss).0 o p ≡ Some s
    go None e = let clash : None ≡ Some s = sym (ap (λ m. slot_of m p) e) ∙ slot in absurd (cc (clash))
    go (Some x) e = (chain_held w h o p s x e slot reached.0 (play w ss).0 reached.1).0.held

pub turns_leave_slots : TurnsLeaveSlots
turns_leave_slots k s p o q t h slot outsider none = go (object_at s.world o) refl
  where
    go : (m : Option Object) → object_at s.world o ≡ m → slot_at (world_after (turn s p)) o q ≡ Some t
    go None e = let clash : None ≡ Some t = sym (ap (λ m. slot_of m q) e) ∙ slot in absurd (cc (clash))
    go (Some x) e =
        (held_then s.world h.world o q t x e slot (Begun (begins_stage p) p.outer) s.world (world_after (turn s p)) (acting p) (turns_act k s p h) outsider none
        (held_first s.world h.world o q t x e slot)).held
