-- Chains of permitted changes go on: with a change by a programmer who has a right to run, and with the rights that it gives.
use Rattle.std.proofs.Common.{◌≡◌, ◌⊎◌, inl, inr, ℕ, zero, suc, ℤ, Bool, true, false, List, [], ◌∷◌, Option, Some, None, refl, sym, ap, ◌∙◌, subst, cond, IsTrue, is_eq}
use Rattle.std.specs.Ordering.{int_cmp, int_eq}
use Rattle.spec_value.specs.Datum.{Text}
use Rattle.spec_value.specs.Table.{at}
use Rattle.spec_value.proofs.Same.{same_integer}
use Rattle.spec_world.specs.World.{World, Object, Verb, Entry, frame_entry, native_entry, Task, object_at}
use Rattle.spec_world.specs.Inherit.{slot_of}
use Rattle.spec_world.specs.Permissions.{Act, change_owner, change_object, in_place, is_wizard, may}
use Rattle.spec_world.proofs.Trees.{some_same, either}
use Rattle.spec_moo.specs.NativeEffect.{NativeEffect, answers, complains, begins, waits, dies, becomes}
use Rattle.spec_moo.specs.Pending.{Pending}
use Rattle.spec_rights.specs.Permitted.{Allows, VerbsKept, Taken, IsRecycled, LineChanges, SlotStays, SlotComesOrGoes, ObjectKept, Permitted, Concerns, concerned}
use Rattle.spec_rights.specs.Chains.{Right, to_run_as, to_take, In, Holds, EntriesHold, TasksHold, AllHold, SameObjects, Chain, serves, changes, names, takes, PendingHolds}
use Rattle.spec_rights.proofs.Doing.{TasksFrom, of_tasks, to_tasks, OwnsVerb, NativeDoes}

-- ---- more rights

abbrev pub Grows : List Right → List Right → Type 0
Grows gs hs = (g : Right) → In gs g → In hs g

module _ (rights more : Right → Type 0) (each : (g : Right) → rights g → more g) where
  pub entries_more : (es : List Entry) → EntriesHold rights es → EntriesHold more es
  entries_more [] h = tt
  entries_more (frame_entry f ∷ es) h = (each (to_run_as f.call.programmer) h.0, entries_more es h.1)
  entries_more (native_entry n ∷ es) h = (λ o k. each (to_take o) (h.0 o k), entries_more es h.1)

  pub tasks_more : (ts : List (ℤ × Task)) → TasksHold rights ts → TasksHold more ts
  tasks_more [] h = tt
  tasks_more (t ∷ ts) h = (entries_more (t.1).entries h.0, tasks_more ts h.1)

  pub all_more : (w : World) → AllHold rights w → AllHold more w
  all_more w h = record { verbs = λ o x n v e i. each (to_run_as v.owner) (h.verbs o x n v e i); tasks = tasks_more w.tasks h.tasks }

  pub pending_more : (p : Pending) → PendingHolds rights p → PendingHolds more p
  pending_more p h = (each (to_run_as p.frame.call.programmer) h.0, entries_more p.outer h.1)

pub holds_more : (first : Right → Bool) (gs hs : List Right) → Grows gs hs → (g : Right) → Holds first gs g → Holds first hs g
holds_more first gs hs grows g (inl e) = inl e
holds_more first gs hs grows g (inr k) = inr (grows g k)

-- what is permitted is so with more that begun built-ins may move or recycle
module _ (begun more : ℤ → Type 0) (each : (o : ℤ) → begun o → more o) (w : World) (who : ℤ) where
  pub taken_more : (o : ℤ) → Taken begun w who o → Taken more w who o
  taken_more o (inl k) = inl k
  taken_more o (inr k) = inr (each o k)

  line_more : (o : ℤ) → LineChanges begun w who o → LineChanges more w who o
  line_more o (a, below, inl k) = (a, below, inl k)
  line_more o (a, below, inr k) = (a, below, inr (taken_more a k))

  object_more : (u : World) (o : ℤ) (x y : Object) → ObjectKept begun w who u o x y → ObjectKept more w who u o x y
  object_more u o x y k =
      record { name = k.name; standing = k.standing; player = k.player; bits = k.bits; parent = up k.parent; location = place k.location; defines = k.defines; slots = λ p. slot p (k.slots p); verbs = k.verbs }
    where
      up : (y.header.parent ≡ x.header.parent) ⊎ ((Allows w who (change_object o) × Allows w who (Rattle.spec_world.specs.Permissions.have_child y.header.parent))
          ⊎ IsRecycled begun w who u x.header.parent)
          → (y.header.parent ≡ x.header.parent) ⊎ ((Allows w who (change_object o) × Allows w who (Rattle.spec_world.specs.Permissions.have_child y.header.parent))
          ⊎ IsRecycled more w who u x.header.parent)
      up (inl e) = inl e
      up (inr (inl e)) = inr (inl e)
      up (inr (inr (y, e, d, k))) = inr (inr (y, e, d, taken_more x.header.parent k))

      place : (y.header.location ≡ x.header.location) ⊎ (Taken begun w who o
          ⊎ ((y.header.location ≡ Rattle.spec_world.specs.Families.nowhere) × IsRecycled begun w who u x.header.location))
          → (y.header.location ≡ x.header.location) ⊎ (Taken more w who o
          ⊎ ((y.header.location ≡ Rattle.spec_world.specs.Families.nowhere) × IsRecycled more w who u x.header.location))
      place (inl e) = inl e
      place (inr (inl e)) = inr (inl (taken_more o e))
      place (inr (inr (n, (y, e, d, k)))) = inr (inr (n, (y, e, d, taken_more x.header.location k)))

      slot : (p : Text) → SlotStays w who o p (slot_of (Some x) p) (slot_of (Some y) p) ⊎ (LineChanges begun w who o × SlotComesOrGoes (slot_of (Some x) p) (slot_of (Some y) p))
          → SlotStays w who o p (slot_of (Some x) p) (slot_of (Some y) p) ⊎ (LineChanges more w who o × SlotComesOrGoes (slot_of (Some x) p) (slot_of (Some y) p))
      slot p (inl e) = inl e
      slot p (inr e) = inr (line_more o e.0, e.1)

  pub permitted_more : (u : World) → Permitted begun w who u → Permitted more w who u
  permitted_more u k =
      record { kept = λ o x y e d. object_more u o x y (k.kept o x y e d); gone = λ o x e d. taken_more o (k.gone o x e d); new = k.new; greatest = k.greatest; ending = k.ending }

-- ---- whose verbs there are after a change

pub same_owner : (w : World) (who a b : ℤ) → Allows w who (change_owner a b) → (is_wizard w who ≡ true) ⊎ (a ≡ b)
unfolding may
same_owner w who a b k = go (either (is_wizard w who) (int_eq a b) k)
  where
    go : IsTrue (is_wizard w who) ⊎ IsTrue (int_eq a b) → (is_wizard w who ≡ true) ⊎ (a ≡ b)
    go (inl e) = inl e
    go (inr e) = inr (same_integer a b e)

-- that of a verb which was there, the programmer, or anyone where that is a wizard
abbrev pub Known : World → ℤ → List Verb → ℤ → Type 0
Known w who vs o = (is_wizard w who ≡ true) ⊎ ((o ≡ who) ⊎ ((n : ℕ) × (v : Verb) × (in_place vs n ≡ Some v) × (v.owner ≡ o)))

known_later : (w : World) (who : ℤ) (v : Verb) (vs : List Verb) (o : ℤ) → Known w who vs o → Known w who (v ∷ vs) o
known_later w who v vs o (inl e) = inl e
known_later w who v vs o (inr (inl e)) = inr (inl e)
known_later w who v vs o (inr (inr (n, u, e, i))) = inr (inr (suc n, u, e, i))

pub verbs_known : (w : World) (who o : ℤ) (k : ℕ) (vs us : List Verb) → VerbsKept w who o k vs us → (n : ℕ) (u : Verb) → in_place us n ≡ Some u → Known w who vs u.owner
verbs_known w who o k [] [] h n u e = cc
verbs_known w who o k [] (t ∷ us) h zero u e = go (same_owner w who who t.owner h.1.0)
  where
    go : (is_wizard w who ≡ true) ⊎ (who ≡ t.owner) → Known w who [] u.owner
    go (inl i) = inl i
    go (inr i) = inr (inl (sym (i ∙ ap (λ (z : Verb). z.owner) (some_same e))))
verbs_known w who o k [] (t ∷ us) h (suc n) u e = verbs_known w who o k [] us h.1.1 n u e
verbs_known w who o k (v ∷ vs) [] h n u e = cc
verbs_known w who o k (v ∷ vs) (t ∷ us) (inr h) n u e = known_later w who v vs u.owner (verbs_known w who o (suc k) vs (t ∷ us) h.1 n u e)
verbs_known w who o k (v ∷ vs) (t ∷ us) (inl h) (suc n) u e = known_later w who v vs u.owner (verbs_known w who o (suc k) vs us h.1 n u e)
verbs_known w who o k (v ∷ vs) (t ∷ us) (inl h) zero u e = go h.0.owner
  where
    same : t.owner ≡ u.owner
    same = ap (λ (z : Verb). z.owner) (some_same e)

    by : (is_wizard w who ≡ true) ⊎ (v.owner ≡ t.owner) → Known w who (v ∷ vs) u.owner
    by (inl i) = inl i
    by (inr i) = inr (inr (0, v, refl, i ∙ same))

    go : (t.owner ≡ v.owner) ⊎ (Allows w who (Rattle.spec_world.specs.Permissions.write_verb o k) × Allows w who (change_owner v.owner t.owner)) → Known w who (v ∷ vs) u.owner
    go (inl i) = inr (inr (0, v, refl, sym i ∙ same))
    go (inr i) = by (same_owner w who v.owner t.owner i.1)

-- ---- all owners of verbs

abbrev Listed : List ℤ → ℤ → Type 0
Listed [] o = ⊥
Listed (p ∷ ps) o = (o ≡ p) ⊎ Listed ps o

abbrev with_owners : List Verb → List ℤ → List ℤ
with_owners [] os = os
with_owners (v ∷ vs) os = v.owner ∷ with_owners vs os

abbrev owners : List (ℤ × Object) → List ℤ
owners [] = []
owners (e ∷ es) = with_owners (e.1).verbs (owners es)

listed_here : (vs : List Verb) (os : List ℤ) (n : ℕ) (v : Verb) → in_place vs n ≡ Some v → Listed (with_owners vs os) v.owner
listed_here [] os n v e = cc
listed_here (u ∷ vs) os zero v e = inl (ap (λ (z : Verb). z.owner) (some_same (sym e)))
listed_here (u ∷ vs) os (suc n) v e = inr (listed_here vs os n v e)

listed_later : (vs : List Verb) (os : List ℤ) (o : ℤ) → Listed os o → Listed (with_owners vs os) o
listed_later [] os o h = h
listed_later (v ∷ vs) os o h = inr (listed_later vs os o h)

owner_listed : (es : List (ℤ × Object)) (q : ℤ) (x : Object) (n : ℕ) (v : Verb) → at es q ≡ Some x → in_place x.verbs n ≡ Some v → Listed (owners es) v.owner
owner_listed [] q x n v e i = cc
owner_listed (d ∷ es) q x n v e i = go (is_eq (int_cmp q d.0)) e (λ k. owner_listed es q x n v k i)
  where
    go : (b : Bool) → cond b (Some d.1) (at es q) ≡ Some x → (at es q ≡ Some x → Listed (owners es) v.owner) → Listed (with_owners (d.1).verbs (owners es)) v.owner
    go true k later = listed_here (d.1).verbs (owners es) n v (ap (λ (z : Object). in_place z.verbs n) (some_same k) ∙ i)
    go false k later = listed_later (d.1).verbs (owners es) v.owner (later k)

-- ---- chains from a world on

module _ (first : Right → Bool) (w : World) where
  pub record Reached (gs : List Right) (u : World) : Type 0 where
    pub chain : Chain first w gs u
    pub all : AllHold (Holds first gs) u

  abbrev pub After : List Right → World → Type 0
  After gs u = (hs : List Right) × (Grows gs hs × Reached hs u)

  pub stays : (gs : List Right) (u : World) → Reached gs u → After gs u
  stays gs u r = (gs, (λ g k. k, r))

  pub one_named : (gs : List Right) (u : World) (who o : ℤ) → Reached gs u → Holds first gs (to_run_as who) → is_wizard u who ≡ true → Reached (to_run_as o ∷ gs) u
  one_named gs u who o r runs wizard =
      record {
        chain = names gs u who o r.chain runs wizard;
        all = all_more (Holds first gs) (Holds first (to_run_as o ∷ gs)) (holds_more first gs (to_run_as o ∷ gs) (λ g k. inr k)) u r.all;
      }

  pub one_taken : (gs : List Right) (u : World) (who o : ℤ) → Reached gs u → Holds first gs (to_run_as who) → Allows u who (change_object o) → Reached (to_take o ∷ gs) u
  one_taken gs u who o r runs allowed =
      record {
        chain = takes gs u who o r.chain runs allowed;
        all = all_more (Holds first gs) (Holds first (to_take o ∷ gs)) (holds_more first gs (to_take o ∷ gs) (λ g k. inr k)) u r.all;
      }

  all_named : (os : List ℤ) (gs : List Right) (u : World) (who : ℤ) → Reached gs u → Holds first gs (to_run_as who) → is_wizard u who ≡ true
      → (hs : List Right) × (Grows gs hs × (Reached hs u × ((o : ℤ) → Listed os o → Holds first hs (to_run_as o))))
  all_named [] gs u who r runs wizard = (gs, (λ g k. k, (r, λ o k. absurd k)))
  all_named (p ∷ os) gs u who r runs wizard =
      let more = all_named os (to_run_as p ∷ gs) u who (one_named gs u who p r runs wizard) (holds_more first gs (to_run_as p ∷ gs) (λ g k. inr k) (to_run_as who) runs) wizard in
      (more.0, (λ g k. more.1.0 g (inr k), (more.1.1.0, λ o k. go more.0 more.1.0 more.1.1.1 o k)))
    where
      go : (hs : List Right) → Grows (to_run_as p ∷ gs) hs → ((o : ℤ) → Listed os o → Holds first hs (to_run_as o)) → (o : ℤ) → (o ≡ p) ⊎ Listed os o → Holds first hs (to_run_as o)
      go hs grows each o (inl e) = subst (λ z. Holds first hs (to_run_as z)) (sym e) (inr (grows (to_run_as p) (inl refl)))
      go hs grows each o (inr k) = each o k

  -- where the owners of verbs are known
  then_changed : (gs : List Right) (u v : World) (who : ℤ) → Reached gs u → Holds first gs (to_run_as who)
      → Permitted (λ o. Holds first gs (to_take o)) u who v → TasksFrom u.tasks v.tasks
      → ((o : ℤ) (x : Object) (n : ℕ) (t : Verb) → object_at v o ≡ Some x → in_place x.verbs n ≡ Some t → Holds first gs (to_run_as t.owner)) → Reached gs v
  then_changed gs u v who r runs d from each =
      record {
        chain = changes gs u v who r.chain runs d;
        all = record { verbs = each; tasks = to_tasks (Holds first gs) v.tasks (λ es k. of_tasks (Holds first gs) u.tasks es r.all.tasks (from es k)) };
      }

  pub changed : (gs : List Right) (u v : World) (who : ℤ) → Reached gs u → Holds first gs (to_run_as who)
      → Permitted (λ o. Holds first gs (to_take o)) u who v → TasksFrom u.tasks v.tasks → After gs v
  changed gs u v who r runs d from = go (is_wizard u who) refl
    where
      known : (o : ℤ) (x : Object) (n : ℕ) (t : Verb) → object_at v o ≡ Some x → in_place x.verbs n ≡ Some t → is_wizard u who ≡ false → Holds first gs (to_run_as t.owner)
      known o x n t e i plain = by (object_at u o) refl
        where
          of_known : (y : Object) → object_at u o ≡ Some y → Known u who y.verbs t.owner → Holds first gs (to_run_as t.owner)
          of_known y k (inl s) = let clash : true ≡ false = sym s ∙ plain in absurd (cc (clash))
          of_known y k (inr (inl s)) = subst (λ z. Holds first gs (to_run_as z)) (sym s) runs
          of_known y k (inr (inr (m, z, a, b))) = subst (λ c. Holds first gs (to_run_as c)) b (r.all.verbs o y m z k a)

          by : (m : Option Object) → object_at u o ≡ m → Holds first gs (to_run_as t.owner)
          by (Some y) k = of_known y k (verbs_known u who o 0 y.verbs x.verbs (d.kept o y x k e).verbs n t i)
          by None k = let none : None ≡ Some t = sym (ap (λ vs. in_place vs n) (d.new o x k e).verbs) ∙ i in absurd (cc (none))

      go : (b : Bool) → is_wizard u who ≡ b → After gs v
      go false e = stays gs v (then_changed gs u v who r runs d from (λ o x n t k i. known o x n t k i e))
      go true e = wizards (all_named (owners v.objects) gs u who r runs e)
        where
          wizards : (hs : List Right) × (Grows gs hs × (Reached hs u × ((o : ℤ) → Listed (owners v.objects) o → Holds first hs (to_run_as o)))) → After gs v
          wizards (hs, (grows, (reached, each))) = (
            hs,
            (
              grows,
              then_changed hs u v who reached (holds_more first gs hs grows (to_run_as who) runs)
                  (permitted_more (λ o. Holds first gs (to_take o)) (λ o. Holds first hs (to_take o)) (λ o k. holds_more first gs hs grows (to_take o) k) u who v d) from
                  (λ o x n t k i. each t.owner (owner_listed v.objects o x n t k i)),
            ),
          )

  pub served : (gs : List Right) (u v : World) → Reached gs u → SameObjects u v → TasksHold (Holds first gs) v.tasks → Reached gs v
  served gs u v r same tasks =
      record {
        chain = serves gs u v r.chain same;
        all = record { verbs = λ o x n t e i. r.all.verbs o x n t (sym (ap (λ es. object_at (record u { objects = es }) o) same.0) ∙ e) i; tasks = tasks };
      }

  -- ---- what a built-in does

  abbrev pub NativeReaches : List Right → NativeEffect → Type 0
  NativeReaches gs (answers s a) = After gs s.world
  NativeReaches gs (complains s f) = After gs s.world
  NativeReaches gs (begins s n d body args) =
      (hs : List Right) × (Grows gs hs × (Reached hs s.world × (Holds first hs (to_run_as d.programmer) × ((o : ℤ) → Concerns n o → Holds first hs (to_take o)))))
  NativeReaches gs (waits s why) = After gs s.world
  NativeReaches gs (dies s) = After gs s.world
  NativeReaches gs (becomes s o) = (hs : List Right) × (Grows gs hs × (Reached hs s.world × Holds first hs (to_run_as o)))

  module _ (gs : List Right) (u : World) (who : ℤ) (r : Reached gs u) (runs : Holds first gs (to_run_as who)) where
    begun : ℤ → Type 0
    begun o = Holds first gs (to_take o)

    -- the object that is concerned, if any, may be moved or recycled
    taken : (m : Option ℤ) → ((o : ℤ) → m ≡ Some o → Taken (λ q. Holds first gs (to_take q)) u who o)
        → (hs : List Right) × (Grows gs hs × (Reached hs u × ((o : ℤ) → m ≡ Some o → Holds first hs (to_take o))))
    taken None each = (gs, (λ g k. k, (r, λ o k. cc)))
    taken (Some p) each = go (each p refl)
      where
        go : Taken (λ q. Holds first gs (to_take q)) u who p → (hs : List Right) × (Grows gs hs × (Reached hs u × ((o : ℤ) → Some p ≡ Some o → Holds first hs (to_take o))))
        go (inl k) = (to_take p ∷ gs, (λ g i. inr i, (one_taken gs u who p r runs k, λ o i. subst (λ z. Holds first (to_take p ∷ gs) (to_take z)) (some_same i) (inr (inl refl)))))
        go (inr k) = (gs, (λ g i. i, (r, λ o i. subst (λ z. Holds first gs (to_take z)) (some_same i) k)))

    pub native_reaches : (e : NativeEffect) → NativeDoes (λ q. Holds first gs (to_take q)) u who e → NativeReaches gs e
    native_reaches (answers s a) d = changed gs u s.world who r runs d.permitted d.tasks
    native_reaches (complains s f) d = changed gs u s.world who r runs d.permitted d.tasks
    native_reaches (waits s why) d = changed gs u s.world who r runs d.permitted d.tasks
    native_reaches (dies s) d = changed gs u s.world who r runs d.permitted d.tasks
    native_reaches (becomes s o) d = go (changed gs u s.world who r runs d.0.permitted d.0.tasks) d.1
      where
        go : After gs s.world → (o ≡ who) ⊎ (is_wizard s.world who ≡ true) → (hs : List Right) × (Grows gs hs × (Reached hs s.world × Holds first hs (to_run_as o)))
        go (hs, (grows, reached)) (inl e) = (hs, (grows, (reached, subst (λ z. Holds first hs (to_run_as z)) (sym e) (holds_more first gs hs grows (to_run_as who) runs))))
        go (hs, (grows, reached)) (inr e) = (to_run_as o ∷ hs, (λ g k. inr (grows g k), (one_named hs s.world who o reached (holds_more first gs hs grows (to_run_as who) runs) e, inr (inl refl))))
    native_reaches (begins s n c body args) d = go (taken (concerned n.name n.arguments) d.1.1)
      where
        go : (hs : List Right) × (Grows gs hs × (Reached hs u × ((o : ℤ) → Concerns n o → Holds first hs (to_take o))))
            → (hs : List Right) × (Grows gs hs × (Reached hs s.world × (Holds first hs (to_run_as c.programmer) × ((o : ℤ) → Concerns n o → Holds first hs (to_take o)))))
        go (hs, (grows, (reached, each))) =
            by (changed hs u s.world who reached (holds_more first gs hs grows (to_run_as who) runs)
            (permitted_more (λ o. Holds first gs (to_take o)) (λ o. Holds first hs (to_take o)) (λ o k. holds_more first gs hs grows (to_take o) k) u who s.world d.0.permitted) d.0.tasks)
          where
            by : After hs s.world → (is : List Right) × (Grows gs is × (Reached is s.world × (Holds first is (to_run_as c.programmer) × ((o : ℤ) → Concerns n o → Holds first is (to_take o)))))
            by (is, (more, later)) =
                (is, (λ g k. more g (grows g k), (later, (runs_as d.1.0, λ o k. holds_more first hs is more (to_take o) (each o k)))))
              where
                runs_as : (c.programmer ≡ who) ⊎ OwnsVerb s.world c.programmer → Holds first is (to_run_as c.programmer)
                runs_as (inl e) = subst (λ z. Holds first is (to_run_as z)) (sym e) (holds_more first gs is (λ g k. more g (grows g k)) (to_run_as who) runs)
                runs_as (inr (o, x, m, v, e, i, k)) = subst (λ z. Holds first is (to_run_as z)) k (later.all.verbs o x m v e i)
