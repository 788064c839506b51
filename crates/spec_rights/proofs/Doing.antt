-- What a built-in function does: a permitted change, tasks that were there, a verb of someone who is known, and what it begins to move or recycle.
use Rattle.std.proofs.Common.{◌≡◌, ◌⊎◌, inl, inr, ℕ, suc, ℤ, Bool, true, false, List, [], ◌∷◌, Option, Some, None, refl, sym, ap, ◌∙◌, subst, cond, IsTrue, if◌then◌else◌, Ordering, Less, Equal, Greater, is_eq}
use Rattle.std.specs.Prelude.{filter, is_some, not}
use Rattle.std.specs.Ordering.{int_cmp}
use Rattle.std.specs.FinMap.Entries.{by_order}
use Rattle.spec_value.specs.Datum.{Text}
use Rattle.std.specs.Ordering.{int_eq}
use Rattle.std.specs.FinMap.Entries.{below_all}
use Rattle.spec_value.specs.Table.{Numbered, at, with, without, is_numbered}
use Rattle.spec_value.proofs.Entries.{first_holds, second_holds}
use Rattle.spec_value.proofs.Same.{same_integer, integer_itself}
use Rattle.spec_world.specs.World.{World, Object, Verb, Entry, Task, Link, Waiting, forked, timed, idle, reading_on, object_at}
use Rattle.spec_world.specs.Inherit.{ancestors}
use Rattle.spec_world.specs.Permissions.{in_place, is_wizard, control_task}
use Rattle.spec_world.specs.Links.{connection_among, reads_on, close_link}
use Rattle.spec_world.specs.VerbsSought.{Sought, first_passing, own_first, found_or, first_on, find_verb}
use Rattle.spec_world.proofs.Trees.{same_or_not, some_same}
use Rattle.spec_world.proofs.Households.{at_without}
use Rattle.spec_world.proofs.Recycling.{below_none}
use Rattle.spec_world.proofs.TablesKept.{at_with}
use Rattle.spec_world.proofs.WorldsKept.{Rest, connection_open}
use Rattle.spec_moo.specs.Natives.Tasks.{task_programmer}
use Rattle.spec_moo.specs.NativeEffect.{NativeEffect, answers, complains, begins, waits, dies, becomes}
use Rattle.spec_rights.specs.Permitted.{Allows, Taken, Concerns, Permitted, MayClose, GoesWithLink, QueueKept}
use Rattle.spec_rights.specs.Chains.{SameObjects, EntriesHold, TasksHold, Right}
use Rattle.spec_rights.proofs.Changes.{nothing_changed}

-- ---- waiting tasks

-- a task that waits has these entries
abbrev pub Among : List (ℤ × Task) → List Entry → Type 0
Among [] es = ⊥
Among (t ∷ ts) es = ((t.1).entries ≡ es) ⊎ Among ts es

abbrev pub TasksFrom : List (ℤ × Task) → List (ℤ × Task) → Type 0
TasksFrom ts us = (es : List Entry) → Among us es → Among ts es

pub among_left : (p : ℤ × Task → Bool) (ts : List (ℤ × Task)) → TasksFrom ts (filter p ts)
among_left p [] es h = h
among_left p (t ∷ ts) es h = go (p t) h (among_left p ts es)
  where
    go : (b : Bool) → Among (if b then t ∷ filter p ts else filter p ts) es → (Among (filter p ts) es → Among ts es) → Among (t ∷ ts) es
    go true (inl e) later = inl e
    go true (inr k) later = inr (later k)
    go false k later = inr (later k)

pub among_put : (ts : List (ℤ × Task)) (i : ℤ) (u : Task) (es : List Entry) → Among (with ts i u) es → (u.entries ≡ es) ⊎ Among ts es
among_put [] i u es h = h
among_put (t ∷ ts) i u es h = go (int_cmp i t.0) h (among_put ts i u es)
  where
    go : (r : Ordering) → Among (by_order r ((i, u) ∷ t ∷ ts) ((t.0, u) ∷ ts) (t ∷ with ts i u)) es → (Among (with ts i u) es → (u.entries ≡ es) ⊎ Among ts es)
        → (u.entries ≡ es) ⊎ Among (t ∷ ts) es
    go Less k later = k
    go Equal (inl e) later = inl e
    go Equal (inr k) later = inr (inr k)
    go Greater (inl e) later = inr (inl e)
    go Greater (inr k) later = by (later k)
      where
        by : (u.entries ≡ es) ⊎ Among ts es → (u.entries ≡ es) ⊎ Among (t ∷ ts) es
        by (inl e) = inl e
        by (inr m) = inr (inr m)

pub among_at : (ts : List (ℤ × Task)) (i : ℤ) (t : Task) → at ts i ≡ Some t → Among ts t.entries
among_at [] i t e = cc
among_at (u ∷ us) i t e = go (is_eq (int_cmp i u.0)) e (among_at us i t)
  where
    go : (b : Bool) → cond b (Some u.1) (at us i) ≡ Some t → (at us i ≡ Some t → Among us t.entries) → Among (u ∷ us) t.entries
    go true k later = inl (ap (λ (x : Task). x.entries) (some_same k))
    go false k later = inr (later k)

-- a task that takes the place of another one with the same entries
pub among_again : (ts : List (ℤ × Task)) (i : ℤ) (t u : Task) → at ts i ≡ Some t → u.entries ≡ t.entries → TasksFrom ts (with ts i u)
among_again ts i t u e same es h = go (among_put ts i u es h)
  where
    go : (u.entries ≡ es) ⊎ Among ts es → Among ts es
    go (inl k) = subst (Among ts) (sym same ∙ k) (among_at ts i t e)
    go (inr k) = k

pub of_tasks : (rights : Right → Type 0) (ts : List (ℤ × Task)) (es : List Entry) → TasksHold rights ts → Among ts es → EntriesHold rights es
of_tasks rights [] es h k = absurd k
of_tasks rights (t ∷ ts) es h (inl e) = subst (EntriesHold rights) e h.0
of_tasks rights (t ∷ ts) es h (inr k) = of_tasks rights ts es h.1 k

pub to_tasks : (rights : Right → Type 0) (ts : List (ℤ × Task)) → ((es : List Entry) → Among ts es → EntriesHold rights es) → TasksHold rights ts
to_tasks rights [] each = tt
to_tasks rights (t ∷ ts) each = (each (t.1).entries (inl refl), to_tasks rights ts (λ es k. each es (inr k)))

-- ---- owners of verbs

abbrev pub OwnsVerb : World → ℤ → Type 0
OwnsVerb w who = (o : ℤ) × (x : Object) × (n : ℕ) × (v : Verb) × (object_at w o ≡ Some x) × (in_place x.verbs n ≡ Some v) × (v.owner ≡ who)

abbrev pub SoughtOwned : World → Option Sought → Type 0
SoughtOwned w None = Unit {0}
SoughtOwned w (Some f) = OwnsVerb w (f.verb).owner

abbrev Placed : List Verb → Option Sought → Type 0
Placed vs None = Unit {0}
Placed vs (Some f) = (n : ℕ) × (in_place vs n ≡ Some f.verb)

passing_placed : (o : ℤ) (test : Verb → Bool) (vs : List Verb) → Placed vs (first_passing o test vs)
passing_placed o test [] = tt
passing_placed o test (v ∷ vs) = go (test v) (first_passing o test vs) (passing_placed o test vs)
  where
    go : (b : Bool) (m : Option Sought) → Placed vs m → Placed (v ∷ vs) (if b then Some (record { definer = o; verb = v }) else m)
    go true m h = (0, refl)
    go false None h = tt
    go false (Some f) h = (suc h.0, h.1)

pub first_owned : (w : World) (test : Verb → Bool) (os : List ℤ) → SoughtOwned w (first_on w test os)
unfolding first_on
first_owned w test [] = tt
first_owned w test (o ∷ os) = go (object_at w o) refl (first_owned w test os)
  where
    owned : (x : Object) → object_at w o ≡ Some x → (m : Option Sought) → Placed x.verbs m → SoughtOwned w m
    owned x e None h = tt
    owned x e (Some f) h = (o, x, h.0, f.verb, e, h.1, refl)

    found : (m n : Option Sought) → SoughtOwned w m → SoughtOwned w n → SoughtOwned w (found_or m n)
    found None n i k = k
    found (Some f) n i k = i

    go : (m : Option Object) → object_at w o ≡ m → SoughtOwned w (first_on w test os) → SoughtOwned w (found_or (own_first o test m) (first_on w test os))
    go None e later = later
    go (Some x) e later = found _ _ (owned x e (first_passing o test x.verbs) (passing_placed o test x.verbs)) later

pub verb_owned : (w : World) (o : ℤ) (word : Text) → SoughtOwned w (find_verb w o word)
unfolding find_verb
verb_owned w o word = first_owned w _ (ancestors w o)

-- ---- what is done

module _ (begun : ℤ → Type 0) (w : World) (who : ℤ) where
  pub record Does (u : World) : Type 0 where
    pub permitted : Permitted begun w who u
    pub tasks : TasksFrom w.tasks u.tasks
    pub queue : QueueKept begun w who u

  pub same_queue : (u : World) → u.tasks ≡ w.tasks → u.links ≡ w.links → QueueKept begun w who u
  same_queue u same linked =
      record { tasks = λ i t e. inl (ap (λ ts. at ts i) same ∙ e); links = λ c k e. inl (ap (λ ks. at ks c) linked ∙ e) }

  abbrev pub NativeDoes : NativeEffect → Type 0
  NativeDoes (answers s a) = Does s.world
  NativeDoes (complains s f) = Does s.world
  NativeDoes (begins s n d body args) =
      Does s.world × (((d.programmer ≡ who) ⊎ OwnsVerb s.world d.programmer) × ((o : ℤ) → Concerns n o → Taken begun w who o))
  NativeDoes (waits s why) = Does s.world
  NativeDoes (dies s) = Does s.world
  NativeDoes (becomes s o) = Does s.world × ((o ≡ who) ⊎ (is_wizard s.world who ≡ true))

  pub nothing_done : Does w
  nothing_done = record { permitted = nothing_changed begun w who w refl refl (inl refl); tasks = λ es h. h; queue = same_queue w refl refl }

  pub same_done : (u : World) → SameObjects w u → TasksFrom w.tasks u.tasks → QueueKept begun w who u → Does u
  same_done u same tasks queue = record { permitted = nothing_changed begun w who u same.0 same.1 (inl same.2); tasks = tasks; queue = queue }

  pub done : (u : World) → Permitted begun w who u → Rest w u → Does u
  done u p rest = record { permitted = p; tasks = λ es h. subst (λ ts. Among ts es) rest.tasks h; queue = same_queue u rest.tasks rest.links }

-- then the same tasks and links
pub queue_then : (begun : ℤ → Type 0) (w : World) (who : ℤ) (v u : World) → QueueKept begun w who v → Rest v u → QueueKept begun w who u
queue_then begun w who v u k rest = record { tasks = tasks; links = links }
  where
    tasks : (i : ℤ) (t : Task) → at w.tasks i ≡ Some t → (at u.tasks i ≡ Some t) ⊎ (Allows w who (control_task (task_programmer t)) ⊎ GoesWithLink begun w who t.waiting)
    tasks i t e = go (k.tasks i t e)
      where
        go : (at v.tasks i ≡ Some t) ⊎ (Allows w who (control_task (task_programmer t)) ⊎ GoesWithLink begun w who t.waiting)
            → (at u.tasks i ≡ Some t) ⊎ (Allows w who (control_task (task_programmer t)) ⊎ GoesWithLink begun w who t.waiting)
        go (inl a) = inl (ap (λ ts. at ts i) rest.tasks ∙ a)
        go (inr a) = inr a

    links : (c : ℤ) (l : Link) → at w.links c ≡ Some l → (at u.links c ≡ Some l) ⊎ MayClose begun w who l.person
    links c l e = go (k.links c l e)
      where
        go : (at v.links c ≡ Some l) ⊎ MayClose begun w who l.person → (at u.links c ≡ Some l) ⊎ MayClose begun w who l.person
        go (inl a) = inl (ap (λ ks. at ks c) rest.links ∙ a)
        go (inr a) = inr a

-- a link is closed, and no task comes
pub closing : (w : World) (c : ℤ) → SameObjects w (close_link w c) × TasksFrom w.tasks (close_link w c).tasks
unfolding close_link
closing w c = ((refl, refl, refl), among_left _ w.tasks)

-- ---- what stays in a table

-- the first entry with a number stays, if it passes
stays_filtered : {X : Type 0} (p : ℤ × X → Bool) (es : List (ℤ × X)) (i : ℤ) (x : X) → at es i ≡ Some x → p (i, x) ≡ true → at (filter p es) i ≡ Some x
stays_filtered p [] i x e k = cc
stays_filtered {X = X} p (d ∷ es) i x e k = go (p d) refl (same_or_not i d.0) e (λ m. stays_filtered p es i x m k)
  where
    go : (b : Bool) → p d ≡ b → (i ≡ d.0) ⊎ (int_eq i d.0 ≡ false) → cond (int_eq i d.0) (Some d.1) (at es i) ≡ Some x → (at es i ≡ Some x → at (filter p es) i ≡ Some x)
        → at (if b then d ∷ filter p es else filter p es) i ≡ Some x
    go true s (inl h) m later =
        let hit : int_eq i d.0 ≡ true = subst (λ z. int_eq i z ≡ true) h (integer_itself i) in
        ap (λ b. cond b (Some d.1) (at (filter p es) i)) hit ∙ (sym (ap (λ b. cond b (Some d.1) (at es i)) hit) ∙ m)
    go true s (inr h) m later = ap (λ b. cond b (Some d.1) (at (filter p es) i)) h ∙ later (sym (ap (λ b. cond b (Some d.1) (at es i)) h) ∙ m)
    go false s (inr h) m later = later (sym (ap (λ b. cond b (Some d.1) (at es i)) h) ∙ m)
    go false s (inl h) m later =
        let hit : int_eq i d.0 ≡ true = subst (λ z. int_eq i z ≡ true) h (integer_itself i) in
        let same : d.1 ≡ x = some_same (sym (ap (λ b. cond b (Some d.1) (at es i)) hit) ∙ m) in
        let clash : true ≡ false = sym k ∙ (λ j. p (h j, sym same j)) ∙ s in absurd (cc (clash))

-- the link that is sought by its person is that person's
pub persons_link : (ks : Numbered Link) (o c : ℤ) (k : Link) → IsTrue (is_numbered ks) → connection_among ks o ≡ Some c → at ks c ≡ Some k → k.person ≡ o
persons_link [] o c k h e i = cc
persons_link (d ∷ ks) o c k h e i = go (int_eq (d.1).person o) refl e (same_or_not c d.0) i (λ m n. persons_link ks o c k (second_holds (below_all int_cmp d.0 ks) _ h) m n)
  where
    here : c ≡ d.0 → cond (int_eq c d.0) (Some d.1) (at ks c) ≡ Some k → d.1 ≡ k
    here s m = some_same (sym (ap (λ b. cond b (Some d.1) (at ks c)) (subst (λ z. int_eq c z ≡ true) s (integer_itself c))) ∙ m)

    go : (b : Bool) → int_eq (d.1).person o ≡ b → cond b (Some d.0) (connection_among ks o) ≡ Some c → (c ≡ d.0) ⊎ (int_eq c d.0 ≡ false)
        → cond (int_eq c d.0) (Some d.1) (at ks c) ≡ Some k → (connection_among ks o ≡ Some c → at ks c ≡ Some k → k.person ≡ o) → k.person ≡ o
    go true s m (inl n) i later = sym (ap (λ (z : Link). z.person) (here n i)) ∙ same_integer (d.1).person o s
    go true s m (inr n) i later =
        let same : d.0 ≡ c = some_same m in let clash : true ≡ false = sym (subst (λ z. int_eq z d.0 ≡ true) same (integer_itself d.0)) ∙ n in absurd (cc (clash))
    go false s m (inr n) i later = later m (sym (ap (λ b. cond b (Some d.1) (at ks c)) n) ∙ i)
    go false s m (inl n) i later =
        let none : at ks c ≡ None = ap (at ks) n ∙ below_none d.0 ks (first_holds (below_all int_cmp d.0 ks) _ h) in
        let linked : IsTrue (is_some (at ks c)) = connection_open ks c o m in absurd (cc (none, linked))

-- a connection's link is closed, by one who may
module _ (begun : ℤ → Type 0) (w : World) (who c : ℤ) (k : Link) (is : at w.links c ≡ Some k) (may : MayClose begun w who k.person) where
  pub queue_closed : QueueKept begun w who (close_link w c)
  unfolding close_link
  queue_closed = record { tasks = tasks; links = links }
    where
      reading : (t : Task) (why : Waiting) → t.waiting ≡ why → reads_on c why ≡ true → GoesWithLink begun w who why
      reading t (reading_on d) e r = let same : c ≡ d = same_integer c d r in (k, ap (at w.links) (sym same) ∙ is, may)
      reading t (forked m) e r = cc
      reading t (timed m v) e r = cc
      reading t idle e r = cc

      tasks : (i : ℤ) (t : Task) → at w.tasks i ≡ Some t
          → (at (filter (λ (e : ℤ × Task). not (reads_on c (e.1).waiting)) w.tasks) i ≡ Some t)
          ⊎ (Allows w who (control_task (task_programmer t)) ⊎ GoesWithLink begun w who t.waiting)
      tasks i t e = go (reads_on c t.waiting) refl
        where
          go : (b : Bool) → reads_on c t.waiting ≡ b
              → (at (filter (λ (e : ℤ × Task). not (reads_on c (e.1).waiting)) w.tasks) i ≡ Some t)
              ⊎ (Allows w who (control_task (task_programmer t)) ⊎ GoesWithLink begun w who t.waiting)
          go false r = inl (stays_filtered (λ (e : ℤ × Task). not (reads_on c (e.1).waiting)) w.tasks i t e (ap not r))
          go true r = inr (inr (reading t t.waiting refl r))

      links : (d : ℤ) (l : Link) → at w.links d ≡ Some l → (at (without w.links c) d ≡ Some l) ⊎ MayClose begun w who l.person
      links d l e = go (same_or_not d c)
        where
          go : (d ≡ c) ⊎ (int_eq d c ≡ false) → (at (without w.links c) d ≡ Some l) ⊎ MayClose begun w who l.person
          go (inl s) = inr (subst (λ z. MayClose begun w who z) (ap (λ (z : Link). z.person) (some_same (sym is ∙ ap (at w.links) (sym s) ∙ e))) may)
          go (inr s) = inl (at_without w.links c d ∙ ap (λ b. cond b None (at w.links d)) s ∙ e)

-- a task that is there is put again, or goes, by one who may
pub queue_put : (begun : ℤ → Type 0) (w : World) (who i : ℤ) (t u : Task) → at w.tasks i ≡ Some t → Allows w who (control_task (task_programmer t))
    → QueueKept begun w who (record w { tasks = with w.tasks i u })
queue_put begun w who i t u is allowed = record { tasks = λ j v e. go j v e (same_or_not j i); links = λ c k e. inl e }
  where
    go : (j : ℤ) (v : Task) → at w.tasks j ≡ Some v → (j ≡ i) ⊎ (int_eq j i ≡ false)
        → (at (with w.tasks i u) j ≡ Some v) ⊎ (Allows w who (control_task (task_programmer v)) ⊎ GoesWithLink begun w who v.waiting)
    go j v e (inl s) = inr (inl (subst (λ (z : Task). Allows w who (control_task (task_programmer z))) (some_same (sym is ∙ ap (at w.tasks) (sym s) ∙ e)) allowed))
    go j v e (inr s) = inl (at_with w.tasks i j u ∙ ap (λ b. cond b (Some u) (at w.tasks j)) s ∙ e)

pub queue_left : (begun : ℤ → Type 0) (w : World) (who i : ℤ) (t : Task) → at w.tasks i ≡ Some t → Allows w who (control_task (task_programmer t))
    → QueueKept begun w who (record w { tasks = without w.tasks i })
queue_left begun w who i t is allowed = record { tasks = λ j v e. go j v e (same_or_not j i); links = λ c k e. inl e }
  where
    go : (j : ℤ) (v : Task) → at w.tasks j ≡ Some v → (j ≡ i) ⊎ (int_eq j i ≡ false)
        → (at (without w.tasks i) j ≡ Some v) ⊎ (Allows w who (control_task (task_programmer v)) ⊎ GoesWithLink begun w who v.waiting)
    go j v e (inl s) = inr (inl (subst (λ (z : Task). Allows w who (control_task (task_programmer z))) (some_same (sym is ∙ ap (at w.tasks) (sym s) ∙ e)) allowed))
    go j v e (inr s) = inl (at_without w.tasks i j ∙ ap (λ b. cond b None (at w.tasks j)) s ∙ e)
