-- Links that go, and the tasks that read on them.
use Rattle.std.proofs.Common.{◌≡◌, ◌⊎◌, inl, inr, ℕ, ℤ, Bool, true, false, not, ◌||◌, List, [], ◌∷◌, ◌++◌, filter, Option, Some, None, refl, sym, ap, ◌∙◌, subst, cond, IsTrue, is_some}
use Rattle.std.specs.List.{slice_get}
use Rattle.std.specs.Ordering.{int_eq}
use Rattle.spec_value.specs.Table.{Numbered, at, without, is_numbered}
use Rattle.spec_value.proofs.Entries.{first_holds, second_holds}
use Rattle.spec_value.proofs.Same.{same_integer, integer_itself}
use Rattle.spec_world.specs.World.{World, Task, Waiting, forked, timed, idle, reading_on}
use Rattle.spec_world.specs.WellFormed.{lists, once, read_by, links_read}
use Rattle.spec_world.specs.Links.{connection_of, reads_on, reader_among, reader_of, close_link}
use Rattle.spec_world.proofs.Trees.{same_or_not, some_same}
use Rattle.spec_world.proofs.Recycling.{below_none}
use Rattle.spec_world.specs.SpecViewLaws.{first}
use Rattle.spec_world.specs.Questions.{apply, new_task, new_link}
use Rattle.spec_moo.specs.Linking.{connection_closed, link_closed}
use Rattle.moo_task.specs.Deeds.{scene_of}
use Rattle.moo_task.specs.declared.deeds.Deeds.{Deeds}
use Rattle.view.specs.Law.{Goes, Tells}
use Rattle.rules.specs.Lines.{AreAgreeing}
use Rattle.rules.specs.Standing.{IsStanding}
use Rattle.rules.proofs.InheritStanding.{closed_stands}
use Rattle.step_deeds.specs.Closing.{without_readers}

pub first_is_got : (ns : List ℤ) → slice_get ns 0 ≡ first ns
first_is_got [] = refl
first_is_got (n ∷ ns) = refl

-- ---- tables

denied : (a : Bool) → IsTrue (not a) → a ≡ false
denied true h = cc
denied false h = refl

-- where nothing has a number, nothing goes with it
stays_whole : {X : Type 0} (es : Numbered X) (k : ℤ) → at es k ≡ None → without es k ≡ es
stays_whole [] k h = refl
stays_whole (e ∷ es) k h = go (stays_whole es k) (int_eq k e.0) h
  where
    go : (at es k ≡ None → without es k ≡ es) → (b : Bool) → cond b (Some e.1) (at es k) ≡ None → cond (not b) (e ∷ without es k) (without es k) ≡ e ∷ es
    go later true m = cc
    go later false m = ap (λ z. e ∷ z) (later m)

-- the tasks but for those that read on a connection
abbrev unread : ℤ → Numbered Task → Numbered Task
unread c ts = filter (λ e. not (reads_on c (e.1).waiting)) ts

none_goes : (ts : Numbered Task) (c : ℤ) → reader_among ts c ≡ None → unread c ts ≡ ts
none_goes [] c h = refl
none_goes (e ∷ ts) c h = go (none_goes ts c) (reads_on c (e.1).waiting) h
  where
    go : (reader_among ts c ≡ None → unread c ts ≡ ts) → (b : Bool) → cond b (Some e.0) (reader_among ts c) ≡ None → cond (not b) (e ∷ unread c ts) (unread c ts) ≡ e ∷ ts
    go later true m = cc
    go later false m = ap (λ z. e ∷ z) (later m)

reader_waits : (ts : Numbered Task) (c i : ℤ) → reader_among ts c ≡ Some i → IsTrue (is_some (at ts i))
reader_waits [] c i h = cc
reader_waits (e ∷ ts) c i h = go (reader_waits ts c i) (reads_on c (e.1).waiting) h
  where
    go : (reader_among ts c ≡ Some i → IsTrue (is_some (at ts i))) → (b : Bool) → cond b (Some e.0) (reader_among ts c) ≡ Some i
        → IsTrue (is_some (cond (int_eq i e.0) (Some e.1) (at ts i)))
    go later true s = ap (λ b. is_some (cond b (Some e.1) (at ts i))) (subst (λ z. int_eq z e.0 ≡ true) (some_same s) (integer_itself e.0))
    go later false s = by (int_eq i e.0) (later s)
      where
        by : (b : Bool) → IsTrue (is_some (at ts i)) → IsTrue (is_some (cond b (Some e.1) (at ts i)))
        by true m = refl
        by false m = m

-- where no task reads, none is found
not_read : (ts : Numbered Task) (c : ℤ) → lists (links_read ts) c ≡ false → reader_among ts c ≡ None
unfolding links_read
not_read [] c h = refl
not_read (e ∷ ts) c h = go (not_read ts c) (e.1).waiting h
  where
    go : (lists (links_read ts) c ≡ false → reader_among ts c ≡ None) → (why : Waiting) → lists (read_by why ++ links_read ts) c ≡ false
        → cond (reads_on c why) (Some e.0) (reader_among ts c) ≡ None
    go later (forked m) s = later s
    go later (timed m v) s = later s
    go later idle s = later s
    go later (reading_on d) s = by (int_eq c d) s
      where
        by : (b : Bool) → (b || lists (links_read ts) c) ≡ false → cond b (Some e.0) (reader_among ts c) ≡ None
        by true m = cc
        by false m = later m

-- the one that reads goes alone
one_goes : (ts : Numbered Task) (c i : ℤ) → IsTrue (is_numbered ts) → IsTrue (once (links_read ts)) → reader_among ts c ≡ Some i → unread c ts ≡ without ts i
unfolding once links_read
one_goes [] c i h k is = refl
one_goes (e ∷ ts) c i h k is = go (one_goes ts c i (second_holds _ _ h)) (e.1).waiting k is
  where
    stays : reader_among ts c ≡ Some i → int_eq i e.0 ≡ false
    stays m = by (same_or_not i e.0)
      where
        by : (i ≡ e.0) ⊎ (int_eq i e.0 ≡ false) → int_eq i e.0 ≡ false
        by (inl s) =
            let none : at ts i ≡ None = ap (at ts) s ∙ below_none e.0 ts (first_holds _ _ h) in
            let some : IsTrue (is_some (at ts i)) = reader_waits ts c i m in
            let clash : IsTrue false = subst (λ (o : Option Task). IsTrue (is_some o)) none some in
            absurd (cc (clash))
        by (inr s) = s

    kept : unread c ts ≡ without ts i → reader_among ts c ≡ Some i → e ∷ unread c ts ≡ cond (not (int_eq i e.0)) (e ∷ without ts i) (without ts i)
    kept q m = ap (λ z. e ∷ z) q ∙ sym (ap (λ b. cond (not b) (e ∷ without ts i) (without ts i)) (stays m))

    gone : (d : ℤ) → int_eq c d ≡ true → IsTrue (not (lists (links_read ts) d)) → e.0 ≡ i → unread c ts ≡ cond (not (int_eq i e.0)) (e ∷ without ts i) (without ts i)
    gone d q l s =
        let none : at ts i ≡ None = ap (at ts) (sym s) ∙ below_none e.0 ts (first_holds _ _ h) in
        let other : lists (links_read ts) c ≡ false = subst (λ z. lists (links_read ts) z ≡ false) (sym (same_integer c d q)) (denied _ l) in
        let hit : int_eq i e.0 ≡ true = subst (λ z. int_eq z e.0 ≡ true) s (integer_itself e.0) in
        none_goes ts c (not_read ts c other) ∙ sym (stays_whole ts i none) ∙ sym (ap (λ b. cond (not b) (e ∷ without ts i) (without ts i)) hit)

    go : (IsTrue (once (links_read ts)) → reader_among ts c ≡ Some i → unread c ts ≡ without ts i) → (why : Waiting) → IsTrue (once (read_by why ++ links_read ts))
        → cond (reads_on c why) (Some e.0) (reader_among ts c) ≡ Some i
        → cond (not (reads_on c why)) (e ∷ unread c ts) (unread c ts) ≡ cond (not (int_eq i e.0)) (e ∷ without ts i) (without ts i)
    go later (forked m) l s = kept (later l s) s
    go later (timed m v) l s = kept (later l s) s
    go later idle l s = kept (later l s) s
    go later (reading_on d) l s = by (int_eq c d) refl s
      where
        by : (b : Bool) → int_eq c d ≡ b → cond b (Some e.0) (reader_among ts c) ≡ Some i
            → cond (not b) (e ∷ unread c ts) (unread c ts) ≡ cond (not (int_eq i e.0)) (e ∷ without ts i) (without ts i)
        by true q m = gone d q (first_holds _ _ l) (some_same m)
        by false q m = kept (later (second_holds _ _ l) m) m

-- ---- worlds

nobody_read : (w : World) (c : ℤ) → reader_of w c ≡ None → w ≡ without_readers w c
nobody_read w c h = ap (λ (ts : Numbered Task). record w { tasks = ts }) (sym (none_goes w.tasks c h))

reader_gone : (w : World) (c i : ℤ) → IsStanding w → reader_of w c ≡ Some i → apply (new_task i None) w ≡ without_readers w c
reader_gone w c i h is = ap (λ (ts : Numbered Task). record w { tasks = ts }) (sym (one_goes w.tasks c i h.tasks_in_order h.readers is))

link_gone : (w : World) (c : ℤ) → apply (new_link c None) (without_readers w c) ≡ close_link w c
unfolding close_link
link_gone w c = refl

-- ---- views

module _ {V : Type 0} (holds : V → World → Type 0) (now : V → World → World) where
  -- the reader goes, if there is one
  pub none_dropped : (a b : V) (c : ℤ) → Tells holds now a b (λ w. reader_of w c ≡ None) → Goes holds now a b (λ before after. IsStanding before → after ≡ without_readers before c)
  none_dropped a b c told w left = let t = told w left in (t.0, λ h. t.1.0 ∙ nobody_read (now a w) c t.1.1)

  pub one_dropped : (a b d : V) (c i : ℤ) → Tells holds now a b (λ w. reader_of w c ≡ Some i) → Goes holds now b d (λ before after. after ≡ apply (new_task i None) before)
      → Goes holds now a d (λ before after. IsStanding before → after ≡ without_readers before c)
  one_dropped a b d c i told gone w left =
      let u = gone w left in let t = told w u.0 in (t.0, λ h. u.1 ∙ ap (apply (new_task i None)) t.1.0 ∙ reader_gone (now a w) c i h t.1.1)

  -- and then the link
  pub closed : (a b d : V) (c : ℤ) → AreAgreeing holds now a → Goes holds now a b (λ before after. IsStanding before → after ≡ without_readers before c)
      → Goes holds now b d (λ before after. after ≡ apply (new_link c None) before) → Goes holds now a d (λ before after. after ≡ close_link before c)
  closed a b d c known dropped gone w left =
      let u = gone w left in let t = dropped w u.0 in (t.0, u.1 ∙ ap (apply (new_link c None)) (t.1 (known w t.0)) ∙ link_gone (now a w) c)

  pub closed_well : (a d : V) (c : ℤ) → AreAgreeing holds now a → Goes holds now a d (λ before after. after ≡ close_link before c) → AreAgreeing holds now d
  closed_well a d c known told w left = let t = told w left in subst IsStanding (sym t.1) (closed_stands (now a w) c (known w t.0))

  -- the link of an object that has none
  pub none_closed : (a b : V) (d : Deeds) (o : ℤ) → Tells holds now a b (λ w. connection_of w o ≡ None)
      → Goes holds now a b (λ before after. (t : ℕ) → scene_of d after t ≡ link_closed (scene_of d before t) o)
  none_closed a b d o told w left =
      let t = told w left in (t.0, λ n. ap (λ u. scene_of d u n) t.1.0 ∙ ap (connection_closed (scene_of d (now a w) n)) (sym t.1.1))

  -- of one that has one
  pub one_closed : (a b e : V) (d : Deeds) (cs : List ℤ) (o c : ℤ) → Tells holds now a b (λ w. connection_of w o ≡ Some c)
      → Goes holds now b e (λ before after. after ≡ close_link before c) → cs ≡ d.closed.items ++ c ∷ []
      → Goes holds now a e (λ before after. (t : ℕ) → record (scene_of d after t) { closed = cs } ≡ link_closed (scene_of d before t) o)
  one_closed a b e d cs o c told gone more w left =
      let u = gone w left in
      let t = told w u.0 in
      let is : now e w ≡ close_link (now a w) c = u.1 ∙ ap (λ x. close_link x c) t.1.0 in (
        t.0,
        λ n. ap (λ x. record (scene_of d x n) { closed = cs }) is ∙ ap (λ (x : List ℤ). record (scene_of d (close_link (now a w) c) n) { closed = x }) more
            ∙ ap (connection_closed (scene_of d (now a w) n)) (sym t.1.1),
      )
