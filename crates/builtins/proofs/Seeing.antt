-- Tasks that are listed id by id are those of the world.
use Rattle.std.proofs.Common.{◌≡◌, ◌⊎◌, inl, inr, ℕ, ◌<◌, ◌≤◌, ◌+◌, ℤ, Bool, true, false, ◌||◌, List, [], ◌∷◌, ◌++◌, map, length, drop, get_or, Option, Some, None, refl, sym, ap, ◌∙◌, subst, cond, IsTrue, is_some, if◌then◌else◌, append_assoc, append-nil, add-one, drop-cons}
use Rattle.std.specs.Prelude.{pos}
use Rattle.std.proofs.lemmas.List.{at_drop_all}
use Rattle.std.specs.Ordering.{int_eq}
use Rattle.spec_value.specs.Datum.{Datum}
use Rattle.spec_value.specs.Answer.{gives}
use Rattle.spec_value.specs.Table.{Numbered, at, is_numbered}
use Rattle.spec_value.proofs.Entries.{first_holds, second_holds}
use Rattle.spec_value.proofs.Same.{integer_itself}
use Rattle.spec_world.specs.World.{World, Task}
use Rattle.spec_world.specs.WellFormed.{lists}
use Rattle.spec_world.specs.Permissions.{is_wizard}
use Rattle.spec_world.proofs.Trees.{same_or_not}
use Rattle.spec_world.proofs.Recycling.{below_none}
use Rattle.spec_world.specs.Listings.{waiting_ids}
use Rattle.spec_moo.specs.Scene.{Scene, in_world}
use Rattle.spec_moo.specs.NativeEffect.{Caller}
use Rattle.spec_moo.specs.Natives.Rows.{list_value, answers_with}
use Rattle.spec_moo.specs.Natives.Tasks.{innermost, task_programmer, task_value, listed_tasks, queued_tasks_row}
use Rattle.view.specs.Law.{Tells}
use Rattle.rules.specs.Lines.{AreAgreeing}
use Rattle.builtins_view.specs.Said.{with_programmer, Says}
use Rattle.builtins.specs.Listed.{seen_task, seen_at, seen_of}

abbrev ids : Numbered Task → List ℤ
ids ts = map (λ e. e.0) ts

-- an id that is listed is found
listed_found : (ts : Numbered Task) (i : ℤ) → IsTrue (lists (ids ts) i) → IsTrue (is_some (at ts i))
listed_found [] i h = h
listed_found (e ∷ ts) i h = go (listed_found ts i) (int_eq i e.0) h
  where
    go : (IsTrue (lists (ids ts) i) → IsTrue (is_some (at ts i))) → (b : Bool) → IsTrue (b || lists (ids ts) i) → IsTrue (is_some (cond b (Some e.1) (at ts i)))
    go later true k = refl
    go later false k = later k

-- tables that agree on these ids show the same
seen_alike : (all : Bool) (who : ℤ) (ts us : Numbered Task) (is : List ℤ) → ((i : ℤ) → IsTrue (lists is i) → at ts i ≡ at us i) → seen_of all who ts is ≡ seen_of all who us is
seen_alike all who ts us [] h = refl
seen_alike all who ts us (i ∷ is) h =
    ap (λ m. seen_at all who i m ++ seen_of all who ts is) (h i (ap (λ b. b || lists is i) (integer_itself i)))
    ∙ ap (λ vs. seen_at all who i (at us i) ++ vs) (seen_alike all who ts us is (λ j k. h j (later j k)))
  where
    later : (j : ℤ) → IsTrue (lists is j) → IsTrue (int_eq j i || lists is j)
    later j k = go (int_eq j i)
      where
        go : (b : Bool) → IsTrue (b || lists is j)
        go true = refl
        go false = k

seen_listed : (all : Bool) (s : Scene) (c : Caller) (ts : Numbered Task) → IsTrue (is_numbered ts) → is_wizard s.world c.call.programmer ≡ all
    → seen_of all c.call.programmer ts (ids ts) ≡ listed_tasks s c ts
seen_listed all s c [] h is = refl
seen_listed all s c (e ∷ ts) h is =
    ap (λ m. seen_at all c.call.programmer e.0 m ++ seen_of all c.call.programmer (e ∷ ts) (ids ts)) (ap (λ b. cond b (Some e.1) (at ts e.0)) (integer_itself e.0))
    ∙ ap (λ vs. seen_task all c.call.programmer e.0 e.1 ++ vs) (seen_alike all c.call.programmer (e ∷ ts) ts (ids ts) behind ∙ seen_listed all s c ts (second_holds _ _ h) is)
    ∙ ap (λ b. seen_task b c.call.programmer e.0 e.1 ++ listed_tasks s c ts) (sym is)
    ∙ joined (is_wizard s.world c.call.programmer || int_eq (task_programmer e.1) c.call.programmer)
  where
    behind : (i : ℤ) → IsTrue (lists (ids ts) i) → at (e ∷ ts) i ≡ at ts i
    behind i k = go (same_or_not i e.0)
      where
        go : (i ≡ e.0) ⊎ (int_eq i e.0 ≡ false) → cond (int_eq i e.0) (Some e.1) (at ts i) ≡ at ts i
        go (inl d) =
            let none : at ts i ≡ None = ap (at ts) d ∙ below_none e.0 ts (first_holds _ _ h) in
            let clash : IsTrue false = subst (λ (o : Option Task). IsTrue (is_some o)) none (listed_found ts i k) in
            absurd (cc (clash))
        go (inr d) = ap (λ b. cond b (Some e.1) (at ts i)) d

    joined : (b : Bool) → (if b then task_value e.0 (e.1).waiting (innermost (e.1).entries) ∷ [] else []) ++ listed_tasks s c ts
        ≡ (if b then task_value e.0 (e.1).waiting (innermost (e.1).entries) ∷ listed_tasks s c ts else listed_tasks s c ts)
    joined true = refl
    joined false = refl

pub all_listed : (all : Bool) (s : Scene) (c : Caller) (vs : List Datum) → IsTrue (is_numbered s.world.tasks) → is_wizard s.world c.call.programmer ≡ all
    → seen_of all c.call.programmer s.world.tasks (ids s.world.tasks) ≡ vs → listed_tasks s c s.world.tasks ≡ vs
all_listed all s c vs h is seen = sym (seen_listed all s c s.world.tasks h is) ∙ seen

-- ---- the loop

pub one_more_seen : (all : Bool) (who : ℤ) (ts : Numbered Task) (is : List ℤ) (n : ℕ) (before after all_seen : List Datum) → n < length is
    → before ++ seen_of all who ts (drop n is) ≡ all_seen → after ≡ before ++ seen_at all who (get_or is n (pos 0)) (at ts (get_or is n (pos 0)))
    → after ++ seen_of all who ts (drop (n + 1) is) ≡ all_seen
one_more_seen all who ts is n before after all_seen inside so more =
    let i : ℤ = get_or is n (pos 0) in
    ap (λ vs. vs ++ seen_of all who ts (drop (n + 1) is)) more ∙ append_assoc before (seen_at all who i (at ts i)) (seen_of all who ts (drop (n + 1) is))
    ∙ ap (λ js. before ++ seen_of all who ts js) (sym next) ∙ so
  where
    next : drop n is ≡ get_or is n (pos 0) ∷ drop (n + 1) is
    next = drop-cons is n (pos 0) inside ∙ ap (λ k. get_or is n (pos 0) ∷ drop k is) (sym (add-one n))

pub no_more_seen : (all : Bool) (who : ℤ) (ts : Numbered Task) (is : List ℤ) (n : ℕ) (vs all_seen : List Datum) → length is ≤ n
    → vs ++ seen_of all who ts (drop n is) ≡ all_seen → all_seen ≡ vs
no_more_seen all who ts is n vs all_seen past so = sym so ∙ ap (λ us. vs ++ us) (at_drop_all (seen_of all who ts) is n past) ∙ append-nil vs

-- ---- the answer

module _ {V : Type 0} (holds : V → World → Type 0) (now : V → World → World) where
  pub queued : (a b e f : V) (who : ℤ) (all : Bool) (is : List ℤ) (vs : List Datum) (x : Datum) → AreAgreeing holds now a → Tells holds now a b (λ w. is_wizard w who ≡ all)
      → Tells holds now b e (λ w. waiting_ids w ≡ is) → Tells holds now e f (λ w. seen_of all who w.tasks is ≡ vs) → x ≡ list_value vs
      → Tells holds now a f (λ w. Says (λ s c. queued_tasks_row s c []) w who (gives x))
  queued a b e f who all is vs x known wizard waiting seen value w left =
      let z = seen w left in
      let y = waiting w z.0 in
      let t = wizard w y.0 in
      let back : now e w ≡ now a w = y.1.0 ∙ t.1.0 in
      let found : waiting_ids (now a w) ≡ is = subst (λ (u : World). waiting_ids u ≡ is) t.1.0 y.1.1 in
      let shown : seen_of all who (now a w).tasks (waiting_ids (now a w)) ≡ vs = ap (seen_of all who (now a w).tasks) found ∙ subst (λ (u : World). seen_of all who u.tasks is ≡ vs) back z.1.1 in (
        t.0,
        (
          z.1.0 ∙ back,
          λ s k. ap (λ us. answers_with (in_world s (now a w)) (list_value us)) (all_listed all (in_world s (now a w)) (with_programmer k who) vs (known w t.0).tasks_in_order t.1.1 shown)
              ∙ ap (λ u. answers_with (in_world s (now a w)) u) (sym value),
        ),
      )

  -- one id more
  pub saw_one : (a b e : V) (who : ℤ) (all : Bool) (is : List ℤ) (n : ℕ) (before after : List Datum) → n < length is
      → Tells holds now a b (λ w. before ++ seen_of all who w.tasks (drop n is) ≡ seen_of all who w.tasks is)
      → Tells holds now b e (λ w. after ≡ before ++ seen_at all who (get_or is n (pos 0)) (at w.tasks (get_or is n (pos 0))))
      → Tells holds now a e (λ w. after ++ seen_of all who w.tasks (drop (n + 1) is) ≡ seen_of all who w.tasks is)
  saw_one a b e who all is n before after inside so more w left =
      let m = more w left in
      let t = so w m.0 in
      let pushed = subst (λ (u : World). after ≡ before ++ seen_at all who (get_or is n (pos 0)) (at u.tasks (get_or is n (pos 0)))) t.1.0 m.1.1 in
      (t.0, (m.1.0 ∙ t.1.0, one_more_seen all who (now a w).tasks is n before after (seen_of all who (now a w).tasks is) inside t.1.1 pushed))

  pub saw_all : (a b : V) (who : ℤ) (all : Bool) (is : List ℤ) (n : ℕ) (vs : List Datum) → length is ≤ n
      → Tells holds now a b (λ w. vs ++ seen_of all who w.tasks (drop n is) ≡ seen_of all who w.tasks is) → Tells holds now a b (λ w. seen_of all who w.tasks is ≡ vs)
  saw_all a b who all is n vs past so w left =
      let t = so w left in (t.0, (t.1.0, no_more_seen all who (now a w).tasks is n vs (seen_of all who (now a w).tasks is) past t.1.1))
