-- Shortcuts that go on as those of the parents do are shortcuts, and the lines of slots are the same along them.
use Rattle.std.proofs.Common.{◌≡◌, ◌≤◌, ◌-◌, ℕ, zero, suc, ℤ, Some, List, [], ◌++◌, All, sym, ap, subst, ◌∙◌, inl, inr, arith}
use Rattle.std.specs.Prelude.{slice_get}
use Rattle.std.proofs.lemmas.Option.{get_or_from_slice_get, slice_get_within}
use Rattle.std.proofs.lemmas.List.Elements.{All-get_or}
use Rattle.spec_world.specs.World.{World, Object, object_at}
use Rattle.spec_world.specs.Inherit.{line, line_onto}
use Rattle.spec_world.specs.Checkpoint.{slots_along, slots_named, names_defined}
use Rattle.checkpoint_text.specs.declared.checkpoint_objects.shortcut.Shortcut.{Shortcut}
use Rattle.checkpoint_text.specs.Shortcuts.{Passes, Leads, GoesOn, AllGoOn, ArePassed}

module _ (w : World) (es : List Shortcut) where
  listed : (P : Shortcut → Type 0) (i : ℕ) (e : Shortcut) → slice_get es i ≡ Some e → All P es → P e
  listed P i e is all = subst P (get_or_from_slice_get es i e e is) (All-get_or P es i e (slice_get_within es i e is) all)

  -- ---- they are right if each goes on so

  module _ (go_on : AllGoOn w es es) where
    leads_past : (k : ℕ) → ((o to : ℤ) → GoesOn w es o k to → Passes w o k to) → (o to : ℤ) → Leads es o k to → Passes w o k to
    leads_past k again o to (inl (none, here)) = subst (λ n. Passes w o n to) (sym none) here
    leads_past k again o to (inr (i, e, is, from, over, up)) =
        again o to
        (subst (λ t. GoesOn w es o k t) up (subst (λ n. GoesOn w es o n e.to) over (subst (λ p. GoesOn w es p e.over e.to) from (listed (λ f. GoesOn w es f.from f.over f.to) i e is go_on))))

    pub passes : (k : ℕ) (o to : ℤ) → GoesOn w es o k to → Passes w o k to
    passes zero o to is = is
    passes (suc k) o to (x, there, none, on) = (x, there, none, leads_past k (passes k) x.header.parent to on)

    pub are_passed : ArePassed w es
    are_passed i d lt = passes _ _ _ (go_on i d lt)

  pub leads_so : ArePassed w es → (k : ℕ) (o to : ℤ) → Leads es o k to → Passes w o k to
  leads_so all k o to (inl (none, here)) = subst (λ n. Passes w o n to) (sym none) here
  leads_so all k o to (inr (i, e, is, from, over, up)) =
      subst (λ t. Passes w o k t) up (subst (λ n. Passes w o n e.to) over (subst (λ p. Passes w p e.over e.to) from (listed (λ f. Passes w f.from f.over f.to) i e is all)))

  -- ---- what is written along them

  module _ (o : ℤ) where
    pub skipped : (k n m : ℕ) (p to : ℤ) → m ≡ n - k → Passes w p k to → slots_along w o (line n w p) ≡ slots_along w o (line m w to)
    unfolding line
    skipped zero n m p to left is =
        let same : n ≡ m = omega (arith, left) in
        ap (λ q. slots_along w o (line n w q)) (sym is) ∙ ap (λ j. slots_along w o (line j w to)) same
    skipped (suc k) zero m p to left is =
        let none : 0 ≡ m = omega (arith, left) in
        ap (λ j. slots_along w o (line j w to)) none
    skipped (suc k) (suc n) m p to left (x, there, none, on) =
        let less : m ≡ n - k = omega (arith, left) in
        ap (λ m. slots_along w o (line_onto (line n w) p m)) there
        ∙ ap (λ m. slots_named w o (names_defined m) ++ slots_along w o (line n w x.header.parent)) there
        ∙ ap (λ ts. slots_named w o ts ++ slots_along w o (line n w x.header.parent)) none
        ∙ skipped k n m x.header.parent to less on

-- past one object a shortcut goes on as the one from its parent
pub past_one : (w : World) (es : List Shortcut) (o to : ℤ) (over k : ℕ) (x : Object) → 1 ≤ over → k ≡ over - 1 → object_at w o ≡ Some x → x.defines ≡ [] → Leads es x.header.parent k to
    → GoesOn w es o over to
past_one w es o to zero k x some less there none on = absurd (omega (arith, some))
past_one w es o to (suc n) k x some less there none on =
    let same : k ≡ n = omega (arith, less) in
    (x, there, none, subst (λ m. Leads es x.header.parent m to) same on)
