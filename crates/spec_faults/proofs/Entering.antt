-- What holds of whatever is found in a table by number holds of each of its entries.
use Rattle.std.proofs.Common.{◌≡◌, ◌⊎◌, inl, inr, ℤ, false, [], ◌∷◌, Some, None, IsTrue, cond, int_eq, ap, sym, ◌∙◌}
use Rattle.spec_value.specs.Table.{Numbered, at, is_numbered}
use Rattle.spec_value.proofs.Entries.{first_holds, second_holds}
use Rattle.spec_value.proofs.Same.{integer_itself}
use Rattle.spec_world.proofs.Trees.{same_or_not}
use Rattle.spec_world.proofs.Recycling.{below_none}

module _ {X : Type 0} (P : ℤ → X → Type 0) where
  abbrev pub EachIs : Numbered X → Type 0
  EachIs [] = Unit {0}
  EachIs (e ∷ es) = P e.0 e.1 × EachIs es

  later : (e : ℤ × X) (es : Numbered X) → IsTrue (is_numbered (e ∷ es)) → (q : ℤ) (x : X) → at es q ≡ Some x → at (e ∷ es) q ≡ Some x
  later e es h q x k = go (same_or_not q e.0)
    where
      go : (q ≡ e.0) ⊎ (int_eq q e.0 ≡ false) → cond (int_eq q e.0) (Some e.1) (at es q) ≡ Some x
      go (inl s) = let clash : None ≡ Some x = sym (below_none e.0 es (first_holds _ _ h)) ∙ ap (at es) (sym s) ∙ k in absurd (cc (clash))
      go (inr s) = ap (λ b. cond b (Some e.1) (at es q)) s ∙ k

  first : (e : ℤ × X) (es : Numbered X) → at (e ∷ es) e.0 ≡ Some e.1
  first e es = ap (λ b. cond b (Some e.1) (at es e.0)) (integer_itself e.0)

  pub each_is : (es : Numbered X) → IsTrue (is_numbered es) → ((k : ℤ) (x : X) → at es k ≡ Some x → P k x) → EachIs es
  each_is [] h found = tt
  each_is (e ∷ es) h found = (found e.0 e.1 (first e es), each_is es (second_holds _ _ h) (λ k x is. found k x (later e es h k x is)))
