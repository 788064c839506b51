-- In a table whose keys rise each entry is found by its key.
use Rattle.std.proofs.Common.{◌≡◌, ◌∙◌, ◌⊎◌, inl, inr, ℤ, false, List, [], ◌∷◌, ◌++◌, map, Some, None, IsTrue, refl, sym, ap, cond}
use Rattle.std.specs.Ordering.{int_eq}
use Rattle.spec_value.specs.Datum.{Text}
use Rattle.spec_value.specs.Table.{Numbered, at, is_numbered}
use Rattle.spec_value.proofs.Entries.{first_holds, second_holds}
use Rattle.spec_value.proofs.Same.{integer_itself}
use Rattle.spec_world.proofs.Trees.{same_or_not}
use Rattle.spec_world.proofs.Recycling.{below_none}
use Rattle.checkpoint_text.specs.Each.{of_found, of_each, of_all}

module _ {X : Type 0} where
  first_found : (e : ℤ × X) (es : Numbered X) → at (e ∷ es) e.0 ≡ Some e.1
  first_found e es = ap (λ b. cond b (Some e.1) (at es e.0)) (integer_itself e.0)

  later_found : (e : ℤ × X) (es : Numbered X) → IsTrue (is_numbered (e ∷ es)) → (k : ℤ) (x : X) → at es k ≡ Some x → at (e ∷ es) k ≡ Some x
  later_found e es h k x is = go (same_or_not k e.0)
    where
      go : (k ≡ e.0) ⊎ (int_eq k e.0 ≡ false) → cond (int_eq k e.0) (Some e.1) (at es k) ≡ Some x
      go (inl s) = let clash : None ≡ Some x = sym (below_none e.0 es (first_holds _ _ h)) ∙ ap (at es) (sym s) ∙ is in absurd (cc (clash))
      go (inr s) = ap (λ b. cond b (Some e.1) (at es k)) s ∙ is

  -- whatever else is found in the whole table
  abbrev AllFound : Numbered X → Numbered X → Type 0
  AllFound m [] = Unit {0}
  AllFound m (e ∷ es) = (at m e.0 ≡ Some e.1) × AllFound m es

  all_later : (e : ℤ × X) (es fs : Numbered X) → IsTrue (is_numbered (e ∷ es)) → AllFound es fs → AllFound (e ∷ es) fs
  all_later e es [] h found = tt
  all_later e es (f ∷ fs) h found = (later_found e es h f.0 f.1 found.0, all_later e es fs h found.1)

  all_found : (es : Numbered X) → IsTrue (is_numbered es) → AllFound es es
  all_found [] h = tt
  all_found (e ∷ es) h = (first_found e es, all_later e es es h (all_found es (second_holds _ _ h)))

  written_found : (f : ℤ → X → List Text) (m es : Numbered X) → AllFound m es → of_each f m (map (λ e. e.0) es) ≡ of_all f es
  written_found f m [] found = refl
  written_found f m (e ∷ es) found =
      ap (λ o. of_found f e.0 o ++ of_each f m (map (λ e. e.0) es)) found.0 ∙ ap (λ ts. f e.0 e.1 ++ ts) (written_found f m es found.1)

  pub each_is_all : (f : ℤ → X → List Text) (es : Numbered X) → IsTrue (is_numbered es) → of_each f es (map (λ e. e.0) es) ≡ of_all f es
  each_is_all f es h = written_found f es es (all_found es h)
