-- Changes of an object's verbs, as the definitions of the functions have them.
use Rattle.std.proofs.Common.{◌≡◌, ℕ, zero, suc, ◌<◌, ◌++◌, ℤ, List, [], ◌∷◌, length, Option, Some, None, Result, Ok, Err, OnOk, refl, ap, sym, ◌∙◌, arith, slice_set}
use Rattle.std.specs.List.{remove}
use Rattle.std.specs.Prelude.{option_map}
use Rattle.spec_world.specs.World.{World, Object, Verb, object_at, with_object}
use Rattle.spec_world.specs.Permissions.{in_place}
use Rattle.spec_world.specs.Families.{change_at, change_object}
use Rattle.spec_world.specs.Members.{with_verb, without_verb, verb_added, verb_deleted, verb_changed}
use Rattle.spec_world.specs.Questions.{verbs_at}
use Rattle.spec_world.proofs.Trees.{some_same}
use Rattle.view.specs.Law.{Goes}

-- ---- lists of verbs

pub within : (vs : List Verb) (n : ℕ) (v : Verb) → in_place vs n ≡ Some v → n < length vs
within [] n v e = cc
within (u ∷ vs) zero v e = omega arith
within (u ∷ vs) (suc n) v e = let h : n < length vs = within vs n v e in omega (arith, h)

pub verb_set : (vs : List Verb) (n : ℕ) (v : Verb) → slice_set vs n v ≡ with_verb vs n (λ u. v)
verb_set [] n v = refl
verb_set (u ∷ vs) zero v = refl
verb_set (u ∷ vs) (suc n) v = ap (λ us. u ∷ us) (verb_set vs n v)

pub verb_removed : (vs : List Verb) (n : ℕ) → remove vs n ≡ without_verb vs n
verb_removed [] zero = refl
verb_removed [] (suc n) = refl
verb_removed (u ∷ vs) zero = refl
verb_removed (u ∷ vs) (suc n) = ap (λ us. u ∷ us) (verb_removed vs n)

same_change : (vs : List Verb) (n : ℕ) (v u : Verb) (f : Verb → Verb) → in_place vs n ≡ Some v → u ≡ f v → with_verb vs n (λ t. u) ≡ with_verb vs n f
same_change [] n v u f e is = refl
same_change (t ∷ vs) zero v u f e is = ap (λ x. x ∷ vs) (is ∙ ap f (sym (some_same e)))
same_change (t ∷ vs) (suc n) v u f e is = ap (λ us. t ∷ us) (same_change vs n v u f e is)

-- ---- of an object with these verbs

verbs_so : (w : World) (o : ℤ) (vs us : List Verb) (g : List Verb → List Verb) → us ≡ g vs → verbs_at w o ≡ Some vs
    → change_object w o (λ x. record x { verbs = us }) ≡ change_object w o (λ x. record x { verbs = g x.verbs })
verbs_so w o vs us g is = go (object_at w o)
  where
    go : (x : Option Object) → option_map (λ y. y.verbs) x ≡ Some vs → change_at w o (λ y. record y { verbs = us }) x ≡ change_at w o (λ y. record y { verbs = g y.verbs }) x
    go None e = refl
    go (Some x) e = ap (λ ts. with_object w o (record x { verbs = ts })) (is ∙ ap g (sym (some_same e)))

module _ {V A E : Type 0} (holds : V → World → Type 0) (now : V → World → World) (old new : V) (r : Result A E) (o : ℤ) (vs us : List Verb) where
  abbrev Put : Type 0
  Put = OnOk r (Goes holds now old new (λ before after. after ≡ change_object before o (λ x. record x { verbs = us })))

  put_as : (g : List Verb → List Verb) → us ≡ g vs → (r : Result A E) → OnOk r (Goes holds now old new (λ before after. after ≡ change_object before o (λ x. record x { verbs = us })))
      → OnOk r (Goes holds now old new (λ before after. verbs_at before o ≡ Some vs → after ≡ change_object before o (λ x. record x { verbs = g x.verbs })))
  put_as g is (Err e) told = tt
  put_as g is (Ok x) told = λ w left. let t = told w left in (t.0, λ e. t.1 ∙ verbs_so (now old w) o vs us g is e)

  pub changed_told : (n : ℕ) (v u : Verb) (f : Verb → Verb) → in_place vs n ≡ Some v → u ≡ f v → us ≡ with_verb vs n (λ t. u) → Put
      → OnOk r (Goes holds now old new (λ before after. verbs_at before o ≡ Some vs → after ≡ verb_changed before o n f))
  unfolding verb_changed
  changed_told n v u f e is so told = put_as (λ ts. with_verb ts n f) (so ∙ same_change vs n v u f e is) r told

  pub added_told : (v : Verb) → us ≡ vs ++ v ∷ [] → Put → OnOk r (Goes holds now old new (λ before after. verbs_at before o ≡ Some vs → after ≡ verb_added before o v))
  unfolding verb_added
  added_told v so told = put_as (λ ts. ts ++ v ∷ []) so r told

  pub deleted_told : (n : ℕ) → us ≡ without_verb vs n → Put → OnOk r (Goes holds now old new (λ before after. verbs_at before o ≡ Some vs → after ≡ verb_deleted before o n))
  unfolding verb_deleted
  deleted_told n so told = put_as (λ ts. without_verb ts n) so r told
