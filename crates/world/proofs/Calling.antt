-- Verbs that code calls.
use Rattle.std.proofs.Common.{◌≡◌, ℕ, zero, suc, ℤ, Bool, List, [], ◌∷◌, Option, Some, None, option_map, refl, sym, ap, ◌∙◌}
use Rattle.spec_value.specs.Datum.{Text}
use Rattle.spec_world.specs.World.{World, Object, Verb, object_at}
use Rattle.spec_world.specs.Inherit.{ancestors, line, line_onto, line_bound}
use Rattle.spec_world.specs.VerbsSought.{find_verb, first_on, first_passing, own_first, found_or}
use Rattle.spec_world.specs.Questions.{header_at, verbs_at, the_greatest, about_greatest, Change, apply_all}
use Rattle.view.specs.Kin.{IsCalledVerb, IsCalledAt}
use Rattle.world.specs.Late.{AllLight}
use Rattle.world.proofs.Alike.{parent_lightly, verbs_lightly}
use Rattle.world.proofs.Lightly.{all_unseen}

-- ---- worlds whose objects have the same parents and the same verbs have the same ancestors, and a word names the same verb there

onto : (f g : ℤ → List ℤ) (o : ℤ) (x y : Option Object) → ((p : ℤ) → f p ≡ g p)
    → option_map (λ h. h.parent) (option_map (λ z. z.header) x) ≡ option_map (λ h. h.parent) (option_map (λ z. z.header) y) → line_onto f o x ≡ line_onto g o y
onto f g o None None same is = refl
onto f g o None (Some y) same is = cc
onto f g o (Some x) None same is = cc
onto f g o (Some x) (Some y) same is =
    let parent : x.header.parent ≡ y.header.parent = cc in
    ap (λ ps. o ∷ ps) (ap f parent ∙ same y.header.parent)

own_same : (o : ℤ) (test : Verb → Bool) (x y : Option Object) → option_map (λ z. z.verbs) x ≡ option_map (λ z. z.verbs) y → own_first o test x ≡ own_first o test y
own_same o test None None is = refl
own_same o test None (Some y) is = cc
own_same o test (Some x) None is = cc
own_same o test (Some x) (Some y) is =
    let verbs : x.verbs ≡ y.verbs = cc in
    ap (first_passing o test) verbs

module _ (v w : World) (parents : (o : ℤ) → option_map (λ h. h.parent) (header_at v o) ≡ option_map (λ h. h.parent) (header_at w o)) (verbs : (o : ℤ) → verbs_at v o ≡ verbs_at w o) where
  line_same : (n : ℕ) (o : ℤ) → line n v o ≡ line n w o
  unfolding line
  line_same zero o = refl
  line_same (suc n) o = onto (line n v) (line n w) o (object_at v o) (object_at w o) (line_same n) (parents o)

  first_same : (test : Verb → Bool) (os : List ℤ) → first_on v test os ≡ first_on w test os
  unfolding first_on
  first_same test [] = refl
  first_same test (o ∷ os) = ap (λ s. found_or s (first_on v test os)) (own_same o test (object_at v o) (object_at w o) (verbs o)) ∙ ap (found_or (own_first o test (object_at w o))) (first_same test os)

  ancestors_same : (o : ℤ) → v.greatest ≡ w.greatest → ancestors v o ≡ ancestors w o
  unfolding ancestors
  ancestors_same o is = line_same (line_bound v) o ∙ ap (λ n. line n w o) (bounds is)
    where
      bounds : v.greatest ≡ w.greatest → line_bound v ≡ line_bound w
      bounds is = cc

  verb_same : (o : ℤ) (word : Text) → v.greatest ≡ w.greatest → find_verb v o word ≡ find_verb w o word
  unfolding find_verb
  verb_same o word is = first_same _ (ancestors v o) ∙ ap (first_on w _) (ancestors_same o is)

told_greatest : (m n : ℤ) → the_greatest m ≡ the_greatest n → m ≡ n
told_greatest m n is = cc

--- no light change gives a word another verb
pub verb_lightly : (cs : List Change) (w : World) (o : ℤ) (word : Text) → AllLight cs → find_verb (apply_all cs w) o word ≡ find_verb w o word
verb_lightly cs w o word all =
    verb_same (apply_all cs w) w (λ p. parent_lightly cs w p all) (λ p. verbs_lightly cs w p all) o word (told_greatest (apply_all cs w).greatest w.greatest (all_unseen cs w about_greatest all refl))

pub called_lightly : (cs : List Change) (w : World) (o : ℤ) (word : Text) (definer : ℤ) (v : Verb) → AllLight cs → IsCalledVerb w o word definer v → IsCalledVerb (apply_all cs w) o word definer v
called_lightly cs w o word definer v all is = verb_lightly cs w o word all ∙ is

pub called_before : (cs : List Change) (w : World) (o : ℤ) (word : Text) (definer : ℤ) (place : ℕ) → AllLight cs → IsCalledAt (apply_all cs w) o word definer place → IsCalledAt w o word definer place
called_before cs w o word definer place all is = record {
  verbs = is.verbs;
  own = sym (verbs_lightly cs w definer all) ∙ is.own;
  found = λ v there. sym (verb_lightly cs w o word all) ∙ is.found v there;
}
