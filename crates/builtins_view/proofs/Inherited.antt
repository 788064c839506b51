-- The slots that an object's children inherit are its own.
use Rattle.std.proofs.Common.{◌≡◌, ◌⊎◌, inl, inr, ℤ, Bool, true, false, ◌||◌, List, [], ◌∷◌, ◌++◌, map, Option, Some, None, refl, sym, ap, ◌∙◌, subst, cond, is_some}
use Rattle.std.specs.Prelude.{option_map}
use Rattle.spec_value.specs.Datum.{Text, fold_case, same_text}
use Rattle.spec_value.specs.Table.{named}
use Rattle.spec_value.proofs.Same.{text_itself}
use Rattle.spec_world.specs.World.{World, Object, Slot, object_at}
use Rattle.spec_world.specs.Inherit.{slot_at, slot_of, ancestors}
use Rattle.spec_world.specs.WellFormed.{defined_on, folded_names, has_name}
use Rattle.spec_world.specs.Agreeing.{ObjectsAgree}
use Rattle.spec_world.specs.Families.{slots_at}
use Rattle.spec_world.proofs.Trees.{Path, path_from}
use Rattle.spec_world.proofs.WorldTrees.{parents, ancestors_of}
use Rattle.spec_world.proofs.Households.{Household, household}
use Rattle.spec_world.proofs.SlotTables.{text_or_not, sought}
use Rattle.spec_world.proofs.Reparenting.{slots_above}
use Rattle.spec_world.specs.Questions.{defines_at}
use Rattle.builtins_view.specs.Along.{given, names_on, with_found, slots_of, folded}
use Rattle.builtins_view.specs.Heirs.{heritage}

-- ---- names

mapped_both : (ts us : List Text) → map fold_case (ts ++ us) ≡ map fold_case ts ++ map fold_case us
mapped_both [] us = refl
mapped_both (t ∷ ts) us = ap (λ vs. fold_case t ∷ vs) (mapped_both ts us)

given_is : (m : Option Object) → map fold_case (given (option_map (λ x. x.defines) m)) ≡ folded_names m
given_is None = refl
given_is (Some x) = refl

pub names_are : (w : World) (os : List ℤ) → map fold_case (names_on w os) ≡ defined_on w os
unfolding defined_on
names_are w [] = refl
names_are w (o ∷ os) = mapped_both (given (defines_at w o)) (names_on w os) ∙ (λ i. given_is (object_at w o) i ++ names_are w os i)

-- ---- slots

found_of : (m : Option Object) (p : Text) → slot_of m p ≡ named (slots_at m) (fold_case p)
found_of None p = refl
found_of (Some x) p = refl

nothing : (b : Bool) (m : Option Slot) → m ≡ None → cond b m None ≡ None
nothing true m e = e
nothing false m e = refl

pub named_of : (w : World) (o : ℤ) (ps : List Text) (t : Text) → named (folded (slots_of w o ps)) t ≡ cond (has_name (map fold_case ps) t) (named (slots_at (object_at w o)) t) None
named_of w o [] t = refl
named_of w o (p ∷ ps) t = go (slot_at w o p) (found_of (object_at w o) p) (text_or_not t (fold_case p)) (named_of w o ps t)
  where
    own : Option Slot
    own = named (slots_at (object_at w o)) t

    later : Bool
    later = has_name (map fold_case ps) t

    go : (m : Option Slot) → m ≡ named (slots_at (object_at w o)) (fold_case p) → (t ≡ fold_case p) ⊎ (same_text t (fold_case p) ≡ false)
        → named (folded (slots_of w o ps)) t ≡ cond later own None
        → named (folded (with_found p m (slots_of w o ps))) t ≡ cond (same_text t (fold_case p) || later) own None
    go None e (inl s) rest =
        let gone : own ≡ None = ap (named (slots_at (object_at w o))) s ∙ sym e in
        rest ∙ nothing later own gone ∙ sym (nothing (same_text t (fold_case p) || later) own gone)
    go None e (inr s) rest = rest ∙ ap (λ b. cond (b || later) own None) (sym s)
    go (Some x) e (inl s) rest =
        let same : same_text t (fold_case p) ≡ true = subst (λ u. same_text t u ≡ true) s (text_itself t) in
        ap (λ b. cond b (Some x) (named (folded (slots_of w o ps)) t)) (sought t (fold_case p) ∙ same)
        ∙ e ∙ ap (named (slots_at (object_at w o))) (sym s) ∙ ap (λ b. cond (b || later) own None) (sym same)
    go (Some x) e (inr s) rest =
        ap (λ b. cond b (Some x) (named (folded (slots_of w o ps)) t)) (sought t (fold_case p) ∙ s) ∙ rest ∙ ap (λ b. cond (b || later) own None) (sym s)

-- all of them
pub heritage_is : (w : World) → ObjectsAgree w → (o : ℤ) (t : Text) → named (folded (heritage w o)) t ≡ named (slots_at (object_at w o)) t
heritage_is w sound o t =
    named_of w o (names_on w (ancestors w o)) t
    ∙ ap (λ ts. cond (has_name ts t) (named (slots_at (object_at w o)) t) None) (names_are w (ancestors w o))
    ∙ ap (λ os. cond (has_name (defined_on w os) t) (named (slots_at (object_at w o)) t) None) (ancestors_of w o way.0 sound.numbers way.1)
    ∙ whole (named (slots_at (object_at w o)) t) (has_name (defined_on w way.0) t) (slots_above w house o way.0 way.1 t)
  where
    house : Household w
    house = household w sound

    way : (ps : List ℤ) × Path (parents w) o ps
    way = path_from (parents w) house.family o

    whole : (m : Option Slot) (b : Bool) → is_some m ≡ b → cond b m None ≡ m
    whole None true e = refl
    whole None false e = refl
    whole (Some x) true e = refl
    whole (Some x) false e = cc
