-- A new child.
use Rattle.std.proofs.Common.{◌≡◌, ◌⊎◌, inl, inr, zero, suc, ◌+◌, ◌≤◌, ℤ, pos, negsuc, Bool, true, false, ◌||◌, List, [], ◌∷◌, map, Option, Some, None, Result, Ok, Err, OnOk, refl, sym, ap, ◌∙◌, subst, cond, arith, IsTrue, is_some, leb-true, if◌then◌else◌}
use Rattle.std.proofs.Math.Dec.{leb-zero}
use Rattle.std.specs.Prelude.{option_map, neg_ℤ, int_le, ◌+ℤ◌}
use Rattle.spec_value.specs.Datum.{Text, fold_case, same_text}
use Rattle.spec_value.specs.Table.{Named, named, with, with_name, is_named}
use Rattle.spec_value.proofs.Same.{text_itself}
use Rattle.spec_value.proofs.Entries.{first_holds, both_hold}
use Rattle.spec_world.specs.World.{World, Object, Slot, object_at, with_object}
use Rattle.spec_world.specs.Inherit.{slot_of, slot_at, ancestors}
use Rattle.spec_world.specs.WellFormed.{defined_on, has_name}
use Rattle.spec_world.specs.Agreeing.{ObjectsAgree}
use Rattle.spec_world.specs.ObjectLaws.{IsPlace}
use Rattle.spec_world.specs.Families.{heir_slot, heir_slots, slots_at, next_object, created, add_child}
use Rattle.spec_world.proofs.Trees.{Path, path_from}
use Rattle.spec_world.proofs.WorldTrees.{parents, ancestors_of}
use Rattle.spec_world.proofs.Households.{Household, household}
use Rattle.spec_world.proofs.SlotTables.{text_or_not, named_with, with_sorted, named_heirs, heirs_sorted, or_first}
use Rattle.spec_world.proofs.Reparenting.{slots_above}
use Rattle.spec_world.specs.Questions.{apply, new_greatest, new_object, is_number}
use Rattle.rules.specs.Lines.{AreAgreeing}
use Rattle.rules.specs.Standing.{IsStanding}
use Rattle.rules.proofs.ObjectsStand.{created_stands}
use Rattle.view.specs.Law.{Goes, Tells}
use Rattle.builtins_view.specs.Along.{names_on, with_found, slots_of}
use Rattle.builtins_view.specs.Heirs.{heritage}
use Rattle.builtins_view.proofs.Inherited.{names_are}
use Rattle.builtins_view.proofs.Descent.{same_slots}
use Rattle.builtins.specs.Children.{put_heirs, child_with, IsNext}

-- ---- slots put one after the other

found_of : (m : Option Object) (p : Text) → slot_of m p ≡ named (slots_at m) (fold_case p)
found_of None p = refl
found_of (Some x) p = refl

put_sorted : (owner : ℤ) (es : List (Text × Slot)) (ss : Named Slot) → IsTrue (is_named ss) → IsTrue (is_named (put_heirs owner es ss))
put_sorted owner [] ss h = h
put_sorted owner (e ∷ es) ss h = put_sorted owner es (with_name ss (fold_case e.0) (heir_slot owner e.1)) (with_sorted ss (fold_case e.0) (heir_slot owner e.1) h)

module _ (w : World) (o owner : ℤ) (t : Text) where
  abbrev own : Option Slot
  own = named (slots_at (object_at w o)) t

  abbrev among : List Text → Option Slot
  among ps = cond (has_name (map fold_case ps) t) (option_map (heir_slot owner) own) None

  put_named : (ps : List Text) (ss : Named Slot) → named (put_heirs owner (slots_of w o ps) ss) t ≡ or_first (among ps) (named ss t)
  put_named [] ss = refl
  put_named (p ∷ ps) ss = go (put_named ps) (slot_at w o p) (found_of (object_at w o) p) (text_or_not t (fold_case p))
    where
      nothing : (b : Bool) → own ≡ None → cond b (option_map (heir_slot owner) own) None ≡ None
      nothing true e = ap (option_map (heir_slot owner)) e
      nothing false e = refl

      twice : (b : Bool) (x : Slot) → or_first (cond b (Some x) None) (Some x) ≡ Some x
      twice true x = refl
      twice false x = refl

      go : ((rs : Named Slot) → named (put_heirs owner (slots_of w o ps) rs) t ≡ or_first (among ps) (named rs t))
          → (m : Option Slot) → m ≡ named (slots_at (object_at w o)) (fold_case p) → (t ≡ fold_case p) ⊎ (same_text t (fold_case p) ≡ false)
          → named (put_heirs owner (with_found p m (slots_of w o ps)) ss) t
          ≡ or_first (cond (same_text t (fold_case p) || has_name (map fold_case ps) t) (option_map (heir_slot owner) own) None) (named ss t)
      go rest None e (inl s) =
          let gone : own ≡ None = ap (named (slots_at (object_at w o))) s ∙ sym e in
          rest ss
          ∙ ap (λ m. or_first m (named ss t)) (nothing (has_name (map fold_case ps) t) gone ∙ sym (nothing (same_text t (fold_case p) || has_name (map fold_case ps) t) gone))
      go rest None e (inr s) = rest ss ∙ ap (λ b. or_first (cond (b || has_name (map fold_case ps) t) (option_map (heir_slot owner) own) None) (named ss t)) (sym s)
      go rest (Some x) e (inl s) =
          let same : same_text t (fold_case p) ≡ true = subst (λ u. same_text t u ≡ true) s (text_itself t) in
          let mine : own ≡ Some x = ap (named (slots_at (object_at w o))) s ∙ sym e in
          rest (with_name ss (fold_case p) (heir_slot owner x))
          ∙ ap (or_first (among ps)) (named_with ss (fold_case p) t (heir_slot owner x) ∙ ap (λ b. cond b (Some (heir_slot owner x)) (named ss t)) same)
          ∙ ap (λ m. or_first (cond (has_name (map fold_case ps) t) (option_map (heir_slot owner) m) None) (Some (heir_slot owner x))) mine
          ∙ twice (has_name (map fold_case ps) t) (heir_slot owner x)
          ∙ ap (λ m. or_first (option_map (heir_slot owner) m) (named ss t)) (sym mine)
          ∙ ap (λ b. or_first (cond (b || has_name (map fold_case ps) t) (option_map (heir_slot owner) own) None) (named ss t)) (sym same)
      go rest (Some x) e (inr s) =
          rest (with_name ss (fold_case p) (heir_slot owner x))
          ∙ ap (or_first (among ps)) (named_with ss (fold_case p) t (heir_slot owner x) ∙ ap (λ b. cond b (Some (heir_slot owner x)) (named ss t)) s)
          ∙ ap (λ b. or_first (cond (b || has_name (map fold_case ps) t) (option_map (heir_slot owner) own) None) (named ss t)) (sym s)

-- they are the slots of an heir
pub heirs_are : (w : World) → ObjectsAgree w → (o owner : ℤ) → put_heirs owner (heritage w o) [] ≡ heir_slots owner (slots_at (object_at w o))
heirs_are w sound o owner =
    same_slots (put_heirs owner (heritage w o) []) (heir_slots owner (slots_at (object_at w o))) (put_sorted owner (heritage w o) [] refl) (sorted (object_at w o) refl)
    (λ t. put_named w o owner t (names_on w (ancestors w o)) [] ∙ all t ∙ sym (named_heirs owner (slots_at (object_at w o)) t))
  where
    house : Household w
    house = household w sound

    way : (ps : List ℤ) × Path (parents w) o ps
    way = path_from (parents w) house.family o

    sorted : (m : Option Object) → object_at w o ≡ m → IsTrue (is_named (heir_slots owner (slots_at m)))
    sorted None e = refl
    sorted (Some x) e = heirs_sorted owner x.slots ((house.own o x way.0 e way.1).sorted)

    whole : (m : Option Slot) (b : Bool) → is_some m ≡ b → or_first (cond b (option_map (heir_slot owner) m) None) None ≡ option_map (heir_slot owner) m
    whole None true e = refl
    whole None false e = refl
    whole (Some x) true e = refl
    whole (Some x) false e = cc

    all : (t : Text)
        → or_first (cond (has_name (map fold_case (names_on w (ancestors w o))) t) (option_map (heir_slot owner) (named (slots_at (object_at w o)) t)) None) None
        ≡ option_map (heir_slot owner) (named (slots_at (object_at w o)) t)
    all t =
        whole (named (slots_at (object_at w o)) t) (has_name (map fold_case (names_on w (ancestors w o))) t)
        (slots_above w house o way.0 way.1 t ∙ ap (λ os. has_name (defined_on w os) t) (sym (ancestors_of w o way.0 sound.numbers way.1))
        ∙ ap (λ ts. has_name ts t) (sym (names_are w (ancestors w o))))

-- ---- the new world

numbered : (w : World) → ObjectsAgree w → (n : ℤ) → w.greatest +ℤ pos 1 ≡ n → int_le n (pos 999999) ≡ true → is_number n ≡ true
numbered w sound n next room =
    both_hold (int_le (pos 0) n) (int_le n (pos 999999)) (subst (λ k. IsTrue (int_le (pos 0) k)) next (above w.greatest (first_holds (int_le (neg_ℤ (pos 1)) w.greatest) _ sound.greatest_in_range))) room
  where
    above : (g : ℤ) → IsTrue (int_le (neg_ℤ (pos 1)) g) → IsTrue (int_le (pos 0) (g +ℤ pos 1))
    above (pos g) h = leb-zero (g + 1)
    above (negsuc zero) h = refl
    above (negsuc (suc g)) h = let le : suc g ≤ 0 = leb-true (suc g) 0 h in absurd (omega (arith, le))

pub made_told : {V A E : Type 0} (holds : V → World → Type 0) (now : V → World → World) (a b c d e : V) (r : Result A E) (parent owner n : ℤ) (ss : Named Slot) (x : Object)
    → AreAgreeing holds now a → ((w : World) → holds a w → IsNext (now a w) (Some n)) → Tells holds now a b (λ w. ss ≡ heir_slots owner (slots_at (object_at w parent)))
    → x ≡ child_with parent owner ss → Goes holds now b c (λ was is. is ≡ apply (new_greatest n) was) → Goes holds now c d (λ was is. is ≡ apply (new_object n (Some x)) was)
    → OnOk r (Goes holds now d e (λ was is. is ≡ add_child was parent n)) → OnOk r (Goes holds now a e (λ was is. is ≡ created was parent owner))
unfolding created
made_told holds now a b c d e (Err y) parent owner n ss x known next slots child first second third = tt
made_told holds now a b c d e (Ok y) parent owner n ss x known next slots child first second third = λ w left.
    let t = third w left in
    let u = second w t.0 in
    let v = first w u.0 in
    let s = slots w v.0 in
    let k = next w s.0 in
    let made : x ≡ child_with parent owner (heir_slots owner (slots_at (object_at (now a w) parent))) = child ∙ ap (child_with parent owner) s.1.1 in
    let greater : now c w ≡ record (now a w) { greatest = n } = v.1 ∙ ap (λ (z : World). record z { greatest = n }) s.1.0 in
    let put : now d w ≡ with_object (record (now a w) { greatest = n }) n x =
    u.1 ∙ ap (λ (z : World). apply (new_object n (Some x)) z) greater
    ∙ ap (λ b. record (record (now a w) { greatest = n }) { objects = if b then with (now a w).objects n x else (now a w).objects }) (numbered (now a w) (known w s.0).objects n k.0 k.1)
    in (
      s.0,
      t.1 ∙ ap (λ z. add_child z parent n) put ∙ (λ i. add_child (with_object (record (now a w) { greatest = n }) n (made i)) parent n)
          ∙ (λ i. add_child (with_object (record (now a w) { greatest = sym k.0 i }) (sym k.0 i) (child_with parent owner (heir_slots owner (slots_at (object_at (now a w) parent))))) parent (sym k.0 i)),
    )

-- it is well formed
pub made_well : {V A E : Type 0} (holds : V → World → Type 0) (now : V → World → World) (a e : V) (r : Result A E) (parent owner n : ℤ) → AreAgreeing holds now a
    → ((w : World) → holds a w → IsPlace (now a w) parent) → ((w : World) → holds a w → IsNext (now a w) (Some n))
    → OnOk r (Goes holds now a e (λ was is. is ≡ created was parent owner)) → OnOk r (AreAgreeing holds now e)
made_well holds now a e (Err y) parent owner n known place next told = tt
made_well holds now a e (Ok y) parent owner n known place next told = λ w left.
    let t = told w left in
    let h = known w t.0 in
    let k = next w t.0 in
    let room : IsTrue (int_le (next_object (now a w)) (pos 999999)) = ap (λ z. int_le z (pos 999999)) k.0 ∙ k.1 in
    subst IsStanding (sym t.1) (created_stands (now a w) parent owner h room (place w t.0))
