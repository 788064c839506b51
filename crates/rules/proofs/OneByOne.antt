-- Objects that are changed one after the other.
use Rattle.std.proofs.Common.{◌≡◌, ◌⊎◌, inl, inr, ℤ, Bool, true, false, not, ◌||◌, List, [], ◌∷◌, filter, Option, Some, None, refl, sym, ap, ◌∙◌, subst, cond, IsTrue, int_cmp, Result, Ok, Err, OnOk}
use Rattle.std.specs.Prelude.{option_map}
use Rattle.std.specs.Ordering.{int_eq}
use Rattle.std.specs.Cmp.{int_cmp_total}
use Rattle.std.specs.FinMap.{int_cmp-IsAntisymmetric}
use Rattle.std.specs.FinMap.Entries.{same_entries}
use Rattle.spec_value.specs.Datum.{Text, fold_case, same_text}
use Rattle.spec_value.specs.Table.{Numbered, at, is_numbered}
use Rattle.spec_value.proofs.Keys.{as_type}
use Rattle.spec_value.proofs.Same.{integer_itself}
use Rattle.spec_world.specs.World.{World, Object, object_at}
use Rattle.spec_world.specs.WellFormed.{lists}
use Rattle.spec_world.specs.Families.{change_at, change_object}
use Rattle.spec_world.specs.Questions.{Part, apply, new_part, new_slot}
use Rattle.spec_world.proofs.Trees.{same_or_not}
use Rattle.spec_world.proofs.Households.{change_numbered}
use Rattle.spec_world.proofs.ObjectChanges.{at_change}
use Rattle.view.specs.Law.{Goes}
use Rattle.rules.specs.InTurn.{in_turn}
use Rattle.rules.specs.Losing.{losing}

-- ---- one after the other

pub at_in_turn : (f : ℤ → Object → Object) → ((d : ℤ) (x : Object) → f d (f d x) ≡ f d x) → (ds : List ℤ) (w : World) (q : ℤ)
    → object_at (in_turn f ds w) q ≡ option_map (λ x. cond (lists ds q) (f q x) x) (object_at w q)
at_in_turn f again [] w q = go (object_at w q)
  where
    go : (m : Option Object) → m ≡ option_map (λ x. x) m
    go None = refl
    go (Some x) = refl
at_in_turn f again (d ∷ ds) w q =
    at_in_turn f again ds (change_object w d (f d)) q ∙ ap (option_map (λ x. cond (lists ds q) (f q x) x)) (at_change w d q (f d)) ∙ go (object_at w q) (same_or_not q d)
  where
    both : (b : Bool) (m : Option Object) → option_map (λ x. cond b (f q x) x) (option_map (λ y. f q y) m) ≡ option_map (λ x. f q x) m
    both b None = refl
    both true (Some y) = ap Some (again q y)
    both false (Some y) = refl

    alone : (b : Bool) (m : Option Object) → option_map (λ x. cond b (f q x) x) (option_map (λ y. y) m) ≡ option_map (λ x. cond b (f q x) x) m
    alone b None = refl
    alone b (Some y) = refl

    go : (m : Option Object) → (q ≡ d) ⊎ (int_eq q d ≡ false)
        → option_map (λ x. cond (lists ds q) (f q x) x) (option_map (λ y. cond (int_eq q d) (f d y) y) m) ≡ option_map (λ x. cond (int_eq q d || lists ds q) (f q x) x) m
    go m (inl e) =
        let here : int_eq q d ≡ true = subst (λ z. int_eq q z ≡ true) e (integer_itself q) in
        ap (λ b. option_map (λ x. cond (lists ds q) (f q x) x) (option_map (λ y. cond b (f d y) y) m)) here
        ∙ ap (λ z. option_map (λ x. cond (lists ds q) (f q x) x) (option_map (λ y. f z y) m)) (sym e)
        ∙ both (lists ds q) m ∙ ap (λ b. option_map (λ x. cond (b || lists ds q) (f q x) x) m) (sym here)
    go m (inr e) =
        ap (λ b. option_map (λ x. cond (lists ds q) (f q x) x) (option_map (λ y. cond b (f d y) y) m)) e
        ∙ alone (lists ds q) m ∙ ap (λ b. option_map (λ x. cond (b || lists ds q) (f q x) x) m) (sym e)

pub in_turn_numbered : (f : ℤ → Object → Object) (ds : List ℤ) (w : World) → IsTrue (is_numbered w.objects) → IsTrue (is_numbered (in_turn f ds w).objects)
in_turn_numbered f [] w h = h
in_turn_numbered f (d ∷ ds) w h = in_turn_numbered f ds (change_object w d (f d)) (change_numbered w d (f d) h)

pub one_alone : (w : World) (d : ℤ) (f : Object → Object) → change_object w d f ≡ record w { objects = (change_object w d f).objects }
one_alone w d f = go (object_at w d)
  where
    go : (m : Option Object) → change_at w d f m ≡ record w { objects = (change_at w d f m).objects }
    go None = refl
    go (Some x) = refl

pub objects_alone : (f : ℤ → Object → Object) (ds : List ℤ) (w : World) → in_turn f ds w ≡ record w { objects = (in_turn f ds w).objects }
objects_alone f [] w = refl
objects_alone f (d ∷ ds) w =
    objects_alone f ds (change_object w d (f d)) ∙ ap (λ (u : World). record u { objects = (in_turn f ds (change_object w d (f d))).objects }) (one_alone w d (f d))

pub same_tables : (es fs : Numbered Object) → IsTrue (is_numbered es) → IsTrue (is_numbered fs) → ((q : ℤ) → at es q ≡ at fs q) → es ≡ fs
same_tables es fs g h is = same_entries int_cmp int_cmp_total int_cmp-IsAntisymmetric es fs (as_type _ g) (as_type _ h) is

-- ---- to lose a slot

filtered_twice : {X : Type 0} (test : X → Bool) (xs : List X) → filter test (filter test xs) ≡ filter test xs
filtered_twice test [] = refl
filtered_twice test (x ∷ xs) = go (filtered_twice test xs) (test x) refl
  where
    go : filter test (filter test xs) ≡ filter test xs → (b : Bool) → test x ≡ b
        → filter test (cond b (x ∷ filter test xs) (filter test xs)) ≡ cond b (x ∷ filter test xs) (filter test xs)
    go rest true e = ap (λ c. cond c (x ∷ filter test (filter test xs)) (filter test (filter test xs))) e ∙ ap (λ ys. x ∷ ys) rest
    go rest false e = rest

pub losing_again : (p : Text) (d : ℤ) (x : Object) → losing p d (losing p d x) ≡ losing p d x
losing_again p d x = ap (λ ss. record x { slots = ss }) (filtered_twice (λ e. not (same_text (fold_case p) e.0)) x.slots)

pub lost_told : {V A E : Type 0} (holds : V → World → Type 0) (now : V → World → World) (old new : V) (r : Result A E) (d : ℤ) (p : Text) (a : Part) → a ≡ new_slot p None
    → OnOk r (Goes holds now old new (λ before after. after ≡ apply (new_part d a) before)) → OnOk r (Goes holds now old new (λ before after. after ≡ change_object before d (losing p d)))
lost_told holds now old new (Err e) d p a is told = tt
lost_told holds now old new (Ok x) d p a is told = λ w left. let t = told w left in (t.0, t.1 ∙ ap (λ b. apply (new_part d b) (now old w)) is)
