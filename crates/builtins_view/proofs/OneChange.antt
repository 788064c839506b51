-- Objects that are changed one after the other are changed at once.
use Rattle.std.proofs.Common.{◌≡◌, ◌⊎◌, inl, inr, ℤ, Bool, true, false, List, Option, Some, None, refl, sym, ap, ◌∙◌, subst, cond, IsTrue, is_some, Result, Ok, Err, OnOk}
use Rattle.std.specs.Prelude.{option_map}
use Rattle.std.specs.Ordering.{int_eq}
use Rattle.spec_value.specs.Datum.{Text}
use Rattle.spec_value.proofs.Same.{integer_itself}
use Rattle.spec_world.specs.World.{World, Object, object_at}
use Rattle.spec_world.specs.WellFormed.{lists}
use Rattle.spec_world.specs.Agreeing.{ObjectsAgree}
use Rattle.spec_world.specs.Families.{change_at, change_object, change_each, is_below}
use Rattle.spec_world.specs.Questions.{defines_at, apply, new_part, new_defines}
use Rattle.spec_world.proofs.Trees.{same_or_not, some_same}
use Rattle.spec_world.proofs.Households.{at_each, each_numbered, change_numbered}
use Rattle.spec_world.proofs.ObjectChanges.{at_change}
use Rattle.view.specs.Law.{Goes}
use Rattle.rules.specs.Below.{IsFamily}
use Rattle.rules.proofs.Walking.{below_itself}
use Rattle.rules.specs.InTurn.{in_turn}
use Rattle.rules.proofs.OneByOne.{at_in_turn, in_turn_numbered, one_alone, objects_alone, same_tables}

-- ---- an object defines other properties, and it and each below it are changed

-- at once: the object by `first`, each below by `each`
abbrev pub family_changed : World → ℤ → (List Text → List Text) → (Object → Object) → (ℤ → Object → Object) → World
family_changed w o names first each =
    change_each w (λ d x. cond (int_eq d o) (first (record x { defines = names x.defines })) (cond (is_below w o d) (each d x) x))

module _ (w : World) (sound : ObjectsAgree w) (o : ℤ) (ds : List ℤ) (all : IsFamily w o ds) (ts : List Text) (is : defines_at w o ≡ Some ts) (names : List Text → List Text)
    (f : ℤ → Object → Object) (first : Object → Object) (each : ℤ → Object → Object) (again : (d : ℤ) (x : Object) → f d (f d x) ≡ f d x)
    (at_first : (x : Object) → f o x ≡ first x) (at_each_other : (d : ℤ) (x : Object) → int_eq d o ≡ false → f d x ≡ each d x) where
  abbrev renamed : Object → Object
  renamed x = record x { defines = names x.defines }

  abbrev changed : ℤ → Object → Object
  changed d x = cond (int_eq d o) (first (renamed x)) (cond (is_below w o d) (each d x) x)

  abbrev begun : World
  begun = change_object w o renamed

  there : IsTrue (is_some (object_at w o))
  there = go (object_at w o) is
    where
      go : (m : Option Object) → option_map (λ x. x.defines) m ≡ Some ts → IsTrue (is_some m)
      go None e = cc
      go (Some x) e = refl

  at_all : (q : ℤ) → object_at (in_turn f ds begun) q ≡ object_at (change_each w changed) q
  at_all q =
      at_in_turn f again ds begun q
      ∙ ap (option_map (λ x. cond (lists ds q) (f q x) x)) (at_change w o q renamed)
      ∙ go (object_at w q) (same_or_not q o) ∙ sym (at_each w q changed)
    where
      here : (m : Option Object) (a b : Bool) → a ≡ true → b ≡ true → q ≡ o
          → option_map (λ x. cond b (f q x) x) (option_map (λ x. cond a (renamed x) x) m)
          ≡ option_map (λ x. cond a (first (renamed x)) (cond b (each q x) x)) m
      here None a b h k e = refl
      here (Some x) true true h k e = ap Some (ap (λ z. f z (renamed x)) e ∙ at_first (renamed x))
      here (Some x) true false h k e = cc
      here (Some x) false b h k e = cc

      elsewhere : (m : Option Object) (b : Bool) → int_eq q o ≡ false
          → option_map (λ x. cond b (f q x) x) (option_map (λ x. x) m) ≡ option_map (λ x. cond b (each q x) x) m
      elsewhere None b h = refl
      elsewhere (Some x) true h = ap Some (at_each_other q x h)
      elsewhere (Some x) false h = refl

      go : (m : Option Object) → (q ≡ o) ⊎ (int_eq q o ≡ false)
          → option_map (λ x. cond (lists ds q) (f q x) x) (option_map (λ x. cond (int_eq q o) (renamed x) x) m) ≡ option_map (changed q) m
      go m (inl e) =
          ap (λ b. option_map (λ x. cond b (f q x) x) (option_map (λ x. cond (int_eq q o) (renamed x) x) m)) (all q)
          ∙ here m (int_eq q o) (is_below w o q) (subst (λ z. int_eq q z ≡ true) e (integer_itself q)) (subst (λ z. is_below w o z ≡ true) (sym e) (below_itself w sound o there)) e
      go m (inr e) =
          ap (λ b. option_map (λ x. cond b (f q x) x) (option_map (λ x. cond (int_eq q o) (renamed x) x) m)) (all q)
          ∙ ap (λ b. option_map (λ x. cond (is_below w o q) (f q x) x) (option_map (λ x. cond b (renamed x) x) m)) e
          ∙ elsewhere m (is_below w o q) e
          ∙ ap (λ b. option_map (λ x. cond b (first (renamed x)) (cond (is_below w o q) (each q x) x)) m) (sym e)

  changed_in_turn : in_turn f ds begun ≡ change_each w changed
  changed_in_turn =
      objects_alone f ds begun
      ∙ ap (λ (u : World). record u { objects = (in_turn f ds begun).objects }) (one_alone w o renamed)
      ∙ ap (λ es. record w { objects = es })
      (same_tables (in_turn f ds begun).objects (change_each w changed).objects
      (in_turn_numbered f ds begun (change_numbered w o renamed sound.objects_in_order))
      (each_numbered changed w.objects sound.objects_in_order) at_all)

  others_so : (us : List Text) → us ≡ names ts → change_object w o (λ x. record x { defines = us }) ≡ begun
  others_so us so = go (object_at w o) is
    where
      go : (m : Option Object) → option_map (λ x. x.defines) m ≡ Some ts → change_at w o (λ x. record x { defines = us }) m ≡ change_at w o renamed m
      go None e = refl
      go (Some x) e =
          let same : us ≡ names x.defines = so ∙ ap names (sym (some_same e)) in
          ap (λ vs. change_at w o (λ y. record y { defines = vs }) (Some x)) same

  pub changed_so : (us : List Text) → us ≡ names ts → in_turn f ds (change_object w o (λ x. record x { defines = us })) ≡ family_changed w o names first each
  changed_so us so = ap (in_turn f ds) (others_so us so) ∙ changed_in_turn

-- ---- over a view: the object defines others, and then each is changed

pub family_told : {V A E : Type 0} (holds : V → World → Type 0) (now : V → World → World) (a b c : V) (r : Result A E) (o : ℤ) (ds : List ℤ) (ts us : List Text) (names : List Text → List Text)
    (f : ℤ → Object → Object) (first : Object → Object) (each : ℤ → Object → Object) → ((d : ℤ) (x : Object) → f d (f d x) ≡ f d x) → ((x : Object) → f o x ≡ first x)
    → ((d : ℤ) (x : Object) → int_eq d o ≡ false → f d x ≡ each d x) → us ≡ names ts
    → Goes holds now a b (λ before after. after ≡ apply (new_part o (new_defines us)) before)
    → OnOk r (Goes holds now b c (λ before after. after ≡ in_turn f ds before))
    → OnOk r (Goes holds now a c (λ before after. ObjectsAgree before → IsFamily before o ds → defines_at before o ≡ Some ts → after ≡ family_changed before o names first each))
family_told holds now a b c (Err e) o ds ts us names f first each again one other so named done = tt
family_told holds now a b c (Ok x) o ds ts us names f first each again one other so named done = λ w left.
    let u = done w left in
    let t = named w u.0 in
    (t.0, λ sound family is. u.1 ∙ ap (in_turn f ds) t.1 ∙ changed_so (now a w) sound o ds family ts is names f first each again one other us so)
