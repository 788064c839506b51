-- Lists that grow step by step along a line.
use Rattle.std.proofs.Common.{◌≡◌, ℕ, ◌+◌, ◌<◌, suc, ℤ, pos, List, [], ◌∷◌, ◌++◌, length, drop, get_or, false, ◌||◌, Option, Some, None, refl, sym, ap, ◌∙◌, subst, arith}
use Rattle.std.proofs.Math.Seq.{drop-cons}
use Rattle.spec_value.specs.Datum.{Text}
use Rattle.spec_world.specs.World.{World, Slot}
use Rattle.spec_world.specs.Inherit.{slot_at}
use Rattle.spec_world.specs.Questions.{defines_at}
use Rattle.view.specs.Law.{Tells}
use Rattle.builtins_view.specs.Along.{given, names_on, with_found, slots_of}
use Rattle.builtins_view.specs.Clashes.{any_slot, any_clashes}

grouped : {X : Type 0} (xs ys zs : List X) → (xs ++ ys) ++ zs ≡ xs ++ (ys ++ zs)
grouped [] ys zs = refl
grouped (x ∷ xs) ys zs = ap (λ us. x ∷ us) (grouped xs ys zs)

after : {X : Type 0} (xs : List X) (i : ℕ) (d : X) → i < length xs → drop i xs ≡ get_or xs i d ∷ drop (i + 1) xs
after xs i d h = let e : suc i ≡ i + 1 = omega arith in drop-cons xs i d h ∙ ap (λ j. get_or xs i d ∷ drop j xs) e

pub names_step : (w : World) (line : List ℤ) (i : ℕ) (ts us : List Text) → i < length line → ts ++ names_on w (drop i line) ≡ names_on w line
    → us ≡ ts ++ given (defines_at w (get_or line i (pos 0))) → us ++ names_on w (drop (i + 1) line) ≡ names_on w line
names_step w line i ts us h so grown =
    ap (λ vs. vs ++ names_on w (drop (i + 1) line)) grown ∙ grouped ts (given (defines_at w (get_or line i (pos 0)))) (names_on w (drop (i + 1) line))
    ∙ ap (λ os. ts ++ names_on w os) (sym (after line i (pos 0) h)) ∙ so

found_on : (p : Text) (m : Option Slot) (es fs : List (Text × Slot)) → (es ++ with_found p m []) ++ fs ≡ es ++ with_found p m fs
found_on p None es fs = grouped es [] fs
found_on p (Some s) es fs = grouped es ((p, s) ∷ []) fs

pub slots_step : (w : World) (o : ℤ) (names : List Text) (i : ℕ) (es fs : List (Text × Slot)) → i < length names → es ++ slots_of w o (drop i names) ≡ slots_of w o names
    → fs ≡ es ++ with_found (get_or names i []) (slot_at w o (get_or names i [])) [] → fs ++ slots_of w o (drop (i + 1) names) ≡ slots_of w o names
slots_step w o names i es fs h so grown =
    ap (λ gs. gs ++ slots_of w o (drop (i + 1) names)) grown ∙ found_on (get_or names i []) (slot_at w o (get_or names i [])) es (slots_of w o (drop (i + 1) names))
    ∙ ap (λ ps. es ++ slots_of w o ps) (sym (after names i [] h)) ∙ so

pub clashes_step : (w : World) (o : ℤ) (ds : List ℤ) (i : ℕ) → i < length ds → any_clashes w o (drop i ds) ≡ any_clashes w o ds
    → any_slot w o (defines_at w (get_or ds i (pos 0))) ≡ false → any_clashes w o (drop (i + 1) ds) ≡ any_clashes w o ds
clashes_step w o ds i h so none = ap (λ b. b || any_clashes w o (drop (i + 1) ds)) (sym none) ∙ ap (any_clashes w o) (sym (after ds i (pos 0) h)) ∙ so

-- what two calls tell, whatever the worlds are
pub both_told : {V : Type 0} (holds : V → World → Type 0) (now : V → World → World) (a b c : V) (P Q R : World → Type 0) → Tells holds now a b P → Tells holds now b c Q
    → ((w : World) → P w → Q w → R w) → Tells holds now a c R
both_told holds now a b c P Q R first second so w left =
    let s = second w left in
    let f = first w s.0 in
    (f.0, (s.1.0 ∙ f.1.0, so (now a w) f.1.1 (subst Q f.1.0 s.1.1)))
