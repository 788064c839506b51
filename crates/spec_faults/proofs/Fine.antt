-- Lines that are as they are awaited, one after another, have no fault.
use Rattle.std.proofs.Common.{◌≡◌, ℕ, zero, suc, List, [], ◌∷◌, ◌++◌, length, None, refl, ap, ◌∙◌}
use Rattle.spec_value.specs.Datum.{Text}
use Rattle.spec_faults.specs.Awaited.{Awaited, one, again, Group, group, goes_on, told, opened}
use Rattle.spec_faults.specs.Forms.{Wanted}
use Rattle.spec_faults.specs.Faults.{at_last, at_line, behind_line, fault_among}

-- to the end of the text
abbrev pub Fine : List Text → List Awaited → Type 0
Fine ts awaited = (n : ℕ) → fault_among ts [] n awaited ≡ None

-- whatever stands in front, what comes first of it is the same
pub fine_same : (a b : List Awaited) (ts : List Text) → opened a ≡ opened b → Fine ts b → Fine ts a
fine_same a b [] e f n = ap (λ o. at_last o [] n) e ∙ f n
fine_same a b (t ∷ ts) e f n = ap (λ o. at_line o t n (λ more. fault_among ts [] (suc n) more)) e ∙ f n

pub fine_line : (a : Awaited) (awaited more : List Awaited) (t : Text) (ts : List Text) → opened (a ∷ more) ≡ a ∷ more → told a t ≡ goes_on awaited → Fine ts (awaited ++ more)
    → Fine (t ∷ ts) (a ∷ more)
fine_line a awaited more t ts o e f n =
    ap (λ x. at_line x t n (λ m. fault_among ts [] (suc n) m)) o ∙ ap (λ v. behind_line v more n (λ m. fault_among ts [] (suc n) m)) e ∙ f (suc n)

-- ---- groups of one line

abbrev pub AllTold : List Wanted → List Text → Type 0
AllTold ws [] = Unit {0}
AllTold ws (t ∷ ts) = (told (one ws) t ≡ goes_on []) × AllTold ws ts

pub told_then : (ws : List Wanted) (ts us : List Text) → AllTold ws ts → AllTold ws us → AllTold ws (ts ++ us)
told_then ws [] us h k = k
told_then ws (t ∷ ts) us h k = (h.0, told_then ws ts us h.1 k)

pub fine_group : (g : Group) (ws : List Wanted) → group g ≡ one ws ∷ [] → (ts us : List Text) (more : List Awaited) → AllTold ws ts → Fine us more
    → Fine (ts ++ us) (again (length ts) g ∷ more)
fine_group g ws e [] us more h f = fine_same (again zero g ∷ more) more us refl f
fine_group g ws e (t ∷ ts) us more h f =
    fine_same (again (suc (length ts)) g ∷ more) (one ws ∷ again (length ts) g ∷ more) (t ∷ (ts ++ us)) (ap (λ a. a ++ again (length ts) g ∷ more) e)
    (fine_line (one ws) [] (again (length ts) g ∷ more) t (ts ++ us) refl h.0 (fine_group g ws e ts us more h.1 f))
