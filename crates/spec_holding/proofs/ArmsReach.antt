-- The codes of handlers, one part after another: a handler's codes so far stand behind those of the handlers before it.
use Rattle.std.proofs.Common.{◌≡◌, ℕ, zero, suc, List, [], ◌∷◌, ◌++◌, drop, Option, Some, IsTrue, refl, sym, ap, subst, ◌∙◌, append_assoc}
use Rattle.spec_value.specs.Datum.{Datum}
use Rattle.spec_program.specs.Tree.{Expr, Arguments, no_arguments, argument, splice, any_code, codes_in, Program, Arms, no_arms, except}
use Rattle.spec_program.specs.Construct.{Construct, of_expr, of_program}
use Rattle.spec_program.specs.Place.{Kind, any_list, code_list, all_codes, Part, part, nth, argument_parts, arm_kinds, arm_parts}
use Rattle.spec_world.specs.WellFormed.{held_fits}
use Rattle.spec_moo.specs.Held.{Way, beside, listed, spliced, nth_way, argument_ways, arm_ways, held_with}
use Rattle.spec_moo.specs.Effects.Handlers.{ArmPoint, one_code, last_code, one_program, code_points, arm_points, nth_point}
use Rattle.spec_holding.proofs.HeldValues.{same_some, Fit, list_fits, as_codes}

-- behind the codes of these arms: the codes of those before them and theirs fit, and so many parts stand before the next codes
pub record Behind (before : List Kind) (arms : Arms) (n : ℕ) (vs : List Datum) (later : Arms) : Type 0 where
  pub known : List Kind
  pub fits : Fit known vs
  pub rest : drop n (arm_parts before arms) ≡ arm_parts known later
  pub kinds : before ++ arm_kinds arms ≡ known ++ arm_kinds later

-- what the next part or the step wants after the n-th part
abbrev pub AfterCode : List Kind → Arms → ℕ → List Datum → ArmPoint → Type 0
AfterCode before arms n vs one_code = (y : Part) (around : ℕ) → nth (arm_parts before arms) (suc n) ≡ Some y → IsTrue (held_fits around y.held vs)
AfterCode before arms n vs (last_code later) = Behind before arms (suc (suc n)) vs later
AfterCode before arms n vs one_program = Unit {0}

-- the parts of a handler that is begun, from some of its codes on
abbrev handler_parts : List Kind → Arguments → Program → Arms → List Part
handler_parts before es p later = argument_parts (before ++ any_list ∷ []) es ++ part (of_program p) [] ∷ arm_parts (before ++ code_list ∷ []) later

abbrev handler_ways : Arguments → Arms → List Way
handler_ways es later = argument_ways es ++ beside ∷ arm_ways later

abbrev handler_points : Arguments → Arms → List ArmPoint
handler_points es later = code_points es later ++ one_program ∷ arm_points later

abbrev AfterOne : List Kind → Arguments → Program → Arms → ℕ → List Datum → ArmPoint → Type 0
AfterOne before es p later n vs one_code = (y : Part) (around : ℕ) → nth (handler_parts before es p later) (suc n) ≡ Some y → IsTrue (held_fits around y.held vs)
AfterOne before es p later n vs (last_code more) =
    (known : List Kind) × Fit known vs × (drop (suc (suc n)) (handler_parts before es p later) ≡ arm_parts known more)
    × (before ++ code_list ∷ arm_kinds later ≡ known ++ arm_kinds more)
AfterOne before es p later n vs one_program = Unit {0}

-- ---- one code

pub begun : (around : ℕ) (c : Construct) (ks : List Kind) (x : Part) (hs : List Datum) → Some (part c ks) ≡ Some x → IsTrue (held_fits around x.held hs) → Fit ks hs
begun around c ks x hs e h = subst (λ (y : Part). IsTrue (held_fits around y.held hs)) (sym (same_some _ x e)) h

pub next_begun : (c : Construct) (ks : List Kind) (vs : List Datum) → Fit ks vs → (y : Part) (around : ℕ) → Some (part c ks) ≡ Some y → IsTrue (held_fits around y.held vs)
next_begun c ks vs h y around e = subst (λ (z : Part). IsTrue (held_fits around z.held vs)) (same_some _ y e) h

all_known : (before : List Kind) (p : Program) (later : Arms) (vs : List Datum) → Fit (before ++ any_list ∷ []) vs
    → (known : List Kind) × Fit known vs × (arm_parts (before ++ code_list ∷ []) later ≡ arm_parts known later)
    × (before ++ code_list ∷ arm_kinds later ≡ known ++ arm_kinds later)
all_known before p later vs h =
    (before ++ code_list ∷ [], as_codes before vs h, refl, sym (append_assoc before (code_list ∷ []) (arm_kinds later)))

-- ---- the parts behind a handler's codes

abbrev Onward : List Kind → Arms → Type 0
Onward before arms =
    (around n : ℕ) (x : Part) (hs vs : List Datum) (v : Datum)
    → nth (arm_parts before arms) n ≡ Some x → IsTrue (held_fits around x.held hs) → held_with (nth_way (arm_ways arms) n) hs v ≡ Some vs
    → AfterCode before arms n vs (nth_point (arm_points arms) n)

-- one part later
later_point : (before : List Kind) (es : Arguments) (p : Program) (later : Arms) (q : Part) (n : ℕ) (vs : List Datum) (a : ArmPoint)
    → AfterCode (before ++ code_list ∷ []) later n vs a → AfterOne before no_arguments p later (suc n) vs a
later_point before es p later q n vs one_code h = h
later_point before es p later q n vs (last_code more) h =
    (h.known, h.fits, h.rest, sym (append_assoc before (code_list ∷ []) (arm_kinds later)) ∙ h.kinds)
later_point before es p later q n vs one_program h = tt

more_point : (before : List Kind) (a : Expr) (es fs : Arguments) (p : Program) (later : Arms) (n : ℕ) (vs : List Datum) (x : ArmPoint)
    → argument_parts (before ++ any_list ∷ []) fs ≡ part (of_expr a) (before ++ any_list ∷ []) ∷ argument_parts (before ++ any_list ∷ []) es
    → AfterOne before es p later n vs x → AfterOne before fs p later (suc n) vs x
more_point before a es fs p later n vs one_code i h =
    λ y around e. h y around (subst (λ zs. nth (zs ++ part (of_program p) [] ∷ arm_parts (before ++ code_list ∷ []) later) (suc (suc n)) ≡ Some y) i e)
more_point before a es fs p later n vs (last_code more) i h =
    (h.0, h.1, ap (λ zs. drop (suc (suc (suc n))) (zs ++ part (of_program p) [] ∷ arm_parts (before ++ code_list ∷ []) later)) i ∙ h.2, h.3)
more_point before a es fs p later n vs one_program i h = tt

-- of a handler with codes
codes_reach : (before : List Kind) (es : Arguments) (p : Program) (later : Arms) → Onward (before ++ code_list ∷ []) later
    → (around n : ℕ) (x : Part) (hs vs : List Datum) (v : Datum)
    → nth (handler_parts before es p later) n ≡ Some x → IsTrue (held_fits around x.held hs) → held_with (nth_way (handler_ways es later) n) hs v ≡ Some vs
    → AfterOne before es p later n vs (nth_point (handler_points es later) n)
codes_reach before no_arguments p later onward around zero x hs vs v e h k = tt
codes_reach before no_arguments p later onward around (suc n) x hs vs v e h k =
    later_point before no_arguments p later x n vs _ (onward around n x hs vs v e h k)
codes_reach before (argument a no_arguments) p later onward around zero x hs vs v e h k =
    all_known before p later vs (list_fits listed before hs vs v refl (begun around (of_expr a) _ x hs e h) k)
codes_reach before (splice a no_arguments) p later onward around zero x hs vs v e h k =
    all_known before p later vs (list_fits spliced before hs vs v refl (begun around (of_expr a) _ x hs e h) k)
codes_reach before (argument a (argument b es)) p later onward around zero x hs vs v e h k =
    next_begun (of_expr b) _ vs (list_fits listed before hs vs v refl (begun around (of_expr a) _ x hs e h) k)
codes_reach before (argument a (splice b es)) p later onward around zero x hs vs v e h k =
    next_begun (of_expr b) _ vs (list_fits listed before hs vs v refl (begun around (of_expr a) _ x hs e h) k)
codes_reach before (splice a (argument b es)) p later onward around zero x hs vs v e h k =
    next_begun (of_expr b) _ vs (list_fits spliced before hs vs v refl (begun around (of_expr a) _ x hs e h) k)
codes_reach before (splice a (splice b es)) p later onward around zero x hs vs v e h k =
    next_begun (of_expr b) _ vs (list_fits spliced before hs vs v refl (begun around (of_expr a) _ x hs e h) k)
codes_reach before (argument a no_arguments) p later onward around (suc n) x hs vs v e h k =
    more_point before a no_arguments (argument a no_arguments) p later n vs _ refl (codes_reach before no_arguments p later onward around n x hs vs v e h k)
codes_reach before (splice a no_arguments) p later onward around (suc n) x hs vs v e h k =
    more_point before a no_arguments (splice a no_arguments) p later n vs _ refl (codes_reach before no_arguments p later onward around n x hs vs v e h k)
codes_reach before (argument a (argument b es)) p later onward around (suc n) x hs vs v e h k =
    more_point before a (argument b es) (argument a (argument b es)) p later n vs _ refl (codes_reach before (argument b es) p later onward around n x hs vs v e h k)
codes_reach before (argument a (splice b es)) p later onward around (suc n) x hs vs v e h k =
    more_point before a (splice b es) (argument a (splice b es)) p later n vs _ refl (codes_reach before (splice b es) p later onward around n x hs vs v e h k)
codes_reach before (splice a (argument b es)) p later onward around (suc n) x hs vs v e h k =
    more_point before a (argument b es) (splice a (argument b es)) p later n vs _ refl (codes_reach before (argument b es) p later onward around n x hs vs v e h k)
codes_reach before (splice a (splice b es)) p later onward around (suc n) x hs vs v e h k =
    more_point before a (splice b es) (splice a (splice b es)) p later n vs _ refl (codes_reach before (splice b es) p later onward around n x hs vs v e h k)

-- ---- all handlers

as_arms : (before : List Kind) (y : Option (List ℕ)) (es : Arguments) (p : Program) (later : Arms) (n : ℕ) (vs : List Datum) (a : ArmPoint)
    → AfterOne before es p later n vs a → AfterCode before (except y (codes_in es) p later) n vs a
as_arms before y es p later n vs one_code h = h
as_arms before y es p later n vs (last_code more) h = record { known = h.0; fits = h.1; rest = h.2; kinds = h.3 }
as_arms before y es p later n vs one_program h = tt

uncoded : (before : List Kind) (y : Option (List ℕ)) (p : Program) (later : Arms) (n : ℕ) (vs : List Datum) (a : ArmPoint)
    → AfterCode (before ++ all_codes ∷ []) later n vs a → AfterCode before (except y any_code p later) (suc n) vs a
uncoded before y p later n vs one_code h = h
uncoded before y p later n vs (last_code more) h =
    record { known = h.known; fits = h.fits; rest = h.rest; kinds = sym (append_assoc before (all_codes ∷ []) (arm_kinds later)) ∙ h.kinds }
uncoded before y p later n vs one_program h = tt

pub arms_reach : (before : List Kind) (arms : Arms) → Onward before arms
arms_reach before no_arms around n x hs vs v e h k = cc
arms_reach before (except y any_code p later) around zero x hs vs v e h k = tt
arms_reach before (except y any_code p later) around (suc n) x hs vs v e h k =
    uncoded before y p later n vs _ (arms_reach (before ++ all_codes ∷ []) later around n x hs vs v e h k)
arms_reach before (except y (codes_in es) p later) around n x hs vs v e h k =
    as_arms before y es p later n vs _ (codes_reach before es p later (arms_reach (before ++ code_list ∷ []) later) around n x hs vs v e h k)
