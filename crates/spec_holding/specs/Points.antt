-- What a construct has to hold where so many of its parts are done, so that its next part or its step finds what it wants.
use Rattle.std.specs.Prelude.{◌≡◌, ℕ, zero, suc, List, [], ◌∷◌, ◌++◌, length, drop, Bool, true, false, Option, Some, None, IsTrue}
use Rattle.spec_value.specs.Datum.{Datum}
use Rattle.spec_program.specs.Tree.{Expr, caught, Target, guarded, finished, Arms}
use Rattle.spec_program.specs.Construct.{Construct, of_expr, of_target, of_statement}
use Rattle.spec_program.specs.Place.{Kind, holds, why_left, Part, nth, parts, statement_parts, arity, codes_kind, arm_kinds, arm_parts}
use Rattle.spec_world.specs.WellFormed.{kinds_fit, held_fits}
use Rattle.spec_moo.specs.Held.{way_at, held_at_first, held_with}
use Rattle.spec_moo.specs.Effects.Handlers.{codes_known, codes_held, last_code, guarded_point}
use Rattle.spec_moo.specs.Standing.{has_no_value}
use Rattle.spec_moo.specs.Tables.{has_step}

-- ---- handlers: the codes of the arms before these are held, and so many parts stand before the codes of the first of these

pub record KnowsCodes (all : Arms) (ps : List Part) (n : ℕ) (vs : List Datum) (later : Arms) : Type 0 where
  pub before : List Kind
  pub fits : IsTrue (kinds_fit before vs)
  pub behind : drop n ps ≡ arm_parts before later
  pub kinds : arm_kinds all ≡ before ++ arm_kinds later

-- ---- a step wants these values

-- so many parts stand before the codes of the next handler
abbrev pub before_next : ℕ → ℕ
before_next zero = 1
before_next (suc n) = suc (suc n)

abbrev pub OperateFits : ℕ → Construct → ℕ → List Datum → Type 0
OperateFits around (of_expr (caught e codes d)) n vs =
    n ≡ codes_known codes → IsTrue (held_fits around (holds (codes_kind codes ∷ [])) (codes_held codes vs))
OperateFits around (of_statement (guarded p arms)) n vs =
    (later : Arms) → guarded_point arms n ≡ last_code later → KnowsCodes arms (statement_parts (guarded p arms)) (before_next n) vs later
OperateFits around (of_statement (finished p q)) (suc (suc n)) vs = IsTrue (held_fits around why_left vs)
OperateFits around c n vs = Unit {0}

-- ---- a point

-- a target that is done has the values of its parts
abbrev pub EndFits : Construct → List Datum → Type 0
EndFits (of_target t) vs = length vs ≡ arity t
EndFits c vs = Unit {0}

abbrev pub PartFits : ℕ → Construct → List Datum → Option Part → Type 0
PartFits around c vs None = EndFits c vs
PartFits around c vs (Some x) = IsTrue (held_fits around x.held vs)

abbrev pub PointFits : ℕ → Construct → ℕ → List Datum → Bool → Type 0
PointFits around c n vs true = OperateFits around c n vs
PointFits around c n vs false = PartFits around c vs (nth (parts c) n)

-- with so many parts done, these values, and so many loops around
abbrev pub ReachFits : ℕ → Construct → ℕ → List Datum → Type 0
ReachFits around c n vs = PointFits around c n vs (has_step c n)

-- ---- from one part to the next

abbrev pub BeginningsReach : Type 0
BeginningsReach = (around : ℕ) (c : Construct) → ReachFits around c 0 (held_at_first c)

abbrev pub ValuesReach : Type 0
ValuesReach =
    (around : ℕ) (c : Construct) (n : ℕ) (x : Part) (e : Expr) (hs vs : List Datum) (v : Datum)
    → nth (parts c) n ≡ Some x → x.tree ≡ Some (of_expr e) → IsTrue (held_fits around x.held hs) → held_with (way_at c (suc n)) hs v ≡ Some vs
    → ReachFits around c (suc n) vs

abbrev pub TargetsReach : Type 0
TargetsReach =
    (around : ℕ) (c : Construct) (n : ℕ) (x : Part) (t : Target) (hs vs : List Datum)
    → nth (parts c) n ≡ Some x → x.tree ≡ Some (of_target t) → IsTrue (held_fits around x.held hs) → length vs ≡ arity t
    → ReachFits around c (suc n) (hs ++ vs)

abbrev pub EndsReach : Type 0
EndsReach =
    (around : ℕ) (c d : Construct) (n : ℕ) (x : Part) (hs : List Datum)
    → nth (parts c) n ≡ Some x → x.tree ≡ Some d → IsTrue (has_no_value d) → IsTrue (held_fits around x.held hs) → ReachFits around c (suc n) hs
