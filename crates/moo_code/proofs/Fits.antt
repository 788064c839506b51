-- When a construct's layout fits it: its parts stand there in their order, each operation does what the step does, and each handler catches what the construct does.
use Rattle.std.proofs.Common.{◌≡◌, ℕ, suc, ◌+◌, List, [], ◌∷◌, length, true, false, Option, Some, None}
use Rattle.spec_value.specs.Datum.{Datum, Text}
use Rattle.spec_value.specs.Table.{Named}
use Rattle.spec_program.specs.Tree.{Program}
use Rattle.spec_program.specs.Construct.{Construct, of_expr, of_program, Piece}
use Rattle.spec_program.specs.Place.{Part, parts, part_at, tree_of, held_count}
use Rattle.spec_moo.specs.Scene.{Scene}
use Rattle.spec_moo.specs.Leaving.{Leaving}
use Rattle.spec_moo.specs.Pending.{Focus, next, calls_of}
use Rattle.spec_moo.specs.Held.{Way, beside, before_list, way_at}
use Rattle.spec_moo.specs.Effect.{Effect, hands, errs, takes, ends, leaves, stays, sets, calls, natively}
use Rattle.spec_moo.specs.Effects.Lists.{indexed_in}
use Rattle.spec_moo.specs.Effects.Loops as loops
use Rattle.spec_moo.specs.Tables.{has_step, effect, step_ticks, catches, passed_by}
use Rattle.spec_moo.specs.Turn.{completed, always_raises}
use Rattle.moo_code.specs.Instruction.{Operation, Unraised, as_value, skipped, never, arity, unraised, sign_parts, placed}
use Rattle.moo_code.specs.Layout.{Around, within, Reception, straight, received, Caught, Link, Layout, stop, own, inner, gap, size, opens, loops_left, layout}
use Rattle.moo_code.specs.Performing.{bracketed_value, performed, price, catches_by, passes_by}
use Rattle.moo_code.specs.Machine.{Outer, entries, seen, place_for}
use Rattle.moo_code.specs.Stands.{outcome, first_size, Verb, pending, kept}

abbrev pub IsExpr : Construct → Type 0
IsExpr (of_expr e) = Unit {0}
IsExpr c = ⊥

-- without a value
abbrev pub IsEmpty : Construct → Type 0
IsEmpty c = (outcome c ≡ 0) × (completed c [] ≡ next)

abbrev pub HasTree : Option Construct → Type 0
HasTree None = ⊥
HasTree (Some d) = Unit {0}

-- a part can be begun with so many values held
abbrev pub HoldsIn : Option Part → ℕ → Type 0
HoldsIn None k = ⊥
HoldsIn (Some x) k = (k ≡ held_count x.held) × HasTree x.tree

-- what becomes of an error that is not raised
abbrev pub FailsAs : Construct → Unraised → Type 0
FailsAs c as_value = IsExpr c
FailsAs c skipped = (always_raises c ≡ false) × IsEmpty c × ((v : Datum) → completed c (v ∷ []) ≡ next)
FailsAs c never = always_raises c ≡ true

-- ---- effects

module _ (c : Construct) (go to : ℕ → ℕ) where
  abbrev pub AtEnd : Type 0
  AtEnd = go 0 ≡ to 0

  -- it leads on in the same verb, to a place that is known
  abbrev pub Lands : Effect → Type 0
  Lands (hands s v) = AtEnd × IsExpr c
  Lands (takes m us) = (go m ≡ to m) × HoldsIn (part_at c m) (length us)
  Lands (ends s) = AtEnd × IsEmpty c
  Lands (sets x v e) = Lands e
  Lands e = ⊥

  module _ (l : Layout) (u : Unraised) where
    -- a call is the last instruction of an expression
    abbrev pub Calls : Type 0
    Calls = AtEnd × IsExpr c × (size l ≡ 0)

    abbrev pub Suited : Effect → Type 0
    Suited (errs s f) = AtEnd × FailsAs c u
    Suited (leaves x) = Unit {0}
    Suited (sets x v e) = Suited e
    Suited (calls d body args) = Calls
    Suited (natively e) = Calls
    Suited e = Lands e

  -- what is caught in a part
  abbrev pub CaughtFits : ℕ → Option Effect → Type 0
  CaughtFits m None = Unit {0}
  CaughtFits m (Some stays) = (q : Program) × (tree_of (part_at c m) ≡ Some (of_program q))
  CaughtFits m (Some e) = Lands e

-- ---- what an operation can see: the calls that wait, the loops and the brackets around

abbrev pub Sees : Around → Verb → Named Datum → List Piece → List Outer → List Datum → Type 0
Sees x f vars ps ks st =
    (calls_of f.outer ≡ calls_of (entries ks)) × ((y : Option Text) → loops.loops_left y ps ≡ loops_left y x.loops)
    × ((s : Scene) (g : Focus) → indexed_in s (pending f vars g ps) ps ≡ bracketed_value s (seen f.player (kept f vars 0 []) ks) st x.bracketed)

-- ---- rows

abbrev pub IsInner : Layout → Type 0
IsInner (inner k a l) = Unit {0}
IsInner l = ⊥

-- after an operation comes the end, or the next part
abbrev pub Falls : ℕ → Layout → ℕ → (ℕ → ℕ) → Type 0
Falls n l after to = (size l ≡ 0 → after ≡ to 0) × (IsInner l → after ≡ to (suc n))

abbrev pub after_count : Reception → ℕ → ℕ → ℕ
after_count straight h k = h + k
after_count (received before_list n u) h k = suc (suc h)
after_count (received w n u) h k = h

abbrev pub IsList : Way → Type 0
IsList beside = ⊥
IsList w = Unit {0}

module _ (x : Around) (c : Construct) where
  abbrev pub Does : ℕ → Operation → List ℕ → Layout → Type 0
  Does n op ns l =
      (f : Verb) (vars : Named Datum) (g : Focus) (ps : List Piece) (ks : List Outer) (st : List Datum) (s : Scene) (vs : List Datum) (to : ℕ → ℕ) (after : ℕ)
      → Sees x f vars ps ks st → length vs ≡ arity op → Falls n l after to
      → (performed s (seen f.player (kept f vars 0 []) ks) st op vs ≡ effect s (pending f vars g ps) c n vs) × (price op vs ≡ step_ticks c n vs)
      × Suited c (place_for after (placed to ns)) to l (unraised op) (effect s (pending f vars g ps) c n vs)

  -- how a part's value is received
  abbrev pub Receives : Reception → ℕ → ℕ → Construct → Type 0
  Receives straight m h d = way_at c m ≡ beside
  Receives (received w k u) m h d = (way_at c m ≡ w) × IsList w × (k ≡ h) × IsExpr d × FailsAs c u

  abbrev pub Catching : ℕ → ℕ → Option Caught → Type 0
  Catching m h None = (s : Scene) (held : List Datum) (l : Leaving) → (catches s c m held l ≡ None) × (passed_by c m l ≡ l)
  Catching m h (Some g) =
      (g.height ≡ x.height) × (g.held ≡ h)
      × ((s : Scene) (held : List Datum) (l : Leaving) (to : ℕ → ℕ) → length held ≡ h
      → (passes_by g.sign l ≡ passed_by c m l) × (catches_by s g.sign held l ≡ catches s c m held l) × CaughtFits c (place_for 0 (placed to (sign_parts g.sign))) to m (catches s c m held l))

  abbrev pub TreeFits : ℕ → ℕ → Link → Layout → Option Construct → (Construct → Type 0) → Type 0
  TreeFits m h k a None go = ⊥
  TreeFits m h k a (Some d) go = (k.opens ≡ opens d) × (a ≡ layout (within x c m h) d) × Receives k.reception m h d × go d

  abbrev pub PartFits : ℕ → ℕ → Link → Layout → Option Construct → (Construct → Type 0) → Type 0
  PartFits m h k a o go = Catching m h k.caught × TreeFits m h k a o go

  -- after n parts, with so many values
  abbrev mutual
    pub Fits : ℕ → ℕ → List Part → Layout → Type 0
    Fits n k ps (own op ns l) = (has_step c n ≡ true) × (arity op ≡ k) × Does n op ns l × FitsOn n ps l
    Fits n k (p ∷ ps) (inner j a l) =
        (has_step c n ≡ false) × (held_count p.held ≡ k)
        × PartFits (suc n) (held_count p.held) j a p.tree (λ d. Fits (suc n) (after_count j.reception (held_count p.held) (outcome d)) ps l)
    Fits n k [] stop = (has_step c n ≡ false) × (k ≡ outcome c)
    Fits n k ps l = ⊥

    -- after a step
    pub FitsOn : ℕ → List Part → Layout → Type 0
    FitsOn n [] stop = Unit {0}
    FitsOn n (p ∷ ps) (inner j a l) = PartFits (suc n) (held_count p.held) j a p.tree (λ d. Fits (suc n) (after_count j.reception (held_count p.held) (outcome d)) ps l)
    FitsOn n (p ∷ ps) (gap l) = (p.tree ≡ None) × FitsOn (suc n) ps l
    FitsOn n ps l = ⊥

abbrev pub AllFit : Type 0
AllFit = (x : Around) (c : Construct) → Fits x c 0 (first_size c) (parts c) (layout x c)
