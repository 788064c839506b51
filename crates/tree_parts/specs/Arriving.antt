-- Verbs that stand at calls of their programs, by their places and how many operands they have.
use Rattle.std.specs.Prelude.{◌≡◌, ℕ, zero, suc, List, [], ◌∷◌, length, Option, Some, None, IsTrue}
use Rattle.spec_program.specs.Construct.{Construct, of_program}
use Rattle.spec_program.specs.Place.{Part, part_at, held_count, is_call}
use Rattle.spec_world.specs.World.{Frame}
use Rattle.spec_world.specs.WellFormed.{StandsAtCall}
use Rattle.moo_code.specs.Layout.{outermost}
use Rattle.moo_code.specs.Machine.{Kept}
use Rattle.moo_code.specs.Paths.{past, last_at}
use Rattle.moo_code.specs.Stands.{Waits}

-- with so many values, of which a part takes its own
abbrev pub with_rest : Option Construct → Option ℕ → (Construct → ℕ → Option Construct) → Option Construct
with_rest None k go = None
with_rest (Some d) None go = None
with_rest (Some d) (Some k) go = go d k

abbrev pub into : Option Part → ℕ → (Construct → ℕ → Option Construct) → Option Construct
into None k go = None
into (Some x) k go = with_rest x.tree (past (held_count x.held) k) go

-- down a path, what stands there, if the constructs on the way hold so many values in all
abbrev pub arrives : Construct → List ℕ → ℕ → Option Construct
arrives c [] zero = Some c
arrives c [] (suc k) = None
arrives c (n ∷ path) k = into (part_at c n) k (λ d j. arrives d path j)

-- a verb that waits at a call of its program
pub record StandsThere (k : Kept) : Type 0 where
  pub frame : Frame
  pub waits : Waits frame k
  pub stands : StandsAtCall frame

-- it does where a path leads to a call there
abbrev pub CallsStand : Type 0
CallsStand =
    (k : Kept) (path : List ℕ) (c : Construct) → arrives (of_program k.program) path (length k.operands) ≡ Some c → IsTrue (is_call c)
    → last_at outermost (of_program k.program) path ≡ k.place → StandsThere k
