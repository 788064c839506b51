-- One step along an outline.
use Rattle.std.specs.Prelude.{ℕ, zero, suc, ◌+◌, List, [], ◌∷◌, Option, Some, None, Bool}
use Rattle.moo_code.specs.Paths.{below, past, in_or_past}
use Rattle.moo_program.specs.declared.outline.Step.{Step}
use Rattle.moo_places.specs.Seeking.{one_if, seek}
use Rattle.moo_places.specs.Reaching.{last_from, reach}
use Rattle.tree_parts.specs.declared.frame_paths.seek.Sought.{Sought}
use Rattle.tree_parts.specs.declared.frame_paths.seek.Turn.{Turn}
use Rattle.tree_parts.specs.declared.frame_paths.seek.Turn.TheVariants.{Nowhere, Here, AtPart, Into, On}
use Rattle.tree_parts.specs.declared.frame_paths.reach.Way.{Way}
use Rattle.tree_parts.specs.declared.frame_paths.reach.Bend.{Bend}
use Rattle.tree_parts.specs.declared.frame_paths.reach.Bend.TheVariants.{Nowhere as NoBend, Arrives, On as OnBy}

-- ---- to the path of an instruction

abbrev pub sought_from : List Step → Sought → Option (List ℕ)
sought_from ss a = seek ss a.passed a.number a.offset

-- where a step leads, and the steps behind it
abbrev pub led : ℕ → List Step → Turn → Option (List ℕ)
led n ss Nowhere = None
led n ss Here = Some []
led n ss AtPart = Some (n ∷ [])
led n ss (Into a) = below n (sought_from ss a)
led n ss (On a) = sought_from ss a

-- behind the close of a part
abbrev pub behind_close : Bool → ℕ → ℕ → List Step → Option (List ℕ)
behind_close r n o ss = in_or_past (past (one_if r) o) (Some []) (λ m. seek ss zero (suc n) m)

-- behind the empty list of a part
abbrev pub in_part : ℕ → ℕ → ℕ → ℕ → List Step → Option (List ℕ)
in_part c m n i ss = in_or_past (past m i) (below n (seek ss zero 1 i)) (λ j. seek ss (suc c) n j)

-- ---- to the place of a path

abbrev pub reached_from : List Step → List ℕ → Way → Option ℕ
reached_from ss path a = reach ss a.passed a.number path a.base

abbrev pub reaches : List Step → List ℕ → Bend → Option ℕ
reaches ss path NoBend = None
reaches ss [] (Arrives b m) = last_from b m
reaches ss (n ∷ path) (Arrives b m) = reach ss zero n path b
reaches ss path (OnBy a) = reached_from ss path a

-- a part, behind its empty list
abbrev pub at_part : ℕ → ℕ → ℕ → ℕ → List Step → List ℕ → Option ℕ
at_part c m zero b ss path = None
at_part c m (suc zero) b ss [] = last_from b m
at_part c m (suc zero) b ss (n ∷ path) = reach ss zero n path b
at_part c m (suc (suc n)) b ss path = reach ss (suc c) (suc n) path (b + m)
