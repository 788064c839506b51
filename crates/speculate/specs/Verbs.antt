-- Verbs, which few steps change.
use Rattle.std.specs.Prelude.{◌≡◌, ℕ, ◌≤◌, ℤ, Bool, true, false, List, Option, None, Some}
use Rattle.std.specs.List.{list_all}
use Rattle.spec_world.specs.World.{World}
use Rattle.spec_world.specs.Questions.{verbs_at, Change, new_part, new_object, new_verbs}
use Rattle.speculate.specs.declared.held.Held.{Held}
use Rattle.speculate.specs.declared.held.Held.TheVariants.{Empty, Loss, Holds}

-- each object has the verbs that it had
abbrev pub SameVerbs : World → World → Type 0
SameVerbs v w = (o : ℤ) → verbs_at w o ≡ verbs_at v o

-- a change leaves the verbs of all objects as they are
abbrev pub leaves_verbs : Change → Bool
leaves_verbs (new_part o (new_verbs vs)) = false
leaves_verbs (new_object o x) = false
leaves_verbs _ = true

abbrev pub all_leave_verbs : List Change → Bool
all_leave_verbs cs = list_all leaves_verbs cs

-- a number of steps that is known, from the one to the other
abbrev pub IsWithin : Option ℕ → ℕ → ℕ → Type 0
IsWithin None since count = ⊥
IsWithin (Some k) since count = (since ≤ k) × (k ≤ count)

-- where a guess was made after so many steps, the world has the verbs on which it was found
abbrev pub KnowsVerbs : Held → ℕ → ℕ → World → Type 0
KnowsVerbs Empty since count w = Unit {0}
KnowsVerbs Loss since count w = Unit {0}
KnowsVerbs (Holds g seen) since count w = IsWithin seen since count → SameVerbs g.before w
