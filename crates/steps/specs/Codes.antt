-- Where the verb stands whose code ends, and what the player is told of a fault.
use Rattle.std.specs.Prelude.{◌≡◌, ℕ, ℤ, List, ◌++◌, Option, Some, None, codes}
use Rattle.spec_value.specs.Datum.{Text}
use Rattle.spec_program.specs.Tokens.{FaultKind}
use Rattle.spec_program.specs.ReadPrograms.{Parsed, program, faulty, fault_name, fault_text}
use Rattle.spec_world.specs.World.{World, Verb}
use Rattle.spec_world.specs.Permissions.{in_place}
use Rattle.spec_world.specs.Questions.{verbs_at}

-- ---- an object has a verb at a place

pub record HasVerb (w : World) (o : ℤ) (n : ℕ) : Type 0 where
  pub verbs : List Verb
  pub verb : Verb
  pub object_has : verbs_at w o ≡ Some verbs
  pub stands_there : in_place verbs n ≡ Some verb

abbrev pub HasVerbAt : World → ℤ → Option ℕ → Type 0
HasVerbAt w o None = Unit {0}
HasVerbAt w o (Some n) = HasVerb w o n

-- ---- faults

-- what stands behind the number of the line
abbrev pub behind_line : FaultKind → Text
behind_line k = codes ": " ++ fault_name k

-- what a player is told of a text that is no program
abbrev pub IsTold : Text → Parsed → Type 0
IsTold t (program p) = ⊥
IsTold t (faulty f) = t ≡ fault_text f
