-- What a run of a script over a world ends with.
use Rattle.std.specs.Prelude.{◌≡◌, ℕ, ◌+◌, ◌≤◌, false, List, length, take, Option, Some, None}
use Rattle.std.specs.Io.KnownBytes.{Appends}
use Rattle.spec_world.specs.World.{World}
use Rattle.spec_world.specs.Step.{Step}
use Rattle.spec_world.specs.Outcome.{Outcome}
use Rattle.spec_moo.specs.Steps.{play}
use Rattle.world.specs.Counted.{Counted}
use Rattle.task_step.specs.declared.partial.Partial.{Partial}
use Rattle.moo_script.specs.Scripts.{IsScript}
use Rattle.moo_server.specs.declared.parts.Played.{Played}
use Rattle.moo_server.specs.declared.parts.Played.TheVariants.{Whole, Part, Unwritten}
use Rattle.moo_server.specs.Printed.{printed}

-- the server is not about to end any more
abbrev pub reopened : World → World
reopened w = record w { ending = false }

-- the world after these steps; what was written, where that is known, grew by their lines and nothing else
abbrev pub PlaysTo : World → List Step → World → Option (List ℕ) → Option (List ℕ) → Type 0
PlaysTo w steps after old new = (outcomes : List Outcome) × (play w steps ≡ (after, outcomes)) × Appends old new (printed steps outcomes)

-- all steps of the script
abbrev pub Ran : World → List ℕ → World → Option (List ℕ) → Option (List ℕ) → Type 0
Ran w script after old new = (steps : List Step) × IsScript script w.next steps × PlaysTo (reopened w) steps after old new

-- its first steps, so many
abbrev pub RanInPart : World → List ℕ → ℕ → World → Option (List ℕ) → Option (List ℕ) → Type 0
RanInPart w script count after old new = (steps : List Step) × IsScript script w.next steps × (count ≤ length steps) × PlaysTo (reopened w) (take count steps) after old new

-- how far a list was run and its lines were written
abbrev pub IsPlayed : World → List Step → Option (List ℕ) → Option (List ℕ) → Played → Type 0
IsPlayed w steps old new (Whole after) = PlaysTo w steps after.plain old new
IsPlayed w steps old new (Part after count) = (count ≤ length steps) × PlaysTo w (take count steps) after.plain old new
IsPlayed w steps old new Unwritten = Unit {0}

-- the world at the end and the status: 0 for all steps, 3 for a part of them, 2 where their lines could not be written
abbrev pub conclusion : Played → Option Counted × ℕ
conclusion (Whole after) = (Some after, 0)
conclusion (Part after count) = (Some after, 3)
conclusion Unwritten = (None, 2)

-- the steps of a part that were run, behind so many steps before it
abbrev pub EndsIn : List Step → ℕ → Partial → Option (List ℕ) → Option (List ℕ) → Played → Type 0
EndsIn part before p old new (Whole after) = ⊥
EndsIn part before p old new (Part after count) = (after ≡ p.world) × (count ≡ before + p.count) × Appends old new (printed (take p.count part) p.outcomes.items)
EndsIn part before p old new Unwritten = Unit {0}
