-- What is looked at where verbs and built-in functions wait: in which order they stand, what each holds, and whether a text spells its program.
use Rattle.std.specs.Prelude.{◌≤◌, Bool, true, false, List, [], ◌∷◌, IsTrue}
use Rattle.std.specs.List.{AllByRecursion}
use Rattle.spec_program.specs.Trees.{program_fits}
use Rattle.spec_world.specs.World.{Frame}
use Rattle.spec_world.specs.WellFormed.{frame_fits, native_fits, StandsAtCall}
use Rattle.moo_code.specs.Machine.{Kept, Outer, verb, native, verbs}
use Rattle.moo_code.specs.Stands.{Waits}

-- a verb first and last, and no two built-ins together
abbrev mutual
  pub begins_with_verb : List Outer → Bool
  begins_with_verb [] = false
  begins_with_verb (verb k ∷ ks) = goes_on_after_verb ks
  begins_with_verb (native n ∷ ks) = false

  pub goes_on_after_verb : List Outer → Bool
  goes_on_after_verb [] = true
  goes_on_after_verb (verb k ∷ ks) = goes_on_after_verb ks
  goes_on_after_verb (native n ∷ ks) = begins_with_verb ks

abbrev pub is_verb : Outer → Bool
is_verb (verb k) = true
is_verb (native n) = false

-- of each frame for which a verb waits at its call
abbrev pub VerbFits : Kept → Type 0
VerbFits k = (f : Frame) → Waits f k → StandsAtCall f → IsTrue (frame_fits f)

abbrev pub OuterFits : Outer → Type 0
OuterFits (verb k) = VerbFits k
OuterFits (native n) = IsTrue (native_fits n.name n.stage n.arguments)

abbrev pub AllFit : List Outer → Type 0
AllFit ks = AllByRecursion OuterFits ks

-- there is a frame for which a verb waits at its call, and it fits
pub record VerbFound (k : Kept) : Type 0 where
  pub frame : Frame
  pub waits : Waits frame k
  pub stands : StandsAtCall frame
  pub fits : IsTrue (frame_fits frame)

abbrev pub OuterFound : Outer → Type 0
OuterFound (verb k) = VerbFound k
OuterFound (native n) = IsTrue (native_fits n.name n.stage n.arguments)

abbrev pub AllFound : List Outer → Type 0
AllFound ks = AllByRecursion OuterFound ks

pub record OutersFound (ks : List Outer) : Type 0 where
  pub order : IsTrue (begins_with_verb ks)
  pub few : verbs ks ≤ 50
  pub each : AllFound ks

-- what waits of a task that ran
pub record OutersFit (ks : List Outer) : Type 0 where
  pub order : IsTrue (begins_with_verb ks)
  pub few : verbs ks ≤ 50
  pub each : AllFit ks

abbrev pub OuterSpelled : Outer → Type 0
OuterSpelled (verb k) = IsTrue (program_fits [] k.program)
OuterSpelled (native n) = Unit {0}

abbrev pub AllSpelled : List Outer → Type 0
AllSpelled ks = AllByRecursion OuterSpelled ks
