-- Which verb is meant (Programmer's Manual, "Verbs on Objects" and "The Built-in Command Parser"): sought along ancestors, by the word and by what the verb wants.
use Rattle.std.specs.Prelude.{ℕ, ℤ, neg_ℤ, pos, Bool, true, false, ◌&&◌, ◌==◌, List, [], ◌∷◌, if◌then◌else◌, Option, Some, None}
use Rattle.std.specs.Ordering.{int_eq}
use Rattle.spec_value.specs.Datum.{Text}
use Rattle.spec_world.specs.World.{World, Object, Verb, ObjectPart, no_object, any_object, this_object, PrepositionPart, no_preposition, any_preposition, preposition_set, object_at}
use Rattle.spec_world.specs.Inherit.{ancestors}
use Rattle.spec_world.specs.VerbNames.{any_spells}

-- a verb and the object that it stands on
pub record Sought : Type 0 where
  pub definer : ℤ
  pub verb : Verb

abbrev pub first_passing : ℤ → (Verb → Bool) → List Verb → Option Sought
first_passing o test [] = None
first_passing o test (v ∷ vs) = if test v then Some (record { definer = o; verb = v }) else first_passing o test vs

abbrev pub own_first : ℤ → (Verb → Bool) → Option Object → Option Sought
own_first o test None = None
own_first o test (Some x) = first_passing o test x.verbs

abbrev pub found_or : Option Sought → Option Sought → Option Sought
found_or None later = later
found_or (Some s) later = Some s

-- the first along a line of objects, on each in the order of definition
unfoldable pub first_on : World → (Verb → Bool) → List ℤ → Option Sought
first_on w test [] = None
first_on w test (o ∷ os) = found_or (own_first o test (object_at w o)) (first_on w test os)

-- ---- from code: the bit x is wanted

unfoldable pub find_verb : World → ℤ → Text → Option Sought
find_verb w o word = first_on w (λ v. v.callable && any_spells v.names word) (ancestors w o)

-- ---- for a command: what the verb wants of its objects and of the preposition

-- the objects that a command names, #-1 where it names none
pub record Named : Type 0 where
  pub direct : ℤ
  pub preposition : Option ℕ  -- the set
  pub indirect : ℤ

abbrev pub object_fits : ObjectPart → ℤ → ℤ → Bool
object_fits no_object searched o = int_eq o (neg_ℤ (pos 1))
object_fits any_object searched o = true
object_fits this_object searched o = int_eq o searched

abbrev pub preposition_fits : PrepositionPart → Option ℕ → Bool
preposition_fits any_preposition p = true
preposition_fits no_preposition None = true
preposition_fits no_preposition (Some n) = false
preposition_fits (preposition_set m) None = false
preposition_fits (preposition_set m) (Some n) = m == n

abbrev pub wants : Verb → ℤ → Named → Bool
wants v searched n =
    object_fits v.direct searched n.direct && preposition_fits v.preposition n.preposition && object_fits v.indirect searched n.indirect

-- on one object and its ancestors; `this` is the object that is searched
unfoldable pub find_command_verb : World → ℤ → Text → Named → Option Sought
find_command_verb w o word n = first_on w (λ v. any_spells v.names word && wants v o n) (ancestors w o)
