-- What an object has of its kind, and which verb code calls on it.
use Rattle.std.specs.Prelude.{◌≡◌, ℕ, ℤ, List, Some, option_map, slice_get}
use Rattle.spec_value.specs.Datum.{Text}
use Rattle.spec_world.specs.World.{World, Verb}
use Rattle.spec_world.specs.Questions.{header_at, verbs_at}
use Rattle.spec_world.specs.VerbsSought.{find_verb}

-- an object that there is names this parent and has these verbs
pub record IsKin (w : World) (object : ℤ) (parent : ℤ) (verbs : List Verb) : Type 0 where
  pub above : option_map (λ h. h.parent) (header_at w object) ≡ Some parent
  pub own : verbs_at w object ≡ Some verbs

-- the verb that a word names on an object when code calls it stands on this one, and is that
abbrev pub IsCalledVerb : World → ℤ → Text → ℤ → Verb → Type 0
IsCalledVerb w object word definer verb = find_verb w object word ≡ Some (record { definer = definer; verb = verb })

-- it is the one at a place among the verbs there, if one stands there
pub record IsCalledAt (w : World) (object : ℤ) (word : Text) (definer : ℤ) (place : ℕ) : Type 0 where
  pub verbs : List Verb
  pub own : verbs_at w definer ≡ Some verbs
  pub found : (v : Verb) → slice_get verbs place ≡ Some v → IsCalledVerb w object word definer v
