-- Records of objects by their places, and the names of the properties that are defined along places.
use Rattle.std.specs.Prelude.{◌≡◌, ℕ, ℤ, Bool, true, false, List, [], ◌∷◌, ◌++◌, map, length, slice_get, slice_index_or, Option, Some, None}
use Rattle.spec_value.specs.Datum.{Text}
use Rattle.spec_world.specs.World.{World, Object}
use Rattle.upwards.specs.declared.nearest.Upwards.{Upwards}
use Rattle.upwards.specs.Ways.{IsWay, IsKnown, parents_of}
use Rattle.named_objects.specs.declared.record.ObjectRecord.{ObjectRecord}
use Rattle.named_objects.specs.Told.{object_names}

abbrev pub numbers_of : List ObjectRecord → List ℤ
numbers_of records = map (λ r. r.number) records

abbrev pub defines_of : List ObjectRecord → List (List Text)
defines_of records = map (λ r. r.lists.defines.items) records

abbrev pub is_filled : List Text → Bool
is_filled [] = false
is_filled (t ∷ ts) = true

abbrev pub filled_of : List ObjectRecord → List Bool
filled_of records = map (λ r. is_filled r.lists.defines.items) records

-- a number stands there, or nowhere
abbrev pub IsPlace : List ℤ → ℤ → Option ℕ → Type 0
IsPlace numbers n None = (k : ℕ) → slice_get numbers k ≡ Some n → ⊥
IsPlace numbers n (Some k) = slice_get numbers k ≡ Some n

-- of each record, the place of its parent
pub record AreParents (records : List ObjectRecord) (parents : List (Option ℕ)) : Type 0 where
  pub count : length parents ≡ length records
  pub each : (k : ℕ) (r : ObjectRecord) → slice_get records k ≡ Some r → IsPlace (numbers_of records) r.header.parent (slice_index_or parents k None)

-- what is defined along places
abbrev pub names_at : List (List Text) → List ℕ → List Text
names_at defines [] = []
names_at defines (i ∷ is) = slice_index_or defines i [] ++ names_at defines is

-- from each object of a world the way leads along its parents
pub record LeadsUp (w : World) (records : List ObjectRecord) (u : Upwards) : Type 0 where
  pub count : length (parents_of u) ≡ length records
  pub known : IsKnown (filled_of records) u
  pub ways : (k : ℕ) (o : ℤ) (x : Object) → slice_get w.objects k ≡ Some (o, x)
      → (is : List ℕ) × IsWay (parents_of u) (Some k) is × (names_at (defines_of records) is ≡ object_names w o)
