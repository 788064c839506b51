-- What is right to guess of the objects along a way: of each how many there are from it upwards, and its place among those below the one above.
use Rattle.std.specs.Prelude.{◌≡◌, ◌⊎◌, ◌≤◌, ℕ, suc, ◌+◌, ℤ, false, ◌&&◌, List, length, Some, slice_get, IsTrue, is_none}
use Rattle.std.specs.Ordering.{int_eq}
use Rattle.std.specs.List.{list_all}
use Rattle.spec_world.specs.World.{World, Object, object_at}
use Rattle.spec_world.specs.WellFormed.{OfEachObject, lists, once, on_object}
use Rattle.world_checks.specs.Marks.{mark_of, may_mark, Placed}
use Rattle.world_checks.specs.Ways.{up_of, down_of}
use Rattle.world_checks.specs.declared.object_checks.way.Way.{Way}

-- how many objects there are from one upwards
pub record IsDepth (way : Way) (w : World) (depth : ℤ → ℕ) : Type 0 where
  pub none : (o : ℤ) → IsTrue (is_none (object_at w o)) → depth o ≡ 0
  pub one_more : (o : ℤ) (x : Object) → object_at w o ≡ Some x → depth o ≡ suc (depth (up_of way x))

abbrev pub AllMarked : World → Type 0
AllMarked w = (o : ℤ) (x : Object) → object_at w o ≡ Some x → IsTrue (may_mark o)

abbrev pub AllListed : World → List ℤ → Type 0
AllListed w numbers = (o : ℤ) (x : Object) → object_at w o ≡ Some x → IsTrue (lists numbers o)

-- ---- ranks

-- each object has its depth as its mark
abbrev pub Ranked : (ℤ → ℕ) → World → List ℕ × List ℕ → Type 0
Ranked depth w m = (o : ℤ) (x : Object) → object_at w o ≡ Some x → mark_of m o ≡ depth o

-- or it has none yet
abbrev pub MayBeRanked : (ℤ → ℕ) → World → List ℕ × List ℕ → Type 0
MayBeRanked depth w m = (o : ℤ) (x : Object) → object_at w o ≡ Some x → 1 ≤ mark_of m o → mark_of m o ≡ depth o

-- the depth is this one at the first, and falls by one from each to the next
abbrev pub FallsFrom : (ℤ → ℕ) → ℕ → List ℤ → Type 0
FallsFrom depth total line = (k : ℕ) (o : ℤ) → slice_get line k ≡ Some o → depth o + k ≡ total

-- numbers that are not listed have the marks that they had
abbrev pub KeptBeside : List ℤ → List ℕ × List ℕ → List ℕ × List ℕ → Type 0
KeptBeside line was is = (o : ℤ) → lists line o ≡ false → mark_of is o ≡ mark_of was o

-- a line of objects from one upwards, up to what has a rank or is none: their marks alone are not those that they had
pub record Climbed (depth : ℤ → ℕ) (w : World) (was is : List ℕ × List ℕ) (from : ℤ) (line : List ℤ) (above : ℕ) : Type 0 where
  pub falls : FallsFrom depth (depth from) line
  pub rest : above + length line ≡ depth from
  pub marked : IsTrue (list_all may_mark line)
  pub kept : KeptBeside line was is
  pub first : (x : Object) → object_at w from ≡ Some x → IsTrue (lists line from) ⊎ (mark_of is from ≡ depth from)

-- each of a line has its depth as its mark, and nothing else changed
pub record Settled (depth : ℤ → ℕ) (was is : List ℕ × List ℕ) (line : List ℤ) : Type 0 where
  pub ranked : (o : ℤ) → IsTrue (lists line o) → mark_of is o ≡ depth o
  pub kept : KeptBeside line was is

-- ---- places

-- those below an object stand once in its list, and it is above each
abbrev pub BelowAgree : Way → World → Type 0
BelowAgree way w = OfEachObject w (λ v o x. once (down_of way x) && list_all (λ c. on_object v c (λ y. int_eq (up_of way y) o)) (down_of way x))

-- each object that is below one has its place there as its mark
abbrev pub AllPlaced : Way → World → List ℕ × List ℕ → Type 0
AllPlaced way w m = (o : ℤ) (x : Object) → object_at w o ≡ Some x → Placed m (down_of way x)

-- those below one more have, and those that had keep it
pub record PlacedBelow (way : Way) (w : World) (was is : List ℕ × List ℕ) (o : ℤ) : Type 0 where
  pub placed : (x : Object) → object_at w o ≡ Some x → Placed is (down_of way x)
  pub kept : (p : ℤ) (x : Object) → object_at w p ≡ Some x → Placed was (down_of way x) → Placed is (down_of way x)
