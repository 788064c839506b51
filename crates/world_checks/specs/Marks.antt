-- Marks of numbers: of those from 0 up, and of those below 0.
use Rattle.std.specs.Prelude.{◌≡◌, ℕ, nat_lt, ℤ, pos, negsuc, Bool, ◌&&◌, List, Some, slice_index, slice_get, if◌then◌else◌}
use Rattle.std.specs.Ordering.{int_eq}

abbrev pub mark_of : List ℕ × List ℕ → ℤ → ℕ
mark_of m (pos k) = slice_index m.0 k
mark_of m (negsuc k) = slice_index m.1 k

-- a number that is near enough to 0
abbrev pub may_mark : ℤ → Bool
may_mark (pos k) = nat_lt k 1048576
may_mark (negsuc k) = nat_lt k 1048576

-- what a number's mark is once another number got one
abbrev pub mark_after : List ℕ × List ℕ → ℤ → ℕ → ℤ → ℕ
mark_after m number mark n = if int_eq n number && may_mark number then mark else mark_of m n

-- each number of a list has its place there as its mark
abbrev pub Placed : List ℕ × List ℕ → List ℤ → Type 0
Placed m xs = (k : ℕ) (x : ℤ) → slice_get xs k ≡ Some x → mark_of m x ≡ k
