-- Numbers of objects and of links are in the ranges in which they are read.
use Rattle.std.proofs.Common.{◌≡◌, ℤ, pos, negsuc, neg_ℤ, ◌≤ℤ◌, int_le, ◌≤◌, IsTrue, Some, arith}
use Rattle.std.proofs.lemmas.Bool.{leb-true}
use Rattle.std.proofs.lemmas.Int.{ints}
use Rattle.spec_value.proofs.Entries.{first_holds, second_holds}
use Rattle.spec_world.specs.World.{World, Object, object_at}
use Rattle.spec_world.specs.WellFormed.{IsWellFormed, is_connection}

within : (o g : ℤ) → IsTrue (int_le (pos 0) o) → IsTrue (int_le o g) → IsTrue (int_le g (pos 999999)) → (pos 0 ≤ℤ o) × (o ≤ℤ pos 999999)
within (pos o) (pos g) h k l = let a : o ≤ g = leb-true o g k in let b : g ≤ 999999 = leb-true g 999999 l in (omega (arith, ints), omega (arith, ints))
within (pos o) (negsuc g) h k l = cc
within (negsuc o) g h k l = cc

-- of objects of a well-formed world
pub object_number : (w : World) (o : ℤ) (x : Object) → IsWellFormed w → object_at w o ≡ Some x → (pos 0 ≤ℤ o) × (o ≤ℤ pos 999999)
object_number w o x h is =
    let n = h.numbers o x is in
    within o w.greatest (first_holds (int_le (pos 0) o) (int_le o w.greatest) n) (second_holds (int_le (pos 0) o) (int_le o w.greatest) n)
    (second_holds (int_le (neg_ℤ (pos 1)) w.greatest) (int_le w.greatest (pos 999999)) h.greatest_in_range)

pub connection_number : (c : ℤ) → IsTrue (is_connection c) → (pos 1 ≤ℤ c) × (c ≤ℤ pos 999999)
connection_number (pos c) h =
    let a : 1 ≤ c = leb-true 1 c (first_holds (int_le (pos 1) (pos c)) (int_le (pos c) (pos 999999)) h) in
    let b : c ≤ 999999 = leb-true c 999999 (second_holds (int_le (pos 1) (pos c)) (int_le (pos c) (pos 999999)) h) in (omega (arith, ints), omega (arith, ints))
connection_number (negsuc c) h = cc
