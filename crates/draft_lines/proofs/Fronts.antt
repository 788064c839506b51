-- Numbers and counts of a well-formed world, and its links one by one.
use Rattle.std.proofs.Common.{◌≡◌, ◌≤◌, ◌≤ℤ◌, ◌^◌, ℕ, suc, ℤ, pos, negsuc, neg_ℤ, int_le, nat_le, max, min, List, [], ◌∷◌, ◌++◌, length, take, Some, IsTrue, ap, ◌∙◌, arith, cond, slice_get, length-append}
use Rattle.std.proofs.lemmas.Int.{ints}
use Rattle.std.proofs.lemmas.Bool.{leb-true, le-leb, lt-ltb}
use Rattle.spec_value.specs.Datum.{Text, in_number_range}
use Rattle.spec_value.specs.Table.{Numbered, with, is_numbered}
use Rattle.spec_value.proofs.Entries.{first_holds, second_holds, both_hold}
use Rattle.spec_world.specs.World.{World, Object, Link}
use Rattle.spec_world.specs.WellFormed.{IsWellFormed, is_connection}
use Rattle.spec_world.specs.Questions.{is_number, put_record}
use Rattle.spec_world.specs.Checkpoint.{link_lines, object_lines, each_object}
use Rattle.draft_objects.proofs.Puts.{next_put}

pub next_ranges : (w : World) → IsWellFormed w → (1 ≤ w.next) × (w.next ≤ 33554432)
next_ranges w f = (leb-true 1 w.next (first_holds (nat_le 1 w.next) (nat_le w.next 33554432) f.next_in_range), leb-true w.next 33554432 (second_holds (nat_le 1 w.next) (nat_le w.next 33554432) f.next_in_range))

greatest_in : (g : ℤ) → IsTrue (int_le (neg_ℤ (pos 1)) g) → IsTrue (int_le g (pos 999999)) → IsTrue (in_number_range g) × (neg_ℤ (pos 1) ≤ℤ g) × (g ≤ℤ pos 999999)
greatest_in (pos n) h k = let b : n ≤ 999999 = leb-true n 999999 k in (lt-ltb n (2 ^ 31) (omega arith), omega (arith, ints), omega (arith, ints))
greatest_in (negsuc n) h k = let b : n ≤ 0 = leb-true n 0 h in (lt-ltb n (2 ^ 31) (omega arith), omega (arith, ints), omega (arith, ints))

pub greatest_ranges : (w : World) → IsWellFormed w → IsTrue (in_number_range w.greatest) × (neg_ℤ (pos 1) ≤ℤ w.greatest) × (w.greatest ≤ℤ pos 999999)
greatest_ranges w f =
    greatest_in w.greatest (first_holds (int_le (neg_ℤ (pos 1)) w.greatest) (int_le w.greatest (pos 999999)) f.greatest_in_range)
    (second_holds (int_le (neg_ℤ (pos 1)) w.greatest) (int_le w.greatest (pos 999999)) f.greatest_in_range)

pub next_stays : (n k : ℕ) → k ≡ 1 → 1 ≤ n → n ≤ 33554432 → max (min n 33554432) k ≡ n
next_stays n k e low high = omega arith

-- ---- links

links_within : (es : Numbered Link) → length es ≤ length (link_lines es)
links_within [] = omega arith
links_within (e ∷ es) = let later = links_within es in omega arith

pub links_counted : (es : Numbered Link) (rest : List Text) → length es ≤ length (link_lines es ++ rest)
links_counted es rest = let within = links_within es in let both = length-append (link_lines es) rest in omega arith

numbered : (c : ℤ) → IsTrue (is_connection c) → IsTrue (is_number c)
numbered (pos n) h = both_hold (int_le (pos 0) (pos n)) (int_le (pos n) (pos 999999)) (le-leb 0 n (omega arith)) (second_holds (int_le (pos 1) (pos n)) (int_le (pos n) (pos 999999)) h)
numbered (negsuc n) h = cc

pub link_put : (es : Numbered Link) (i : ℕ) (c : ℤ) (k : Link) → IsTrue (is_numbered es) → IsTrue (is_connection c) → slice_get es i ≡ Some (c, k) → put_record (take i es) c (Some k) ≡ take (suc i) es
link_put es i c k sorted fits is = ap (λ b. cond b (with (take i es) c k) (take i es)) (numbered c fits) ∙ next_put es i c k sorted is

-- ---- objects

objects_within : (w : World) (es : Numbered Object) → length es ≤ length (each_object w es)
objects_within w [] = omega arith
objects_within w (e ∷ es) =
    let later = objects_within w es in let both = length-append (object_lines w e.0 e.1) (each_object w es) in let some : 1 ≤ length (object_lines w e.0 e.1) = omega arith in omega arith

pub objects_counted : (w : World) (es : Numbered Object) (rest : List Text) → length es ≤ length (each_object w es ++ rest)
objects_counted w es rest = let within = objects_within w es in let both = length-append (each_object w es) rest in omega arith
