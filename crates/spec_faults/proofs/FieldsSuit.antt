-- What the lines of a world have as fields is what is wanted there.
use Rattle.std.proofs.Common.{◌≡◌, ℕ, zero, suc, ◌<◌, ◌^◌, ◌&&◌, ◌||◌, nat_le, ℤ, pos, negsuc, int_le, Bool, true, false, List, [], ◌∷◌, ◌++◌, length, codes, Option, Some, None, IsTrue, refl, ap, ◌∙◌, arith}
use Rattle.std.proofs.lemmas.Bool.Decides.{nat_tests}
use Rattle.std.specs.List.{list_all}
use Rattle.std.specs.Fmt.{decimal, signed_decimal}
use Rattle.std.proofs.lemmas.Fmt.{decimal_nonempty}
use Rattle.spec_value.specs.Datum.{Text, is_text, in_number_range, Datum, object, text, list, of_list, is_value}
use Rattle.spec_value.specs.Literal.{literal}
use Rattle.spec_value.proofs.Entries.{both_hold}
use Rattle.spec_value.proofs.Same.{text_itself}
use Rattle.spec_world.specs.World.{ObjectPart, no_object, any_object, this_object, PrepositionPart, no_preposition, any_preposition, preposition_set, Slot, Verb, Object, Programming, NativeName, move_native, create_native, recycle_native, eval_native}
use Rattle.spec_world.specs.Checkpoint.{object_text, object_list, text_list, list_literal, flag, flags_text, slot_bits, verb_bits, part_text, preposition_number, content_text, lines_held, programming_held, native_text}
use Rattle.spec_checkpoint.specs.Holding.{content_holds}
use Rattle.spec_checkpoint.proofs.Numbers.{small}
use Rattle.spec_checkpoint.proofs.Fields.{slot_letters, verb_letters, list_back, objects_hold, texts_hold, values_hold}
use Rattle.spec_faults.specs.Cutting.{is_filled}
use Rattle.spec_faults.specs.Plain as plain
use Rattle.spec_faults.specs.Plain.{passes, number_of, integer_of, number_in, or_zero, are_flags, is_flag}
use Rattle.spec_faults.specs.Literals.{nests, all_nest, is_literal, any, is_string, is_object_value, is_list_of, are_lines_held, is_programming}
use Rattle.spec_faults.specs.Forms as form
use Rattle.spec_faults.specs.Forms.{Wanted, word, other, value}
use Rattle.spec_faults.specs.FieldLaws.{is_unmarked, unmarked, spelled}
use Rattle.spec_faults.specs.Reach.{is_near, content_near, preposition_near}
use Rattle.spec_faults.proofs.Spelling.{numbers_told, integers_told}
use Rattle.spec_faults.proofs.LiteralsBack.{values_told, some_literal}
use Rattle.spec_faults.proofs.FieldsBack.{decimal_unmarked, signed_unmarked}
use Rattle.spec_faults.proofs.Suiting.{Suits}

pub filled : (t : Text) → 0 < length t → IsTrue (is_filled t)
filled [] h = absurd (omega arith)
filled (c ∷ t) h = refl

pub a_word : (t : Text) → IsTrue (list_all is_unmarked t) → IsTrue (is_filled t) → Suits (word t) t
a_word t h k = record { field = unmarked t h; filled = k; meets = text_itself t }

-- ---- numbers

pub a_number : (least most n : ℕ) → n < 2 ^ 64 → IsTrue (nat_le least n && nat_le n most) → Suits (form.number least most) (decimal n)
a_number least most n h k =
    record { field = unmarked (decimal n) (decimal_unmarked n); filled = filled (decimal n) (decimal_nonempty n h); meets = ap (passes (λ m. nat_le least m && nat_le m most)) (numbers_told n h) ∙ k }

in_count : (n : ℕ) → n < 2 ^ 63 → IsTrue (nat_le 0 n && nat_le n 9223372036854775807)
in_count n h = grind (arith, nat_tests)

pub a_count : (n : ℕ) → n < 2 ^ 63 → Suits form.how_many (decimal n)
a_count n h = a_number 0 9223372036854775807 n (omega arith) (in_count n h)

pub count_said : (n : ℕ) → n < 2 ^ 63 → number_in (decimal n) ≡ n
count_said n h = ap or_zero (numbers_told n (omega arith))

pub signed_filled : (z : ℤ) → IsTrue (in_number_range z) → IsTrue (is_filled (signed_decimal z))
signed_filled (pos n) h = filled (decimal n) (decimal_nonempty n (small n h))
signed_filled (negsuc n) h = refl

pub an_integer : (least most z : ℤ) → IsTrue (in_number_range z) → IsTrue (int_le least z && int_le z most) → Suits (other (plain.is_integer least most)) (signed_decimal z)
an_integer least most z h k =
    record { field = unmarked (signed_decimal z) (signed_unmarked z); filled = signed_filled z h; meets = ap (passes (λ y. int_le least y && int_le y most)) (integers_told z h) ∙ k }

pub an_object : (z : ℤ) → IsTrue (in_number_range z) → Suits form.object_number (object_text z)
an_object z h = record { field = unmarked (object_text z) (signed_unmarked z); filled = refl; meets = ap (passes (λ y. true)) (integers_told z h) }

-- ---- letters

pub a_flag : (b : Bool) → Suits form.flag (flag b)
a_flag true = record { field = unmarked (codes "1") refl; filled = refl; meets = refl }
a_flag false = record { field = unmarked (codes "0") refl; filled = refl; meets = refl }

-- flags, and no marks
record Digits (n : ℕ) (t : Text) : Type 0 where
  digits : IsTrue (list_all is_unmarked t)
  flags : IsTrue (are_flags n t)

flag_more : (b : Bool) (n : ℕ) (t : Text) → Digits n t → Digits (suc n) (flag b ++ t)
flag_more true n t d = record { digits = d.digits; flags = d.flags }
flag_more false n t d = record { digits = d.digits; flags = d.flags }

last_flag : (b : Bool) → Digits 1 (flag b)
last_flag true = record { digits = refl; flags = refl }
last_flag false = record { digits = refl; flags = refl }

first_filled : (b : Bool) (t : Text) → IsTrue (is_filled (flag b ++ t))
first_filled true t = refl
first_filled false t = refl

pub some_flags : (x : Object) → Suits (other (are_flags 6)) (flags_text x)
some_flags x =
    let f : Text = flag x.header.fertile in
    let w : Text = flag x.header.writable ++ f in
    let r : Text = flag x.header.readable ++ w in
    let z : Text = flag x.header.is_wizard ++ r in
    let p : Text = flag x.header.is_programmer ++ z in
    let d = flag_more x.header.is_player 5 p (flag_more x.header.is_programmer 4 z (flag_more x.header.is_wizard 3 r (flag_more x.header.readable 2 w (flag_more x.header.writable 1 f (last_flag x.header.fertile))))) in
    record { field = unmarked (flags_text x) d.digits; filled = first_filled x.header.is_player p; meets = d.flags }

three_letters : (a b c : Bool) → Suits (other (plain.are_bits (codes "rwc"))) (slot_letters a b c)
three_letters true true true = record { field = unmarked (slot_letters true true true) refl; filled = refl; meets = refl }
three_letters true true false = record { field = unmarked (slot_letters true true false) refl; filled = refl; meets = refl }
three_letters true false true = record { field = unmarked (slot_letters true false true) refl; filled = refl; meets = refl }
three_letters true false false = record { field = unmarked (slot_letters true false false) refl; filled = refl; meets = refl }
three_letters false true true = record { field = unmarked (slot_letters false true true) refl; filled = refl; meets = refl }
three_letters false true false = record { field = unmarked (slot_letters false true false) refl; filled = refl; meets = refl }
three_letters false false true = record { field = unmarked (slot_letters false false true) refl; filled = refl; meets = refl }
three_letters false false false = record { field = unmarked (slot_letters false false false) refl; filled = refl; meets = refl }

pub slot_bits_suit : (s : Slot) → Suits (other (plain.are_bits (codes "rwc"))) (slot_bits s)
slot_bits_suit s = three_letters s.readable s.writable s.changeable

four_letters : (a b c d : Bool) → Suits (other (plain.are_bits (codes "rwxd"))) (verb_letters a b c d)
four_letters true true true true = record { field = unmarked (verb_letters true true true true) refl; filled = refl; meets = refl }
four_letters true true true false = record { field = unmarked (verb_letters true true true false) refl; filled = refl; meets = refl }
four_letters true true false true = record { field = unmarked (verb_letters true true false true) refl; filled = refl; meets = refl }
four_letters true true false false = record { field = unmarked (verb_letters true true false false) refl; filled = refl; meets = refl }
four_letters true false true true = record { field = unmarked (verb_letters true false true true) refl; filled = refl; meets = refl }
four_letters true false true false = record { field = unmarked (verb_letters true false true false) refl; filled = refl; meets = refl }
four_letters true false false true = record { field = unmarked (verb_letters true false false true) refl; filled = refl; meets = refl }
four_letters true false false false = record { field = unmarked (verb_letters true false false false) refl; filled = refl; meets = refl }
four_letters false true true true = record { field = unmarked (verb_letters false true true true) refl; filled = refl; meets = refl }
four_letters false true true false = record { field = unmarked (verb_letters false true true false) refl; filled = refl; meets = refl }
four_letters false true false true = record { field = unmarked (verb_letters false true false true) refl; filled = refl; meets = refl }
four_letters false true false false = record { field = unmarked (verb_letters false true false false) refl; filled = refl; meets = refl }
four_letters false false true true = record { field = unmarked (verb_letters false false true true) refl; filled = refl; meets = refl }
four_letters false false true false = record { field = unmarked (verb_letters false false true false) refl; filled = refl; meets = refl }
four_letters false false false true = record { field = unmarked (verb_letters false false false true) refl; filled = refl; meets = refl }
four_letters false false false false = record { field = unmarked (verb_letters false false false false) refl; filled = refl; meets = refl }

pub verb_bits_suit : (v : Verb) → Suits (other (plain.are_bits (codes "rwxd"))) (verb_bits v)
verb_bits_suit v = four_letters v.readable v.writable v.callable v.debug

pub part_suits : (p : ObjectPart) → Suits form.object_part (part_text p)
part_suits no_object = record { field = unmarked (codes "none") refl; filled = refl; meets = refl }
part_suits any_object = record { field = unmarked (codes "any") refl; filled = refl; meets = refl }
part_suits this_object = record { field = unmarked (codes "this") refl; filled = refl; meets = refl }

or_second : (a b : Bool) → IsTrue b → IsTrue (a || b)
or_second true b h = refl
or_second false b h = h

small_set : (n : ℕ) → IsTrue (nat_le n 14) → n < 2 ^ 64
small_set n h = grind (arith, nat_tests)

from_none : (n : ℕ) → IsTrue (nat_le n 14) → IsTrue (nat_le 0 n && nat_le n 14)
from_none n h = grind (arith, nat_tests)

pub preposition_suits : (p : PrepositionPart) → IsTrue (preposition_near p) → Suits form.preposition (preposition_number p)
preposition_suits no_preposition h = record { field = unmarked (codes "none") refl; filled = refl; meets = refl }
preposition_suits any_preposition h = record { field = unmarked (codes "any") refl; filled = refl; meets = refl }
preposition_suits (preposition_set n) h =
    let s = a_number 0 14 n (small_set n h) (from_none n h) in
    record { field = s.field; filled = s.filled; meets = or_second (plain.is_one_of (codes "none" ∷ codes "any" ∷ []) (decimal n)) (plain.is_number 0 14 (decimal n)) s.meets }

pub native_suits : (n : NativeName) → Suits (other (plain.is_one_of (codes "move" ∷ codes "create" ∷ codes "recycle" ∷ codes "eval" ∷ []))) (native_text n)
native_suits move_native = record { field = unmarked (codes "move") refl; filled = refl; meets = refl }
native_suits create_native = record { field = unmarked (codes "create") refl; filled = refl; meets = refl }
native_suits recycle_native = record { field = unmarked (codes "recycle") refl; filled = refl; meets = refl }
native_suits eval_native = record { field = unmarked (codes "eval") refl; filled = refl; meets = refl }

-- ---- literals

pub a_value : (test : Datum → Bool) (v : Datum) → IsTrue (is_value v) → IsTrue (is_near v) → IsTrue (test v) → Suits (value (is_literal test)) (literal v)
a_value test v h k p = record { field = spelled v; filled = filled (literal v) (some_literal v h); meets = ap (passes test) (values_told v h k) ∙ p }

pub a_string : (t : Text) → IsTrue (is_text t) → Suits form.string (literal (text t))
a_string t h = a_value is_string (text t) h refl refl

content_or : (a : Bool) (t : Text) → IsTrue (is_literal any t) → IsTrue (a || is_literal any t)
content_or a t h = or_second a (is_literal any t) h

pub content_suits : (o : Option Datum) → IsTrue (content_holds o) → IsTrue (content_near o) → Suits form.content (content_text o)
content_suits None h k = record { field = unmarked (codes "clear") refl; filled = refl; meets = refl }
content_suits (Some v) h k =
    let s = a_value any v h k refl in record { field = s.field; filled = s.filled; meets = content_or _ (literal v) s.meets }

-- ---- lists

objects_nest : (n : ℕ) (os : List ℤ) → IsTrue (all_nest n (of_list (object_list os)))
objects_nest n [] = refl
objects_nest n (o ∷ os) = both_hold (nests n (object o)) (all_nest n (of_list (object_list os))) (object_nests n) (objects_nest n os)
  where
    object_nests : (m : ℕ) → IsTrue (nests m (object o))
    object_nests zero = refl
    object_nests (suc m) = refl

texts_nest : (n : ℕ) (ts : List Text) → IsTrue (all_nest n (of_list (text_list ts)))
texts_nest n [] = refl
texts_nest n (t ∷ ts) = both_hold (nests n (text t)) (all_nest n (of_list (text_list ts))) (text_nests n) (texts_nest n ts)
  where
    text_nests : (m : ℕ) → IsTrue (nests m (text t))
    text_nests zero = refl
    text_nests (suc m) = refl

all_objects : (os : List ℤ) → IsTrue (list_all is_object_value (object_list os))
all_objects [] = refl
all_objects (o ∷ os) = all_objects os

all_texts : (ts : List Text) → IsTrue (list_all is_string (text_list ts))
all_texts [] = refl
all_texts (t ∷ ts) = all_texts ts

list_passes : (test : Datum → Bool) (vs : List Datum) → IsTrue (list_all test vs) → IsTrue (is_list_of test (list (of_list vs)))
list_passes test vs h = ap (list_all test) (list_back vs) ∙ h

pub some_objects : (os : List ℤ) → IsTrue (list_all in_number_range os) → Suits form.objects (list_literal (object_list os))
some_objects os h =
    a_value (is_list_of is_object_value) (list (of_list (object_list os))) (values_hold (object_list os) (objects_hold os h)) (objects_nest 99999 os) (list_passes is_object_value (object_list os) (all_objects os))

pub some_texts : (ts : List Text) → IsTrue (list_all is_text ts) → Suits form.strings (list_literal (text_list ts))
some_texts ts h =
    a_value (is_list_of is_string) (list (of_list (text_list ts))) (values_hold (text_list ts) (texts_hold ts h)) (texts_nest 99999 ts) (list_passes is_string (text_list ts) (all_texts ts))

-- ---- what a link is programming

lines_near : (o : Option (List Text)) → IsTrue (nests 99999 (lines_held o))
lines_near None = refl
lines_near (Some ts) = texts_nest 99998 ts

lines_are : (o : Option (List Text)) → IsTrue (are_lines_held (lines_held o))
lines_are None = refl
lines_are (Some ts) = list_passes is_string (text_list ts) (all_texts ts)

near : (g : Option Programming) → IsTrue (is_near (programming_held g))
near None = refl
near (Some g) = both_hold (nests 99999 (lines_held g.lines)) true (lines_near g.lines) refl

is_that : (g : Option Programming) → IsTrue (is_programming (programming_held g))
is_that None = refl
is_that (Some g) = lines_are g.lines

pub programming_suits : (g : Option Programming) → IsTrue (is_value (programming_held g)) → Suits (value (is_literal is_programming)) (literal (programming_held g))
programming_suits g h = a_value is_programming (programming_held g) h (near g) (is_that g)
