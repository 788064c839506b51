-- What a world's text has as words: numbers, objects, flags, bits, parts of verbs and paths.
use Rattle.std.proofs.Common.{ℕ, suc, ◌<◌, ◌^◌, ℤ, pos, negsuc, List, [], ◌∷◌, ◌++◌, map, length, IsTrue, Bool, true, false, ◌&&◌, nat_le, refl, arith}
use Rattle.std.proofs.lemmas.Bool.Decides.{nat_tests}
use Rattle.std.specs.List.{list_all}
use Rattle.std.specs.Fmt.{decimal, signed_decimal}
use Rattle.std.proofs.lemmas.Fmt.{decimal_nonempty}
use Rattle.spec_value.specs.Datum.{Text, in_number_range}
use Rattle.spec_value.proofs.Entries.{first_holds, second_holds, both_hold}
use Rattle.spec_program.specs.Names.{is_digit}
use Rattle.spec_world.specs.World.{Object, Slot, Verb, ObjectPart, no_object, any_object, this_object, PrepositionPart, no_preposition, any_preposition, preposition_set, NativeName, move_native, create_native, recycle_native, eval_native}
use Rattle.spec_world.specs.Checkpoint.{object_text, flag, flags_text, slot_bits, verb_bits, part_text, preposition_number, with_dots, path, native_text}
use Rattle.spec_checkpoint.specs.Holding.{is_number, preposition_holds}
use Rattle.spec_checkpoint.proofs.Numbers.{are_digits, decimal_digits, small}
use Rattle.spec_checkpoint.proofs.Fields.{number_small, slot_letters, verb_letters}
use Rattle.spec_checkpoint.proofs.CodeLines.{all_both}
use Rattle.line_fields.specs.Fields.{is_plain, is_word}
use Rattle.line_fields.specs.Values.{are_places}

abbrev pub are_plain : Text → Bool
are_plain t = list_all is_plain t

word_of : (t : Text) → 0 < length t → IsTrue (are_plain t) → IsTrue (is_word t)
word_of [] l h = absurd (omega arith)
word_of (c ∷ t) l h = h

digit_plain : (c : ℕ) → IsTrue (is_digit c) → IsTrue (is_plain c)
digit_plain c h = grind (arith, nat_tests)

digits_plain : (t : Text) → IsTrue (are_digits t) → IsTrue (are_plain t)
digits_plain [] h = refl
digits_plain (c ∷ t) h = both_hold (is_plain c) (are_plain t) (digit_plain c (first_holds (is_digit c) (are_digits t) h)) (digits_plain t (second_holds (is_digit c) (are_digits t) h))

pub decimal_plain : (n : ℕ) → IsTrue (are_plain (decimal n))
decimal_plain n = digits_plain (decimal n) (decimal_digits n)

pub signed_plain : (z : ℤ) → IsTrue (are_plain (signed_decimal z))
signed_plain (pos n) = decimal_plain n
signed_plain (negsuc n) = decimal_plain (suc n)

pub word_decimal : (n : ℕ) → n < 2 ^ 64 → IsTrue (is_word (decimal n))
word_decimal n h = word_of (decimal n) (decimal_nonempty n h) (decimal_plain n)

pub word_number : (n : ℕ) → IsTrue (is_number n) → IsTrue (is_word (decimal n))
word_number n h = word_decimal n (number_small n h)

pub word_signed : (z : ℤ) → IsTrue (in_number_range z) → IsTrue (is_word (signed_decimal z))
word_signed (pos n) h = word_decimal n (small n h)
word_signed (negsuc n) h = decimal_plain (suc n)

pub word_object : (z : ℤ) → IsTrue (is_word (object_text z))
word_object z = signed_plain z

-- ---- flags and bits

pub word_flag : (b : Bool) → IsTrue (is_word (flag b))
word_flag true = refl
word_flag false = refl

flag_plain : (b : Bool) (t : Text) → IsTrue (are_plain t) → IsTrue (are_plain (flag b ++ t))
flag_plain true t h = h
flag_plain false t h = h

one_flag : (b : Bool) → IsTrue (are_plain (flag b))
one_flag true = refl
one_flag false = refl

first_flag : (b : Bool) (t : Text) → IsTrue (are_plain t) → IsTrue (is_word (flag b ++ t))
first_flag true t h = h
first_flag false t h = h

pub word_flags : (x : Object) → IsTrue (is_word (flags_text x))
word_flags x =
    let f : Text = flag x.header.fertile in
    let w : Text = flag x.header.writable ++ f in
    let r : Text = flag x.header.readable ++ w in
    let z : Text = flag x.header.is_wizard ++ r in
    let p : Text = flag x.header.is_programmer ++ z in
    first_flag x.header.is_player p (flag_plain x.header.is_programmer z (flag_plain x.header.is_wizard r (flag_plain x.header.readable w (flag_plain x.header.writable f (one_flag x.header.fertile)))))

three_letters : (a b c : Bool) → IsTrue (is_word (slot_letters a b c))
three_letters true true true = refl
three_letters true true false = refl
three_letters true false true = refl
three_letters true false false = refl
three_letters false true true = refl
three_letters false true false = refl
three_letters false false true = refl
three_letters false false false = refl

pub word_slot_bits : (s : Slot) → IsTrue (is_word (slot_bits s))
word_slot_bits s = three_letters s.readable s.writable s.changeable

four_letters : (a b c d : Bool) → IsTrue (is_word (verb_letters a b c d))
four_letters true true true true = refl
four_letters true true true false = refl
four_letters true true false true = refl
four_letters true true false false = refl
four_letters true false true true = refl
four_letters true false true false = refl
four_letters true false false true = refl
four_letters true false false false = refl
four_letters false true true true = refl
four_letters false true true false = refl
four_letters false true false true = refl
four_letters false true false false = refl
four_letters false false true true = refl
four_letters false false true false = refl
four_letters false false false true = refl
four_letters false false false false = refl

pub word_verb_bits : (v : Verb) → IsTrue (is_word (verb_bits v))
word_verb_bits v = four_letters v.readable v.writable v.callable v.debug

-- ---- parts of verbs, names of functions, and paths

pub word_part : (p : ObjectPart) → IsTrue (is_word (part_text p))
word_part no_object = refl
word_part any_object = refl
word_part this_object = refl

pub word_preposition : (p : PrepositionPart) → IsTrue (preposition_holds p) → IsTrue (is_word (preposition_number p))
word_preposition no_preposition h = refl
word_preposition any_preposition h = refl
word_preposition (preposition_set n) h = word_number n h

pub word_native : (n : NativeName) → IsTrue (is_word (native_text n))
word_native move_native = refl
word_native create_native = refl
word_native recycle_native = refl
word_native eval_native = refl

dots_plain : (m : ℕ) (ms : List ℕ) → IsTrue (are_plain (with_dots (decimal m) (map decimal ms)))
dots_plain m [] = decimal_plain m
dots_plain m (n ∷ ms) = all_both is_plain (decimal m) (46 ∷ with_dots (decimal n) (map decimal ms)) (decimal_plain m) (dots_plain n ms)

word_more : (t u : Text) → IsTrue (is_word t) → IsTrue (are_plain (t ++ u)) → IsTrue (is_word (t ++ u))
word_more [] u h k = cc
word_more (c ∷ t) u h k = k

place_number : (m : ℕ) (ms : List ℕ) → IsTrue (are_places (m ∷ ms)) → IsTrue (is_number m)
place_number m ms h = second_holds (nat_le 1 m) (is_number m) (first_holds (nat_le 1 m && is_number m) (are_places ms) h)

pub word_path : (ns : List ℕ) → IsTrue (are_places ns) → IsTrue (is_word (path (map decimal ns)))
word_path [] h = refl
word_path (m ∷ []) h = word_number m (place_number m [] h)
word_path (m ∷ n ∷ ms) h =
    let more : Text = 46 ∷ with_dots (decimal n) (map decimal ms) in
    word_more (decimal m) more (word_number m (place_number m (n ∷ ms) h)) (all_both is_plain (decimal m) more (decimal_plain m) (dots_plain n ms))
