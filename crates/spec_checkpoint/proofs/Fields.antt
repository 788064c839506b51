-- The fields of a line, one by one.
use Rattle.std.proofs.Common.{◌≡◌, ℕ, ◌<◌, ◌^◌, ℤ, List, [], ◌∷◌, ◌++◌, IsTrue, Bool, true, false, ◌==◌, refl, ap, sym, subst, ◌∙◌, cond, codes, arith, append_assoc, Option, Some, None}
use Rattle.std.specs.List.{list_all, list_any}
use Rattle.std.specs.Fmt.{decimal, signed_decimal}
use Rattle.std.proofs.lemmas.Fmt.{decimal_injective}
use Rattle.std.proofs.lemmas.List.{append-nil}
use Rattle.std.proofs.lemmas.Bool.Decides.{nat_tests}
use Rattle.spec_value.specs.Datum.{Text, is_text, Datum, object, text, list, of_list, to_list, in_number_range, is_value, are_values}
use Rattle.spec_value.specs.Literal.{escaped, literal}
use Rattle.spec_value.proofs.Entries.{first_holds, second_holds, both_hold}
use Rattle.spec_program.specs.Names.{is_digit}
use Rattle.spec_world.specs.World.{ObjectPart, no_object, any_object, this_object, PrepositionPart, no_preposition, any_preposition, preposition_set}
use Rattle.spec_world.specs.Checkpoint.{object_text, object_list, text_list, list_literal, flag, letter_if, or_dash, content_text, part_text, preposition_number}
use Rattle.spec_checkpoint.specs.Codes.{ends_number}
use Rattle.spec_checkpoint.specs.Lines.{is_line}
use Rattle.spec_checkpoint.specs.Holding.{is_number, content_holds, preposition_holds}
use Rattle.spec_checkpoint.proofs.Numbers.{head_same, tail_same, are_digits, decimal_digits, signed_read_once}
use Rattle.spec_checkpoint.proofs.Quoted.{texts_read_once}
use Rattle.spec_checkpoint.proofs.Values.{first_sort, first_is, no_sixth, values_read_once}
use Rattle.spec_checkpoint.proofs.Lines.{is_without}

-- ---- numbers and objects

pub number_small : (n : ℕ) → IsTrue (is_number n) → n < 2 ^ 64
number_small n h = grind (arith, nat_tests)

pub whole_number : (m n : ℕ) → IsTrue (is_number m) → IsTrue (is_number n) → decimal m ≡ decimal n → m ≡ n
whole_number m n h k = decimal_injective m n (number_small m h) (number_small n k)

pub whole_signed : (y z : ℤ) → IsTrue (in_number_range y) → IsTrue (in_number_range z) → signed_decimal y ≡ signed_decimal z → y ≡ z
whole_signed y z h k e = (signed_read_once y z [] [] h k refl refl (append-nil (signed_decimal y) ∙ e ∙ sym (append-nil (signed_decimal z)))).0

pub object_same : (y z : ℤ) (r s : Text) → IsTrue (in_number_range y) → IsTrue (in_number_range z) → IsTrue (ends_number r) → IsTrue (ends_number s)
    → object_text y ++ r ≡ object_text z ++ s → (y ≡ z) × (r ≡ s)
object_same y z r s h k f g e = signed_read_once y z r s h k f g (tail_same 35 35 (signed_decimal y ++ r) (signed_decimal z ++ s) e)

-- ---- texts and values

pub quoted_same : (t u r s : Text) → literal (text t) ++ r ≡ literal (text u) ++ s → (t ≡ u) × (r ≡ s)
quoted_same t u r s e =
    texts_read_once t u r s
    (sym (append_assoc (escaped t) (34 ∷ []) r) ∙ tail_same 34 34 ((escaped t ++ 34 ∷ []) ++ r) ((escaped u ++ 34 ∷ []) ++ s) e ∙ append_assoc (escaped u) (34 ∷ []) s)

pub whole_text : (t u : Text) → literal (text t) ≡ literal (text u) → t ≡ u
whole_text t u e = (quoted_same t u [] [] (append-nil (literal (text t)) ∙ e ∙ sym (append-nil (literal (text u))))).0

pub whole_value : (v u : Datum) → IsTrue (is_value v) → IsTrue (is_value u) → literal v ≡ literal u → v ≡ u
whole_value v u h k e = (values_read_once v u [] [] h k refl refl (append-nil (literal v) ∙ e ∙ sym (append-nil (literal u)))).0

pub values_hold : (vs : List Datum) → IsTrue (list_all is_value vs) → IsTrue (are_values (of_list vs))
values_hold [] h = refl
values_hold (v ∷ vs) h = both_hold (is_value v) (are_values (of_list vs)) (first_holds (is_value v) (list_all is_value vs) h) (values_hold vs (second_holds (is_value v) (list_all is_value vs) h))

pub list_back : (vs : List Datum) → to_list (of_list vs) ≡ vs
list_back [] = refl
list_back (v ∷ vs) = ap (λ us. v ∷ us) (list_back vs)

items_in : Datum → List Datum
items_in (list xs) = to_list xs
items_in _ = []

pub whole_list : (vs us : List Datum) → IsTrue (list_all is_value vs) → IsTrue (list_all is_value us) → list_literal vs ≡ list_literal us → vs ≡ us
unfolding items_in
whole_list vs us h k e =
    sym (list_back vs) ∙ ap items_in (whole_value (list (of_list vs)) (list (of_list us)) (values_hold vs h) (values_hold us k) e) ∙ list_back us

pub objects_hold : (os : List ℤ) → IsTrue (list_all in_number_range os) → IsTrue (list_all is_value (object_list os))
objects_hold [] h = refl
objects_hold (o ∷ os) h =
    both_hold (in_number_range o) (list_all is_value (object_list os)) (first_holds (in_number_range o) (list_all in_number_range os) h) (objects_hold os (second_holds (in_number_range o) (list_all in_number_range os) h))

numbers_in : List Datum → List ℤ
numbers_in [] = []
numbers_in (object o ∷ vs) = o ∷ numbers_in vs
numbers_in (_ ∷ vs) = numbers_in vs

numbers_back : (os : List ℤ) → numbers_in (object_list os) ≡ os
unfolding numbers_in
numbers_back [] = refl
numbers_back (o ∷ os) = ap (λ ps. o ∷ ps) (numbers_back os)

pub whole_objects : (os ps : List ℤ) → IsTrue (list_all in_number_range os) → IsTrue (list_all in_number_range ps) → list_literal (object_list os) ≡ list_literal (object_list ps) → os ≡ ps
whole_objects os ps h k e = sym (numbers_back os) ∙ ap numbers_in (whole_list (object_list os) (object_list ps) (objects_hold os h) (objects_hold ps k) e) ∙ numbers_back ps

pub texts_hold : (ts : List Text) → IsTrue (list_all is_text ts) → IsTrue (list_all is_value (text_list ts))
texts_hold [] h = refl
texts_hold (t ∷ ts) h = both_hold (is_text t) (list_all is_value (text_list ts)) (first_holds (is_text t) (list_all is_text ts) h) (texts_hold ts (second_holds (is_text t) (list_all is_text ts) h))

pub texts_in : List Datum → List Text
texts_in [] = []
texts_in (text t ∷ vs) = t ∷ texts_in vs
texts_in (_ ∷ vs) = texts_in vs

pub texts_back : (ts : List Text) → texts_in (text_list ts) ≡ ts
unfolding texts_in
texts_back [] = refl
texts_back (t ∷ ts) = ap (λ us. t ∷ us) (texts_back ts)

pub whole_texts : (ts us : List Text) → IsTrue (list_all is_text ts) → IsTrue (list_all is_text us) → list_literal (text_list ts) ≡ list_literal (text_list us) → ts ≡ us
whole_texts ts us h k e = sym (texts_back ts) ∙ ap texts_in (whole_list (text_list ts) (text_list us) (texts_hold ts h) (texts_hold us k) e) ∙ texts_back us

not_clear : (v : Datum) → IsTrue (is_value v) → literal v ≡ codes "clear" → ⊥
not_clear v h e = no_sixth v (sym (first_is v [] h) ∙ ap first_sort (append-nil (literal v) ∙ e))

pub whole_content : (a b : Option Datum) → IsTrue (content_holds a) → IsTrue (content_holds b) → content_text a ≡ content_text b → a ≡ b
whole_content None None h k e = refl
whole_content None (Some u) h k e = absurd (not_clear u k (sym e))
whole_content (Some v) None h k e = absurd (not_clear v h e)
whole_content (Some v) (Some u) h k e = ap Some (whole_value v u h k e)

-- ---- flags and bits

pub flag_same : (a b : Bool) (r s : Text) → flag a ++ r ≡ flag b ++ s → (a ≡ b) × (r ≡ s)
flag_same true true r s e = (refl, tail_same 49 49 r s e)
flag_same true false r s e = absurd (omega (arith, head_same 49 48 r s e))
flag_same false true r s e = absurd (omega (arith, head_same 48 49 r s e))
flag_same false false r s e = (refl, tail_same 48 48 r s e)

pub whole_flag : (a b : Bool) → flag a ≡ flag b → a ≡ b
whole_flag a b e = (flag_same a b [] [] (append-nil (flag a) ∙ e ∙ sym (append-nil (flag b)))).0

abbrev pub has : ℕ → Text → Bool
has c t = list_any (λ d. d == c) t

abbrev pub slot_letters : Bool → Bool → Bool → Text
slot_letters a b c = or_dash (letter_if (codes "r") a ++ (letter_if (codes "w") b ++ letter_if (codes "c") c))

pub three_bits : (a b c : Bool) → (has 114 (slot_letters a b c) ≡ a) × (has 119 (slot_letters a b c) ≡ b) × (has 99 (slot_letters a b c) ≡ c) × IsTrue (is_without 32 (slot_letters a b c)) × IsTrue (is_line (slot_letters a b c))
three_bits true true true = (refl, refl, refl, refl, refl)
three_bits true true false = (refl, refl, refl, refl, refl)
three_bits true false true = (refl, refl, refl, refl, refl)
three_bits true false false = (refl, refl, refl, refl, refl)
three_bits false true true = (refl, refl, refl, refl, refl)
three_bits false true false = (refl, refl, refl, refl, refl)
three_bits false false true = (refl, refl, refl, refl, refl)
three_bits false false false = (refl, refl, refl, refl, refl)

abbrev pub verb_letters : Bool → Bool → Bool → Bool → Text
verb_letters a b c d = or_dash (letter_if (codes "r") a ++ (letter_if (codes "w") b ++ (letter_if (codes "x") c ++ letter_if (codes "d") d)))

pub four_bits : (a b c d : Bool)
    → (has 114 (verb_letters a b c d) ≡ a) × (has 119 (verb_letters a b c d) ≡ b) × (has 120 (verb_letters a b c d) ≡ c) × (has 100 (verb_letters a b c d) ≡ d) × IsTrue (is_without 32 (verb_letters a b c d)) × IsTrue (is_line (verb_letters a b c d))
four_bits true true true true = (refl, refl, refl, refl, refl, refl)
four_bits true true true false = (refl, refl, refl, refl, refl, refl)
four_bits true true false true = (refl, refl, refl, refl, refl, refl)
four_bits true true false false = (refl, refl, refl, refl, refl, refl)
four_bits true false true true = (refl, refl, refl, refl, refl, refl)
four_bits true false true false = (refl, refl, refl, refl, refl, refl)
four_bits true false false true = (refl, refl, refl, refl, refl, refl)
four_bits true false false false = (refl, refl, refl, refl, refl, refl)
four_bits false true true true = (refl, refl, refl, refl, refl, refl)
four_bits false true true false = (refl, refl, refl, refl, refl, refl)
four_bits false true false true = (refl, refl, refl, refl, refl, refl)
four_bits false true false false = (refl, refl, refl, refl, refl, refl)
four_bits false false true true = (refl, refl, refl, refl, refl, refl)
four_bits false false true false = (refl, refl, refl, refl, refl, refl)
four_bits false false false true = (refl, refl, refl, refl, refl, refl)
four_bits false false false false = (refl, refl, refl, refl, refl, refl)

-- ---- words

digit_no_space : (c : ℕ) → IsTrue (is_digit c) → IsTrue (is_without 32 (c ∷ []))
digit_no_space c h = grind (arith, nat_tests)

pub digits_no_space : (t : Text) → IsTrue (are_digits t) → IsTrue (is_without 32 t)
digits_no_space [] h = refl
digits_no_space (c ∷ t) h =
    both_hold _ (is_without 32 t) (first_holds _ true (digit_no_space c (first_holds (is_digit c) (are_digits t) h))) (digits_no_space t (second_holds (is_digit c) (are_digits t) h))

part_of : Text → ObjectPart
part_of [] = no_object
part_of (c ∷ t) = cond (c == 110) no_object (cond (c == 97) any_object this_object)

part_back : (p : ObjectPart) → part_of (part_text p) ≡ p
unfolding part_of
part_back no_object = refl
part_back any_object = refl
part_back this_object = refl

pub whole_part : (p q : ObjectPart) → part_text p ≡ part_text q → p ≡ q
whole_part p q e = sym (part_back p) ∙ ap part_of e ∙ part_back q

pub part_no_space : (p : ObjectPart) → IsTrue (is_without 32 (part_text p))
part_no_space no_object = refl
part_no_space any_object = refl
part_no_space this_object = refl

no_digits : (c : ℕ) (t : Text) (n : ℕ) → is_digit c ≡ false → decimal n ≡ c ∷ t → ⊥
no_digits c t n i e =
    let k : IsTrue (are_digits (c ∷ t)) = subst (λ u. IsTrue (are_digits u)) e (decimal_digits n) in
    let j : IsTrue (is_digit c) = first_holds (is_digit c) (are_digits t) k in cc

pub whole_preposition : (p q : PrepositionPart) → IsTrue (preposition_holds p) → IsTrue (preposition_holds q) → preposition_number p ≡ preposition_number q → p ≡ q
whole_preposition no_preposition no_preposition h k e = refl
whole_preposition no_preposition any_preposition h k e = absurd (omega (arith, head_same 110 97 (codes "one") (codes "ny") e))
whole_preposition no_preposition (preposition_set n) h k e = absurd (no_digits 110 (codes "one") n refl (sym e))
whole_preposition any_preposition no_preposition h k e = absurd (omega (arith, head_same 97 110 (codes "ny") (codes "one") e))
whole_preposition any_preposition any_preposition h k e = refl
whole_preposition any_preposition (preposition_set n) h k e = absurd (no_digits 97 (codes "ny") n refl (sym e))
whole_preposition (preposition_set m) no_preposition h k e = absurd (no_digits 110 (codes "one") m refl e)
whole_preposition (preposition_set m) any_preposition h k e = absurd (no_digits 97 (codes "ny") m refl e)
whole_preposition (preposition_set m) (preposition_set n) h k e = ap preposition_set (whole_number m n h k e)

pub preposition_no_space : (p : PrepositionPart) → IsTrue (is_without 32 (preposition_number p))
preposition_no_space no_preposition = refl
preposition_no_space any_preposition = refl
preposition_no_space (preposition_set n) = digits_no_space (decimal n) (decimal_digits n)
