-- What operators and functions answer for values is a value, and one that nests no deeper than it may.
use Rattle.std.proofs.Common.{◌≡◌, ℕ, zero, suc, ◌-◌, ◌%◌, ◌==◌, ◌^◌, min, ℤ, pos, negsuc, neg_ℤ, ◌+ℤ◌, ◌-ℤ◌, ◌*ℤ◌, Bool, true, false, not, List, [], ◌∷◌, ◌++◌, length, take, drop, slice_get, slice_set, Option, Some, None, IsTrue, refl, if◌then◌else◌, arith, int_div, int_rem}
use Rattle.std.specs.Int.{w32, int_min, int_max, int_wrapping_div, cast_unsigned}
use Rattle.std.specs.Ordering.{int_eq, nat_cmp}
use Rattle.std.specs.Cmp.Lexicographic.{slice_cmp}
use Rattle.std.specs.declared.cmp.Ordering.{Ordering}
use Rattle.std.specs.declared.cmp.Ordering.TheVariants.{Less, Equal, Greater}
use Rattle.spec_value.specs.Datum.{Text, is_text, is_character, ErrorCode, error_number, no_error, type_mismatch, zero_division, permission_denied, property_not_found, verb_not_found, variable_not_found, invalid_indirection, recursive_move, too_many_calls, range_error, wrong_argument_count, move_refused, invalid_argument, limit_exceeded, float_error, Datum, integer, object, text, error, list, Data, no_data, item, of_list, to_list, append, joined, in_number_range, is_value, are_values, same, is_true}
use Rattle.spec_value.specs.Answer.{Answer, gives, raises, is_allowed, limited, limited_answer, truth, count}
use Rattle.spec_value.specs.Order.{order}
use Rattle.spec_value.specs.Operators.{negation, not_true, plus, minus, times, divided_by, remainder_by, to_the, equals, differs, less, less_or_equal, greater, greater_or_equal, is_in, quotient, remainder, inverse_power, power, alike, is_less, is_greater, compared, first_place, counted, sum, of_integers, membership}
use Rattle.spec_value.specs.Places.{item_count, item_at, with_item, inserted, without, first_items, later_items}
use Rattle.spec_value.specs.Indexing.{place_in, given, character, text_index, list_index, part_of, text_part, list_part, text_with, list_with_item, cut_of, text_with_part, list_with_part}
use Rattle.spec_value.specs.Scatter.{TargetKind, required_target, optional_target, rest_target, required_count, first_of, shares, gets, refuses, goes_to, filled_count}
use Rattle.spec_value.specs.TextSearch.{first_at, last_at}
use Rattle.spec_value.specs.PureBuiltins.{kind_of, without_spaces, numeral, positive, negative, signed_number, after_mark, to_number, to_object, length_of, is_member, listappend, listinsert, deleted, listdelete, set_at, listset, added, setadd, removed, setremove, case_counts, index, rindex, compared_number, strcmp, replaced_text, strsub, absolute, chosen, best, PureFunction, typeof_row, tostr_row, toliteral_row, toint_row, toobj_row, equal_row, length_row, is_member_row, listappend_row, listinsert_row, listdelete_row, listset_row, setadd_row, setremove_row, index_row, rindex_row, strcmp_row, strsub_row, abs_row, min_row, max_row, takes, of_one, of_two, of_three, row}
use Rattle.spec_value.proofs.Entries.{first_holds, second_holds, both_hold}
use Rattle.spec_values_kept.specs.Values.{IsValue, AreValues, AnswerHolds, IsKept, AnswerKept, UnaryGives, BinaryGives, IndexesGive, IndexesKeep, RangesGive, RangesKeep, ItemsPut, RangesPut, Each, IfThere, AreData, ScatteringHolds, ScattersGive, ScatteringKept, ScattersKeep, CallsGive}
use Rattle.spec_values_kept.proofs.Texts.{text_then, text_onto, text_take, text_drop, CharacterHolds, text_at, text_with as text_put, literal_text, texts_joined, text_replaced}
use Rattle.spec_values_kept.proofs.Nesting.{kept_value, answer_value, allowed_kept, first_kept, kept_item, first_ones_kept, later_ones_kept}
use Rattle.spec_values_kept.proofs.Numbers.{wrapped_in_range, cast_in_range, below_in_range, remainder_in_range, min_in_range, max_in_range, or_zero_in_range}

-- ---- lists of values

pub onto_data : (x : Datum) (xs : Data) → IsValue x → AreData xs → AreData (item x xs)
onto_data x xs h k = both_hold (is_value x) (are_values xs) h k

pub first_datum : (x : Datum) (xs : Data) → AreData (item x xs) → IsValue x
first_datum x xs h = first_holds (is_value x) (are_values xs) h

pub later_data : (x : Datum) (xs : Data) → AreData (item x xs) → AreData xs
later_data x xs h = second_holds (is_value x) (are_values xs) h

pub data_of : (vs : List Datum) → AreValues vs → AreData (of_list vs)
data_of [] h = refl
data_of (v ∷ vs) h = onto_data v (of_list vs) h.0 (data_of vs h.1)

pub list_of : (xs : Data) → AreData xs → AreValues (to_list xs)
list_of no_data h = tt
list_of (item x xs) h = (first_datum x xs h, list_of xs (later_data x xs h))

pub appended : (xs : Data) (v : Datum) → AreData xs → IsValue v → AreData (append xs v)
appended no_data v h k = onto_data v no_data k refl
appended (item x xs) v h k = onto_data x (append xs v) (first_datum x xs h) (appended xs v (later_data x xs h) k)

pub data_joined : (xs ys : Data) → AreData xs → AreData ys → AreData (joined xs ys)
data_joined no_data ys h k = k
data_joined (item x xs) ys h k = onto_data x (joined xs ys) (first_datum x xs h) (data_joined xs ys (later_data x xs h) k)

pub item_there : (xs : Data) (n : ℕ) → AreData xs → IfThere IsValue (item_at xs n)
item_there no_data n h = tt
item_there (item x xs) zero h = first_datum x xs h
item_there (item x xs) (suc n) h = item_there xs n (later_data x xs h)

item_put : (xs : Data) (n : ℕ) (v : Datum) → AreData xs → IsValue v → AreData (with_item xs n v)
item_put no_data n v h k = refl
item_put (item x xs) zero v h k = onto_data v xs k (later_data x xs h)
item_put (item x xs) (suc n) v h k = onto_data x (with_item xs n v) (first_datum x xs h) (item_put xs n v (later_data x xs h) k)

item_inserted : (xs : Data) (n : ℕ) (v : Datum) → AreData xs → IsValue v → AreData (inserted xs n v)
item_inserted no_data n v h k = onto_data v no_data k refl
item_inserted (item x xs) zero v h k = onto_data v (item x xs) k h
item_inserted (item x xs) (suc n) v h k = onto_data x (inserted xs n v) (first_datum x xs h) (item_inserted xs n v (later_data x xs h) k)

item_gone : (xs : Data) (n : ℕ) → AreData xs → AreData (without xs n)
item_gone no_data n h = refl
item_gone (item x xs) zero h = later_data x xs h
item_gone (item x xs) (suc n) h = onto_data x (without xs n) (first_datum x xs h) (item_gone xs n (later_data x xs h))

first_ones : (n : ℕ) (xs : Data) → AreData xs → AreData (first_items n xs)
first_ones zero xs h = refl
first_ones (suc n) no_data h = refl
first_ones (suc n) (item x xs) h = onto_data x (first_items n xs) (first_datum x xs h) (first_ones n xs (later_data x xs h))

later_ones : (n : ℕ) (xs : Data) → AreData xs → AreData (later_items n xs)
later_ones zero xs h = h
later_ones (suc n) no_data h = h
later_ones (suc n) (item x xs) h = later_ones n xs (later_data x xs h)

-- ---- answers

pub limit_gives : (v : Datum) → IsValue v → AnswerKept (limited v)
limit_gives v h = go (is_allowed v) refl
  where
    go : (b : Bool) → is_allowed v ≡ b → AnswerKept (if b then gives v else raises limit_exceeded)
    go true e = allowed_kept v e h
    go false e = tt

pub limited_gives : (a : Answer) → AnswerHolds a → AnswerKept (limited_answer a)
limited_gives (gives v) h = limit_gives v h
limited_gives (raises e) h = tt

pub truth_value : (b : Bool) → IsValue (truth b)
truth_value true = refl
truth_value false = refl

pub count_value : (n : ℕ) → IsValue (count n)
count_value n = below_in_range (min n (2 ^ 31 - 1)) (omega arith)

counted_value : (o : Option ℕ) → IsKept (counted o)
counted_value None = count_value 0
counted_value (Some n) = count_value (suc n)

-- ---- operators

quotient_gives : (m n : ℤ) → AnswerKept (quotient m n)
quotient_gives m n = go (int_eq n (pos 0))
  where
    go : (b : Bool) → AnswerKept (if b then raises zero_division else gives (integer (int_wrapping_div w32 m n)))
    go true = tt
    go false = cast_in_range (cast_unsigned w32 (int_div m n))

remainder_gives : (m n : ℤ) → IsTrue (in_number_range m) → AnswerKept (remainder m n)
remainder_gives m n h = go (int_eq n (pos 0))
  where
    go : (b : Bool) → AnswerKept (if b then raises zero_division else gives (integer (int_rem m n)))
    go true = tt
    go false = remainder_in_range m n h

inverse_gives : (m : ℤ) (n : ℕ) → AnswerKept (inverse_power m n)
inverse_gives (pos zero) n = tt
inverse_gives (pos (suc zero)) n = refl
inverse_gives (pos (suc (suc m))) n = refl
inverse_gives (negsuc zero) n = go ((n % 2) == 0)
  where
    go : (b : Bool) → IsTrue (in_number_range (if b then negsuc 0 else pos 1))
    go true = refl
    go false = refl
inverse_gives (negsuc (suc m)) n = refl

power_gives : (m n : ℤ) → AnswerKept (power m n)
power_gives m (pos n) = cast_in_range ((cast_unsigned w32 m ^ n) % 2 ^ 32)
power_gives m (negsuc n) = inverse_gives m n

sum_gives : (a b : Datum) → IsValue a → IsValue b → AnswerKept (sum a b)
sum_gives (integer m) (integer n) h k = wrapped_in_range (m +ℤ n)
sum_gives (text s) (text t) h k = limit_gives (text (s ++ t)) (text_then s t h k)
sum_gives _ _ h k = tt

of_integers_gives : (f : ℤ → ℤ → Answer) (a b : Datum) → IsValue a → IsValue b
    → ((m n : ℤ) → IsTrue (in_number_range m) → IsTrue (in_number_range n) → AnswerKept (f m n)) → AnswerKept (of_integers f a b)
of_integers_gives f (integer m) (integer n) h k more = more m n h k
of_integers_gives f _ _ h k more = tt

compared_gives : (test : Ordering → Bool) (o : Option Ordering) → AnswerKept (compared test o)
compared_gives test None = tt
compared_gives test (Some o) = truth_value (test o)

membership_gives : (a b : Datum) → AnswerKept (membership a b)
membership_gives a (list xs) = counted_value (first_place (alike a) xs)
membership_gives a _ = tt

pub unary_gives : UnaryGives
unary_gives negation (integer m) h = wrapped_in_range (neg_ℤ m)
unary_gives negation _ h = tt
unary_gives not_true v h = truth_value (not (is_true v))

pub binary_gives : BinaryGives
binary_gives plus a b h k = sum_gives a b h k
binary_gives minus a b h k = of_integers_gives _ a b h k (λ m n i j. wrapped_in_range (m -ℤ n))
binary_gives times a b h k = of_integers_gives _ a b h k (λ m n i j. wrapped_in_range (m *ℤ n))
binary_gives divided_by a b h k = of_integers_gives quotient a b h k (λ m n i j. quotient_gives m n)
binary_gives remainder_by a b h k = of_integers_gives remainder a b h k (λ m n i j. remainder_gives m n i)
binary_gives to_the a b h k = of_integers_gives power a b h k (λ m n i j. power_gives m n)
binary_gives equals a b h k = truth_value (alike a b)
binary_gives differs a b h k = truth_value (not (alike a b))
binary_gives less a b h k = compared_gives is_less (order a b)
binary_gives less_or_equal a b h k = compared_gives (λ o. not (is_greater o)) (order a b)
binary_gives greater a b h k = compared_gives is_greater (order a b)
binary_gives greater_or_equal a b h k = compared_gives (λ o. not (is_less o)) (order a b)
binary_gives is_in a b h k = membership_gives a b

-- ---- items and ranges

given_gives : (o : Option Datum) → IfThere IsValue o → AnswerHolds (given o)
given_gives None h = tt
given_gives (Some v) h = h

character_gives : (o : Option ℕ) → CharacterHolds o → AnswerHolds (character o)
character_gives None h = tt
character_gives (Some c) h = text_onto c [] h refl

pub indexes_give : IndexesGive
indexes_give (text t) (integer i) h = go (place_in (length t) i)
  where
    go : (o : Option ℕ) → AnswerHolds (text_index t o)
    go None = tt
    go (Some n) = character_gives (slice_get t n) (text_at t n h)
indexes_give (list xs) (integer i) h = go (place_in (item_count xs) i)
  where
    go : (o : Option ℕ) → AnswerHolds (list_index xs o)
    go None = tt
    go (Some n) = given_gives (item_at xs n) (item_there xs n h)
indexes_give _ _ h = tt

pub ranges_give : RangesGive
ranges_give (text t) (integer a) (integer b) h = go (part_of (length t) a b)
  where
    go : (o : Option (ℕ × ℕ)) → AnswerHolds (text_part t o)
    go None = tt
    go (Some p) = text_take (p.1 - p.0) (drop p.0 t) (text_drop p.0 t h)
ranges_give (list xs) (integer a) (integer b) h = go (part_of (item_count xs) a b)
  where
    go : (o : Option (ℕ × ℕ)) → AnswerHolds (list_part xs o)
    go None = tt
    go (Some p) = first_ones (p.1 - p.0) (later_items p.0 xs) (later_ones p.0 xs h)
ranges_give _ _ _ h = tt

-- parts of values that are kept are kept

given_keeps : (o : Option Datum) → IfThere IsKept o → AnswerKept (given o)
given_keeps None h = tt
given_keeps (Some v) h = h

character_keeps : (o : Option ℕ) → CharacterHolds o → AnswerKept (character o)
character_keeps None h = tt
character_keeps (Some c) h = text_onto c [] h refl

pub indexes_keep : IndexesKeep
indexes_keep (text t) (integer i) h = go (place_in (length t) i)
  where
    go : (o : Option ℕ) → AnswerKept (text_index t o)
    go None = tt
    go (Some n) = character_keeps (slice_get t n) (text_at t n h)
indexes_keep (list xs) (integer i) h = go (place_in (item_count xs) i)
  where
    go : (o : Option ℕ) → AnswerKept (list_index xs o)
    go None = tt
    go (Some n) = given_keeps (item_at xs n) (kept_item xs n h)
indexes_keep _ _ h = tt

pub ranges_keep : RangesKeep
ranges_keep (text t) (integer a) (integer b) h = go (part_of (length t) a b)
  where
    go : (o : Option (ℕ × ℕ)) → AnswerKept (text_part t o)
    go None = tt
    go (Some p) = text_take (p.1 - p.0) (drop p.0 t) (text_drop p.0 t h)
ranges_keep (list xs) (integer a) (integer b) h = go (part_of (item_count xs) a b)
  where
    go : (o : Option (ℕ × ℕ)) → AnswerKept (list_part xs o)
    go None = tt
    go (Some p) = first_ones_kept (p.1 - p.0) (later_items p.0 xs) (later_ones_kept p.0 xs h)
ranges_keep _ _ _ h = tt

-- with a part replaced, they are limited

text_with_gives : (t : Text) (o : Option ℕ) (u : Text) → IsTrue (is_text t) → IsTrue (is_text u) → AnswerKept (text_with t o u)
text_with_gives t None u h k = tt
text_with_gives t (Some i) [] h k = tt
text_with_gives t (Some i) (c ∷ []) h k = limit_gives (text (slice_set t i c)) (text_put t i c h (first_holds (is_character c) true k))
text_with_gives t (Some i) (c ∷ d ∷ u) h k = tt

pub items_put : ItemsPut
items_put (text t) (integer i) (text u) h k = text_with_gives t (place_in (length t) i) u h k
items_put (list xs) (integer i) v h k = go (place_in (item_count xs) i)
  where
    go : (o : Option ℕ) → AnswerKept (list_with_item xs o v)
    go None = tt
    go (Some n) = limit_gives (list (with_item xs n v)) (item_put xs n v h k)
items_put _ _ _ h k = tt

pub ranges_put : RangesPut
ranges_put (text t) (integer a) (integer b) (text u) h k = go (cut_of (length t) a b)
  where
    go : (o : Option (ℕ × ℕ)) → AnswerKept (text_with_part t o u)
    go None = tt
    go (Some p) = limit_gives (text (take p.0 t ++ (u ++ drop p.1 t))) (text_then (take p.0 t) (u ++ drop p.1 t) (text_take p.0 t h) (text_then u (drop p.1 t) k (text_drop p.1 t h)))
ranges_put (list xs) (integer a) (integer b) (list ys) h k = go (cut_of (item_count xs) a b)
  where
    go : (o : Option (ℕ × ℕ)) → AnswerKept (list_with_part xs o ys)
    go None = tt
    go (Some p) =
        limit_gives (list (joined (first_items p.0 xs) (joined ys (later_items p.1 xs))))
        (data_joined (first_items p.0 xs) (joined ys (later_items p.1 xs)) (first_ones p.0 xs h) (data_joined ys (later_items p.1 xs) k (later_ones p.1 xs h)))
ranges_put _ _ _ _ h k = tt

-- ---- scatterings

first_share : (xs : Data) → AreData xs → IfThere IsValue (first_of xs)
first_share no_data h = tt
first_share (item x xs) h = first_datum x xs h

shares_hold : (ks : List TargetKind) (filled left : ℕ) (xs : Data) → AreData xs → Each (IfThere IsValue) (shares ks filled left xs)
shares_hold [] filled left xs h = tt
shares_hold (required_target ∷ ks) filled left xs h = (first_share xs h, shares_hold ks filled left (later_items 1 xs) (later_ones 1 xs h))
shares_hold (optional_target ∷ ks) zero left xs h = (tt, shares_hold ks zero left xs h)
shares_hold (optional_target ∷ ks) (suc filled) left xs h = (first_share xs h, shares_hold ks filled left (later_items 1 xs) (later_ones 1 xs h))
shares_hold (rest_target ∷ ks) filled left xs h = (first_ones left xs h, shares_hold ks filled left (later_items left xs) (later_ones left xs h))

pub scatters_give : ScattersGive
scatters_give ks (list xs) h = go (goes_to ks (item_count xs))
  where
    go : (b : Bool)
        → ScatteringHolds (if b then gets (shares ks (filled_count ks (item_count xs)) (item_count xs - required_count ks - filled_count ks (item_count xs)) xs) else refuses wrong_argument_count)
    go true = shares_hold ks _ _ xs h
    go false = tt
scatters_give ks _ h = tt

first_kept_share : (xs : Data) → IsKept (list xs) → IfThere IsKept (first_of xs)
first_kept_share no_data h = tt
first_kept_share (item x xs) h = first_kept x xs h

shares_kept : (ks : List TargetKind) (filled left : ℕ) (xs : Data) → IsKept (list xs) → Each (IfThere IsKept) (shares ks filled left xs)
shares_kept [] filled left xs h = tt
shares_kept (required_target ∷ ks) filled left xs h = (first_kept_share xs h, shares_kept ks filled left (later_items 1 xs) (later_ones_kept 1 xs h))
shares_kept (optional_target ∷ ks) zero left xs h = (tt, shares_kept ks zero left xs h)
shares_kept (optional_target ∷ ks) (suc filled) left xs h = (first_kept_share xs h, shares_kept ks filled left (later_items 1 xs) (later_ones_kept 1 xs h))
shares_kept (rest_target ∷ ks) filled left xs h = (first_ones_kept left xs h, shares_kept ks filled left (later_items left xs) (later_ones_kept left xs h))

pub scatters_keep : ScattersKeep
scatters_keep ks (list xs) h = go (goes_to ks (item_count xs))
  where
    go : (b : Bool)
        → ScatteringKept (if b then gets (shares ks (filled_count ks (item_count xs)) (item_count xs - required_count ks - filled_count ks (item_count xs)) xs) else refuses wrong_argument_count)
    go true = shares_kept ks _ _ xs h
    go false = tt
scatters_keep ks _ h = tt

-- ---- functions of values

error_in_range : (e : ErrorCode) → IsTrue (in_number_range (pos (error_number e)))
error_in_range no_error = refl
error_in_range type_mismatch = refl
error_in_range zero_division = refl
error_in_range permission_denied = refl
error_in_range property_not_found = refl
error_in_range verb_not_found = refl
error_in_range variable_not_found = refl
error_in_range invalid_indirection = refl
error_in_range recursive_move = refl
error_in_range too_many_calls = refl
error_in_range range_error = refl
error_in_range wrong_argument_count = refl
error_in_range move_refused = refl
error_in_range invalid_argument = refl
error_in_range limit_exceeded = refl
error_in_range float_error = refl

positive_number : (o : Option ℕ) → IsTrue (in_number_range (positive o))
positive_number None = refl
positive_number (Some n) = or_zero_in_range (pos n)

negative_number : (o : Option ℕ) → IsTrue (in_number_range (negative o))
negative_number None = refl
negative_number (Some zero) = refl
negative_number (Some (suc n)) = or_zero_in_range (negsuc n)

signed_in_range : (t : Text) → IsTrue (in_number_range (signed_number t))
signed_in_range [] = refl
signed_in_range (c ∷ t) = go (c == 45) (c == 43)
  where
    go : (a b : Bool) → IsTrue (in_number_range (if a then negative (numeral t) else (if b then positive (numeral t) else positive (numeral (c ∷ t)))))
    go true b = negative_number (numeral t)
    go false true = positive_number (numeral t)
    go false false = positive_number (numeral (c ∷ t))

number_gives : (v : Datum) → IsValue v → AnswerHolds (to_number v)
number_gives (integer n) h = h
number_gives (object n) h = h
number_gives (text t) h = signed_in_range (without_spaces t)
number_gives (error e) h = error_in_range e
number_gives (list xs) h = tt

object_gives : (v : Datum) → IsValue v → AnswerHolds (to_object v)
object_gives (integer n) h = h
object_gives (object n) h = h
object_gives (text t) h = signed_in_range (after_mark (without_spaces t))
object_gives (error e) h = error_in_range e
object_gives (list xs) h = tt

pub length_gives : (v : Datum) → AnswerKept (length_of v)
length_gives (text t) = count_value (length t)
length_gives (list xs) = count_value (item_count xs)
length_gives (integer n) = tt
length_gives (object n) = tt
length_gives (error e) = tt

member_gives : (a b : Datum) → AnswerHolds (is_member a b)
member_gives a (list xs) = kept_value (counted (first_place (same a) xs)) (counted_value (first_place (same a) xs))
member_gives a _ = tt

append_gives : (vs : List Datum) → AreValues vs → AnswerHolds (listappend vs)
append_gives (list xs ∷ x ∷ []) h = appended xs x h.0 (h.1).0
append_gives (list xs ∷ x ∷ integer i ∷ []) h = item_inserted xs _ x h.0 (h.1).0
append_gives _ h = tt

insert_gives : (vs : List Datum) → AreValues vs → AnswerHolds (listinsert vs)
insert_gives (list xs ∷ x ∷ []) h = item_inserted xs 0 x h.0 (h.1).0
insert_gives (list xs ∷ x ∷ integer i ∷ []) h = item_inserted xs _ x h.0 (h.1).0
insert_gives _ h = tt

delete_gives : (a b : Datum) → IsValue a → AnswerHolds (listdelete a b)
delete_gives (list xs) (integer i) h = go (place_in (item_count xs) i)
  where
    go : (o : Option ℕ) → AnswerHolds (deleted xs o)
    go None = tt
    go (Some n) = item_gone xs n h
delete_gives _ _ h = tt

set_gives : (a x b : Datum) → IsValue a → IsValue x → AnswerHolds (listset a x b)
set_gives (list xs) x (integer i) h k = go (place_in (item_count xs) i)
  where
    go : (o : Option ℕ) → AnswerHolds (set_at xs o x)
    go None = tt
    go (Some n) = item_put xs n x h k
set_gives _ _ _ h k = tt

add_gives : (a x : Datum) → IsValue a → IsValue x → AnswerHolds (setadd a x)
add_gives (list xs) x h k = go (first_place (alike x) xs)
  where
    go : (o : Option ℕ) → AreData (added xs x o)
    go None = appended xs x h k
    go (Some n) = h
add_gives _ _ h k = tt

remove_gives : (a x : Datum) → IsValue a → AnswerHolds (setremove a x)
remove_gives (list xs) x h = go (first_place (alike x) xs)
  where
    go : (o : Option ℕ) → AreData (removed xs o)
    go None = h
    go (Some n) = item_gone xs n h
remove_gives _ _ h = tt

index_gives : (vs : List Datum) → AnswerHolds (index vs)
index_gives (text s ∷ text t ∷ cs) = kept_value (counted (first_at (case_counts cs) s t)) (counted_value (first_at (case_counts cs) s t))
index_gives _ = tt

rindex_gives : (vs : List Datum) → AnswerHolds (rindex vs)
rindex_gives (text s ∷ text t ∷ cs) = kept_value (counted (last_at (case_counts cs) s t)) (counted_value (last_at (case_counts cs) s t))
rindex_gives _ = tt

compared_in_range : (o : Ordering) → IsTrue (in_number_range (compared_number o))
compared_in_range Less = refl
compared_in_range Equal = refl
compared_in_range Greater = refl

strcmp_gives : (a b : Datum) → AnswerHolds (strcmp a b)
strcmp_gives (text s) (text t) = compared_in_range (slice_cmp nat_cmp s t)
strcmp_gives _ _ = tt

replaced_gives : (cased : Bool) (s t u : Text) → IsTrue (is_text s) → IsTrue (is_text u) → AnswerHolds (replaced_text cased s t u)
replaced_gives cased s [] u h k = tt
replaced_gives cased s (d ∷ t) u h k = text_replaced cased (d ∷ t) u 0 s k h

strsub_gives : (vs : List Datum) → AreValues vs → AnswerHolds (strsub vs)
strsub_gives (text s ∷ text t ∷ text u ∷ cs) h =
    replaced_gives (case_counts cs) s t u h.0 ((h.1).1).0
strsub_gives _ h = tt

absolute_gives : (v : Datum) → IsValue v → AnswerHolds (absolute v)
absolute_gives (integer (pos n)) h = h
absolute_gives (integer (negsuc n)) h = wrapped_in_range (pos (suc n))
absolute_gives _ h = tt

chosen_gives : (f : ℤ → ℤ → ℤ) → ((m n : ℤ) → IsTrue (in_number_range m) → IsTrue (in_number_range n) → IsTrue (in_number_range (f m n))) → (m : ℤ) (vs : List Datum)
    → IsTrue (in_number_range m) → AreValues vs → AnswerHolds (chosen f m vs)
chosen_gives f more m [] h k = h
chosen_gives f more m (integer n ∷ vs) h k = chosen_gives f more (f m n) vs (more m n h k.0) k.1
chosen_gives f more m (object n ∷ vs) h k = tt
chosen_gives f more m (text t ∷ vs) h k = tt
chosen_gives f more m (error e ∷ vs) h k = tt
chosen_gives f more m (list xs ∷ vs) h k = tt

best_gives : (f : ℤ → ℤ → ℤ) → ((m n : ℤ) → IsTrue (in_number_range m) → IsTrue (in_number_range n) → IsTrue (in_number_range (f m n))) → (vs : List Datum)
    → AreValues vs → AnswerHolds (best f vs)
best_gives f more (integer m ∷ vs) k = chosen_gives f more m vs k.0 k.1
best_gives f more _ k = tt

kind_value : (v : Datum) → IsValue (integer (pos (kind_of v)))
kind_value (integer n) = refl
kind_value (object n) = refl
kind_value (text t) = refl
kind_value (error e) = refl
kind_value (list xs) = refl

one_gives : (f : Datum → Answer) (vs : List Datum) → AreValues vs → ((v : Datum) → IsValue v → AnswerHolds (f v)) → AnswerHolds (of_one f vs)
one_gives f (v ∷ []) h more = more v h.0
one_gives f _ h more = tt

two_give : (f : Datum → Datum → Answer) (vs : List Datum) → AreValues vs → ((v u : Datum) → IsValue v → IsValue u → AnswerHolds (f v u)) → AnswerHolds (of_two f vs)
two_give f (v ∷ u ∷ []) h more = more v u h.0 (h.1).0
two_give f _ h more = tt

three_give : (f : Datum → Datum → Datum → Answer) (vs : List Datum) → AreValues vs → ((v u x : Datum) → IsValue v → IsValue u → IsValue x → AnswerHolds (f v u x))
    → AnswerHolds (of_three f vs)
three_give f (v ∷ u ∷ x ∷ []) h more =
    more v u x h.0 (h.1).0 ((h.1).1).0
three_give f _ h more = tt

row_gives : (f : PureFunction) (vs : List Datum) → AreValues vs → AnswerHolds (row f vs)
row_gives typeof_row vs h = one_gives _ vs h (λ v k. kind_value v)
row_gives tostr_row vs h = texts_joined vs h
row_gives toliteral_row vs h = one_gives _ vs h (λ v k. literal_text v k)
row_gives toint_row vs h = one_gives to_number vs h number_gives
row_gives toobj_row vs h = one_gives to_object vs h object_gives
row_gives equal_row vs h = two_give _ vs h (λ v u k l. truth_value (same v u))
row_gives length_row vs h = one_gives length_of vs h (λ v k. answer_value (length_of v) (length_gives v))
row_gives is_member_row vs h = two_give is_member vs h (λ v u k l. member_gives v u)
row_gives listappend_row vs h = append_gives vs h
row_gives listinsert_row vs h = insert_gives vs h
row_gives listdelete_row vs h = two_give listdelete vs h (λ v u k l. delete_gives v u k)
row_gives listset_row vs h = three_give listset vs h (λ v u x k l m. set_gives v u x k l)
row_gives setadd_row vs h = two_give setadd vs h (λ v u k l. add_gives v u k l)
row_gives setremove_row vs h = two_give setremove vs h (λ v u k l. remove_gives v u k)
row_gives index_row vs h = index_gives vs
row_gives rindex_row vs h = rindex_gives vs
row_gives strcmp_row vs h = two_give strcmp vs h (λ v u k l. strcmp_gives v u)
row_gives strsub_row vs h = strsub_gives vs h
row_gives abs_row vs h = one_gives absolute vs h absolute_gives
row_gives min_row vs h = best_gives int_min min_in_range vs h
row_gives max_row vs h = best_gives int_max max_in_range vs h

pub calls_give : CallsGive
calls_give f vs h = go (takes f (length vs))
  where
    go : (b : Bool) → AnswerKept (if b then limited_answer (row f vs) else raises wrong_argument_count)
    go true = limited_gives (row f vs) (row_gives f vs h)
    go false = tt
