-- Characters and parts of texts and lists.
use Rattle.std.proofs.Common.{◌≡◌, ℕ, zero, suc, ◌+◌, ◌-◌, ◌<◌, List, [], ◌∷◌, ◌++◌, length, get_or, take, drop, ℤ, refl, ap, sym, ◌∙◌, arith, add-one, Some, None}
use Rattle.std.specs.Prelude.{slice_get, slice_set}
use Rattle.spec_value.specs.Datum.{Datum, text, list, of_list, joined}
use Rattle.spec_value.specs.Datum.{range_error}
use Rattle.spec_value.specs.Answer.{gives, raises, limited}
use Rattle.spec_value.specs.Indexing.{character, place_in, part_of, cut_of, text_index, list_index, list_part, text_with, list_with_part}
use Rattle.spec_value.specs.Places.{item_count, first_items, later_items}
use Rattle.std.proofs.Common.{min}
use Rattle.std.proofs.lemmas.List.{drop_all, take_all}
use Rattle.moo_value.proofs.Listing.{take_rest, item_count-of_list, item_at-of_list, first_items-of_list, later_items-of_list, of_list-append}

pub one_character : (t : List ℕ) (i : ℕ) → i < length t → character (slice_get t i) ≡ gives (text (take 1 (drop i t)))
one_character [] i h = absurd (omega arith)
one_character (c ∷ t) zero h = refl
one_character (c ∷ t) (suc i) h = one_character t i (omega arith)

set_between : (t : List ℕ) (i c : ℕ) → i < length t → slice_set t i c ≡ take i t ++ c ∷ drop (suc i) t
set_between [] i c h = absurd (omega arith)
set_between (d ∷ t) zero c h = refl
set_between (d ∷ t) (suc i) c h = ap (λ x. d ∷ x) (set_between t i c (omega arith))

pub with_character : (t u : List ℕ) (i : ℕ) → i < length t → length u ≡ 1 → text_with t (Some i) u ≡ limited (text (take i t ++ (u ++ drop (i + 1) t)))
with_character t [] i h e = absurd (omega arith)
with_character t (c ∷ []) i h e = rw add-one (ap (λ x. limited (text x)) (set_between t i c h))
with_character t (c ∷ d ∷ u) i h e = absurd (omega arith)

pub part_of_list : (xs : List Datum) (n m : ℕ) → first_items n (later_items m (of_list xs)) ≡ of_list (take n (drop m xs))
part_of_list xs n m = ap (first_items n) (later_items-of_list m xs) ∙ first_items-of_list n (drop m xs)

-- ---- what the calls answer, by the places that were found

pub index_of_text : (t : List ℕ) (i : ℤ) (p : ℕ) → Some p ≡ place_in (length t) i → p < length t → gives (text (take 1 (drop p t))) ≡ text_index t (place_in (length t) i)
index_of_text t i p e h = rw (← e) (sym (one_character t p h))

pub no_index_of_list : (xs : List Datum) (i : ℤ) → None ≡ place_in (length xs) i → raises range_error ≡ list_index (of_list xs) (place_in (item_count (of_list xs)) i)
no_index_of_list xs i e = rw (item_count-of_list xs, ← e) refl

pub index_of_list : (xs : List Datum) (i : ℤ) (p : ℕ) (d : Datum) → Some p ≡ place_in (length xs) i → p < length xs → gives (get_or xs p d) ≡ list_index (of_list xs) (place_in (item_count (of_list xs)) i)
index_of_list xs i p d e h = rw (item_count-of_list xs, ← e, item_at-of_list xs p d h) refl

pub no_range_of_list : (xs : List Datum) (a b : ℤ) → None ≡ part_of (length xs) a b → raises range_error ≡ list_part (of_list xs) (part_of (item_count (of_list xs)) a b)
no_range_of_list xs a b e = rw (item_count-of_list xs, ← e) refl

pub range_of_list : (xs : List Datum) (a b : ℤ) (s n : ℕ) → Some (s, n) ≡ part_of (length xs) a b → gives (list (of_list (take (n - s) (drop s xs)))) ≡ list_part (of_list xs) (part_of (item_count (of_list xs)) a b)
range_of_list xs a b s n e = rw (item_count-of_list xs, ← e, part_of_list xs (n - s) s) refl

pub set_in_text : (t u : List ℕ) (i : ℤ) (p : ℕ) → Some p ≡ place_in (length t) i → p < length t → length u ≡ 1 → limited (text (take p t ++ (u ++ drop (p + 1) t))) ≡ text_with t (place_in (length t) i) u
set_in_text t u i p e h k = rw (← e) (sym (with_character t u p h k))

-- ---- the first items and those behind them, however many there are

drop_min : (xs : List Datum) (n : ℕ) → drop (min n (length xs)) xs ≡ drop n xs
drop_min [] n = let e : min n 0 ≡ 0 = omega arith in rw e (sym (drop_all n [] (omega arith)))
drop_min (x ∷ xs) zero = let e : min 0 (length (x ∷ xs)) ≡ 0 = omega arith in ap (λ k. drop k (x ∷ xs)) e
drop_min (x ∷ xs) (suc n) = let e : min (suc n) (suc (length xs)) ≡ suc (min n (length xs)) = omega arith in ap (λ k. drop k (x ∷ xs)) e ∙ drop_min xs n

pub take_min : (xs : List Datum) (n : ℕ) → take (min n (length xs)) xs ≡ take n xs
take_min [] n = let e : min n 0 ≡ 0 = omega arith in rw e (sym (take_all n [] (omega arith)))
take_min (x ∷ xs) zero = let e : min 0 (length (x ∷ xs)) ≡ 0 = omega arith in ap (λ k. take k (x ∷ xs)) e
take_min (x ∷ xs) (suc n) = let e : min (suc n) (suc (length xs)) ≡ suc (min n (length xs)) = omega arith in ap (λ k. take k (x ∷ xs)) e ∙ ap (λ ys. x ∷ ys) (take_min xs n)

pub behind_is : (xs : List Datum) (n m : ℕ) → m ≡ min n (length xs) → of_list (take (length xs - m) (drop m xs)) ≡ later_items n (of_list xs)
behind_is xs n m e =
    ap of_list (take_rest xs m) ∙ ap (λ k. of_list (drop k xs)) e ∙ ap of_list (drop_min xs n) ∙ sym (later_items-of_list n xs)
