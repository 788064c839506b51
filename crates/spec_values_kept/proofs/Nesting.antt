-- How deep lists nest, and what is made of values that nest no deeper than one of an allowed weight.
use Rattle.std.proofs.Common.{ℕ, zero, suc, ◌-◌, ◌^◌, ◌<◌, ◌≤◌, nat_le, List, [], ◌∷◌, IsTrue, refl, arith, le-leb, leb-true}
use Rattle.spec_value.specs.Datum.{Datum, integer, object, text, error, list, Data, no_data, item, append, joined, is_value, are_values, weight, data_weight}
use Rattle.spec_value.specs.Answer.{Answer, gives, raises, is_allowed, weight_limit}
use Rattle.spec_value.specs.Places.{item_at, first_items, later_items}
use Rattle.spec_value.proofs.Entries.{first_holds, second_holds, both_hold}
use Rattle.spec_world.specs.WellFormed.{count}
use Rattle.spec_values_kept.specs.Values.{nests_within, items_nest_within, is_counted, is_short, items_are_short, NestsByWeight, ShortByWeight, is_flat, has_short_items, is_nearly_flat, IsValue, IsKept, IsHeld, AreKept, AreValues, AreData, Each, IfThere, AnswerHolds, AnswerKept}

-- ---- by weight

mutual
  by_weight : (n : ℕ) (v : Datum) → weight v ≤ n → IsTrue (nests_within n v)
  by_weight n (integer z) l = refl
  by_weight n (object z) l = refl
  by_weight n (text t) l = refl
  by_weight n (error e) l = refl
  by_weight n (list xs) l =
      both_hold (nat_le 1 n) (items_nest_within (n - 1) xs) (le-leb 1 n (omega (arith, l))) (items_by_weight (n - 1) xs (omega (arith, l)))

  items_by_weight : (n : ℕ) (xs : Data) → data_weight xs ≤ n → IsTrue (items_nest_within n xs)
  items_by_weight n no_data l = refl
  items_by_weight n (item x xs) l =
      both_hold (nests_within n x) (items_nest_within n xs) (by_weight n x (omega (arith, l))) (items_by_weight n xs (omega (arith, l)))

pub nests_by_weight : NestsByWeight
nests_by_weight n v l = by_weight n v l

-- ---- what nests so deep nests no deeper than more

mutual
  pub nests_in_more : (m n : ℕ) (v : Datum) → m ≤ n → IsTrue (nests_within m v) → IsTrue (nests_within n v)
  nests_in_more m n (integer z) l h = refl
  nests_in_more m n (object z) l h = refl
  nests_in_more m n (text t) l h = refl
  nests_in_more m n (error e) l h = refl
  nests_in_more m n (list xs) l h =
      let k : 1 ≤ m = leb-true 1 m (first_holds (nat_le 1 m) (items_nest_within (m - 1) xs) h) in
      both_hold (nat_le 1 n) (items_nest_within (n - 1) xs) (le-leb 1 n (omega (arith, k, l)))
      (items_nest_in_more (m - 1) (n - 1) xs (omega (arith, l)) (second_holds (nat_le 1 m) (items_nest_within (m - 1) xs) h))

  pub items_nest_in_more : (m n : ℕ) (xs : Data) → m ≤ n → IsTrue (items_nest_within m xs) → IsTrue (items_nest_within n xs)
  items_nest_in_more m n no_data l h = refl
  items_nest_in_more m n (item x xs) l h =
      both_hold (nests_within n x) (items_nest_within n xs) (nests_in_more m n x l (first_holds (nests_within m x) (items_nest_within m xs) h))
      (items_nest_in_more m n xs l (second_holds (nests_within m x) (items_nest_within m xs) h))

-- ---- how long lists are

weighs_some : (v : Datum) → 1 ≤ weight v
weighs_some (integer z) = omega arith
weighs_some (object z) = omega arith
weighs_some (text t) = omega arith
weighs_some (error e) = omega arith
weighs_some (list xs) = omega arith

count_weighs : (xs : Data) → count xs ≤ data_weight xs
count_weighs no_data = omega arith
count_weighs (item x xs) = let l : 1 ≤ weight x = weighs_some x in let k : count xs ≤ data_weight xs = count_weighs xs in omega (arith, l, k)

pub counted_below : (xs : Data) → count xs < 2 ^ 31 → IsTrue (is_counted xs)
counted_below xs l = le-leb (suc (count xs)) (2 ^ 31) (omega (arith, l))

pub counted_so : (xs : Data) → IsTrue (is_counted xs) → count xs < 2 ^ 31
counted_so xs h = let l : suc (count xs) ≤ 2 ^ 31 = leb-true (suc (count xs)) (2 ^ 31) h in omega (arith, l)

mutual
  short_light : (v : Datum) → weight v < 2 ^ 31 → IsTrue (is_short v)
  short_light (integer z) l = refl
  short_light (object z) l = refl
  short_light (text t) l = refl
  short_light (error e) l = refl
  short_light (list xs) l =
      let k : count xs ≤ data_weight xs = count_weighs xs in
      both_hold (is_counted xs) (items_are_short xs) (counted_below xs (omega (arith, l, k))) (items_light xs (omega (arith, l)))

  items_light : (xs : Data) → data_weight xs < 2 ^ 31 → IsTrue (items_are_short xs)
  items_light no_data l = refl
  items_light (item x xs) l = both_hold (is_short x) (items_are_short xs) (short_light x (omega (arith, l))) (items_light xs (omega (arith, l)))

pub short_by_weight : ShortByWeight
short_by_weight v l = short_light v l

-- ---- values that are kept

pub kept_value : (v : Datum) → IsKept v → IsValue v
kept_value v h = second_holds (is_flat v) (is_value v) h

pub kept_flat : (v : Datum) → IsKept v → IsTrue (is_flat v)
kept_flat v h = first_holds (is_flat v) (is_value v) h

pub kept_of : (v : Datum) → IsTrue (is_flat v) → IsValue v → IsKept v
kept_of v h k = both_hold (is_flat v) (is_value v) h k

pub kept_nests : (v : Datum) → IsKept v → IsTrue (nests_within weight_limit v)
kept_nests v h = first_holds (nests_within weight_limit v) (is_short v) (kept_flat v h)

pub kept_short : (v : Datum) → IsKept v → IsTrue (is_short v)
kept_short v h = second_holds (nests_within weight_limit v) (is_short v) (kept_flat v h)

pub held_value : (v : Datum) → IsHeld v → IsValue v
held_value v h = second_holds (is_nearly_flat v) (is_value v) h

pub held_flat : (v : Datum) → IsHeld v → IsTrue (is_nearly_flat v)
held_flat v h = first_holds (is_nearly_flat v) (is_value v) h

pub held_of : (v : Datum) → IsTrue (is_nearly_flat v) → IsValue v → IsHeld v
held_of v h k = both_hold (is_nearly_flat v) (is_value v) h k

short_items : (v : Datum) → IsTrue (is_short v) → IsTrue (has_short_items v)
short_items (integer z) h = refl
short_items (object z) h = refl
short_items (text t) h = refl
short_items (error e) h = refl
short_items (list xs) h = second_holds (is_counted xs) (items_are_short xs) h

pub flat_nearly : (v : Datum) → IsTrue (is_flat v) → IsTrue (is_nearly_flat v)
flat_nearly v h =
    both_hold (nests_within (suc weight_limit) v) (has_short_items v)
    (nests_in_more weight_limit (suc weight_limit) v (omega arith) (first_holds (nests_within weight_limit v) (is_short v) h))
    (short_items v (second_holds (nests_within weight_limit v) (is_short v) h))

pub kept_held : (v : Datum) → IsKept v → IsHeld v
kept_held v h = held_of v (flat_nearly v (kept_flat v h)) (kept_value v h)

pub light_kept : (v : Datum) → weight v ≤ weight_limit → IsValue v → IsKept v
light_kept v l k =
    kept_of v (both_hold (nests_within weight_limit v) (is_short v) (by_weight weight_limit v l) (short_light v (omega (arith, l)))) k

pub allowed_kept : (v : Datum) → IsTrue (is_allowed v) → IsValue v → IsKept v
allowed_kept v h k = light_kept v (leb-true (weight v) weight_limit h) k

pub are_held : (vs : List Datum) → AreKept vs → Each IsHeld vs
are_held [] h = tt
are_held (v ∷ vs) h = (kept_held v h.0, are_held vs h.1)

pub kept_values : (vs : List Datum) → AreKept vs → AreValues vs
kept_values [] h = tt
kept_values (v ∷ vs) h = (kept_value v h.0, kept_values vs h.1)

pub held_values : (vs : List Datum) → Each IsHeld vs → AreValues vs
held_values [] h = tt
held_values (v ∷ vs) h = (held_value v h.0, held_values vs h.1)

pub answer_value : (a : Answer) → AnswerKept a → AnswerHolds a
answer_value (gives v) h = kept_value v h
answer_value (raises e) h = tt

-- ---- lists

-- the items of a list that is kept nest one list less
abbrev pub Shallow : Data → Type 0
Shallow xs = IsTrue (items_nest_within (weight_limit - 1) xs)

abbrev pub ShortItems : Data → Type 0
ShortItems xs = IsTrue (items_are_short xs)

pub kept_data : (xs : Data) → IsKept (list xs) → AreData xs
kept_data xs h = kept_value (list xs) h

pub items_of : (xs : Data) → IsKept (list xs) → Shallow xs
items_of xs h = second_holds (nat_le 1 weight_limit) (items_nest_within (weight_limit - 1) xs) (kept_nests (list xs) h)

pub kept_count : (xs : Data) → IsKept (list xs) → count xs < 2 ^ 31
kept_count xs h = counted_so xs (first_holds (is_counted xs) (items_are_short xs) (kept_short (list xs) h))

pub short_items_of : (xs : Data) → IsKept (list xs) → ShortItems xs
short_items_of xs h = second_holds (is_counted xs) (items_are_short xs) (kept_short (list xs) h)

pub list_kept : (xs : Data) → Shallow xs → count xs < 2 ^ 31 → ShortItems xs → AreData xs → IsKept (list xs)
list_kept xs h l i k =
    kept_of (list xs)
    (both_hold (nests_within weight_limit (list xs)) (is_short (list xs)) (both_hold (nat_le 1 weight_limit) (items_nest_within (weight_limit - 1) xs) refl h)
    (both_hold (is_counted xs) (items_are_short xs) (counted_below xs l) i))
    k

pub first_kept : (x : Datum) (xs : Data) → IsKept (list (item x xs)) → IsKept x
first_kept x xs h =
    kept_of x
    (both_hold (nests_within weight_limit x) (is_short x)
    (nests_in_more (weight_limit - 1) weight_limit x (omega arith) (first_holds (nests_within (weight_limit - 1) x) (items_nest_within (weight_limit - 1) xs) (items_of (item x xs) h)))
    (first_holds (is_short x) (items_are_short xs) (short_items_of (item x xs) h)))
    (first_holds (is_value x) (are_values xs) (kept_data (item x xs) h))

pub later_kept : (x : Datum) (xs : Data) → IsKept (list (item x xs)) → IsKept (list xs)
later_kept x xs h =
    let l : suc (count xs) < 2 ^ 31 = kept_count (item x xs) h in
    list_kept xs (second_holds (nests_within (weight_limit - 1) x) (items_nest_within (weight_limit - 1) xs) (items_of (item x xs) h)) (omega (arith, l))
    (second_holds (is_short x) (items_are_short xs) (short_items_of (item x xs) h)) (second_holds (is_value x) (are_values xs) (kept_data (item x xs) h))

-- a list that is no longer behind the first item
pub with_first : (x : Datum) (xs ys : Data) → count ys ≤ count xs → IsKept (list (item x xs)) → IsKept (list ys) → IsKept (list (item x ys))
with_first x xs ys l h k =
    let m : suc (count xs) < 2 ^ 31 = kept_count (item x xs) h in
    list_kept (item x ys)
    (both_hold (nests_within (weight_limit - 1) x) (items_nest_within (weight_limit - 1) ys)
    (first_holds (nests_within (weight_limit - 1) x) (items_nest_within (weight_limit - 1) xs) (items_of (item x xs) h)) (items_of ys k))
    (omega (arith, l, m))
    (both_hold (is_short x) (items_are_short ys) (first_holds (is_short x) (items_are_short xs) (short_items_of (item x xs) h)) (short_items_of ys k))
    (both_hold (is_value x) (are_values ys) (first_holds (is_value x) (are_values xs) (kept_data (item x xs) h)) (kept_data ys k))

pub kept_item : (xs : Data) (n : ℕ) → IsKept (list xs) → IfThere IsKept (item_at xs n)
kept_item no_data n h = tt
kept_item (item x xs) zero h = first_kept x xs h
kept_item (item x xs) (suc n) h = kept_item xs n (later_kept x xs h)

fewer_first : (n : ℕ) (xs : Data) → count (first_items n xs) ≤ count xs
fewer_first zero xs = omega arith
fewer_first (suc n) no_data = omega arith
fewer_first (suc n) (item x xs) = let l : count (first_items n xs) ≤ count xs = fewer_first n xs in omega (arith, l)

pub first_ones_kept : (n : ℕ) (xs : Data) → IsKept (list xs) → IsKept (list (first_items n xs))
first_ones_kept zero xs h = refl
first_ones_kept (suc n) no_data h = refl
first_ones_kept (suc n) (item x xs) h = with_first x xs (first_items n xs) (fewer_first n xs) h (first_ones_kept n xs (later_kept x xs h))

pub later_ones_kept : (n : ℕ) (xs : Data) → IsKept (list xs) → IsKept (list (later_items n xs))
later_ones_kept zero xs h = h
later_ones_kept (suc n) no_data h = h
later_ones_kept (suc n) (item x xs) h = later_ones_kept n xs (later_kept x xs h)

-- ---- lists so far

so_far : (xs : Data) → IsHeld (list xs) → IsTrue (items_nest_within weight_limit xs)
so_far xs h =
    second_holds (nat_le 1 (suc weight_limit)) (items_nest_within weight_limit xs)
    (first_holds (nests_within (suc weight_limit) (list xs)) (items_are_short xs) (held_flat (list xs) h))

short_so_far : (xs : Data) → IsHeld (list xs) → ShortItems xs
short_so_far xs h = second_holds (nests_within (suc weight_limit) (list xs)) (items_are_short xs) (held_flat (list xs) h)

list_held : (xs : Data) → IsTrue (items_nest_within weight_limit xs) → ShortItems xs → AreData xs → IsHeld (list xs)
list_held xs h i k =
    held_of (list xs)
    (both_hold (nests_within (suc weight_limit) (list xs)) (items_are_short xs) (both_hold (nat_le 1 (suc weight_limit)) (items_nest_within weight_limit xs) refl h) i) k

pub onto_held : (x : Datum) (xs : Data) → IsKept x → IsHeld (list xs) → IsHeld (list (item x xs))
onto_held x xs h k =
    list_held (item x xs) (both_hold (nests_within weight_limit x) (items_nest_within weight_limit xs) (kept_nests x h) (so_far xs k))
    (both_hold (is_short x) (items_are_short xs) (kept_short x h) (short_so_far xs k))
    (both_hold (is_value x) (are_values xs) (kept_value x h) (held_value (list xs) k))

first_held : (x : Datum) (xs : Data) → IsHeld (list (item x xs)) → IsKept x
first_held x xs h =
    kept_of x
    (both_hold (nests_within weight_limit x) (is_short x) (first_holds (nests_within weight_limit x) (items_nest_within weight_limit xs) (so_far (item x xs) h))
    (first_holds (is_short x) (items_are_short xs) (short_so_far (item x xs) h)))
    (first_holds (is_value x) (are_values xs) (held_value (list (item x xs)) h))

later_held : (x : Datum) (xs : Data) → IsHeld (list (item x xs)) → IsHeld (list xs)
later_held x xs h =
    list_held xs (second_holds (nests_within weight_limit x) (items_nest_within weight_limit xs) (so_far (item x xs) h))
    (second_holds (is_short x) (items_are_short xs) (short_so_far (item x xs) h)) (second_holds (is_value x) (are_values xs) (held_value (list (item x xs)) h))

pub appended_held : (xs : Data) (v : Datum) → IsHeld (list xs) → IsKept v → IsHeld (list (append xs v))
appended_held no_data v h k = onto_held v no_data k refl
appended_held (item x xs) v h k = onto_held x (append xs v) (first_held x xs h) (appended_held xs v (later_held x xs h) k)

pub joined_held : (xs ys : Data) → IsHeld (list xs) → IsHeld (list ys) → IsHeld (list (joined xs ys))
joined_held no_data ys h k = k
joined_held (item x xs) ys h k = onto_held x (joined xs ys) (first_held x xs h) (joined_held xs ys (later_held x xs h) k)
