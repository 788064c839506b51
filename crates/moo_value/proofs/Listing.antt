-- Lists of values.
use Rattle.std.proofs.Common.{◌≡◌, ◌↔◌, ℕ, zero, suc, ◌+◌, ◌<◌, ◌≤◌, Bool, IsTrue, List, [], ◌∷◌, ◌++◌, length, get_or, drop, refl, ap, sym, ◌∙◌, arith, add-one, take, ◌&&◌}
use Rattle.std.proofs.lemmas.Bool.Decides.{nat_tests}
use Rattle.std.proofs.Common.{◌⊎◌, ⊎_elim}
use Rattle.std.specs.List.{AllZip}
use Rattle.std.proofs.lemmas.List.Elements.{same_from_all_zip}
use Rattle.spec_value.specs.Datum.{is_value, are_values, weight, data_weight}
use Rattle.spec_value.specs.Datum.{Datum, Data, no_data, item, list, of_list, to_list, append, joined}
use Rattle.std.proofs.lemmas.List.{take_all, drop_all}
use Rattle.std.proofs.Common.{length-drop, insert, remove, Some, ◌==◌, min, ◌^◌, ◌-◌}
use Rattle.std.proofs.Math.ListN.{set}
use Rattle.spec_value.specs.Places.{item_count, item_at, with_item, inserted, without, first_items, later_items}
use Rattle.moo_value.specs.Depth.{depth, data_depth}
use Rattle.moo_value.specs.Parts.{with_part}

pub to_list-of_list : (ds : List Datum) → to_list (of_list ds) ≡ ds
to_list-of_list [] = refl
to_list-of_list (d ∷ ds) = ap (λ es. d ∷ es) (to_list-of_list ds)

pub of_list-to_list : (xs : Data) → of_list (to_list xs) ≡ xs
of_list-to_list no_data = refl
of_list-to_list (item d ds) = ap (item d) (of_list-to_list ds)

-- an item nests no deeper than all of them
pub depth_item : (ds : List Datum) (i : ℕ) (d : Datum) → i < length ds → depth (get_or ds i d) ≤ data_depth (of_list ds)
depth_item [] i d h = absurd (omega arith)
depth_item (x ∷ ds) zero d h = omega arith
depth_item (x ∷ ds) (suc i) d h = omega (arith, depth_item ds i d (omega arith))

pub list_inj : (xs ys : List Datum) → list (of_list xs) ≡ list (of_list ys) → xs ≡ ys
list_inj xs ys e =
    let f : of_list xs ≡ of_list ys = cc in
    sym (to_list-of_list xs) ∙ ap to_list f ∙ to_list-of_list ys

pub same_lists : (xs ys : List Datum) (r : Bool) → (IsTrue r ↔ xs ≡ ys) → (IsTrue r ↔ list (of_list xs) ≡ list (of_list ys))
same_lists xs ys r h = (λ t. ap (λ ds. list (of_list ds)) (h.0 t), λ e. h.1 (list_inj xs ys e))

pub are_values_more : (xs : List Datum) (i : ℕ) (d : Datum) → i < length xs → IsTrue (are_values (of_list (take i xs))) → IsTrue (is_value (get_or xs i d)) → IsTrue (are_values (of_list (take (i + 1) xs)))
are_values_more [] i d h before here = absurd (omega arith)
are_values_more (x ∷ xs) zero d h before here = grind (arith, nat_tests)
are_values_more (x ∷ xs) (suc i) d h before here =
    let rest : IsTrue (are_values (of_list (take i xs))) = grind (arith, nat_tests) in
    let more = are_values_more xs i d (omega arith) rest here in
    let first : IsTrue (is_value x) = grind (arith, nat_tests) in
    let all : IsTrue (is_value x && are_values (of_list (take (i + 1) xs))) = grind (arith, nat_tests) in
    rw add-one (rw add-one at all)

pub of_list-push : (xs : List Datum) (d : Datum) → of_list (xs ++ d ∷ []) ≡ append (of_list xs) d
of_list-push [] d = refl
of_list-push (x ∷ xs) d = ap (item x) (of_list-push xs d)

pub are_values-push : (ds : Data) (d : Datum) → IsTrue (are_values ds) → IsTrue (is_value d) → IsTrue (are_values (append ds d))
are_values-push no_data d h here = grind (arith, nat_tests)
are_values-push (item e ds) d h here =
    let rest = are_values-push ds d (grind (arith, nat_tests)) here in
    grind (arith, nat_tests)

pub are_values-with_item : (xs : Data) (i : ℕ) (y : Datum) → IsTrue (are_values xs) → IsTrue (is_value y) → IsTrue (are_values (with_item xs i y))
are_values-with_item no_data i y h here = h
are_values-with_item (item x xs) zero y h here = grind (arith, nat_tests)
are_values-with_item (item x xs) (suc i) y h here =
    let rest = are_values-with_item xs i y (grind (arith, nat_tests)) here in
    grind (arith, nat_tests)

pub are_values-inserted : (xs : Data) (i : ℕ) (y : Datum) → IsTrue (are_values xs) → IsTrue (is_value y) → IsTrue (are_values (inserted xs i y))
are_values-inserted no_data i y h here = grind (arith, nat_tests)
are_values-inserted (item x xs) zero y h here = grind (arith, nat_tests)
are_values-inserted (item x xs) (suc i) y h here =
    let rest = are_values-inserted xs i y (grind (arith, nat_tests)) here in
    grind (arith, nat_tests)

pub are_values-without : (xs : Data) (i : ℕ) → IsTrue (are_values xs) → IsTrue (are_values (without xs i))
are_values-without no_data i h = h
are_values-without (item x xs) zero h = grind (arith, nat_tests)
are_values-without (item x xs) (suc i) h =
    let rest = are_values-without xs i (grind (arith, nat_tests)) in
    grind (arith, nat_tests)

pub data_weight-append : (xs : Data) (y : Datum) → data_weight (append xs y) ≡ data_weight xs + weight y
data_weight-append no_data y = omega arith
data_weight-append (item x xs) y = omega (arith, data_weight-append xs y)

pub data_weight-inserted : (xs : Data) (i : ℕ) (y : Datum) → data_weight (inserted xs i y) ≡ data_weight xs + weight y
data_weight-inserted no_data i y = omega arith
data_weight-inserted (item x xs) zero y = omega arith
data_weight-inserted (item x xs) (suc i) y = omega (arith, data_weight-inserted xs i y)

pub data_weight-with_item : (xs : List Datum) (i : ℕ) (d y : Datum) → i < length xs → data_weight (with_item (of_list xs) i y) + weight (get_or xs i d) ≡ data_weight (of_list xs) + weight y
data_weight-with_item [] i d y h = absurd (omega arith)
data_weight-with_item (x ∷ xs) zero d y h = omega arith
data_weight-with_item (x ∷ xs) (suc i) d y h = omega (arith, data_weight-with_item xs i d y (omega arith))

pub data_weight-without : (xs : List Datum) (i : ℕ) (d : Datum) → i < length xs → data_weight (without (of_list xs) i) + weight (get_or xs i d) ≡ data_weight (of_list xs)
data_weight-without [] i d h = absurd (omega arith)
data_weight-without (x ∷ xs) zero d h = omega arith
data_weight-without (x ∷ xs) (suc i) d h = omega (arith, data_weight-without xs i d (omega arith))

pub data_weight-with_without : (xs : List Datum) (i : ℕ) (y : Datum) → i < length xs → data_weight (with_item (of_list xs) i y) ≡ data_weight (without (of_list xs) i) + weight y
data_weight-with_without [] i y h = absurd (omega arith)
data_weight-with_without (x ∷ xs) zero y h = omega arith
data_weight-with_without (x ∷ xs) (suc i) y h = omega (arith, data_weight-with_without xs i y (omega arith))

pub data_weight-parts : (xs : List Datum) (i : ℕ) → i < length xs → data_weight (without (of_list xs) i) ≡ data_weight (of_list (take i xs)) + data_weight (of_list (drop (suc i) xs))
data_weight-parts [] i h = absurd (omega arith)
data_weight-parts (x ∷ xs) zero h = omega arith
data_weight-parts (x ∷ xs) (suc i) h = omega (arith, data_weight-parts xs i (omega arith))

pub take_rest : (xs : List Datum) (n : ℕ) → take (length xs - n) (drop n xs) ≡ drop n xs
take_rest xs n = take_all (length xs - n) (drop n xs) (omega (arith, length-drop n xs))

pub data_weight-around : (xs : List Datum) (i : ℕ) → i < length xs → data_weight (without (of_list xs) i) ≡ data_weight (of_list (take i xs)) + data_weight (of_list (take (length xs - (i + 1)) (drop (i + 1) xs)))
data_weight-around xs i h = rw (take_rest xs (i + 1), add-one) (data_weight-parts xs i h)

pub of_list-set : (xs : List Datum) (i : ℕ) (y : Datum) → of_list (set xs i y) ≡ with_item (of_list xs) i y
of_list-set [] i y = refl
of_list-set (x ∷ xs) zero y = refl
of_list-set (x ∷ xs) (suc i) y = ap (item x) (of_list-set xs i y)

pub of_list-insert : (xs : List Datum) (i : ℕ) (y : Datum) → i ≤ length xs → of_list (insert xs i y) ≡ inserted (of_list xs) i y
of_list-insert [] zero y h = refl
of_list-insert [] (suc i) y h = absurd (omega arith)
of_list-insert (x ∷ xs) zero y h = refl
of_list-insert (x ∷ xs) (suc i) y h = ap (item x) (of_list-insert xs i y (omega arith))

pub of_list-remove : (xs : List Datum) (i : ℕ) → i < length xs → of_list (remove xs i) ≡ without (of_list xs) i
of_list-remove [] i h = absurd (omega arith)
of_list-remove (x ∷ xs) zero h = refl
of_list-remove (x ∷ xs) (suc i) h = ap (item x) (of_list-remove xs i (omega arith))

pub item_count-of_list : (xs : List Datum) → item_count (of_list xs) ≡ length xs
item_count-of_list [] = refl
item_count-of_list (x ∷ xs) = ap suc (item_count-of_list xs)

pub item_at-of_list : (xs : List Datum) (i : ℕ) (d : Datum) → i < length xs → item_at (of_list xs) i ≡ Some (get_or xs i d)
item_at-of_list [] i d h = absurd (omega arith)
item_at-of_list (x ∷ xs) zero d h = refl
item_at-of_list (x ∷ xs) (suc i) d h = item_at-of_list xs i d (omega arith)

-- what a sound list is
pub sound : (xs : Data) (w : ℕ) → IsTrue (are_values xs) → w ≡ min (data_weight xs) (2 ^ 32 - 1) → IsTrue (are_values xs && (w == min (data_weight xs) (2 ^ 32 - 1)))
sound xs w h e = grind (arith, nat_tests)

pub sound_values : (xs : Data) (w : ℕ) → IsTrue (are_values xs && (w == min (data_weight xs) (2 ^ 32 - 1))) → IsTrue (are_values xs)
sound_values xs w h = grind (arith, nat_tests)

pub sound_weight : (xs : Data) (w : ℕ) → IsTrue (are_values xs && (w == min (data_weight xs) (2 ^ 32 - 1))) → w ≡ min (data_weight xs) (2 ^ 32 - 1)
sound_weight xs w h = grind (arith, nat_tests)

-- the items behind `make_mut`, which may be a clone's
pub same_items : (xs ys : List Datum) {P R : Type 0} → (P → ys ≡ xs) → P ⊎ (AllZip (λ v w. w ≡ v) xs ys × R) → ys ≡ xs
same_items xs ys f h = ⊎_elim f (λ z. same_from_all_zip (λ v w. w ≡ v) xs ys z.0 (λ x y e. e)) h

pub within : (xs : List Datum) (i : ℕ) → i < item_count (of_list xs) → i < length xs
within xs i h = omega (arith, item_count-of_list xs)

pub up_to : (xs : List Datum) (i : ℕ) → i ≤ item_count (of_list xs) → i ≤ length xs
up_to xs i h = omega (arith, item_count-of_list xs)

-- ---- lists stay sound

abbrev IsSound : Data → ℕ → Type 0
IsSound xs w = IsTrue (are_values xs && (w == min (data_weight xs) (2 ^ 32 - 1)))

pub sound-append : (xs : Data) (w v u : ℕ) (y : Datum) → IsSound xs w → IsTrue (is_value y) → v ≡ min (weight y) (2 ^ 32 - 1) → u ≡ min (w + v) (2 ^ 32 - 1) → IsSound (append xs y) u
sound-append xs w v u y h k e f =
    let kept = sound_weight xs w h in
    sound (append xs y) u (are_values-push xs y (sound_values xs w h) k) (omega (arith, kept, data_weight-append xs y))

pub sound-inserted : (xs : Data) (i w v u : ℕ) (y : Datum) → IsSound xs w → IsTrue (is_value y) → v ≡ min (weight y) (2 ^ 32 - 1) → u ≡ min (w + v) (2 ^ 32 - 1) → IsSound (inserted xs i y) u
sound-inserted xs i w v u y h k e f =
    let kept = sound_weight xs w h in
    sound (inserted xs i y) u (are_values-inserted xs i y (sound_values xs w h) k) (omega (arith, kept, data_weight-inserted xs i y))

pub sound-with_item : (xs : List Datum) (i w o v u : ℕ) (y : Datum) → i < length xs → IsSound (of_list xs) w → IsTrue (is_value y) → o ≡ min (data_weight (without (of_list xs) i)) (2 ^ 32 - 1) → v ≡ min (weight y) (2 ^ 32 - 1) → u ≡ min (o + v) (2 ^ 32 - 1) → IsSound (with_item (of_list xs) i y) u
sound-with_item xs i w o v u y l h k e f g =
    sound (with_item (of_list xs) i y) u (are_values-with_item (of_list xs) i y (sound_values (of_list xs) w h) k) (omega (arith, data_weight-with_without xs i y l))

pub sound-without : (xs : Data) (i w o : ℕ) → IsSound xs w → o ≡ min (data_weight (without xs i)) (2 ^ 32 - 1) → IsSound (without xs i) o
sound-without xs i w o h e = sound (without xs i) o (are_values-without xs i (sound_values xs w h)) e

-- ---- parts of lists

pub first_items-of_list : (n : ℕ) (xs : List Datum) → first_items n (of_list xs) ≡ of_list (take n xs)
first_items-of_list zero xs = refl
first_items-of_list (suc n) [] = refl
first_items-of_list (suc n) (x ∷ xs) = ap (item x) (first_items-of_list n xs)

pub later_items-of_list : (n : ℕ) (xs : List Datum) → later_items n (of_list xs) ≡ of_list (drop n xs)
later_items-of_list zero xs = refl
later_items-of_list (suc n) [] = refl
later_items-of_list (suc n) (x ∷ xs) = later_items-of_list n xs

pub of_list-append : (xs ys : List Datum) → of_list (xs ++ ys) ≡ joined (of_list xs) (of_list ys)
of_list-append [] ys = refl
of_list-append (x ∷ xs) ys = ap (item x) (of_list-append xs ys)

-- ---- lists with other items in the place of a part

pub around_part : (xs ys : List Datum) (n m : ℕ) → with_part (of_list xs) n m (of_list ys) ≡ of_list (take n xs ++ (ys ++ drop m xs))
around_part xs ys n m =
    ap (λ a. joined a (joined (of_list ys) (later_items m (of_list xs)))) (first_items-of_list n xs)
    ∙ ap (λ b. joined (of_list (take n xs)) (joined (of_list ys) b)) (later_items-of_list m xs)
    ∙ ap (joined (of_list (take n xs))) (sym (of_list-append ys (drop m xs)))
    ∙ sym (of_list-append (take n xs) (ys ++ drop m xs))

joined_nothing : (ys : Data) → joined ys no_data ≡ ys
joined_nothing no_data = refl
joined_nothing (item y ys) = ap (item y) (joined_nothing ys)

first_of_nothing : (n : ℕ) → first_items n no_data ≡ no_data
first_of_nothing zero = refl
first_of_nothing (suc n) = refl

later_of_nothing : (n : ℕ) → later_items n no_data ≡ no_data
later_of_nothing zero = refl
later_of_nothing (suc n) = refl

pub part_of_nothing : (n m : ℕ) (ys : Data) → with_part no_data n m ys ≡ ys
part_of_nothing n m ys = ap (λ a. joined a (joined ys (later_items m no_data))) (first_of_nothing n) ∙ ap (joined ys) (later_of_nothing m) ∙ joined_nothing ys

pub data_weight-joined : (xs ys : Data) → data_weight (joined xs ys) ≡ data_weight xs + data_weight ys
data_weight-joined no_data ys = omega arith
data_weight-joined (item x xs) ys = omega (arith, data_weight-joined xs ys)

pub data_weight-cut : (n : ℕ) (xs : List Datum) → data_weight (of_list xs) ≡ data_weight (of_list (take n xs)) + data_weight (of_list (drop n xs))
data_weight-cut zero xs = omega arith
data_weight-cut (suc n) [] = omega arith
data_weight-cut (suc n) (x ∷ xs) = omega (arith, data_weight-cut n xs)

pub data_weight-three : (xs : List Datum) (n m : ℕ) → n ≤ m →
    data_weight (of_list xs) ≡ (data_weight (of_list (take n xs)) + data_weight (of_list (take (m - n) (drop n xs)))) + data_weight (of_list (drop m xs))
data_weight-three xs zero m h = let e : take {A = Datum} (m - 0) (drop {A = Datum} 0 xs) ≡ take m xs = ap (λ k. take k xs) (omega arith) in rw e (omega (arith, data_weight-cut m xs))
data_weight-three [] (suc n) m h =
    let here : take {A = Datum} (m - suc n) [] ≡ [] = take_all (m - suc n) [] (omega arith) in
    let behind : drop {A = Datum} m [] ≡ [] = drop_all m [] (omega arith) in
    rw (here, behind) (omega arith)
data_weight-three (x ∷ xs) (suc n) zero h = absurd (omega arith)
data_weight-three (x ∷ xs) (suc n) (suc m) h =
    let e : suc m - suc n ≡ m - n = omega arith in
    rw e (omega (arith, data_weight-three xs n m (omega arith)))

pub are_values-joined : (xs ys : Data) → IsTrue (are_values xs) → IsTrue (are_values ys) → IsTrue (are_values (joined xs ys))
are_values-joined no_data ys h k = k
are_values-joined (item x xs) ys h k =
    let rest = are_values-joined xs ys (grind (arith, nat_tests)) k in
    grind (arith, nat_tests)

pub are_values-first : (n : ℕ) (xs : Data) → IsTrue (are_values xs) → IsTrue (are_values (first_items n xs))
are_values-first zero xs h = grind (arith, nat_tests)
are_values-first (suc n) no_data h = h
are_values-first (suc n) (item x xs) h =
    let rest = are_values-first n xs (grind (arith, nat_tests)) in
    grind (arith, nat_tests)

pub are_values-later : (n : ℕ) (xs : Data) → IsTrue (are_values xs) → IsTrue (are_values (later_items n xs))
are_values-later zero xs h = h
are_values-later (suc n) no_data h = h
are_values-later (suc n) (item x xs) h = are_values-later n xs (grind (arith, nat_tests))

-- o: what stays weighs; v: what the other items weigh
pub sound-with_part : (xs : List Datum) (n m w o v u : ℕ) (ys : List Datum) → IsSound (of_list xs) w → IsTrue (are_values (of_list ys)) →
    o ≡ min (data_weight (of_list (take n xs)) + data_weight (of_list (drop m xs))) (2 ^ 32 - 1) → v ≡ min (data_weight (of_list ys)) (2 ^ 32 - 1) → u ≡ min (o + v) (2 ^ 32 - 1) →
    IsSound (with_part (of_list xs) n m (of_list ys)) u
sound-with_part xs n m w o v u ys h k e f g =
    let old = sound_values (of_list xs) w h in
    let values = are_values-joined (first_items n (of_list xs)) (joined (of_list ys) (later_items m (of_list xs))) (are_values-first n (of_list xs) old)
    (are_values-joined (of_list ys) (later_items m (of_list xs)) k (are_values-later m (of_list xs) old)) in
    let whole = data_weight-joined (first_items n (of_list xs)) (joined (of_list ys) (later_items m (of_list xs))) in
    let rest = data_weight-joined (of_list ys) (later_items m (of_list xs)) in
    let first = ap data_weight (first_items-of_list n xs) in
    let later = ap data_weight (later_items-of_list m xs) in
    sound (with_part (of_list xs) n m (of_list ys)) u values (omega (arith, whole, rest, first, later))
