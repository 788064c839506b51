-- The slots of a program's names, found in a map of their places.
use Rattle.std.proofs.Common.{◌≡◌, ◌∙◌, refl, sym, ap, subst, ℕ, zero, suc, ◌+◌, ◌<◌, ◌≤◌, cond, List, [], ◌∷◌, ◌++◌, length, take, drop, Some, None, Bor, IsTrue, get_or, arith, ⊎_elim}
use Rattle.std.specs.Prelude.{slice_get}
use Rattle.std.specs.BTreeMap.{BTreeMap, UpdatesBy}
use Rattle.std.specs.Cmp.Lexicographic.{slice_cmp}
use Rattle.std.specs.Ordering.{nat_cmp}
use Rattle.std.proofs.lemmas.Bool.{lt-ltb, le-ltb, cases_lt}
use Rattle.std.proofs.lemmas.List.{append-nil, take-append-drop}
use Rattle.std.proofs.lemmas.Option.{slice_get-get_or}
use Rattle.spec_value.specs.Datum.{Text}
use Rattle.spec_world.specs.WellFormed.{names_once}
use Rattle.spec_world.proofs.SlotTables.{once_second}
use Rattle.moo_code.specs.Names.{starting_names}
use Rattle.moo_code.specs.Slots.{slot_of}
use Rattle.moo_code.proofs.Slots.{one_slot_for_name}
use Rattle.moo_program.specs.Names.{known, found_place, HasPlaces}
use Rattle.moo_program.proofs.Slots.{place_front, known_count, slot_starting, slot_own, starting_within, found_is, found_not, places_more}

-- ---- a name is found

some_place : (names : List Text) (x : Text) (i : ℕ) → slot_of names x ≡ i → i < length names → Some i ≡ found_place names x
some_place names x i is small = sym (ap (λ b. cond b (Some (slot_of names x)) None) (lt-ltb (slot_of names x) (length names) (omega (arith, is, small))) ∙ ap Some is)

no_place : (names : List Text) (x : Text) → length names ≤ slot_of names x → None ≡ found_place names x
no_place names x past = sym (ap (λ b. cond b (Some (slot_of names x)) None) (le-ltb (slot_of names x) (length names) past))

pub starting_alone : (x : Text) → slot_of (known []) x ≡ slot_of starting_names x
unfolding known
starting_alone x = ap (λ ns. slot_of ns x) (append-nil starting_names)

pub found_starting : (own : List Text) (x : Text) (i : ℕ) → i ≡ slot_of (known []) x → i < 17 → Some i ≡ found_place (known own) x
found_starting own x i is small =
    let at : slot_of starting_names x ≡ i = sym (is ∙ starting_alone x) in
    let here = slot_starting own x (omega (arith, at, small)) in
    let count = known_count own in some_place (known own) x i (here ∙ at) (omega (arith, small, count))

pub found_own : (own : List Text) (x : Text) (i k : ℕ) → i ≡ slot_of (known []) x → 17 ≤ i → found_place own x ≡ Some k → (k < length own) × (Some (17 + k) ≡ found_place (known own) x)
found_own own x i k is late found =
    let at : slot_of starting_names x ≡ i = sym (is ∙ starting_alone x) in
    let there = found_is own x k found in
    let inside = there.0 in
    let place = there.1 in
    let within = starting_within x in
    let whole = slot_own own x (omega (arith, at, late)) in
    let count = known_count own in
    (inside, some_place (known own) x (17 + k) (omega (arith, whole, within, at, late, place)) (omega (arith, inside, count)))

pub found_nowhere : (own : List Text) (x : Text) (i : ℕ) → i ≡ slot_of (known []) x → 17 ≤ i → found_place own x ≡ None → None ≡ found_place (known own) x
found_nowhere own x i is late found =
    let at : slot_of starting_names x ≡ i = sym (is ∙ starting_alone x) in
    let place = found_not own x found in
    let within = starting_within x in
    let whole = slot_own own x (omega (arith, at, late)) in
    let count = known_count own in no_place (known own) x (omega (arith, whole, within, at, late, place, count))

-- ---- a map of places

own_once : (own : List Text) → IsTrue (names_once (known own)) → IsTrue (names_once own)
unfolding known
own_once own once = once_second starting_names own once

pub none_placed : (x : Text) → None ≡ found_place [] x
none_placed x = no_place [] x (omega arith)

taken_more : (own : List Text) (i : ℕ) (n d : Text) → i < length own → n ≡ get_or own i d → take i own ++ n ∷ [] ≡ take (suc i) own
taken_more [] i n d small is = absurd (omega (arith, small))
taken_more (y ∷ ys) zero n d small is = ap (λ m. m ∷ []) is
taken_more (y ∷ ys) (suc i) n d small is = ap (λ ns. y ∷ ns) (taken_more ys i n d (omega (arith, small)) is)

taken_count : (own : List Text) (i : ℕ) → i ≤ length own → length (take i own) ≡ i
taken_count own zero small = refl
taken_count [] (suc i) small = absurd (omega (arith, small))
taken_count (y ∷ ys) (suc i) small = ap suc (taken_count ys i (omega (arith, small)))

-- no name stands before itself
not_before : (own : List Text) (i : ℕ) (n : Text) → IsTrue (names_once own) → i < length own → slice_get own i ≡ Some n → length (take i own) ≤ slot_of (take i own) n
not_before own i n once small is = ⊎_elim
    (λ before.
    let at = place_front (take i own) (drop i own) n before in
    let whole = ap (λ ns. slot_of ns n) (take-append-drop i own) in
    let place = one_slot_for_name own i n once is in
    let count = taken_count own i (omega (arith, small)) in
    absurd (omega (arith, before, at, whole, place, count)))
    (λ behind. behind)
    (cases_lt (slot_of (take i own) n) (length (take i own)))

pub next_place : (own : List Text) (i : ℕ) (n key : Text) (m more : BTreeMap (Bor Text) ℕ) → IsTrue (names_once (known own)) → i < length own → n ≡ get_or own i n → key ≡ n → HasPlaces (take i own) m
    → UpdatesBy (λ x y. slice_cmp nat_cmp x.now y.now) (λ k. slice_cmp nat_cmp key k.now) m more (Some i) → HasPlaces (take (i + 1) own) more
next_place own i n key m more once small is keyed has updates =
    let count = taken_count own i (omega (arith, small)) in
    let here : slice_get own i ≡ Some n = slice_get-get_or own i n small ∙ ap Some (sym is) in
    let next : suc i ≡ i + 1 = omega arith in
    subst (λ ns. HasPlaces ns more) (taken_more own i n n small is ∙ ap (λ j. take j own) next)
    (places_more (take i own) n m more has (not_before own i n (own_once own once) small here)
    (subst (λ p. UpdatesBy (λ x y. slice_cmp nat_cmp x.now y.now) (λ k. slice_cmp nat_cmp n k.now) m more (Some p)) (sym count)
    (subst (λ q. UpdatesBy (λ x y. slice_cmp nat_cmp x.now y.now) (λ k. slice_cmp nat_cmp q k.now) m more (Some i)) keyed updates)))
