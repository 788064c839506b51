-- Where names stand in joined lists, and a map of their places.
use Rattle.std.proofs.Common.{◌≡◌, ◌≢◌, ℕ, suc, ◌+◌, ◌-◌, ◌<◌, ◌≤◌, ◌||◌, Bool, true, false, cond, List, [], ◌∷◌, ◌++◌, length, refl, ap, sym, subst, ◌∙◌, arith, length-append, Option, Some, None, Bor, ⊎_elim}
use Rattle.std.specs.BTreeMap.{BTreeMap, UpdatesBy, get_by}
use Rattle.std.specs.Cmp.Lexicographic.{slice_cmp}
use Rattle.std.specs.Ordering.{nat_cmp}
use Rattle.std.specs.Bool.{nat_lt}
use Rattle.std.specs.Str.{bytes_eq}
use Rattle.std.proofs.lemmas.List.{append_assoc}
use Rattle.std.proofs.lemmas.Map.Text.{btree_map_updates_str}
use Rattle.std.proofs.lemmas.Slice.Eq.{bytes_eq-Decides}
use Rattle.std.proofs.lemmas.Bool.{lt-ltb, le-ltb, ltb-true, ltb-false, cases_lt}
use Rattle.spec_value.specs.Datum.{Text, same_text}
use Rattle.spec_world.specs.WellFormed.{has_name}
use Rattle.spec_world.proofs.SlotTables.{text_turned}
use Rattle.moo_code.specs.Names.{with_names, starting_names}
use Rattle.moo_code.specs.Slots.{slot_of}
use Rattle.moo_program.specs.Names.{known, found_place, HasPlaces}
use Rattle.moo_program.specs.Meaning.{name_at}

within : (b : Bool) (n m : ℕ) → n ≤ m → cond b 0 (suc n) ≤ suc m
within true n m h = omega arith
within false n m h = omega arith

pub place_within : (names : List Text) (x : Text) → slot_of names x ≤ length names
place_within [] x = omega arith
place_within (y ∷ ys) x = within (same_text x y) (slot_of ys x) (length ys) (place_within ys x)

front : (b : Bool) (n m k : ℕ) → (n < k → m ≡ n) → cond b 0 (suc n) < suc k → cond b 0 (suc m) ≡ cond b 0 (suc n)
front true n m k e h = refl
front false n m k e h = ap suc (e (omega arith))

-- one that is there
pub place_front : (a b : List Text) (x : Text) → slot_of a x < length a → slot_of (a ++ b) x ≡ slot_of a x
place_front [] b x h = absurd (omega arith)
place_front (y ∷ ys) b x h = front (same_text x y) (slot_of ys x) (slot_of (ys ++ b) x) (length ys) (place_front ys b x) h

back : (t : Bool) (n m k p : ℕ) → (k ≤ n → m ≡ k + p) → suc k ≤ cond t 0 (suc n) → cond t 0 (suc m) ≡ suc k + p
back true n m k p e h = absurd (omega arith)
back false n m k p e h = let q : m ≡ k + p = e (omega arith) in omega arith

-- one that is not there
pub place_back : (a b : List Text) (x : Text) → length a ≤ slot_of a x → slot_of (a ++ b) x ≡ length a + slot_of b x
place_back [] b x h = omega arith
place_back (y ∷ ys) b x h = back (same_text x y) (slot_of ys x) (slot_of (ys ++ b) x) (length ys) (slot_of b x) (place_back ys b x) h

starting_count : length starting_names ≡ 17
starting_count = refl

pub known_count : (own : List Text) → length (known own) ≡ 17 + length own
unfolding known
known_count own = omega (arith, length-append starting_names own, starting_count)

pub slot_starting : (own : List Text) (x : Text) → slot_of starting_names x < 17 → slot_of (known own) x ≡ slot_of starting_names x
unfolding known
slot_starting own x h = place_front starting_names own x (omega (arith, starting_count))

pub slot_own : (own : List Text) (x : Text) → 17 ≤ slot_of starting_names x → slot_of (known own) x ≡ slot_of starting_names x + slot_of own x
unfolding known
slot_own own x h =
    let e : slot_of (starting_names ++ own) x ≡ length starting_names + slot_of own x = place_back starting_names own x (omega (arith, starting_count)) in
    omega (arith, e, starting_count, place_within starting_names x)

pub starting_within : (x : Text) → slot_of starting_names x ≤ 17
starting_within x = omega (arith, place_within starting_names x, starting_count)

-- ---- a name that has a slot

found_name : (names : List Text) (x : Text) → slot_of names x < length names → name_at names (slot_of names x) ≡ x
found_name [] x h = absurd (omega arith)
found_name (y ∷ ys) x h = by_test (same_text x y) refl (found_name ys x)
  where
    by_test : (b : Bool) → same_text x y ≡ b → (slot_of ys x < length ys → name_at ys (slot_of ys x) ≡ x) → name_at (y ∷ ys) (cond (same_text x y) 0 (suc (slot_of ys x))) ≡ x
    by_test true e more = ap (λ b. name_at (y ∷ ys) (cond b 0 (suc (slot_of ys x)))) e ∙ sym ((bytes_eq-Decides x y).0 e)
    by_test false e more =
        let c : cond (same_text x y) 0 (suc (slot_of ys x)) ≡ suc (slot_of ys x) = ap (λ b. cond b 0 (suc (slot_of ys x))) e in
        ap (name_at (y ∷ ys)) c ∙ more (omega (arith, c, h))

pub slot_named : (own : List Text) (x : Text) (i : ℕ) → i ≡ slot_of (known own) x → i < 17 + length own → name_at (known own) i ≡ x
slot_named own x i e h = ap (name_at (known own)) e ∙ found_name (known own) x (omega (arith, e, h, known_count own))

-- ---- a name that is mentioned

next_less : (n m : ℕ) → nat_lt (suc n) (suc m) ≡ nat_lt n m
next_less n m = ⊎_elim
    (λ l. lt-ltb (suc n) (suc m) (omega arith) ∙ sym (lt-ltb n m l))
    (λ g. le-ltb (suc n) (suc m) (omega arith) ∙ sym (le-ltb n m g))
    (cases_lt n m)

pub has_is : (names : List Text) (x : Text) → has_name names x ≡ nat_lt (slot_of names x) (length names)
has_is [] x = refl
has_is (y ∷ ys) x = go (same_text x y) (has_name ys x) (slot_of ys x) (length ys) (has_is ys x)
  where
    go : (b h : Bool) (n m : ℕ) → h ≡ nat_lt n m → (b || h) ≡ nat_lt (cond b 0 (suc n)) (suc m)
    go true h n m e = sym (lt-ltb 0 (suc m) (omega arith))
    go false h n m e = e ∙ sym (next_less n m)

mention_is : (names : List Text) (x : Text) → with_names names (x ∷ []) ≡ cond (has_name names x) names (names ++ x ∷ [])
unfolding with_names
mention_is names x = refl

pub mention_known : (own : List Text) (x : Text) → slot_of (known own) x < 17 + length own → with_names (known own) (x ∷ []) ≡ known own
mention_known own x h =
    let lt : slot_of (known own) x < length (known own) = omega (arith, known_count own, h) in
    mention_is (known own) x ∙ ap (λ b. cond b (known own) (known own ++ x ∷ [])) (has_is (known own) x ∙ lt-ltb _ _ lt)

known_more : (own : List Text) (x : Text) → known own ++ x ∷ [] ≡ known (own ++ x ∷ [])
unfolding known
known_more own x = append_assoc starting_names own (x ∷ [])

pub mention_new : (own : List Text) (x : Text) → 17 + length own ≤ slot_of (known own) x → with_names (known own) (x ∷ []) ≡ known (own ++ x ∷ [])
mention_new own x h =
    let le : length (known own) ≤ slot_of (known own) x = omega (arith, known_count own, h) in
    mention_is (known own) x ∙ ap (λ b. cond b (known own) (known own ++ x ∷ [])) (has_is (known own) x ∙ le-ltb _ _ le) ∙ known_more own x

-- ---- the map of places

some_found : (b : Bool) (p k : ℕ) → cond b (Some p) None ≡ Some k → (b ≡ true) × (k ≡ p)
some_found true p k e = (refl, cc)
some_found false p k e = absurd (cc)

none_found : (b : Bool) (p : ℕ) → cond b (Some p) None ≡ None → b ≡ false
none_found true p e = absurd (cc)
none_found false p e = refl

pub found_is : (names : List Text) (x : Text) (k : ℕ) → found_place names x ≡ Some k → (k < length names) × (k ≡ slot_of names x)
found_is names x k e =
    let is = some_found (nat_lt (slot_of names x) (length names)) (slot_of names x) k e in
    let lt = ltb-true (slot_of names x) (length names) is.0 in
    let at = is.1 in
    (omega arith, at)

pub found_not : (names : List Text) (x : Text) → found_place names x ≡ None → slot_of names x ≡ length names
found_not names x e =
    let le = ltb-false (slot_of names x) (length names) (none_found (nat_lt (slot_of names x) (length names)) (slot_of names x) e) in
    omega (arith, place_within names x)

found_at : (names : List Text) (x : Text) → slot_of names x < length names → found_place names x ≡ Some (slot_of names x)
found_at names x h = ap (λ b. cond b (Some (slot_of names x)) None) (lt-ltb _ _ h)

found_nowhere : (names : List Text) (x : Text) → length names ≤ slot_of names x → found_place names x ≡ None
found_nowhere names x h = ap (λ b. cond b (Some (slot_of names x)) None) (le-ltb _ _ h)

-- one name more, which was not there
found_more : (names : List Text) (n x : Text) → length names ≤ slot_of names n → found_place (names ++ n ∷ []) x ≡ cond (bytes_eq n x) (Some (length names)) (found_place names x)
found_more names n x new = by_test (bytes_eq n x) refl
  where
    count : length (names ++ n ∷ []) ≡ length names + 1
    count = length-append names (n ∷ [])

    by_test : (b : Bool) → bytes_eq n x ≡ b → found_place (names ++ n ∷ []) x ≡ cond b (Some (length names)) (found_place names x)
    by_test true e =
        let same = (bytes_eq-Decides n x).0 e in
        let absent : length names ≤ slot_of names x = rw same at new in
        let at : slot_of (names ++ n ∷ []) x ≡ length names =
        place_back names (n ∷ []) x absent ∙ ap (λ b. length names + cond b 0 1) (text_turned x n ∙ e) ∙ omega arith in
        found_at (names ++ n ∷ []) x (omega (arith, at, count)) ∙ ap Some at
    by_test false e = ⊎_elim
        (λ known.
        let at = place_front names (n ∷ []) x known in
        found_at (names ++ n ∷ []) x (omega (arith, at, count)) ∙ ap Some at ∙ sym (found_at names x known))
        (λ unknown.
        let at : slot_of (names ++ n ∷ []) x ≡ length names + 1 = place_back names (n ∷ []) x unknown ∙ ap (λ b. length names + cond b 0 1) (text_turned x n ∙ e) in
        found_nowhere (names ++ n ∷ []) x (omega (arith, at, count)) ∙ sym (found_nowhere names x unknown))
        (cases_lt (slot_of names x) (length names))

pub places_more : (names : List Text) (n : Text) (m more : BTreeMap (Bor Text) ℕ) → HasPlaces names m → length names ≤ slot_of names n
    → UpdatesBy (λ x y. slice_cmp nat_cmp x.now y.now) (λ k. slice_cmp nat_cmp n k.now) m more (Some (length names)) → HasPlaces (names ++ n ∷ []) more
places_more names n m more has new updates x =
    btree_map_updates_str n m more (Some (length names)) updates x
    ∙ ap (cond (bytes_eq n x) (Some (length names))) (has x)
    ∙ sym (found_more names n x new)

pub absent : (own : List Text) (n : Text) → 17 + length own ≤ slot_of (known own) n → length own ≤ slot_of own n
absent own n h = ⊎_elim
    (λ early. absurd (omega (arith, slot_starting own n early)))
    (λ late. omega (arith, slot_own own n late, starting_within n))
    (cases_lt (slot_of starting_names n) 17)

-- the same after a push of a copy
pub places_next : (names after : List Text) (n copy key : Text) (m more : BTreeMap (Bor Text) ℕ) (place : ℕ) → HasPlaces names m → place ≡ length names → after ≡ names ++ copy ∷ []
    → copy ≡ n → key ≡ n → length names ≤ slot_of names n → UpdatesBy (λ x y. slice_cmp nat_cmp x.now y.now) (λ k. slice_cmp nat_cmp key k.now) m more (Some place) → HasPlaces after more
places_next names after n copy key m more place has count pushed copied keyed new updates x =
    let put : UpdatesBy (λ x y. slice_cmp nat_cmp x.now y.now) (λ k. slice_cmp nat_cmp n k.now) m more (Some (length names)) =
    subst (λ p. UpdatesBy (λ x y. slice_cmp nat_cmp x.now y.now) (λ k. slice_cmp nat_cmp n k.now) m more (Some p)) count
    (subst (λ q. UpdatesBy (λ x y. slice_cmp nat_cmp x.now y.now) (λ k. slice_cmp nat_cmp q k.now) m more (Some place)) keyed updates) in
    places_more names n m more has new put x
    ∙ ap (λ ns. found_place ns x) (ap (λ q. names ++ q ∷ []) (sym copied) ∙ sym pushed)
