-- Where a character stands first.
use Rattle.std.proofs.Common.{◌≡◌, ℕ, zero, suc, ◌+◌, ◌<◌, ◌≤◌, take, drop, [], ◌∷◌, ◌++◌, length, get_or, false, ap, IsTrue, Bool, true, not, ◌==◌, nat_lt, cond, Option, Some, None, refl, sym, ◌∙◌, eq-eqb, eqb-true, ltb-true, arith, length-append}
use Rattle.std.proofs.lemmas.Bool.Decides.{nat_tests}
use Rattle.std.proofs.lemmas.List.Sums.{position_or_len_is}
use Rattle.std.specs.List.{list_all, position, position_or_len}
use Rattle.memchr.specs.Find.{IsFirstByte, is_byte}
use Rattle.spec_value.specs.Datum.{Text}
use Rattle.spec_value.proofs.Entries.{first_holds, second_holds, both_hold}

module _ (stop : ℕ) where
  abbrev pub without : Text → Bool
  without t = list_all (λ c. not (c == stop)) t

  stops : (n : ℕ) → cond (not (stop == stop)) (1 + n) 0 ≡ 0
  stops n = let same : stop == stop ≡ true = eq-eqb stop stop refl in rw same

  goes : (c n : ℕ) → IsTrue (not (c == stop)) → cond (not (c == stop)) (1 + n) 0 ≡ 1 + n
  goes c n h = let k : not (c == stop) ≡ true = h in rw k

  on_both : {m n : ℕ} → m ≡ n → 1 + m ≡ suc n
  on_both e = omega (arith, e)

  found_at : (t r : Text) → IsTrue (without t) → position_or_len (λ c. c == stop) (t ++ stop ∷ r) ≡ length t
  found_at [] r h = stops (position_or_len (λ c. c == stop) r)
  found_at (c ∷ t) r h =
      goes c (position_or_len (λ d. d == stop) (t ++ stop ∷ r)) (first_holds (not (c == stop)) (without t) h) ∙ on_both (found_at t r (second_holds (not (c == stop)) (without t) h))

  not_found : (t : Text) → IsTrue (without t) → position_or_len (λ c. c == stop) t ≡ length t
  not_found [] h = refl
  not_found (c ∷ t) h = goes c (position_or_len (λ d. d == stop) t) (first_holds (not (c == stop)) (without t) h) ∙ on_both (not_found t (second_holds (not (c == stop)) (without t) h))

  some_at : (n m : ℕ) → n < m → cond (nat_lt n m) (Some n) None ≡ Some n
  some_at n m h = grind (arith, nat_tests)

  none_at : (n : ℕ) → ◌≡◌ {A = Option ℕ} (cond (nat_lt n n) (Some n) None) None
  none_at n = grind (arith, nat_tests)

  pub stop_found : (t r : Text) → IsTrue (without t) → position (λ c. c == stop) (t ++ stop ∷ r) ≡ Some (length t)
  stop_found t r h = rw (found_at t r h) (some_at (length t) (length (t ++ stop ∷ r)) (omega (arith, length-append t (stop ∷ r))))

  pub no_stop : (t : Text) → IsTrue (without t) → position (λ c. c == stop) t ≡ None
  no_stop t h = rw (not_found t h) (none_at (length t))

-- ---- a search

false_unless : (b : Bool) → (b ≡ true → ⊥) → b ≡ false
false_unless true h = absurd (h refl)
false_unless false h = refl

module _ (test : ℕ → Bool) where
  pub found_first : (t : Text) (k : ℕ) → IsFirstByte test t (Some k) → position_or_len test t ≡ k
  found_first t k h = position_or_len_is test t k 0 (omega (arith, h.0.high)) (λ j l. false_unless (test (get_or t j 0)) (h.0.before j (omega arith) l)) (λ l. h.1)

  pub found_none : (t : Text) → IsFirstByte test t None → position_or_len test t ≡ length t
  found_none t h = position_or_len_is test t (length t) 0 (omega arith) (λ k l. false_unless (test (get_or t k 0)) (h k (omega arith) l)) (λ l. absurd (omega (arith, l)))

pub is_position : (stop : ℕ) (t : Text) (r : Option ℕ) → IsFirstByte (is_byte stop) t r → r ≡ position (λ c. c == stop) t
is_position stop t None h = rw (found_none (is_byte stop) t h) (sym (none_at stop (length t)))
is_position stop t (Some k) h = rw (found_first (is_byte stop) t k h) (sym (some_at stop k (length t) h.0.high))

-- ---- what is found

take_before : (test : ℕ → Bool) (t : Text) → position_or_len test t ≡ length t → IsTrue (list_all (λ c. not (test c)) t)
take_before test [] h = refl
take_before test (c ∷ t) h = go (test c) refl h (λ k. take_before test t k)
  where
    go : (b : Bool) → test c ≡ b → cond (not b) (1 + position_or_len test t) 0 ≡ suc (length t) → (position_or_len test t ≡ length t → IsTrue (list_all (λ d. not (test d)) t))
        → IsTrue (list_all (λ d. not (test d)) (c ∷ t))
    go true e k later = absurd (omega (arith, k))
    go false e k later = both_hold (not (test c)) (list_all (λ d. not (test d)) t) (ap not e) (later (omega (arith, k)))

position_short : (test : ℕ → Bool) (t : Text) → position_or_len test t ≤ length t
position_short test [] = omega arith
position_short test (c ∷ t) = go (not (test c)) (position_short test t)
  where
    go : (b : Bool) → position_or_len test t ≤ length t → cond b (1 + position_or_len test t) 0 ≤ suc (length t)
    go true h = omega (arith, h)
    go false h = omega arith

not_less : (m n : ℕ) → nat_lt m n ≡ false → n ≤ m
not_less m n h = grind (arith, nat_tests)

pub none_stops : (test : ℕ → Bool) (t : Text) → position test t ≡ None → IsTrue (list_all (λ c. not (test c)) t)
none_stops test t e = go (nat_lt (position_or_len test t) (length t)) refl e
  where
    go : (b : Bool) → nat_lt (position_or_len test t) (length t) ≡ b → cond b (Some (position_or_len test t)) None ≡ None → IsTrue (list_all (λ c. not (test c)) t)
    go true h k = cc
    go false h k = let short = position_short test t in let long = not_less (position_or_len test t) (length t) h in take_before test t (omega (arith, short, long))

position_there : (test : ℕ → Bool) (t : Text) (k : ℕ) → position test t ≡ Some k → (position_or_len test t ≡ k) × (k < length t)
position_there test t k e = go (nat_lt (position_or_len test t) (length t)) refl e
  where
    some_same : (m n : ℕ) → ◌≡◌ {A = Option ℕ} (Some m) (Some n) → m ≡ n
    some_same m n h = cc

    go : (b : Bool) → nat_lt (position_or_len test t) (length t) ≡ b → cond b (Some (position_or_len test t)) None ≡ Some k → (position_or_len test t ≡ k) × (k < length t)
    go true h d = let same = some_same (position_or_len test t) k d in let less = ltb-true (position_or_len test t) (length t) h in (same, omega (arith, same, less))
    go false h d = cc

module _ (stop : ℕ) where
  cut_there : (t : Text) (k : ℕ) → position_or_len (λ c. c == stop) t ≡ k → k < length t → IsTrue (list_all (λ c. not (c == stop)) (take k t)) × (t ≡ take k t ++ stop ∷ drop (suc k) t)
  cut_there [] k e l = absurd (omega (arith, l))
  cut_there (c ∷ t) k e l = go (c == stop) refl k e l (cut_there t)
    where
      go : (b : Bool) → (c == stop) ≡ b → (j : ℕ) → cond (not b) (1 + position_or_len (λ d. d == stop) t) 0 ≡ j → j < suc (length t)
          → ((i : ℕ) → position_or_len (λ d. d == stop) t ≡ i → i < length t → IsTrue (list_all (λ d. not (d == stop)) (take i t)) × (t ≡ take i t ++ stop ∷ drop (suc i) t))
          → IsTrue (list_all (λ d. not (d == stop)) (take j (c ∷ t))) × (c ∷ t ≡ take j (c ∷ t) ++ stop ∷ drop (suc j) (c ∷ t))
      go true h zero d m later = (refl, ap (λ x. x ∷ t) (eqb-true c stop h))
      go true h (suc j) d m later = absurd (omega (arith, d))
      go false h zero d m later = absurd (omega (arith, d))
      go false h (suc j) d m later =
          let rest = later j (omega (arith, d)) (omega (arith, m)) in (both_hold (not (c == stop)) (list_all (λ x. not (x == stop)) (take j t)) (ap not h) rest.0, ap (λ u. c ∷ u) rest.1)

  pub some_stops : (t : Text) (k : ℕ) → position (λ c. c == stop) t ≡ Some k → IsTrue (list_all (λ c. not (c == stop)) (take k t)) × (t ≡ take k t ++ stop ∷ drop (k + 1) t)
  some_stops t k e =
      let there = position_there (λ c. c == stop) t k e in
      let both = cut_there t k there.0 there.1 in
      let next : suc k ≡ k + 1 = omega arith in
      (both.0, both.1 ∙ ap (λ j. take k t ++ stop ∷ drop j t) next)
