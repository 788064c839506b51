-- Where the first field of a line ends, and what the fields are.
use Rattle.std.proofs.Common.{◌≡◌, ℕ, zero, suc, ◌+◌, ◌-◌, ◌<◌, ◌≤◌, ◌^◌, min, ◌==◌, ◌&&◌, not, if◌then◌else◌, List, [], ◌∷◌, ◌++◌, length, take, drop, Option, Some, None, Bool, true, false, MatchOption, is_some, refl, ap, sym, subst, ◌∙◌, arith, append_assoc}
use Rattle.std.proofs.lemmas.Bool.Decides.{nat_tests}
use Rattle.spec_value.specs.Datum.{Text}
use Rattle.spec_faults.specs.Cutting as spot
use Rattle.spec_faults.specs.Cutting.{Spot, among, quoted, onto_first, with_next, spot_behind, fields_from, fields_in}
use Rattle.spec_faults.proofs.FieldsBack.{fields_spelled}
use Rattle.line_fields.specs.Cutting.{first_fields}
use Rattle.line_fields.specs.declared.fields.Place.{Place}
use Rattle.line_fields.specs.Places.{ends_field, behind, behind_mark, behind_character}
use Rattle.line_fields.proofs.Places.{at, end_from}

-- ---- places and spots

abbrev place_of : Spot → Place
place_of (among n) = record { lists = n; quoted = false; escaped = false }
place_of (quoted n) = record { lists = n; quoted = true; escaped = false }
place_of (spot.escaped n) = record { lists = n; quoted = true; escaped = true }

-- within how many lists
abbrev deep : Spot → ℕ
deep (among n) = n
deep (quoted n) = n
deep (spot.escaped n) = n

inside : (n c : ℕ) → ((c == 32 && suc n == 0) && true) ≡ false
inside n c = grind (arith, nat_tests)

same_end : (s : Spot) (c : ℕ) → ends_field (place_of s) c ≡ spot.ends_field s c
same_end (among zero) c = at_none c (c == 32)
  where
    at_none : (d : ℕ) (b : Bool) → ((b && true) && true) ≡ b
    at_none d true = refl
    at_none d false = refl
same_end (among (suc n)) c = inside n c
same_end (quoted n) c = never (c == 32 && n == 0)
  where
    never : (b : Bool) → (b && false) ≡ false
    never true = refl
    never false = refl
same_end (spot.escaped n) c = never (c == 32 && n == 0)
  where
    never : (b : Bool) → (b && false) ≡ false
    never true = refl
    never false = refl

mark_same : (n c : ℕ) → n + 1 < 2 ^ 64 → behind_mark (place_of (among n)) c ≡ place_of (spot.behind (among n) c)
mark_same n c h = go (c == 34) (c == 123) (c == 125) refl refl refl
  where
    apart : (a b : ℕ) → (c == a) ≡ true → (c == b) ≡ true → a ≡ b
    apart a b e f = grind (arith, nat_tests)

    go : (q o d : Bool) → (c == 34) ≡ q → (c == 123) ≡ o → (c == 125) ≡ d
        → ◌≡◌ {A = Place} (record { lists = if o then min (n + 1) (2 ^ 64 - 1) else (if d then n - 1 else n); quoted = q; escaped = false })
        (place_of (if q then quoted n else (if o then among (suc n) else (if d then among (n - 1) else among n))))
    go true true d e f g = absurd (omega (arith, apart 34 123 e f))
    go true false true e f g = absurd (omega (arith, apart 34 125 e g))
    go true false false e f g = refl
    go false true d e f g = let m : min (n + 1) (2 ^ 64 - 1) ≡ suc n = omega (arith, h) in λ i. record { lists = m i; quoted = false; escaped = false }
    go false false true e f g = refl
    go false false false e f g = refl

character_same : (n c : ℕ) → behind_character (place_of (quoted n)) c ≡ place_of (spot.behind (quoted n) c)
character_same n c = go (c == 34) (c == 92) refl refl
  where
    apart : (c == 34) ≡ true → (c == 92) ≡ true → ◌≡◌ {A = ℕ} 34 92
    apart e f = grind (arith, nat_tests)

    go : (q b : Bool) → (c == 34) ≡ q → (c == 92) ≡ b → ◌≡◌ {A = Place} (record { lists = n; quoted = not q; escaped = b }) (place_of (if q then among n else (if b then spot.escaped n else quoted n)))
    go true true e f = absurd (omega (arith, apart e f))
    go true false e f = refl
    go false true e f = refl
    go false false e f = refl

same_behind : (s : Spot) (c : ℕ) → deep s + 1 < 2 ^ 64 → behind (place_of s) c ≡ place_of (spot.behind s c)
same_behind (among n) c h = mark_same n c h
same_behind (quoted n) c h = character_same n c
same_behind (spot.escaped n) c h = refl

deeper : (s : Spot) (c : ℕ) → deep (spot.behind s c) ≤ deep s + 1
deeper (among n) c = go (c == 34) (c == 123) (c == 125)
  where
    go : (q o d : Bool) → deep (if q then quoted n else (if o then among (suc n) else (if d then among (n - 1) else among n))) ≤ n + 1
    go true o d = omega arith
    go false true d = omega arith
    go false false true = omega arith
    go false false false = omega arith
deeper (quoted n) c = go (c == 34) (c == 92)
  where
    go : (q b : Bool) → deep (if q then among n else (if b then spot.escaped n else quoted n)) ≤ n + 1
    go true b = omega arith
    go false true = omega arith
    go false false = omega arith
deeper (spot.escaped n) c = omega arith

-- ---- the first field

-- from a spot on: the whole text is one field, or it ends there
abbrev Ends : ℕ → Spot → Text → Option ℕ → Type 0
Ends i s t None = fields_from s t ≡ t ∷ []
Ends i s t (Some k) = (j : ℕ) × (k ≡ j + i) × (fields_from s t ≡ take j t ∷ fields_in (drop (suc j) t))

one_further : (i : ℕ) (s : Spot) (c : ℕ) (t : Text) (o : Option ℕ) → spot.ends_field s c ≡ false → Ends (suc i) (spot.behind s c) t o → Ends i s (c ∷ t) o
one_further i s c t None e f = ap (λ b. with_next b c (fields_from (spot_behind b s c) t)) e ∙ ap (onto_first c) f
one_further i s c t (Some k) e f =
    let further : k ≡ suc f.0 + i = omega (arith, f.1) in
    (suc f.0, further, ap (λ b. with_next b c (fields_from (spot_behind b s c) t)) e ∙ ap (onto_first c) f.2)

-- there is room for one more
room_on : (s : Spot) (c : ℕ) (t : Text) → deep s + length (c ∷ t) < 2 ^ 64 → deep (spot.behind s c) + length t < 2 ^ 64
room_on s c t h = let d = deeper s c in omega (arith, d, h)

ends_so : (t : Text) (i : ℕ) (s : Spot) → deep s + length t < 2 ^ 64 → Ends i s t (end_from i (place_of s) t)
ends_so [] i s h = refl
ends_so (c ∷ t) i s h =
    subst (λ b. Ends i s (c ∷ t) (if b then Some i else end_from (suc i) (behind (place_of s) c) t)) (sym (same_end s c))
    (subst (λ p. Ends i s (c ∷ t) (if spot.ends_field s c then Some i else end_from (suc i) p t)) (sym (same_behind s c (omega arith)))
    (go (spot.ends_field s c) refl (ends_so t (suc i) (spot.behind s c) (room_on s c t h))))
  where
    go : (b : Bool) → spot.ends_field s c ≡ b → Ends (suc i) (spot.behind s c) t (end_from (suc i) (place_of (spot.behind s c)) t)
        → Ends i s (c ∷ t) (if b then Some i else end_from (suc i) (place_of (spot.behind s c)) t)
    go true e later = (0, omega arith, ap (λ b. with_next b c (fields_from (spot_behind b s c) t)) e)
    go false e later = one_further i s c t (end_from (suc i) (place_of (spot.behind s c)) t) e later

-- what a field's end is
abbrev pub IsEnd : Text → Option ℕ → Type 0
IsEnd t None = fields_in t ≡ t ∷ []
IsEnd t (Some k) = fields_in t ≡ take k t ∷ fields_in (drop (k + 1) t)

whole : (t : Text) (o : Option ℕ) → Ends 0 (among 0) t o → IsEnd t o
whole t None e = e
whole t (Some k) e =
    let same : e.0 ≡ k = omega (arith, e.1) in
    let next : suc e.0 ≡ k + 1 = omega (arith, e.1) in
    e.2 ∙ (λ i. take (same i) t ∷ fields_in (drop (next i) t))

pub is_end : (t : Text) (o : Option ℕ) → length t < 2 ^ 64 → o ≡ end_from 0 (at 0) t → IsEnd t o
is_end t o h e = whole t o (subst (λ x. Ends 0 (among 0) t x) (sym e) (ends_so t 0 (among 0) (omega arith)))

-- ---- how many there are

some_onto : (c : ℕ) (ts : List Text) → 1 ≤ length (onto_first c ts)
some_onto c [] = omega arith
some_onto c (t ∷ ts) = omega arith

some_fields : (s : Spot) (t : Text) → 1 ≤ length (fields_from s t)
some_fields s [] = omega arith
some_fields s (c ∷ t) = go (spot.ends_field s c) (fields_from (spot_behind (spot.ends_field s c) s c) t)
  where
    go : (b : Bool) (ts : List Text) → 1 ≤ length (with_next b c ts)
    go true ts = omega arith
    go false ts = some_onto c ts

not_one : (n : ℕ) → 1 ≤ n → (suc n == 1) ≡ false
not_one n h = grind (arith, nat_tests)

negated : (a b : Bool) → a ≡ not b → b ≡ not a
negated a true e = ap not (sym e)
negated a false e = ap not (sym e)

pub single : (t : Text) (o : Option ℕ) (b : Bool) → is_some o ≡ not b → MatchOption o (fields_in t ≡ t ∷ []) (λ k. fields_in t ≡ take k t ∷ fields_in (drop (k + 1) t)) → b ≡ (length (fields_in t) == 1)
single t None b h e = negated false b h ∙ sym (ap (λ (ts : List Text). length ts == 1) e)
single t (Some k) b h e = negated true b h ∙ sym (ap (λ (ts : List Text). length ts == 1) e ∙ not_one (length (fields_in (drop (k + 1) t))) (some_fields (among 0) (drop (k + 1) t)))

-- ---- one by one

pub cut_further : (line rest field behind : Text) (found : List Text) → fields_in line ≡ found ++ fields_in rest → fields_in rest ≡ field ∷ fields_in behind → fields_in line ≡ (found ++ field ∷ []) ++ fields_in behind
cut_further line rest field behind found e f = e ∙ ap (λ ts. found ++ ts) f ∙ sym (append_assoc found (field ∷ []) (fields_in behind))

pub cut_whole : (line rest : Text) (found : List Text) → fields_in line ≡ found ++ fields_in rest → fields_in rest ≡ rest ∷ [] → found ++ rest ∷ [] ≡ fields_in line
cut_whole line rest found e f = sym (e ∙ ap (λ ts. found ++ ts) f)

-- ---- the first ones

one_first : (n : ℕ) (t : Text) (ts : List Text) → 1 ≤ length ts → first_fields (suc n) (t ∷ ts) ≡ t ∷ first_fields n ts
one_first n t [] h = absurd (omega (arith, h))
one_first n t (u ∷ ts) h = refl

pub first_further : (m n : ℕ) (line rest field behind : Text) (found all : List Text) → m ≡ suc n → all ≡ found ++ first_fields m (fields_in rest) → fields_in rest ≡ field ∷ fields_in behind
    → all ≡ (found ++ field ∷ []) ++ first_fields n (fields_in behind)
first_further m n line rest field behind found all s e f =
    e
    ∙ ap (λ k. found ++ first_fields k (fields_in rest)) s
    ∙ ap (λ ts. found ++ first_fields (suc n) ts) f
    ∙ ap (λ ts. found ++ ts) (one_first n field (fields_in behind) (some_fields (among 0) behind))
    ∙ sym (append_assoc found (field ∷ []) (first_fields n (fields_in behind)))

pub first_ends : (m : ℕ) (rest : Text) (found all : List Text) → 0 < m → all ≡ found ++ first_fields m (fields_in rest) → fields_in rest ≡ rest ∷ [] → found ++ rest ∷ [] ≡ all
first_ends zero rest found all h e f = absurd (omega (arith, h))
first_ends (suc m) rest found all h e f = sym (e ∙ ap (λ ts. found ++ first_fields (suc m) ts) f)

pub first_over : (m : ℕ) (rest : Text) (found all : List Text) → m ≡ 0 → all ≡ found ++ first_fields m (fields_in rest) → found ++ rest ∷ [] ≡ all
first_over m rest found all z e = sym (e ∙ ap (λ k. found ++ first_fields k (fields_in rest)) z ∙ ap (λ t. found ++ t ∷ []) (fields_spelled rest))
