-- Tables of objects, and lists of what is in them.
use Rattle.std.proofs.Common.{◌⊎◌, inl, inr, ◌≡◌, ◌<◌, ◌≤◌, ◌+◌, ◌<ℤ◌, ℕ, zero, suc, ℤ, pos, negsuc, Bool, true, false, List, [], ◌∷◌, length, replicate, Some, slice_get, slice_set, Contains, refl, sym, ap, subst, arith}
use Rattle.std.proofs.lemmas.Int.{ints}
use Rattle.std.proofs.lemmas.Option.{slice_get_within, slice_get_read}
use Rattle.speculate.specs.Tables.{IsThere, Grows}
use Rattle.speculate.proofs.Stamped.{le_cases}

-- ---- one more

there_set : (ts : List Bool) (at k : ℕ) → slice_get ts k ≡ Some true → slice_get (slice_set ts at true) k ≡ Some true
there_set [] at k is = cc
there_set (t ∷ ts) zero zero is = refl
there_set (t ∷ ts) zero (suc k) is = is
there_set (t ∷ ts) (suc at) zero is = is
there_set (t ∷ ts) (suc at) (suc k) is = there_set ts at k is

-- one more leaves what is there
pub grows_set : (ts : List Bool) (at : ℕ) → Grows ts (slice_set ts at true)
grows_set ts at (pos k) is = there_set ts at k is
grows_set ts at (negsuc k) is = absurd is

pub set_there : (ts : List Bool) (at : ℕ) → at < length ts → slice_get (slice_set ts at true) at ≡ Some true
set_there [] at within = absurd (omega (arith, within))
set_there (t ∷ ts) zero within = refl
set_there (t ∷ ts) (suc at) within = set_there ts at (omega (arith, within))

only_at : (ts : List Bool) (at k : ℕ) → slice_get (slice_set ts at true) k ≡ Some true → (k ≡ at) ⊎ (slice_get ts k ≡ Some true)
only_at [] at k is = inr is
only_at (t ∷ ts) zero zero is = inl refl
only_at (t ∷ ts) zero (suc k) is = inr is
only_at (t ∷ ts) (suc at) zero is = inr is
only_at (t ∷ ts) (suc at) (suc k) is = elim (only_at ts at k is) [ inl same ↦ inl (ap suc same) | inr before ↦ inr before ]

-- it is the only one more
pub only_set : (ts : List Bool) (at : ℕ) (o : ℤ) → IsThere (slice_set ts at true) o → (o ≡ pos at) ⊎ IsThere ts o
only_set ts at (pos k) is = elim (only_at ts at k is) [ inl same ↦ inl (ap pos same) | inr before ↦ inr before ]
only_set ts at (negsuc k) is = absurd is

pub grows_still : (ts : List Bool) → Grows ts ts
grows_still ts o is = is

pub grows_on : (ts us vs : List Bool) → Grows ts us → Grows us vs → Grows ts vs
grows_on ts us vs first second o is = second o (first o is)

pub grows_as : (ts us vs : List Bool) → us ≡ vs → Grows ts us → Grows ts vs
grows_as ts us vs same grows o is = subst (λ xs. IsThere xs o) same (grows o is)

-- ---- what is not there

none_at : (n k : ℕ) → slice_get (replicate n false) k ≡ Some true → ⊥
none_at zero k is = cc
none_at (suc n) zero is = cc
none_at (suc n) (suc k) is = none_at n k is

-- none is there at first
pub none_there : (n : ℕ) (ts : List Bool) (os : List ℤ) → ts ≡ replicate n false → (o : ℤ) → IsThere ts o → Contains os o
none_there n ts os same (pos k) is = absurd (none_at n k (subst (λ (xs : List Bool). slice_get xs k ≡ Some true) same is))
none_there n ts os same (negsuc k) is = absurd is

-- no negative number is
pub negative_absent : (ts : List Bool) (o : ℤ) → o <ℤ pos 0 → IsThere ts o → ⊥
negative_absent ts (pos k) below is = absurd (omega (arith, ints))
negative_absent ts (negsuc k) below is = is

-- nor is one behind the end
pub beyond_absent : (ts : List Bool) (o : ℤ) (at : ℕ) → o ≡ pos at → length ts ≤ at → IsThere ts o → ⊥
beyond_absent ts o at same end is =
    let within = slice_get_within ts at true (subst (IsThere ts) same is) in absurd (omega (arith, within, end))

-- ---- lists

-- what is there is listed, once one more is
pub listed_still : (ts us : List Bool) (os ps : List ℤ) (x : ℤ) → ((o : ℤ) → IsThere ts o → Contains os o) → ((o : ℤ) → Contains os o → Contains ps o) → Contains ps x
    → ((o : ℤ) → IsThere us o → (o ≡ x) ⊎ IsThere ts o) → (o : ℤ) → IsThere us o → Contains ps o
listed_still ts us os ps x listed stays new only o is = elim (only o is) [ inl same ↦ subst (Contains ps) (sym same) new | inr before ↦ stays o (listed o before) ]

-- what holds of the first ones, and of one more
pub first_more : (P : ℤ → Type 0) (os : List ℤ) (i : ℕ) → ((o : ℤ) → slice_get os i ≡ Some o → P o) → ((k : ℕ) (o : ℤ) → k < i → slice_get os k ≡ Some o → P o)
    → (k : ℕ) (o : ℤ) → k < i + 1 → slice_get os k ≡ Some o → P o
first_more P os i one before k o below is =
    elim (le_cases k i (omega (arith, below))) [ inl less ↦ before k o less is | inr same ↦ one o (subst (λ (n : ℕ). slice_get os n ≡ Some o) same is) ]

-- what holds of all
pub first_all : (P : ℤ → Type 0) (os : List ℤ) (i : ℕ) → length os ≤ i → ((k : ℕ) (o : ℤ) → k < i → slice_get os k ≡ Some o → P o) → (o : ℤ) → Contains os o → P o
first_all P os i end all o is = all is.0 o (omega (arith, is.1, end)) (slice_get_read os (length os) is.0 o refl is.1 (sym is.2))
