-- What is due is found by a walk of the moments.
use Rattle.std.proofs.Common.{◌≡◌, ◌≤◌, ◌<◌, ◌+◌, suc, ℕ, ℤ, Bool, true, false, List, [], ◌∷◌, ◌++◌, map, length, Option, Some, None, option_map, cond, nat_lt, nat_le, refl, sym, ◌∙◌, ap, arith, Ordering, Less, Equal, Greater}
use Rattle.std.proofs.lemmas.Bool.Decides.{nat_tests}
use Rattle.std.specs.Prelude.{filter}
use Rattle.std.specs.Ordering.{nat_cmp, int_cmp, ordering_then, is_le, is_lt}
use Rattle.spec_world.specs.World.{Task}
use Rattle.moo_task.specs.Waits.{due_at}
use Rattle.due_table.specs.Pairs.{pair_cmp, first_pair_from}
use Rattle.world.specs.Paired.{put_pair, put_if_any}
use Rattle.world.specs.Due.{by_moment, due_of, due_ids, first_due_from}
use Rattle.world.specs.Numbered.{keyed, signed_key, signed}
use Rattle.world.proofs.Maps.{signed_cmp}
use Rattle.world.proofs.Ordered as ordered
use Rattle.world.proofs.PairsKept.{pairs_total, pairs_exact, AreSorted}

-- ---- the moments of ids, from those of their keys

module _ (f : ℕ → ℤ) where
  abbrev named : ℕ × ℕ → ℕ × ℤ
  named d = (d.0, f d.1)

  put_named : (m k : ℕ) (ds : List (ℕ × ℕ)) → put_pair m (f k) (map named ds) ≡ map named (put_pair m k ds)
  put_named m k [] = refl
  put_named m k (d ∷ ds) = go (nat_lt d.0 m) (put_named m k ds)
    where
      go : (b : Bool) → put_pair m (f k) (map named ds) ≡ map named (put_pair m k ds)
          → cond b (named d ∷ put_pair m (f k) (map named ds)) ((m, f k) ∷ named d ∷ map named ds) ≡ map named (cond b (d ∷ put_pair m k ds) ((m, k) ∷ d ∷ ds))
      go true later = ap (λ xs. named d ∷ xs) later
      go false later = refl

  put_if_named : (m : Option ℕ) (k : ℕ) (ds : List (ℕ × ℕ)) → put_if_any m (f k) (map named ds) ≡ map named (put_if_any m k ds)
  put_if_named None k ds = refl
  put_if_named (Some m) k ds = put_named m k ds

  pub moments_named : (es : List (ℕ × Task)) → by_moment (keyed f es) ≡ map named (by_moment es)
  moments_named [] = refl
  moments_named (e ∷ es) = ap (put_if_any (due_at (e.1).waiting) (f e.0)) (moments_named es) ∙ put_if_named (due_at (e.1).waiting) e.0 (by_moment es)

  pub first_named : ((a b : ℕ) → int_cmp (f a) (f b) ≡ nat_cmp a b) → (m k : ℕ) (ds : List (ℕ × ℕ)) → first_due_from m (f k) (map named ds) ≡ option_map named (first_pair_from (m, k) ds)
  first_named order m k [] = refl
  first_named order m k (d ∷ ds) =
      ap (λ r. cond (is_le (ordering_then (nat_cmp m d.0) r)) (Some (named d)) (first_due_from m (f k) (map named ds))) (order k d.1) ∙ go (is_le (pair_cmp nat_cmp (m, k) d)) (first_named order m k ds)
    where
      go : (b : Bool) → first_due_from m (f k) (map named ds) ≡ option_map named (first_pair_from (m, k) ds)
          → cond b (Some (named d)) (first_due_from m (f k) (map named ds)) ≡ option_map named (cond b (Some d) (first_pair_from (m, k) ds))
      go true later = refl
      go false later = later

  due_named : (now : ℕ) (ds : List (ℕ × ℕ)) → map f (due_of now ds) ≡ due_of now (map named ds)
  due_named now [] = refl
  due_named now (d ∷ ds) = go (nat_le d.0 now) (due_named now ds)
    where
      go : (b : Bool) → map f (due_of now ds) ≡ due_of now (map named ds)
          → map f (map (λ x. x.1) (cond b (d ∷ filter (λ x. nat_le x.0 now) ds) (filter (λ x. nat_le x.0 now) ds)))
          ≡ map (λ x. x.1) (cond b (named d ∷ filter (λ x. nat_le x.0 now) (map named ds)) (filter (λ x. nat_le x.0 now) (map named ds)))
      go true later = ap (λ is. f d.1 ∷ is) later
      go false later = later

  pub all_due : (now : ℕ) (es : List (ℕ × Task)) → map f (due_of now (by_moment es)) ≡ due_ids now (keyed f es)
  all_due now es = due_named now (by_moment es) ∙ ap (due_of now) (sym (moments_named es))

-- the next one of ids, from that of keys
pub next_is : (m : ℕ) (i : ℤ) (k : ℕ) (ds : List (ℕ × ℕ)) (found : Option (ℕ × ℕ)) → signed_key k ≡ i → found ≡ first_pair_from (m, k) ds
    → option_map (λ d. (d.0, signed_key d.1)) found ≡ first_due_from m i (map (λ d. (d.0, signed_key d.1)) ds)
next_is m i k ds found is found_is =
    ap (option_map (named signed_key)) found_is ∙ sym (first_named signed_key signed_cmp m k ds) ∙ ap (λ j. first_due_from m j (map (named signed_key) ds)) is

-- the same from the moments that are known
pub known_moments : (es : List (ℕ × Task)) (ds : List (ℕ × ℕ)) → ds ≡ by_moment es → map (λ d. (d.0, signed_key d.1)) ds ≡ by_moment (signed es)
known_moments es ds is = ap (map (named signed_key)) is ∙ sym (moments_named signed_key es)

pub known_due : (now : ℕ) (es : List (ℕ × Task)) (ds : List (ℕ × ℕ)) → ds ≡ by_moment es → map signed_key (due_of now ds) ≡ due_ids now (signed es)
known_due now es ds is = ap (λ xs. map signed_key (due_of now xs)) is ∙ all_due signed_key now es

-- ---- a walk

abbrev pub from : ℕ → ℕ → List (ℕ × ℕ) → List (ℕ × ℕ)
from m k ds = ordered.from pairs_total pairs_exact (m, k) ds

least_first : (n : ℕ) → is_le (nat_cmp 0 n) ≡ true
least_first n = go (nat_cmp 0 n) refl
  where
    go : (r : Ordering) → nat_cmp 0 n ≡ r → is_le r ≡ true
    go Less e = refl
    go Equal e = refl
    go Greater e = absurd (grind (arith, nat_tests))

pub all_from_least : (ds : List (ℕ × ℕ)) → from 0 0 ds ≡ ds
all_from_least [] = refl
all_from_least (d ∷ ds) = ap (λ b. cond b (d ∷ from 0 0 ds) (from 0 0 ds)) (go (nat_cmp 0 d.0) (least_first d.0)) ∙ ap (λ xs. d ∷ xs) (all_from_least ds)
  where
    go : (r : Ordering) → is_le r ≡ true → is_le (ordering_then r (nat_cmp 0 d.1)) ≡ true
    go Less h = refl
    go Equal h = least_first d.1
    go Greater h = cc

behind_is : (f d : ℕ × ℕ) → is_lt (pair_cmp nat_cmp f d) ≡ is_le (pair_cmp nat_cmp (f.0, f.1 + 1) d)
behind_is f d = go (nat_cmp f.0 d.0)
  where
    next : (b c : Bool) → nat_lt f.1 d.1 ≡ b → nat_lt d.1 (f.1 + 1) ≡ c → is_lt (nat_cmp f.1 d.1) ≡ is_le (nat_cmp (f.1 + 1) d.1)
    next true true e h = absurd (grind (arith, nat_tests))
    next true false e h = grind (arith, nat_tests)
    next false true e h = grind (arith, nat_tests)
    next false false e h = absurd (grind (arith, nat_tests))

    go : (r : Ordering) → is_lt (ordering_then r (nat_cmp f.1 d.1)) ≡ is_le (ordering_then r (nat_cmp (f.1 + 1) d.1))
    go Less = refl
    go Equal = next (nat_lt f.1 d.1) (nat_lt d.1 (f.1 + 1)) refl refl
    go Greater = refl

all_behind : (f : ℕ × ℕ) (ds : List (ℕ × ℕ)) → ordered.behind pairs_total pairs_exact f ds ≡ from f.0 (f.1 + 1) ds
all_behind f [] = refl
all_behind f (d ∷ ds) = λ i. cond (behind_is f d i) (d ∷ all_behind f ds i) (all_behind f ds i)

next_from : (m k : ℕ) (f : ℕ × ℕ) (ds : List (ℕ × ℕ)) → AreSorted ds → Some f ≡ first_pair_from (m, k) ds → from m k ds ≡ f ∷ from f.0 (f.1 + 1) ds
next_from m k f ds h is = ordered.some_from pairs_total pairs_exact (m, k) f ds h is ∙ ap (λ xs. f ∷ xs) (all_behind f ds)

none_from : (m k : ℕ) (ds : List (ℕ × ℕ)) → None ≡ first_pair_from (m, k) ds → from m k ds ≡ []
none_from m k ds is = ordered.none_from pairs_total pairs_exact (m, k) ds is

-- those of later moments are not due
later_rest : (now m k : ℕ) (ds : List (ℕ × ℕ)) → now < m → filter (λ d. nat_le d.0 now) (from m k ds) ≡ []
later_rest now m k [] lt = refl
later_rest now m k (d ∷ ds) lt = go (nat_cmp m d.0) refl (later_rest now m k ds lt)
  where
    kept : (b : Bool) → m ≤ d.0 → filter (λ x. nat_le x.0 now) (from m k ds) ≡ [] → filter (λ x. nat_le x.0 now) (cond b (d ∷ from m k ds) (from m k ds)) ≡ []
    kept true le later = let t : nat_le d.0 now ≡ false = grind (arith, nat_tests) in ap (λ b. cond b (d ∷ filter (λ x. nat_le x.0 now) (from m k ds)) (filter (λ x. nat_le x.0 now) (from m k ds))) t ∙ later
    kept false le later = later

    go : (r : Ordering) → nat_cmp m d.0 ≡ r → filter (λ x. nat_le x.0 now) (from m k ds) ≡ []
        → filter (λ x. nat_le x.0 now) (cond (is_le (ordering_then r (nat_cmp k d.1))) (d ∷ from m k ds) (from m k ds)) ≡ []
    go Less e later = let le : m ≤ d.0 = grind (arith, nat_tests) in kept true le later
    go Equal e later = let le : m ≤ d.0 = grind (arith, nat_tests) in kept (is_le (nat_cmp k d.1)) le later
    go Greater e later = later

module _ (f : ℕ → ℤ) (now : ℕ) (ds : List (ℕ × ℕ)) where
  abbrev ids_of : List (ℕ × ℕ) → List ℤ
  ids_of rest = map f (due_of now rest)

  -- what was gathered, before what is left
  abbrev pub IsGathered : ℕ → ℕ → List ℤ → Type 0
  IsGathered m k is = is ++ ids_of (from m k ds) ≡ ids_of ds

  -- how many are left
  abbrev pub left : ℕ → ℕ → ℕ
  left m k = length (from m k ds)

  join_one : (is js : List ℤ) (i : ℤ) → (is ++ i ∷ []) ++ js ≡ is ++ i ∷ js
  join_one [] js i = refl
  join_one (h ∷ is) js i = ap (λ xs. h ∷ xs) (join_one is js i)

  join_none : (is : List ℤ) → is ++ [] ≡ is
  join_none [] = refl
  join_none (i ∷ is) = ap (λ xs. i ∷ xs) (join_none is)

  pub none_gathered : IsGathered 0 0 []
  none_gathered = ap ids_of (all_from_least ds)

  due_first : (d : ℕ × ℕ) (rest : List (ℕ × ℕ)) → d.0 ≤ now → ids_of (d ∷ rest) ≡ f d.1 ∷ ids_of rest
  due_first d rest le =
      let t : nat_le d.0 now ≡ true = grind (arith, nat_tests) in
      ap (λ b. map f (map (λ x. x.1) (cond b (d ∷ filter (λ x. nat_le x.0 now) rest) (filter (λ x. nat_le x.0 now) rest)))) t

  pub one_gathered : (m k : ℕ) (d : ℕ × ℕ) (is : List ℤ) → AreSorted ds → Some d ≡ first_pair_from (m, k) ds → d.0 ≤ now → IsGathered m k is → IsGathered d.0 (d.1 + 1) (is ++ f d.1 ∷ [])
  one_gathered m k d is sorted found le h =
      join_one is (ids_of (from d.0 (d.1 + 1) ds)) (f d.1)
      ∙ ap (λ xs. is ++ xs) (sym (due_first d (from d.0 (d.1 + 1) ds) le) ∙ ap ids_of (sym (next_from m k d ds sorted found))) ∙ h

  pub fewer_left : (m k : ℕ) (d : ℕ × ℕ) → AreSorted ds → Some d ≡ first_pair_from (m, k) ds → left d.0 (d.1 + 1) < left m k
  fewer_left m k d sorted found = let is : left m k ≡ suc (left d.0 (d.1 + 1)) = ap length (next_from m k d ds sorted found) in omega arith

  all_if : (m k : ℕ) (is : List ℤ) → ids_of (from m k ds) ≡ [] → IsGathered m k is → is ≡ ids_of ds
  all_if m k is none h = sym (join_none is) ∙ ap (λ xs. is ++ xs) (sym none) ∙ h

  pub all_gathered : (m k : ℕ) (is : List ℤ) → None ≡ first_pair_from (m, k) ds → IsGathered m k is → is ≡ ids_of ds
  all_gathered m k is none h = all_if m k is (ap ids_of (none_from m k ds none)) h

  pub rest_later : (m k : ℕ) (d : ℕ × ℕ) (is : List ℤ) → AreSorted ds → Some d ≡ first_pair_from (m, k) ds → now < d.0 → IsGathered m k is → is ≡ ids_of ds
  rest_later m k d is sorted found lt h =
      let t : nat_le d.0 now ≡ false = grind (arith, nat_tests) in
      let rest : filter (λ x. nat_le x.0 now) (d ∷ from d.0 (d.1 + 1) ds) ≡ [] = ap (λ b. cond b (d ∷ filter (λ x. nat_le x.0 now) (from d.0 (d.1 + 1) ds)) (filter (λ x. nat_le x.0 now) (from d.0 (d.1 + 1) ds))) t ∙ later_rest now d.0 (d.1 + 1) ds lt in
      all_if m k is (ap ids_of (next_from m k d ds sorted found) ∙ ap (λ xs. map f (map (λ x. x.1) xs)) rest) h
