-- Walks over a row in the order of keys.
use Rattle.std.proofs.Common.{◌≡◌, ℕ, zero, suc, ◌+◌, ◌-◌, ◌*◌, ◌/◌, ◌%◌, ◌^◌, ◌<◌, ◌≤◌, true, false, cond, T, nat_le, List, [], ◌∷◌, ◌++◌, length, get_or, take, drop, Option, Some, None, option_map, is_some, min, append_assoc, append-nil, length-take, refl, sym, ap, subst, ◌∙◌, arith}
use Rattle.std.proofs.lemmas.Bool.Decides.{nat_tests}
use Rattle.std.proofs.lemmas.List.{drop_more, take_more}
use Rattle.std.proofs.lemmas.Nat.{mul-le, mul-add-lt, shr_split, shl_whole}
use Rattle.std.proofs.Math.Nat.{pow-le-pow_right}
use Rattle.world_table.specs.Branch.{Branch, reach, raised, joined, Rises, AreBranches}
use Rattle.world_table.specs.Entries.{first_from, last_key}
use Rattle.world_table.proofs.Rising.{bounds}
use Rattle.world_table.proofs.Rows.{own_keys}

le_moved : (key start x : ℕ) → nat_le key (start + x) ≡ nat_le (key - start) x
le_moved key start x = grind (arith, nat_tests)

le_false : (key x : ℕ) → x < key → nat_le key x ≡ false
le_false key x h = grind (arith, nat_tests)

le_true : (key x : ℕ) → nat_le key x ≡ true → key ≤ x
le_true key x h = grind (arith, nat_tests)

-- the later of two last keys, each of which may be missing
abbrev later : Option ℕ → Option ℕ → Option ℕ
later None o = o
later (Some k) o = Some k

later-none : (o : Option ℕ) → later o None ≡ o
later-none None = refl
later-none (Some k) = refl

module _ {V : Type 0} where
  pub first-raised : (key start : ℕ) (es : List (ℕ × V)) → first_from key (raised start es) ≡ option_map (λ (e : ℕ × V). (start + e.0, e.1)) (first_from (key - start) es)
  first-raised key start [] = refl
  first-raised key start (e ∷ es) =
      ap (λ b. cond b (Some (start + e.0, e.1)) (first_from key (raised start es))) (le_moved key start e.0)
      ∙ elim (nat_le (key - start) e.0) as (λ b. cond b (Some (start + e.0, e.1)) (first_from key (raised start es)) ≡ option_map (λ (e : ℕ × V). (start + e.0, e.1)) (cond b (Some e) (first_from (key - start) es))) [
        | true ↦ refl
        | false ↦ first-raised key start es
      ]

  not_some : (x : ℕ × V) → Some x ≡ None → ⊥
  not_some x e = subst T (ap is_some e) tt

  -- the first of two lists in a row
  abbrev or_else : Option (ℕ × V) → Option (ℕ × V) → Option (ℕ × V)
  or_else None o = o
  or_else (Some e) o = Some e

  first-append : (key : ℕ) (xs ys : List (ℕ × V)) → first_from key (xs ++ ys) ≡ or_else (first_from key xs) (first_from key ys)
  first-append key [] ys = refl
  first-append key (x ∷ xs) ys =
      elim (nat_le key x.0) as (λ b. cond b (Some x) (first_from key (xs ++ ys)) ≡ or_else (cond b (Some x) (first_from key xs)) (first_from key ys)) [
        | true ↦ refl
        | false ↦ first-append key xs ys
      ]

  first_above : (key a b : ℕ) (es : List (ℕ × V)) → b ≤ key → Rises a b es → first_from key es ≡ None
  first_above key a b [] p h = refl
  first_above key a b (e ∷ es) p h =
      let most = bounds (e.0 + 1) b es h.1 in
      ap (λ t. cond t (Some e) (first_from key es)) (le_false key e.0 (omega arith)) ∙ first_above key (e.0 + 1) b es p h.1

  pub first_within : (key a b : ℕ) (es : List (ℕ × V)) (found : ℕ × V) → Rises a b es → first_from key es ≡ Some found → found.0 < b
  first_within key a b [] found h is = absurd (not_some found (sym is))
  first_within key a b (e ∷ es) found h is =
      let most = bounds (e.0 + 1) b es h.1 in
      elim (nat_le key e.0) as (λ t. cond t (Some e) (first_from key es) ≡ Some found → found.0 < b) [
        | true ↦ λ f. let same : e.0 ≡ found.0 = cc in omega arith
        | false ↦ λ f. first_within key (e.0 + 1) b es found h.1 f
      ] is

  -- the places below the key's own are passed over
  pub first_skip : (l key start n : ℕ) (bs : List (Branch V)) → AreBranches l bs → start + n * reach l ≤ key → first_from key (joined (reach l) start bs) ≡ first_from key (joined (reach l) (start + n * reach l) (drop n bs))
  first_skip l key start zero bs h p = ap (λ (s : ℕ). first_from key (joined (reach l) s bs)) (let e : start ≡ start + zero * reach l = omega arith in e)
  first_skip l key start (suc n) [] h p = refl
  first_skip l key start (suc n) (b ∷ bs) h p =
      first-append key (raised start b.entries) (joined (reach l) (start + reach l) bs)
      ∙ ap (λ o. or_else o (first_from key (joined (reach l) (start + reach l) bs))) (first_above key start (start + reach l) (raised start b.entries) (omega arith) (own_keys l start b h.0))
      ∙ first_skip l key (start + reach l) n bs h.1 (omega arith)
      ∙ ap (λ (s : ℕ). first_from key (joined (reach l) s (drop n bs))) (let e : start + reach l + n * reach l ≡ start + suc n * reach l = omega arith in e)

  -- one place of the row
  first_place : (w key i : ℕ) (bs : List (Branch V)) (b : Branch V) → i < length bs → b ≡ get_or bs i b
      → first_from key (joined w (i * w) (drop i bs)) ≡ or_else (option_map (λ (e : ℕ × V). (i * w + e.0, e.1)) (first_from (key - i * w) b.entries)) (first_from key (joined w ((i + 1) * w) (drop (i + 1) bs)))
  first_place w key i bs b p is =
      ap (λ (cs : List (Branch V)). first_from key (joined w (i * w) cs)) (drop_more bs i b p ∙ ap (λ (c : Branch V). c ∷ drop (i + 1) bs) (sym is))
      ∙ first-append key (raised (i * w) b.entries) (joined w (i * w + w) (drop (i + 1) bs))
      ∙ ap (λ o. or_else o (first_from key (joined w (i * w + w) (drop (i + 1) bs)))) (first-raised key (i * w) b.entries)
      ∙ ap (λ (s : ℕ). or_else (option_map (λ (e : ℕ × V). (i * w + e.0, e.1)) (first_from (key - i * w) b.entries)) (first_from key (joined w s (drop (i + 1) bs)))) (let e : i * w + w ≡ (i + 1) * w = omega arith in e)

  pub first_passed : (w key i : ℕ) (bs : List (Branch V)) (b : Branch V) → i < length bs → b ≡ get_or bs i b → first_from (key - i * w) b.entries ≡ None
      → first_from key (joined w (i * w) (drop i bs)) ≡ first_from key (joined w ((i + 1) * w) (drop (i + 1) bs))
  first_passed w key i bs b p is none =
      first_place w key i bs b p is
      ∙ ap (λ o. or_else (option_map (λ (e : ℕ × V). (i * w + e.0, e.1)) o) (first_from key (joined w ((i + 1) * w) (drop (i + 1) bs)))) none

  pub first_found : (w key i : ℕ) (bs : List (Branch V)) (b : Branch V) (e : ℕ × V) → i < length bs → b ≡ get_or bs i b → first_from (key - i * w) b.entries ≡ Some e
      → first_from key (joined w (i * w) (drop i bs)) ≡ Some (i * w + e.0, e.1)
  first_found w key i bs b e p is some =
      first_place w key i bs b p is
      ∙ ap (λ o. or_else (option_map (λ (e : ℕ × V). (i * w + e.0, e.1)) o) (first_from key (joined w ((i + 1) * w) (drop (i + 1) bs)))) some

  pub first_start : (l key n : ℕ) (bs : List (Branch V)) → AreBranches l bs → n ≤ key / reach l → first_from key (joined (reach l) 0 bs) ≡ first_from key (joined (reach l) (n * reach l) (drop n bs))
  first_start l key n bs h p =
      let below : n * reach l ≤ key / reach l * reach l = mul-le n (reach l) (key / reach l) (reach l) p (omega arith) in
      let whole = shr_split key (5 * l) in
      first_skip l key 0 n bs h (omega arith) ∙ ap (λ (s : ℕ). first_from key (joined (reach l) s (drop n bs))) (let e : 0 + n * reach l ≡ n * reach l = omega arith in e)

  -- ---- the last key

  last_there : (y : ℕ × V) (ys : List (ℕ × V)) (o : Option ℕ) → later (last_key (y ∷ ys)) o ≡ last_key (y ∷ ys)
  last_there y [] o = refl
  last_there y (z ∷ ys) o = last_there z ys o

  last-append : (xs ys : List (ℕ × V)) → last_key (xs ++ ys) ≡ later (last_key ys) (last_key xs)
  last-append [] ys = sym (later-none (last_key ys))
  last-append (x ∷ []) [] = refl
  last-append (x ∷ []) (y ∷ ys) = sym (last_there y ys (Some x.0))
  last-append (x ∷ z ∷ xs) ys = last-append (z ∷ xs) ys

  last-raised : (n : ℕ) (es : List (ℕ × V)) → last_key (raised n es) ≡ option_map (λ k. n + k) (last_key es)
  last-raised n [] = refl
  last-raised n (e ∷ []) = refl
  last-raised n (e ∷ f ∷ es) = last-raised n (f ∷ es)

  joined-append : (w start : ℕ) (bs cs : List (Branch V)) → joined w start (bs ++ cs) ≡ joined w start bs ++ joined w (start + length bs * w) cs
  joined-append w start [] cs = ap (λ (s : ℕ). joined w s cs) (let e : start ≡ start + 0 * w = omega arith in e)
  joined-append w start (b ∷ bs) cs =
      ap (λ es. raised start b.entries ++ es) (joined-append w (start + w) bs cs ∙ ap (λ (s : ℕ). joined w (start + w) bs ++ joined w s cs) (let e : start + w + length bs * w ≡ start + suc (length bs) * w = omega arith in e))
      ∙ sym (append_assoc (raised start b.entries) (joined w (start + w) bs) (joined w (start + suc (length bs) * w) cs))

  -- one place of the row, from the end
  last_place : (w i : ℕ) (bs : List (Branch V)) (b : Branch V) → i < length bs → b ≡ get_or bs i b
      → last_key (joined w 0 (take (i + 1) bs)) ≡ later (option_map (λ k. i * w + k) (last_key b.entries)) (last_key (joined w 0 (take i bs)))
  last_place w i bs b p is =
      let len : length (take i bs) ≡ i = length-take i bs ∙ (let m : min i (length bs) ≡ i = omega arith in m) in
      ap (λ (cs : List (Branch V)). last_key (joined w 0 cs)) (take_more bs i b p ∙ ap (λ (c : Branch V). take i bs ++ c ∷ []) (sym is))
      ∙ ap last_key (joined-append w 0 (take i bs) (b ∷ []))
      ∙ last-append (joined w 0 (take i bs)) (joined w (0 + length (take i bs) * w) (b ∷ []))
      ∙ ap (λ (es : List (ℕ × V)). later (last_key es) (last_key (joined w 0 (take i bs)))) (append-nil (raised (0 + length (take i bs) * w) b.entries) ∙ ap (λ (n : ℕ). raised n b.entries) (let e : 0 + length (take i bs) * w ≡ length (take i bs) * w = omega arith in e ∙ ap (λ (n : ℕ). n * w) len))
      ∙ ap (λ o. later o (last_key (joined w 0 (take i bs)))) (last-raised (i * w) b.entries)

  pub last_passed : (w i : ℕ) (bs : List (Branch V)) (b : Branch V) → i < length bs → b ≡ get_or bs i b → last_key b.entries ≡ None
      → last_key (joined w 0 (take (i + 1) bs)) ≡ last_key (joined w 0 (take i bs))
  last_passed w i bs b p is none = last_place w i bs b p is ∙ ap (λ o. later (option_map (λ k. i * w + k) o) (last_key (joined w 0 (take i bs)))) none

  pub last_found : (w i k : ℕ) (bs : List (Branch V)) (b : Branch V) → i < length bs → b ≡ get_or bs i b → last_key b.entries ≡ Some k
      → last_key (joined w 0 (take (i + 1) bs)) ≡ Some (i * w + k)
  last_found w i k bs b p is some = last_place w i bs b p is ∙ ap (λ o. later (option_map (λ k. i * w + k) o) (last_key (joined w 0 (take i bs)))) some

  pub last_within : (a b k : ℕ) (es : List (ℕ × V)) → Rises a b es → last_key es ≡ Some k → k < b
  last_within a b k [] h is = absurd (subst T (ap is_some (sym is)) tt)
  last_within a b k (e ∷ []) h is = let top : e.0 + 1 ≤ b = h.1 in let same : e.0 ≡ k = cc in omega arith
  last_within a b k (e ∷ f ∷ es) h is = last_within (e.0 + 1) b k (f ∷ es) h.1 is

-- ---- the first key of a place, as the program computes it

pub width_bound : (below : ℕ) → below < 12 → reach below ≤ 2 ^ 55
width_bound below h = pow-le-pow_right {n = 2} (omega arith) {i = 5 * below} {j = 55} (omega arith)

pub start_is : (at below : ℕ) → at < 32 → below < 12 → (at * reach below) % 2 ^ 64 ≡ at * reach below
start_is at below p q = shl_whole at 5 (5 * below) 64 p (omega arith)

pub key_fits : (at below found : ℕ) → at < 32 → below < 12 → found < reach below → (at * reach below) % 2 ^ 64 + found < 2 ^ 60
key_fits at below found p q r =
    let start = start_is at below p q in
    let within : at * reach below + found < reach below * 32 = mul-add-lt at (reach below) found 32 p r in
    let most = width_bound below q in
    omega arith
