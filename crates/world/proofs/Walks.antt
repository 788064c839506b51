-- Two tables walked side by side, from one key to the next.
use Rattle.std.proofs.Common.{◌≡◌, ◌↔◌, ℕ, ◌+◌, ◌-◌, ◌<◌, ◌≤◌, ℤ, pos, negsuc, option_map, is_some, not, List, [], ◌∷◌, map, Option, Some, None, Bool, true, false, cond, IsTrue, nat_le, nat_lt, refl, sym, ◌∙◌, ap, subst, arith}
use Rattle.std.proofs.lemmas.Bool.Decides.{nat_tests}
use Rattle.std.proofs.lemmas.Bool.{and_parts}
use Rattle.std.specs.List.{AllByRecursion}
use Rattle.std.specs.Ordering.{nat_cmp, is_lt}
use Rattle.std.specs.FinMap.{is_sorted}
use Rattle.std.specs.FinMap.Entries.{below_all}
use Rattle.world_table.specs.Entries.{first_from}
use Rattle.spec_value.specs.Table.{Numbered}
use Rattle.world.specs.Numbered.{keyed, numbered, signed_key, unsigned_key, signed}

-- the entries at this key or above it
abbrev pub from : {X : Type 0} → ℕ → List (ℕ × X) → List (ℕ × X)
from k [] = []
from k (e ∷ es) = cond (nat_le k e.0) (e ∷ es) (from k es)

-- a first entry that is not below the key
begins : {X : Type 0} (k : ℕ) (e : ℕ × X) (es : List (ℕ × X)) → k ≤ e.0 → from k (e ∷ es) ≡ e ∷ es
begins k e es le = let t : nat_le k e.0 ≡ true = grind (arith, nat_tests) in ap (λ b. cond b (e ∷ es) (from k es)) t

skips : {X : Type 0} (k : ℕ) (e : ℕ × X) (es : List (ℕ × X)) → e.0 < k → from k (e ∷ es) ≡ from k es
skips k e es lt = let t : nat_le k e.0 ≡ false = grind (arith, nat_tests) in ap (λ b. cond b (e ∷ es) (from k es)) t

pub from_first : {X : Type 0} (es : List (ℕ × X)) → from 0 es ≡ es
from_first [] = refl
from_first (e ∷ es) = begins 0 e es (omega arith)

pub none_from : {X : Type 0} (k : ℕ) (es : List (ℕ × X)) → None ≡ first_from k es → from k es ≡ []
none_from k [] is = refl
none_from k (e ∷ es) is =
    elim (nat_le k e.0) as (λ b. None ≡ cond b (Some e) (first_from k es) → cond b (e ∷ es) (from k es) ≡ []) [
      | true ↦ λ h. cc
      | false ↦ λ h. none_from k es h
    ] is

all_above : {X : Type 0} (n : ℕ) (es : List (ℕ × X)) → IsTrue (below_all nat_cmp n es) → from (n + 1) es ≡ es
all_above n [] h = refl
all_above n (e ∷ es) h =
    let lt : IsTrue (is_lt (nat_cmp n e.0)) = (and_parts (is_lt (nat_cmp n e.0)) (below_all nat_cmp n es) h).0 in
    let le : n + 1 ≤ e.0 = grind (arith, nat_tests) in
    begins (n + 1) e es le

some_here : {X : Type 0} (e f : ℕ × X) → Some f ≡ Some e → f ≡ e
some_here e f h = cc

found_above : {X : Type 0} (n k : ℕ) (es : List (ℕ × X)) (f : ℕ × X) → IsTrue (below_all nat_cmp n es) → Some f ≡ first_from k es → n < f.0
found_above n k [] f h is = cc
found_above n k (e ∷ es) f h is =
    let parts = and_parts (is_lt (nat_cmp n e.0)) (below_all nat_cmp n es) h in
    let first : IsTrue (is_lt (nat_cmp n e.0)) = parts.0 in
    let lt : n < e.0 = grind (arith, nat_tests) in
    elim (nat_le k e.0) as (λ b. Some f ≡ cond b (Some e) (first_from k es) → n < f.0) [
      | true ↦ λ t. subst (λ (g : ℕ × _). n < g.0) (sym (some_here e f t)) lt
      | false ↦ λ t. found_above n k es f parts.1 t
    ] is

pub some_from : {X : Type 0} (k : ℕ) (es : List (ℕ × X)) (f : ℕ × X) → IsTrue (is_sorted nat_cmp es) → Some f ≡ first_from k es → from k es ≡ f ∷ from (f.0 + 1) es
some_from k [] f sorted is = cc
some_from k (e ∷ es) f sorted is =
    let parts = and_parts (below_all nat_cmp e.0 es) (is_sorted nat_cmp es) sorted in
    let behind : from (e.0 + 1) (e ∷ es) ≡ es = skips (e.0 + 1) e es (omega arith) ∙ all_above e.0 es parts.0 in
    elim (nat_le k e.0) as (λ b. Some f ≡ cond b (Some e) (first_from k es) → cond b (e ∷ es) (from k es) ≡ f ∷ from (f.0 + 1) (e ∷ es)) [
      | true ↦ λ h. subst (λ (g : ℕ × _). e ∷ es ≡ g ∷ from (g.0 + 1) (e ∷ es)) (sym (some_here e f h)) (ap (λ gs. e ∷ gs) (sym behind))
      | false ↦ λ h.
          let above : e.0 < f.0 = found_above e.0 k es f parts.0 h in
          let rest : from k es ≡ f ∷ from (f.0 + 1) es = some_from k es f parts.1 h in
          rest ∙ ap (λ gs. f ∷ gs) (sym (skips (f.0 + 1) e es (omega arith)))
    ] is

pub found_reaches : {X : Type 0} (k : ℕ) (es : List (ℕ × X)) (f : ℕ × X) → Some f ≡ first_from k es → k ≤ f.0
found_reaches k [] f is = cc
found_reaches k (e ∷ es) f is =
    elim (nat_le k e.0) as (λ b. nat_le k e.0 ≡ b → Some f ≡ cond b (Some e) (first_from k es) → k ≤ f.0) [
      | true ↦ λ t h. let le : k ≤ e.0 = grind (arith, nat_tests) in subst (λ (g : ℕ × _). k ≤ g.0) (sym (some_here e f h)) le
      | false ↦ λ _ h. found_reaches k es f h
    ] refl is

pub found_within : {X : Type 0} (bound k : ℕ) (es : List (ℕ × X)) (f : ℕ × X) → AllByRecursion (λ e. e.0 < bound) es → Some f ≡ first_from k es → f.0 < bound
found_within bound k [] f all is = cc
found_within bound k (e ∷ es) f all is =
    elim (nat_le k e.0) as (λ b. Some f ≡ cond b (Some e) (first_from k es) → f.0 < bound) [
      | true ↦ λ h. subst (λ (g : ℕ × _). g.0 < bound) (sym (some_here e f h)) all.0
      | false ↦ λ h. found_within bound k es f all.1 h
    ] is

-- ---- both tables have the same entries up to the key

abbrev pub SameFrom : {X : Type 0} → ℕ → List (ℕ × X) → List (ℕ × X) → Type 0
SameFrom k xs ys = from k xs ≡ from k ys → xs ≡ ys

pub same_at_first : {X : Type 0} (xs ys : List (ℕ × X)) → SameFrom 0 xs ys
same_at_first xs ys e = sym (from_first xs) ∙ e ∙ from_first ys

pub same_behind : {X : Type 0} (k : ℕ) (xs ys : List (ℕ × X)) (f : ℕ × X) → IsTrue (is_sorted nat_cmp xs) → IsTrue (is_sorted nat_cmp ys)
    → Some f ≡ first_from k xs → Some f ≡ first_from k ys → SameFrom k xs ys → SameFrom (f.0 + 1) xs ys
same_behind k xs ys f sorted_as sorted_bs in_as in_bs h e =
    h (some_from k xs f sorted_as in_as ∙ ap (λ gs. f ∷ gs) e ∙ sym (some_from k ys f sorted_bs in_bs))

pub same_at_end : {X : Type 0} (k : ℕ) (xs ys : List (ℕ × X)) → None ≡ first_from k xs → None ≡ first_from k ys → SameFrom k xs ys → xs ≡ ys
same_at_end k xs ys in_as in_bs h = h (none_from k xs in_as ∙ sym (none_from k ys in_bs))

-- ---- tables by integers

module _ (f : ℕ → ℤ) (back : ℤ → ℕ) (comes_back : (k : ℕ) → back (f k) ≡ k) where
  abbrev unkeyed : {X : Type 0} → Numbered X → List (ℕ × X)
  unkeyed es = map (λ e. (back e.0, e.1)) es

  unkeyed_back : {X : Type 0} (es : List (ℕ × X)) → unkeyed (keyed f es) ≡ es
  unkeyed_back [] = refl
  unkeyed_back (e ∷ es) = λ i. (comes_back e.0 i, e.1) ∷ unkeyed_back es i

  pub same_keyed : {X : Type 0} (xs ys : List (ℕ × X)) → keyed f xs ≡ keyed f ys → xs ≡ ys
  same_keyed xs ys e = sym (unkeyed_back xs) ∙ ap unkeyed e ∙ unkeyed_back ys

natural : ℤ → ℕ
natural (pos n) = n
natural (negsuc n) = n

pub same_numbered : {X : Type 0} (xs ys : List (ℕ × X)) → numbered xs ≡ numbered ys → xs ≡ ys
unfolding natural
same_numbered xs ys e = same_keyed pos natural (λ k. refl) xs ys e

pub key_comes_back : (k : ℕ) → unsigned_key (signed_key k) ≡ k
key_comes_back k = go (nat_lt k 2147483648) refl
  where
    go : (b : Bool) → nat_lt k 2147483648 ≡ b → unsigned_key (cond b (negsuc (2147483647 - k)) (pos (k - 2147483648))) ≡ k
    go true e = let lt : k < 2147483648 = grind (arith, nat_tests) in omega arith
    go false e = let le : 2147483648 ≤ k = grind (arith, nat_tests) in omega arith

pub same_signed : {X : Type 0} (xs ys : List (ℕ × X)) → signed xs ≡ signed ys → xs ≡ ys
same_signed xs ys e = same_keyed signed_key unsigned_key key_comes_back xs ys e

-- ---- what a walk of both comes to

pub one_ends : {X : Type 0} (k : ℕ) (xs ys : List (ℕ × X)) (f : ℕ × X) → Some f ≡ first_from k xs → None ≡ first_from k ys → xs ≡ ys → ⊥
one_ends k xs ys f in_xs in_ys e = let h : Some f ≡ None = in_xs ∙ ap (first_from k) e ∙ sym in_ys in cc

pub one_entry : {X : Type 0} (k : ℕ) (xs ys : List (ℕ × X)) (f g : ℕ × X) → Some f ≡ first_from k xs → Some g ≡ first_from k ys → xs ≡ ys → f ≡ g
one_entry k xs ys f g in_xs in_ys e = some_here g f (in_xs ∙ ap (first_from k) e ∙ sym in_ys)

pub both_end : {X Y : Type 0} (q : ℕ × Y → ℕ × X) (o : Option (ℕ × Y)) (r : Bool) (k : ℕ) (xs ys : List (ℕ × X)) → is_some o ≡ not r → None ≡ first_from k xs → option_map q o ≡ first_from k ys
    → SameFrom k xs ys → (IsTrue r ↔ xs ≡ ys)
both_end q None true k xs ys is in_xs in_ys h = (λ _. same_at_end k xs ys in_xs in_ys h, λ _. refl)
both_end q None false k xs ys is in_xs in_ys h = absurd (cc)
both_end q (Some y) true k xs ys is in_xs in_ys h = absurd (cc)
both_end q (Some y) false k xs ys is in_xs in_ys h = (λ t. absurd (cc), λ e. absurd (one_ends k ys xs (q y) in_ys in_xs (sym e)))
