-- Sums over the views of all seats, and the list of all that they claimed, where one view changes or is added.
use Rattle.std.proofs.Common.{◌≡◌, ℕ, zero, suc, ◌+◌, ◌≤◌, List, [], ◌∷◌, ◌++◌, length, slice_set, refl, sym, ap, subst, ◌∙◌, inl, inr, arith}
use Rattle.std.specs.Prelude.{sum_by}
use Rattle.std.proofs.lemmas.List.Sums.{sum_by-cons, sum_by-append}
use Rattle.std.proofs.lemmas.List.Concat.{length-flat_map}
use Rattle.std.proofs.lemmas.List.{append-nil}
use mathlib.Core.Option.{some, some-injective, some-ne-none}
use lib.ListN.{get_elem?}
use Rattle.atomic_table.proofs.Lists.{at_set, at_snoc}
use Rattle.round_claims.specs.declared.rule.SeatView.{SeatView}
use Rattle.round_claims.specs.Claimed.{times}
use Rattle.round_claims.specs.Rule.{all_claimed, EachView}

-- a sum after a change of one view
pub sum_set : (f : SeatView → ℕ) (views : List SeatView) (i : ℕ) (v w : SeatView) → get_elem? views i ≡ some v
    → sum_by f (slice_set views i w) + f v ≡ sum_by f views + f w
sum_set f [] i v w at = absurd (some-ne-none v (sym at))
sum_set f (x ∷ xs) zero v w at =
    let e : f x ≡ f v = ap f (some-injective x v at) in omega (arith, sum_by-cons f w xs, sum_by-cons f x xs)
sum_set f (x ∷ xs) (suc i) v w at = omega (arith, sum_set f xs i v w at, sum_by-cons f x xs, sum_by-cons f x (slice_set xs i w))

-- one view has no more than all
pub sum_at : (f : SeatView → ℕ) (views : List SeatView) (i : ℕ) (v : SeatView) → get_elem? views i ≡ some v → f v ≤ sum_by f views
sum_at f [] i v at = absurd (some-ne-none v (sym at))
sum_at f (x ∷ xs) zero v at =
    let e : f x ≡ f v = ap f (some-injective x v at) in omega (arith, sum_by-cons f x xs)
sum_at f (x ∷ xs) (suc i) v at = omega (arith, sum_at f xs i v at, sum_by-cons f x xs)

-- a sum with one view more
pub sum_push : (f : SeatView → ℕ) (views : List SeatView) (w : SeatView) → sum_by f (views ++ w ∷ []) ≡ sum_by f views + f w
sum_push f views w = omega (arith, sum_by-append f views (w ∷ []), sum_by-cons f w [])

pub times-append : (x : ℕ) (xs ys : List ℕ) → times x (xs ++ ys) ≡ times x xs + times x ys
times-append x xs ys = sum_by-append _ xs ys

-- a number stands in the list of all as often as in the seats' lists
pub times-all_claimed : (x : ℕ) (views : List SeatView) → times x (all_claimed views) ≡ sum_by (λ v. times x v.claimed) views
times-all_claimed x [] = refl
times-all_claimed x (v ∷ vs) =
    omega (
      arith,
      times-append x v.claimed (all_claimed vs),
      times-all_claimed x vs,
      sum_by-cons (λ (u : SeatView). times x u.claimed) v vs,
    )

pub length-all_claimed : (views : List SeatView) → length (all_claimed views) ≡ sum_by (λ v. length v.claimed) views
length-all_claimed views = length-flat_map (λ (v : SeatView). v.claimed) views

-- what holds of each view after a change of one
pub each_set : (P Q : SeatView → Type 0) (views : List SeatView) (i : ℕ) (w : SeatView) → ((u : SeatView) → P u → Q u) → Q w
    → EachView P views → EachView Q (slice_set views i w)
each_set P Q views i w more new each j u at = elim (at_set views i j w u at) [ inl a ↦ subst Q a.1 new | inr a ↦ more u (each j u a.1) ]

-- and with one view more
pub each_push : (P : SeatView → Type 0) (views : List SeatView) (w : SeatView) → P w → EachView P views
    → EachView P (views ++ w ∷ [])
each_push P views w new each j u at = elim (at_snoc views w u j at) [ inl a ↦ each j u a | inr a ↦ subst P a new ]

-- where the views stand for no seat, and none of those has claimed anything, nothing is claimed
none_claimed : (views : List SeatView) → sum_by (λ v. v.seats) views ≡ 0 → EachView (λ v. v.seats ≡ 0 → v.claimed ≡ []) views
    → all_claimed views ≡ []
none_claimed [] none idle = refl
none_claimed (x ∷ xs) none idle =
    let s = sum_by-cons (λ (v : SeatView). v.seats) x xs in
    let here : x.claimed ≡ [] = idle 0 x refl (omega arith) in rw (
      here,
      none_claimed xs (omega arith) (λ i v at. idle (suc i) v at),
    ) refl

-- a view that stands for all seats has all that is claimed
pub claimed_by_one : (views : List SeatView) (i : ℕ) (v : SeatView) → get_elem? views i ≡ some v
    → v.seats ≡ sum_by (λ u. u.seats) views → EachView (λ u. u.seats ≡ 0 → u.claimed ≡ []) views
    → all_claimed views ≡ v.claimed
claimed_by_one [] i v at all idle = absurd (some-ne-none v (sym at))
claimed_by_one (x ∷ xs) zero v at all idle =
    let e : x ≡ v = some-injective x v at in
    let n : x.seats ≡ v.seats = ap (λ (u : SeatView). u.seats) e in
    let s = sum_by-cons (λ (u : SeatView). u.seats) x xs in
    rw (none_claimed xs (omega arith) (λ j u a. idle (suc j) u a)) (append-nil x.claimed ∙ ap (λ (u : SeatView). u.claimed) e)
claimed_by_one (x ∷ xs) (suc i) v at all idle =
    let s = sum_by-cons (λ (u : SeatView). u.seats) x xs in
    let m = sum_at (λ u. u.seats) xs i v at in
    let here : x.claimed ≡ [] = idle 0 x refl (omega arith) in rw here (claimed_by_one xs i v at (omega arith) (λ j u a. idle (suc j) u a))
