-- Each kind of step keeps the rule.
use Rattle.std.proofs.Common.{◌≡◌, ℕ, ◌+◌, ◌-◌, ◌%◌, ◌^◌, ◌<◌, ◌≤◌, min, cond, Bool, true, false, ◌||◌, List, [], ◌∷◌, ◌++◌, length, slice_index, slice_set, refl, sym, ap, ◌∙◌, inl, inr, arith, length-set, length-append}
use Rattle.std.specs.Prelude.{nat_lt}
use Rattle.std.proofs.lemmas.Bool.{cases_lt}
use Rattle.std.proofs.lemmas.Bool.Decides.{nat_tests}
use Rattle.std.proofs.Math.Nat.{mod-eq_of_lt}
use mathlib.Core.Option.{some, none, some-injective, some-ne-none}
use lib.ListN.{get_elem?}
use Rattle.atomic_table.specs.Table.{State, Allows, Splits, Joins, Final, Seen, step}
use Rattle.atomic_table.specs.Table.Act.{keeps}
use Rattle.atomic_table.proofs.Lists.{at_set}
use Rattle.round_claims.specs.declared.rule.Size.{Size}
use Rattle.round_claims.specs.declared.rule.SeatView.{SeatView}
use Rattle.round_claims.specs.Claimed.{times, EachOnceBelow}
use Rattle.round_claims.specs.Rule.{IsKept, IsTold, all_claimed, seat_view, left_view, joined_view, spent_view, claimed_view, closed_view, Exchanges}
use Rattle.round_claims.proofs.Views.{sum_set, sum_at, sum_push, times-append, times-all_claimed, length-all_claimed, each_set, each_push, claimed_by_one}

-- the seats' lists together, after one view's list has changed
times_set : (x : ℕ) (views : List SeatView) (i : ℕ) (v w : SeatView) → get_elem? views i ≡ some v
    → times x (all_claimed (slice_set views i w)) + times x v.claimed ≡ times x (all_claimed views) + times x w.claimed
times_set x views i v w at =
    omega (
      arith,
      times-all_claimed x views,
      times-all_claimed x (slice_set views i w),
      sum_set (λ u. times x u.claimed) views i v w at,
    )

length_set : (views : List SeatView) (i : ℕ) (v w : SeatView) → get_elem? views i ≡ some v
    → length (all_claimed (slice_set views i w)) + length v.claimed ≡ length (all_claimed views) + length w.claimed
length_set views i v w at = omega (
  arith,
  length-all_claimed views,
  length-all_claimed (slice_set views i w),
  sum_set (λ u. length u.claimed) views i v w at,
)

-- the counts of x before and after one more number
once_more : (x n limit : ℕ) → n < limit
    → cond (nat_lt x (min (n + 1) limit)) 1 0 ≡ cond (nat_lt x (min n limit)) 1 0 + times x (n ∷ [])
once_more x n limit room = grind (arith, nat_tests)

once_same : (x n limit : ℕ) → limit ≤ n
    → ◌≡◌ {A = ℕ} (cond (nat_lt x (min (n + 1) limit)) 1 0) (cond (nat_lt x (min n limit)) 1 0)
once_same x n limit full = grind (arith, nat_tests)

one_word : (words : List ℕ) (n : ℕ) → length words ≡ 1 → slice_index (slice_set words 0 n) 0 ≡ n
one_word [] n one = absurd (omega arith)
one_word (x ∷ xs) n one = refl

-- what a seat is told holds where the word is larger
told_later : (size : Size) (m n : ℕ) (v : SeatView) → m ≤ n → IsTold size m v → IsTold size n v
told_later size m n v later told = record {
  size_is = told.size_is;
  idle = told.idle;
  all_gone = λ closed. omega (
    arith,
    told.all_gone closed,
  );
}

-- a position found is claimed
claims_kept : (size : Size) (words : List ℕ) (views : List SeatView) (i : ℕ) (v : SeatView) → IsKept size words views
    → get_elem? views i ≡ some v → 0 < v.seats → slice_index words 0 < size.positions
    → IsKept size (slice_set words 0 (slice_index words 0 + 1)) (slice_set views i (claimed_view v (slice_index words 0)))
claims_kept size words views i v kept at some_seat room =
    let n : ℕ = slice_index words 0 in
    let w : SeatView = claimed_view v n in
    let e = one_word words (n + 1) kept.one_word in
    let s = sum_set (λ u. u.seats) views i v w at in
    let m = sum_set (λ u. u.misses_left) views i v w at in
    let told : IsTold size n v = kept.told i v at in record {
      one_word = length-set words 0 (n + 1) ∙ kept.one_word;
      each_once = λ x. rw e (omega (
        arith,
        times_set x views i v w at,
        kept.each_once x,
        times-append x v.claimed (n ∷ []),
        once_more x n size.positions room,
      ));
      count = rw e (omega (arith, length_set views i v w at, kept.count, length-append v.claimed (n ∷ [])));
      all_seats = omega (arith, kept.all_seats);
      misses = omega (arith, kept.misses);
      bounded = rw e (omega (arith, kept.bounded, kept.misses));
      told = rw e (each_set (IsTold size n) (IsTold size (n + 1)) views i w (λ u t. told_later size n (n + 1) u (omega arith) t)
          record {
            size_is = told.size_is;
            idle = λ none. absurd (omega arith);
            all_gone = λ closed. omega (
              arith,
              told.all_gone closed,
            );
          } kept.told);
      positions_fit = kept.positions_fit;
      seats_fit = kept.seats_fit;
    }

-- none was left: the seat closes, with one miss less to make
closes_kept : (size : Size) (words : List ℕ) (views : List SeatView) (i : ℕ) (v : SeatView) → IsKept size words views
    → get_elem? views i ≡ some v → 0 < v.misses_left → size.positions ≤ slice_index words 0
    → IsKept size (slice_set words 0 (slice_index words 0 + 1)) (slice_set views i (closed_view v))
closes_kept size words views i v kept at some_miss full =
    let n : ℕ = slice_index words 0 in
    let w : SeatView = closed_view v in
    let e = one_word words (n + 1) kept.one_word in
    let s = sum_set (λ u. u.seats) views i v w at in
    let m = sum_set (λ u. u.misses_left) views i v w at in
    let told : IsTold size n v = kept.told i v at in record {
      one_word = length-set words 0 (n + 1) ∙ kept.one_word;
      each_once = λ x. rw e (omega (arith, times_set x views i v w at, kept.each_once x, once_same x n size.positions full));
      count = rw e (omega (arith, length_set views i v w at, kept.count));
      all_seats = omega (arith, kept.all_seats);
      misses = omega (arith, kept.misses);
      bounded = rw e (omega (arith, kept.bounded));
      told = rw e (each_set (IsTold size n) (IsTold size (n + 1)) views i w (λ u t. told_later size n (n + 1) u (omega arith) t)
          record { size_is = told.size_is; idle = told.idle; all_gone = λ closed. omega arith } kept.told);
      positions_fit = kept.positions_fit;
      seats_fit = kept.seats_fit;
    }

not_both : (b : Bool) → b ≡ false → b ≡ true → ⊥
not_both b e f = cc

-- the word does not wrap
no_wrap : (size : Size) (words : List ℕ) (views : List SeatView) → IsKept size words views
    → (slice_index words 0 + 1) % 2 ^ 64 ≡ slice_index words 0 + 1
no_wrap size words views kept = mod-eq_of_lt (omega (arith, kept.bounded, kept.positions_fit, kept.seats_fit))

-- an exchange keeps the rule, and tells what it says
pub exchanges : (size : Size) (slots id : ℕ) (v : SeatView) → v.size.positions ≡ size.positions → 0 < v.seats → 0 < v.misses_left
    → Allows (λ (s : State ℕ SeatView). IsKept size s.words s.views) slots id (v, []) 0 (λ n. (n + 1) % 2 ^ 64) (Exchanges (step slots 0 1 0 none) (v, []))
exchanges size slots id v same some_seat some_miss s kept homes at small =
    let n : ℕ = slice_index s.words 0 in
    let e = no_wrap size s.words s.views kept in
    elim (cases_lt n size.positions) [
      | inl room ↦
          let own = sum_at (λ u. length u.claimed) s.views id v at in
          let few : length v.claimed ≤ n = omega (arith, length-all_claimed s.views, kept.count) in (
            claimed_view v n,
            keeps,
            tt,
            rw e (claims_kept size s.words s.views id v kept at some_seat room),
            (refl, (λ h. (refl, few)), (λ h. absurd (omega arith))),
          )
      | inr full ↦ (
        closed_view v,
        keeps,
        tt,
        rw e (closes_kept size s.words s.views id v kept at some_miss full),
        (refl, (λ h. absurd (omega arith)), (λ h. refl)),
      )
    ]

-- one seat is cut off a view that has claimed nothing
cut_kept : (size : Size) (words : List ℕ) (views : List SeatView) (i : ℕ) (v w u : SeatView) → IsKept size words views
    → get_elem? views i ≡ some v → v.size ≡ size → 0 < v.seats → 0 < v.misses_left → v.claimed ≡ []
    → w ≡ left_view v → u ≡ seat_view v.size → IsKept size words (slice_set views i w ++ u ∷ [])
cut_kept size words views i v w u kept at same some_seat some_miss empty w_is u_is =
    let n : ℕ = slice_index words 0 in
    let rest : List SeatView = slice_set views i w in
    let w_seats : w.seats ≡ v.seats - 1 = ap (λ (z : SeatView). z.seats) w_is in
    let u_seats : u.seats ≡ 1 = ap (λ (z : SeatView). z.seats) u_is in
    let w_misses : w.misses_left ≡ v.misses_left - 1 = ap (λ (z : SeatView). z.misses_left) w_is in
    let u_misses : u.misses_left ≡ 1 = ap (λ (z : SeatView). z.misses_left) u_is in
    let w_claimed : w.claimed ≡ v.claimed = ap (λ (z : SeatView). z.claimed) w_is in
    let u_claimed : u.claimed ≡ [] = ap (λ (z : SeatView). z.claimed) u_is in
    let s = sum_set (λ z. z.seats) views i v w at in
    let m = sum_set (λ z. z.misses_left) views i v w at in
    let s' = sum_push (λ z. z.seats) rest u in
    let m' = sum_push (λ z. z.misses_left) rest u in
    let told : IsTold size n v = kept.told i v at in
    let w_told : IsTold size n w = record {
      size_is = λ some. ap (λ (z : SeatView). z.size) w_is ∙ same;
      idle = λ none. w_claimed ∙ empty;
      all_gone = λ closed. told.all_gone (ap (λ (z : SeatView). z.closed) (sym w_is) ∙ closed);
    } in
    let u_told : IsTold size n u = record {
      size_is = λ some. ap (λ (z : SeatView). z.size) u_is ∙ same;
      idle = λ none. u_claimed;
      all_gone = λ closed. absurd (not_both u.closed (ap (λ (z : SeatView). z.closed) u_is) closed);
    } in record {
      one_word = kept.one_word;
      each_once = λ x. omega (
        arith,
        times-all_claimed x (rest ++ u ∷ []),
        sum_push (λ z. times x z.claimed) rest u,
        times-all_claimed x rest,
        times_set x views i v w at,
        ap (times x) w_claimed,
        ap (times x) u_claimed,
        kept.each_once x,
      );
      count = omega (
        arith,
        length-all_claimed (rest ++ u ∷ []),
        sum_push (λ z. length z.claimed) rest u,
        length-all_claimed rest,
        length_set views i v w at,
        ap length w_claimed,
        ap length u_claimed,
        kept.count,
      );
      all_seats = omega (arith, kept.all_seats);
      misses = omega (arith, kept.misses);
      bounded = omega (arith, kept.bounded);
      told = each_push (IsTold size n) rest u u_told (each_set (IsTold size n) (IsTold size n) views i w (λ z t. t) w_told kept.told);
      positions_fit = kept.positions_fit;
      seats_fit = kept.seats_fit;
    }

pub cuts : (size : Size) (id : ℕ) (v : SeatView) → v.size ≡ size → 0 < v.seats → 0 < v.misses_left → v.claimed ≡ []
    → Splits (λ (s : State ℕ SeatView). IsKept size s.words s.views) id v (left_view v) (seat_view v.size)
cuts size id v same some_seat some_miss empty s kept at = cut_kept size s.words s.views id v _ _ kept at same some_seat some_miss empty refl refl

-- where one of two seats is closed, all positions are claimed
either_gone : (a b : Bool) (P : Type 0) → (a ≡ true → P) → (b ≡ true → P) → (a || b) ≡ true → P
either_gone true b P f g h = f refl
either_gone false b P f g h = g h

-- two seats are made one
merge_kept : (size : Size) (words : List ℕ) (views : List SeatView) (i j : ℕ) (v w b : SeatView) → IsKept size words views
    → get_elem? views i ≡ some v → get_elem? (slice_set views i b) j ≡ some w → ¬ (j ≡ i)
    → v.size ≡ size → 0 < v.seats → b ≡ joined_view v w → IsKept size words (slice_set (slice_set views i b) j spent_view)
merge_kept size words views i j v w b kept at at' apart same some_seat b_is =
    let n : ℕ = slice_index words 0 in
    let with_b : List SeatView = slice_set views i b in
    let b_seats : b.seats ≡ v.seats + w.seats = ap (λ (z : SeatView). z.seats) b_is in
    let b_misses : b.misses_left ≡ v.misses_left + w.misses_left = ap (λ (z : SeatView). z.misses_left) b_is in
    let b_claimed : b.claimed ≡ v.claimed ++ w.claimed = ap (λ (z : SeatView). z.claimed) b_is in
    let s = sum_set (λ z. z.seats) views i v b at in
    let m = sum_set (λ z. z.misses_left) views i v b at in
    let s' = sum_set (λ z. z.seats) with_b j w spent_view at' in
    let m' = sum_set (λ z. z.misses_left) with_b j w spent_view at' in
    let v_told : IsTold size n v = kept.told i v at in
    let w_told : IsTold size n w = elim (at_set views i j b w at') [ inl a ↦ absurd (apart a.0) | inr a ↦ kept.told j w a.1 ] in
    let b_told : IsTold size n b = record {
      size_is = λ some. ap (λ (z : SeatView). z.size) b_is ∙ same;
      idle = λ none. absurd (omega arith);
      all_gone = λ closed. either_gone v.closed w.closed (size.positions ≤ n) v_told.all_gone w_told.all_gone (ap (λ (z : SeatView). z.closed) (sym b_is) ∙ closed);
    } in
    let spent_told : IsTold size n spent_view = record {
      size_is = λ some. absurd (omega arith);
      idle = λ none. refl;
      all_gone = λ closed. absurd (not_both false refl closed);
    } in record {
      one_word = kept.one_word;
      each_once = λ x. omega (
        arith,
        times_set x with_b j w spent_view at',
        times_set x views i v b at,
        ap (times x) b_claimed,
        times-append x v.claimed w.claimed,
        kept.each_once x,
      );
      count = omega (
        arith,
        length_set with_b j w spent_view at',
        length_set views i v b at,
        ap length b_claimed,
        length-append v.claimed w.claimed,
        kept.count,
      );
      all_seats = omega (arith, kept.all_seats);
      misses = omega (arith, kept.misses);
      bounded = omega (arith, kept.bounded);
      told = each_set (IsTold size n) (IsTold size n) with_b j spent_view (λ z t. t) spent_told (each_set (IsTold size n) (IsTold size n) views i b (λ z t. t) b_told kept.told);
      positions_fit = kept.positions_fit;
      seats_fit = kept.seats_fit;
    }

pub merges : (size : Size) (id : ℕ) (v : SeatView) (other : ℕ) (w : SeatView) → v.size ≡ size → 0 < v.seats
    → Joins (λ (s : State ℕ SeatView). IsKept size s.words s.views) id v other w (joined_view v w) spent_view
merges size id v other w same some_seat s kept at apart at' = merge_kept size s.words s.views id other v w _ kept at at' apart same some_seat refl

index_at : (words : List ℕ) (word : ℕ) → get_elem? words 0 ≡ some word → slice_index words 0 ≡ word
index_at [] word here = absurd (some-ne-none word (sym here))
index_at (x ∷ xs) word here = some-injective x word here

-- what the word says at the end, to a seat that stands for all
pub record IsCounted (size : Size) (v : SeatView) (word : ℕ) : Type 0 where
  pub each_once : EachOnceBelow (min word size.positions) v.claimed
  pub count : length v.claimed ≡ min word size.positions
  pub all_gone : v.closed ≡ true → size.positions ≤ word

pub ends : (size : Size) (words slots : List ℕ) (id : ℕ) (v : SeatView) (word : ℕ)
    → Final (Seen (λ (s : State ℕ SeatView). IsKept size s.words s.views) id v) words slots → get_elem? words 0 ≡ some word
    → v.seats ≡ size.seats
    → IsCounted size v word
ends size words slots id v word final here all =
    let s = final.0 in
    let kept : IsKept size s.words s.views = final.1.0 in
    let at : get_elem? s.views id ≡ some v = final.1.1 in
    let one : all_claimed s.views ≡ v.claimed = claimed_by_one s.views id v at (all ∙ sym kept.all_seats) (λ j u a. (kept.told j u a).idle) in
    let is : slice_index s.words 0 ≡ word = ap (λ ws. slice_index ws 0) final.2 ∙ index_at words word here in record {
      each_once = rw (← is, ← one) kept.each_once;
      count = rw (← is, ← one) kept.count;
      all_gone = rw (← is) (kept.told id v at).all_gone;
    }
