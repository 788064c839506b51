-- The cuts of a search, from those that memchr proves.
use Rattle.std.proofs.Common.{◌≡◌, ℕ, ◌+◌, ◌-◌, ◌<◌, ◌≤◌, Bool, true, false, max, arith}
use Rattle.memchr.specs.Critical.{IsCutPlace}
use Rattle.memchr.proofs.lemmas.CriticalLemmas.{IsCut-wide, IsCut-long, IsCut-small}
use Rattle.memchr.proofs.lemmas.SearchLemmas.{IsShift-large, IsShift-small}
use Rattle.moo_text.specs.TwoWay.{precedes, IsCutOf}

pub precedes_on : (turned : Bool) (a b c : ℕ) → precedes turned a b → precedes turned b c → precedes turned a c
precedes_on false a b c p q = omega arith
precedes_on true a b c p q = omega arith

pub precedes_no_self : (turned : Bool) (a : ℕ) → precedes turned a a → ⊥
precedes_no_self false a p = omega arith
precedes_no_self true a p = omega arith

pub precedes_turned : (a b : ℕ) → precedes false a b → precedes true a b → ⊥
precedes_turned a b p q = omega arith

module _ (x : ℕ → ℕ) (m c p : ℕ) (h : IsCutPlace x m c p) where
  pub cut_far_back : m - c ≤ c → IsCutOf x m (record { place = c; shift = max c (m - c); known = 0 })
  cut_far_back wide =
      let cut = IsCut-wide x m c p h (let below = h.below in omega arith) in
      let shift = IsShift-large c cut.shifts in
      let below = h.below in
      record {
        below = below;
        critical = h.critical;
        some = shift.0;
        reach = omega arith;
        fits = omega arith;
        short = shift.2;
        repeats = λ k l. absurd (omega arith);
      }

  pub cut_without_repeat : (((k : ℕ) → k < c → x k ≡ x (k + p)) → ⊥) → IsCutOf x m (record { place = c; shift = max c (m - c); known = 0 })
  cut_without_repeat differs =
      let cut = IsCut-long x m c p h differs in
      let shift = IsShift-large c cut.shifts in
      let below = h.below in
      record {
        below = below;
        critical = h.critical;
        some = shift.0;
        reach = omega arith;
        fits = omega arith;
        short = shift.2;
        repeats = λ k l. absurd (omega arith);
      }

  pub cut_by_period : ((k : ℕ) → k < c → x k ≡ x (k + p)) → IsCutOf x m (record { place = c; shift = p; known = m - p })
  cut_by_period same =
      let cut = IsCut-small x m c p h same in
      let shift = IsShift-small c cut.shifts in
      let above = shift.1 in
      let fits = shift.2 in
      record {
        below = h.below;
        critical = h.critical;
        some = shift.0;
        reach = omega arith;
        fits = omega arith;
        short = shift.4;
        repeats = λ k l. shift.3 k (omega arith);
      }
