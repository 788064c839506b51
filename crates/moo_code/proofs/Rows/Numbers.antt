-- Numbers of parts that are the same or others, and the places that are looked up by them.
use Rattle.std.proofs.Common.{◌≡◌, ℕ, ◌==◌, ◌<◌, List, [], ◌∷◌, Bool, true, false, cond, refl, ap, ◌∙◌, arith}
use Rattle.std.proofs.lemmas.Bool.{eq-eqb, eqb-true}
use Rattle.moo_code.specs.Instruction.{placed}
use Rattle.moo_code.specs.Machine.{place_for}

pub same_number : (a : ℕ) → (a == a) ≡ true
same_number a = eq-eqb a a refl

pub other_number : (a b : ℕ) → (a ≡ b → ⊥) → (a == b) ≡ false
other_number a b h = by (a == b) refl
  where
    by : (z : Bool) → (a == b) ≡ z → z ≡ false
    by true e = absurd (h (eqb-true a b e))
    by false e = refl

pub smaller_number : (a b : ℕ) → a < b → (a == b) ≡ false
smaller_number a b h = other_number a b (λ e. omega (arith, e, h))

pub greater_number : (a b : ℕ) → b < a → (a == b) ≡ false
greater_number a b h = other_number a b (λ e. omega (arith, e, h))

pub place_same : (after : ℕ) (to : ℕ → ℕ) (m : ℕ) (ns : List ℕ) → place_for after (placed to (m ∷ ns)) m ≡ to m
place_same after to m ns = ap (λ b. cond b (to m) (place_for after (placed to ns) m)) (same_number m)

pub place_other : (after : ℕ) (to : ℕ → ℕ) (m k : ℕ) → (k == m) ≡ false → place_for after (placed to (k ∷ [])) m ≡ after
place_other after to m k e = ap (λ b. cond b (to k) after) e

-- what falls through is found as well
pub place_fallen : (after : ℕ) (to : ℕ → ℕ) (m : ℕ) (ns : List ℕ) → after ≡ to m → place_for after (placed to ns) m ≡ to m
place_fallen after to m [] e = e
place_fallen after to m (n ∷ ns) e = by (n == m) refl (place_fallen after to m ns e)
  where
    by : (z : Bool) → (n == m) ≡ z → place_for after (placed to ns) m ≡ to m → cond z (to n) (place_for after (placed to ns) m) ≡ to m
    by true h r = ap to (eqb-true n m h)
    by false h r = r

-- ---- a place that is among those that are known

abbrev pub Placed : List ℕ → ℕ → Type 0
Placed ns i = (after : ℕ) (to : ℕ → ℕ) → place_for after (placed to ns) i ≡ to i

pub placed_here : (n i : ℕ) (ns : List ℕ) → n ≡ i → Placed (n ∷ ns) i
placed_here n i ns e after to = ap (λ b. cond b (to n) (place_for after (placed to ns) i)) (eq-eqb n i e) ∙ ap to e

pub placed_later : (n i : ℕ) (ns : List ℕ) → Placed ns i → Placed (n ∷ ns) i
placed_later n i ns h after to = by (n == i) refl
  where
    by : (z : Bool) → (n == i) ≡ z → cond z (to n) (place_for after (placed to ns) i) ≡ to i
    by true e = ap to (eqb-true n i e)
    by false e = h after to
