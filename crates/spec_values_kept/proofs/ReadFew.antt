-- What is read of tokens costs some of them: two for each token that is left behind.
use Rattle.std.proofs.Common.{◌≤◌, ◌+◌, ◌*◌, ℕ, suc, Bool, true, false, List, [], ◌∷◌, length, arith}
use Rattle.spec_value.specs.Datum.{Text}
use Rattle.spec_program.specs.Tokens.{Token, word, Placed}
use Rattle.spec_program.specs.Reading.{Read, got, stuck, and_then, chosen, if_token, word_or_stuck, past_word}

-- so much for these tokens
abbrev pub worth : List Placed → ℕ
worth ts = 2 * length ts

-- what is found has a cost, and this with what is left is no more than n
unfoldable pub Spends : {X : Type 0} → (ℕ → X → Type 0) → ℕ → Read X → Type 0
Spends P n (got x ts) = (k : ℕ) × (k + worth ts ≤ n) × P k x
Spends P n (stuck ts) = Unit {0}

pub found : {X : Type 0} (P : ℕ → X → Type 0) (n k : ℕ) (x : X) (ts : List Placed) → k + worth ts ≤ n → P k x → Spends P n (got x ts)
unfolding Spends
found P n k x ts l h = (k, l, h)

pub none : {X : Type 0} (P : ℕ → X → Type 0) (n : ℕ) (ts : List Placed) → Spends P n (stuck ts)
unfolding Spends
none P n ts = tt

pub after : {X Y : Type 0} (P : ℕ → X → Type 0) (Q : ℕ → Y → Type 0) (n m : ℕ) (r : Read X) (f : X → List Placed → Read Y) → Spends P n r
    → ((k : ℕ) (x : X) (ts : List Placed) → k + worth ts ≤ n → P k x → Spends Q m (f x ts)) → Spends Q m (and_then r f)
unfolding Spends
after P Q n m (got x ts) f h more = more h.0 x ts h.1 h.2
after P Q n m (stuck ts) f h more = tt

pub wider : {X : Type 0} (P : ℕ → X → Type 0) (n m : ℕ) (r : Read X) → n ≤ m → Spends P n r → Spends P m r
unfolding Spends
wider P n m (got x ts) l h = let k : h.0 + worth ts ≤ n = h.1 in (h.0, omega (arith, l, k), h.2)
wider P n m (stuck ts) l h = tt

pub either_way : {X : Type 0} (P : ℕ → X → Type 0) (n : ℕ) (test : Token → Bool) (there absent : List Placed → Read X) (ts : List Placed)
    → ((us : List Placed) → suc (suc (worth us)) ≤ worth ts → Spends P n (there us)) → ((us : List Placed) → worth us ≤ worth ts → Spends P n (absent us))
    → Spends P n (if_token test there absent ts)
either_way P n test there absent [] k m = m [] (omega arith)
either_way P n test there absent (p ∷ ts) k m = go (test p.token)
  where
    go : (b : Bool) → Spends P n (chosen b there absent ts (p ∷ ts))
    go true = k ts (omega arith)
    go false = m (p ∷ ts) (omega arith)

pub past : {X : Type 0} (P : ℕ → X → Type 0) (n : ℕ) (test : Token → Bool) (there : List Placed → Read X) (ts : List Placed)
    → ((us : List Placed) → suc (suc (worth us)) ≤ worth ts → Spends P n (there us)) → Spends P n (if_token test there stuck ts)
past P n test there ts k = either_way P n test there stuck ts k (λ us l. none P n us)

pub worded : {X : Type 0} (P : ℕ → X → Type 0) (n : ℕ) (ts : List Placed) (f : Text → ℕ → List Placed → Read X)
    → ((x : Text) (line : ℕ) (us : List Placed) → suc (suc (worth us)) ≤ worth ts → Spends P n (f x line us)) → Spends P n (past_word ts f)
worded P n [] f k = none P n []
worded P n (p ∷ ts) f k = go p.token
  where
    go : (t : Token) → Spends P n (word_or_stuck t p.line f ts (p ∷ ts))
    go (word x) = k x p.line ts (omega arith)
    go t = none P n (p ∷ ts)
