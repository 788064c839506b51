-- What a step does of the work, and before a token that is none: by what is taken of the tokens.
use Rattle.std.proofs.Common.{◌≡◌, ℕ, suc, ◌+◌, ◌*◌, ◌<◌, Bool, true, false, List, [], ◌∷◌, ◌++◌, length, refl, sym, subst, arith}
use Rattle.spec_value.specs.Datum.{Text}
use Rattle.spec_program.specs.Tokens as t
use Rattle.spec_program.specs.Tokens.{FaultKind, Token, Placed}
use Rattle.spec_program.specs.ReadExpressions as by
use Rattle.spec_reader.specs.Next.{Next, State, goes, stops, if_there, taken, on, if_word, taken_word, on_word}
use Rattle.spec_reader.specs.Begins.{if_alone, if_word_alone, taken_word_alone}
use Rattle.spec_reader.specs.Work.{next_work, work}
use Rattle.spec_reader.specs.Whole.{bad_at, before}

-- s leaves less work than m, and r is what s is where the token q stands behind all others
pub record Does (m : ℕ) (q : Placed) (s r : State) : Type 0 where
  pub less : work s < m
  pub same : r ≡ before q s

-- a token that is there or not
pub on_token : (m : ℕ) (k : FaultKind) (l : ℕ) (test : Token → Bool) (f g : List Placed → State) (ts : List Placed) → test (t.bad k) ≡ false
    → ((us : List Placed) → suc (length us) ≡ length ts → Does m (bad_at k l) (f us) (f (us ++ bad_at k l ∷ [])))
    → Does m (bad_at k l) (g ts) (g (ts ++ bad_at k l ∷ []))
    → Does m (bad_at k l) (on f g (taken test ts)) (on f g (taken test (ts ++ bad_at k l ∷ [])))
on_token m k l test f g [] e h d = subst (λ c. Does m (bad_at k l) (g []) (on f g (if_there c (bad_at k l) []))) (sym e) d
on_token m k l test f g (p ∷ ts) e h d = by_test (test p.token)
  where
    by_test : (c : Bool) → Does m (bad_at k l) (on f g (if_there c p ts)) (on f g (if_there c p (ts ++ bad_at k l ∷ [])))
    by_test true = h ts refl
    by_test false = d

-- one that must be there
pub past : (m : ℕ) (k : FaultKind) (l : ℕ) (test : Token → Bool) (x : Next) (ts : List Placed) → test (t.bad k) ≡ false
    → next_work x + 10 * length ts < m + 10 → 10 * length ts < m
    → Does m (bad_at k l) (on (goes x) stops (taken test ts)) (on (goes x) stops (taken test (ts ++ bad_at k l ∷ [])))
past m k l test x ts e h i =
    on_token m k l test (goes x) stops ts e (λ us n. record { less = omega arith; same = refl }) (record { less = omega arith; same = refl })

-- a word that is there or not
pub on_a_word : (m : ℕ) (k : FaultKind) (l : ℕ) (f : Text → ℕ → List Placed → State) (g : List Placed → State) (ts : List Placed)
    → ((x : Text) (line : ℕ) (us : List Placed) → suc (length us) ≡ length ts → Does m (bad_at k l) (f x line us) (f x line (us ++ bad_at k l ∷ [])))
    → Does m (bad_at k l) (g ts) (g (ts ++ bad_at k l ∷ []))
    → Does m (bad_at k l) (on_word f g (taken_word ts)) (on_word f g (taken_word (ts ++ bad_at k l ∷ [])))
on_a_word m k l f g [] h d = d
on_a_word m k l f g (p ∷ ts) h d = by_token p.token
  where
    rest : List Placed
    rest = ts ++ bad_at k l ∷ []

    by_token : (c : Token) → Does m (bad_at k l) (on_word f g (if_word c p.line ts (p ∷ ts))) (on_word f g (if_word c p.line rest (p ∷ rest)))
    by_token (t.word x) = h x p.line ts refl
    by_token _ = d

-- a word alone
ends_same : (k : FaultKind) (l : ℕ) (ts : List Placed) → by.ends_item (ts ++ bad_at k l ∷ []) ≡ by.ends_item ts
ends_same k l [] = refl
ends_same k l (p ∷ ts) = refl

pub on_lone_word : (m : ℕ) (k : FaultKind) (l : ℕ) (f : Text → ℕ → List Placed → State) (g : List Placed → State) (ts : List Placed)
    → ((x : Text) (line : ℕ) (us : List Placed) → suc (length us) ≡ length ts → Does m (bad_at k l) (f x line us) (f x line (us ++ bad_at k l ∷ [])))
    → Does m (bad_at k l) (g ts) (g (ts ++ bad_at k l ∷ []))
    → Does m (bad_at k l) (on_word f g (taken_word_alone ts)) (on_word f g (taken_word_alone (ts ++ bad_at k l ∷ [])))
on_lone_word m k l f g [] h d = d
on_lone_word m k l f g (p ∷ ts) h d = by_token p.token p.line
  where
    rest : List Placed
    rest = ts ++ bad_at k l ∷ []

    by_end : (c : Bool) (x : Text) (line : ℕ)
        → Does m (bad_at k l) (on_word f g (if_alone c x line ts (p ∷ ts))) (on_word f g (if_alone c x line rest (p ∷ rest)))
    by_end true x line = h x line ts refl
    by_end false x line = d

    by_word : (x : Text) (line : ℕ)
        → Does m (bad_at k l) (on_word f g (if_alone (by.ends_item ts) x line ts (p ∷ ts)))
        (on_word f g (if_alone (by.ends_item rest) x line rest (p ∷ rest)))
    by_word x line =
        subst (λ c. Does m (bad_at k l) (on_word f g (if_alone (by.ends_item ts) x line ts (p ∷ ts))) (on_word f g (if_alone c x line rest (p ∷ rest))))
        (sym (ends_same k l ts)) (by_end (by.ends_item ts) x line)

    by_token : (c : Token) (line : ℕ)
        → Does m (bad_at k l) (on_word f g (if_word_alone c line ts (p ∷ ts))) (on_word f g (if_word_alone c line rest (p ∷ rest)))
    by_token (t.word x) line = by_word x line
    by_token _ line = d
