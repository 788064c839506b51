-- Texts that are cut into tokens on one line, whatever stands behind them, if its first character does not go on with the last token.
use Rattle.std.proofs.Common.{◌≡◌, ◌≤◌, ℕ, zero, suc, Bool, true, false, ◌==◌, ◌||◌, List, [], ◌∷◌, ◌++◌, length, refl, sym, ap, subst, ◌∙◌, arith, append_assoc, length-append}
use Rattle.spec_value.specs.Datum.{Text}
use Rattle.spec_program.specs.Tokens as t
use Rattle.spec_program.specs.Tokens.{Token, Placed, First, first_is, first_token, is_blank, line_after, and_later, token_first, blank_or_token, tokens_from}
use Rattle.spec_program.specs.Moves.{at}
use Rattle.spec_program.specs.CanonicalTokens.{Laid, none, next}

-- ---- from a line on a text is cut into these tokens

pub record CutInto (line : ℕ) (text : Text) (ts : List Placed) : Type 0 where
  pub cut : (n : ℕ) → length text ≤ n → tokens_from n line text ≡ ts

nothing_left : (n line : ℕ) → tokens_from n line [] ≡ []
unfolding tokens_from
nothing_left zero line = refl
nothing_left (suc n) line = refl

pub nothing : (line : ℕ) → CutInto line [] []
nothing line = record { cut = λ n h. nothing_left n line }

one_more : (n line c : ℕ) (u : Text) → tokens_from (suc n) line (c ∷ u) ≡ blank_or_token (is_blank c) (tokens_from n) line c u
unfolding tokens_from
one_more n line c u = refl

past_blank : (c line : ℕ) (u : Text) (us : List Placed) → is_blank c ≡ true → CutInto (line_after c line) u us → (n : ℕ) → suc (length u) ≤ n
    → tokens_from n line (c ∷ u) ≡ us
past_blank c line u us e k zero h = absurd (omega (arith, h))
past_blank c line u us e k (suc n) h =
    one_more n line c u ∙ ap (λ b. blank_or_token b (tokens_from n) line c u) e ∙ k.cut n (omega (arith, h))

pub blank : (c : ℕ) {line : ℕ} {u : Text} {us : List Placed} → is_blank c ≡ true → CutInto (line_after c line) u us → CutInto line (c ∷ u) us
blank c {line} {u} {us} e k = record { cut = past_blank c line u us e k }

abbrev pub is_good : Token → Bool
is_good (t.bad k) = false
is_good k = true

and_behind : (later : Text → List Placed) (line : ℕ) (k : Token) (u : Text) → is_good k ≡ true → and_later later line k u ≡ at line k ∷ later u
and_behind later line (t.bad k) u e = absurd (cc e)
and_behind later line (t.word x) u e = refl
and_behind later line (t.keyword x) u e = refl
and_behind later line (t.error_name x) u e = refl
and_behind later line (t.integer x) u e = refl
and_behind later line (t.object m x) u e = refl
and_behind later line (t.string x) u e = refl
and_behind later line (t.sign x) u e = refl

past_token : (c line : ℕ) (v u : Text) (k : Token) (us : List Placed) → is_blank c ≡ false → is_good k ≡ true → first_token c v ≡ first_is k u
    → length u ≤ length v → CutInto line u us → (n : ℕ) → suc (length v) ≤ n → tokens_from n line (c ∷ v) ≡ at line k ∷ us
past_token c line v u k us b g f s r zero h = absurd (omega (arith, h))
past_token c line v u k us b g f s r (suc n) h =
    one_more n line c v
    ∙ ap (λ b. blank_or_token b (tokens_from n) line c v) b
    ∙ ap (token_first (tokens_from n line) line) f
    ∙ and_behind (tokens_from n line) line k u g
    ∙ ap (λ ts. at line k ∷ ts) (r.cut n (omega (arith, h, s)))

-- ---- what stands behind

-- nothing, or first a character that is not such
abbrev pub Clear : (ℕ → Bool) → Text → Type 0
Clear test [] = Unit {0}
Clear test (c ∷ u) = test c ≡ false

abbrev pub never : ℕ → Bool
never c = false

-- the second characters of signs
abbrev pub is_second : ℕ → Bool
is_second c = (c == 46) || ((c == 61) || ((c == 62) || (c == 124)))

pub clear : (u : Text) → Clear never u
clear [] = tt
clear (c ∷ u) = refl

-- all on one line
abbrev pub placed : ℕ → List Token → List Placed → List Placed
placed line [] us = us
placed line (k ∷ ks) us = at line k ∷ placed line ks us

pub are_laid : (line : ℕ) (ks : List Token) (us : List Placed) → Laid ks (placed line ks us) us
are_laid line [] us = none
are_laid line (k ∷ ks) us = next line (are_laid line ks us)

placed_on : (line : ℕ) (ks js : List Token) (us : List Placed) → placed line (ks ++ js) us ≡ placed line ks (placed line js us)
placed_on line [] js us = refl
placed_on line (k ∷ ks) js us = ap (λ ts. at line k ∷ ts) (placed_on line ks js us)

-- a text that is cut into these tokens where no character behind it is such
pub record Piece (test : ℕ → Bool) (w : Text) (ks : List Token) : Type 0 where
  pub goes : (line : ℕ) (u : Text) (us : List Placed) → Clear test u → CutInto line u us → CutInto line (w ++ u) (placed line ks us)

pub empty : {test : ℕ → Bool} → Piece test [] []
empty = record { goes = λ line u us h k. k }

-- one token
pub exact : (c : ℕ) (w : Text) (k : Token) {test : ℕ → Bool} → is_blank c ≡ false → is_good k ≡ true
    → ((u : Text) → Clear test u → first_token c (w ++ u) ≡ first_is k u) → Piece test (c ∷ w) (k ∷ [])
exact c w k {test} b g f = record { goes = go }
  where
    go : (line : ℕ) (u : Text) (us : List Placed) → Clear test u → CutInto line u us → CutInto line (c ∷ (w ++ u)) (at line k ∷ us)
    go line u us h r = record { cut = past_token c line (w ++ u) u k us b g (f u h) (omega (arith, length-append w u)) r }

pub space : Piece never (32 ∷ []) []
space = record { goes = λ line u us h k. blank 32 refl k }

-- where anything may stand behind it, so may less
pub any : {test : ℕ → Bool} {w : Text} {ks : List Token} → Piece never w ks → Piece test w ks
any {test} {w} {ks} p = record { goes = λ line u us h k. p.goes line u us (clear u) k }

-- one behind the other
pub joined : {f g : ℕ → Bool} {w v : Text} {ks js : List Token} → Piece f w ks → Piece g v js → ((u : Text) → Clear g u → Clear f (v ++ u))
    → Piece g (w ++ v) (ks ++ js)
joined {f} {g} {w} {v} {ks} {js} p q s = record { goes = go }
  where
    go : (line : ℕ) (u : Text) (us : List Placed) → Clear g u → CutInto line u us → CutInto line ((w ++ v) ++ u) (placed line (ks ++ js) us)
    go line u us h k =
        subst (λ x. CutInto line x (placed line (ks ++ js) us)) (sym (append_assoc w v u))
        (subst (λ ts. CutInto line (w ++ (v ++ u)) ts) (sym (placed_on line ks js us)) (p.goes line (v ++ u) (placed line js us) (s u h) (q.goes line u us h k)))

pub followed : {g : ℕ → Bool} {w v : Text} {ks js : List Token} → Piece never w ks → Piece g v js → Piece g (w ++ v) (ks ++ js)
followed {v = v} p q = joined p q (λ u h. clear (v ++ u))
