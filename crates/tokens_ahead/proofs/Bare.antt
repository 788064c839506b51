-- The tokens of a text, on whatever lines they stand: behind blanks they are the same, and behind a piece that is cut into some tokens these come first.
use Rattle.std.proofs.Common.{arith, ◌≡◌, ◌≤◌, ℕ, zero, suc, Bool, true, false, List, [], ◌∷◌, ◌++◌, length, refl, sym, ap, ◌∙◌}
use Rattle.spec_value.specs.Datum.{Text}
use Rattle.spec_program.specs.Tokens as t
use Rattle.spec_program.specs.Tokens.{Token, Placed, First, first_token, is_blank, line_after, and_later, token_first, blank_or_token, tokens_from, tokens_of}
use Rattle.spec_program.specs.CanonicalTokens.{Laid, none, next}
use Rattle.spec_spelling.proofs.Pieces.{Clear, CutInto, blank, placed, Piece}
use Rattle.tokens_ahead.specs.Bare.{tokens_in, bare}
use Rattle.tokens_ahead.proofs.FirstTokens.{Within, first_within}

-- ---- more than enough is as good as enough

same_later : (l m : Text → List Placed) (line : ℕ) (k : Token) (u : Text) → l u ≡ m u → and_later l line k u ≡ and_later m line k u
same_later l m line (t.bad k) u e = refl
same_later l m line (t.word x) u e = ap (λ ts. record { token = t.word x; line = line } ∷ ts) e
same_later l m line (t.keyword x) u e = ap (λ ts. record { token = t.keyword x; line = line } ∷ ts) e
same_later l m line (t.error_name x) u e = ap (λ ts. record { token = t.error_name x; line = line } ∷ ts) e
same_later l m line (t.integer x) u e = ap (λ ts. record { token = t.integer x; line = line } ∷ ts) e
same_later l m line (t.object b x) u e = ap (λ ts. record { token = t.object b x; line = line } ∷ ts) e
same_later l m line (t.string x) u e = ap (λ ts. record { token = t.string x; line = line } ∷ ts) e
same_later l m line (t.sign x) u e = ap (λ ts. record { token = t.sign x; line = line } ∷ ts) e

enough : (n m line : ℕ) (u : Text) → length u ≤ n → length u ≤ m → tokens_from n line u ≡ tokens_from m line u
unfolding tokens_from
enough zero zero line u h k = refl
enough zero (suc m) line [] h k = refl
enough zero (suc m) line (c ∷ u) h k = absurd (omega (arith, h))
enough (suc n) zero line [] h k = refl
enough (suc n) zero line (c ∷ u) h k = absurd (omega (arith, k))
enough (suc n) (suc m) line [] h k = refl
enough (suc n) (suc m) line (c ∷ u) h k =
    go (enough n m (line_after c line) u (omega (arith, h)) (omega (arith, k)))
    (λ f w. same_later (tokens_from n line) (tokens_from m line) line f.token f.rest (enough n m line f.rest (omega (arith, h, w)) (omega (arith, k, w)))) (is_blank c)
  where
    go : tokens_from n (line_after c line) u ≡ tokens_from m (line_after c line) u
        → ((f : First) → Within (length u) f → token_first (tokens_from n line) line f ≡ token_first (tokens_from m line) line f)
        → (b : Bool) → blank_or_token b (tokens_from n) line c u ≡ blank_or_token b (tokens_from m) line c u
    go blank later true = blank
    go blank later false = later (first_token c u) (first_within c u)

-- ---- from whatever line on

same_bare : (l m : Text → List Placed) (line other : ℕ) (k : Token) (u : Text) → tokens_in (l u) ≡ tokens_in (m u)
    → tokens_in (and_later l line k u) ≡ tokens_in (and_later m other k u)
same_bare l m line other (t.bad k) u e = refl
same_bare l m line other (t.word x) u e = ap (λ ks. t.word x ∷ ks) e
same_bare l m line other (t.keyword x) u e = ap (λ ks. t.keyword x ∷ ks) e
same_bare l m line other (t.error_name x) u e = ap (λ ks. t.error_name x ∷ ks) e
same_bare l m line other (t.integer x) u e = ap (λ ks. t.integer x ∷ ks) e
same_bare l m line other (t.object b x) u e = ap (λ ks. t.object b x ∷ ks) e
same_bare l m line other (t.string x) u e = ap (λ ks. t.string x ∷ ks) e
same_bare l m line other (t.sign x) u e = ap (λ ks. t.sign x ∷ ks) e

any_line : (n line other : ℕ) (u : Text) → tokens_in (tokens_from n line u) ≡ tokens_in (tokens_from n other u)
unfolding tokens_from
any_line zero line other u = refl
any_line (suc n) line other [] = refl
any_line (suc n) line other (c ∷ u) =
    go (any_line n (line_after c line) (line_after c other) u)
    (λ f. same_bare (tokens_from n line) (tokens_from n other) line other f.token f.rest (any_line n line other f.rest)) (is_blank c)
  where
    go : tokens_in (tokens_from n (line_after c line) u) ≡ tokens_in (tokens_from n (line_after c other) u)
        → ((f : First) → tokens_in (token_first (tokens_from n line) line f) ≡ tokens_in (token_first (tokens_from n other) other f))
        → (b : Bool) → tokens_in (blank_or_token b (tokens_from n) line c u) ≡ tokens_in (blank_or_token b (tokens_from n) other c u)
    go blank later true = blank
    go blank later false = later (first_token c u)

-- ---- whole texts

own_cut : (line : ℕ) (u : Text) → CutInto line u (tokens_from (length u) line u)
own_cut line u = record { cut = λ n h. enough n (length u) line u h (omega arith) }

is_bare : (u : Text) → bare u ≡ tokens_in (tokens_from (length u) 1 u)
unfolding bare
is_bare u = refl

pub nothing_bare : bare [] ≡ []
unfolding bare tokens_from
nothing_bare = refl

pub blank_bare : (c : ℕ) (u : Text) → is_blank c ≡ true → bare (c ∷ u) ≡ bare u
blank_bare c u b =
    let k = blank c b (own_cut (line_after c 1) u) in
    is_bare (c ∷ u) ∙ ap tokens_in (k.cut (suc (length u)) (omega arith)) ∙ any_line (length u) (line_after c 1) 1 u ∙ sym (is_bare u)

placed_bare : (line : ℕ) (ks : List Token) (us : List Placed) → tokens_in (placed line ks us) ≡ ks ++ tokens_in us
placed_bare line [] us = refl
placed_bare line (k ∷ ks) us = ap (λ js. k ∷ js) (placed_bare line ks us)

pub piece_bare : {test : ℕ → Bool} {w : Text} {ks : List Token} → Piece test w ks → (u : Text) → Clear test u → bare (w ++ u) ≡ ks ++ bare u
piece_bare {test} {w} {ks} p u h =
    let k = p.goes 1 u (tokens_from (length u) 1 u) h (own_cut 1 u) in
    is_bare (w ++ u) ∙ ap tokens_in (k.cut (length (w ++ u)) (omega arith)) ∙ placed_bare 1 ks (tokens_from (length u) 1 u) ∙ ap (λ js. ks ++ js) (sym (is_bare u))

-- ---- on whatever lines

own_laid : (ts : List Placed) → Laid (tokens_in ts) ts []
own_laid [] = none
own_laid (p ∷ ts) = next p.line (own_laid ts)

pub bare_laid : (u : Text) → Laid (bare u) (tokens_of u) []
unfolding bare
bare_laid u = own_laid (tokens_of u)
