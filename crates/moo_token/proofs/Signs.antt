-- How signs are spelled.
use Rattle.std.proofs.Common.{◌≡◌, ℕ, Bool, true, false, cond, [], ◌∷◌, ◌++◌, Option, Some, None, refl, sym, ap, ◌∙◌, subst, ⊎_elim}
use Rattle.std.specs.Prelude.{◌==◌}
use Rattle.std.proofs.lemmas.Bool.{eqb-true}
use Rattle.spec_value.specs.Datum.{Text}
use Rattle.moo_token.specs.declared.token.Sign.{Sign}
use Rattle.moo_token.specs.declared.token.Sign.TheVariants as sign
use Rattle.moo_token.specs.Tokens.{spelling, sign_of}
use Rattle.moo_token.specs.Cutting.{longer}
use Rattle.moo_token.proofs.Lists.{tested}

abbrev pub head_of : Text → ℕ
head_of [] = 0
head_of (b ∷ bs) = b

code_is : (b n : ℕ) (x m : Sign) → (b == n) ≡ true → x ≡ m → spelling x ≡ n ∷ [] → b ∷ [] ≡ spelling m
code_is b n x m e h c = ap (λ z. z ∷ []) (eqb-true b n e) ∙ sym c ∙ ap spelling h

-- what a byte alone spells
pub sign_spelled : (b : ℕ) (m : Sign) → sign_of b ≡ Some m → b ∷ [] ≡ spelling m
sign_spelled b m h =
    ⊎_elim (λ x. code_is b 40 sign.OpenParenthesis m x.0 x.1 refl) (λ x.
    ⊎_elim (λ x. code_is b 41 sign.CloseParenthesis m x.0 x.1 refl) (λ x.
    ⊎_elim (λ x. code_is b 91 sign.OpenBracket m x.0 x.1 refl) (λ x.
    ⊎_elim (λ x. code_is b 93 sign.CloseBracket m x.0 x.1 refl) (λ x.
    ⊎_elim (λ x. code_is b 123 sign.OpenBrace m x.0 x.1 refl) (λ x.
    ⊎_elim (λ x. code_is b 125 sign.CloseBrace m x.0 x.1 refl) (λ x.
    ⊎_elim (λ x. code_is b 59 sign.Semicolon m x.0 x.1 refl) (λ x.
    ⊎_elim (λ x. code_is b 44 sign.Comma m x.0 x.1 refl) (λ x.
    ⊎_elim (λ x. code_is b 58 sign.Colon m x.0 x.1 refl) (λ x.
    ⊎_elim (λ x. code_is b 46 sign.Dot m x.0 x.1 refl) (λ x.
    ⊎_elim (λ x. code_is b 61 sign.Assign m x.0 x.1 refl) (λ x.
    ⊎_elim (λ x. code_is b 33 sign.Not m x.0 x.1 refl) (λ x.
    ⊎_elim (λ x. code_is b 43 sign.Plus m x.0 x.1 refl) (λ x.
    ⊎_elim (λ x. code_is b 45 sign.Minus m x.0 x.1 refl) (λ x.
    ⊎_elim (λ x. code_is b 42 sign.Times m x.0 x.1 refl) (λ x.
    ⊎_elim (λ x. code_is b 47 sign.Slash m x.0 x.1 refl) (λ x.
    ⊎_elim (λ x. code_is b 37 sign.Percent m x.0 x.1 refl) (λ x.
    ⊎_elim (λ x. code_is b 94 sign.Caret m x.0 x.1 refl) (λ x.
    ⊎_elim (λ x. code_is b 60 sign.Less m x.0 x.1 refl) (λ x.
    ⊎_elim (λ x. code_is b 62 sign.Greater m x.0 x.1 refl) (λ x.
    ⊎_elim (λ x. code_is b 124 sign.Bar m x.0 x.1 refl) (λ x.
    ⊎_elim (λ x. code_is b 63 sign.Question m x.0 x.1 refl) (λ x.
    ⊎_elim (λ x. code_is b 36 sign.Dollar m x.0 x.1 refl) (λ x.
    ⊎_elim (λ x. code_is b 64 sign.At m x.0 x.1 refl) (λ x.
    ⊎_elim (λ x. code_is b 96 sign.Backquote m x.0 x.1 refl) (λ x.
    ⊎_elim (λ x. code_is b 39 sign.Quote m x.0 x.1 refl) (λ x. let e : None ≡ Some m = x.1 in cc) (tested (b == 39) sign.Quote m None x.1))
    (tested (b == 96) sign.Backquote m _ x.1))
    (tested (b == 64) sign.At m _ x.1))
    (tested (b == 36) sign.Dollar m _ x.1))
    (tested (b == 63) sign.Question m _ x.1))
    (tested (b == 124) sign.Bar m _ x.1))
    (tested (b == 62) sign.Greater m _ x.1))
    (tested (b == 60) sign.Less m _ x.1))
    (tested (b == 94) sign.Caret m _ x.1))
    (tested (b == 37) sign.Percent m _ x.1))
    (tested (b == 47) sign.Slash m _ x.1))
    (tested (b == 42) sign.Times m _ x.1))
    (tested (b == 45) sign.Minus m _ x.1))
    (tested (b == 43) sign.Plus m _ x.1))
    (tested (b == 33) sign.Not m _ x.1))
    (tested (b == 61) sign.Assign m _ x.1))
    (tested (b == 46) sign.Dot m _ x.1))
    (tested (b == 58) sign.Colon m _ x.1))
    (tested (b == 44) sign.Comma m _ x.1))
    (tested (b == 59) sign.Semicolon m _ x.1))
    (tested (b == 125) sign.CloseBrace m _ x.1))
    (tested (b == 123) sign.OpenBrace m _ x.1))
    (tested (b == 93) sign.CloseBracket m _ x.1))
    (tested (b == 91) sign.OpenBracket m _ x.1))
    (tested (b == 41) sign.CloseParenthesis m _ x.1))
    (tested (b == 40) sign.OpenParenthesis m _ h)

longer_is : (b n : ℕ) (x m : Sign) (cs : Text) → (b == n) ≡ true → x ≡ m → spelling x ≡ cs ++ n ∷ [] → cs ++ b ∷ [] ≡ spelling m
longer_is b n x m cs e h c = ap (λ z. cs ++ z ∷ []) (eqb-true b n e) ∙ sym c ∙ ap spelling h

one_longer : (b n : ℕ) (x m : Sign) (cs : Text) → cond (b == n) (Some x) None ≡ Some m → spelling x ≡ cs ++ n ∷ [] → cs ++ b ∷ [] ≡ spelling m
one_longer b n x m cs h c = ⊎_elim (λ y. longer_is b n x m cs y.0 y.1 c) (λ y. let e : None ≡ Some m = y.1 in cc) (tested (b == n) x m None h)

-- what two bytes spell
pub longer_spelled : (b : ℕ) (m n : Sign) → longer m b ≡ Some n → spelling m ++ b ∷ [] ≡ spelling n
longer_spelled b sign.Dot n h = one_longer b 46 sign.DoubleDot n (46 ∷ []) h refl
longer_spelled b sign.Assign n h =
    ⊎_elim (λ x. longer_is b 61 sign.Equal n (61 ∷ []) x.0 x.1 refl) (λ x. one_longer b 62 sign.Arrow n (61 ∷ []) x.1 refl) (tested (b == 61) sign.Equal n _ h)
longer_spelled b sign.Not n h = one_longer b 61 sign.Differs n (33 ∷ []) h refl
longer_spelled b sign.Less n h = one_longer b 61 sign.LessOrEqual n (60 ∷ []) h refl
longer_spelled b sign.Greater n h = one_longer b 61 sign.GreaterOrEqual n (62 ∷ []) h refl
longer_spelled b sign.Bar n h = one_longer b 124 sign.Or n (124 ∷ []) h refl
longer_spelled b _ n h = cc

abbrev is_nonempty : Text → Bool
is_nonempty [] = false
is_nonempty (b ∷ bs) = true

nonempty : (m : Sign) → is_nonempty (spelling m) ≡ true
nonempty sign.And = refl
nonempty _ = refl

pub never_empty : (m : Sign) → [] ≡ spelling m → ⊥
never_empty m h = let e : false ≡ true = ap is_nonempty h ∙ nonempty m in cc

-- a sign of one byte is that byte's
abbrev IsByBytes : Text → Sign → Type 0
IsByBytes [] m = ⊥
IsByBytes (b ∷ []) m = sign_of b ≡ Some m
IsByBytes (b ∷ c ∷ cs) m = Unit {0}

by_bytes : (m : Sign) → IsByBytes (spelling m) m
by_bytes sign.DoubleDot = tt
by_bytes sign.Equal = tt
by_bytes sign.Arrow = tt
by_bytes sign.Differs = tt
by_bytes sign.LessOrEqual = tt
by_bytes sign.GreaterOrEqual = tt
by_bytes sign.And = tt
by_bytes sign.Or = tt
by_bytes _ = refl

single : (a : ℕ) (m : Sign) → spelling m ≡ a ∷ [] → sign_of a ≡ Some m
single a m h = subst (λ w. IsByBytes w m) h (by_bytes m)

split_one : (w more : Text) (c a : ℕ) → is_nonempty w ≡ true → w ++ c ∷ more ≡ a ∷ [] → ⊥
split_one [] more c a h e = cc
split_one (x ∷ []) more c a h e = cc
split_one (x ∷ y ∷ w) more c a h e = cc

split_two : (w more : Text) (c a b : ℕ) → is_nonempty w ≡ true → w ++ c ∷ more ≡ a ∷ b ∷ [] → (w ≡ a ∷ []) × (c ≡ b)
split_two [] more c a b h e = cc
split_two (x ∷ []) more c a b h e = let f : x ≡ a = cc in let g : c ≡ b = cc in (ap (λ z. z ∷ []) f, g)
split_two (x ∷ y ∷ []) more c a b h e = cc
split_two (x ∷ y ∷ z ∷ w) more c a b h e = cc

-- the sign of the first of two bytes goes on with the second
goes_on : (m n s : Sign) (a b c : ℕ) (more : Text) → spelling m ++ c ∷ more ≡ a ∷ b ∷ [] → sign_of a ≡ Some s → longer s b ≡ Some n → longer m c ≡ Some n
goes_on m n s a b c more e f g =
    let x = split_two (spelling m) more c a b (nonempty m) e in
    let y : Some s ≡ Some m = sym f ∙ single a m x.0 in
    let z : s ≡ m = cc in
    ap (λ q. longer q c) (sym z) ∙ ap (longer s) x.1 ∙ g

no_sign : (m : Sign) (c : ℕ) (more : Text) → spelling m ++ c ∷ more ≡ 38 ∷ 38 ∷ [] → ⊥
no_sign m c more e =
    let x = split_two (spelling m) more c 38 38 (nonempty m) e in
    let y : None ≡ Some m = single 38 m x.0 in cc

none_some : (o : Option Sign) (n : Sign) → o ≡ None → o ≡ Some n → ⊥
none_some o n h e = let x : None ≡ Some n = sym h ∙ e in cc

-- one sign's bytes begin another's only as `longer` says
pub no_longer : (m n : Sign) (c : ℕ) (more : Text) → longer m c ≡ None → spelling m ++ c ∷ more ≡ spelling n → ⊥
no_longer m sign.DoubleDot c more e k = none_some (longer m c) sign.DoubleDot e (goes_on m sign.DoubleDot sign.Dot 46 46 c more k refl refl)
no_longer m sign.Equal c more e k = none_some (longer m c) sign.Equal e (goes_on m sign.Equal sign.Assign 61 61 c more k refl refl)
no_longer m sign.Arrow c more e k = none_some (longer m c) sign.Arrow e (goes_on m sign.Arrow sign.Assign 61 62 c more k refl refl)
no_longer m sign.Differs c more e k = none_some (longer m c) sign.Differs e (goes_on m sign.Differs sign.Not 33 61 c more k refl refl)
no_longer m sign.LessOrEqual c more e k = none_some (longer m c) sign.LessOrEqual e (goes_on m sign.LessOrEqual sign.Less 60 61 c more k refl refl)
no_longer m sign.GreaterOrEqual c more e k = none_some (longer m c) sign.GreaterOrEqual e (goes_on m sign.GreaterOrEqual sign.Greater 62 61 c more k refl refl)
no_longer m sign.Or c more e k = none_some (longer m c) sign.Or e (goes_on m sign.Or sign.Bar 124 124 c more k refl refl)
no_longer m sign.And c more e k = no_sign m c more k
no_longer m _ c more e k = split_one (spelling m) more c _ (nonempty m) k
