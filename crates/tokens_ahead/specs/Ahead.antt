-- What is taken from a text.
use Rattle.std.specs.Prelude.{ℕ, zero, suc, Bool, true, false, List, [], ◌∷◌, length, codes, if◌then◌else◌}
use Rattle.spec_value.specs.Datum.{Text}
use Rattle.moo_token.specs.declared.token.Sign.{Sign}
use Rattle.moo_token.specs.declared.token.Sign.TheVariants as sign
use Rattle.moo_token.specs.declared.token.Keyword.{Keyword}
use Rattle.moo_token.specs.declared.token.Keyword.TheVariants as word

-- a text begins with such a character
abbrev pub goes_on : (ℕ → Bool) → Text → Bool
goes_on test [] = false
goes_on test (c ∷ u) = test c

-- a sign with which a longer one begins
abbrev pub is_short : Sign → Bool
is_short sign.Dot = true
is_short sign.Assign = true
is_short sign.Not = true
is_short sign.Less = true
is_short sign.Greater = true
is_short sign.Bar = true
is_short _ = false

-- a keyword in lower case
abbrev pub lower : Keyword → Text
lower word.If = codes "if"
lower word.Else = codes "else"
lower word.ElseIf = codes "elseif"
lower word.EndIf = codes "endif"
lower word.For = codes "for"
lower word.In = codes "in"
lower word.EndFor = codes "endfor"
lower word.While = codes "while"
lower word.EndWhile = codes "endwhile"
lower word.Break = codes "break"
lower word.Continue = codes "continue"
lower word.Return = codes "return"
lower word.Fork = codes "fork"
lower word.EndFork = codes "endfork"
lower word.Try = codes "try"
lower word.Except = codes "except"
lower word.Finally = codes "finally"
lower word.EndTry = codes "endtry"
lower word.Any = codes "any"

abbrev pub equal : ℕ → ℕ → Bool
equal zero zero = true
equal zero (suc n) = false
equal (suc m) zero = false
equal (suc m) (suc n) = equal m n

-- those of so many characters
abbrev pub as_long : ℕ → List Text → List Text
as_long n [] = []
as_long n (w ∷ ws) = if equal (length w) n then w ∷ as_long n ws else as_long n ws
