-- Tokens as texts have them, and what is read from such tokens.
use Rattle.std.proofs.Common.{ℕ, suc, Bool, true, false, List, [], ◌∷◌, ◌&&◌, IsTrue}
use Rattle.std.specs.Prelude.{nat_le}
use Rattle.spec_value.specs.Datum.{Text, is_text, fold_case}
use Rattle.spec_value.proofs.Entries.{both_hold}
use Rattle.spec_program.specs.Tokens.{Token, word, integer, object, string, Placed, greatest_integer, greatest_object}
use Rattle.spec_program.specs.Reading.{Read, got, stuck, and_then, chosen, if_token, word_or_stuck, past_word}
use Rattle.spec_program.specs.Trees.{is_name}

-- a word may name something, numbers are in their ranges, strings have the characters of texts
abbrev pub TokenFits : Token → Type 0
TokenFits (word x) = IsTrue (is_name (fold_case x)) × IsTrue (is_text x)
TokenFits (integer n) = IsTrue (nat_le n (suc greatest_integer))
TokenFits (object below n) = IsTrue (nat_le n (greatest_object below))
TokenFits (string t) = IsTrue (is_text t)
TokenFits k = Unit {0}

abbrev pub TokensFit : List Placed → Type 0
TokensFit [] = Unit {0}
TokensFit (p ∷ ts) = TokenFits p.token × TokensFit ts

-- what is found is such, and so are the tokens behind it
unfoldable pub Gives : {X : Type 0} → (X → Type 0) → Read X → Type 0
Gives P (got x ts) = P x × TokensFit ts
Gives P (stuck ts) = Unit {0}

pub found : {X : Type 0} (P : X → Type 0) (x : X) (ts : List Placed) → P x → TokensFit ts → Gives P (got x ts)
unfolding Gives
found P x ts h k = (h, k)

pub none : {X : Type 0} (P : X → Type 0) (ts : List Placed) → Gives P (stuck ts)
unfolding Gives
none P ts = tt

pub and_also : {a b : Bool} → IsTrue a → IsTrue b → IsTrue (a && b)
and_also {a} {b} h k = both_hold a b h k

pub implied : {X : Type 0} (P Q : X → Type 0) (r : Read X) → ((x : X) → P x → Q x) → Gives P r → Gives Q r
unfolding Gives
implied P Q (got x ts) f h = (f x h.0, h.1)
implied P Q (stuck ts) f h = tt

pub after : {X Y : Type 0} (P : X → Type 0) (Q : Y → Type 0) (r : Read X) (f : X → List Placed → Read Y) → Gives P r
    → ((x : X) (ts : List Placed) → P x → TokensFit ts → Gives Q (f x ts)) → Gives Q (and_then r f)
unfolding Gives
after P Q (got x ts) f h k = k x ts h.0 h.1
after P Q (stuck ts) f h k = tt

pub either_way : {X : Type 0} (P : X → Type 0) (test : Token → Bool) (there absent : List Placed → Read X) (ts : List Placed) → TokensFit ts
    → ((us : List Placed) → TokensFit us → Gives P (there us)) → ((us : List Placed) → TokensFit us → Gives P (absent us))
    → Gives P (if_token test there absent ts)
either_way P test there absent [] h k m = m [] tt
either_way P test there absent (p ∷ ts) h k m = go (test p.token)
  where
    go : (b : Bool) → Gives P (chosen b there absent ts (p ∷ ts))
    go true = k ts h.1
    go false = m (p ∷ ts) h

pub past : {X : Type 0} (P : X → Type 0) (test : Token → Bool) (there : List Placed → Read X) (ts : List Placed) → TokensFit ts
    → ((us : List Placed) → TokensFit us → Gives P (there us)) → Gives P (if_token test there stuck ts)
past P test there ts h k = either_way P test there stuck ts h k (λ us m. none P us)

pub worded : {X : Type 0} (P : X → Type 0) (ts : List Placed) (f : Text → ℕ → List Placed → Read X) → TokensFit ts
    → ((x : Text) (line : ℕ) (us : List Placed) → TokenFits (word x) → TokensFit us → Gives P (f x line us)) → Gives P (past_word ts f)
worded P [] f h k = none P []
worded P (p ∷ ts) f h k = go p.token h.0
  where
    go : (t : Token) → TokenFits t → Gives P (word_or_stuck t p.line f ts (p ∷ ts))
    go (word x) m = k x p.line ts m h.1
    go t m = none P (p ∷ ts)
