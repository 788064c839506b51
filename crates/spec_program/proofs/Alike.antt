-- Two readings of the same tokens that come out alike, and what they leave is an end of the tokens: kept by each way of reading on.
use Rattle.std.proofs.Common.{◌≡◌, ℕ, suc, ◌<◌, ◌≤◌, Bool, true, false, List, [], ◌∷◌, length, refl, arith}
use Rattle.spec_value.specs.Datum.{Text}
use Rattle.spec_program.specs.Tokens.{Sign, Keyword, Token, word, Placed}
use Rattle.spec_program.specs.Reading as r
use Rattle.spec_program.specs.Reading.{Read, and_then, chosen, if_token, if_sign, if_keyword, is_sign, is_keyword, past_sign, past_keyword, word_or_stuck, past_word}
use Rattle.spec_program.specs.ReadExpressions.{ReadsExpression}
use Rattle.spec_program.specs.Remaining.{Ends, all, past, Behind, behind, Consumes, Leaves}

pub on : {us ts vs : List Placed} → Ends us ts → Ends ts vs → Ends us vs
on e all = e
on e (past p f) = past p (on e f)

pub strictly : {us ts vs : List Placed} → Ends us ts → Behind ts vs → Behind us vs
strictly e (behind p f) = behind p (on e f)

pub weakly : {us ts : List Placed} → Behind us ts → Ends us ts
weakly (behind p e) = past p e

pub and_strictly : {us ts vs : List Placed} → Behind us ts → Ends ts vs → Behind us vs
and_strictly b all = b
and_strictly b (past p f) = behind p (weakly (and_strictly b f))

pub fewer : {us ts : List Placed} → Ends us ts → length us ≤ length ts
fewer (all {ts = ts}) = let e : length ts ≤ length ts = omega arith in e
fewer (past {us = us} {ts = ts} p e) = let h = fewer e in let g : length us ≤ suc (length ts) = omega (arith, h) in g

pub fewer_strictly : {us ts : List Placed} → Behind us ts → length us < length ts
fewer_strictly (behind {us = us} {ts = ts} p e) = let h = fewer e in let g : length us < suc (length ts) = omega (arith, h) in g

pub tail_of : {us ts : List Placed} {p : Placed} → Behind us (p ∷ ts) → Ends us ts
tail_of (behind p e) = e

-- ---- readings that are alike

-- true: strictly an end
abbrev pub Left : Bool → List Placed → List Placed → Type 0
Left true us ts = Behind us ts
Left false us ts = Ends us ts

pub data Alike {X : Type 0} (s : Bool) (ts : List Placed) : Read X → Read X → Type 0 where
  got : (x : X) (us : List Placed) → Left s us ts → Alike s ts (r.got x us) (r.got x us)
  stuck : (us : List Placed) → Ends us ts → Alike s ts (r.stuck us) (r.stuck us)

pub same : {X : Type 0} {s : Bool} {ts : List Placed} {a b : Read X} → Alike s ts a b → a ≡ b
same (got x us e) = refl
same (stuck us e) = refl

pub consumes : {X : Type 0} {ts : List Placed} {a b : Read X} → Alike true ts a b → Consumes ts a
consumes (got x us e) = e
consumes (stuck us e) = e

pub leaves : {X : Type 0} {ts : List Placed} {a b : Read X} → Alike false ts a b → Leaves ts a
leaves (got x us e) = e
leaves (stuck us e) = e

pub weak : {X : Type 0} {s : Bool} {ts : List Placed} {a b : Read X} → Alike s ts a b → Alike false ts a b
weak {s = true} (got x us e) = got x us (weakly e)
weak {s = true} (stuck us e) = stuck us e
weak {s = false} h = h

-- read further on, past one token at least
pub further : {X : Type 0} {s : Bool} {us ts : List Placed} {a b : Read X} → Behind us ts → Alike s us a b → Alike true ts a b
further {s = true} d (got x vs e) = got x vs (strictly (weakly e) d)
further {s = true} d (stuck vs e) = stuck vs (on e (weakly d))
further {s = false} d (got x vs e) = got x vs (strictly e d)
further {s = false} d (stuck vs e) = stuck vs (on e (weakly d))

pub next : {X : Type 0} {s : Bool} {ts : List Placed} {a b : Read X} (p : Placed) → Alike s ts a b → Alike true (p ∷ ts) a b
next p h = further (behind p all) h

-- no further than some place before
pub from : {X : Type 0} {s : Bool} {us ts : List Placed} {a b : Read X} → Ends us ts → Alike s us a b → Alike s ts a b
from {s = true} d (got x vs e) = got x vs (and_strictly e d)
from {s = true} d (stuck vs e) = stuck vs (on e d)
from {s = false} d (got x vs e) = got x vs (on e d)
from {s = false} d (stuck vs e) = stuck vs (on e d)

pub any : {X : Type 0} {s : Bool} {ts : List Placed} {a b : Read X} → Alike true ts a b → Alike s ts a b
any {s = true} h = h
any {s = false} h = weak h

pub found : {X : Type 0} {us : List Placed} (x : X) → Alike false us (r.got x us) (r.got x us)
found {us = us} x = got x us all

pub sticks : {X : Type 0} {us : List Placed} → Alike {X = X} true us (r.stuck us) (r.stuck us)
sticks {us = us} = stuck us all

-- ---- one reading after another

-- the first takes a token at least
pub then : {X Y : Type 0} {s : Bool} {ts : List Placed} {a b : Read X} {f g : X → List Placed → Read Y}
    → Alike true ts a b → ((x : X) (us : List Placed) → Behind us ts → Alike s us (f x us) (g x us)) → Alike true ts (and_then a f) (and_then b g)
then (got x us e) h = further e (h x us e)
then (stuck us e) h = stuck us e

-- the first may take none
pub perhaps_then : {X Y : Type 0} {s : Bool} {ts : List Placed} {a b : Read X} {f g : X → List Placed → Read Y}
    → Alike false ts a b → ((x : X) (us : List Placed) → Ends us ts → Alike s us (f x us) (g x us)) → Alike s ts (and_then a f) (and_then b g)
perhaps_then (got x us e) h = from e (h x us e)
perhaps_then (stuck us e) h = stuck us e

chosen_alike : {X : Type 0} {s z : Bool} (f g h i : List Placed → Read X) (c : Bool) (p : Placed) (ts : List Placed)
    → Alike z ts (f ts) (g ts) → Alike s (p ∷ ts) (h (p ∷ ts)) (i (p ∷ ts)) → Alike s (p ∷ ts) (chosen c f h ts (p ∷ ts)) (chosen c g i ts (p ∷ ts))
chosen_alike f g h i true p ts there absent = any (next p there)
chosen_alike f g h i false p ts there absent = absent

chosen_back : {X : Type 0} {s : Bool} (f g h i : List Placed → Read X) (c : Bool) (ts us : List Placed)
    → Alike s ts (f us) (g us) → Alike s ts (h ts) (i ts) → Alike s ts (chosen c f h us ts) (chosen c g i us ts)
chosen_back f g h i true ts us there absent = there
chosen_back f g h i false ts us there absent = absent

pub if_token_alike : {X : Type 0} {s z : Bool} {f g h i : List Placed → Read X} (test : Token → Bool) (ts : List Placed)
    → ((us : List Placed) → Behind us ts → Alike z us (f us) (g us)) → ((us : List Placed) → Ends us ts → Alike s us (h us) (i us))
    → Alike s ts (if_token test f h ts) (if_token test g i ts)
if_token_alike test [] there absent = absent [] all
if_token_alike {f = f} {g} {h} {i} test (p ∷ ts) there absent = chosen_alike f g h i (test p.token) p ts (there ts (behind p all)) (absent (p ∷ ts) all)

pub if_there : {X : Type 0} {s z : Bool} {f g h i : List Placed → Read X} (c : Sign) (ts : List Placed)
    → ((us : List Placed) → Behind us ts → Alike z us (f us) (g us)) → ((us : List Placed) → Ends us ts → Alike s us (h us) (i us))
    → Alike s ts (if_sign c f h ts) (if_sign c g i ts)
if_there c ts there absent = if_token_alike (is_sign c) ts there absent

-- the same where reading may stick before the sign
pub if_there_back : {X : Type 0} {s : Bool} {f g h i : List Placed → Read X} (c : Sign) (ts : List Placed)
    → ((us : List Placed) → Behind us ts → Alike s ts (f us) (g us)) → ((us : List Placed) → Ends us ts → Alike s us (h us) (i us))
    → Alike s ts (if_sign c f h ts) (if_sign c g i ts)
if_there_back c [] there absent = absent [] all
if_there_back {f = f} {g} {h} {i} c (p ∷ ts) there absent = chosen_back f g h i (is_sign c p.token) (p ∷ ts) ts (there ts (behind p all)) (absent (p ∷ ts) all)

pub if_word_there : {X : Type 0} {s z : Bool} {f g h i : List Placed → Read X} (c : Keyword) (ts : List Placed)
    → ((us : List Placed) → Behind us ts → Alike z us (f us) (g us)) → ((us : List Placed) → Ends us ts → Alike s us (h us) (i us))
    → Alike s ts (if_keyword c f h ts) (if_keyword c g i ts)
if_word_there c ts there absent = if_token_alike (is_keyword c) ts there absent

pub beyond : {X : Type 0} {z : Bool} {f g : List Placed → Read X} (c : Sign) (ts : List Placed)
    → ((us : List Placed) → Behind us ts → Alike z us (f us) (g us)) → Alike true ts (past_sign c ts f) (past_sign c ts g)
beyond c ts there = if_there c ts there (λ us e. stuck us all)

pub beyond_word : {X : Type 0} {z : Bool} {f g : List Placed → Read X} (c : Keyword) (ts : List Placed)
    → ((us : List Placed) → Behind us ts → Alike z us (f us) (g us)) → Alike true ts (past_keyword c ts f) (past_keyword c ts g)
beyond_word c ts there = if_word_there c ts there (λ us e. stuck us all)

named_alike : {X : Type 0} {s z : Bool} (f g : Text → ℕ → List Placed → Read X) (t : Token) (l : ℕ) (p : Placed) (ts : List Placed)
    → ((x : Text) → Alike z ts (f x l ts) (g x l ts)) → Alike s (p ∷ ts) (word_or_stuck t l f ts (p ∷ ts)) (word_or_stuck t l g ts (p ∷ ts))
named_alike f g (word x) l p ts h = any (next p (h x))
named_alike f g _ l p ts h = stuck (p ∷ ts) all

pub beyond_name : {X : Type 0} {z : Bool} {f g : Text → ℕ → List Placed → Read X} (ts : List Placed)
    → ((x : Text) (l : ℕ) (us : List Placed) → Behind us ts → Alike z us (f x l us) (g x l us)) → Alike true ts (past_word ts f) (past_word ts g)
beyond_name [] h = stuck [] all
beyond_name {f = f} {g} (p ∷ ts) h = named_alike f g p.token p.line p ts (λ x. h x p.line ts (behind p all))

-- ---- numbers and readers that are good for these tokens

pub record Good (n m : ℕ) (f g : ReadsExpression) (ts : List Placed) : Type 0 where
  pub first : length ts < n
  pub second : length ts < m
  pub reads : (b : Bool) (k : ℕ) (us : List Placed) → Ends us ts → Alike true us (f b k us) (g b k us)

pub later : {n m : ℕ} {f g : ReadsExpression} {us ts : List Placed} → Ends us ts → Good n m f g ts → Good n m f g us
later {n} {m} {f} {g} {us} {ts} e h =
    let l = fewer e in
    let i = h.first in
    let j = h.second in
    record { first = omega (arith, l, i); second = omega (arith, l, j); reads = λ b k vs d. h.reads b k vs (on d e) }

-- in a further turn of a loop, past one token at least
pub inner : {n m : ℕ} {f g : ReadsExpression} {us ts : List Placed} → Behind us ts → Good (suc n) (suc m) f g ts → Good n m f g us
inner {n} {m} {f} {g} {us} {ts} e h =
    let l = fewer_strictly e in
    let i = h.first in
    let j = h.second in
    record { first = omega (arith, l, i); second = omega (arith, l, j); reads = λ b k vs d. h.reads b k vs (on d (weakly e)) }

pub reading : {n m : ℕ} {f g : ReadsExpression} {ts : List Placed} → Good n m f g ts → (b : Bool) (k : ℕ) → Alike true ts (f b k ts) (g b k ts)
reading {ts = ts} h b k = h.reads b k ts all
