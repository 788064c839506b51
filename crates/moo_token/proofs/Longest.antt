-- Where a token is at its end.
use Rattle.std.proofs.Common.{◌≡◌, ℕ, Bool, true, false, cond, [], ◌∷◌, ◌++◌, Option, Some, None, refl, sym, ap, ◌∙◌, arith, append_assoc}
use Rattle.std.specs.Prelude.{◌==◌}
use Rattle.std.specs.Char.{is_ascii_digit}
use Rattle.spec_value.specs.Datum.{Text, fold_case}
use Rattle.moo_token.specs.declared.token.Keyword.{Keyword}
use Rattle.moo_token.specs.declared.token.ErrorName.{ErrorName}
use Rattle.moo_token.specs.declared.token.Sign.{Sign}
use Rattle.moo_token.specs.declared.token.Sign.TheVariants as sign
use Rattle.moo_token.specs.Tokens as t
use Rattle.moo_token.specs.Tokens.{Token, identifier, keyword, error_name, integer, object, mark, is_letter, is_word, is_name, is_digits, word_of, keyword_of, error_of, keyword_or_other, error_or_identifier, hash, spelling, Escapes, none, plain, escaped, is_plain, Spells, IsInRange, IsLongest, is_at_digit}
use Rattle.moo_token.specs.Cutting.{longer}
use Rattle.moo_token.proofs.Lists.{pick_true, pick_false, and_true, all_has, digits_next, digit_not_letter, digit_not_minus}
use Rattle.moo_token.proofs.Signs.{head_of, never_empty, no_longer}

-- ---- no token begins as one of another class

pub data Class : Type 0 where
  of_word of_number of_string of_sign of_object : Class

abbrev pub class_of : Token → Class
class_of (identifier n) = of_word
class_of (keyword k) = of_word
class_of (error_name e) = of_word
class_of (integer n) = of_number
class_of (object m n) = of_object
class_of (t.text s) = of_string
class_of (mark m) = of_sign

abbrev first_class : ℕ → Class
first_class b = cond (is_letter b) of_word (cond (is_ascii_digit b) of_number (cond (b == 34) of_string (cond (b == 35) of_object of_sign)))

head_class : (m : Sign) → first_class (head_of (spelling m)) ≡ of_sign
head_class sign.And = refl
head_class _ = refl

head_code : (m : Sign) (b : ℕ) (bs : Text) → b ∷ bs ≡ spelling m → first_class b ≡ of_sign
head_code m b bs h = ap (λ w. first_class (head_of w)) h ∙ head_class m

hash_code : (minus : Bool) (digits : Text) (b : ℕ) (bs : Text) → b ∷ bs ≡ hash minus ++ digits → b ≡ 35
hash_code false digits b bs h = cc
hash_code true digits b bs h = cc

class_is : (b : ℕ) (bs : Text) (u : Token) → Spells (b ∷ bs) u → first_class b ≡ class_of u
class_is b bs (identifier n) h = pick_true _ _ _ (and_true (is_letter b) _ h.0).0
class_is b bs (keyword n) h = pick_true _ _ _ (and_true (is_letter b) _ h.0).0
class_is b bs (error_name n) h = pick_true _ _ _ (and_true (is_letter b) _ h.0).0
class_is b bs (integer n) h = let d = (and_true (is_ascii_digit b) _ h.0).0 in pick_false _ _ _ (digit_not_letter b d) ∙ pick_true _ _ _ d
class_is b bs (object m n) h = ap first_class (hash_code m h.0 b bs h.1)
class_is b bs (t.text s) h = let e : b ≡ 34 = (let x = h.1 in cc) in ap first_class e
class_is b bs (mark m) h = head_code m b bs h

no_hash : (minus : Bool) (digits : Text) → [] ≡ hash minus ++ digits → ⊥
no_hash false digits h = cc
no_hash true digits h = cc

pub no_token : (u : Token) → Spells [] u → ⊥
no_token (identifier n) h = let x = h.0 in cc
no_token (keyword n) h = let x = h.0 in cc
no_token (error_name n) h = let x = h.0 in cc
no_token (integer n) h = let x = h.0 in cc
no_token (object m n) h = no_hash m h.0 h.1
no_token (t.text s) h = let x = h.1 in cc
no_token (mark m) h = never_empty m h

same_class : (w more : Text) (u v : Token) → Spells w u → Spells (w ++ more) v → class_of u ≡ class_of v
same_class [] more u v h k = absurd (no_token u h)
same_class (b ∷ w) more u v h k = sym (class_is b w u h) ∙ class_is b (w ++ more) v k

-- ---- the tokens of a class

pub named : (w : Text) (u : Token) → Spells w u → class_of u ≡ of_word → is_name w ≡ true
named w (identifier n) h e = h.0
named w (keyword n) h e = h.0
named w (error_name n) h e = h.0
named w _ h e = cc

numbered : (w : Text) (u : Token) → Spells w u → class_of u ≡ of_number → is_digits w ≡ true
numbered w (integer n) h e = h.0
numbered w _ h e = cc

quoted : (w : Text) (u : Token) → Spells w u → class_of u ≡ of_string → (body : Text) × (s : Text) × (w ≡ 34 ∷ (body ++ 34 ∷ [])) × Escapes body s
quoted w (t.text s) h e = (h.0, s, h.1, h.2)
quoted w _ h e = cc

hashed : (w : Text) (u : Token) → Spells w u → class_of u ≡ of_object → (minus : Bool) × (digits : Text) × (w ≡ hash minus ++ digits) × (is_digits digits ≡ true)
hashed w (object m n) h e = (m, h.0, h.1, h.2)
hashed w _ h e = cc

signed : (w : Text) (u : Token) → Spells w u → class_of u ≡ of_sign → (m : Sign) × (w ≡ spelling m)
signed w (mark m) h e = (m, h)
signed w _ h e = cc

-- ---- words

-- what a word spells
pub record IsWord (w : Text) (u : Token) : Type 0 where
  pub spells : Spells w u
  pub range : IsInRange u
  pub class : class_of u ≡ of_word

other_word : (w : Text) (o : Option ErrorName) → is_name w ≡ true → word_of w ≡ error_or_identifier o w → IsWord w (error_or_identifier o w)
other_word w (Some e) h k = record { spells = (h, k); range = tt; class = refl }
other_word w None h k = record { spells = (h, k); range = tt; class = refl }

any_word : (w : Text) (o : Option Keyword) → is_name w ≡ true → word_of w ≡ keyword_or_other o w → IsWord w (keyword_or_other o w)
any_word w (Some e) h k = record { spells = (h, k); range = tt; class = refl }
any_word w None h k = other_word w (error_of (fold_case w)) h k

pub word_is : (w : Text) → is_name w ≡ true → IsWord w (word_of w)
word_is w h = any_word w (keyword_of (fold_case w)) h refl

-- ---- where a token is not longer

name_next : (w more : Text) (b : ℕ) → is_name w ≡ true → is_name (w ++ b ∷ more) ≡ true → is_word b ≡ true
name_next [] more b h e = cc
name_next (c ∷ w) more b h e = all_has is_word w more b (and_true (is_letter c) _ e).1

pub at_end_longest : (w : Text) → IsLongest w []
at_end_longest w b more after u e k = cc

pub word_ends : (w : Text) (u : Token) (b : ℕ) (rest : Text) → Spells w u → class_of u ≡ of_word → is_word b ≡ false → IsLongest w (b ∷ rest)
word_ends w u b rest h z e c more after v eq k =
    let v_word = sym (same_class w (c ∷ more) u v h k) ∙ z in
    let y = name_next w more c (named w u h z) (named (w ++ c ∷ more) v k v_word) in
    let same : b ≡ c = cc in let x : true ≡ false = sym y ∙ ap is_word (sym same) ∙ e in cc

pub number_ends : (w : Text) (n b : ℕ) (rest : Text) → Spells w (integer n) → is_ascii_digit b ≡ false → IsLongest w (b ∷ rest)
number_ends w n b rest h e c more after v eq k =
    let y = digits_next w more c h.0 (numbered (w ++ c ∷ more) v k (sym (same_class w (c ∷ more) (integer n) v h k))) in
    let same : b ≡ c = cc in let x : true ≡ false = sym y ∙ ap is_ascii_digit (sym same) ∙ e in cc

hash_next : (m n : Bool) (ds es more : Text) (c : ℕ) → is_digits ds ≡ true → is_digits es ≡ true → (hash m ++ ds) ++ c ∷ more ≡ hash n ++ es → is_ascii_digit c ≡ true
hash_next false false ds es more c h k e = let x : ds ++ c ∷ more ≡ es = cc in digits_next ds more c h (ap is_digits x ∙ k)
hash_next true true ds es more c h k e = let x : ds ++ c ∷ more ≡ es = cc in digits_next ds more c h (ap is_digits x ∙ k)
hash_next true false ds es more c h k e = let x : 45 ∷ (ds ++ c ∷ more) ≡ es = cc in let y : false ≡ true = ap is_digits x ∙ k in cc
hash_next false true [] es more c h k e = cc
hash_next false true (d ∷ ds) es more c h k e = let x : d ≡ 45 = cc in absurd (digit_not_minus d (and_true (is_ascii_digit d) _ h).0 x)

pub object_ends : (w : Text) (m : Bool) (n b : ℕ) (rest : Text) → Spells w (object m n) → is_ascii_digit b ≡ false → IsLongest w (b ∷ rest)
object_ends w m n b rest h e c more after v eq k =
    let g = hashed (w ++ c ∷ more) v k (sym (same_class w (c ∷ more) (object m n) v h k)) in
    let y = hash_next m g.0 h.0 g.1 more c h.2 g.3 (ap (λ x. x ++ c ∷ more) (sym h.1) ∙ g.2) in
    let same : b ≡ c = cc in let x : true ≡ false = sym y ∙ ap is_ascii_digit (sym same) ∙ e in cc

-- a string ends at its first quote
no_later : {body body2 s s2 : Text} (c : ℕ) (more : Text) → Escapes body s → Escapes body2 s2 → body ++ 34 ∷ c ∷ more ≡ body2 ++ 34 ∷ [] → ⊥
no_later c more none none e = cc
no_later c more none (plain b h r) e = let x : b ≡ 34 = cc in let z : true ≡ false = sym h ∙ ap is_plain x in cc
no_later c more none (escaped b h r) e = let x : ◌≡◌ {A = ℕ} 34 92 = cc in absurd (omega arith)
no_later c more (plain b h r) none e = let x : b ≡ 34 = cc in let z : true ≡ false = sym h ∙ ap is_plain x in cc
no_later c more (plain {bs = bs} b h r) (plain {bs = bs2} b2 h2 r2) e = let x : bs ++ 34 ∷ c ∷ more ≡ bs2 ++ 34 ∷ [] = cc in no_later c more r r2 x
no_later c more (plain b h r) (escaped b2 h2 r2) e = let x : b ≡ 92 = cc in let z : true ≡ false = sym h ∙ ap is_plain x in cc
no_later c more (escaped b h r) none e = let x : ◌≡◌ {A = ℕ} 92 34 = cc in absurd (omega arith)
no_later c more (escaped b h r) (plain b2 h2 r2) e = let x : b2 ≡ 92 = cc in let z : true ≡ false = sym h2 ∙ ap is_plain x in cc
no_later c more (escaped {bs = bs} b h r) (escaped {bs = bs2} b2 h2 r2) e = let x : bs ++ 34 ∷ c ∷ more ≡ bs2 ++ 34 ∷ [] = cc in no_later c more r r2 x

pub text_ends : (w : Text) (s : Text) (rest : Text) → Spells w (t.text s) → IsLongest w rest
text_ends w s rest h c more after v eq k =
    let g = quoted (w ++ c ∷ more) v k (sym (same_class w (c ∷ more) (t.text s) v h k)) in
    let shape : (34 ∷ (h.0 ++ 34 ∷ [])) ++ c ∷ more ≡ 34 ∷ (g.0 ++ 34 ∷ []) = ap (λ x. x ++ c ∷ more) (sym h.1) ∙ g.2 in
    let tail : (h.0 ++ 34 ∷ []) ++ c ∷ more ≡ g.0 ++ 34 ∷ [] = cc in
    no_later c more h.2 g.3 (sym (append_assoc h.0 (34 ∷ []) (c ∷ more)) ∙ tail)

pub sign_ends : (w : Text) (m : Sign) (b : ℕ) (rest : Text) → Spells w (mark m) → longer m b ≡ None → IsLongest w (b ∷ rest)
sign_ends w m b rest h e c more after v eq k =
    let g = signed (w ++ c ∷ more) v k (sym (same_class w (c ∷ more) (mark m) v h k)) in
    let same : b ≡ c = cc in no_longer m g.0 c more (ap (longer m) (sym same) ∙ e) (ap (λ x. x ++ c ∷ more) (sym h) ∙ g.1)

pub number_longest : (w : Text) (n : ℕ) (rest : Text) → Spells w (integer n) → is_at_digit rest ≡ false → IsLongest w rest
number_longest w n [] h e = at_end_longest w
number_longest w n (b ∷ rest) h e = number_ends w n b rest h e

pub object_longest : (w : Text) (m : Bool) (n : ℕ) (rest : Text) → Spells w (object m n) → is_at_digit rest ≡ false → IsLongest w rest
object_longest w m n [] h e = at_end_longest w
object_longest w m n (b ∷ rest) h e = object_ends w m n b rest h e
