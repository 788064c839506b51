-- Escaped texts.
use Rattle.std.proofs.Common.{◌≡◌, ℕ, ◌<◌, List, [], ◌∷◌, ◌++◌, IsTrue, IsFalse, Bool, Option, Some, refl, ap, sym, ◌∙◌, arith, append_assoc}
use Rattle.std.specs.Prelude.{unwrap_or}
use Rattle.std.proofs.lemmas.Bool.Decides.{nat_tests}
use Rattle.std.proofs.lemmas.List.{append-nil}
use Rattle.spec_value.specs.Datum.{is_text}
use Rattle.spec_value.specs.Literal.{escape, escaped}
use Rattle.moo_value.proofs.Characters.{character_below}
use Rattle.moo_value.specs.Read.{one_character}

pub one_escape : (c : ℕ) (rest : List ℕ) → one_character (escape c ++ rest) ≡ Some (c, rest)
one_escape c rest = grind (arith, nat_tests)

pub record Next (t r rest : List ℕ) : Type 0 where
  pub c : ℕ
  pub more : List ℕ
  pub is : t ≡ c ∷ more
  pub small : c < 128
  pub text : IsTrue (is_text more)
  pub found : one_character rest ≡ Some (c, escaped more ++ 34 ∷ r)

pub no_quote : (c : ℕ) (s more : List ℕ) → escape c ++ s ≡ 34 ∷ more → ⊥
no_quote c s more e = grind (arith, nat_tests)

pub text_over : (t r more : List ℕ) → escaped t ++ 34 ∷ r ≡ 34 ∷ more → (t ≡ []) × (r ≡ more)
text_over [] r more e = (refl, cc)
text_over (c ∷ t) r more e = absurd (no_quote c (escaped t ++ 34 ∷ r) more (sym (append_assoc (escape c) (escaped t) (34 ∷ r)) ∙ e))

pub text_on : (t r rest more : List ℕ) (first : ℕ) → IsTrue (is_text t) → rest ≡ escaped t ++ 34 ∷ r → rest ≡ first ∷ more → (first ≡ 34 → ⊥) → Next t r rest
text_on [] r rest more first h e f other = absurd (other (cc))
text_on (c ∷ t) r rest more first h e f other = record {
  c = c;
  more = t;
  is = refl;
  small = character_below c (grind (arith, nat_tests));
  text = grind (arith, nat_tests);
  found = rw (e, append_assoc (escape c) (escaped t) (34 ∷ r)) (one_escape c (escaped t ++ 34 ∷ r));
}

pub first_same : {A B : Type 0} (a b : A) (x y : B) → ◌≡◌ {A = Option (A × B)} (Some (a, x)) (Some (b, y)) → a ≡ b
first_same {A = A} {B = B} a b x y e = ap (λ o. (unwrap_or {T = A × B} o (a, x)).0) e

pub second_same : {A B : Type 0} (a b : A) (x y : B) → ◌≡◌ {A = Option (A × B)} (Some (a, x)) (Some (b, y)) → x ≡ y
second_same {A = A} {B = B} a b x y e = ap (λ o. (unwrap_or {T = A × B} o (a, x)).1) e

pub text_end : (s out t r more rest : List ℕ) (first : ℕ) → s ≡ out ++ t → rest ≡ escaped t ++ 34 ∷ r → rest ≡ first ∷ more → first ≡ 34 → (s ≡ out) × (r ≡ more)
text_end s out t r more rest first e f g k =
    let over = text_over t r more (sym f ∙ g ∙ ap (λ c. c ∷ more) k) in
    (e ∙ ap (λ x. out ++ x) over.0 ∙ append-nil out, over.1)

pub text_goes : (s out t r : List ℕ) (c : ℕ) (more : List ℕ) → s ≡ out ++ t → t ≡ c ∷ more → s ≡ (out ++ c ∷ []) ++ more
text_goes s out t r c more e f = e ∙ ap (λ x. out ++ x) f ∙ sym (append_assoc out (c ∷ []) more)

pub not_both : (b : Bool) → IsFalse b → IsTrue b → ⊥
not_both b f t = cc
