-- A verb as it is spelled in a line.
use Rattle.std.proofs.Common.{◌≡◌, ◌++◌, ◌∙◌, List, ℕ, codes, sym, ap, append_assoc, Result, Ok, Err}
use Rattle.std.specs.Prelude.{IfOk}
use Rattle.spec_value.specs.Datum.{object}
use Rattle.spec_value.specs.Literal.{to_text}
use Rattle.spec_moo.specs.Leaving.{Traced}
use Rattle.spec_moo.specs.Telling.{verb_spelled}

-- what is one thing is what that is
pub then_is : {T E : Type 0} (r : Result T E) (x y : T) → IfOk r (λ t. t ≡ x) → x ≡ y → IfOk r (λ t. t ≡ y)
then_is (Ok t) x y h e = h ∙ e
then_is (Err f) x y h e = tt

pub spelled_is : (t : Traced) (number name : List ℕ) → number ≡ to_text (object t.definer) → name ≡ t.verb → number ++ (codes ":" ++ name) ≡ verb_spelled t
spelled_is t number name n v =
    ap (λ (x : List ℕ). x ++ (codes ":" ++ name)) n ∙ ap (λ (x : List ℕ). to_text (object t.definer) ++ (codes ":" ++ x)) v
    ∙ sym (append_assoc (to_text (object t.definer)) (codes ":") t.verb)
