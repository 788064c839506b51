-- Two slots hold the same, by what is lent of them.
use Rattle.std.proofs.Common.{◌≡◌, ◌↔◌, Bool, Option, Some, None, IsTrue, refl, ap, sym, ◌∙◌}
use Rattle.std.specs.Borrow.{Bor}
use Rattle.spec_value.specs.Datum.{Text, Datum, is_value}
use Rattle.spec_value.specs.Literal.{literal}
use Rattle.spec_checkpoint.proofs.Fields.{whole_value}
use Rattle.slot_content.specs.declared.content.Shown.TheVariants as shown
use Rattle.slot_content.specs.Content.{shown_content}

some_same : (a b : Datum) → Some a ≡ Some b → a ≡ b
some_same a b e = cc

pub record IsLiteralOf (t : Text) (o : Option Datum) : Type 0 where
  pub value : Datum
  pub held : o ≡ Some value
  pub spelled : t ≡ literal value
  pub range : IsTrue (is_value value)

pub lent : (t : Bor Text) (o : Option Datum) → shown_content (shown.Literal t) o → IsLiteralOf t.now o
lent t None h = absurd h
lent t (Some v) h = record { value = v; held = refl; spelled = h.0; range = h.1 }

pub spelling_alike : (r : Bool) (t : Text) (a : Datum) (p q : Option Datum) → (IsTrue r ↔ t ≡ literal a) → IsTrue (is_value a) → p ≡ Some a → IsLiteralOf t q → (IsTrue r ↔ p ≡ q)
spelling_alike r t a p q same range is other =
    (λ yes. is ∙ ap Some (whole_value a other.value range other.range (sym (same.0 yes) ∙ other.spelled)) ∙ sym other.held, λ e. same.1 (other.spelled ∙ ap literal (some_same other.value a (sym other.held ∙ sym e ∙ is))))

pub literals_alike : (r : Bool) (t u : Text) (p q : Option Datum) → (IsTrue r ↔ t ≡ u) → IsLiteralOf t p → IsLiteralOf u q → (IsTrue r ↔ p ≡ q)
literals_alike r t u p q same is other = (
  λ yes. is.held ∙ ap Some (whole_value is.value other.value is.range other.range (sym is.spelled ∙ same.0 yes ∙ other.spelled)) ∙ sym other.held,
  λ e. same.1 (is.spelled ∙ ap literal (some_same is.value other.value (sym is.held ∙ e ∙ other.held)) ∙ sym other.spelled),
)

pub turned : (r : Bool) (p q : Option Datum) → (IsTrue r ↔ q ≡ p) → (IsTrue r ↔ p ≡ q)
turned r p q same = (λ yes. sym (same.0 yes), λ e. same.1 (sym e))
