-- A plain name is an identifier.
use Rattle.std.proofs.Common.{◌≡◌, Bool, true, false, Some, None, IsTrue, refl, if◌then◌else◌}
use Rattle.spec_value.specs.Datum.{Text}
use Rattle.spec_program.specs.Tree.{Expr}
use Rattle.spec_program.specs.Names.{is_identifier}
use Rattle.spec_program.specs.Spelling.{plain_name}
use Rattle.spec_program.proofs.StepsBack.{name_is}

pub plain_is_identifier : (e : Expr) (x : Text) → plain_name e ≡ Some x → IsTrue (is_identifier x)
plain_is_identifier e x h = go (is_identifier x) refl (rw (name_is e x h) at h)
  where
    go : (b : Bool) → is_identifier x ≡ b → (if b then Some x else None) ≡ Some x → IsTrue (is_identifier x)
    go true t k = t
    go false t k = absurd (cc k)
