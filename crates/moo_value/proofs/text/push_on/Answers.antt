use Rattle.std.proofs.Common.{◌≡◌, ◌++◌, Bool, true, false, IsTrue, sym, subst, refl}
use Rattle.std.specs.Prelude.{string_bytes, is_ok, if◌then◌else◌}
use Rattle.spec_value.specs.Datum.{Text, is_text}
use Rattle.moo_value.proofs.Characters.{is_text-append}
use Rattle.moo_value.proofs.text.push_on.Goals as goal

pub returns-clause-allowed : goal.returns-clause-allowed
returns-clause-allowed c =
    subst (λ (t : Text). IsTrue (is_text t)) (sym c.push_str.ensures.bytes) (go (is_ok c.push_str.result))
  where
    go : (b : Bool) → IsTrue (is_text (if b then string_bytes c.args.text.now ++ c.args.more.now else string_bytes c.args.text.now))
    go true = is_text-append (string_bytes c.args.text.now) c.args.more.now c.requires.text c.requires.more
    go false = c.requires.text
