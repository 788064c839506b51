-- Texts are ASCII.
use Rattle.std.proofs.Common.{◌≡◌, true}
use Rattle.std.specs.Str.{IsUtf8}
use Rattle.std.proofs.lemmas.Str.{IsUtf8-from_ascii}
use Rattle.spec_value.specs.Datum.{Text, is_text}
use Rattle.moo_value.proofs.Characters.{all_ascii}

pub text_utf8 : (t : Text) → is_text t ≡ true → IsUtf8 t
text_utf8 t h = IsUtf8-from_ascii t (all_ascii t h)
