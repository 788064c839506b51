-- Objects and texts by their sorts.
use Rattle.std.proofs.Common.{◌≡◌, refl}
use Rattle.spec_value.specs.Datum.{Datum, integer, object, text, error, list}
use Rattle.spec_moo.specs.Natives.Rows.{fits, an_object, a_text}
use Rattle.builtin_table.specs.Sorts.{is_object, is_text}

pub object_fits : (v : Datum) → fits an_object v ≡ is_object v
object_fits (integer n) = refl
object_fits (object n) = refl
object_fits (text n) = refl
object_fits (error n) = refl
object_fits (list n) = refl

pub text_fits : (v : Datum) → fits a_text v ≡ is_text v
text_fits (integer n) = refl
text_fits (object n) = refl
text_fits (text n) = refl
text_fits (error n) = refl
text_fits (list n) = refl
