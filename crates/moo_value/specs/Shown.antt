-- What a lent value is.
use Rattle.spec_value.specs.Datum.{Datum, integer, object, text, error, list, of_list}
use Rattle.moo_value.specs.Errors.{code_of}
use Rattle.moo_value.specs.declared.value.Shown.{Shown}
use Rattle.moo_value.specs.declared.value.Shown.TheVariants.{Integer, Object, Text, Error, List}

abbrev pub shown_datum : Shown → Datum
shown_datum (Integer n) = integer n
shown_datum (Object n) = object n
shown_datum (Text t) = text t.now
shown_datum (Error e) = error (code_of e)
shown_datum (List s) = list (of_list s.now)
