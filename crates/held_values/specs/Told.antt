-- What is told of how a body was left: values of one kind.
use Rattle.std.specs.Prelude.{Bool, true, false, ◌&&◌}
use Rattle.spec_value.specs.Datum.{Datum, object, text, list}
use Rattle.spec_world.specs.WellFormed.{nonempty, are_traced}

abbrev pub is_text : Datum → Bool
is_text (text t) = true
is_text _ = false

abbrev pub is_object : Datum → Bool
is_object (object o) = true
is_object _ = false

-- a nonempty list of the verbs that an error came by
abbrev pub is_trace : Datum → Bool
is_trace (list vs) = nonempty vs && are_traced vs
is_trace _ = false
