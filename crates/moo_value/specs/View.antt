-- What the fields of a value mean.
use Rattle.std.specs.Prelude.{◌^◌, ◌-◌, Bool, true, ◌&&◌, ◌==◌, min}
use Rattle.std.specs.Arc.{arc_value}
use Rattle.spec_value.specs.Datum.{Datum, integer, object, text, error, list, no_data, of_list, is_value, data_weight}
use Rattle.moo_value.specs.Errors.{code_of}
use Rattle.moo_value.specs.declared.value.Node.{Node}
use Rattle.moo_value.specs.declared.value.Node.TheVariants.{Integer, Object, Text, Error, List, Empty}

abbrev pub node_datum : Node → Datum
node_datum (Integer n) = integer n
node_datum (Object n) = object n
node_datum (Text t) = text t
node_datum (Error e) = error (code_of e)
node_datum (List w s) = list (of_list ((arc_value s).items))
node_datum (Empty a) = list no_data

-- the weight that a list keeps is the one of its items, or the greatest number of 32 bits where that is more
abbrev pub keeps_weight : Node → Bool
keeps_weight (List w s) = w == min (data_weight (of_list ((arc_value s).items))) (2 ^ 32 - 1)
keeps_weight _ = true

abbrev pub is_sound : Node → Bool
is_sound n = is_value (node_datum n) && keeps_weight n
