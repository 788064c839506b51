-- What `verb_info` and `verb_args` answer of a verb.
use Rattle.std.specs.Prelude.{[], ◌∷◌}
use Rattle.spec_value.specs.Datum.{Datum, object, text}
use Rattle.spec_world.specs.World.{Verb}
use Rattle.spec_moo.specs.Natives.Rows.{list_value}
use Rattle.spec_moo.specs.Natives.Verbs.{verb_bits, object_part_text, preposition_text}

abbrev pub info_value : Verb → Datum
info_value v = list_value (object v.owner ∷ text (verb_bits v) ∷ text v.names ∷ [])

abbrev pub specifier_value : Verb → Datum
specifier_value v = list_value (text (object_part_text v.direct) ∷ text (preposition_text v.preposition) ∷ text (object_part_text v.indirect) ∷ [])
