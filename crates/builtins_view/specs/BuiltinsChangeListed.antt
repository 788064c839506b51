-- Arguments of several items.
use Rattle.std.specs.Prelude.{ℤ}
use Rattle.spec_value.specs.Datum.{Datum, object, text, list, no_data, item, Text}
use Rattle.builtins_view.specs.declared.builtins_change.made.Info.{Info}
use Rattle.builtins_view.specs.declared.builtins_change.specifier.Words.{Words}

abbrev pub owner_and_bits : ℤ → Text → Datum
owner_and_bits owner bits = list (item (object owner) (item (text bits) no_data))

abbrev pub info_given : Info → Datum
info_given i = list (item (object i.owner) (item (text i.bits) (item (text i.names) no_data)))

abbrev pub words_given : Words → Datum
words_given x = list (item (text x.direct) (item (text x.preposition) (item (text x.indirect) no_data)))
