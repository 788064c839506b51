use Rattle.moo_value.proofs.Written.{text_literal}
use Rattle.builtins_value.proofs.values.toliteral.Goals as goal

pub from_string-requires : goal.from_string-requires
from_string-requires c = rw c.in_ok-to_literal.ensures (text_literal c.value-item.result c.know.ensures)
