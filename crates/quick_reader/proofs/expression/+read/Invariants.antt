use Rattle.std.proofs.Common.{◌+◌, ◌*◌}
use Rattle.quick_reader.proofs.expression.+read.Given as goal

abbrev pub decreases-read_expression : goal.decreases-read_expression
decreases-read_expression l = 8 * l.room

abbrev pub decreases-read_behind : goal.decreases-read_behind
decreases-read_behind l = 8 * l.room + 3

abbrev pub decreases-read_values : goal.decreases-read_values
decreases-read_values l = 8 * l.room + 1

abbrev pub decreases-read_operand : goal.decreases-read_operand
decreases-read_operand l = 8 * l.room + 5

abbrev pub decreases-read_start : goal.decreases-read_start
decreases-read_start l = 8 * l.room + 4

abbrev pub decreases-read_group : goal.decreases-read_group
decreases-read_group l = 8 * l.room + 1

abbrev pub decreases-read_call : goal.decreases-read_call
decreases-read_call l = 8 * l.room + 3

abbrev pub decreases-read_step : goal.decreases-read_step
decreases-read_step l = 8 * l.room + 4

abbrev pub decreases-read_bracket : goal.decreases-read_bracket
decreases-read_bracket l = 8 * l.room + 1

abbrev pub decreases-read_property : goal.decreases-read_property
decreases-read_property l = 8 * l.room + 2

abbrev pub decreases-read_name : goal.decreases-read_name
decreases-read_name l = 8 * l.room + 2

abbrev pub decreases-read_arguments : goal.decreases-read_arguments
decreases-read_arguments l = 8 * l.room + 2

abbrev pub decreases-read_several : goal.decreases-read_several
decreases-read_several l = 8 * l.room + 1

abbrev pub decreases-read_codes : goal.decreases-read_codes
decreases-read_codes l = 8 * l.room + 2

abbrev pub decreases-read_catch : goal.decreases-read_catch
decreases-read_catch l = 8 * l.room + 3

abbrev pub decreases-read_scatter : goal.decreases-read_scatter
decreases-read_scatter l = 8 * l.room + 3

abbrev pub decreases-read_items : goal.decreases-read_items
decreases-read_items l = 8 * l.room + 2

abbrev pub decreases-read_item : goal.decreases-read_item
decreases-read_item l = 8 * l.room + 1
