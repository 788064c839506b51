use Rattle.line_fields.proofs.Stops.{is_position}
use Rattle.line_fields.proofs.cut.place_of.Goals as goal

pub returns-clause-value : goal.returns-clause-value
returns-clause-value c = is_position c.args.stop c.args.text.now c.memchr.result c.memchr.ensures
