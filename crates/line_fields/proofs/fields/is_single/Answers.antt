use Rattle.line_fields.proofs.FieldEnds.{single}
use Rattle.line_fields.proofs.fields.is_single.Goals as goal

pub returns-clause-cuts : goal.returns-clause-cuts
returns-clause-cuts c = single c.args.text.now c.field_end.result c.is_none.result c.is_none.ensures c.field_end.ensures.cuts
