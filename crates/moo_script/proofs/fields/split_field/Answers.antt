use Rattle.moo_script.proofs.Spaces.{field_parts}
use Rattle.moo_script.proofs.fields.split_field.Goals as goal

pub returns : goal.returns
returns c = field_parts c.args.bytes.now c.in-Some.at c.in-Some.ensures c.if-at-eq0.false
