use Rattle.moo_script.proofs.Forms.{not_text}
use Rattle.moo_script.proofs.script.read_text.Goals as goal

pub returns-in_default : goal.returns-in_default
returns-in_default c = not_text c.args.bytes.now c.in_default.ensures.cases.0
