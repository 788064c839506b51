use Rattle.moo_script.proofs.Spaces.{nowhere, parts}
use Rattle.moo_script.proofs.script.split_line.Goals as goal

pub returns-in_default : goal.returns-in_default
returns-in_default c = nowhere 10 c.args.bytes.now c.in_default.ensures

pub returns : goal.returns
returns c = parts 10 c.args.bytes.now c.in-Some.at c.in-Some.ensures
