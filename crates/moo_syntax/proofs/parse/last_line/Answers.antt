use Rattle.moo_syntax.proofs.Lines.{line_of_fault}
use Rattle.moo_syntax.proofs.parse.last_line.Goals as goal

pub returns-in-Some : goal.returns-in-Some
returns-in-Some c = line_of_fault c.args.tokens.now.tokens.items c.args.tokens.now.fault c.in-Some.fault c.in-Some.is
