use Rattle.std.proofs.Common.{Some, ap, sym, ◌∙◌}
use Rattle.checkpoint_lines.proofs.Programs.{read_back, one_program, its_program}
use Rattle.checkpoint_lines.proofs.program.program_in.Goals as goal

pub returns-in-Some-clause-reads : goal.returns-in-Some-clause-reads
returns-in-Some-clause-reads c = λ p h e. ap Some (one_program c.in-Some.program p (sym (rw c.in-Some.is at c.in_ok-known.ensures.parsed) ∙ read_back p c.args.text.now h e))

pub returns-in-Some-clause-tells : goal.returns-in-Some-clause-tells
returns-in-Some-clause-tells c = λ ts lines e. its_program c.in-Some.program c.args.text.now ts (rw c.in-Some.is at c.in_ok-known.ensures.tree) (rw c.in-Some.is at c.in_ok-known.ensures.spelling) lines e
