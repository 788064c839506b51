-- The table is held against the definition at each of the 256 bytes, by computing.
use Rattle.std.proofs.Common.{not, nat_eq, get_or, refl, arith}
use Rattle.std.proofs.lemmas.Bool.{agree_below_at}
use Rattle.spec_program.specs.Trees as spec
use Rattle.tree_grammar.specs.declared.name.TheConstants.{NAME_MAP}
use Rattle.tree_grammar.proofs.name.continues_name.Goals as goal

pub returns : goal.returns
returns c = rw c.from.ensures (agree_below_at (λ k. not (nat_eq (get_or NAME_MAP k 0) 44)) spec.continues_name 256 c.args.byte refl (omega arith))
