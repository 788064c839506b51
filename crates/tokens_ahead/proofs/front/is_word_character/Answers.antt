-- The table is held against the definition at each of the 256 bytes, by computing.
use Rattle.std.proofs.Common.{not, nat_eq, get_or, refl, arith}
use Rattle.std.proofs.lemmas.Bool.{agree_below_at}
use Rattle.spec_program.specs.Names as names
use Rattle.tokens_ahead.specs.declared.front.TheConstants.{WORD_MAP}
use Rattle.tokens_ahead.proofs.front.is_word_character.Goals as goal

pub returns : goal.returns
returns c = rw c.from.ensures (agree_below_at (λ k. not (nat_eq (get_or WORD_MAP k 0) 44)) names.is_word_character 256 c.args.byte refl (omega arith))
