use Rattle.std.proofs.lemmas.Str.{IsCharBoundary-from_ascii}
use Rattle.moo_value.proofs.Characters.{all_ascii, is_text-drop}
use Rattle.moo_value.proofs.text.back.Goals as goal

pub range_from-requires : goal.range_from-requires
range_from-requires c = λ some. IsCharBoundary-from_ascii c.args.text.now c.args.count (all_ascii c.args.text.now c.requires.text) c.requires.count

pub returns-clause-allowed : goal.returns-clause-allowed
returns-clause-allowed c = rw c.range_from.ensures.value (is_text-drop c.args.count c.args.text.now c.requires.text)
