use Rattle.std.proofs.Common.{◌≡◌, take, arith}
use Rattle.std.proofs.lemmas.Str.{IsCharBoundary-from_ascii}
use Rattle.moo_value.proofs.Characters.{all_ascii, is_text-take}
use Rattle.moo_value.proofs.text.front.Goals as goal

pub range-requires-clause-end_boundary : goal.range-requires-clause-end_boundary
range-requires-clause-end_boundary c = IsCharBoundary-from_ascii c.args.text.now c.args.count (all_ascii c.args.text.now c.requires.text) c.requires.count

pub returns-clause-allowed : goal.returns-clause-allowed
returns-clause-allowed c =
    let front : c.range.result.now ≡ take c.args.count c.args.text.now = grind arith in
    rw front (is_text-take c.args.count c.args.text.now c.requires.text)
