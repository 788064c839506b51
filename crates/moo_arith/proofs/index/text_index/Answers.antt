use Rattle.std.proofs.Common.{w32}
use Rattle.std.proofs.lemmas.Int.{to_z-of_z}
use Rattle.moo_arith.proofs.Parts.{index_of_text}
use Rattle.moo_arith.proofs.index.text_index.Goals as goal

pub returns : goal.returns
returns c =
    let found = rw (to_z-of_z w32 c.args.place c.ranges.place) at c.in-Some.ensures.place in
    rw (c.text.ensures, c.in_ok-from_str.ensures, c.front-character.ensures.value, c.back.ensures.value) (index_of_text c.args.text.now c.args.place c.in-Some.place found c.in-Some.ensures.inside)
