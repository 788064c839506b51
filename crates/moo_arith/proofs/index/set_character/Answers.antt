use Rattle.std.proofs.Common.{w32}
use Rattle.std.proofs.lemmas.Int.{to_z-of_z}
use Rattle.moo_arith.proofs.Parts.{set_in_text}
use Rattle.moo_arith.proofs.index.set_character.Goals as goal

pub returns : goal.returns
returns c =
    let found = rw (to_z-of_z w32 c.args.place c.ranges.place) at c.in-Some.ensures.place in
    let joined = rw (c.front.ensures.value, c.back.ensures.value) at c.in_ok-text.ensures in
    rw (c.limited.ensures, c.text.ensures, joined) (set_in_text c.args.text.now c.args.character.now c.args.place c.in-Some.place found c.in-Some.ensures.inside c.if-character-ne1.false)
