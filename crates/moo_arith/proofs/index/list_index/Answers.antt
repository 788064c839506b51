use Rattle.std.proofs.Common.{◌∙◌, ap, w32}
use Rattle.std.proofs.lemmas.Int.{to_z-of_z}
use Rattle.spec_value.specs.Answer.{gives}
use Rattle.moo_arith.proofs.Parts.{no_index_of_list, index_of_list}
use Rattle.moo_arith.proofs.index.list_index.Goals as goal

pub returns-in_default : goal.returns-in_default
returns-in_default c =
    let found = rw (to_z-of_z w32 c.args.place c.ranges.place) at c.in_default.ensures.place in
    no_index_of_list c.args.items.now c.args.place found

pub returns : goal.returns
returns c =
    let found = rw (to_z-of_z w32 c.args.place c.ranges.place) at c.in-Some.ensures.place in
    ap gives (c.in_ok-clone.ensures.cases ∙ c.index-items-place.is) ∙ index_of_list c.args.items.now c.args.place c.in-Some.place c.index-items-place.result found c.in-Some.ensures.inside
