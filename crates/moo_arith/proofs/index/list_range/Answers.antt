use Rattle.std.proofs.Common.{◌∙◌, ap, w32, ◌++◌, take, drop, ◌-◌}
use Rattle.std.proofs.lemmas.Int.{to_z-of_z}
use Rattle.spec_value.specs.Datum.{list, of_list}
use Rattle.spec_value.specs.Answer.{gives}
use Rattle.moo_arith.proofs.Parts.{no_range_of_list, range_of_list}
use Rattle.moo_arith.proofs.index.list_range.Goals as goal

pub returns-in_default : goal.returns-in_default
returns-in_default c =
    let found = rw (to_z-of_z w32 c.args.first c.ranges.first, to_z-of_z w32 c.args.last c.ranges.last) at c.in_default.ensures.part in
    no_range_of_list c.args.items.now c.args.first c.args.last found

pub returns : goal.returns
returns c =
    let found = rw (to_z-of_z w32 c.args.first c.ranges.first, to_z-of_z w32 c.args.last c.ranges.last) at c.in-Some.ensures.part in
    let chosen = c.in_ok-push_all.ensures ∙ ap (λ xs. xs ++ take (c.in-Some.end - c.in-Some.start) (drop c.in-Some.start c.args.items.now)) c.new-chosen.ensures.items in
    ap gives (c.in_ok-list.ensures ∙ ap (λ xs. list (of_list xs)) chosen) ∙ range_of_list c.args.items.now c.args.first c.args.last c.in-Some.start c.in-Some.end found
