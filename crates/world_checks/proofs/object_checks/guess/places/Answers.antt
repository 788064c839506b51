use Rattle.std.proofs.Common.{◌≡◌, pos, get_or, w32, to_z, of_z, rules}
use Rattle.std.proofs.lemmas.Option.{slice_get-get_or}
use Rattle.world_checks.proofs.Below.{more_placed, all_placed}
use Rattle.world_checks.proofs.object_checks.guess.places.Goals as goal

pub loop-number-preserved : goal.loop-number-preserved
loop-number-preserved c may agree =
    let i = c.loop-number.number-index in
    let from = get_or c.args.numbers.now i (pos 0) in
    let item : to_z w32 (of_z w32 from) ≡ from = search rules in
    let at = slice_get-get_or c.args.numbers.now i (pos 0) c.loop-number-test.true in
    let placed = rw item at c.in_ok-place_below.ensures in
    more_placed c.args.way c.args.draft.now c.args.numbers.now c.loop-number.places c.place_below.new.places i from at (placed may agree) (c.loop-number.invariant may agree)

pub returns : goal.returns
returns c may all agree = all_placed c.args.way c.args.draft.now c.args.numbers.now c.loop-number.places c.loop-number.number-index all c.loop-number-test.false (c.loop-number.invariant may agree)
