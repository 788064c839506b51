use Rattle.std.proofs.Common.{◌≡◌, pos, get_or, w32, to_z, of_z, rules}
use Rattle.std.proofs.lemmas.Option.{slice_get-get_or}
use Rattle.world_checks.proofs.Placed.{placed_more, others_kept, all_placed}
use Rattle.world_checks.proofs.table_checks.once.put_places.Goals as goal

pub loop-index-preserved : goal.loop-index-preserved
loop-index-preserved c =
    let i = c.loop-index.index in
    let x = get_or c.args.list.now i (pos 0) in
    let item : to_z w32 (of_z w32 x) ≡ x = search rules in
    let here = slice_get-get_or c.args.list.now i (pos 0) c.loop-index-test.true in
    let given = rw item at c.in_ok-put.ensures in (
      placed_more c.loop-index.marks c.put.new.self c.args.list.now i x here given c.loop-index.invariant.0,
      others_kept c.args.marks.now c.loop-index.marks c.put.new.self c.args.list.now i x here given c.loop-index.invariant.1,
    )

pub returns-clause-places : goal.returns-clause-places
returns-clause-places c single may = all_placed c.loop-index.marks c.args.list.now c.loop-index.index c.loop-index-test.false (c.loop-index.invariant.0 single may)

pub returns-clause-others : goal.returns-clause-others
returns-clause-others c n none = c.loop-index.invariant.1 n none
