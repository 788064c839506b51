use Rattle.std.proofs.Common.{◌≡◌, ◌<◌, length, ap, ◌∙◌, arith}
use Rattle.moo_program.specs.Assembling.{place_of}
use Rattle.moo_program.specs.Names.{known}
use Rattle.moo_program.specs.Opens.{open_of}
use Rattle.moo_program.proofs.Arms.{rows_next, places_next, pair_same}
use Rattle.moo_program.proofs.assembly.arms.Goals as goal

pub loop-i-preserved : goal.loop-i-preserved
loop-i-preserved c =
    let h : c.loop-i.i < length c.args.rows.now = omega (arith, c.loop-i-test.true, c.loop-i.auto.i-end) in
    let to = place_of (open_of c.args.around.now) in
    record {
      rows =
          rows_next (known c.args.names.now) c.loop-i.arms.items c.put.new.list.items c.args.rows.now c.loop-i.i c.index-rows-i.result _ h c.index-rows-i.is c.in_ok-put.ensures
          (pair_same _ _ _ _ c.in_ok-some_slot.ensures c.in_ok-narrow.ensures) c.loop-i.invariant.rows;
      places =
          places_next to c.loop-i.arms.items c.put.new.list.items c.args.rows.now c.loop-i.i c.index-rows-i.result _ h c.index-rows-i.is c.in_ok-put.ensures
          (pair_same _ _ _ _ c.in_ok-narrow.ensures c.in_ok-place.ensures) c.loop-i.invariant.places;
    }
