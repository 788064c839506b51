use Rattle.std.proofs.Common.{◌<◌, ◌≤◌, length, map, suc, arith}
use Rattle.moo_program.specs.Assembling.{place_of}
use Rattle.moo_program.specs.Meaning.{slot_meant, part_meant}
use Rattle.moo_program.specs.Names.{known}
use Rattle.moo_program.specs.Opens.{open_of}
use Rattle.moo_code.specs.Layout.{default_parts}
use Rattle.moo_tree.specs.ExpressionView.{items_of}
use Rattle.moo_program.proofs.Placed.{placed_all}
use Rattle.moo_program.proofs.Scattered.{slots_step, defaults_step, defaults_end}
use Rattle.moo_program.proofs.scatter.scatter.Goals as goal

pub loop-i-preserved : goal.loop-i-preserved
loop-i-preserved c =
    let h : c.loop-i.i < length c.args.items.now = omega (arith, c.loop-i-test.true, c.loop-i.auto.i-end) in
    let f = slot_meant (known c.args.names.now) in
    record {
      slots =
          slots_step (map f c.loop-i.slots.items) (map f c.put_slot.new.slots.items) _ c.args.items.now c.loop-i.i c.index-items-i.result h c.index-items-i.is
          c.in_ok-put_slot.ensures c.loop-i.invariant.slots;
      defaults =
          defaults_step (place_of (open_of c.args.here.now)) (map part_meant c.loop-i.defaults.items) (map part_meant c.put_default.new.defaults.items) _ c.args.items.now
          c.loop-i.i c.in_ok-next.field-0 c.index-items-i.result h c.index-items-i.is c.in_ok-next.ensures c.in_ok-put_default.ensures c.loop-i.invariant.defaults;
    }

pub counted-requires : goal.counted-requires
counted-requires c =
    let h : length c.args.items.now ≤ c.loop-i.i = omega (arith, c.loop-i-test.false, c.loop-i.auto.i-end) in
    let to = place_of (open_of c.args.here.now) in
    placed_all to (default_parts 1 (items_of c.args.items.now)) c.loop-i.defaults.items
    (defaults_end to (map part_meant c.loop-i.defaults.items) _ c.args.items.now c.loop-i.i (suc c.loop-i.i) h c.loop-i.invariant.defaults)
