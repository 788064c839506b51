use Rattle.std.proofs.Common.{◌<◌, ◌≤◌, length, map, ap, ◌∙◌, arith}
use Rattle.std.specs.List.{list_all}
use Rattle.moo_program.specs.Drafting.{item_of}
use Rattle.moo_program.specs.Names.{known}
use Rattle.moo_program.specs.Scattering.{plans_of}
use Rattle.moo_program.specs.Walking.{walk_of}
use Rattle.moo_program.specs.Within.{slots_in}
use Rattle.moo_program.proofs.Planned.{starts_steady, next_steady, rest_steady}
use Rattle.moo_program.proofs.Walked.{starts_all, starts_handlers, code_next, handlers_next, ends_all, ends_handlers}
use Rattle.moo_program.proofs.assembly.assemble.Goals as goal

pub loop-i-init : goal.loop-i-init
loop-i-init c =
    let t = c.args.tables.now in
    let a = c.in_ok-assembly.assembly in
    let e = c.in_ok-assembly.ensures.walk t in
    let w = walk_of t a in
    let ds = map item_of c.args.items.now in
    record {
      code = starts_all w ds c.args.size e;
      handlers = starts_handlers w ds c.args.size e;
      steady = starts_steady w (plans_of t a) ds c.args.size e (c.in_ok-assembly.ensures.plans t) c.requires;
      within = ap (list_all (slots_in (length (known t.names)))) c.in_ok-assembly.ensures.none;
    }

pub item-requires : goal.item-requires
item-requires c =
    let h : c.loop-i.i < length c.args.items.now = omega (arith, c.loop-i-test.true, c.loop-i.auto.i-end) in
    next_steady c.args.tables.now c.loop-i.assembly c.args.items.now c.loop-i.i c.index-items-i.result h c.index-items-i.is c.loop-i.invariant.steady

pub loop-i-preserved : goal.loop-i-preserved
loop-i-preserved c =
    let h : c.loop-i.i < length c.args.items.now = omega (arith, c.loop-i-test.true, c.loop-i.auto.i-end) in
    let t = c.args.tables.now in
    let w = walk_of t c.loop-i.assembly in
    let v = walk_of t c.item.new.self in
    record {
      code = code_next w v c.args.items.now c.loop-i.i c.index-items-i.result h c.index-items-i.is c.in_ok-item.ensures.adds ∙ c.loop-i.invariant.code;
      handlers = handlers_next w v c.args.items.now c.loop-i.i c.index-items-i.result h c.index-items-i.is c.in_ok-item.ensures.adds ∙ c.loop-i.invariant.handlers;
      steady = rest_steady t c.item.new.self c.args.items.now c.loop-i.i c.in_ok-item.ensures.steady;
      within = c.in_ok-item.ensures.within c.loop-i.invariant.within;
    }

pub returns : goal.returns
returns c =
    let h : length c.args.items.now ≤ c.loop-i.i = omega (arith, c.loop-i-test.false, c.loop-i.auto.i-end) in
    let w = walk_of c.args.tables.now c.loop-i.assembly in
    record {
      within = c.loop-i.invariant.within;
      code = ends_all w c.args.items.now c.loop-i.i _ h c.loop-i.invariant.code;
      handlers = ends_handlers w c.args.items.now c.loop-i.i _ h c.loop-i.invariant.handlers;
    }
