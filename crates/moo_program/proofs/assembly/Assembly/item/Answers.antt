use Rattle.std.proofs.Common.{map, ap, ◌∙◌}
use Rattle.moo_program.specs.Drafting.{item_of, reception_of}
use Rattle.moo_program.specs.Scattering.{plans_of}
use Rattle.moo_program.specs.Walking.{walk_of, with_close}
use Rattle.moo_program.proofs.Planned.{steady_at, own_steady, part_steady, close_steady}
use Rattle.moo_program.proofs.Walked.{at_item, own_adds, part_adds, close_adds, gap_adds}
use Rattle.moo_program.proofs.assembly.Assembly.item.Goals as goal

pub own-requires : goal.own-requires
own-requires c = (steady_at c.args.tables.now c.args.self.now c.args.item.now _ (map item_of c.args.after.now) c.in-Own.is c.requires).0

pub returns-in_ok-own-in-Own : goal.returns-in_ok-own-in-Own
returns-in_ok-own-in-Own c =
    let t = c.args.tables.now in
    let w = walk_of t c.args.self.now in
    let v = walk_of t c.own.new.self in
    let ds = map item_of c.args.after.now in
    let steady = steady_at t c.args.self.now c.args.item.now _ ds c.in-Own.is c.requires in
    record {
      adds = at_item w c.args.item.now _ ds v c.in-Own.is (own_adds w _ _ ds v c.in_ok-own-in-Own.ensures.walk);
      steady = own_steady w (plans_of t c.args.self.now) _ _ ds v (plans_of t c.own.new.self) c.in_ok-own-in-Own.ensures.walk c.in_ok-own-in-Own.ensures.plans steady;
      within = c.in_ok-own-in-Own.ensures.within;
    }

pub returns-in_ok-part-in-Part : goal.returns-in_ok-part-in-Part
returns-in_ok-part-in-Part c =
    let t = c.args.tables.now in
    let w = walk_of t c.args.self.now in
    let v = walk_of t c.part.new.self in
    let after = c.args.after.now in
    let steady = steady_at t c.args.self.now c.args.item.now _ (map item_of after) c.in-Part.is c.requires in
    record {
      adds = at_item w c.args.item.now _ (map item_of after) v c.in-Part.is
          (part_adds w c.in-Part.opens c.in-Part.count c.in-Part.size c.least-count.result after v c.least-count.ensures c.in_ok-part-in-Part.ensures.walk);
      steady = part_steady w (plans_of t c.args.self.now) c.in-Part.opens c.in-Part.count c.in-Part.size c.least-count.result after v (plans_of t c.part.new.self)
          c.least-count.ensures c.in_ok-part-in-Part.ensures.walk c.in_ok-part-in-Part.ensures.plans steady;
      within = c.in_ok-part-in-Part.ensures.within;
    }

pub returns-in_ok-close-in-Close : goal.returns-in_ok-close-in-Close
returns-in_ok-close-in-Close c =
    let t = c.args.tables.now in
    let w = walk_of t c.args.self.now in
    let v = walk_of t c.close.new.self in
    let ds = map item_of c.args.after.now in
    let r = reception_of c.in-Close.reception in
    let closed = c.in_ok-close-in-Close.ensures.walk ∙ ap (λ x. with_close r x w) c.lent.ensures in
    let steady = steady_at t c.args.self.now c.args.item.now _ ds c.in-Close.is c.requires in
    record {
      adds = at_item w c.args.item.now _ ds v c.in-Close.is (close_adds w r _ ds v closed);
      steady = close_steady w (plans_of t c.args.self.now) r _ ds v (plans_of t c.close.new.self) closed c.in_ok-close-in-Close.ensures.plans steady;
      within = c.in_ok-close-in-Close.ensures.within;
    }

pub returns-in-Gap : goal.returns-in-Gap
returns-in-Gap c =
    let t = c.args.tables.now in
    let w = walk_of t c.args.self.now in
    let ds = map item_of c.args.after.now in
    record {
      adds = at_item w c.args.item.now _ ds w c.in-Gap.is (gap_adds w ds);
      steady = steady_at t c.args.self.now c.args.item.now _ ds c.in-Gap.is c.requires;
      within = λ e. e;
    }
