use Rattle.std.proofs.Common.{IsTrue, sym, subst}
use Rattle.object_lines.specs.Between.{AreBetween}
use Rattle.object_lines.proofs.Between.{from_same, both_between}
use Rattle.object_lines.proofs.ahead.ObjectsAhead.join.Goals as goal

pub invariant_of-self-2 : goal.invariant_of-self-2
invariant_of-self-2 c =
    let at : IsTrue c.is_at.result = cc in
    let same = c.is_at.ensures at in
    let there = from_same c.self.inside.to c.others.inside.from c.others.inside.to c.others.inside.records.items same.0 same.1 c.others.invariant in
    subst (λ rs. AreBetween c.self.inside.from c.others.inside.to rs) (sym c.in_ok-append.ensures.items)
    (both_between c.self.inside.from c.self.inside.to c.others.inside.to c.self.inside.records.items c.others.inside.records.items c.self.invariant there)
