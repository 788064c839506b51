use Rattle.std.proofs.Common.{◌≡◌, [], ◌∷◌, ◌++◌, ap, sym, subst, ◌∙◌}
use Rattle.object_lines.specs.Between.{AreBetween}
use Rattle.object_lines.proofs.Between.{one_more_between}
use Rattle.object_lines.proofs.ahead.ObjectsAhead.grow.Goals as goal

pub invariant_of-self-in-Ok : goal.invariant_of-self-in-Ok
invariant_of-self-in-Ok c =
    let items : c.push_reserved.new.self.items ≡ c.self.inside.records.items ++ c.in-Ok.record ∷ [] =
    c.push_reserved.ensures.items ∙ ap (λ rs. rs ++ c.in-Ok.record ∷ []) c.in_ok-reserve.ensures.items in
    subst (λ rs. AreBetween c.self.inside.from c.next_object.new.lines rs) (sym items)
    (one_more_between c.self.inside.from c.self.inside.to c.next_object.new.lines c.self.inside.records.items c.in-Ok.record c.self.invariant c.in-Ok.ensures.reads c.in-Ok.ensures.tells)
