use Rattle.std.proofs.Common.{◌≡◌, [], sym, ap, ◌∙◌}
use Rattle.std.specs.Vec.Iter.{into_iter_items}
use Rattle.named_objects.specs.Told.{all_named}
use Rattle.named_objects.proofs.SlotsNamed.{nothing_left, named_end}
use Rattle.named_objects.proofs.family.named.Goals as goal

pub returns : goal.returns
returns c =
    let l = c.loop-slot in
    let empty : into_iter_items l.slot-iterator ≡ [] = nothing_left _ (sym l.invariant.1 ∙ c.in-None.ensures.steps.0) in
    sym (named_end l.all l.left.now (into_iter_items l.slot-iterator) empty) ∙ l.invariant.0 ∙ ap (all_named [] c.args.names.now) c.into_iter-slot-iterator.ensures.into_iter_gives.0
