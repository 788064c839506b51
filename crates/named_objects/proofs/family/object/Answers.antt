use Rattle.std.proofs.Common.{◌≡◌, ◌∙◌}
use Rattle.named_objects.proofs.Whole.{ok_more, object_of, object_is}
use Rattle.named_objects.proofs.family.object.Goals as goal

pub returns : goal.returns
returns c = λ w o x h is told_so names.
    let slots = c.in_ok-slots.slots in
    ok_more c.new-2.result (λ y. y ≡ object_of c.args.record slots c.in_ok-verbs.verbs) (λ y. y ≡ x) c.new-2.ensures
    (λ y e. e ∙ object_is w o x c.args.record c.args.names.now slots c.in_ok-verbs.verbs h is told_so names c.in_ok-slots.ensures c.in_ok-verbs.ensures)
