use Rattle.std.proofs.Common.{rules, sym, ap, ◌∙◌}
use Rattle.moo_program.specs.Names.{found_place, known}
use Rattle.task_lines.proofs.NamePlaces.{found_starting, found_own, found_nowhere}
use Rattle.task_lines.proofs.names.SlotNames.slot.Goals as goal

pub returns-then-place-lt17 : goal.returns-then-place-lt17
returns-then-place-lt17 c = found_starting c.args.self.now c.args.name.now c.slot_among-place.result c.slot_among-place.ensures c.if-place-lt17.true

pub overflow_add-result : goal.overflow_add-result
overflow_add-result c =
    let found = found_own c.self.inside.own.now c.args.name.now c.slot_among-place.result c.in-Some.own.now c.slot_among-place.ensures c.if-place-lt17.false (sym (c.in-Some.ensures.value ∙ c.self.invariant.0 c.args.name.now)) in
    let inside = found.0 in
    let count = c.self.invariant.1 in search rules

pub returns-in-Some : goal.returns-in-Some
returns-in-Some c =
    (found_own c.self.inside.own.now c.args.name.now c.slot_among-place.result c.in-Some.own.now c.slot_among-place.ensures c.if-place-lt17.false (sym (c.in-Some.ensures.value ∙ c.self.invariant.0 c.args.name.now))).1
    ∙ ap (λ own. found_place (known own) c.args.name.now) c.self.view_is

pub returns-in-None : goal.returns-in-None
returns-in-None c =
    found_nowhere c.self.inside.own.now c.args.name.now c.slot_among-place.result c.slot_among-place.ensures c.if-place-lt17.false (sym (c.in-None.ensures.value ∙ c.self.invariant.0 c.args.name.now))
    ∙ ap (λ own. found_place (known own) c.args.name.now) c.self.view_is
