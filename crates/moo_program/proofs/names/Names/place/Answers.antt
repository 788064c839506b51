use Rattle.std.proofs.Common.{rules, ◌≡◌, ◌<◌, ◌≤◌, ◌∙◌, sym, ap, arith}
use Rattle.moo_code.specs.Names.{starting_names}
use Rattle.moo_code.specs.Slots.{slot_of}
use Rattle.moo_program.proofs.Slots.{starting_within, slot_starting, slot_own, found_is, found_not}
use Rattle.moo_program.proofs.names.Names.place.Goals as goal

pub returns-then-place-lt17 : goal.returns-then-place-lt17
returns-then-place-lt17 c =
    let early : slot_of starting_names c.args.name.now < 17 = omega (arith, c.starting_place-place.ensures) in
    c.starting_place-place.ensures ∙ sym (slot_starting c.args.self.now c.args.name.now early)

pub overflow_add-result : goal.overflow_add-result
overflow_add-result c =
    let is = found_is c.self.inside.list.items c.args.name.now c.in-Some.own.now (sym (c.in-Some.ensures.value ∙ c.self.invariant c.args.name.now)) in
    let inside = is.0 in
    let count = c.self.inside.list.ok.0 in
    let first = starting_within c.args.name.now in
    search rules

pub overflow_add-result-in-None : goal.overflow_add-result-in-None
overflow_add-result-in-None c =
    let first = starting_within c.args.name.now in
    search rules

pub returns-in-Some : goal.returns-in-Some
returns-in-Some c =
    let is = found_is c.self.inside.list.items c.args.name.now c.in-Some.own.now (sym (c.in-Some.ensures.value ∙ c.self.invariant c.args.name.now)) in
    let late : 17 ≤ slot_of starting_names c.args.name.now = omega (arith, c.starting_place-place.ensures) in
    omega (arith, slot_own c.args.self.now c.args.name.now late, is.1, ap (λ names. slot_of names c.args.name.now) c.self.view_is)

pub returns-in-None : goal.returns-in-None
returns-in-None c =
    let is = found_not c.self.inside.list.items c.args.name.now (sym (c.in-None.ensures.value ∙ c.self.invariant c.args.name.now)) in
    let late : 17 ≤ slot_of starting_names c.args.name.now = omega (arith, c.starting_place-place.ensures) in
    omega (arith, slot_own c.args.self.now c.args.name.now late, is, c.self.inside.list.ok.0, ap (λ names. slot_of names c.args.name.now) c.self.view_is)
