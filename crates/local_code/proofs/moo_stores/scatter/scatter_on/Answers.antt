use Rattle.std.proofs.Common.{◌≡◌, ◌∙◌, ap, sym, suc, ◌+◌, map, ◌∷◌}
use Rattle.spec_value.specs.Scatter.{gets}
use Rattle.spec_moo.specs.Effects.Scatter.{missing}
use Rattle.moo_value.specs.Errors.{code_of}
use Rattle.moo_arith.specs.Targets.{scattering_of}
use Rattle.moo_code.specs.Machine.{place_for}
use Rattle.moo_code.specs.Names.{names_of}
use Rattle.moo_program.specs.Meaning.{part_meant}
use Rattle.moo_task.specs.Shown.{shown}
use Rattle.moo_task.specs.declared.moo_machine.verb.Did.TheVariants.{Went}
use Rattle.moo_task.proofs.Next.{next_place}
use Rattle.local_code.specs.Giving.{items_meant, next_part}
use Rattle.local_code.proofs.Scattering.{scatter_goes_on, scatter_on_refuses}
use Rattle.local_code.proofs.moo_stores.scatter.scatter_on.Goals as goal

pub returns-in_ok-push-in-Ok : goal.returns-in_ok-push-in-Ok
returns-in_ok-push-in-Ok c a =
    let items = c.as_slice-items.result.now in
    let given = c.as_slice-given.result.now in
    let place : c.part_or_end-state.result
    ≡ place_for (suc c.args.state.now.place) ((0, c.args.end) ∷ map part_meant c.as_slice-defaults.result.now)
    (next_part (missing c.args.number (items_meant (names_of a.program) items) given)) =
    c.part_or_end-state.ensures
    ∙ ap (λ n. place_for (c.args.state.now.place + 1) ((0, c.args.end) ∷ map part_meant c.as_slice-defaults.result.now) n) (c.next_default-next.ensures (names_of a.program))
    ∙ ap (λ p. place_for p ((0, c.args.end) ∷ map part_meant c.as_slice-defaults.result.now) (next_part (missing c.args.number (items_meant (names_of a.program) items) given)))
    (next_place c.args.state.now.place) in
    rw (← c.as_slice-items.ensures.value, ← c.as_slice-defaults.ensures.value, c.in_ok-push-in-Ok.ensures.ok, place)
    (scatter_goes_on a c.args.call.now c.args.state.now items ((0, c.args.end) ∷ map part_meant c.as_slice-defaults.result.now)
    c.in-Some.list c.pop.new.self c.in-Some.ensures c.args.number given
    (sym c.in_ok-shares.ensures ∙ ap (λ r. scattering_of r) c.in-Ok.is ∙ ap (λ vs. gets vs) (sym c.as_slice-given.ensures.value)))

pub returns-in_ok-did-in-Err : goal.returns-in_ok-did-in-Err
returns-in_ok-did-in-Err c a =
    rw (← c.as_slice-items.ensures.value, ← c.as_slice-defaults.ensures.value)
    (scatter_on_refuses a c.args.call.now c.args.state.now c.as_slice-items.result.now ((0, c.args.end) ∷ map part_meant c.as_slice-defaults.result.now)
    c.in-Some.list c.pop.new.self c.in-Some.ensures c.args.number (code_of c.in-Err.error)
    (sym c.in_ok-shares.ensures ∙ ap (λ r. scattering_of r) c.in-Err.is)
    ∙ c.in_ok-did-in-Err.ensures a)

pub returns-in-Some-next_wanted : goal.returns-in-Some-next_wanted
returns-in-Some-next_wanted c a =
    let s = c.args.state.now in
    let items = c.args.scatter.now.items.items in
    let ps = (0, c.args.end) ∷ map part_meant c.args.scatter.now.defaults.items in
    let w = c.in-Some-next_wanted.ensures in
    rw c.in_ok-push.ensures.ok
    (scatter_goes_on a c.args.call.now s items ps c.in-Some.list c.pop.new.self c.in-Some.ensures c.args.number w.shares w.got
    ∙ ap (λ p. shown a c.args.call.now Went (record s { operands = c.in-Some.list ∷ c.pop.new.self; place = p })) (w.next (names_of a.program) (suc s.place) c.args.end))
