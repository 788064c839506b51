use Rattle.std.proofs.Common.{◌≡◌, ◌∙◌, ap, sym, subst, suc, ◌-◌, arith, map, length}
use Rattle.spec_value.specs.Scatter.{gets}
use Rattle.moo_value.specs.Errors.{code_of}
use Rattle.moo_arith.specs.Targets.{scattering_of}
use Rattle.moo_code.specs.Instruction.{as_value}
use Rattle.moo_code.specs.Machine.{place_for}
use Rattle.moo_code.specs.Names.{names_of}
use Rattle.moo_program.specs.Meaning.{part_meant}
use Rattle.moo_task.specs.Shown.{fails_of}
use Rattle.moo_task.proofs.Next.{next_place}
use Rattle.local_code.specs.Giving.{AreWithin}
use Rattle.local_code.proofs.Scattering.{scatter_gives, scatter_refuses}
use Rattle.local_code.proofs.moo_stores.scatter.scatter.Goals as goal

pub returns-in_ok-push-in-Ok : goal.returns-in_ok-push-in-Ok
returns-in_ok-push-in-Ok c a all =
    let s = c.args.state.now in
    let items = c.as_slice-items.result.now in
    let paid : s.ticks ≡ suc (s.ticks - 1) = omega arith in
    let within = subst (λ is. AreWithin (length s.slots.items) is) (sym c.as_slice-items.ensures.value) c.requires.slots in
    rw (
      ← c.as_slice-items.ensures.value,
      ← c.as_slice-defaults.ensures.value,
      c.in_ok-push-in-Ok.ensures.ok,
      c.part_place-state.ensures,
      c.next_default-number.ensures (names_of a.program),
      next_place s.place,
    )
    (scatter_gives a c.args.call.now s items (map part_meant c.as_slice-defaults.result.now) c.in-Some.list c.pop.new.self c.in-Some.ensures (s.ticks - 1) paid
    c.as_slice-given.result.now c.give.new.slots
    (sym c.in_ok-shares.ensures ∙ ap (λ r. scattering_of r) c.in-Ok.is ∙ ap (λ vs. gets vs) (sym c.as_slice-given.ensures.value)) all within c.in_ok-give-in-Ok.ensures)

pub returns-in_ok-did-in-Err : goal.returns-in_ok-did-in-Err
returns-in_ok-did-in-Err c a all =
    let s = c.args.state.now in
    let items = c.as_slice-items.result.now in
    let defaults = c.as_slice-defaults.result.now in
    let paid : s.ticks ≡ suc (s.ticks - 1) = omega arith in
    rw (← c.as_slice-items.ensures.value, ← c.as_slice-defaults.ensures.value)
    (scatter_refuses a c.args.call.now s items (map part_meant defaults) c.in-Some.list c.pop.new.self c.in-Some.ensures (s.ticks - 1) paid (code_of c.in-Err.error)
    (sym c.in_ok-shares.ensures ∙ ap (λ r. scattering_of r) c.in-Err.is)
    ∙ ap (λ n. fails_of a c.args.call.now as_value n (code_of c.in-Err.error) (record s { operands = c.pop.new.self; ticks = s.ticks - 1 }))
    (sym (c.part_place-end.ensures ∙ ap (λ p. place_for p (map part_meant defaults) 0) (next_place s.place)))
    ∙ c.in_ok-did-in-Err.ensures a)
