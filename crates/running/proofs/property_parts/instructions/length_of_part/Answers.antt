use Rattle.std.proofs.Common.{◌≡◌, ◌∙◌, ap, suc, ◌-◌, arith, rules, w32, to_z, of_z}
use Rattle.spec_world.specs.World.{Call}
use Rattle.spec_moo.specs.Effects.Lists.{length_in}
use Rattle.moo_value.specs.Answers.{answer_of}
use Rattle.moo_code.specs.Instruction as code
use Rattle.moo_code.specs.Performing.{from_height}
use Rattle.rules.proofs.Tellings.{known_on}
use Rattle.moo_task.specs.declared.moo_machine.verb.Did.TheVariants.{RanOut}
use Rattle.running.proofs.Asking.{still, answered_so}
use Rattle.running.specs.Parts.{part_there}
use Rattle.running.proofs.PropertyPartsStoring.{shape, length_is, length_unpaid}
use Rattle.running.proofs.property_parts.instructions.length_of_part.Goals as goal

pub returns-then-state-eq0-clause-left : goal.returns-then-state-eq0-clause-left
returns-then-state-eq0-clause-left g c =
    let s = c.args.state.now in
    let bs = c.args.brackets.now in
    still g.V.View.holds g.V.View.now c.args.view.now (code.length_of (code.target_at (shape bs) c.args.height)) c.args.call.now s RanOut s
    (λ r. length_unpaid r c.args.call.now s bs c.args.height c.if-state-eq0.true)

pub returns-clause-left : goal.returns-clause-left
returns-clause-left g c =
    let s = c.args.state.now in
    let bs = c.args.brackets.now in
    let paid : s.ticks ≡ suc (s.ticks - 1) = omega arith in
    let whole : to_z w32 (of_z w32 c.call.inside.programmer) ≡ c.call.inside.programmer = search rules in
    let programmer : to_z w32 (of_z w32 c.call.inside.programmer) ≡ c.args.call.now.programmer = whole ∙ ap (λ (k : Call). k.programmer) c.call.view_is in
    answered_so g.V.View.holds g.V.View.now c.args.view.now c.length_there.new.view (code.length_of (code.target_at (shape bs) c.args.height)) c.args.call.now s
    (record s { ticks = s.ticks - 1 }) _ _
    (λ w. length_in (part_there w c.args.call.now.programmer bs (from_height c.args.height s.operands))) (answer_of c.in_ok-answer.answer)
    (λ r. length_is r c.args.call.now s bs c.args.height (s.ticks - 1) paid)
    (rw (programmer, c.above-values.ensures) at c.in_ok-answer.ensures.left) c.in_ok-did.ensures

pub returns-clause-well_formed : goal.returns-clause-well_formed
returns-clause-well_formed g c =
    let s = c.args.state.now in
    let whole : to_z w32 (of_z w32 c.call.inside.programmer) ≡ c.call.inside.programmer = search rules in
    let programmer : to_z w32 (of_z w32 c.call.inside.programmer) ≡ c.args.call.now.programmer = whole ∙ ap (λ (k : Call). k.programmer) c.call.view_is in
    known_on g.V.View.holds g.V.View.now c.args.view.now c.length_there.new.view
    (λ w. length_in (part_there w c.args.call.now.programmer c.args.brackets.now (from_height c.args.height s.operands)) ≡ answer_of c.in_ok-answer.answer)
    c.requires.well_formed (rw (programmer, c.above-values.ensures) at c.in_ok-answer.ensures.left)
