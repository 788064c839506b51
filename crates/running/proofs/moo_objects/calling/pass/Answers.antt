use Rattle.std.proofs.Common.{◌≡◌, ◌∙◌, ap, suc, ◌-◌, Some, None, arith, rules, w32, to_z, of_z}
use Rattle.spec_world.specs.World.{Call}
use Rattle.spec_moo.specs.Effects.Calls.{found_effect}
use Rattle.moo_task.specs.Shown.{here}
use Rattle.running.specs.Called.{items_of, running}
use Rattle.running.proofs.Entering.{passes_there, pass_refused, pass_found, in_that}
use Rattle.running.proofs.moo_objects.calling.pass.Goals as goal

pub returns-in-Err-clause-left : goal.returns-in-Err-clause-left
returns-in-Err-clause-left g c =
    let paid : c.args.state.now.ticks ≡ suc (c.args.state.now.ticks - 1) = omega arith in
    pass_refused g.V.View.holds g.V.View.now c.args.call.now c.args.state.now (record (c.args.state.now) { operands = c.pop.new.self; ticks = c.args.state.now.ticks - 1 }) c.in-Some.arguments
    (λ r name named. passes_there r c.args.call.now c.args.state.now c.pop.new.self name c.in-Some.arguments (c.args.state.now.ticks - 1) named c.in-Some.ensures paid)
    c.args.view.now c.complains.new.state c.in-Err.error c.complains.result c.in-Err.ensures.weighs c.complains.ensures.left

pub returns-in-Some-found-clause-left : goal.returns-in-Some-found-clause-left
returns-in-Some-found-clause-left g c =
    let paid : c.args.state.now.ticks ≡ suc (c.args.state.now.ticks - 1) = omega arith in
    let whole : to_z w32 (of_z w32 c.call.inside.definer) ≡ c.call.inside.definer = search rules in
    let definer : to_z w32 (of_z w32 c.call.inside.definer) ≡ c.args.call.now.definer = whole ∙ ap (λ (k : Call). k.definer) c.call.view_is in
    let word : c.as_str.result.now ≡ c.args.call.now.verb = c.as_str.ensures ∙ ap (λ (k : Call). k.verb) c.call.view_is in
    pass_found g.V.View.holds g.V.View.now c.args.call.now c.args.state.now (record (c.args.state.now) { operands = c.pop.new.self; ticks = c.args.state.now.ticks - 1 }) c.in-Some.arguments
    (λ r name named. passes_there r c.args.call.now c.args.state.now c.pop.new.self name c.in-Some.arguments (c.args.state.now.ticks - 1) named c.in-Some.ensures paid)
    c.args.view.now c.passed_verb.new.view (record (c.args.state.now) { operands = c.pop.new.self; ticks = c.args.state.now.ticks - 1 }) c.in-Ok.arguments (Some c.in-Some-found.found) c.enters_above.result
    c.in-Ok.ensures.weighs (rw (definer, word, c.in-Some-found.is) at c.in_ok-found.ensures.left)
    (in_that c.args.call.now (record (c.args.state.now) { operands = c.pop.new.self; ticks = c.args.state.now.ticks - 1 })
    (λ r t. found_effect (here r t) (running r c.args.call.now t) c.args.call.now.this c.args.call.now.verb (items_of c.in-Ok.arguments) (Some c.in-Some-found.found)) c.enters_above.result c.enters_above.ensures.left)

pub returns-in-None-clause-left : goal.returns-in-None-clause-left
returns-in-None-clause-left g c =
    let paid : c.args.state.now.ticks ≡ suc (c.args.state.now.ticks - 1) = omega arith in
    let whole : to_z w32 (of_z w32 c.call.inside.definer) ≡ c.call.inside.definer = search rules in
    let definer : to_z w32 (of_z w32 c.call.inside.definer) ≡ c.args.call.now.definer = whole ∙ ap (λ (k : Call). k.definer) c.call.view_is in
    let word : c.as_str.result.now ≡ c.args.call.now.verb = c.as_str.ensures ∙ ap (λ (k : Call). k.verb) c.call.view_is in
    pass_found g.V.View.holds g.V.View.now c.args.call.now c.args.state.now (record (c.args.state.now) { operands = c.pop.new.self; ticks = c.args.state.now.ticks - 1 }) c.in-Some.arguments
    (λ r name named. passes_there r c.args.call.now c.args.state.now c.pop.new.self name c.in-Some.arguments (c.args.state.now.ticks - 1) named c.in-Some.ensures paid)
    c.args.view.now c.passed_verb.new.view c.complains-in-None.new.state c.in-Ok.arguments None c.complains-in-None.result
    c.in-Ok.ensures.weighs (rw (definer, word, c.in-None.is) at c.in_ok-found.ensures.left) c.complains-in-None.ensures.left
