use Rattle.std.proofs.Common.{◌≡◌, ◌∙◌, ap, sym, subst, suc, ◌-◌, ◌∷◌, Result, Ok, Err, OnOk, arith}
use Rattle.rules.specs.Standing.{IsStanding}
use Rattle.running.proofs.Entering.{calls_there, call_refused, call_found}
use Rattle.running.proofs.moo_objects.calling.call_verb.Goals as goal

whichever : {T E P : Type 0} (r : Result T E) → P → OnOk r P
whichever (Ok x) p = p
whichever (Err e) p = tt

pub returns-in-Ok-found-clause-well_formed : goal.returns-in-Ok-found-clause-well_formed
returns-in-Ok-found-clause-well_formed g c =
    whichever c.enters_on.result (λ w is. let t = c.in_ok-found.ensures.left w is in subst IsStanding (sym t.1.0) (c.requires.well_formed w t.0))

pub returns-in-Err-clause-left : goal.returns-in-Err-clause-left
returns-in-Err-clause-left g c =
    let taken : c.args.state.now.operands ≡ c.in-Some.arguments ∷ c.in-Some-pop.word ∷ c.in-Some-pop-2.object ∷ c.pop-3.new.self =
    c.in-Some.ensures ∙ ap (λ st. c.in-Some.arguments ∷ st) (c.in-Some-pop.ensures ∙ ap (λ st. c.in-Some-pop.word ∷ st) c.in-Some-pop-2.ensures) in
    let paid : c.args.state.now.ticks ≡ suc (c.args.state.now.ticks - 1) = omega arith in
    call_refused g.V.View.holds g.V.View.now c.args.call.now c.args.state.now (record (c.args.state.now) { operands = c.pop-3.new.self; ticks = c.args.state.now.ticks - 1 })
    c.in-Some-pop-2.object c.in-Some-pop.word c.in-Some.arguments
    (λ r. calls_there r c.args.call.now c.args.state.now c.pop-3.new.self c.in-Some-pop-2.object c.in-Some-pop.word c.in-Some.arguments (c.args.state.now.ticks - 1) taken paid)
    c.args.view.now c.complains.new.state c.in-Err.error c.complains.result c.in-Err.ensures.weighs c.complains.ensures.left

pub returns-in-Ok-found-clause-left : goal.returns-in-Ok-found-clause-left
returns-in-Ok-found-clause-left g c =
    let taken : c.args.state.now.operands ≡ c.in-Some.arguments ∷ c.in-Some-pop.word ∷ c.in-Some-pop-2.object ∷ c.pop-3.new.self =
    c.in-Some.ensures ∙ ap (λ st. c.in-Some.arguments ∷ st) (c.in-Some-pop.ensures ∙ ap (λ st. c.in-Some-pop.word ∷ st) c.in-Some-pop-2.ensures) in
    let paid : c.args.state.now.ticks ≡ suc (c.args.state.now.ticks - 1) = omega arith in
    call_found g.V.View.holds g.V.View.now c.args.call.now c.args.state.now (record (c.args.state.now) { operands = c.pop-3.new.self; ticks = c.args.state.now.ticks - 1 })
    c.in-Some-pop-2.object c.in-Some-pop.word c.in-Some.arguments
    (λ r. calls_there r c.args.call.now c.args.state.now c.pop-3.new.self c.in-Some-pop-2.object c.in-Some-pop.word c.in-Some.arguments (c.args.state.now.ticks - 1) taken paid)
    c.args.view.now c.called_verb.new.view c.enters_on.new.state c.in-Ok.arguments (Ok c.in-Ok-found.found) c.enters_on.result c.in-Ok.ensures.weighs
    (rw c.in-Ok-found.is at c.in_ok-found.ensures.left) c.enters_on.ensures.left

pub returns-clause-left : goal.returns-clause-left
returns-clause-left g c =
    let taken : c.args.state.now.operands ≡ c.in-Some.arguments ∷ c.in-Some-pop.word ∷ c.in-Some-pop-2.object ∷ c.pop-3.new.self =
    c.in-Some.ensures ∙ ap (λ st. c.in-Some.arguments ∷ st) (c.in-Some-pop.ensures ∙ ap (λ st. c.in-Some-pop.word ∷ st) c.in-Some-pop-2.ensures) in
    let paid : c.args.state.now.ticks ≡ suc (c.args.state.now.ticks - 1) = omega arith in
    call_found g.V.View.holds g.V.View.now c.args.call.now c.args.state.now (record (c.args.state.now) { operands = c.pop-3.new.self; ticks = c.args.state.now.ticks - 1 })
    c.in-Some-pop-2.object c.in-Some-pop.word c.in-Some.arguments
    (λ r. calls_there r c.args.call.now c.args.state.now c.pop-3.new.self c.in-Some-pop-2.object c.in-Some-pop.word c.in-Some.arguments (c.args.state.now.ticks - 1) taken paid)
    c.args.view.now c.called_verb.new.view c.complains-in-Err-found.new.state c.in-Ok.arguments (Err c.in-Err-found.error) c.complains-in-Err-found.result c.in-Ok.ensures.weighs
    (rw c.in-Err-found.is at c.in_ok-found.ensures.left) c.complains-in-Err-found.ensures.left
