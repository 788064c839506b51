use Rattle.std.proofs.Common.{◌≡◌, refl, [], ◌∷◌, take, reverse, arith, Option, Some, None, Result, Ok, Err, rules, w32, to_z, of_z}
use Rattle.std.specs.Prelude.{IfOk, IfSome}
use Rattle.local_code.specs.Arguments.{HasArgument}
use Rattle.local_code.proofs.Tops.{four_on_top}
use Rattle.running.proofs.Arguments.{small_alone}
use Rattle.running.proofs.Entering.{has_argument, argument_on_top}
use Rattle.running.proofs.moo_objects.calling.called_by_four.Goals as goal

some_way : {X E : Type 0} (P : Type 0) (r : Result (Option X) E) → P → IfOk r (λ o. IfSome o (λ d. P))
some_way P (Ok (Some d)) h = h
some_way P (Ok None) h = tt
some_way P (Err e) h = tt

pub returns-in_default-clause-left : goal.returns-in_default-clause-left
returns-in_default-clause-left g c = λ w is. (is, (refl, tt))

pub returns-in_default-2-clause-left : goal.returns-in_default-2-clause-left
returns-in_default-2-clause-left g c = λ w is. (is, (refl, tt))

pub returns-in-Object-Some-clause-held : goal.returns-in-Object-Some-clause-held
returns-in-Object-Some-clause-held g c =
    let o = c.object-item.result in
    let word = c.word-item.result in
    let args = c.arguments-item.result in
    let v = c.argument-item.result in
    let four : o ∷ word ∷ args ∷ v ∷ [] ≡ reverse (take 4 c.args.operands.now) = search rules in
    let held = has_argument c.args.operands.now o word args v c.in-Object-Some.object c.in-Object-Some.word.now (four_on_top c.args.operands.now o word args v four) c.in-Object-Some.ensures
    c.in-Object-Some.ensures'.some (c.is_empty_list.ensures c.if-not-is_empty_list.false) (small_alone v (omega arith)) in
    some_way (HasArgument c.args.operands.now) c.verb_on.result held

pub returns-in-Object-Some-clause-left : goal.returns-in-Object-Some-clause-left
returns-in-Object-Some-clause-left g c =
    let view = g.V.View in
    let at : to_z w32 (of_z w32 c.in-Object-Some.object) ≡ c.in-Object-Some.object = search rules in
    let o = c.object-item.result in
    let word = c.word-item.result in
    let args = c.arguments-item.result in
    let v = c.argument-item.result in
    let four : o ∷ word ∷ args ∷ v ∷ [] ≡ reverse (take 4 c.args.operands.now) = search rules in
    let held = has_argument c.args.operands.now o word args v c.in-Object-Some.object c.in-Object-Some.word.now (four_on_top c.args.operands.now o word args v four) c.in-Object-Some.ensures
    c.in-Object-Some.ensures'.some (c.is_empty_list.ensures c.if-not-is_empty_list.false) (small_alone v (omega arith)) in
    argument_on_top view.holds view.now c.args.view.now c.verb_on.new.view c.args.operands.now held c.verb_on.result (rw at at c.verb_on.ensures.left)
