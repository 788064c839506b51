use Rattle.std.proofs.Common.{◌≡◌, ◌∙◌, ◌≤◌, ap, sym, subst, length, map, drop}
use Rattle.moo_code.specs.Machine.{handlers_at}
use Rattle.moo_code.specs.Names.{names_of}
use Rattle.moo_program.specs.Meaning.{handler_meant}
use Rattle.moo_task.specs.Meant.{leaving_meant}
use Rattle.moo_task.proofs.Next.{next_place}
use Rattle.local_code.specs.Offers.{offered, offer_shown, UnlessPassed}
use Rattle.local_code.proofs.Around.{later, next_offer}
use Rattle.local_code.proofs.moo_unwind.unwind.leave.Goals as goal

pub returns-in-Taken-clause-shown : goal.returns-in-Taken-clause-shown
returns-in-Taken-clause-shown c a k out fits whole =
    let here : length c.loop-handler.state.slots.items ≤ length (names_of a.program) =
    subst (λ t. length t.slots.items ≤ length (names_of a.program)) (sym c.loop-handler.invariant.same) fits in
    ap (λ hs. offered a k out (handlers_at hs c.args.state.now.place) (leaving_meant c.args.leaving) c.args.state.now) (sym whole)
    ∙ next_offer a k out c.args.handlers.now c.loop-handler.handler-index c.handler-item.result c.loop-handler-test.true c.handler-item.is
    c.args.state.now c.loop-handler.state c.loop-handler.invariant.same (leaving_meant c.args.leaving) (leaving_meant c.loop-handler.left) _
    (c.loop-handler.invariant.so_far a k out fits)
    (c.in_ok-offered.ensures.shown a k out
    (later a k out c.args.handlers.now c.loop-handler.handler-index c.handler-item.result c.loop-handler-test.true c.handler-item.is c.args.state.now c.loop-handler.state c.loop-handler.invariant.same)
    here
    ∙ ap (λ o. offer_shown a k out
    (later a k out c.args.handlers.now c.loop-handler.handler-index c.handler-item.result c.loop-handler-test.true c.handler-item.is c.args.state.now c.loop-handler.state c.loop-handler.invariant.same)
    o c.offer_around.new.state) c.in-Taken.is)

pub returns-in-LacksOperand-clause-shown : goal.returns-in-LacksOperand-clause-shown
returns-in-LacksOperand-clause-shown c a k out fits whole =
    let here : length c.loop-handler.state.slots.items ≤ length (names_of a.program) =
    subst (λ t. length t.slots.items ≤ length (names_of a.program)) (sym c.loop-handler.invariant.same) fits in
    ap (λ hs. offered a k out (handlers_at hs c.args.state.now.place) (leaving_meant c.args.leaving) c.args.state.now) (sym whole)
    ∙ next_offer a k out c.args.handlers.now c.loop-handler.handler-index c.handler-item.result c.loop-handler-test.true c.handler-item.is
    c.args.state.now c.loop-handler.state c.loop-handler.invariant.same (leaving_meant c.args.leaving) (leaving_meant c.loop-handler.left) _
    (c.loop-handler.invariant.so_far a k out fits)
    (c.in_ok-offered.ensures.shown a k out
    (later a k out c.args.handlers.now c.loop-handler.handler-index c.handler-item.result c.loop-handler-test.true c.handler-item.is c.args.state.now c.loop-handler.state c.loop-handler.invariant.same)
    here
    ∙ ap (λ o. offer_shown a k out
    (later a k out c.args.handlers.now c.loop-handler.handler-index c.handler-item.result c.loop-handler-test.true c.handler-item.is c.args.state.now c.loop-handler.state c.loop-handler.invariant.same)
    o c.offer_around.new.state) c.in-LacksOperand.is)

pub loop-handler-preserved : goal.loop-handler-preserved
loop-handler-preserved c =
    let same_still : c.offer_around.new.state ≡ c.args.state.now = subst (λ o. UnlessPassed o c.loop-handler.state c.offer_around.new.state) c.in-Passed.is c.in_ok-offered.ensures.same ∙ c.loop-handler.invariant.same in
    record {
      same = same_still;
      so_far = λ a k out fits.
          next_offer a k out c.args.handlers.now c.loop-handler.handler-index c.handler-item.result c.loop-handler-test.true c.handler-item.is
          c.args.state.now c.loop-handler.state c.loop-handler.invariant.same (leaving_meant c.args.leaving) (leaving_meant c.loop-handler.left) _
          (c.loop-handler.invariant.so_far a k out fits)
          (c.in_ok-offered.ensures.shown a k out
          (later a k out c.args.handlers.now c.loop-handler.handler-index c.handler-item.result c.loop-handler-test.true c.handler-item.is c.args.state.now c.loop-handler.state c.loop-handler.invariant.same)
          (subst (λ t. length t.slots.items ≤ length (names_of a.program)) (sym c.loop-handler.invariant.same) fits)
          ∙ ap (λ o. offer_shown a k out
          (later a k out c.args.handlers.now c.loop-handler.handler-index c.handler-item.result c.loop-handler-test.true c.handler-item.is c.args.state.now c.loop-handler.state c.loop-handler.invariant.same)
          o c.offer_around.new.state) c.in-Passed.is)
          ∙ ap (λ t. offered a k out
          (later a k out c.args.handlers.now c.loop-handler.handler-index c.handler-item.result c.loop-handler-test.true c.handler-item.is c.args.state.now c.loop-handler.state c.loop-handler.invariant.same)
          (leaving_meant c.in-Passed.passed) t) same_still
          ∙ ap (λ n. offered a k out (handlers_at (map (handler_meant (names_of a.program)) (drop n c.args.handlers.now)) c.args.state.now.place) (leaving_meant c.in-Passed.passed) c.args.state.now)
          (sym (next_place c.loop-handler.handler-index));
    }
