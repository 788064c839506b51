use Rattle.std.proofs.Common.{ap, ◌∙◌, arith}
use Rattle.moo_token.specs.Tokens.{faulty}
use Rattle.moo_token.specs.Views.{state_of, places, ending_of}
use Rattle.moo_token.proofs.Loop.{goes_on, stopped_at, finished_at, ended_at}
use Rattle.moo_token.proofs.Meant.{tokens_are}
use Rattle.moo_token.proofs.tokens.tokens_of.Goals as goal

pub loop-place-preserved : goal.loop-place-preserved
loop-place-preserved c = goes_on c.args.text.now c.loop-place.place 0 (state_of c.loop-place.cutter) (state_of c.step.new.self) c.loop-place-test.true c.loop-place.invariant c.in-Ok.ensures

pub returns-in-Err-Fault : goal.returns-in-Err-Fault
returns-in-Err-Fault c =
    let r = stopped_at c.args.text.now c.loop-place.place 0 (state_of c.loop-place.cutter) c.in-Err-Fault.field-0 c.in-Err-Fault.kind c.step.new.self (places c.stopped.result.tokens.items) (ending_of c.stopped.result.fault) c.loop-place-test.true c.loop-place.invariant c.in-Err-Fault.field-0-is c.in-Err-Fault.ensures (ap (λ v. places v.items) c.stopped.ensures.tokens) (c.stopped.ensures.fault ∙ ap (λ x. faulty x c.step.new.self.line) c.in-Err-Fault.kind-is) in
    record { found = r.found; only_tokens = r.tokens; only_ending = r.ending; meaning = tokens_are _ _ _ r.found }

pub returns-in-Err-Fault-finish : goal.returns-in-Err-Fault-finish
returns-in-Err-Fault-finish c =
    let r = finished_at c.args.text.now c.loop-place.place (state_of c.loop-place.cutter) c.in-Err-Fault-finish.field-0 c.in-Err-Fault-finish.kind c.finish.new.self (places c.stopped-in-Err-Fault-finish.result.tokens.items) (ending_of c.stopped-in-Err-Fault-finish.result.fault) (omega arith) c.loop-place-test.false c.loop-place.invariant c.in-Err-Fault-finish.field-0-is c.in-Err-Fault-finish.ensures (ap (λ v. places v.items) c.stopped-in-Err-Fault-finish.ensures.tokens) c.stopped-in-Err-Fault-finish.ensures.fault in
    record { found = r.found; only_tokens = r.tokens; only_ending = r.ending; meaning = tokens_are _ _ _ r.found }

pub returns : goal.returns
returns c =
    let r = ended_at c.args.text.now c.loop-place.place (state_of c.loop-place.cutter) (places c.finish.new.self.out.items) (omega arith) c.loop-place-test.false c.loop-place.invariant c.in-Ok-finish.ensures in
    record { found = r.found; only_tokens = r.tokens; only_ending = r.ending; meaning = tokens_are _ _ _ r.found }
