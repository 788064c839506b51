use Rattle.std.proofs.Common.{◌<◌, length, arith}
use Rattle.moo_code.specs.Names.{names_of}
use Rattle.moo_program.specs.Meaning.{handler_meant}
use Rattle.moo_task.specs.Meant.{leaving_meant}
use Rattle.local_code.proofs.Offering.{held_lacks}
use Rattle.local_code.proofs.moo_unwind.offer.offer_to.Goals as goal

pub returns-then-len-held-clause-shown : goal.returns-then-len-held-clause-shown
returns-then-len-held-clause-shown c a k out hs fits =
    let short : length c.args.state.now.operands < c.args.handler.now.held = omega arith in
    held_lacks a k out c.args.state.now (handler_meant (names_of a.program) c.args.handler.now) hs (leaving_meant c.args.leaving) short

pub returns-in_ok-offered-in-Arms-clause-shown : goal.returns-in_ok-offered-in-Arms-clause-shown
returns-in_ok-offered-in-Arms-clause-shown c a k out hs fits =
    rw (c.in-Arms.is, ← c.deref.ensures.value) (c.in_ok-offered-in-Arms.ensures.shown a k out c.args.handler.now.first c.args.handler.now.past hs fits)

pub returns-in-Loop-clause-shown : goal.returns-in-Loop-clause-shown
returns-in-Loop-clause-shown c a k out hs fits = rw c.in-Loop.is (c.to_loop.ensures.shown a k out c.args.handler.now.first hs)

pub returns-in_ok-offered-in-Finally-clause-shown : goal.returns-in_ok-offered-in-Finally-clause-shown
returns-in_ok-offered-in-Finally-clause-shown c a k out hs fits =
    rw c.in-Finally.is (c.in_ok-offered-in-Finally.ensures.shown a k out c.args.handler.now.first c.args.handler.now.past hs)

pub returns-in_ok-offered-in-Code-clause-shown : goal.returns-in_ok-offered-in-Code-clause-shown
returns-in_ok-offered-in-Code-clause-shown c a k out hs fits =
    rw c.in-Code.is (c.in_ok-offered-in-Code.ensures.shown a k out c.args.handler.now.first c.args.handler.now.past hs)

pub returns-in-Instead-clause-shown : goal.returns-in-Instead-clause-shown
returns-in-Instead-clause-shown c a k out hs fits =
    rw c.in-Instead.is (c.to_part.ensures.shown a k out c.args.handler.now.first c.args.handler.now.past c.in-Instead.part.number hs)
