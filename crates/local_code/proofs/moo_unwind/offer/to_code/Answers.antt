use Rattle.std.proofs.Common.{◌∙◌, ◌∷◌, ap, sym}
use Rattle.moo_task.specs.Meant.{failure_meant}
use Rattle.local_code.specs.Offers.{goes_on}
use Rattle.local_code.proofs.Offering.{code_takes, code_refuses, code_returned, code_broken, code_continued}
use Rattle.local_code.proofs.moo_unwind.offer.to_code.Goals as goal

pub returns-in-Returned-clause-shown : goal.returns-in-Returned-clause-shown
returns-in-Returned-clause-shown c a k out first past hs = rw c.in-Returned.is (code_returned a k out c.args.state.now first past c.args.height c.args.held hs c.requires.held c.args.end c.in-Returned.value)

pub returns-in-Broken-clause-shown : goal.returns-in-Broken-clause-shown
returns-in-Broken-clause-shown c a k out first past hs = rw c.in-Broken.is (code_broken a k out c.args.state.now first past c.args.height c.args.held hs c.requires.held c.args.end c.in-Broken.loops)

pub returns-in-Continued-clause-shown : goal.returns-in-Continued-clause-shown
returns-in-Continued-clause-shown c a k out first past hs = rw c.in-Continued.is (code_continued a k out c.args.state.now first past c.args.height c.args.held hs c.requires.held c.args.end c.in-Continued.loops)

pub returns-then-not-taken-clause-shown : goal.returns-then-not-taken-clause-shown
returns-then-not-taken-clause-shown c a k out first past hs =
    rw c.in-Failed.is (code_refuses a k out c.args.state.now first past c.args.height c.args.held hs c.requires.held c.args.end (failure_meant c.in-Failed.failure) (sym c.catches-taken.ensures ∙ c.if-not-taken.true))

pub returns-clause-shown : goal.returns-clause-shown
returns-clause-shown c a k out first past hs =
    rw c.in-Failed.is
    (code_takes a k out c.args.state.now first past c.args.height c.args.held hs c.requires.held c.args.end (failure_meant c.in-Failed.failure) (sym c.catches-taken.ensures ∙ c.if-not-taken.false)
    ∙ ap (λ us. goes_on a k out (record (c.args.state.now) { place = c.args.end; operands = us })) (sym (c.in_ok-push.ensures.ok ∙ ap (λ us. c.in-Failed.failure.code ∷ us) c.fall.ensures)))
