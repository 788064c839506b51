use Rattle.std.proofs.Common.{◌∙◌, ◌∷◌, ap, sym, map}
use Rattle.moo_code.specs.Instruction.{with_handlers}
use Rattle.moo_code.specs.Names.{names_of}
use Rattle.moo_program.specs.Meaning.{arm_meant, arm_place}
use Rattle.moo_task.specs.Meant.{failure_meant, leaving_meant}
use Rattle.local_code.specs.Offers.{handler, offered}
use Rattle.local_code.proofs.Offering.{arms_refuse, arms_returned, arms_broken, arms_continued}
use Rattle.local_code.proofs.moo_unwind.offer.to_arms.Goals as goal

pub returns-in-Returned-clause-shown : goal.returns-in-Returned-clause-shown
returns-in-Returned-clause-shown c a k out first past hs fits =
    ap (λ l. offered a k out (handler first past c.args.height c.args.held (map arm_place c.args.arms.now) (with_handlers (map (arm_meant (names_of a.program)) c.args.arms.now)) ∷ hs) (leaving_meant l) c.args.state.now) c.in-Returned.is
    ∙ arms_returned a k out c.args.state.now first past c.args.height c.args.held hs c.requires.held c.args.arms.now c.in-Returned.value

pub returns-in-Broken-clause-shown : goal.returns-in-Broken-clause-shown
returns-in-Broken-clause-shown c a k out first past hs fits =
    ap (λ l. offered a k out (handler first past c.args.height c.args.held (map arm_place c.args.arms.now) (with_handlers (map (arm_meant (names_of a.program)) c.args.arms.now)) ∷ hs) (leaving_meant l) c.args.state.now) c.in-Broken.is
    ∙ arms_broken a k out c.args.state.now first past c.args.height c.args.held hs c.requires.held c.args.arms.now c.in-Broken.loops

pub returns-in-Continued-clause-shown : goal.returns-in-Continued-clause-shown
returns-in-Continued-clause-shown c a k out first past hs fits =
    ap (λ l. offered a k out (handler first past c.args.height c.args.held (map arm_place c.args.arms.now) (with_handlers (map (arm_meant (names_of a.program)) c.args.arms.now)) ∷ hs) (leaving_meant l) c.args.state.now) c.in-Continued.is
    ∙ arms_continued a k out c.args.state.now first past c.args.height c.args.held hs c.requires.held c.args.arms.now c.in-Continued.loops

pub returns-in_default-clause-shown : goal.returns-in_default-clause-shown
returns-in_default-clause-shown c a k out first past hs fits =
    ap (λ l. offered a k out (handler first past c.args.height c.args.held (map arm_place c.args.arms.now) (with_handlers (map (arm_meant (names_of a.program)) c.args.arms.now)) ∷ hs) (leaving_meant l) c.args.state.now) c.in-Failed.is
    ∙ arms_refuse a k out c.args.state.now first past c.args.height c.args.held hs c.requires.held c.args.arms.now (failure_meant c.in-Failed.failure) (sym c.in_default.ensures)

pub returns-in-Some-variable-clause-shown : goal.returns-in-Some-variable-clause-shown
returns-in-Some-variable-clause-shown c a k out first past hs fits =
    ap (λ l. offered a k out (handler first past c.args.height c.args.held (map arm_place c.args.arms.now) (with_handlers (map (arm_meant (names_of a.program)) c.args.arms.now)) ∷ hs) (leaving_meant l) c.args.state.now) c.in-Failed.is ∙ c.in_ok-bind_arm-in-Some-variable.ensures a k out first past hs fits

pub returns-clause-shown : goal.returns-clause-shown
returns-clause-shown c a k out first past hs fits =
    ap (λ l. offered a k out (handler first past c.args.height c.args.held (map arm_place c.args.arms.now) (with_handlers (map (arm_meant (names_of a.program)) c.args.arms.now)) ∷ hs) (leaving_meant l) c.args.state.now) c.in-Failed.is ∙ c.run_arm.ensures a k out first past hs
