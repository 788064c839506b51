use Rattle.std.proofs.Common.{◌∙◌, ◌∷◌, ap, sym}
use Rattle.spec_moo.specs.Leaving.{leaving_held}
use Rattle.moo_task.specs.Meant.{leaving_meant}
use Rattle.local_code.specs.Offers.{goes_on}
use Rattle.local_code.proofs.Offering.{finally_takes}
use Rattle.local_code.proofs.moo_unwind.offer.to_finally.Goals as goal

pub returns-clause-shown : goal.returns-clause-shown
returns-clause-shown c a k out first past hs =
    finally_takes a k out c.args.state.now first past c.args.height c.args.held hs c.requires.held c.args.place (leaving_meant c.args.leaving.now)
    ∙ ap (λ us. goes_on a k out (record (c.args.state.now) { place = c.args.place; operands = us }))
    (sym (c.in_ok-push.ensures.ok ∙ ap (λ v. v ∷ c.fall.new.operands) c.in_ok-value.ensures
    ∙ ap (λ us. leaving_held (leaving_meant c.args.leaving.now) ∷ us) c.fall.ensures))
