use Rattle.std.proofs.Common.{◌≡◌, ◌∙◌, ◌∷◌, ap, sym, cond, arith, true, false}
use Rattle.moo_code.specs.Names.{names_of}
use Rattle.moo_program.specs.Meaning.{handler_meant}
use Rattle.moo_task.specs.Meant.{leaving_meant}
use Rattle.local_code.specs.Offers.{offered}
use Rattle.local_code.proofs.moo_unwind.unwind.offer_around.Goals as goal

pub returns-then-not-covers-clause-shown : goal.returns-then-not-covers-clause-shown
returns-then-not-covers-clause-shown c a k out hs fits =
    let no : c.covers.result ≡ false = grind (arith, c.if-not-covers.true) in
    ap (λ b. offered a k out (cond b (handler_meant (names_of a.program) c.args.handler.now ∷ hs) hs) (leaving_meant c.args.leaving) c.args.state.now)
    (sym (c.covers.ensures (names_of a.program)) ∙ no)

pub returns-clause-shown : goal.returns-clause-shown
returns-clause-shown c a k out hs fits =
    let yes : c.covers.result ≡ true = grind (arith, c.if-not-covers.false) in
    ap (λ b. offered a k out (cond b (handler_meant (names_of a.program) c.args.handler.now ∷ hs) hs) (leaving_meant c.args.leaving) c.args.state.now)
    (sym (c.covers.ensures (names_of a.program)) ∙ yes)
    ∙ c.in_ok-offered.ensures.shown a k out hs fits
