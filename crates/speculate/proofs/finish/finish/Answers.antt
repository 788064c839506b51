use Rattle.std.proofs.Common.{◌∙◌, length, sym, ap}
use Rattle.speculate.proofs.Honest.{advances_all}
use Rattle.speculate.proofs.finish.finish.Goals as goal

pub returns-clause-ended : goal.returns-clause-ended
returns-clause-ended c =
    let e = c.in_ok-advance.ensures.ok in
    advances_all c.lose_rest.new.self c.advance.new.self c.in_ok-advance.field-0 c.lose_rest.ensures.honest c.lose_rest.ensures.full e.0 e.1 ∙ sym (ap length c.advance.ensures.same.1)
