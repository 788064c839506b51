use Rattle.std.proofs.Common.{◌≡◌, ◌∙◌, Some, None, ap, w32, FitsSigned, rules}
use Rattle.std.proofs.lemmas.Int.{to_z-of_z}
use Rattle.world.specs.Numbered.{signed_key}
use Rattle.world.proofs.DueWalks.{next_is}
use Rattle.world.proofs.moments.next_due.Goals as goal

pub returns-in-Some : goal.returns-in-Some
returns-in-Some c =
    let read : signed_key c.key_of.result ≡ c.args.id = c.key_of.ensures.read ∙ to_z-of_z w32 c.args.id c.ranges.id in
    let fits : FitsSigned w32 c.id_of.result = search rules in
    ap (λ i. Some (c.in-Some.found, i)) (to_z-of_z w32 c.id_of.result fits ∙ c.id_of.ensures)
    ∙ next_is c.args.moment c.args.id c.key_of.result c.args.moments.now (Some (c.in-Some.found, c.in-Some.key)) read c.in-Some.ensures.value

pub returns-in-None : goal.returns-in-None
returns-in-None c =
    let read : signed_key c.key_of.result ≡ c.args.id = c.key_of.ensures.read ∙ to_z-of_z w32 c.args.id c.ranges.id in
    next_is c.args.moment c.args.id c.key_of.result c.args.moments.now None read c.in-None.ensures.value
