use Rattle.std.proofs.Common.{IsSomeAnd, subst}
use Rattle.named_objects.specs.Ways.{LeadsUp}
use Rattle.named_objects.proofs.family.all_names.Goals as goal

pub returns-in-Some : goal.returns-in-Some
returns-in-Some c = λ w are. c.gathered.ensures w are (subst (λ o. IsSomeAnd o (λ u. LeadsUp w c.args.records.now u)) c.in-Some.is (c.in_ok-found.ensures w are))

pub returns-in-None : goal.returns-in-None
returns-in-None c = λ w are. subst (λ o. IsSomeAnd o (λ u. LeadsUp w c.args.records.now u)) c.in-None.is (c.in_ok-found.ensures w are)
