use Rattle.std.proofs.Common.{rules, ◌≡◌, ◌++◌, ◌∷◌, []}
use Rattle.spec_world.specs.Questions.{new_next}
use Rattle.world.proofs.History.{pushed_on}
use Rattle.speculate.proofs.weaving.add_next.Goals as goal

pub returns : goal.returns
returns c done =
    let more : c.push.new.self ≡ c.args.all.now ++ new_next c.args.next ∷ [] = search (rules, done) in pushed_on (new_next c.args.next) c.args.all.now c.push.new.self more
