use Rattle.std.proofs.Common.{rules, ◌≡◌, ◌++◌, ◌∷◌, []}
use Rattle.view.specs.Meanings.{change_of}
use Rattle.world.proofs.History.{pushed_on}
use Rattle.speculate.proofs.weaving.add_change.Goals as goal

pub returns : goal.returns
returns c done =
    let more : c.push.new.self ≡ c.args.all.now ++ change_of c.args.change.now ∷ [] = search (rules, done) in
    pushed_on (change_of c.args.change.now) c.args.all.now c.push.new.self more
