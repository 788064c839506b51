use Rattle.std.proofs.Common.{rules, ◌≡◌, ◌++◌, ◌∷◌, []}
use Rattle.view.specs.Meanings.{change_of}
use Rattle.world.proofs.History.{pushed_on}
use Rattle.speculate.proofs.lane.keep.Goals as goal

pub returns-else-as_slice-lt-FEW : goal.returns-else-as_slice-lt-FEW
returns-else-as_slice-lt-FEW c done =
    let more : c.push.new.self ≡ c.args.net.now ++ change_of c.args.change.now ∷ [] = search (rules, done) in
    pushed_on (change_of c.args.change.now) c.args.net.now c.push.new.self more
