use Rattle.std.proofs.Common.{◌≡◌, map, subst}
use Rattle.spec_world.specs.Questions.{apply}
use Rattle.view.specs.Law.{Goes}
use Rattle.view.specs.Meanings.{change_of}
use Rattle.world.specs.Marked.{answered_on}
use Rattle.world.specs.Trace.{Trace, IsStart, world_now}
use Rattle.world.proofs.Goings.{on_good}
use Rattle.world.proofs.Marked.{goes_on_by}
use Rattle.world.proofs.marking.MarkingView.put.Goals as goal

pub returns-clause-left : goal.returns-clause-left
returns-clause-left c =
    let new = c.put.new.self in
    let change = change_of c.args.change in
    let t : Trace = record { home = new.home; reads = map (answered_on new.home) c.self.inside.trail; changes = new.changes } in
    on_good c.put.result c.put.ensures.changes (λ last. subst (λ (s : Trace). Goes IsStart world_now s t (λ before after. after ≡ apply change before)) c.self.view_is
    (goes_on_by c.self.inside.overlay new c.self.inside.trail change c.put.ensures.home last))
