use Rattle.std.proofs.Common.{◌∙◌, ap, sym, w32}
use Rattle.std.proofs.lemmas.Int.{to_z-of_z}
use Rattle.spec_moo.specs.Scene.{Scene}
use Rattle.spec_moo.specs.Steps.Events.{nothing_runs}
use Rattle.steps.proofs.step_tasks.opening.says.Goals as goal

pub returns : goal.returns
returns c w t =
    ap (λ (s : Scene). nothing_runs s) (sym ((rw (to_z-of_z w32 c.args.connection c.ranges.connection) at c.in_ok-tell_line.ensures) w t)) ∙ c.nothing.ensures c.tell_line.new.deeds w t
