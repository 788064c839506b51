use Rattle.std.proofs.Common.{◌≡◌, [], ap, codes, w32, rules}
use Rattle.std.proofs.lemmas.Int.{to_z-of_z}
use Rattle.spec_value.specs.Datum.{item, no_data, object}
use Rattle.spec_world.specs.VerbsSought.{Sought}
use Rattle.spec_moo.specs.Steps.Running.{system_call, unnamed}
use Rattle.moo_code.specs.Machine.{Kept}
use Rattle.moo_task.specs.Outcomes.{running_kept}
use Rattle.steps.proofs.Beginnings.{begun_kept}
use Rattle.steps.proofs.Relinks.{greeting_is}
use Rattle.steps.proofs.step_links.logins.greeting.Goals as goal

pub forked-requires-clause-place : goal.forked-requires-clause-place
forked-requires-clause-place c =
    let f : Sought = c.args.found.now in
    let player = to_z-of_z w32 c.args.player c.ranges.player in
    let word = codes "user_connected" in
    let may = rw player at (c.in_ok-running.ensures.runs (item (object c.args.player) no_data) (rw player at c.in_ok-arguments.ensures)) in
    ap (λ (k : Kept). k.place) (begun_kept c.args.player (system_call c.args.player word f) word (unnamed c.in_ok-argstr.argstr) (item (object c.args.player) no_data) (f.verb).program c.in_ok-running.running may)

pub forked-requires-clause-operands : goal.forked-requires-clause-operands
forked-requires-clause-operands c =
    let f : Sought = c.args.found.now in
    let player = to_z-of_z w32 c.args.player c.ranges.player in
    let word = codes "user_connected" in
    let may = rw player at (c.in_ok-running.ensures.runs (item (object c.args.player) no_data) (rw player at c.in_ok-arguments.ensures)) in
    ap (λ (k : Kept). k.operands) (begun_kept c.args.player (system_call c.args.player word f) word (unnamed c.in_ok-argstr.argstr) (item (object c.args.player) no_data) (f.verb).program c.in_ok-running.running may)

pub returns : goal.returns
returns c s same =
    let f : Sought = c.args.found.now in
    let player = to_z-of_z w32 c.args.player c.ranges.player in
    let word = codes "user_connected" in
    let argstr : c.in_ok-argstr.argstr ≡ [] = search rules in
    let may = rw (player, argstr) at (c.in_ok-running.ensures.runs (item (object c.args.player) no_data) (rw player at c.in_ok-arguments.ensures)) in
    let begun = begun_kept c.args.player (system_call c.args.player word f) word (unnamed []) (item (object c.args.player) no_data) (f.verb).program c.in_ok-running.running may in
    greeting_is s c.args.player c.args.moment f (running_kept c.in_ok-running.running) c.in_ok-task.task (rw player at c.in_ok-task.ensures) begun same
