use Rattle.std.proofs.Common.{◌≡◌, ◌+◌, ◌≤◌, ◌<◌, sym, arith, w32, to_z, of_z, rules}
use Rattle.std.proofs.lemmas.Int.{to_z-of_z}
use Rattle.moo_task.specs.Deeds.{scene_of}
use Rattle.steps.proofs.Relinks.{not_greeted, one_taken}
use Rattle.steps.proofs.Accepted.{greeted_goes}
use Rattle.steps.proofs.step_links.logins.queue_greeting.Goals as goal

pub returns-then-deeds-ge-MOST_IDS-clause-left : goal.returns-then-deeds-ge-MOST_IDS-clause-left
returns-then-deeds-ge-MOST_IDS-clause-left g c w h =
    let v = g.V.View.now c.args.view.now w in
    let full : 64 ≤ c.args.deeds.now.ids_used = omega arith in
    (h, λ t. sym (not_greeted (scene_of c.args.deeds.now v t) c.args.player c.args.found.now full))

pub returns-clause-left : goal.returns-clause-left
returns-clause-left g c =
    let view = g.V.View in
    let player = to_z-of_z w32 c.args.player c.ranges.player in
    let id : to_z w32 (of_z w32 c.in_ok-id.id) ≡ c.in_ok-id.id = search rules in
    let few : c.args.deeds.now.ids_used < 64 = omega arith in
    greeted_goes view.holds view.now c.args.view.now c.enqueue.new.view c.args.deeds.now (record c.args.deeds.now { ids_used = c.args.deeds.now.ids_used + 1 }) c.enqueue.new.deeds c.in_ok-id.id c.args.player c.args.found.now
    c.in_ok-task.task c.enqueue.result few c.in_ok-id.ensures (rw player at c.in_ok-task.ensures) (one_taken c.args.deeds.now) (rw id at c.enqueue.ensures.left)
