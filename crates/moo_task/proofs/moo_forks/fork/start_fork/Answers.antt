use mir.Syntax.{w32}
use mir.Val.{to_z, of_z}
use Rattle.std.proofs.Common.{◌≡◌, ◌∙◌, ap, subst, arith, rules, refl}
use Rattle.spec_world.specs.World.{Task}
use Rattle.spec_world.specs.WellFormed.{read_by}
use Rattle.moo_code.specs.Layout.{code_of}
use Rattle.moo_code.specs.Names.{names_of}
use Rattle.moo_program.specs.Gathering.{forks_in}
use Rattle.moo_program.specs.Meaning.{some_name_at, body_at}
use Rattle.moo_task.specs.declared.moo_machine.verb.State.{State}
use Rattle.moo_task.specs.Forking.{in_scene, around_in, forks, request_shown, HasId, StaysAt}
use Rattle.moo_task.proofs.Forks.{fork_starts}
use Rattle.moo_task.proofs.moo_forks.fork.start_fork.Goals as goal

pub returns-in-Refused-clause-shown : goal.returns-in-Refused-clause-shown
returns-in-Refused-clause-shown c w =
    let r = c.args.task.now in
    let x = some_name_at (names_of r.frame.program) c.args.variable in
    let body = body_at (forks_in (code_of r.frame.program)) c.args.number in
    subst (λ q. forks x body c.args.deeds.now w r ≡ request_shown q (in_scene (around_in r c.args.deeds.now w) c.args.deeds.now w) r.frame.call x body c.requested.new.state)
    c.in-Refused.is (c.in_ok-request.ensures.shown (around_in r c.args.deeds.now w) w x body)

pub returns-in_ok-enqueue-in-Granted-clause-quiet : goal.returns-in_ok-enqueue-in-Granted-clause-quiet
returns-in_ok-enqueue-in-Granted-clause-quiet c = ap (λ (t : Task). read_by t.waiting) c.in_ok-started-in-Granted.ensures

pub enqueue-requires : goal.enqueue-requires
enqueue-requires c = subst (λ q. HasId q c.args.deeds.now) c.in-Granted.is c.in_ok-request.ensures.id

pub returns-in_ok-enqueue-in-Granted-clause-shown : goal.returns-in_ok-enqueue-in-Granted-clause-shown
returns-in_ok-enqueue-in-Granted-clause-shown c w =
    let r = c.args.task.now in
    let x = some_name_at (names_of r.frame.program) c.args.variable in
    let body = body_at (forks_in (code_of r.frame.program)) c.args.number in
    let stays = subst (λ q. StaysAt q r.frame.state.place c.requested.new.state) c.in-Granted.is c.in_ok-request.ensures.place in
    let place = ap (λ (z : State). z.place) c.in_ok-name_task-in-Granted.ensures.same in
    let whole : to_z w32 (of_z w32 c.in-Granted.id) ≡ c.in-Granted.id = search rules in
    let player : to_z w32 (of_z w32 r.player) ≡ r.player = search rules in
    let named = c.in_ok-name_task-in-Granted.ensures.named (around_in r c.args.deeds.now w) c.names-names.ensures in
    let queued = c.in_ok-enqueue-in-Granted.ensures w c.requested.new.state.ticks c.in_ok-started-in-Granted.started (rw c.in_ok-started-in-Granted.ensures refl) in
    rw whole
    (fork_starts r c.requested.new.state c.name_task.new.state c.args.deeds.now c.enqueue.new.deeds w x body c.in-Granted.id c.in-Granted.due _ c.in_ok-started-in-Granted.started
    (subst (λ q. forks x body c.args.deeds.now w r ≡ request_shown q (in_scene (around_in r c.args.deeds.now w) c.args.deeds.now w) r.frame.call x body c.requested.new.state)
    c.in-Granted.is (c.in_ok-request.ensures.shown (around_in r c.args.deeds.now w) w x body))
    (rw whole at named) c.in_ok-name_task-in-Granted.ensures.same (omega (arith, place))
    (c.in_ok-started-in-Granted.ensures ∙ rw (player, c.in_ok-body.ensures) refl)
    (rw whole at queued))
