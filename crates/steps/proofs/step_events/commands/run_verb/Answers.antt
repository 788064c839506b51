use Rattle.std.proofs.Common.{◌≡◌, w32, rules}
use Rattle.std.proofs.lemmas.Int.{to_z-of_z}
use Rattle.spec_value.specs.Datum.{of_list}
use Rattle.spec_moo.specs.Natives.Properties.{as_texts}
use Rattle.spec_moo.specs.Steps.Running.{begun}
use Rattle.spec_moo.specs.Steps.Events.{command_call, command_start}
use Rattle.player_commands.specs.CommandLinesMeant.{parts_of}
use Rattle.player_commands.specs.Meanings.{named_of}
use Rattle.rules.proofs.Tellings.{if_ok_as}
use Rattle.steps.proofs.step_events.commands.run_verb.Goals as goal

pub play_task-requires-clause-runs : goal.play_task-requires-clause-runs
play_task-requires-clause-runs g c =
    let p = parts_of c.args.said.parts in
    let m = c.args.meant in
    let player = to_z-of_z w32 c.args.player c.ranges.player in
    let call : c.command_call-call.result ≡ command_call c.args.player m.this p.verb m.verb = search rules in (
      begun c.args.player (command_call c.args.player m.this p.verb m.verb) p.verb (command_start p (named_of c.args.said)) (of_list (as_texts p.args)) (m.verb).verb.program,
      rw (player, call, c.in_ok-program.ensures) at c.in_ok-task.ensures.runs,
    )

pub returns-clause-played : goal.returns-clause-played
returns-clause-played g c =
    let p = parts_of c.args.said.parts in
    let m = c.args.meant in
    let player = to_z-of_z w32 c.args.player c.ranges.player in
    let call : c.command_call-call.result ≡ command_call c.args.player m.this p.verb m.verb = search rules in
    let q = begun c.args.player (command_call c.args.player m.this p.verb m.verb) p.verb (command_start p (named_of c.args.said)) (of_list (as_texts p.args)) (m.verb).verb.program in
    if_ok_as _ _
    (λ o played n. rw c.in_ok-task.ensures.ticks at (played q (rw (player, call, c.in_ok-program.ensures) at c.in_ok-task.ensures.runs)))
    c.play_task.result c.play_task.ensures.played
