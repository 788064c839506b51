use Rattle.std.proofs.Common.{◌≡◌, ◌∙◌, ap, List, to_z, of_z, w32, rules}
use Rattle.std.proofs.lemmas.Int.{to_z-of_z}
use Rattle.spec_value.specs.Datum.{Text, list, of_list}
use Rattle.spec_moo.specs.Natives.Properties.{as_texts}
use Rattle.player_commands.specs.CommandLinesMeant.{parts_of}
use Rattle.steps.proofs.step_events.commands.command_task.Goals as goal

pub returns-clause-runs : goal.returns-clause-runs
returns-clause-runs c =
    let items : c.deref.result.now ≡ c.args.said.parts.args.items = search rules in
    let arguments : c.in_ok-arguments.arguments ≡ list (of_list (as_texts c.args.said.parts.args.items)) = c.in_ok-arguments.ensures ∙ ap (λ (ts : List Text). list (of_list (as_texts ts))) items in
    let direct : to_z w32 (of_z w32 c.args.said.direct) ≡ c.args.said.direct = search rules in
    let indirect : to_z w32 (of_z w32 c.args.said.indirect) ≡ c.args.said.indirect = search rules in
    rw (to_z-of_z w32 c.args.player c.ranges.player, direct, indirect) at (c.in_ok-task.ensures.runs (of_list (as_texts (parts_of c.args.said.parts).args)) arguments)
