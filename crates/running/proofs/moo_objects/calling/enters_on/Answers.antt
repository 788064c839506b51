use Rattle.std.proofs.Common.{◌≡◌, sym, rules, w32, to_z, of_z}
use Rattle.spec_value.specs.Datum.{text}
use Rattle.running.proofs.Entering.{enters_there}
use Rattle.running.proofs.moo_objects.calling.enters_on.Goals as goal

pub returns-in_ok-word-in-Object-Text-clause-left : goal.returns-in_ok-word-in-Object-Text-clause-left
returns-in_ok-word-in-Object-Text-clause-left c a =
    let whole : to_z w32 (of_z w32 c.in-Object-Text.object) ≡ c.in-Object-Text.object = search rules in
    let name : text c.in_ok-word-in-Object-Text.word ≡ c.args.word.now = sym c.in_ok-word-in-Object-Text.ensures in
    enters_there a c.args.call.now c.args.state.now c.in-Object-Text.object c.in_ok-word-in-Object-Text.word c.args.object.now c.args.word.now c.args.found c.callee-entered.result c.args.arguments
    c.in-Object-Text.ensures name (rw whole at c.callee-entered.ensures)
