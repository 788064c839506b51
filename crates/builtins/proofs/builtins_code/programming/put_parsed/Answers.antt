use Rattle.std.proofs.Common.{w32}
use Rattle.std.proofs.lemmas.Int.{to_z-of_z}
use Rattle.moo_value.specs.Answers.{answer_of}
use Rattle.builtins.proofs.Told.{tree_programs}
use Rattle.builtins.proofs.builtins_code.programming.put_parsed.Goals as goal

pub returns-in_ok-answer-in-Ok-clause-left : goal.returns-in_ok-answer-in-Ok-clause-left
returns-in_ok-answer-in-Ok-clause-left g c =
    tree_programs g.V.View.holds g.V.View.now c.args.view.now c.put_tree.new.view c.args.object c.args.verbs.now c.args.place c.args.parsed c.in-Ok.tree
    (answer_of c.in_ok-answer-in-Ok.answer) c.in-Ok.is (rw (to_z-of_z w32 c.args.object c.ranges.object) at c.in_ok-answer-in-Ok.ensures.left)
