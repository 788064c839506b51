use Rattle.std.proofs.Common.{◌∙◌, [], ap}
use Rattle.spec_program.specs.Construct.{of_program}
use Rattle.held_values.specs.Wanted.{wanted_by, wanted_down}
use Rattle.task_lines.proofs.Standing.{wanted_is, some_wanted, none_wanted}
use Rattle.task_lines.proofs.Wanting.{none_stands, some_stands}
use Rattle.task_lines.proofs.stand.at_call.Goals as goal

pub returns-in-Some : goal.returns-in-Some
returns-in-Some c = record {
  reads = λ f stands fit compiled along.
      let found = c.in_ok-found.ensures ∙ wanted_is f c.tree.result.now c.args.path.now stands (c.tree.ensures ∙ compiled) along in
      c.placed.ensures.reads f stands fit compiled along (some_wanted c.in-Some.wanted c.in_ok-found.found (wanted_by f.pieces) c.in-Some.is found);
  tells =
      let along = c.in_ok-found.ensures ∙ ap (λ p. wanted_down 0 [] (of_program p) c.args.path.now) c.tree.ensures in
      let stands = some_stands (of_program c.args.program.now) c.args.path.now c.in_ok-found.found c.in-Some.wanted c.in-Some.is along in
      c.placed.ensures.tells stands.0 stands.1 stands.2;
}

pub returns-in-None : goal.returns-in-None
returns-in-None c = record {
  reads = λ f stands fit compiled along.
      let found = c.in_ok-found.ensures ∙ wanted_is f c.tree.result.now c.args.path.now stands (c.tree.ensures ∙ compiled) along in
      none_wanted c.in_ok-found.found (wanted_by f.pieces) c.in-None.is found;
  tells =
      let along = c.in_ok-found.ensures ∙ ap (λ p. wanted_down 0 [] (of_program p) c.args.path.now) c.tree.ensures in
      none_stands (of_program c.args.program.now) c.args.path.now c.in_ok-found.found c.in-None.is along;
}
