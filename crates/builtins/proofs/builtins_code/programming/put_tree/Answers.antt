use Rattle.std.proofs.Common.{◌∙◌, ap, w32}
use Rattle.std.proofs.lemmas.Int.{to_z-of_z}
use Rattle.spec_value.specs.Datum.{list, of_list}
use Rattle.builtins.proofs.Told.{tree_put}
use Rattle.builtins.proofs.builtins_code.programming.put_tree.Goals as goal

pub returns-clause-left : goal.returns-clause-left
returns-clause-left g c =
    tree_put g.V.View.holds g.V.View.now c.args.view.now c.put_program.new.view c.args.object c.args.verbs.now c.args.place c.args.tree c.in_ok-program.program c.in_ok-nothing.nothing
    c.in_ok-program.ensures (c.in_ok-nothing.ensures ∙ ap (λ vs. list (of_list vs)) c.new.ensures.items)
    (rw (to_z-of_z w32 c.args.object c.ranges.object) at c.in_ok-put_program.ensures.left)
