use Rattle.std.proofs.Common.{map, ap, ◌∙◌}
use Rattle.moo_program.specs.Drafting.{item_of}
use Rattle.moo_program.specs.Gathering.{draft_names, draft_handled}
use Rattle.moo_program.specs.Names.{known}
use Rattle.moo_program.proofs.GatherSteps.{known_none}
use Rattle.moo_program.proofs.gather.gather.Goals as goal

pub returns-clause-names : goal.returns-clause-names
returns-clause-names c =
    let ds = map item_of c.args.items.now in
    c.in_ok-mention_handlers.ensures
    ∙ ap (λ ns. draft_handled ns ds) (c.in_ok-mention_operations.ensures ∙ ap (λ ns. draft_names ns ds) (ap known c.new-names.ensures ∙ known_none))
