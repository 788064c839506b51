use Rattle.std.proofs.Common.{rules, ◌≡◌, ◌∙◌, ap, replicate}
use Rattle.speculate.specs.BoardState.{runs}
use Rattle.speculate.specs.declared.held.Mark.TheVariants.{Kept}
use Rattle.speculate.proofs.Strands.{none_ran}
use Rattle.speculate.proofs.lanes.all_kept.Goals as goal

pub returns-in-Ok-clause-kept : goal.returns-in-Ok-clause-kept
returns-in-Ok-clause-kept c =
    let all : c.in-Ok.marks.items ≡ replicate c.args.count Kept = search rules in ap runs all ∙ none_ran c.args.count
