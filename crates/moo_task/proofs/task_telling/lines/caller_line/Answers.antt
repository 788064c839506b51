use Rattle.std.proofs.Common.{List, ℕ, [], ◌++◌, ◌∙◌, ap, codes}
use Rattle.std.proofs.lemmas.List.{append-nil}
use Rattle.spec_moo.specs.Telling.{verb_spelled}
use Rattle.moo_task.proofs.Spelled.{then_is}
use Rattle.moo_task.proofs.task_telling.lines.caller_line.Goals as goal

pub returns : goal.returns
returns c =
    then_is c.joined.result (codes "called from " ++ (c.as_str.result.now ++ [])) (codes "called from " ++ verb_spelled c.args.verb.now) c.joined.ensures
    (ap (λ (t : List ℕ). codes "called from " ++ t) (append-nil c.as_str.result.now ∙ c.as_str.ensures ∙ c.in_ok-spelled.ensures))
