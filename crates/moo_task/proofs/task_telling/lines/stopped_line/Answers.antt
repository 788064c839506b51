use Rattle.std.proofs.Common.{List, ℕ, ◌++◌, ◌∙◌, ap, sym, codes, append_assoc}
use Rattle.spec_moo.specs.Telling.{verb_spelled}
use Rattle.moo_task.proofs.Spelled.{then_is}
use Rattle.moo_task.proofs.task_telling.lines.stopped_line.Goals as goal

pub returns : goal.returns
returns c =
    then_is c.joined.result (c.as_str.result.now ++ (codes ": " ++ c.args.why.now)) (verb_spelled c.args.verb.now ++ codes ": " ++ c.args.why.now) c.joined.ensures
    (ap (λ (t : List ℕ). t ++ (codes ": " ++ c.args.why.now)) (c.as_str.ensures ∙ c.in_ok-spelled.ensures) ∙ sym (append_assoc (verb_spelled c.args.verb.now) (codes ": ") c.args.why.now))
