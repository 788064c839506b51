use Rattle.std.proofs.Common.{◌≡◌, ◌++◌, MatchOption, ap, subst, ◌∙◌}
use Rattle.spec_world.specs.Checkpoint.{with_line_ends}
use Rattle.checkpoint_text.specs.Behind.{BeginsOtherwise}
use Rattle.checkpoint_text.specs.Parts.{front}
use Rattle.checkpoint_text.proofs.compare.behind_front.Goals as goal

pub returns : goal.returns
returns c =
    let first = with_line_ends (front c.args.draft.now) in
    let written : c.put_front.new.page ≡ first = c.in_ok-put_front.ensures ∙ ap (λ t. t ++ first) c.clear.ensures in
    subst (λ t. MatchOption c.behind.result (BeginsOtherwise t c.args.bytes.now) (λ rest. c.args.bytes.now ≡ t ++ rest.now)) written c.behind.ensures
