use Rattle.std.proofs.Common.{◌∙◌}
use Rattle.checkpoint_text.proofs.Parts.{whole_written}
use Rattle.checkpoint_text.proofs.encode.encode.Goals as goal

pub returns : goal.returns
returns c =
    c.into_string.ensures
    ∙ whole_written c.args.draft.now c.new-page.result c.put_front.new.page c.put_object_part.new.page c.put_back.new.page
    c.new-page.ensures c.in_ok-put_front.ensures c.in_ok-put_object_part.ensures c.in_ok-put_back.ensures
