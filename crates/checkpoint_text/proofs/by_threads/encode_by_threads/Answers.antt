use Rattle.std.proofs.Common.{ap, ◌∙◌}
use Rattle.spec_world.specs.Checkpoint.{checkpoint_text}
use Rattle.checkpoint_text.proofs.Parts.{whole_written}
use Rattle.checkpoint_text.proofs.by_threads.encode_by_threads.Goals as goal

pub returns : goal.returns
returns g c =
    c.into_string.ensures
    ∙ whole_written c.in_ok-draft.draft c.new-page.result c.put_front.new.page c.put_object_part.new.page c.put_back.new.page
    c.new-page.ensures c.in_ok-put_front.ensures c.in_ok-put_object_part.ensures c.in_ok-put_back.ensures
    ∙ ap checkpoint_text c.in_ok-draft.ensures
