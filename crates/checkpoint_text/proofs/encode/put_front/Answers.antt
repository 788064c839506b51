use Rattle.checkpoint_text.proofs.Parts.{front_written}
use Rattle.checkpoint_text.proofs.encode.put_front.Goals as goal

pub returns : goal.returns
returns c = front_written c.args.draft.now c.args.page.now c.put_head.new.page c.put_state.new.page c.put_link_part.new.page c.in_ok-put_head.ensures c.in_ok-put_state.ensures c.in_ok-put_link_part.ensures
