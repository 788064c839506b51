use Rattle.checkpoint_text.proofs.Parts.{back_written}
use Rattle.checkpoint_text.proofs.encode.put_back.Goals as goal

pub returns : goal.returns
returns c = back_written c.args.draft.now c.args.page.now c.put_task_part.new.page c.put.new.self c.in_ok-put_task_part.ensures c.in_ok-put.ensures
