use Rattle.checkpoint_text.proofs.Names.{first_known, own_known}
use Rattle.checkpoint_text.proofs.checkpoint_frames.variables.name_at.Goals as goal

pub returns-then-slot-lt17-clause-name : goal.returns-then-slot-lt17-clause-name
returns-then-slot-lt17-clause-name c = first_known c.args.own.now c.args.slot _ c.starting_name.ensures.name

pub returns-else-slot-lt17-clause-name : goal.returns-else-slot-lt17-clause-name
returns-else-slot-lt17-clause-name c = own_known c.args.own.now c.args.slot _ c.if-slot-lt17.false c.own_name.ensures.name
