use Rattle.local_code.proofs.Puts.{nothing_to_change}
use Rattle.local_code.proofs.moo_stores.slots.put_in_slot.Goals as goal

pub returns-in_default : goal.returns-in_default
returns-in_default c =
    nothing_to_change c.args.slots.now.items c.take_out.new.slots.items c.args.slot c.args.brackets.now c.args.values.now c.args.value c.in_default.ensures.value
    c.in_default.ensures.slots c.requires.brackets
