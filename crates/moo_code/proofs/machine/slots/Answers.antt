use Rattle.moo_code.proofs.Slots.{empty_slots, name_has_slot, one_slot_for_name, others_named, others_sorted, others_stay, slot_is_set, slot_is_variable, table_is_split, variables_sorted}
use Rattle.moo_code.proofs.machine.slots.Goals as goal

pub returns-clause-sorted : goal.returns-clause-sorted
returns-clause-sorted c = variables_sorted

pub returns-clause-read : goal.returns-clause-read
returns-clause-read c = slot_is_variable

pub returns-clause-others : goal.returns-clause-others
returns-clause-others c = others_stay

pub returns-clause-written : goal.returns-clause-written
returns-clause-written c = slot_is_set

pub returns-clause-empty : goal.returns-clause-empty
returns-clause-empty c = empty_slots

pub returns-clause-found : goal.returns-clause-found
returns-clause-found c = name_has_slot

pub returns-clause-once : goal.returns-clause-once
returns-clause-once c = one_slot_for_name

pub returns-clause-further_sorted : goal.returns-clause-further_sorted
returns-clause-further_sorted c = others_sorted

pub returns-clause-further_named : goal.returns-clause-further_named
returns-clause-further_named c = others_named

pub returns-clause-split : goal.returns-clause-split
returns-clause-split c = table_is_split
