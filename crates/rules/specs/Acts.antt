-- What acts mean.
use Rattle.spec_world.specs.Permissions as meant
use Rattle.spec_world.specs.Permissions.{read_slot, write_slot, write_name, write_bits, write_standing, write_place, list_members, change_members, change_owner, read_verb, write_verb, program_verb, evaluate, have_child, change_object, act_as, control_task, administer}
use Rattle.rules.specs.declared.permissions.act.Act.{Act}
use Rattle.rules.specs.declared.permissions.act.Act.TheVariants.{ReadSlot, WriteSlot, WriteName, WriteBits, WriteStanding, WritePlace, ListMembers, ChangeMembers, ChangeOwner, ReadVerb, WriteVerb, ProgramVerb, Evaluate, HaveChild, ChangeObject, ActAs, ControlTask, Administer}

abbrev pub act_of : Act → meant.Act
act_of (ReadSlot o p) = read_slot o p
act_of (WriteSlot o p) = write_slot o p
act_of (WriteName o) = write_name o
act_of (WriteBits o) = write_bits o
act_of (WriteStanding o) = write_standing o
act_of (WritePlace o) = write_place o
act_of (ListMembers o) = list_members o
act_of (ChangeMembers o) = change_members o
act_of (ChangeOwner before after) = change_owner before after
act_of (ReadVerb o n) = read_verb o n
act_of (WriteVerb o n) = write_verb o n
act_of (ProgramVerb o n) = program_verb o n
act_of Evaluate = evaluate
act_of (HaveChild p) = have_child p
act_of (ChangeObject o) = change_object o
act_of (ActAs o) = act_as o
act_of (ControlTask o) = control_task o
act_of Administer = administer
