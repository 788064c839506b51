-- What the records and the questions of this crate mean.
use Rattle.spec_world.specs.Questions as meant
use Rattle.spec_world.specs.Questions.{about_header, about_children, about_contents, about_defines, about_slot, about_verbs, about_task, about_waiting, about_link, about_readers, about_connections, about_connected, about_greatest, about_ending, the_header, the_children, the_contents, the_defines, the_slot, the_verbs, the_task, the_waiting, the_link, the_readers, the_connections, the_connected, the_greatest, the_ending, new_header, new_children, new_contents, new_defines, new_verbs, new_slot, new_part, new_value, new_object, new_task, new_link, new_greatest, new_ending, new_next}
use Rattle.view.specs.declared.question.Question.{Question}
use Rattle.view.specs.declared.question.Question.TheVariants.{Header as HeaderOf, Children as ChildrenOf, Contents as ContentsOf, Defines as DefinesOf, Slot as SlotOf, Verbs as VerbsOf, Task as TaskOf, Waiting as WaitingOf, Link as LinkOf, Readers as ReadersOf, Connections as ConnectionsOf, Connected as ConnectedOf, Greatest as GreatestOf, Ending as EndingOf}
use Rattle.view.specs.declared.question.Answer.{Answer}
use Rattle.view.specs.declared.question.Answer.TheVariants.{Header, Children, Contents, Defines, Slot, Verbs, Task, Waiting, Link, Readers, Connections, Connected, Greatest, Ending}
use Rattle.view.specs.declared.change.Change.{Change}
use Rattle.view.specs.declared.change.Change.TheVariants.{Part as PartOf, Value, Object, Task as TaskWith, Link as LinkWith, Greatest as GreatestIs, Ending as EndingIs, Next}
use Rattle.view.specs.declared.part.Part.{Part}
use Rattle.view.specs.declared.part.Part.TheVariants.{Header as HeaderPart, Children as ChildrenPart, Contents as ContentsPart, Defines as DefinesPart, Verbs as VerbsPart, Slot as SlotPart}

abbrev pub question_of : Question → meant.Question
question_of (HeaderOf o) = about_header o
question_of (ChildrenOf o) = about_children o
question_of (ContentsOf o) = about_contents o
question_of (DefinesOf o) = about_defines o
question_of (SlotOf o p) = about_slot o p
question_of (VerbsOf o) = about_verbs o
question_of (TaskOf i) = about_task i
question_of WaitingOf = about_waiting
question_of (LinkOf c) = about_link c
question_of (ReadersOf c) = about_readers c
question_of (ConnectionsOf o) = about_connections o
question_of ConnectedOf = about_connected
question_of GreatestOf = about_greatest
question_of EndingOf = about_ending

abbrev pub answer_of : Answer → meant.Answer
answer_of (Header h) = the_header h
answer_of (Children os) = the_children os
answer_of (Contents os) = the_contents os
answer_of (Defines ts) = the_defines ts
answer_of (Slot s) = the_slot s
answer_of (Verbs vs) = the_verbs vs
answer_of (Task t) = the_task t
answer_of (Waiting is) = the_waiting is
answer_of (Link k) = the_link k
answer_of (Readers is) = the_readers is
answer_of (Connections cs) = the_connections cs
answer_of (Connected ps) = the_connected ps
answer_of (Greatest o) = the_greatest o
answer_of (Ending b) = the_ending b

abbrev pub part_of : Part → meant.Part
part_of (HeaderPart h) = new_header h
part_of (ChildrenPart os) = new_children os
part_of (ContentsPart os) = new_contents os
part_of (DefinesPart ts) = new_defines ts
part_of (VerbsPart vs) = new_verbs vs
part_of (SlotPart p s) = new_slot p s

abbrev pub change_of : Change → meant.Change
change_of (PartOf o a) = new_part o (part_of a)
change_of (Value o p v) = new_value o p v
change_of (Object o x) = new_object o x
change_of (TaskWith i t) = new_task i t
change_of (LinkWith c k) = new_link c k
change_of (GreatestIs o) = new_greatest o
change_of (EndingIs b) = new_ending b
change_of (Next n) = new_next n
