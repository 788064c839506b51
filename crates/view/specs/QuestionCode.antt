-- How the logic stores questions, answers and changes: as the program's.
use Rattle.std.specs.Prelude.{◌≡◌, refl}
use Rattle.std.specs.Coded.{Coded, code_by, coded×}
use Rattle.spec_world.specs.Questions as meant
use Rattle.spec_world.specs.Questions.{about_header, about_children, about_contents, about_defines, about_slot, about_verbs, about_task, about_waiting, about_link, about_readers, about_connections, about_connected, about_greatest, about_ending, the_header, the_children, the_contents, the_defines, the_slot, the_verbs, the_task, the_waiting, the_link, the_readers, the_connections, the_connected, the_greatest, the_ending, new_header, new_children, new_contents, new_defines, new_verbs, new_slot, new_part, new_value, new_object, new_task, new_link, new_greatest, new_ending, new_next}
use Rattle.view.specs.Meanings.{question_of, answer_of, part_of, change_of}
use Rattle.view.specs.contracts.change.Change as change
use Rattle.view.specs.contracts.question.Answer as answer
use Rattle.view.specs.contracts.question.Question as question
use Rattle.view.specs.declared.change.Change.{Change}
use Rattle.view.specs.declared.change.Change.TheVariants.{Part as PartOf, Value, Object, Task as TaskWith, Link as LinkWith, Greatest as GreatestIs, Ending as EndingIs, Next}
use Rattle.view.specs.declared.part.Part.{Part}
use Rattle.view.specs.declared.part.Part.TheVariants.{Header as HeaderPart, Children as ChildrenPart, Contents as ContentsPart, Defines as DefinesPart, Verbs as VerbsPart, Slot as SlotPart}
use Rattle.view.specs.declared.question.Answer.{Answer}
use Rattle.view.specs.declared.question.Answer.TheVariants.{Header, Children, Contents, Defines, Slot, Verbs, Task, Waiting, Link, Readers, Connections, Connected, Greatest, Ending}
use Rattle.view.specs.declared.question.Question.{Question}
use Rattle.view.specs.declared.question.Question.TheVariants.{Header as HeaderOf, Children as ChildrenOf, Contents as ContentsOf, Defines as DefinesOf, Slot as SlotOf, Verbs as VerbsOf, Task as TaskOf, Waiting as WaitingOf, Link as LinkOf, Readers as ReadersOf, Connections as ConnectionsOf, Connected as ConnectedOf, Greatest as GreatestOf, Ending as EndingOf}

-- ---- questions

abbrev pub from_question : meant.Question → Question
from_question (about_header o) = HeaderOf o
from_question (about_children o) = ChildrenOf o
from_question (about_contents o) = ContentsOf o
from_question (about_defines o) = DefinesOf o
from_question (about_slot o p) = SlotOf o p
from_question (about_verbs o) = VerbsOf o
from_question (about_task i) = TaskOf i
from_question about_waiting = WaitingOf
from_question (about_link c) = LinkOf c
from_question (about_readers c) = ReadersOf c
from_question (about_connections o) = ConnectionsOf o
from_question about_connected = ConnectedOf
from_question about_greatest = GreatestOf
from_question about_ending = EndingOf

pub question_back : (q : meant.Question) → question_of (from_question q) ≡ q
question_back (about_header o) = refl
question_back (about_children o) = refl
question_back (about_contents o) = refl
question_back (about_defines o) = refl
question_back (about_slot o p) = refl
question_back (about_verbs o) = refl
question_back (about_task i) = refl
question_back about_waiting = refl
question_back (about_link c) = refl
question_back (about_readers c) = refl
question_back (about_connections o) = refl
question_back about_connected = refl
question_back about_greatest = refl
question_back about_ending = refl

abbrev pub question_code : Coded meant.Question
question_code = code_by Question question.the_row.coded from_question question_of question_back

-- ---- answers

abbrev pub from_answer : meant.Answer → Answer
from_answer (the_header h) = Header h
from_answer (the_children os) = Children os
from_answer (the_contents os) = Contents os
from_answer (the_defines ts) = Defines ts
from_answer (the_slot s) = Slot s
from_answer (the_verbs vs) = Verbs vs
from_answer (the_task t) = Task t
from_answer (the_waiting is) = Waiting is
from_answer (the_link k) = Link k
from_answer (the_readers is) = Readers is
from_answer (the_connections cs) = Connections cs
from_answer (the_connected ps) = Connected ps
from_answer (the_greatest o) = Greatest o
from_answer (the_ending b) = Ending b

pub answer_back : (a : meant.Answer) → answer_of (from_answer a) ≡ a
answer_back (the_header h) = refl
answer_back (the_children os) = refl
answer_back (the_contents os) = refl
answer_back (the_defines ts) = refl
answer_back (the_slot s) = refl
answer_back (the_verbs vs) = refl
answer_back (the_task t) = refl
answer_back (the_waiting is) = refl
answer_back (the_link k) = refl
answer_back (the_readers is) = refl
answer_back (the_connections cs) = refl
answer_back (the_connected ps) = refl
answer_back (the_greatest o) = refl
answer_back (the_ending b) = refl

abbrev pub answer_code : Coded meant.Answer
answer_code = code_by Answer answer.the_row.coded from_answer answer_of answer_back

abbrev pub read_code : Coded meant.Read
read_code =
    code_by (meant.Question × meant.Answer) (coded× question_code answer_code) (λ r. (r.question, r.answer)) (λ p. record { question = p.0; answer = p.1 }) (λ _. refl)

-- ---- changes

abbrev pub from_part : meant.Part → Part
from_part (new_header h) = HeaderPart h
from_part (new_children os) = ChildrenPart os
from_part (new_contents os) = ContentsPart os
from_part (new_defines ts) = DefinesPart ts
from_part (new_verbs vs) = VerbsPart vs
from_part (new_slot p s) = SlotPart p s

part_back : (a : meant.Part) → part_of (from_part a) ≡ a
part_back (new_header h) = refl
part_back (new_children os) = refl
part_back (new_contents os) = refl
part_back (new_defines ts) = refl
part_back (new_verbs vs) = refl
part_back (new_slot p s) = refl

abbrev pub from_change : meant.Change → Change
from_change (new_part o a) = PartOf o (from_part a)
from_change (new_value o p v) = Value o p v
from_change (new_object o x) = Object o x
from_change (new_task i t) = TaskWith i t
from_change (new_link c k) = LinkWith c k
from_change (new_greatest o) = GreatestIs o
from_change (new_ending b) = EndingIs b
from_change (new_next n) = Next n

pub change_back : (c : meant.Change) → change_of (from_change c) ≡ c
change_back (new_part o a) = λ i. new_part o (part_back a i)
change_back (new_value o p v) = refl
change_back (new_object o x) = refl
change_back (new_task i t) = refl
change_back (new_link c k) = refl
change_back (new_greatest o) = refl
change_back (new_ending b) = refl
change_back (new_next n) = refl

abbrev pub change_code : Coded meant.Change
change_code = code_by Change change.the_row.coded from_change change_of change_back
