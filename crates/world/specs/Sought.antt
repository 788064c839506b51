-- What is looked for among questions.
use Rattle.spec_world.specs.Questions as meant
use Rattle.view.specs.Meanings.{question_of}
use Rattle.world.specs.declared.questions.Sought.{Sought}
use Rattle.world.specs.declared.questions.Sought.TheVariants.{Question, Slot, Header, Verbs}

abbrev pub sought_of : Sought → meant.Question
sought_of (Question q) = question_of q.now
sought_of (Slot o name) = meant.about_slot o name.now
sought_of (Header o) = meant.about_header o
sought_of (Verbs o) = meant.about_verbs o
