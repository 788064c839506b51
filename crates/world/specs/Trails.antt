-- The questions that a trail stands for.
use Rattle.std.specs.Prelude.{List, [], ◌∷◌, ◌++◌}
use Rattle.spec_world.specs.Questions as meant
use Rattle.view.specs.Meanings.{question_of}
use Rattle.world.specs.declared.trail.Last.{Last}
use Rattle.world.specs.declared.trail.Last.TheVariants.{Nothing, Question, Slot, Header, Verbs}

abbrev pub trail_of : Last → List meant.Question
trail_of Nothing = []
trail_of (Question before q) = before.value ++ question_of q.value ∷ []
trail_of (Slot before o p) = before.value ++ meant.about_slot o.value p.value ∷ []
trail_of (Header before o) = before.value ++ meant.about_header o.value ∷ []
trail_of (Verbs before o) = before.value ++ meant.about_verbs o.value ∷ []
