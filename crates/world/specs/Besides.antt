-- Answers besides those about verbs.
use Rattle.std.specs.Prelude.{◌≡◌, Bool, true, false, IsFalse, List, [], ◌∷◌}
use Rattle.spec_world.specs.World.{World}
use Rattle.spec_world.specs.Questions.{Question, about_verbs, Read, ask}

abbrev pub is_about_verbs : Question → Bool
is_about_verbs (about_verbs o) = true
is_about_verbs _ = false

-- each answer that was read, but for those about verbs, is the one that the world gives
abbrev pub AgreesBesides : World → List Read → Type 0
AgreesBesides w [] = Unit {0}
AgreesBesides w (r ∷ rs) = (IsFalse (is_about_verbs r.question) → ask w r.question ≡ r.answer) × AgreesBesides w rs
