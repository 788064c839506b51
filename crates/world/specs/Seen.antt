-- What was read of a world: questions with its answers.
use Rattle.std.specs.Prelude.{List, [], map, Option, Some, None, option_map}
use Rattle.std.specs.Option.{unwrap_or}
use Rattle.spec_world.specs.World.{World}
use Rattle.spec_world.specs.Questions.{Read, ask}
use Rattle.view.specs.Meanings.{question_of, answer_of}
use Rattle.world.specs.declared.noted.Noted.{Noted}

-- a question that was asked, with the answer that was kept, or else the one of the world
abbrev pub read_on : World → Noted → Read
read_on w n = record { question = question_of n.question; answer = unwrap_or (option_map (λ b. answer_of b.value) n.answer) (ask w (question_of n.question)) }

-- what was asked of a world, which is there as soon as something was
abbrev pub seen_of : Option World → List Noted → List Read
seen_of None ns = []
seen_of (Some w) ns = map (read_on w) ns
