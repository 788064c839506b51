-- What a tracked view has read and changed.
use Rattle.std.specs.Prelude.{◌≡◌, ◌↔◌, List, refl}
use Rattle.std.specs.Coded.{Coded, code_by, coded×, coded_list}
use Rattle.spec_world.specs.World.{World}
use Rattle.spec_world.specs.WorldCode.{world_code}
use Rattle.spec_world.specs.Questions.{Question, ask, Read, Change, Agrees, apply_all}
use Rattle.view.specs.QuestionCode.{read_code, change_code}
use Rattle.view.specs.Sound.{IsSound}

pub record Trace : Type 0 where
  pub home : World
  pub reads : List Read
  pub changes : List Change

abbrev pub trace_code : Coded Trace
trace_code =
    code_by (World × (List Read × List Change)) (coded× world_code (coded× (coded_list read_code) (coded_list change_code)))
    (λ t. (t.home, (t.reads, t.changes))) (λ p. record { home = p.0; reads = p.1.0; changes = p.1.1 }) (λ _. refl)

-- a possible start is sound, and gives each answer that was read
abbrev pub IsStart : Trace → World → Type 0
IsStart t w = IsSound w × Agrees w t.reads

-- the world now
abbrev pub world_now : Trace → World → World
world_now t w = apply_all t.changes w

-- a question was asked: the worlds that agree are now those of before that answer it as home does
pub record IsTold (old new : Trace) (q : Question) : Type 0 where
  pub home_stays : new.home ≡ old.home
  pub changes_stay : new.changes ≡ old.changes
  pub agreeing : (w : World) → Agrees w new.reads ↔ Agrees w old.reads × (ask w q ≡ ask old.home q)

-- two worlds answer each question alike
abbrev pub AnswersAlike : World → World → Type 0
AnswersAlike v w = (q : Question) → ask v q ≡ ask w q
