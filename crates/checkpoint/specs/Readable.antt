-- Worlds that are read from their texts.
use Rattle.std.specs.Prelude.{Bool, ◌&&◌, IsTrue}
use Rattle.std.specs.List.{list_all}
use Rattle.spec_world.specs.World.{World}
use Rattle.spec_checkpoint.specs.Holding.{world_holds}
use Rattle.view.specs.Sound.{IsSound}
use Rattle.object_lines.specs.Readable.{is_object_in_reach}
use Rattle.task_lines.specs.Tasks.{task_nests}

-- values nest no deeper than literals that are read, and verbs want sets of prepositions that there are
abbrev pub is_in_reach : World → Bool
is_in_reach w = list_all (λ e. is_object_in_reach e.1) w.objects && list_all (λ e. task_nests e.1) w.tasks

-- a sound world of values, in reach of the readers
pub record IsReadable (w : World) : Type 0 where
  pub sound : IsSound w
  pub holds : IsTrue (world_holds w)
  pub reach : IsTrue (is_in_reach w)
