-- Outcomes of steps: where nothing was done, and of a scene.
use Rattle.std.specs.Prelude.{ℕ, ℤ, List, [], Bool, false, None}
use Rattle.spec_value.specs.Datum.{Datum, Text}
use Rattle.spec_world.specs.World.{World}
use Rattle.spec_world.specs.Outcome.{Result, Outcome}
use Rattle.spec_world.specs.Step.{Step}
use Rattle.spec_moo.specs.Scene.{Scene}

-- nothing was done
abbrev pub idle_with : Result → Outcome
idle_with r = record { result = r; ticks_used = 0; output = []; queued = []; closed = []; checkpoint = false }

-- what a step is when no task of it has run yet
abbrev pub opening_scene : World → Step → ℕ → Scene
opening_scene w s ticks =
    record {
      world = w;
      number = s.number;
      moment = s.moment;
      key = s.key;
      ticks_left = ticks;
      words_used = 0;
      ids_used = 0;
      lines_kept = 0;
      task = None;
      output = [];
      queued = [];
      closed = [];
      checkpoint = false;
    }

-- the world and the outcome of a scene, after so many ticks
abbrev pub comes_to : Scene → Result → ℕ → World × Outcome
comes_to s r ticks =
    (s.world, record { result = r; ticks_used = ticks; output = s.output; queued = s.queued; closed = s.closed; checkpoint = s.checkpoint })
