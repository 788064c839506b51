use Rattle.std.proofs.Common.{◌≡◌, drop}
use Rattle.moo_code.specs.Paths.{onto_path}
use Rattle.moo_places.specs.Seeking.{seek}
use Rattle.tree_parts.specs.Turns.{sought_from}
use Rattle.tree_parts.proofs.frame_paths.seek.seek.Given as goal

abbrev pub invariant-loop-step : goal.invariant-loop-step
invariant-loop-step l = onto_path l.path.items (sought_from (drop l.step-index l.steps) l.sought) ≡ seek l.steps 0 1 l.fn.offset
