use Rattle.std.proofs.Common.{◌↔◌, map, drop}
use Rattle.world.specs.Besides.{AgreesBesides}
use Rattle.world.specs.Seen.{read_on}
use Rattle.world.proofs.draft.Draft.agrees_besides.Given as goal

abbrev pub invariant-loop-noted : goal.invariant-loop-noted
invariant-loop-noted l = AgreesBesides l.self (map (read_on l.home) (drop l.noted-index l.notes)) ↔ AgreesBesides l.self (map (read_on l.home) l.notes)
