use Rattle.std.proofs.Common.{◌↔◌, map, drop}
use Rattle.spec_world.specs.Questions.{Agrees}
use Rattle.world.specs.Seen.{read_on}
use Rattle.world.proofs.draft.Draft.agrees.Given as goal

abbrev pub invariant-loop-noted : goal.invariant-loop-noted
invariant-loop-noted l = Agrees l.self (map (read_on l.home) (drop l.noted-index l.notes)) ↔ Agrees l.self (map (read_on l.home) l.notes)
