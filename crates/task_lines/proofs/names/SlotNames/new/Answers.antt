use Rattle.std.proofs.Common.{IsTrue, sym, subst}
use Rattle.spec_world.specs.WellFormed.{names_once}
use Rattle.moo_code.proofs.ProgramNames.{names_are_once}
use Rattle.task_lines.proofs.names.SlotNames.new.Goals as goal

pub places_of-requires : goal.places_of-requires
places_of-requires c = subst (λ ns. IsTrue (names_once ns)) (sym c.names-own.ensures) (names_are_once c.args.program.now)
