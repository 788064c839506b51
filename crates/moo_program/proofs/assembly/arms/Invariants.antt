use Rattle.std.proofs.Common.{◌≡◌, map, take}
use Rattle.moo_code.specs.Instruction.{placed, handler_parts}
use Rattle.moo_program.specs.Drafting.{row_of}
use Rattle.moo_program.specs.Assembling.{place_of}
use Rattle.moo_program.specs.Meaning.{arm_meant, arm_place}
use Rattle.moo_program.specs.Names.{known}
use Rattle.moo_program.specs.Opens.{open_of}
use Rattle.moo_program.proofs.assembly.arms.Given as goal

abbrev pub invariant-loop-i : goal.invariant-loop-i
invariant-loop-i l =
    record {
      rows : map (arm_meant (known l.names)) l.arms.items ≡ map row_of (take l.i l.rows);
      places : map arm_place l.arms.items ≡ placed (place_of (open_of l.around)) (handler_parts (map row_of (take l.i l.rows)));
    }
