use Rattle.std.proofs.Common.{◌≡◌, ◌++◌, suc, drop, map}
use Rattle.moo_code.specs.Instruction.{placed}
use Rattle.moo_code.specs.Layout.{slots_of, default_parts}
use Rattle.moo_tree.specs.ExpressionView.{items_of}
use Rattle.moo_program.specs.Assembling.{place_of}
use Rattle.moo_program.specs.Meaning.{slot_meant, part_meant}
use Rattle.moo_program.specs.Names.{known}
use Rattle.moo_program.specs.Opens.{open_of}
use Rattle.moo_program.proofs.scatter.scatter.Given as goal

abbrev pub invariant-loop-i : goal.invariant-loop-i
invariant-loop-i l =
    record {
      slots : map (slot_meant (known l.names)) l.slots.items ++ slots_of (items_of (drop l.i l.items)) ≡ slots_of (items_of l.items);
      defaults : map part_meant l.defaults.items ++ placed (place_of (open_of l.here)) (default_parts (suc l.i) (items_of (drop l.i l.items)))
          ≡ placed (place_of (open_of l.here)) (default_parts 1 (items_of l.items));
    }
