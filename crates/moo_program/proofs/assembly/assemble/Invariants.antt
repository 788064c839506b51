use Rattle.std.proofs.Common.{◌≡◌, [], ◌∷◌, drop, map, true}
use Rattle.moo_program.specs.Drafting.{item_of}
use Rattle.moo_program.specs.Assembling.{opened, code_in, handlers_in}
use Rattle.moo_program.specs.Scattering.{IsSteady, all_in}
use Rattle.moo_program.specs.Walking.{walk_of, all_code, all_handlers}
use Rattle.moo_program.proofs.assembly.assemble.Given as goal

abbrev pub invariant-loop-i : goal.invariant-loop-i
invariant-loop-i l =
    record {
      code : all_code (walk_of l.tables l.assembly) (map item_of (drop l.i l.items)) ≡ code_in (opened 0 (map item_of l.items) l.size ∷ []) 0 (map item_of l.items);
      handlers : all_handlers (walk_of l.tables l.assembly) (map item_of (drop l.i l.items)) ≡ handlers_in (opened 0 (map item_of l.items) l.size ∷ []) 0 (map item_of l.items);
      steady : IsSteady l.tables l.assembly (map item_of (drop l.i l.items));
      within : all_in l.tables l.assembly ≡ true;
    }
