-- A worked row of a text whose lines have no fault and that no well-formed world has: its links are out of order.
use Rattle.std.specs.Prelude.{ℤ, pos, neg_ℤ, [], ◌∷◌, None, false}
use Rattle.spec_world.specs.World.{World, Link}
use Rattle.spec_world.specs.Checkpoint as fault
use Rattle.spec_world.specs.Checkpoint.{checkpoint_text}
use Rattle.spec_faults.specs.Faults.{IsFirstFault}

abbrev pub nobodys : ℤ → Link
nobodys o = record { person = o; programming = None }

-- it is the text of these parts, in ten lines
abbrev pub out_of_order : World
out_of_order =
    record {
      objects = [];
      tasks = [];
      links = (pos 2, nobodys (neg_ℤ (pos 5))) ∷ (pos 1, nobodys (neg_ℤ (pos 4))) ∷ [];
      greatest = neg_ℤ (pos 1);
      next = 1;
      ending = false;
    }

abbrev pub OutOfOrder : Type 0
OutOfOrder = IsFirstFault (checkpoint_text out_of_order) (record { line = 10; kind = fault.world })
