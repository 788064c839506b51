-- A program's draft in its order, with the size of its code.
use Rattle.std.specs.Prelude.{◌≡◌, ℕ, List}
use Rattle.spec_program.specs.Tree.{Program}
use Rattle.moo_code.specs.Layout.{size, whole_layout}
use Rattle.moo_program.specs.Drafting.{Draught}
use Rattle.moo_program.specs.Assembling.{draft_of}

pub record IsDraft (p : Program) (ds : List Draught) (n : ℕ) : Type 0 where
  pub items : ds ≡ draft_of p
  pub count : n ≡ size (whole_layout p)
