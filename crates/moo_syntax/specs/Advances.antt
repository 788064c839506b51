-- A state to which the reader comes by one step or more at once, or another that may stand in its place.
use Rattle.std.specs.Prelude.{ℕ, suc}
use Rattle.spec_reader.specs.Next.{State}
use Rattle.spec_reader.specs.Whole.{after}
use Rattle.moo_syntax.specs.StandsFor.{StandsFor}

-- by one step and so many more
pub record Advances (r s : State) : Type 0 where
  pub more : ℕ
  pub stands : StandsFor (after (suc more) r) s
