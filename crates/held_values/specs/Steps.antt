-- One step down a path, with what is wanted then.
use Rattle.std.specs.Prelude.{ℕ, List, ◌++◌, Option, Some, None}
use Rattle.spec_program.specs.Construct.{Construct}
use Rattle.spec_program.specs.Place.{Part}
use Rattle.held_values.specs.declared.fits.Wanted.{Wanted}
use Rattle.held_values.specs.Wanted.{wanted_in}

abbrev pub with_tree : Option Construct → List Wanted → Option (Construct × List Wanted)
with_tree None ws = None
with_tree (Some d) ws = Some (d, ws)

abbrev pub step_wanted : ℕ → List Wanted → Option Part → Option (Construct × List Wanted)
step_wanted around ws None = None
step_wanted around ws (Some x) = with_tree x.tree (ws ++ wanted_in around x.held)
