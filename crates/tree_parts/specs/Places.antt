-- The places to which paths lead.
use Rattle.std.specs.Prelude.{ℕ, List, [], ◌∷◌, Option, None}
use Rattle.spec_program.specs.Tree.{Program}
use Rattle.spec_program.specs.Construct.{of_program}
use Rattle.moo_code.specs.Layout.{layout, outermost}
use Rattle.moo_places.specs.Reaching.{last_at_path}

-- where what stands at a path has its last instruction; a program itself has no path
abbrev pub place_at : Program → List ℕ → Option ℕ
place_at p [] = None
place_at p (n ∷ path) = last_at_path (n ∷ path) 0 (layout outermost (of_program p))
