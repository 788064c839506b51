-- Paths and places along a program's outline.
use Rattle.std.proofs.Common.{◌≡◌, ◌∙◌, ap, ℕ, ◌<◌, List, [], ◌∷◌, length, drop, Option, arith}
use Rattle.std.specs.Prelude.{slice_index}
use Rattle.spec_program.specs.Tree.{Program}
use Rattle.spec_program.specs.Construct.{of_program}
use Rattle.moo_code.specs.Layout.{layout, outermost}
use Rattle.moo_code.specs.Paths.{find}
use Rattle.moo_program.specs.Outline.{outline_of}
use Rattle.moo_program.specs.declared.outline.Step.{Step}
use Rattle.moo_places.specs.Reaching.{reach}
use Rattle.moo_places.specs.Seeking.{seek}
use Rattle.moo_places.proofs.Outlined.{is_reached}
use Rattle.moo_places.proofs.Sought.{is_found}
use Rattle.tree_parts.specs.Places.{place_at}

pub found_along : (p : Program) (ss : List Step) (o : ℕ) (r : Option (List ℕ)) → ss ≡ outline_of p → r ≡ seek ss 0 1 o → r ≡ find 1 (layout outermost (of_program p)) o
found_along p ss o r is e = e ∙ ap (λ xs. seek xs 0 1 o) is ∙ is_found p o

pub placed_along : (p : Program) (ss : List Step) (path : List ℕ) (r : Option ℕ) → 0 < length path → ss ≡ outline_of p → r ≡ reach ss 0 (slice_index path 0) (drop 1 path) 0
    → r ≡ place_at p path
placed_along p ss [] r some is e = absurd (omega arith)
placed_along p ss (n ∷ path) r some is e = e ∙ ap (λ xs. reach xs 0 n path 0) is ∙ is_reached p n path
