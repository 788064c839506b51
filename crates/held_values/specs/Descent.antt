-- Whether the constructs down a path hold what they must, from the outermost on.
use Rattle.std.specs.Prelude.{ℕ, ◌+◌, Bool, true, false, ◌&&◌, List, [], ◌∷◌, take, drop, Option, Some, None}
use Rattle.spec_value.specs.Datum.{Datum}
use Rattle.spec_program.specs.Construct.{Construct}
use Rattle.spec_program.specs.Place.{Part, part_at, held_count}
use Rattle.spec_world.specs.WellFormed.{held_fits, is_loop}

abbrev pub on_part : Option Part → (Part → Bool) → Bool
on_part None go = false
on_part (Some x) go = go x

abbrev pub on_tree : Option Construct → (Construct → Bool) → Bool
on_tree None go = false
on_tree (Some c) go = go c

-- with so many loops around, and the values that are held from there on, the deepest first
abbrev pub fits_down : ℕ → Construct → List ℕ → List Datum → Bool
fits_down around c [] vs = true
fits_down around c (n ∷ path) vs =
    on_part (part_at c n) (λ x. held_fits around x.held (take (held_count x.held) vs) && on_tree x.tree (λ d. fits_down (is_loop c + around) d path (drop (held_count x.held) vs)))
