-- The lines before the links.
use Rattle.std.specs.Prelude.{List, [], ◌∷◌, codes}
use Rattle.std.specs.Fmt.{signed_decimal}
use Rattle.spec_value.specs.Datum.{Text}
use Rattle.spec_world.specs.World.{World}
use Rattle.spec_world.specs.Checkpoint.{fields, counted, flag}

abbrev pub front_lines : World → List Text
front_lines w =
    codes "MOO-CHECKPOINT 1"
    ∷ counted (codes "next") w.next
    ∷ fields (codes "greatest" ∷ signed_decimal w.greatest ∷ [])
    ∷ fields (codes "ending" ∷ flag w.ending ∷ [])
    ∷ []
