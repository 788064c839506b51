-- What a world lists first is what links and tasks have.
use Rattle.std.specs.Prelude.{◌≡◌, ℤ, List, [], ◌∷◌, Option, Some, None}
use Rattle.spec_world.specs.World.{World}
use Rattle.spec_world.specs.Links.{connection_of, reader_of}
use Rattle.spec_world.specs.Listings.{readers_on, connections_of}

abbrev pub first : List ℤ → Option ℤ
first [] = None
first (n ∷ ns) = Some n

abbrev pub ReaderIsFirst : Type 0
ReaderIsFirst = (w : World) (c : ℤ) → reader_of w c ≡ first (readers_on w c)

abbrev pub ConnectionIsFirst : Type 0
ConnectionIsFirst = (w : World) (o : ℤ) → connection_of w o ≡ first (connections_of w o)
