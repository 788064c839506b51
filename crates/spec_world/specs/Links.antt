-- Links between connections and players (Programmer's Manual, "Operations on Network Connections").
use Rattle.std.specs.Prelude.{ℤ, neg_ℤ, pos, ◌-ℤ◌, Bool, false, not, [], ◌∷◌, filter, if◌then◌else◌, Option, Some, None}
use Rattle.std.specs.Ordering.{int_eq}
use Rattle.spec_value.specs.Table.{Numbered, without, with}
use Rattle.spec_world.specs.World.{World, Link, Task, Waiting, reading_on}

-- the object of a connection on which nobody has logged in
abbrev pub connection_object : ℤ → ℤ
connection_object c = neg_ℤ (pos 3) -ℤ c

-- the connection of a link that belongs to this object
abbrev pub connection_among : Numbered Link → ℤ → Option ℤ
connection_among [] o = None
connection_among (e ∷ es) o = if int_eq (e.1).person o then Some e.0 else connection_among es o

abbrev pub connection_of : World → ℤ → Option ℤ
connection_of w o = connection_among w.links o

abbrev pub reads_on : ℤ → Waiting → Bool
reads_on c (reading_on d) = int_eq c d
reads_on c _ = false

-- the task that reads on a connection
abbrev pub reader_among : Numbered Task → ℤ → Option ℤ
reader_among [] c = None
reader_among (e ∷ es) c = if reads_on c (e.1).waiting then Some e.0 else reader_among es c

abbrev pub reader_of : World → ℤ → Option ℤ
reader_of w c = reader_among w.tasks c

abbrev pub open_link : World → ℤ → Link → World
open_link w c k = record w { links = with w.links c k }

-- a task that reads on a link goes with it
unfoldable pub close_link : World → ℤ → World
close_link w c = record w { links = without w.links c; tasks = filter (λ e. not (reads_on c (e.1).waiting)) w.tasks }
