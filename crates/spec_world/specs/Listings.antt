-- What a world lists of its tasks and links (Programmer's Manual, "Operations on Tasks" and "Operations on Network Connections").
use Rattle.std.specs.Prelude.{ℤ, pos, int_le, List, map, filter}
use Rattle.std.specs.Ordering.{int_eq}
use Rattle.spec_world.specs.World.{World}
use Rattle.spec_world.specs.Links.{reads_on}

-- the ids of the tasks that wait
abbrev pub waiting_ids : World → List ℤ
waiting_ids w = map (λ e. e.0) w.tasks

-- the ids of the tasks that read on a connection: in a well-formed world one at most
abbrev pub readers_on : World → ℤ → List ℤ
readers_on w c = map (λ e. e.0) (filter (λ e. reads_on c (e.1).waiting) w.tasks)

-- the connections of a person: in a well-formed world one at most
abbrev pub connections_of : World → ℤ → List ℤ
connections_of w o = map (λ e. e.0) (filter (λ e. int_eq (e.1).person o) w.links)

-- the connections on which a player has logged in, with their players
abbrev pub connected : World → List (ℤ × ℤ)
connected w = map (λ e. (e.0, (e.1).person)) (filter (λ e. int_le (pos 0) (e.1).person) w.links)
