-- Links that a task closes, and what it tells (Programmer's Manual, "Operations on Network Connections").
use Rattle.std.specs.Prelude.{suc, nat_lt, ℤ, [], ◌∷◌, ◌++◌, Bool, true, Option, Some, None}
use Rattle.spec_value.specs.Datum.{Text}
use Rattle.spec_world.specs.Links.{connection_of, close_link}
use Rattle.spec_moo.specs.Scene.{Scene}

abbrev pub connection_closed : Scene → Option ℤ → Scene
connection_closed s None = s
connection_closed s (Some c) = record s { world = close_link s.world c; closed = s.closed ++ c ∷ [] }

-- the link of an object, if it has one
abbrev pub link_closed : Scene → ℤ → Scene
link_closed s o = connection_closed s (connection_of s.world o)

-- a step keeps 4,096 lines of output; a line to an object without a link is dropped, and does not count
abbrev pub has_lines : Scene → Option ℤ → Bool
has_lines s None = true
has_lines s (Some c) = nat_lt s.lines_kept 4096

abbrev pub line_told : Scene → Text → Option ℤ → Scene
line_told s t None = s
line_told s t (Some c) = record s { output = s.output ++ (c, t) ∷ []; lines_kept = suc s.lines_kept }
