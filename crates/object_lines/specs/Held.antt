-- What a link's last field says.
use Rattle.std.specs.Prelude.{Bool, true, false, Option, Some, None}
use Rattle.spec_world.specs.World as meant
use Rattle.object_lines.specs.declared.link.Held.{Held}
use Rattle.object_lines.specs.declared.link.Held.TheVariants.{Nothing, Programming, Other}

abbrev pub held_of : Option meant.Programming → Held
held_of None = Nothing
held_of (Some g) = Programming g

-- it is none of another kind
abbrev pub is_known : Held → Bool
is_known Other = false
is_known _ = true
