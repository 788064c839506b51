-- Ways to wait, and built-in functions, by their words.
use Rattle.std.specs.Prelude.{ℕ, Option, Some, None, if◌then◌else◌, codes}
use Rattle.spec_value.specs.Datum.{Text, same_text}
use Rattle.spec_world.specs.World.{Waiting, forked, timed, idle, reading_on}
use Rattle.moo_task.specs.declared.native.NativeName.{NativeName}
use Rattle.moo_task.specs.declared.native.NativeName.TheVariants.{Move, Create, Recycle, Eval}
use Rattle.task_lines.specs.declared.waiting.Manner.{Manner}
use Rattle.task_lines.specs.declared.waiting.Manner.TheVariants.{Fork, Wait, Idle, Read}

abbrev pub manner_for : Waiting → Manner
manner_for (forked due) = Fork
manner_for (timed due v) = Wait
manner_for idle = Idle
manner_for (reading_on c) = Read

abbrev pub manner_in : Text → Option Manner
manner_in t =
    if same_text t (codes "fork") then Some Fork
    else if same_text t (codes "wait") then Some Wait else if same_text t (codes "idle") then Some Idle else if same_text t (codes "read") then Some Read else None

-- how many fields stand behind the first
abbrev pub fields_of : Manner → ℕ
fields_of Fork = 3
fields_of Wait = 4
fields_of Idle = 2
fields_of Read = 3

abbrev pub name_in : Text → Option NativeName
name_in t =
    if same_text t (codes "move") then Some Move
    else if same_text t (codes "create") then Some Create else if same_text t (codes "recycle") then Some Recycle else if same_text t (codes "eval") then Some Eval else None
