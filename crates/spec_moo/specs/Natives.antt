-- Built-in functions (Programmer's Manual, "Built-in Functions"): each name belongs to one group.
pub mod Rows
pub mod Values
pub mod Objects
pub mod Properties
pub mod Verbs
pub mod Tasks
use Rattle.std.specs.Prelude.{List, [], ◌∷◌, Option, Some, None}
use Rattle.spec_value.specs.Datum.{Datum, Text, invalid_argument}
use Rattle.spec_world.specs.World.{Native, NativeName, eval_native}
use Rattle.spec_moo.specs.Scene.{Scene}
use Rattle.spec_moo.specs.NativeEffect.{Caller, NativeEffect, refuses}
use Rattle.spec_moo.specs.Natives.Values.{values}
use Rattle.spec_moo.specs.Natives.Objects.{objects, object_stage}
use Rattle.spec_moo.specs.Natives.Properties.{properties}
use Rattle.spec_moo.specs.Natives.Verbs.{verbs, eval_stage}
use Rattle.spec_moo.specs.Natives.Tasks.{tasks}

-- a group says what a call of its functions does, and nothing of other names
abbrev pub Group : Type 0
Group = Scene → Caller → Text → List Datum → Option NativeEffect

abbrev pub or_later : Option NativeEffect → (Text → NativeEffect) → Text → NativeEffect
or_later (Some e) later name = e
or_later None later name = later name

-- a function of no group raises E_INVARG
abbrev pub in_groups : List Group → Scene → Caller → Text → List Datum → NativeEffect
in_groups [] s c name args = refuses s invalid_argument
in_groups (g ∷ gs) s c name args = or_later (g s c name args) (λ x. in_groups gs s c x args) name

-- what a call does
unfoldable pub native : Scene → Caller → Text → List Datum → NativeEffect
native s c name args = in_groups (values ∷ objects ∷ properties ∷ verbs ∷ tasks ∷ []) s c name args

abbrev pub stage_of : Scene → Caller → NativeName → Native → Datum → NativeEffect
stage_of s c eval_native n v = eval_stage s v
stage_of s c name n v = object_stage s c n v

-- what a built-in that waits does with the value of the verb which it called
unfoldable pub native_turn : Scene → Caller → Native → Datum → NativeEffect
native_turn s c n v = stage_of s c n.name n v
