-- The built-in functions of the world: each by its name, with its row.
use Rattle.std.specs.Prelude.{◌≡◌, List, [], ◌∷◌, ◌++◌, Result, Ok, Err, Option, Some, None, codes, if◌then◌else◌}
use Rattle.spec_value.specs.Datum.{Datum, Text, same_text, invalid_argument}
use Rattle.spec_value.specs.PureBuiltins.{call_value}
use Rattle.spec_moo.specs.Scene.{Scene}
use Rattle.spec_moo.specs.NativeEffect.{Caller, NativeEffect, answers, refuses}
use Rattle.spec_moo.specs.Natives.Rows.{Sort, any_value, an_integer, an_object, a_text, a_verb, text_lines, owner_and_bits, owner_bits_names, verb_specifier, Row, by_row}
use Rattle.spec_moo.specs.Natives.Objects.{valid_row, is_player_row, parent_row, children_row, max_object_row, players_row, create_row, recycle_row, chparent_row, move_row, set_player_flag_row, object_rows}
use Rattle.spec_moo.specs.Natives.Properties.{properties_row, property_info_row, set_property_info_row, add_property_row, delete_property_row, is_clear_property_row, clear_property_row, property_rows}
use Rattle.spec_moo.specs.Natives.Verbs.{verbs_row, verb_info_row, set_verb_info_row, verb_args_row, set_verb_args_row, add_verb_row, delete_verb_row, verb_code_row, set_verb_code_row, eval_row, verb_rows}
use Rattle.spec_moo.specs.Natives.Tasks.{notify_row, read_row, suspend_row, resume_row, kill_task_row, queued_tasks_row, task_id_row, ticks_left_row, raise_row, set_task_perms_row, caller_perms_row, random_row, time_row, connected_players_row, boot_player_row, dump_database_row, shutdown_row, task_rows}
use Rattle.moo_value.specs.Errors.{code_of}
use Rattle.moo_value.specs.declared.error.MooError.{MooError}
use Rattle.builtins_value.specs.Functions.{function_of}
use Rattle.builtin_table.specs.declared.function.Builtin.{Builtin}
use Rattle.builtin_table.specs.declared.function.Builtin.TheVariants.{OfValues, OfWorld}
use Rattle.builtin_table.specs.declared.world_function.WorldFunction.{WorldFunction}
use Rattle.builtin_table.specs.declared.world_function.WorldFunction.TheVariants.{Valid, IsPlayer, Parent, Children, MaxObject, Players, Create, Recycle, Chparent, Move, SetPlayerFlag, Properties, PropertyInfo, SetPropertyInfo, AddProperty, DeleteProperty, IsClearProperty, ClearProperty, Verbs, VerbInfo, SetVerbInfo, VerbArgs, SetVerbArgs, AddVerb, DeleteVerb, VerbCode, SetVerbCode, Eval, Notify, Read, Suspend, Resume, KillTask, QueuedTasks, TaskId, TicksLeft, Raise, SetTaskPerms, CallerPerms, Random, Time, ConnectedPlayers, BootPlayer, DumpDatabase, Shutdown}

-- the rows of the world's functions
abbrev pub world_rows : List (Text × Row)
world_rows = object_rows ++ (property_rows ++ (verb_rows ++ task_rows))

abbrev taking : List Sort → List Sort → (Scene → Caller → List Datum → NativeEffect) → Row
taking wanted further act = record { wanted = wanted; further = further; act = act }

abbrev pub row_of_function : WorldFunction → Row
row_of_function Valid = taking (an_object ∷ []) [] valid_row
row_of_function IsPlayer = taking (an_object ∷ []) [] is_player_row
row_of_function Parent = taking (an_object ∷ []) [] parent_row
row_of_function Children = taking (an_object ∷ []) [] children_row
row_of_function MaxObject = taking [] [] max_object_row
row_of_function Players = taking [] [] players_row
row_of_function Create = taking (an_object ∷ []) (an_object ∷ []) create_row
row_of_function Recycle = taking (an_object ∷ []) [] recycle_row
row_of_function Chparent = taking (an_object ∷ an_object ∷ []) [] chparent_row
row_of_function Move = taking (an_object ∷ an_object ∷ []) [] move_row
row_of_function SetPlayerFlag = taking (an_object ∷ any_value ∷ []) [] set_player_flag_row
row_of_function Properties = taking (an_object ∷ []) [] properties_row
row_of_function PropertyInfo = taking (an_object ∷ a_text ∷ []) [] property_info_row
row_of_function SetPropertyInfo = taking (an_object ∷ a_text ∷ owner_and_bits ∷ []) [] set_property_info_row
row_of_function AddProperty = taking (an_object ∷ a_text ∷ any_value ∷ owner_and_bits ∷ []) [] add_property_row
row_of_function DeleteProperty = taking (an_object ∷ a_text ∷ []) [] delete_property_row
row_of_function IsClearProperty = taking (an_object ∷ a_text ∷ []) [] is_clear_property_row
row_of_function ClearProperty = taking (an_object ∷ a_text ∷ []) [] clear_property_row
row_of_function Verbs = taking (an_object ∷ []) [] verbs_row
row_of_function VerbInfo = taking (an_object ∷ a_verb ∷ []) [] verb_info_row
row_of_function SetVerbInfo = taking (an_object ∷ a_verb ∷ owner_bits_names ∷ []) [] set_verb_info_row
row_of_function VerbArgs = taking (an_object ∷ a_verb ∷ []) [] verb_args_row
row_of_function SetVerbArgs = taking (an_object ∷ a_verb ∷ verb_specifier ∷ []) [] set_verb_args_row
row_of_function AddVerb = taking (an_object ∷ owner_bits_names ∷ verb_specifier ∷ []) [] add_verb_row
row_of_function DeleteVerb = taking (an_object ∷ a_verb ∷ []) [] delete_verb_row
row_of_function VerbCode = taking (an_object ∷ a_verb ∷ []) [] verb_code_row
row_of_function SetVerbCode = taking (an_object ∷ a_verb ∷ text_lines ∷ []) [] set_verb_code_row
row_of_function Eval = taking (a_text ∷ []) [] eval_row
row_of_function Notify = taking (an_object ∷ a_text ∷ []) [] notify_row
row_of_function Read = taking [] [] read_row
row_of_function Suspend = taking [] (an_integer ∷ []) suspend_row
row_of_function Resume = taking (an_integer ∷ []) (any_value ∷ []) resume_row
row_of_function KillTask = taking (an_integer ∷ []) [] kill_task_row
row_of_function QueuedTasks = taking [] [] queued_tasks_row
row_of_function TaskId = taking [] [] task_id_row
row_of_function TicksLeft = taking [] [] ticks_left_row
row_of_function Raise = taking (any_value ∷ []) (a_text ∷ any_value ∷ []) raise_row
row_of_function SetTaskPerms = taking (an_object ∷ []) [] set_task_perms_row
row_of_function CallerPerms = taking [] [] caller_perms_row
row_of_function Random = taking [] (an_integer ∷ []) random_row
row_of_function Time = taking [] [] time_row
row_of_function ConnectedPlayers = taking [] [] connected_players_row
row_of_function BootPlayer = taking (an_object ∷ []) [] boot_player_row
row_of_function DumpDatabase = taking [] [] dump_database_row
row_of_function Shutdown = taking [] [] shutdown_row

-- ---- what programs call them, in lower case, group by group

abbrev pub object_names : List (Text × WorldFunction)
object_names =
    (codes "valid", Valid) ∷ (codes "is_player", IsPlayer) ∷ (codes "parent", Parent) ∷ (codes "children", Children) ∷ (codes "max_object", MaxObject)
    ∷ (codes "players", Players) ∷ (codes "create", Create) ∷ (codes "recycle", Recycle) ∷ (codes "chparent", Chparent) ∷ (codes "move", Move)
    ∷ (codes "set_player_flag", SetPlayerFlag) ∷ []

abbrev pub property_names : List (Text × WorldFunction)
property_names =
    (codes "properties", Properties) ∷ (codes "property_info", PropertyInfo) ∷ (codes "set_property_info", SetPropertyInfo)
    ∷ (codes "add_property", AddProperty) ∷ (codes "delete_property", DeleteProperty) ∷ (codes "is_clear_property", IsClearProperty)
    ∷ (codes "clear_property", ClearProperty) ∷ []

abbrev pub verb_names : List (Text × WorldFunction)
verb_names =
    (codes "verbs", Verbs) ∷ (codes "verb_info", VerbInfo) ∷ (codes "set_verb_info", SetVerbInfo) ∷ (codes "verb_args", VerbArgs)
    ∷ (codes "set_verb_args", SetVerbArgs) ∷ (codes "add_verb", AddVerb) ∷ (codes "delete_verb", DeleteVerb) ∷ (codes "verb_code", VerbCode)
    ∷ (codes "set_verb_code", SetVerbCode) ∷ (codes "eval", Eval) ∷ []

abbrev pub task_names : List (Text × WorldFunction)
task_names =
    (codes "notify", Notify) ∷ (codes "read", Read) ∷ (codes "suspend", Suspend) ∷ (codes "resume", Resume) ∷ (codes "kill_task", KillTask)
    ∷ (codes "queued_tasks", QueuedTasks) ∷ (codes "task_id", TaskId) ∷ (codes "ticks_left", TicksLeft) ∷ (codes "raise", Raise)
    ∷ (codes "set_task_perms", SetTaskPerms) ∷ (codes "caller_perms", CallerPerms) ∷ (codes "random", Random) ∷ (codes "time", Time)
    ∷ (codes "connected_players", ConnectedPlayers) ∷ (codes "boot_player", BootPlayer) ∷ (codes "dump_database", DumpDatabase)
    ∷ (codes "shutdown", Shutdown) ∷ []

abbrev pub function_in : Text → List (Text × WorldFunction) → Option WorldFunction
function_in t [] = None
function_in t (n ∷ ns) = if same_text t n.0 then Some n.1 else function_in t ns

-- ---- what a call of a function does; one of no name raises E_INVARG

abbrev pub call_of : Scene → Caller → Option Builtin → List Datum → NativeEffect
call_of s c None args = refuses s invalid_argument
call_of s c (Some (OfValues f)) args = answers s (call_value (function_of f) args)
call_of s c (Some (OfWorld f)) args = by_row s c args (row_of_function f)

-- ---- arguments: where they are right the row says what a call does, and else it raises this error

abbrev pub AreChecked : {A : Type 0} → WorldFunction → List Datum → Result A MooError → Type 0
AreChecked f args (Ok done) = (s : Scene) (c : Caller) → by_row s c args (row_of_function f) ≡ (row_of_function f).act s c args
AreChecked f args (Err e) = (s : Scene) (c : Caller) → by_row s c args (row_of_function f) ≡ refuses s (code_of e)
