-- What a request stands for: a function, and its arguments.
use Rattle.std.specs.Prelude.{List, [], ◌∷◌}
use Rattle.spec_value.specs.Datum.{Datum, integer, object, text, list, of_list}
use Rattle.spec_moo.specs.Scene.{Scene}
use Rattle.spec_moo.specs.NativeEffect.{Caller, NativeEffect}
use Rattle.builtin_table.specs.Functions.{row_of_function}
use Rattle.builtin_table.specs.declared.world_function.WorldFunction.{WorldFunction}
use Rattle.builtin_table.specs.declared.world_function.WorldFunction.TheVariants as of
use Rattle.builtins_view.specs.BuiltinsChangeListed.{owner_and_bits, info_given, words_given}
use Rattle.builtins_view.specs.declared.builtin_requests.asking.Asking.{Asking}
use Rattle.builtins_view.specs.declared.builtin_requests.asking.Asking.TheVariants.{Valid, IsPlayer, Parent, Children, MaxObject, Players, Properties, PropertyInfo, IsClearProperty, Verbs, VerbInfo, VerbArgs, VerbCode, QueuedTasks, ConnectedPlayers}
use Rattle.builtins_view.specs.declared.builtin_requests.changing.Changing.{Changing}
use Rattle.builtins_view.specs.declared.builtin_requests.changing.Changing.TheVariants.{Chparent, SetPropertyInfo, AddProperty, DeleteProperty, ClearProperty, SetVerbInfo, SetVerbArgs, AddVerb, DeleteVerb, SetVerbCode, Shutdown}
use Rattle.builtins_view.specs.declared.builtin_requests.own.Own.{Own}
use Rattle.builtins_view.specs.declared.builtin_requests.own.Own.TheVariants.{Suspend, SuspendFor, TaskId, TicksLeft, Raise, RaiseTold, RaiseWith, CallerPerms, Random, RandomTo, Time}
use Rattle.builtins_view.specs.declared.builtin_requests.acting.Acting.{Acting}
use Rattle.builtins_view.specs.declared.builtin_requests.acting.Acting.TheVariants.{SetPlayerFlag, Notify, Read, Resume, ResumeWith, KillTask, SetTaskPerms, BootPlayer, DumpDatabase}
use Rattle.builtins_view.specs.declared.builtin_requests.calling.Calling.{Calling}
use Rattle.builtins_view.specs.declared.builtin_requests.calling.Calling.TheVariants.{Create, CreateFor, Recycle, Move, Eval}
use Rattle.builtins_view.specs.declared.builtin_requests.request.Request.{Request}
use Rattle.builtins_view.specs.declared.builtin_requests.request.Request.TheVariants.{Asks, Changes, OfItself, Acts, Calls}

abbrev pub asking_of : Asking → WorldFunction × List Datum
asking_of (Valid o) = (of.Valid, object o ∷ [])
asking_of (IsPlayer o) = (of.IsPlayer, object o ∷ [])
asking_of (Parent o) = (of.Parent, object o ∷ [])
asking_of (Children o) = (of.Children, object o ∷ [])
asking_of MaxObject = (of.MaxObject, [])
asking_of Players = (of.Players, [])
asking_of (Properties o) = (of.Properties, object o ∷ [])
asking_of (PropertyInfo o p) = (of.PropertyInfo, object o ∷ text p ∷ [])
asking_of (IsClearProperty o p) = (of.IsClearProperty, object o ∷ text p ∷ [])
asking_of (Verbs o) = (of.Verbs, object o ∷ [])
asking_of (VerbInfo o d) = (of.VerbInfo, object o ∷ d ∷ [])
asking_of (VerbArgs o d) = (of.VerbArgs, object o ∷ d ∷ [])
asking_of (VerbCode o d) = (of.VerbCode, object o ∷ d ∷ [])
asking_of QueuedTasks = (of.QueuedTasks, [])
asking_of ConnectedPlayers = (of.ConnectedPlayers, [])

abbrev pub changing_of : Changing → WorldFunction × List Datum
changing_of (Chparent o p) = (of.Chparent, object o ∷ object p ∷ [])
changing_of (SetPropertyInfo o p owner b) = (of.SetPropertyInfo, object o ∷ text p ∷ owner_and_bits owner b ∷ [])
changing_of (AddProperty o p v owner b) = (of.AddProperty, object o ∷ text p ∷ v ∷ owner_and_bits owner b ∷ [])
changing_of (DeleteProperty o p) = (of.DeleteProperty, object o ∷ text p ∷ [])
changing_of (ClearProperty o p) = (of.ClearProperty, object o ∷ text p ∷ [])
changing_of (SetVerbInfo o d i) = (of.SetVerbInfo, object o ∷ d ∷ info_given i ∷ [])
changing_of (SetVerbArgs o d x) = (of.SetVerbArgs, object o ∷ d ∷ words_given x ∷ [])
changing_of (AddVerb o i x) = (of.AddVerb, object o ∷ info_given i ∷ words_given x ∷ [])
changing_of (DeleteVerb o d) = (of.DeleteVerb, object o ∷ d ∷ [])
changing_of (SetVerbCode o d lines) = (of.SetVerbCode, object o ∷ d ∷ list (of_list lines.items) ∷ [])
changing_of Shutdown = (of.Shutdown, [])

abbrev pub own_of : Own → WorldFunction × List Datum
own_of Suspend = (of.Suspend, [])
own_of (SuspendFor n) = (of.Suspend, integer n ∷ [])
own_of TaskId = (of.TaskId, [])
own_of TicksLeft = (of.TicksLeft, [])
own_of (Raise v) = (of.Raise, v ∷ [])
own_of (RaiseTold v m) = (of.Raise, v ∷ text m ∷ [])
own_of (RaiseWith v m x) = (of.Raise, v ∷ text m ∷ x ∷ [])
own_of CallerPerms = (of.CallerPerms, [])
own_of Random = (of.Random, [])
own_of (RandomTo n) = (of.Random, integer n ∷ [])
own_of Time = (of.Time, [])

abbrev pub acting_of : Acting → WorldFunction × List Datum
acting_of (SetPlayerFlag o v) = (of.SetPlayerFlag, object o ∷ v ∷ [])
acting_of (Notify o t) = (of.Notify, object o ∷ text t ∷ [])
acting_of Read = (of.Read, [])
acting_of (Resume i) = (of.Resume, integer i ∷ [])
acting_of (ResumeWith i v) = (of.Resume, integer i ∷ v ∷ [])
acting_of (KillTask i) = (of.KillTask, integer i ∷ [])
acting_of (SetTaskPerms o) = (of.SetTaskPerms, object o ∷ [])
acting_of (BootPlayer o) = (of.BootPlayer, object o ∷ [])
acting_of DumpDatabase = (of.DumpDatabase, [])

abbrev pub calling_of : Calling → WorldFunction × List Datum
calling_of (Create p) = (of.Create, object p ∷ [])
calling_of (CreateFor p owner) = (of.Create, object p ∷ object owner ∷ [])
calling_of (Recycle o) = (of.Recycle, object o ∷ [])
calling_of (Move o place) = (of.Move, object o ∷ object place ∷ [])
calling_of (Eval t) = (of.Eval, text t ∷ [])

abbrev pub request_of : Request → WorldFunction × List Datum
request_of (Asks q) = asking_of q
request_of (Changes q) = changing_of q
request_of (OfItself q) = own_of q
request_of (Acts q) = acting_of q
request_of (Calls q) = calling_of q

-- what a function says of these arguments
abbrev pub said_of : WorldFunction × List Datum → Scene → Caller → NativeEffect
said_of r s c = (row_of_function r.0).act s c r.1
