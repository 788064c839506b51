-- What a name means among the rows of all groups.
use Rattle.std.proofs.Common.{◌≡◌, List, [], ◌∷◌, ◌++◌, refl, ap, sym, ◌∙◌}
use Rattle.std.specs.Prelude.{Bool, true, false, if◌then◌else◌, Option, Some, None, option_map}
use Rattle.spec_value.specs.Datum.{Datum, Text, same_text, invalid_argument}
use Rattle.spec_value.specs.PureBuiltins.{PureFunction as PureFunctionOf, call_value}
use Rattle.spec_world.proofs.SlotTables.{text_turned}
use Rattle.spec_moo.specs.Properties.{row_of}
use Rattle.spec_moo.specs.Scene.{Scene}
use Rattle.spec_moo.specs.NativeEffect.{Caller, NativeEffect, answers, refuses}
use Rattle.spec_moo.specs.Natives.{Group, native, in_groups, or_later}
use Rattle.spec_moo.specs.Natives.Rows.{Row, by_row}
use Rattle.spec_moo.specs.Natives.Values.{values, value_rows}
use Rattle.spec_moo.specs.Natives.Objects.{objects, object_rows}
use Rattle.spec_moo.specs.Natives.Properties.{properties, property_rows}
use Rattle.spec_moo.specs.Natives.Verbs.{verbs, verb_rows}
use Rattle.spec_moo.specs.Natives.Tasks.{tasks, task_rows}
use Rattle.builtins_value.specs.Functions.{function_of, names, named_in}
use Rattle.builtins_value.specs.declared.function.PureFunction.{PureFunction}
use Rattle.builtin_table.specs.Functions.{world_rows, row_of_function, call_of}
use Rattle.builtin_table.specs.declared.function.Builtin.TheVariants.{OfValues, OfWorld}
use Rattle.builtin_table.specs.declared.world_function.WorldFunction.{WorldFunction}

-- ---- the rows of two lists

abbrev first : {X : Type 0} → Option X → Option X → Option X
first (Some x) o = Some x
first None o = o

first_alone : {X : Type 0} (o : Option X) → first o None ≡ o
first_alone None = refl
first_alone (Some x) = refl

chosen : {X : Type 0} (b : Bool) (x : X) (o p : Option X) → (if b then Some x else first o p) ≡ first (if b then Some x else o) p
chosen true x o p = refl
chosen false x o p = refl

row_in_both : {X : Type 0} (rs ss : List (Text × X)) (name : Text) → row_of (rs ++ ss) name ≡ first (row_of rs name) (row_of ss name)
unfolding row_of
row_in_both [] ss name = refl
row_in_both (r ∷ rs) ss name =
    ap (λ o. if same_text r.0 name then Some r.1 else o) (row_in_both rs ss name) ∙ chosen (same_text r.0 name) r.1 (row_of rs name) (row_of ss name)

-- ---- groups, one after the other

abbrev acted : Scene → Caller → List Datum → Option Row → NativeEffect
acted s c args None = refuses s invalid_argument
acted s c args (Some r) = by_row s c args r

later : (s : Scene) (c : Caller) (args : List Datum) (name : Text) (k : Text → NativeEffect) (o p : Option Row) → k name ≡ acted s c args p → or_later (option_map (by_row s c args) o) k name ≡ acted s c args (first o p)
later s c args name k (Some r) p h = refl
later s c args name k None p h = h

tasks_said : (s : Scene) (c : Caller) (args : List Datum) (name : Text) → in_groups (tasks ∷ []) s c name args ≡ acted s c args (row_of task_rows name)
tasks_said s c args name =
    later s c args name (λ x. in_groups [] s c x args) (row_of task_rows name) None refl ∙ ap (acted s c args) (first_alone (row_of task_rows name))

verbs_said : (s : Scene) (c : Caller) (args : List Datum) (name : Text) → in_groups (verbs ∷ tasks ∷ []) s c name args ≡ acted s c args (row_of (verb_rows ++ task_rows) name)
verbs_said s c args name =
    later s c args name (λ x. in_groups (tasks ∷ []) s c x args) (row_of verb_rows name) (row_of task_rows name) (tasks_said s c args name)
    ∙ ap (acted s c args) (sym (row_in_both verb_rows task_rows name))

properties_said : (s : Scene) (c : Caller) (args : List Datum) (name : Text) → in_groups (properties ∷ verbs ∷ tasks ∷ []) s c name args ≡ acted s c args (row_of (property_rows ++ (verb_rows ++ task_rows)) name)
properties_said s c args name =
    later s c args name (λ x. in_groups (verbs ∷ tasks ∷ []) s c x args) (row_of property_rows name) (row_of (verb_rows ++ task_rows) name) (verbs_said s c args name)
    ∙ ap (acted s c args) (sym (row_in_both property_rows (verb_rows ++ task_rows) name))

world_said : (s : Scene) (c : Caller) (args : List Datum) (name : Text) → in_groups (objects ∷ properties ∷ verbs ∷ tasks ∷ []) s c name args ≡ acted s c args (row_of world_rows name)
world_said s c args name =
    later s c args name (λ x. in_groups (properties ∷ verbs ∷ tasks ∷ []) s c x args) (row_of object_rows name) (row_of (property_rows ++ (verb_rows ++ task_rows)) name) (properties_said s c args name)
    ∙ ap (acted s c args) (sym (row_in_both object_rows (property_rows ++ (verb_rows ++ task_rows)) name))

-- ---- the functions of values

same_rows : names ≡ value_rows
same_rows = refl

named_row : (rs : List (Text × PureFunctionOf)) (name : Text) → named_in name rs ≡ row_of rs name
unfolding row_of
named_row [] name = refl
named_row (r ∷ rs) name =
    ap (λ o. if same_text name r.0 then Some r.1 else o) (named_row rs name) ∙ ap (λ b. if b then Some r.1 else row_of rs name) (text_turned name r.0)

value_row : (name : Text) → named_in name names ≡ row_of value_rows name
value_row name = named_row names name

-- ---- what a name calls

values_said : (s : Scene) (c : Caller) (name : Text) (args : List Datum) (o : Option PureFunctionOf) → row_of value_rows name ≡ o
    → native s c name args
    ≡ or_later (option_map (λ f. answers s (call_value f args)) o) (λ x. in_groups (objects ∷ properties ∷ verbs ∷ tasks ∷ []) s c x args) name
unfolding native
values_said s c name args o h = ap (λ r. or_later (option_map (λ f. answers s (call_value f args)) r) (λ x. in_groups (objects ∷ properties ∷ verbs ∷ tasks ∷ []) s c x args) name) h

pub value_called : (name : Text) (f : PureFunction) → Some (function_of f) ≡ named_in name names → (s : Scene) (c : Caller) (args : List Datum) → native s c name args ≡ call_of s c (Some (OfValues f)) args
value_called name f h s c args = values_said s c name args (Some (function_of f)) (sym (value_row name) ∙ sym h)

pub world_called : (name : Text) (g : WorldFunction) → None ≡ named_in name names → Some (row_of_function g) ≡ row_of world_rows name → (s : Scene) (c : Caller) (args : List Datum) → native s c name args ≡ call_of s c (Some (OfWorld g)) args
world_called name g h k s c args =
    values_said s c name args None (sym (value_row name) ∙ sym h) ∙ world_said s c args name ∙ ap (acted s c args) (sym k)

pub none_called : (name : Text) → None ≡ named_in name names → None ≡ row_of world_rows name → (s : Scene) (c : Caller) (args : List Datum) → native s c name args ≡ call_of s c None args
none_called name h k s c args =
    values_said s c name args None (sym (value_row name) ∙ sym h) ∙ world_said s c args name ∙ ap (acted s c args) (sym k)
