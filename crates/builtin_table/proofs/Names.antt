-- What a name means among the names of all groups.
use Rattle.std.proofs.Common.{◌≡◌, List, [], ◌∷◌, ◌++◌, map, refl, ap, sym, ◌∙◌}
use Rattle.std.specs.Prelude.{Bool, true, false, if◌then◌else◌, Option, Some, None, option_map}
use Rattle.spec_value.specs.Datum.{Text, same_text}
use Rattle.spec_world.proofs.SlotTables.{text_turned}
use Rattle.spec_moo.specs.Properties.{row_of}
use Rattle.spec_moo.specs.Natives.Rows.{Row}
use Rattle.builtin_table.specs.Functions.{world_rows, row_of_function, function_in, object_names, property_names, verb_names, task_names}
use Rattle.builtin_table.specs.declared.world_function.WorldFunction.{WorldFunction}

abbrev Names : Type 0
Names = List (Text × WorldFunction)

abbrev rows : Names → List (Text × Row)
rows ns = map (λ n. (n.0, row_of_function n.1)) ns

mapped : (b : Bool) (f : WorldFunction) (o : Option WorldFunction)
    → option_map row_of_function (if b then Some f else o) ≡ (if b then Some (row_of_function f) else option_map row_of_function o)
mapped true f o = refl
mapped false f o = refl

named_row : (ns : Names) (name : Text) → option_map row_of_function (function_in name ns) ≡ row_of (rows ns) name
unfolding row_of
named_row [] name = refl
named_row (n ∷ ns) name =
    mapped (same_text name n.0) n.1 (function_in name ns)
    ∙ ap (λ o. if same_text name n.0 then Some (row_of_function n.1) else o) (named_row ns name)
    ∙ ap (λ b. if b then Some (row_of_function n.1) else row_of (rows ns) name) (text_turned name n.0)

-- ---- names of two lists

abbrev first : Option WorldFunction → Option WorldFunction → Option WorldFunction
first (Some f) o = Some f
first None o = o

chosen : (b : Bool) (f : WorldFunction) (o p : Option WorldFunction) → (if b then Some f else first o p) ≡ first (if b then Some f else o) p
chosen true f o p = refl
chosen false f o p = refl

in_both : (ns ms : Names) (name : Text) → function_in name (ns ++ ms) ≡ first (function_in name ns) (function_in name ms)
in_both [] ms name = refl
in_both (n ∷ ns) ms name =
    ap (λ o. if same_text name n.0 then Some n.1 else o) (in_both ns ms name) ∙ chosen (same_text name n.0) n.1 (function_in name ns) (function_in name ms)

before : (ns ms : Names) (name : Text) (f : WorldFunction) → Some f ≡ function_in name ns → Some f ≡ function_in name (ns ++ ms)
before ns ms name f h = ap (λ o. first o (function_in name ms)) h ∙ sym (in_both ns ms name)

behind : (ns ms : Names) (name : Text) (o : Option WorldFunction) → None ≡ function_in name ns → o ≡ function_in name ms → o ≡ function_in name (ns ++ ms)
behind ns ms name o h k = k ∙ ap (λ p. first p (function_in name ms)) h ∙ sym (in_both ns ms name)

-- ---- of all groups

abbrev from_verbs : Names
from_verbs = verb_names ++ task_names

abbrev from_properties : Names
from_properties = property_names ++ from_verbs

abbrev world_names : Names
world_names = object_names ++ from_properties

world_row : (name : Text) (o : Option WorldFunction) → o ≡ function_in name world_names → option_map row_of_function o ≡ row_of world_rows name
world_row name o h = ap (option_map row_of_function) h ∙ named_row world_names name

pub of_objects : (name : Text) (f : WorldFunction) → Some f ≡ function_in name object_names → Some (row_of_function f) ≡ row_of world_rows name
of_objects name f h = world_row name (Some f) (before object_names from_properties name f h)

pub of_properties : (name : Text) (f : WorldFunction) → None ≡ function_in name object_names → Some f ≡ function_in name property_names
    → Some (row_of_function f) ≡ row_of world_rows name
of_properties name f g h = world_row name (Some f) (behind object_names from_properties name (Some f) g (before property_names from_verbs name f h))

pub of_verbs : (name : Text) (f : WorldFunction) → None ≡ function_in name object_names → None ≡ function_in name property_names
    → Some f ≡ function_in name verb_names → Some (row_of_function f) ≡ row_of world_rows name
of_verbs name f g h k =
    world_row name (Some f) (behind object_names from_properties name (Some f) g (behind property_names from_verbs name (Some f) h (before verb_names task_names name f k)))

pub of_tasks : (name : Text) (o : Option WorldFunction) → None ≡ function_in name object_names → None ≡ function_in name property_names
    → None ≡ function_in name verb_names → o ≡ function_in name task_names → option_map row_of_function o ≡ row_of world_rows name
of_tasks name o g h k l =
    world_row name o (behind object_names from_properties name o g (behind property_names from_verbs name o h (behind verb_names task_names name o k l)))
