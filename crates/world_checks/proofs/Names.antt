-- The variables of a verb in slots, over further ones: their names, and their order.
use Rattle.std.proofs.Common.{◌≡◌, Bool, true, false, ◌||◌, ◌&&◌, List, [], ◌∷◌, map, Option, Some, None, IsTrue, refl, sym, ap, ◌∙◌, subst, is_none, is_some, if◌then◌else◌}
use Rattle.std.specs.List.{list_all}
use Rattle.std.proofs.lemmas.List.Folds.{list_all-append, list_all-map}
use Rattle.spec_value.specs.Datum.{Datum, Text}
use Rattle.spec_value.specs.Table.{Named, named, is_named}
use Rattle.spec_value.proofs.Entries.{first_holds, second_holds, both_hold}
use Rattle.spec_program.specs.Tree.{Program}
use Rattle.spec_world.specs.WellFormed.{is_variable, has_name}
use Rattle.spec_world.proofs.Households.{all_named as all_of, of_named, same_tests}
use Rattle.spec_world.proofs.SlotTables.{key_there}
use Rattle.moo_code.specs.Names.{starting_names, names_of}
use Rattle.moo_code.specs.Slots.{others, variables_with}
use Rattle.moo_code.proofs.Slots.{variables_sorted, others_sorted, others_stay, others_named}
use Rattle.moo_program.specs.Names.{known}
use Rattle.world_checks.specs.Naming.{name_fits}

-- ---- names that have values

no_value : (vars : Named Datum) (x : Text) (b : Bool) → IsTrue (b || is_none (named vars x)) → IsTrue (is_some (named vars x)) → IsTrue b
no_value vars x true h k = refl
no_value vars x false h k = go (named vars x) h k
  where
    go : (o : Option Datum) → IsTrue (is_none o) → IsTrue (is_some o) → IsTrue false
    go None h k = k
    go (Some v) h k = h

-- each name that has a value fits
each_fits : (vars : Named Datum) → ((x : Text) → IsTrue (is_some (named vars x)) → IsTrue (is_variable x)) → IsTrue (list_all (λ e. is_variable e.0) vars)
each_fits vars h =
    sym (list_all-map is_variable (λ e. e.0) vars)
    ∙ all_of is_variable (map (λ e. e.0) vars) (λ x there. h x (key_there vars x ∙ there))

-- and the other way round
name_found : (vars : Named Datum) → IsTrue (list_all (λ e. is_variable e.0) vars) → (x : Text) → IsTrue (name_fits vars x)
name_found vars h x = go (named vars x) refl
  where
    first : (b : Bool) → IsTrue b → (o : Option Datum) → IsTrue (b || is_none o)
    first true h o = refl
    first false h o = cc

    second : (b : Bool) (o : Option Datum) → o ≡ None → IsTrue (b || is_none o)
    second true o e = refl
    second false o e = ap is_none e

    go : (o : Option Datum) → named vars x ≡ o → IsTrue (name_fits vars x)
    go None e = second (is_variable x) (named vars x) e
    go (Some v) e =
        let there : IsTrue (has_name (map (λ d. d.0) vars) x) = sym (key_there vars x) ∙ ap is_some e in
        first (is_variable x) (of_named is_variable (map (λ d. d.0) vars) (list_all-map is_variable (λ d. d.0) vars ∙ h) x there) (named vars x)

names_found : (vars : Named Datum) → IsTrue (list_all (λ e. is_variable e.0) vars) → (names : List Text) → IsTrue (list_all (name_fits vars) names)
names_found vars h [] = refl
names_found vars h (x ∷ names) = both_hold (name_fits vars x) _ (name_found vars h x) (names_found vars h names)

further_found : (vars : Named Datum) → IsTrue (list_all (λ e. is_variable e.0) vars) → (further : List (Text × Datum)) → IsTrue (list_all (λ e. name_fits vars e.0) further)
further_found vars h [] = refl
further_found vars h (e ∷ further) = both_hold (name_fits vars e.0) _ (name_found vars h e.0) (further_found vars h further)

-- ---- the names of a program, and further ones

starting_named : (vars : Named Datum) → IsTrue (list_all (name_fits vars) starting_names)
starting_named vars = refl

known_named : (vars : Named Datum) (own : List Text) → IsTrue (list_all (name_fits vars) own) → IsTrue (list_all (name_fits vars) (known own))
unfolding known
known_named vars own h =
    list_all-append (name_fits vars) starting_names own
    ∙ both_hold (list_all (name_fits vars) starting_names) (list_all (name_fits vars) own) (starting_named vars) h

all_named : (p : Program) (own : List Text) (further : List (Text × Datum)) (slots : List (Option Datum)) → known own ≡ names_of p
    → IsTrue (list_all (name_fits (variables_with p further slots)) own) → IsTrue (list_all (λ e. name_fits (variables_with p further slots) e.0) further)
    → IsTrue (list_all (λ e. is_variable e.0) (variables_with p further slots))
all_named p own further slots e n h = each_fits (variables_with p further slots) (λ x is. no_value (variables_with p further slots) x (is_variable x) (fits x is (has_name (names_of p) x) refl) is)
  where
    those : IsTrue (list_all (name_fits (variables_with p further slots)) (names_of p))
    those = subst (λ names. IsTrue (list_all (name_fits (variables_with p further slots)) names)) e (known_named (variables_with p further slots) own n)

    fits : (x : Text) → IsTrue (is_some (named (variables_with p further slots) x)) → (b : Bool) → has_name (names_of p) x ≡ b → IsTrue (name_fits (variables_with p further slots) x)
    fits x is true k = of_named (name_fits (variables_with p further slots)) (names_of p) those x k
    fits x is false k =
        let over : named (variables_with p further slots) x ≡ named (others (names_of p) further) x = others_stay (others (names_of p) further) (names_of p) slots x k in
        let beside : named (others (names_of p) further) x ≡ named further x = others_named (names_of p) further x ∙ ap (λ c. if c then None else named further x) k in
        let there : IsTrue (has_name (map (λ d. d.0) further) x) = sym (key_there further x) ∙ ap is_some (sym (over ∙ beside)) ∙ is in
        of_named (name_fits (variables_with p further slots)) (map (λ d. d.0) further)
        (list_all-map (name_fits (variables_with p further slots)) (λ d. d.0) further ∙ h) x there

-- both together
pub named_so : (p : Program) (own : List Text) (further : List (Text × Datum)) (slots : List (Option Datum)) → known own ≡ names_of p
    → list_all (λ e. is_variable e.0) (variables_with p further slots)
    ≡ (list_all (name_fits (variables_with p further slots)) own && list_all (λ e. name_fits (variables_with p further slots) e.0) further)
named_so p own further slots e =
    same_tests _ _
    (λ h. both_hold (list_all (name_fits (variables_with p further slots)) own) _ (names_found (variables_with p further slots) h own) (further_found (variables_with p further slots) h further))
    (λ h. all_named p own further slots e (first_holds (list_all (name_fits (variables_with p further slots)) own) _ h)
    (second_holds (list_all (name_fits (variables_with p further slots)) own) _ h))

pub all_sorted : (p : Program) (further : List (Text × Datum)) (slots : List (Option Datum)) → IsTrue (is_named (variables_with p further slots))
all_sorted p further slots = variables_sorted (others (names_of p) further) (names_of p) slots (others_sorted (names_of p) further)
