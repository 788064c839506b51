-- Variables are found by their names.
use Rattle.std.proofs.Common.{◌≡◌, ◌∙◌, ap, sym, ℕ, zero, suc, ◌<◌, ◌≤◌, Bool, true, false, cond, List, [], ◌∷◌, length, map, drop, get_or, Option, Some, None, arith}
use Rattle.std.specs.Prelude.{slice_get, if◌then◌else◌}
use Rattle.std.proofs.lemmas.Bool.{lt-ltb, le-ltb}
use Rattle.spec_value.specs.Datum.{Datum, Text, same_text}
use Rattle.spec_value.specs.Table.{named}
use Rattle.spec_program.specs.Tree.{Program}
use Rattle.spec_world.specs.WellFormed.{has_name}
use Rattle.spec_world.proofs.SlotTables.{sought}
use Rattle.moo_code.specs.Names.{names_of}
use Rattle.moo_code.specs.Slots.{others, variables_with, in_slot, slot_of}
use Rattle.moo_code.proofs.Slots.{name_has_slot, others_have_none, others_named, others_stay, slot_is_variable}
use Rattle.moo_code.proofs.ProgramNames.{names_are_once}
use Rattle.moo_program.proofs.Slots.{has_is}
use Rattle.moo_task.specs.Variables.{variable_of}
use Rattle.moo_task.specs.declared.variables.Variable.{Variable}

-- ---- in a list

at_first : (v : Variable) (vs : List Variable) (x : Text) (b : Bool) → same_text x v.name ≡ b
    → named (map variable_of (v ∷ vs)) x ≡ cond b (Some v.value) (named (map variable_of vs) x)
at_first v vs x b is = ap (λ k. cond k (Some v.value) (named (map variable_of vs) x)) (sought x v.name ∙ is)

pub found_at : (vs : List Variable) (i : ℕ) (v : Variable) (x : Text) (b : Bool) → i < length vs → v ≡ get_or vs i v → same_text x v.name ≡ b
    → named (map variable_of (drop i vs)) x ≡ cond b (Some v.value) (named (map variable_of (drop (suc i) vs)) x)
found_at [] i v x b small is same = absurd (omega arith)
found_at (u ∷ vs) zero v x b small is same =
    at_first u vs x b (ap (λ (w : Variable). same_text x w.name) (sym is) ∙ same) ∙ ap (λ (w : Variable). cond b (Some w.value) (named (map variable_of vs) x)) (sym is)
found_at (u ∷ vs) (suc i) v x b small is same = found_at vs i v x b (omega arith) is same

-- ---- in a verb

has_slot : (names : List Text) (x : Text) (slot : ℕ) → slot ≡ slot_of names x → slot < length names → has_name names x ≡ true
has_slot names x slot is small = has_is names x ∙ lt-ltb (slot_of names x) (length names) (omega (arith, is, small))

has_none : (names : List Text) (x : Text) (slot : ℕ) → slot ≡ slot_of names x → length names ≤ slot → has_name names x ≡ false
has_none names x slot is great = has_is names x ∙ le-ltb (slot_of names x) (length names) (omega (arith, is, great))

pub held_in_slot : (p : Program) (further : List (Text × Datum)) (slots : List (Option Datum)) (x : Text) (slot : ℕ)
    → slot ≡ slot_of (names_of p) x → slot < length (names_of p) → in_slot (slice_get slots slot) ≡ named (variables_with p further slots) x
held_in_slot p further slots x slot is small =
    let names : List Text = names_of p in
    let there : slice_get names (slot_of names x) ≡ Some x = name_has_slot names x (has_slot names x slot is small) in
    sym (slot_is_variable (others names further) names slots slot x (others_have_none names further) (names_are_once p) (ap (slice_get names) is ∙ there))

pub held_further : (p : Program) (further : List (Text × Datum)) (slots : List (Option Datum)) (x : Text) (slot : ℕ)
    → slot ≡ slot_of (names_of p) x → length (names_of p) ≤ slot → named further x ≡ named (variables_with p further slots) x
held_further p further slots x slot is great =
    let names : List Text = names_of p in
    let none : has_name names x ≡ false = has_none names x slot is great in
    sym (others_stay (others names further) names slots x none ∙ others_named names further x ∙ ap (λ b. if b then None else named further x) none)
