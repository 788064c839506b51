-- Variables that are copied for another program.
use Rattle.std.specs.Prelude.{◌≡◌, ◌+◌, ◌⊎◌, ℕ, List, [], Option, Some, None, option_map, if◌then◌else◌, false}
use Rattle.std.specs.Borrow.{Bor}
use Rattle.std.specs.BTreeMap.{BTreeMap, get_by}
use Rattle.std.specs.Cmp.Lexicographic.{slice_cmp}
use Rattle.std.specs.Ordering.{nat_cmp}
use Rattle.spec_value.specs.Datum.{Datum, Text}
use Rattle.spec_value.specs.Table.{Named, named}
use Rattle.spec_program.specs.Tree.{Program}
use Rattle.spec_world.specs.WellFormed.{has_name}
use Rattle.moo_code.specs.Machine.{Kept}
use Rattle.moo_code.specs.Slots.{slot_of}

-- the verb that a fork starts: for the same call, with the same variables, at the beginning of its body
abbrev pub forked_kept : Kept → Program → Kept
forked_kept k body = record k { program = body; place = 0; operands = [] }

-- of those that are not among the names, copies have the values of a table; they lack some at most that are still to come
pub record HasCopied (names : List Text) (table : Named Datum) (copies : List (Text × Datum)) (rest : List Text) : Type 0 where
  pub sound : (x : Text) → has_name names x ≡ false → (named copies x ≡ None) ⊎ (named copies x ≡ named table x)
  pub complete : (x : Text) → has_name names x ≡ false → has_name rest x ≡ false → named copies x ≡ named table x

-- ---- looked up by their names

-- the slot of a name, where these have theirs from a place on
abbrev pub slot_from : ℕ → List Text → Text → Option ℕ
slot_from n names x = if has_name names x then Some (n + slot_of names x) else None

abbrev pub slot_at : BTreeMap (Bor Text) ℕ → Text → Option ℕ
slot_at m x = get_by (λ k. slice_cmp nat_cmp x k.now) m

-- a map that finds the slot of each of a program's own names, and of no other
abbrev pub HasSlots : List Text → BTreeMap (Bor Text) ℕ → Type 0
HasSlots own m = (x : Text) → slot_at m x ≡ slot_from 17 own x

abbrev pub value_at : BTreeMap (Bor Text) (Bor Datum) → Text → Option Datum
value_at m x = option_map (λ v. v.now) (get_by (λ k. slice_cmp nat_cmp x k.now) m)

-- one that finds the value of each of these variables
abbrev pub HasValues : List (Text × Datum) → BTreeMap (Bor Text) (Bor Datum) → Type 0
HasValues es m = (x : Text) → value_at m x ≡ named es x
