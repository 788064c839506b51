-- When two verbs that wait are the same.
use Rattle.std.specs.Prelude.{◌≡◌, ◌<◌, ℕ, List, Option, Some, slice_get, false}
use Rattle.spec_value.specs.Datum.{Datum, Text}
use Rattle.spec_value.specs.Table.{named}
use Rattle.spec_world.specs.WellFormed.{has_name}
use Rattle.moo_code.specs.Machine.{Kept}
use Rattle.moo_code.specs.Slots.{in_slot}

-- each of so many slots has the same value, or none; a slot that is not there has none
abbrev pub SlotsAgree : ℕ → List (Option Datum) → List (Option Datum) → Type 0
SlotsAgree count xs ys = (i : ℕ) → i < count → in_slot (slice_get xs i) ≡ in_slot (slice_get ys i)

-- a variable has the same value among further ones, or none, unless a program names it
abbrev pub AgreeAt : List Text → List (Text × Datum) → List (Text × Datum) → Text → Type 0
AgreeAt names xs ys x = has_name names x ≡ false → named xs x ≡ named ys x

-- so has each
abbrev pub FurtherAgree : List Text → List (Text × Datum) → List (Text × Datum) → Type 0
FurtherAgree names xs ys = (x : Text) → AgreeAt names xs ys x

-- so has each of the first ones of a list
abbrev pub AgreeOn : List Text → List (Text × Datum) → List (Text × Datum) → ℕ → List (Text × Datum) → Type 0
AgreeOn names xs ys count es = (i : ℕ) (e : Text × Datum) → i < count → slice_get es i ≡ Some e → AgreeAt names xs ys e.0

-- all but their variables
pub record StandAlike (a b : Kept) : Type 0 where
  pub call : a.call ≡ b.call
  pub start : a.start ≡ b.start
  pub program : a.program ≡ b.program
  pub place : a.place ≡ b.place
  pub operands : a.operands ≡ b.operands
