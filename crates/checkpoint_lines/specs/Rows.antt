-- A line's fields, and what is left of a text, as lines.
use Rattle.std.specs.Prelude.{◌≡◌, ◌<◌, ◌^◌, length, List, map, Result}
use Rattle.spec_value.specs.Datum.{Text}
use Rattle.spec_world.specs.Checkpoint.{with_line_ends}
use Rattle.checkpoint_lines.specs.declared.fault.DecodeError.{DecodeError}
use Rattle.checkpoint_lines.specs.Gives.{Gives}
use Rattle.checkpoint_lines.specs.declared.row.Row.{Row}
use Rattle.checkpoint_lines.specs.declared.lines.Lines.{Lines}

abbrev pub row_fields : Row → List Text
row_fields r = map (λ b. b.now) r.fields.items

-- these lines are left, and no more than a machine can hold
abbrev pub Left : Lines → List Text → Type 0
Left l ts = (l.left.now ≡ with_line_ends ts) × (length (with_line_ends ts) < 2 ^ 63)

-- what is read, and these lines are left behind it
abbrev pub Reads : {A : Type 0} → Result A DecodeError → Lines → List Text → (A → Type 0) → Type 0
Reads r l ts P = Gives r (λ x. P x × Left l ts)
