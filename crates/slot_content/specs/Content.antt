-- What a slot holds.
use Rattle.std.specs.Prelude.{◌≡◌, ◌<◌, length, Option, Some, None, IsTrue}
use Rattle.std.specs.List.{slice_get}
use Rattle.spec_value.specs.Datum.{Datum, is_value}
use Rattle.spec_value.specs.Literal.{literal}
use Rattle.slot_content.specs.declared.content.Node.TheVariants as node
use Rattle.slot_content.specs.declared.content.Node.{Node}
use Rattle.slot_content.specs.declared.content.Shown.TheVariants as shown
use Rattle.slot_content.specs.declared.content.Shown.{Shown}

abbrev pub node_content : Node → Option Datum
node_content node.Clear = None
node_content (node.Value v) = Some v
node_content (node.Kept place vs) = slice_get vs place

-- a place is among the values
abbrev pub IsThere : Node → Type 0
IsThere (node.Kept place vs) = place < length vs
IsThere node = Unit {0}

-- what is lent of it tells all of it
abbrev pub shown_content : Shown → Option Datum → Type 0
shown_content shown.Clear o = o ≡ None
shown_content (shown.Value v) o = o ≡ Some v.now
shown_content (shown.Literal t) None = ⊥
shown_content (shown.Literal t) (Some v) = (t.now ≡ literal v) × IsTrue (is_value v)
