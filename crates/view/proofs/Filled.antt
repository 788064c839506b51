-- Slots with another value in one.
use Rattle.std.proofs.Common.{◌≡◌, ℕ, ◌<◌, List, length, Some, IsTrue, sym, ◌∙◌, ap, subst, get_or, option_map}
use Rattle.std.proofs.Math.ListN.{set}
use Rattle.spec_value.specs.Datum.{Datum, Text}
use Rattle.spec_world.specs.World.{Slot}
use Rattle.spec_value.specs.Table.{named, with_name, is_named}
use Rattle.view.proofs.Named.{set_there, set_keeps_order, one_item}

abbrev pub with_content : Slot → Datum → Slot
with_content s v = record s { content = Some v }

-- where the slot of a name stands
abbrev pub Stands : Text → List (Text × Slot) → ℕ → Type 0
Stands k es i = (e : Text × Slot) × (i < length es) × (e ≡ get_or es i e) × (k ≡ e.0) × (named es k ≡ Some e.1)

-- the slot there has another value
abbrev pub Fills : List (Text × Slot) → List (Text × Slot) → ℕ → Datum → Type 0
Fills es new i v = (e : Text × Slot) × (e ≡ get_or es i e) × (new ≡ set es i (e.0, with_content e.1 v))

same_fill : (k : Text) (es new : List (Text × Slot)) (i : ℕ) (v : Datum) (at : Stands k es i) → Fills es new i v → new ≡ set es i ((at.0).0, with_content (at.0).1 v)
same_fill k es new i v at fill =
    let same : fill.0 ≡ at.0 = one_item es i fill.0 at.0 at.1 fill.1 at.2 in
    fill.2 ∙ ap (λ (e : Text × Slot). set es i (e.0, with_content e.1 v)) same

pub filled_order : (k : Text) (es new : List (Text × Slot)) (i : ℕ) (v : Datum) → IsTrue (is_named es) → Stands k es i → Fills es new i v → IsTrue (is_named new)
filled_order k es new i v sorted at fill =
    subst (λ (fs : List (Text × Slot)). IsTrue (is_named fs)) (sym (same_fill k es new i v at fill)) (set_keeps_order k es i at.0 (with_content (at.0).1 v) sorted at.1 at.2 at.3)

pub filled : (k : Text) (es new : List (Text × Slot)) (i : ℕ) (v : Datum) → IsTrue (is_named es) → Stands k es i → Fills es new i v
    → Some new ≡ option_map (λ s. with_name es k (with_content s v)) (named es k)
filled k es new i v sorted at fill =
    ap Some (same_fill k es new i v at fill ∙ set_there k es i at.0 (with_content (at.0).1 v) sorted at.1 at.2 at.3)
    ∙ sym (ap (option_map (λ s. with_name es k (with_content s v))) at.4)
