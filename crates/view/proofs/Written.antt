-- Slots that programmers write.
use Rattle.std.proofs.Common.{◌≡◌, ◌∙◌, ℤ, Bool, true, false, List, Option, Some, None, refl, sym, ap, ℕ, IsTrue, get_or}
use Rattle.std.specs.Prelude.{option_map}
use Rattle.spec_value.specs.Datum.{Datum, Text, fold_case}
use Rattle.spec_value.specs.Table.{named, with_name, is_named}
use Rattle.spec_world.specs.World.{World, Object, Slot}
use Rattle.spec_world.specs.Inherit.{slot_at}
use Rattle.spec_world.specs.Permissions.{owns_or}
use Rattle.spec_world.specs.Questions.{apply, new_value}
use Rattle.view.specs.Law.{Goes, Tells}
use Rattle.view.specs.Writing.{IsWrittenBy, AreRewritten, IsRewritten}
use Rattle.view.proofs.Named.{one_item}
use Rattle.view.proofs.Filled.{Stands, Fills, filled}

module _ {V : Type 0} (holds : V → World → Type 0) (now : V → World → World) (who o : ℤ) (p : Text) (v : Datum) where
  -- a slot was read that may be written, and got another value
  pub written : (a b c : V) (s : Slot) → owns_or who s.owner s.writable ≡ true → Tells holds now a b (λ w. slot_at w o p ≡ Some s)
      → Goes holds now b c (λ before after. after ≡ apply (new_value o p v) before) → Goes holds now a c (IsWrittenBy who o p v true)
  written a b c s allowed told goes w is =
      let g = goes w is in
      let t = told w g.0 in (t.0, (record { slot = s; there = t.1.1; allowed = allowed }, g.1 ∙ ap (apply (new_value o p v)) t.1.0))

  -- nothing was written
  pub unwritten : (a b : V) (P : World → Type 0) → Tells holds now a b P → Goes holds now a b (IsWrittenBy who o p v false)
  unwritten a b P told w is = let t = told w is in (t.0, t.1.0)

-- an object whose slots a programmer wrote
pub object_rewritten : (who : ℤ) (p : Text) (v : Datum) (old new : Object) → AreRewritten who p v old.slots new.slots → new ≡ record old { slots = new.slots } → IsRewritten who p v old new
object_rewritten who p v old new r is = record {
  slot = r.slot;
  there = r.there;
  allowed = r.allowed;
  object =
      ap Some is ∙ ap (λ (x : Option (List (Text × Slot))). option_map (λ ss. record old { slots = ss }) x) r.slots
      ∙ go (named old.slots (fold_case p));
}
  where
    go : (s : Option Slot) → option_map (λ (ss : List (Text × Slot)). record old { slots = ss }) (option_map (λ t. with_name old.slots (fold_case p) (record t { content = Some v })) s)
        ≡ option_map (λ t. record old { slots = with_name old.slots (fold_case p) (record t { content = Some v }) }) s
    go None = refl
    go (Some s) = refl

-- ---- slots

-- whether a programmer may write the slot that stands there
abbrev pub IsWritable : List (Text × Slot) → ℕ → ℤ → Bool → Type 0
IsWritable es i who b = (e : Text × Slot) × (e ≡ get_or es i e) × (b ≡ owns_or who (e.1).owner (e.1).writable)

pub slots_rewritten : (who : ℤ) (p : Text) (v : Datum) (es new : List (Text × Slot)) (i : ℕ) (b : Bool) → IsTrue (is_named es) → Stands (fold_case p) es i → IsWritable es i who b → b ≡ true
    → Fills es new i v → AreRewritten who p v es new
slots_rewritten who p v es new i b sorted at writable is fills =
    let same : writable.0 ≡ at.0 = one_item es i writable.0 at.0 at.1 writable.1 at.2 in
    record {
      slot = (at.0).1;
      there = at.4;
      allowed = ap (λ (e : Text × Slot). owns_or who (e.1).owner (e.1).writable) (sym same) ∙ sym writable.2 ∙ is;
      slots = filled (fold_case p) es new i v sorted at fills;
    }
