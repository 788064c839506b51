-- What another value in a slot leaves as it is.
use Rattle.std.proofs.Common.{◌≡◌, ◌≢◌, ◌∙◌, ℤ, Bool, true, false, ◌&&◌, Option, Some, None, option_map, refl, ap}
use Rattle.spec_value.specs.Datum.{Datum, Text, fold_case}
use Rattle.spec_world.specs.World.{World, Slot}
use Rattle.spec_world.specs.Questions.{about_slot, the_slot, ask, slot_on, new_value, apply}
use Rattle.world.proofs.Local.{same_number, same_name, number_is, refilled, value_after}

same_slot : (v : Datum) (s : Option (Option Slot)) → option_map (refilled false v) s ≡ s
same_slot v None = refl
same_slot v (Some s) = refl

-- the slots of other objects
pub value_elsewhere : (o : ℤ) (p : Text) (v : Datum) (w : World) (r : ℤ) (t : Text) → r ≢ o → ask (apply (new_value o p v) w) (about_slot r t) ≡ ask w (about_slot r t)
value_elsewhere o p v w r t other = value_after o p v w (about_slot r t) ∙ go (same_number r o) refl
  where
    go : (b : Bool) → same_number r o ≡ b → the_slot (option_map (refilled (b && same_name (fold_case t) (fold_case p)) v) (slot_on w r t)) ≡ the_slot (slot_on w r t)
    go true e = absurd (other (number_is r o e))
    go false e = ap the_slot (same_slot v (slot_on w r t))
