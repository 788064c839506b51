-- What the answer to a question about a slot says of it, and one about a header of the object's parent.
use Rattle.std.proofs.Common.{◌≡◌, ℤ, Option, Some, None, refl}
use Rattle.std.specs.Prelude.{option_map}
use Rattle.spec_value.specs.Datum.{Text, fold_case}
use Rattle.spec_value.specs.Table.{named}
use Rattle.spec_world.specs.World.{World, Object, Header, Slot, object_at}
use Rattle.spec_world.specs.Inherit.{slot_of, slot_at}
use Rattle.spec_world.specs.Questions.{the_header, the_slot, header_at, slot_on}

of_object : (x : Option Object) (p : Text) (s : Option Slot) → the_slot (option_map (λ y. named y.slots (fold_case p)) x) ≡ the_slot (Some s) → slot_of x p ≡ s
of_object None p s is = cc
of_object (Some x) p s is = cc

pub slot_told : (w : World) (o : ℤ) (p : Text) (s : Option Slot) → the_slot (slot_on w o p) ≡ the_slot (Some s) → slot_at w o p ≡ s
slot_told w o p s is = of_object (object_at w o) p s is

of_nothing : (x : Option Object) (p : Text) → the_slot (option_map (λ y. named y.slots (fold_case p)) x) ≡ the_slot None → slot_of x p ≡ None
of_nothing None p is = refl
of_nothing (Some x) p is = cc

pub no_object_told : (w : World) (o : ℤ) (p : Text) → the_slot (slot_on w o p) ≡ the_slot None → slot_at w o p ≡ None
no_object_told w o p is = of_nothing (object_at w o) p is

pub parent_told : (w : World) (o : ℤ) (h : Header) (p : ℤ) → the_header (header_at w o) ≡ the_header (Some h) → h.parent ≡ p → option_map (λ x. x.parent) (header_at w o) ≡ Some p
parent_told w o h p is named = cc
