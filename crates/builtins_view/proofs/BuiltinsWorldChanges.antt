-- Changes of parts, as the definitions of the functions have them.
use Rattle.std.proofs.Common.{◌≡◌, ℤ, Option, Some, None, Result, Ok, Err, OnOk, refl, ap, ◌∙◌}
use Rattle.spec_value.specs.Datum.{Text}
use Rattle.spec_world.specs.World.{World, Object, Slot, object_at}
use Rattle.spec_world.specs.Inherit.{put_slot, with_slot}
use Rattle.spec_world.specs.Families.{change_at}
use Rattle.spec_world.specs.Questions.{Part, apply, new_part, new_slot, put_part}
use Rattle.view.specs.Law.{Goes}

pub slot_put : (w : World) (o : ℤ) (p : Text) (s : Slot) → apply (new_part o (new_slot p (Some s))) w ≡ with_slot w o p s
unfolding with_slot
slot_put w o p s = go (object_at w o)
  where
    go : (x : Option Object) → change_at w o (put_part (new_slot p (Some s))) x ≡ put_slot w o p s x
    go None = refl
    go (Some x) = refl

pub put_told : {V A E : Type 0} (holds : V → World → Type 0) (now : V → World → World) (old new : V) (r : Result A E) (o : ℤ) (p : Text) (s : Slot) (a : Part) → a ≡ new_slot p (Some s)
    → OnOk r (Goes holds now old new (λ before after. after ≡ apply (new_part o a) before)) → OnOk r (Goes holds now old new (λ before after. after ≡ with_slot before o p s))
put_told holds now old new (Err e) o p s a is told = tt
put_told holds now old new (Ok x) o p s a is told = λ w left.
    let g = told w left in
    (g.0, g.1 ∙ ap (λ b. apply (new_part o b) (now old w)) is ∙ slot_put (now old w) o p s)
