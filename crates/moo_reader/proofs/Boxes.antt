-- What holds of what was taken out of a box and of what was put into one holds of what the boxes have in them.
use Rattle.std.proofs.Common.{◌≡◌, sym, subst}
use Rattle.std.specs.Prelude.{Box}
use Rattle.std.specs.Global.{Global}

pub boxed_again : {X : Type 0} (P : X → X → Type 0) (x y : Box X Global) (u v : X) → u ≡ x.value → y.value ≡ v → P u v → P x.value y.value
boxed_again P x y u v j k h = subst (P x.value) (sym k) (subst (λ z. P z v) j h)
