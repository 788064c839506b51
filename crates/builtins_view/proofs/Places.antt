-- A verb by its place from 1.
use Rattle.std.proofs.Common.{◌≡◌, ℕ, zero, suc, ◌<◌, ◌≤◌, ◌-◌, ℤ, pos, negsuc, List, Some, None, refl, ap, sym, ◌∙◌, subst, arith}
use Rattle.std.proofs.lemmas.Int.{ints}
use Rattle.std.specs.Prelude.{option_map}
use lib.Signed.{◌<ℤ◌}
use Rattle.spec_value.specs.Datum.{integer}
use Rattle.spec_value.specs.Indexing.{natural}
use Rattle.spec_world.specs.World.{Verb}
use Rattle.spec_world.specs.Permissions.{in_place}
use Rattle.spec_moo.specs.Natives.Verbs.{verb_place}

pub placed_there : (vs : List Verb) (z : ℤ) (v : Verb) → pos 0 <ℤ z → Some v ≡ in_place vs (natural z - 1) → verb_place vs (integer z) ≡ Some (natural z - 1)
placed_there vs (pos zero) v h e = absurd (omega (arith, ints, h))
placed_there vs (pos (suc n)) v h e =
    let k : suc n - 1 ≡ n = omega arith in ap (option_map (λ u. n)) (sym (subst (λ m. Some v ≡ in_place vs m) k e)) ∙ ap Some (sym k)
placed_there vs (negsuc n) v h e = absurd (omega (arith, ints, h))

pub placed_nowhere : (vs : List Verb) (z : ℤ) → pos 0 <ℤ z → None ≡ in_place vs (natural z - 1) → verb_place vs (integer z) ≡ None
placed_nowhere vs (pos zero) h e = absurd (omega (arith, ints, h))
placed_nowhere vs (pos (suc n)) h e =
    let k : suc n - 1 ≡ n = omega arith in ap (option_map (λ u. n)) (sym (subst (λ m. None ≡ in_place vs m) k e))
placed_nowhere vs (negsuc n) h e = absurd (omega (arith, ints, h))
