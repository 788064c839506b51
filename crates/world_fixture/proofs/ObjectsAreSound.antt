-- The fixture with more objects is a sound world: each of them comes at the number after the greatest.
use Rattle.std.proofs.Common.{◌≡◌, ℕ, zero, suc, ◌+◌, ◌≤◌, pos, refl, sym, ap, subst, arith, IsTrue, le-leb}
use Rattle.std.specs.Prelude.{int_le}
use Rattle.spec_world.specs.World.{with_object}
use Rattle.spec_fixture.specs.Fixture.{fixture}
use Rattle.view.specs.Sound.{IsSound}
use Rattle.world.specs.Objects.{next_object}
use Rattle.world_fixture.specs.Objects.{lone_thing, with_objects}
use Rattle.world.proofs.Adding.{adding_keeps}
use Rattle.world_fixture.proofs.FixtureIsSound.{fixture_is_sound}

greatest_of : (n : ℕ) → next_object (with_objects n fixture) ≡ pos (8 + n)
unfolding with_objects
greatest_of zero = refl
greatest_of (suc n) = ap pos (omega arith)

pub objects_are_sound : (n : ℕ) → n ≤ 900000 → IsSound (with_objects n fixture)
unfolding with_objects
objects_are_sound zero le = fixture_is_sound
objects_are_sound (suc n) le =
    let w = with_objects n fixture in
    let number : next_object w ≡ pos (8 + n) = greatest_of n in
    let fits : IsTrue (int_le (pos (8 + n)) (pos 999999)) = le-leb (8 + n) 999999 (omega arith) in
    subst (λ o. IsSound (record (with_object w o lone_thing) { greatest = o })) number
    (adding_keeps w lone_thing (objects_are_sound n (omega arith)) (subst (λ o. IsTrue (int_le o (pos 999999))) (sym number) fits) refl)
