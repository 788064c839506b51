-- A call that changes nothing leaves the world as sound as it was.
use Rattle.std.proofs.Common.{ℕ, Result, Ok, Err, OnOk, sym, ◌∙◌, subst}
use Rattle.std.specs.Prelude.{IfOk}
use Rattle.spec_world.specs.World.{World}
use Rattle.view.specs.Sound.{IsSound}
use Rattle.view.specs.Law.{Lasts, StaysSound, Tells}

pub sound_told : {V A E : Type 0} (holds : V → World → Type 0) (now : V → World → World) (home : V → World) (anchor : V → ℕ × ℕ) (old new : V) (P : A → World → Type 0) (r : Result A E)
    → Lasts holds home anchor old new r → IfOk r (λ a. Tells holds now old new (P a)) → OnOk r (StaysSound home now old new)
sound_told holds now home anchor old new P (Err e) lasts told = tt
sound_told holds now home anchor old new P (Ok a) lasts told = λ sound.
    subst IsSound (sym (told (home new) lasts.home_is_left).1.0) (subst (λ (w : World). IsSound (now old w)) (sym lasts.home_stays) sound)

pub lasts_on : {V A B E : Type 0} (holds : V → World → Type 0) (home : V → World) (anchor : V → ℕ × ℕ) (a b c : V) (q : Result A E) (r : Result B E)
    → Lasts holds home anchor a b q → Lasts holds home anchor b c r → Lasts holds home anchor a c r
lasts_on holds home anchor a b c q r first second = record {
  anchor_stays = second.anchor_stays ∙ first.anchor_stays;
  home_stays = second.home_stays ∙ first.home_stays;
  home_is_left = second.home_is_left;
}
