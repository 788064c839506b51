-- Lines that are told.
use Rattle.std.proofs.Common.{◌≡◌, ℕ, ℤ, List, [], ◌∷◌, ◌++◌, map, length, Option, Some, None, refl, sym, ap, ◌∙◌, arith, append_assoc, append-nil}
use Rattle.std.proofs.lemmas.List.{map-append}
use Rattle.spec_value.specs.Datum.{Text}
use Rattle.spec_world.specs.World.{World}
use Rattle.spec_world.specs.Links.{connection_of}
use Rattle.spec_moo.specs.Scene.{Scene}
use Rattle.spec_moo.specs.Steps.Running.{lines_to, told_on, told}
use Rattle.moo_task.specs.Deeds.{scene_of, told_of}
use Rattle.moo_task.specs.declared.deeds.Deeds.{Deeds}
use Rattle.moo_task.specs.declared.deeds.Told.{Told}
use Rattle.view.specs.Law.{Tells}

lines_more : (c : ℤ) (ts : List Text) (x : Text) → lines_to c (ts ++ x ∷ []) ≡ lines_to c ts ++ (c, x) ∷ []
lines_more c [] x = refl
lines_more c (t ∷ ts) x = ap (λ ls. (c, t) ∷ ls) (lines_more c ts x)

-- one line more
pub line_pushed : (before : List (ℤ × Text)) (had has : List Told) (c : ℤ) (ts : List Text) (x : Told) → x.player ≡ c → has ≡ had ++ x ∷ [] → map told_of had ≡ before ++ lines_to c ts
    → map told_of has ≡ before ++ lines_to c (ts ++ x.line ∷ [])
line_pushed before had has c ts x who more so =
    ap (map told_of) more ∙ map-append told_of had (x ∷ []) ∙ ap (λ ls. ls ++ (x.player, x.line) ∷ []) so ∙ append_assoc before (lines_to c ts) ((x.player, x.line) ∷ [])
    ∙ ap (λ o. before ++ (lines_to c ts ++ (o, x.line) ∷ [])) who ∙ ap (λ ls. before ++ ls) (sym (lines_more c ts x.line))

pub nothing_left : {X : Type 0} (xs : List X) → length xs ≡ 0 → xs ≡ []
nothing_left [] h = refl
nothing_left (x ∷ xs) h = absurd (omega arith)

-- no lines are told
none_told : (s : Scene) (m : Option ℤ) (ts : List Text) → ts ≡ [] → s ≡ told_on s m ts
none_told s None ts h = refl
none_told s (Some c) ts h = ap (λ (ls : List (ℤ × Text)). record s { output = ls }) (sym (append-nil s.output) ∙ ap (λ us. s.output ++ lines_to c us) (sym h))

pub no_lines : (d : Deeds) (w : World) (o : ℤ) (ts : List Text) → length ts ≡ 0 → (t : ℕ) → scene_of d w t ≡ told (scene_of d w t) o ts
no_lines d w o ts h t = none_told (scene_of d w t) (connection_of w o) ts (nothing_left ts h)

module _ {V : Type 0} (holds : V → World → Type 0) (now : V → World → World) where
  -- there is no link
  pub told_nobody : (a b : V) (d : Deeds) (o : ℤ) (ts : List Text) → Tells holds now a b (λ w. connection_of w o ≡ None)
      → Tells holds now a b (λ w. (t : ℕ) → scene_of d w t ≡ told (scene_of d w t) o ts)
  told_nobody a b d o ts tells w left = let t = tells w left in (t.0, (t.1.0, λ n. ap (λ m. told_on (scene_of d (now a w) n) m ts) (sym t.1.1)))

  -- there is one
  pub told_somebody : (a b : V) (d e : Deeds) (o c : ℤ) (ts : List Text) → Tells holds now a b (λ w. connection_of w o ≡ Some c)
      → ((w : World) (t : ℕ) → scene_of e w t ≡ told_on (scene_of d w t) (Some c) ts)
      → Tells holds now a b (λ w. (t : ℕ) → scene_of e w t ≡ told (scene_of d w t) o ts)
  told_somebody a b d e o c ts tells all w left =
      let t = tells w left in (t.0, (t.1.0, λ n. all (now a w) n ∙ ap (λ m. told_on (scene_of d (now a w) n) m ts) (sym t.1.1)))
