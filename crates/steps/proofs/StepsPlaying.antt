-- What is left to play after calls that tell of a view, or change it.
use Rattle.std.proofs.Common.{◌≡◌, ◌∙◌, ap, sym, subst, ℕ, Result, Ok, Err}
use Rattle.std.specs.Prelude.{IfOk, OnOk}
use Rattle.spec_world.specs.World.{World}
use Rattle.spec_world.specs.Outcome.{Outcome}
use Rattle.spec_ready.specs.Ready.{IsReady}
use Rattle.moo_task.specs.Deeds.{scene_of}
use Rattle.moo_task.specs.declared.deeds.Deeds.{Deeds}
use Rattle.view.specs.Law.{Goes, Tells}
use Rattle.rules.specs.Lines.{AreAgreeing}
use Rattle.rules.proofs.InheritStanding.{agreeing_stands}
use Rattle.steps.specs.Ready.{AreReady}

pub on_ok : {T E : Type 0} (r : Result T E) (P Q : Type 0) → (P → Q) → OnOk r P → OnOk r Q
on_ok (Ok x) P Q f h = f h
on_ok (Err e) P Q f h = tt

pub if_on_ok : {T E : Type 0} (r : Result T E) (P : T → Type 0) (Q : Type 0) → ((x : T) → P x → Q) → IfOk r P → OnOk r Q
if_on_ok (Ok x) P Q f h = f x h
if_on_ok (Err e) P Q f h = tt

module _ {V : Type 0} (holds : V → World → Type 0) (now : V → World → World) where
  -- nothing is asked: this is all
  pub plays_here : (a : V) (f : World → World × Outcome) (o : World → World × Outcome) → ((w : World) → f w ≡ o w) → Goes holds now a a (λ before after. f before ≡ o after)
  plays_here a f o all w h = (h, all (now a w))

  -- what is told says that this is all
  pub plays_told : (a b : V) (P : World → Type 0) (f : World → World × Outcome) (o : World → World × Outcome) → Tells holds now a b P → ((w : World) → P w → f w ≡ o w)
      → Goes holds now a b (λ before after. f before ≡ o after)
  plays_told a b P f o told all w h = let t = told w h in (t.0, all (now a w) t.1.1 ∙ ap o (sym t.1.0))

  -- what is told says that something is left
  pub plays_then : (a b c : V) (P : World → Type 0) (f g : World → World × Outcome) (o : World → World × Outcome) → Tells holds now a b P
      → Goes holds now b c (λ before after. g before ≡ o after) → ((w : World) → P w → f w ≡ g w)
      → Goes holds now a c (λ before after. f before ≡ o after)
  plays_then a b c P f g o told rest left w h =
      let r = rest w h in
      let t = told w r.0 in
      (t.0, left (now a w) t.1.1 ∙ ap g (sym t.1.0) ∙ r.1)

  -- something is left after a change
  pub plays_changed : (a b c : V) (change : World → World) (f g : World → World × Outcome) (o : World → World × Outcome) → Goes holds now a b (λ before after. after ≡ change before)
      → Goes holds now b c (λ before after. g before ≡ o after) → ((w : World) → f w ≡ g (change w))
      → Goes holds now a c (λ before after. f before ≡ o after)
  plays_changed a b c change f g o changed rest left w h =
      let r = rest w h in
      let t = changed w r.0 in
      (t.0, left (now a w) ∙ ap g (sym t.1) ∙ r.1)

  -- after a change that is all
  pub plays_last : (a b : V) (change : World → World) (f : World → World × Outcome) (o : World → World × Outcome) → Goes holds now a b (λ before after. after ≡ change before)
      → ((w : World) → f w ≡ o (change w)) → Goes holds now a b (λ before after. f before ≡ o after)
  plays_last a b change f o changed all w h = let t = changed w h in (t.0, all (now a w) ∙ ap o (sym t.1))

  -- ---- where it is known what is asked for

  pub plays_as : {K : Type 0} (a b : V) (f : K → World → World × Outcome) (k j : K) (o : World → World × Outcome) → k ≡ j → Goes holds now a b (λ before after. f j before ≡ o after)
      → Goes holds now a b (λ before after. f k before ≡ o after)
  plays_as {K} a b f k j o is rest w h = let r = rest w h in (r.0, ap (λ (x : K). f x (now a w)) is ∙ r.1)

  pub plays_here_as : {K : Type 0} (a : V) (f : K → World → World × Outcome) (k j : K) (o : World → World × Outcome) → k ≡ j → ((w : World) → f j w ≡ o w)
      → Goes holds now a a (λ before after. f k before ≡ o after)
  plays_here_as {K} a f k j o is all w h = (h, ap (λ (x : K). f x (now a w)) is ∙ all (now a w))

  -- ---- where a step may run a task, its world stands

  pub ready_agrees : (a : V) (d : Deeds) → AreReady holds now a d → AreAgreeing holds now a
  ready_agrees a d ready w h = agreeing_stands (now a w) (ready w h 0).agrees.world

  -- ---- a step may run a task afterwards too

  pub ready_told : (a b : V) (P : World → Type 0) (d : Deeds) → AreReady holds now a d → Tells holds now a b P → AreReady holds now b d
  ready_told a b P d ready told w h t = let k = told w h in subst (λ (x : World). IsReady (scene_of d x t)) (sym k.1.0) (ready w k.0 t)

  pub ready_changed : (a b : V) (change : World → World) (d e : Deeds) → AreReady holds now a d → Goes holds now a b (λ before after. after ≡ change before)
      → ((w : World) (t : ℕ) → holds a w → IsReady (scene_of d (now a w) t) → IsReady (scene_of e (change (now a w)) t)) → AreReady holds now b e
  ready_changed a b change d e ready changed so w h t =
      let k = changed w h in subst (λ (x : World). IsReady (scene_of e x t)) (sym k.1) (so w t k.0 (ready w k.0 t))

  -- what holds of each world holds where nothing has changed
  pub still : (a b : V) (P Q : World → Type 0) → ((w : World) → holds a w → Q (now a w)) → Tells holds now a b P → (w : World) → holds b w → Q (now b w)
  still a b P Q each told w h = let k = told w h in subst Q (sym k.1.0) (each w k.0)

  pub told_still : (a b : V) (P : World → Type 0) → Tells holds now a b P → (w : World) → holds b w → P (now b w)
  told_still a b P told w h = let k = told w h in subst P (sym k.1.0) k.1.1
