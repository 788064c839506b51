-- Calls of built-in functions, for the verb that runs.
use Rattle.std.proofs.Common.{◌≡◌, ◌∙◌, ℕ, ℤ, sym, subst}
use Rattle.spec_world.specs.World.{World}
use Rattle.spec_value.specs.Datum.{Datum}
use Rattle.std.specs.Prelude.{Result}
use Rattle.spec_moo.specs.Scene.{Scene, in_world}
use Rattle.spec_moo.specs.NativeEffect as N
use Rattle.moo_value.specs.Answers.{answer_of}
use Rattle.moo_value.specs.declared.error.MooError.{MooError}
use Rattle.moo_task.specs.Deeds.{scene_of}
use Rattle.moo_task.specs.Effects.{effect_of}
use Rattle.moo_task.specs.Outcomes.{ticks_of}
use Rattle.moo_task.specs.declared.deeds.Deeds.{Deeds}
use Rattle.moo_task.specs.declared.effect.NativeEffect.{NativeEffect}
use Rattle.moo_task.specs.declared.effect.NativeEffect.TheVariants.{Answers}
use Rattle.moo_task.specs.declared.running.Running.{Running}
use Rattle.view.specs.Law.{Goes, Tells}
use Rattle.builtins_view.specs.Said.{Does, Says, with_programmer}
use Rattle.builtins.specs.BuiltinsLinksActing.{with_player}
use Rattle.builtins.specs.Led.{Leads, LeadsOver}
use Rattle.builtins_view.specs.Requests.{own_of, said_of}
use Rattle.builtins_view.specs.declared.builtin_requests.own.Own.{Own}
use Rattle.builtins.specs.BuiltinDeedsActing.{scene_for, caller_for, ActsFor}

abbrev Act : Type 0
Act = Scene → N.Caller → N.NativeEffect

-- for each caller with this programmer, and for each count of ticks
abbrev ActingBy : Act → Deeds → World → ℤ → NativeEffect → Deeds → World → Type 0
ActingBy row d before who x e after = (t : ℕ) (c : N.Caller) → row (scene_of d before t) (with_programmer c who) ≡ effect_of x (scene_of e after t)

for_running : (row : Act) (d e : Deeds) (before after : World) (who : ℤ) (x : NativeEffect) (r : Running) → who ≡ r.frame.call.programmer
    → ActingBy row d before who x e after → ActsFor row r d before x e after
for_running row d e before after who x r is acts =
    subst (λ q. row (scene_for d before r) (with_programmer (caller_for r) q) ≡ effect_of x (scene_for e after r)) is (acts (ticks_of r) (caller_for r))

-- in every world
pub own_so : (r : Running) (d e : Deeds) (x : NativeEffect) (q p : Own) → q ≡ p → ((w : World) → ActsFor (said_of (own_of p)) r d w x e w)
    → (w : World) → ActsFor (said_of (own_of q)) r d w x e w
own_so r d e x q p is so w = subst (λ z. ActsFor (said_of (own_of z)) r d w x e w) (sym is) (so w)

module _ {V : Type 0} (holds : V → World → Type 0) (now : V → World → World) (old new : V) (r : Running) where
  pub goes_acts : (row : Act) (d e : Deeds) (who : ℤ) (x : NativeEffect) → who ≡ r.frame.call.programmer
      → Goes holds now old new (λ before after. ActingBy row d before who x e after) → Goes holds now old new (λ before after. ActsFor row r d before x e after)
  goes_acts row d e who x is goes w left = let g = goes w left in (g.0, for_running row d e (now old w) (now new w) who x r is g.1)

  pub tells_acts : (row : Act) (d e : Deeds) (who : ℤ) (x : NativeEffect) → who ≡ r.frame.call.programmer
      → Tells holds now old new (λ w. ActingBy row d w who x e w) → Goes holds now old new (λ before after. ActsFor row r d before x e after)
  tells_acts row d e who x is tells w left =
      let g = tells w left in
      (g.0, subst (λ u. ActsFor row r d (now old w) x e u) (sym g.1.0) (for_running row d e (now old w) (now old w) who x r is g.1.1))

  -- by answers that no scene counts for
  pub says_acts : (row : Act) (d : Deeds) (who : ℤ) (a : Result Datum MooError) → who ≡ r.frame.call.programmer
      → Tells holds now old new (λ w. Says row w who (answer_of a)) → Goes holds now old new (λ before after. ActsFor row r d before (Answers a) d after)
  says_acts row d who a is tells = tells_acts row d d who (Answers a) is (λ w left. let g = tells w left in (g.0, (g.1.0, λ t c. g.1.1 (scene_of d (now old w) t) c)))

  pub does_acts : (row : Act) (d : Deeds) (who : ℤ) (a : Result Datum MooError) → who ≡ r.frame.call.programmer
      → Goes holds now old new (λ before after. Does row before after who (answer_of a)) → Goes holds now old new (λ before after. ActsFor row r d before (Answers a) d after)
  does_acts row d who a is goes = goes_acts row d d who (Answers a) is (λ w left. let g = goes w left in (g.0, λ t c. g.1 (scene_of d (now old w) t) c))

  -- in each scene of a world
  pub shows_acts : (row : Act) (d : Deeds) (who : ℤ) (x : NativeEffect) → who ≡ r.frame.call.programmer
      → Tells holds now old new (λ w. (s : Scene) (c : N.Caller) → row (in_world s w) (with_programmer c who) ≡ effect_of x (in_world s w))
      → Goes holds now old new (λ before after. ActsFor row r d before x d after)
  shows_acts row d who x is tells = tells_acts row d d who x is (λ w left. let g = tells w left in (g.0, (g.1.0, λ t c. g.1.1 (scene_of d (now old w) t) c)))

  -- as this player
  pub player_acts : (row : Act) (d e : Deeds) (player who : ℤ) (x : NativeEffect) → player ≡ r.player → who ≡ r.frame.call.programmer
      → Tells holds now old new (λ w. ActingBy (λ s c. row s (with_player c player)) d w who x e w) → Goes holds now old new (λ before after. ActsFor row r d before x e after)
  player_acts row d e player who x own is tells w left =
      let g = tells_acts (λ s c. row s (with_player c player)) d e who x is tells w left in
      (g.0, subst (λ p. row (scene_for d (now old w) r) (with_player (caller_for r) p) ≡ effect_of x (scene_for e (now new w) r)) own g.1)

  -- a call that is known
  pub known_so : {Q : Type 0} (row : Q → Act) (d e : Deeds) (x : NativeEffect) (q p : Q) → q ≡ p → Goes holds now old new (λ before after. ActsFor (row p) r d before x e after)
      → Goes holds now old new (λ before after. ActsFor (row q) r d before x e after)
  known_so row d e x q p is goes w left = let g = goes w left in (g.0, subst (λ z. ActsFor (row z) r d (now old w) x e (now new w)) (sym is) g.1)

  -- rows that say the same
  pub same_acts : (row rule : Act) (d e : Deeds) (x : NativeEffect) → ((s : Scene) (c : N.Caller) → row s c ≡ rule s c)
      → Goes holds now old new (λ before after. ActsFor rule r d before x e after) → Goes holds now old new (λ before after. ActsFor row r d before x e after)
  same_acts row rule d e x same goes w left = let g = goes w left in (g.0, same (scene_for d (now old w) r) (caller_for r) ∙ g.1)

  -- by the call of the verb that runs
  pub leads_acts : (row : Act) (d : Deeds) (x : NativeEffect) → Goes holds now old new (λ before after. Leads row before after r.frame.call x)
      → Goes holds now old new (λ before after. ActsFor row r d before x d after)
  leads_acts row d x goes w left = let g = goes w left in (g.0, g.1 (scene_for d (now old w) r) (caller_for r))

  pub leads_over_acts : (row : Act) (d e : Deeds) (x : NativeEffect) → Goes holds now old new (λ before after. LeadsOver row d before r.frame.call x e after)
      → Goes holds now old new (λ before after. ActsFor row r d before x e after)
  leads_over_acts row d e x goes w left = let g = goes w left in (g.0, g.1 (ticks_of r) (caller_for r))

  pub told_acts : (row : Act) (d : Deeds) (x : NativeEffect) → Tells holds now old new (λ w. Leads row w w r.frame.call x)
      → Goes holds now old new (λ before after. ActsFor row r d before x d after)
  told_acts row d x told w left =
      let g = told w left in (g.0, subst (λ u. ActsFor row r d (now old w) x d u) (sym g.1.0) (g.1.1 (scene_for d (now old w) r) (caller_for r)))

  -- of the scene alone, where nothing changes
  pub stays_acts : (row : Scene → N.NativeEffect) (d : Deeds) (x : NativeEffect) → ((s : Scene) → row s ≡ effect_of x s)
      → Goes holds now old old (λ before after. ActsFor (λ s c. row s) r d before x d after)
  stays_acts row d x said w left = (left, said (scene_for d (now old w) r))

  -- of the step alone
  pub step_acts : (row : Scene → N.NativeEffect) (d e : Deeds) (x : NativeEffect)
      → Goes holds now old new (λ before after. (t : ℕ) → row (scene_of d before t) ≡ effect_of x (scene_of e after t))
      → Goes holds now old new (λ before after. ActsFor (λ s c. row s) r d before x e after)
  step_acts row d e x goes w left = let g = goes w left in (g.0, g.1 (ticks_of r))
