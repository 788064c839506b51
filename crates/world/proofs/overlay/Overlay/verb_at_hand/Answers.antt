use Rattle.std.proofs.Common.{◌≡◌, ℤ, None, sym, subst, rules, w32, to_z, of_z}
use Rattle.std.proofs.lemmas.Int.{to_z-of_z}
use Rattle.view.specs.Kin.{IsCalledVerb}
use Rattle.world.specs.Amended.{Amended, amended_now}
use Rattle.world.proofs.Calling.{called_lightly}
use Rattle.world.proofs.overlay.Overlay.verb_at_hand.Goals as goal

pub returns : goal.returns
returns c =
    let kept = c.in_ok-found.found in
    let word = c.args.word.now in
    let object = to_z-of_z w32 c.args.object c.ranges.object in
    let definer : to_z w32 (of_z w32 kept.definer) ≡ kept.definer = search rules in
    let none : c.self.inside.fork ≡ None = search rules in
    let found = c.in_ok-found.ensures c.self.inside.home.now c.self.invariant.4 in
    subst (λ (d : ℤ). IsCalledVerb (amended_now c.args.self.now) c.args.object word d kept.verb.now) (sym definer)
    (subst (λ (a : Amended). IsCalledVerb (amended_now a) c.args.object word kept.definer kept.verb.now) c.self.view_is
    (called_lightly c.self.inside.changes c.self.inside.home.now c.args.object word kept.definer kept.verb.now (c.self.invariant.1 none) (rw object at found)))
