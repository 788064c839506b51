use Rattle.std.proofs.Common.{◌≡◌, ℤ, None, sym, subst, rules, w32, to_z, of_z}
use Rattle.std.proofs.lemmas.Int.{to_z-of_z}
use Rattle.view.specs.Kin.{IsCalledAt}
use Rattle.world.specs.Amended.{Amended, amended_now}
use Rattle.world.proofs.Calling.{called_before}
use Rattle.world.proofs.overlay.Overlay.keep_verb.Goals as goal

pub with-self-inside-requires : goal.with-self-inside-requires
with-self-inside-requires c =
    let home = c.self.inside.home.now in
    let word = c.args.word.now in
    let object = to_z-of_z w32 c.args.object c.ranges.object in
    let definer = to_z-of_z w32 c.args.definer c.ranges.definer in
    let none : c.self.inside.fork ≡ None = search rules in
    let now = subst (λ (a : Amended). IsCalledAt (amended_now a) c.args.object word c.args.definer c.args.place) (sym c.self.view_is) c.requires in
    subst (λ (o : ℤ). IsCalledAt home o word (to_z w32 (of_z w32 c.args.definer)) c.args.place) (sym object)
    (subst (λ (d : ℤ). IsCalledAt home c.args.object word d c.args.place) (sym definer)
    (called_before c.self.inside.changes home c.args.object word c.args.definer c.args.place (c.self.invariant.1 none) now))
