use Rattle.std.proofs.Common.{◌≡◌, ◌∙◌, List, Option, None, refl, sym, ap, subst, rules, true≢false}
use Rattle.std.specs.Option.{unwrap_or}
use Rattle.spec_value.specs.Datum.{fold_case}
use Rattle.spec_world.specs.World.{World}
use Rattle.spec_world.specs.Questions.{Change, apply_all}
use Rattle.view.specs.Writing.{GoesFurther, AreRevalued}
use Rattle.world.specs.Amended.{Amended}
use Rattle.world.specs.Near.{last_given}
use Rattle.world.proofs.AtHand.{revalued_further, revalued_light, revalued_near, rows_as}
use Rattle.world.proofs.overlay.Overlay.give_again.Goals as goal

pub invariant_of-self : goal.invariant_of-self
invariant_of-self c =
    let cs = c.self.inside.changes in
    let ds = c.set_value-done.new.self in
    let home = c.self.inside.home.now in
    let none : c.self.inside.fork ≡ None = search rules in
    let r : AreRevalued c.args.value c.args.place cs ds = c.set_value-done.ensures.done c.if-done.true in (
      subst (λ (f : Option World). unwrap_or f (apply_all ds home) ≡ apply_all ds home) (sym none) refl,
      λ _. revalued_light c.args.value cs ds c.args.place (c.self.invariant.1 none) r,
      λ e. absurd (true≢false e),
      rows_as c.self.inside.fork home cs ds (λ n h. (h.0, revalued_near c.args.value cs ds c.args.place home n.object n.name.now n.slot.now n.place r h.1, h.2)) c.self.inside.near
          c.self.invariant.3,
      c.self.invariant.4,
    )

pub returns-then-done-clause-done : goal.returns-then-done-clause-done
returns-then-done-clause-done c = λ so o p last.
    let cs = c.self.inside.changes in
    let ds = c.set_value-done.new.self in
    let none : c.self.inside.fork ≡ None = search rules in
    let same : cs ≡ c.args.self.now.changes = ap (λ (a : Amended). a.changes) c.self.view_is in
    subst (λ (zs : List Change). GoesFurther o p c.args.value zs ds) same
    (revalued_further o p c.args.value cs ds c.args.place (c.self.invariant.1 none) (ap (last_given o (fold_case p)) same ∙ last) (c.set_value-done.ensures.done c.if-done.true))
