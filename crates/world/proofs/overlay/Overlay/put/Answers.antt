use Rattle.std.proofs.Common.{◌≡◌, IsTrue, false, ap, sym, subst, rules}
use Rattle.std.specs.Prelude.{is_some}
use Rattle.std.specs.Option.{unwrap_or}
use Rattle.spec_world.specs.World.{World}
use Rattle.spec_world.specs.Questions.{Question, ask, apply_all}
use Rattle.view.specs.Facets.{DoesLast}
use Rattle.view.specs.Meanings.{change_of}
use Rattle.world.specs.Late.{is_light, AllLight}
use Rattle.world.proofs.overlay.Overlay.put.Goals as goal

pub invariant_of-self-2 : goal.invariant_of-self-2
invariant_of-self-2 c =
    let home : World = c.self.inside.home.now in
    let last : DoesLast (change_of c.args.change) c.self.inside.changes c.add.new.changes = search rules in
    let light : is_some c.put_on.new.fork ≡ false → AllLight c.self.inside.changes → IsTrue (is_light (change_of c.args.change)) → AllLight c.add.new.changes = search rules in
    let unseen : c.if-self.seen ≡ false → (q : Question) → ask (apply_all c.add.new.changes home) q ≡ ask home q = search rules in (
      subst (λ (v : World). unwrap_or c.put_on.new.fork v ≡ v) (sym (last home)) c.in_ok-put_on.ensures.ok,
      λ none. let both = c.in_ok-put_on.ensures.light none in light (ap is_some none) both.0 both.1,
      unseen,
      c.none-self-inside.ensures c.put_on.new.fork home c.add.new.changes,
      c.self.invariant.4,
    )
