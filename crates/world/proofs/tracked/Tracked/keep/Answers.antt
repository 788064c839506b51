use Rattle.std.proofs.Common.{map, sym, ap, subst, refl}
use Rattle.spec_world.specs.Questions.{Agrees, ask}
use Rattle.world.specs.Seen.{read_on}
use Rattle.world.specs.Sought.{sought_of}
use Rattle.world.specs.Trace.{Trace, IsTold}
use Rattle.world.proofs.Found.{held_by_one, held_by_some}
use Rattle.world.proofs.Goings.{agrees_longer, kept_told, on_either, on_good}
use Rattle.world.proofs.tracked.Tracked.keep.Goals as goal

pub invariant_of-self-2 : goal.invariant_of-self-2
invariant_of-self-2 c =
    let home = c.self.inside.overlay.home in (
      c.self.invariant.0,
      on_either c.push.result c.push.ensures.ok c.push.ensures.err
          (λ is. agrees_longer home c.self.inside.asked.notes.items c.push.new.self.notes.items _ is c.self.invariant.1 refl)
          (λ is. subst (λ ns. Agrees home (map (read_on home) ns)) (sym is) c.self.invariant.1),
      c.self.invariant.2,
      held_by_one _ _ c.in_ok-hold.ensures.ok,
      held_by_some _ _ _ _ c.in_ok-hold.ensures.ok,
    )

pub returns-clause-told : goal.returns-clause-told
returns-clause-told c =
    let t : Trace = record { home = c.self.inside.overlay.home; reads = map (read_on c.self.inside.overlay.home) c.self.inside.asked.notes.items; changes = c.self.inside.overlay.changes } in
    on_good c.push.result c.push.ensures.ok
    (λ is. subst (λ (s : Trace). IsTold s (record t { reads = map (read_on t.home) c.push.new.self.notes.items }) (sought_of c.args.sought)) c.self.view_is
    (kept_told t c.self.inside.asked.notes.items c.push.new.self.notes.items _ (sought_of c.args.sought) refl is c.in_ok-question.ensures (ap (ask t.home) c.in_ok-question.ensures)))

pub returns-clause-known : goal.returns-clause-known
returns-clause-known c =
    let home = c.self.inside.overlay.home in (
      c.self.invariant.0,
      on_either c.push.result c.push.ensures.ok c.push.ensures.err
          (λ is. agrees_longer home c.self.inside.asked.notes.items c.push.new.self.notes.items _ is c.self.invariant.1 refl)
          (λ is. subst (λ ns. Agrees home (map (read_on home) ns)) (sym is) c.self.invariant.1),
    )
