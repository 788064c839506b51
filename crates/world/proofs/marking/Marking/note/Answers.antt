use Rattle.std.proofs.Common.{map, subst, refl}
use Rattle.world.specs.Marked.{answered_on}
use Rattle.world.specs.Sought.{sought_of}
use Rattle.world.specs.Trace.{Trace, IsTold}
use Rattle.world.proofs.Marked.{agrees_at_home, on_more, asked_more, told_more}
use Rattle.world.proofs.marking.Marking.note.Goals as goal

pub invariant_of-self : goal.invariant_of-self
invariant_of-self c =
    let home = c.self.inside.overlay.home in
    (c.self.invariant.0, on_more home (map (answered_on home) c.self.inside.trail) c.self.inside.objects.items c.mark.new.objects.items c.mark.ensures.stays c.self.invariant.1)

pub invariant_of-self-2 : goal.invariant_of-self-2
invariant_of-self-2 c =
    let home = c.self.inside.overlay.home in
    let more = on_more home (map (answered_on home) c.self.inside.trail) c.self.inside.objects.items c.mark.new.objects.items c.mark.ensures.stays c.self.invariant.1 in
    (c.self.invariant.0, asked_more home c.self.inside.trail c.add.new.self c.mark.new.objects.items (sought_of c.args.sought) c.add.ensures c.in_ok-mark.ensures.marked more)

pub returns-clause-told : goal.returns-clause-told
returns-clause-told c =
    let home = c.self.inside.overlay.home in
    let t : Trace = record { home = home; reads = map (answered_on home) c.self.inside.trail; changes = c.self.inside.overlay.changes } in
    subst (λ (s : Trace). IsTold s (record t { reads = map (answered_on home) c.add.new.self }) (sought_of c.args.sought)) c.self.view_is
    (told_more t c.self.inside.trail c.add.new.self (sought_of c.args.sought) refl c.add.ensures)

pub returns-clause-known : goal.returns-clause-known
returns-clause-known c = (c.self.invariant.0, agrees_at_home c.self.inside.overlay.home c.add.new.self)

pub returns-in_err-mark-clause-known : goal.returns-in_err-mark-clause-known
returns-in_err-mark-clause-known c = (c.self.invariant.0, agrees_at_home c.self.inside.overlay.home c.self.inside.trail)
