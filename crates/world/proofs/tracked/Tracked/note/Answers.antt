use Rattle.std.proofs.Common.{map, subst}
use Rattle.world.specs.Seen.{read_on}
use Rattle.world.specs.Sought.{sought_of}
use Rattle.world.specs.Trace.{Trace, IsTold}
use Rattle.world.proofs.Found.{read_among}
use Rattle.world.proofs.Goings.{told_before}
use Rattle.world.proofs.tracked.Tracked.note.Goals as goal

pub returns-in-Some-clause-told : goal.returns-in-Some-clause-told
returns-in-Some-clause-told c =
    let home = c.self.inside.overlay.home in
    let notes = c.self.inside.asked.notes.items in
    let t : Trace = record { home = home; reads = map (read_on home) notes; changes = c.self.inside.overlay.changes } in
    let n = c.in-Some._noted.now in
    subst (λ (s : Trace). IsTold s s (sought_of c.args.sought)) c.self.view_is
    (told_before t (sought_of c.args.sought) (read_on home n).answer c.self.invariant.1 (read_among home notes n (sought_of c.args.sought) c.in-Some.ensures.0 c.in-Some.ensures.1))
