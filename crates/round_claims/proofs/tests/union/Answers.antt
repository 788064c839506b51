use Rattle.std.proofs.Common.{◌≡◌, IfOk, ℕ, Vec, Global, arith, refl}
use Rattle.std.specs.Prelude.{Result}
use Rattle.std.specs.declared.alloc.AllocError.{AllocError}
use Rattle.std.proofs.lemmas.List.Elements.{All-pop}
use Rattle.round_claims.specs.Claimed.{Offer, Holding, IsDone}
use Rattle.round_claims.proofs.tests.union.Goals as goal

abbrev IsWorkOf : Offer → Result (Holding × Vec ℕ Global) AllocError → Type 0
IsWorkOf offer worker = IfOk worker (λ done. IsDone offer done.0 × (done.1.items ≡ done.0.claimed))

pub worker-init : goal.worker-init
worker-init c =
    let popped = All-pop (IsWorkOf c.args.claims) c.args.workers.items c.pop.new.self.items c.pop.result c.pop.ensures.items c.requires.done in
    let first = rw c.in-Some.is at popped.1 in
    let own = rw c.in_ok-seat.was at first in record {
      offer = own.0.offer_is;
      closed = own.0.closed;
      all = omega (arith, own.0.one, c.requires.all, c.in-Some.ensures.len);
      positions = own.1;
      done = popped.0;
    }

pub worker-preserved : goal.worker-preserved
worker-preserved c =
    let i = c.worker.invariant in
    let popped = All-pop (IsWorkOf c.args.claims) c.worker.workers.items c.pop-in-worker.new.self.items c.pop-in-worker.result c.pop-in-worker.ensures.items i.done in
    let next = rw c.in-Some-pop.is at popped.1 in
    let own = rw c.in_ok-other.was at next in record {
      offer = c.merge.ensures.offer;
      closed = rw (c.merge.ensures.closed, i.closed) refl;
      all = omega (arith, own.0.one, i.all, c.merge.ensures.seats, c.in-Some-pop.ensures.len);
      positions = rw (
        c.in_ok-extend_from_slice.ensures.items,
        c.as_slice.ensures.value,
        own.1,
        i.positions,
        c.merge.ensures.claimed,
      ) refl;
      done = popped.0;
    }
