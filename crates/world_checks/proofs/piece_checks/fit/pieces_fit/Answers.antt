use Rattle.std.proofs.Common.{◌≡◌, None, IsTrue, sym, subst}
use Rattle.spec_program.specs.Construct.{of_program}
use Rattle.moo_code.specs.Rebuilding.{call_path, from_deepest}
use Rattle.moo_task.specs.Frames.{kept_of}
use Rattle.held_values.specs.Descent.{fits_down}
use Rattle.world_checks.proofs.Calls.{call_holds, holds_call, call_there}
use Rattle.world_checks.proofs.piece_checks.fit.pieces_fit.Goals as goal

pub returns-clause-tells : goal.returns-clause-tells
returns-clause-tells c t =
    let frame = c.args.frame.now in
    let found = rw c.in-Some.is at c.in_ok-found.ensures in
    call_holds (kept_of frame) c.in-Some.path.items (sym found)
    (subst (λ path. IsTrue (fits_down 0 (of_program frame.program) path (from_deepest frame.state.operands))) c.as_slice.ensures.value (c.in_ok-fits.ensures.tells t))

pub returns-clause-finds : goal.returns-clause-finds
returns-clause-finds c f waits stands fit =
    let frame = c.args.frame.now in
    let found = rw c.in-Some.is at c.in_ok-found.ensures in
    c.in_ok-fits.ensures.finds
    (subst (λ path. IsTrue (fits_down 0 (of_program frame.program) path (from_deepest frame.state.operands))) (sym c.as_slice.ensures.value)
    (holds_call (kept_of frame) c.in-Some.path.items (sym found) f waits stands fit))

pub returns-in_default-clause-finds : goal.returns-in_default-clause-finds
returns-in_default-clause-finds c f waits stands fit =
    let none : call_path (kept_of c.args.frame.now) ≡ None = sym (rw c.in_default.is at c.in_ok-found.ensures) in
    absurd (call_there (kept_of c.args.frame.now) none f waits stands)
