use Rattle.std.proofs.Common.{◌≡◌, None, Some, slice_get, refl, sym, subst, arith}
use Rattle.speculate.specs.declared.held.Held.TheVariants.{Empty, Holds}
use Rattle.speculate.specs.BoardState.{BoardState}
use Rattle.speculate.proofs.Honest.{holding_keeps}
use Rattle.speculate.proofs.Places.{fits_length, past_end_not_free}
use Rattle.speculate.proofs.Seen.{seen}
use Rattle.speculate.proofs.board.Board.post.Goals as goal

pub invariant_of-self : goal.invariant_of-self
invariant_of-self c =
    let at : slice_get c.args.self.now.steps c.args.position ≡ Some c.args.guess.step = c.if-not-is_for.ensures.0 refl in
    let P : BoardState → Type 0 = λ v. slice_get v.steps c.args.position ≡ Some c.args.guess.step in
    (holding_keeps (seen c.self.inside) c.args.position c.args.guess.step (Holds c.args.guess None) c.self.invariant.0 (subst P (sym c.self.view_is) at) (refl, c.know.ensures.right) tt, c.self.invariant.1)

pub returns-then-position-len-clause-step : goal.returns-then-position-len-clause-step
returns-then-position-len-clause-step c =
    let P : BoardState → Type 0 = λ v. slice_get v.held c.args.position ≡ Some Empty in
    let none = past_end_not_free c.self.inside.steps.items c.self.inside.held.items c.args.position c.self.invariant.0.held (omega arith) in
    (λ e. cc, λ p. absurd (none (subst P (sym c.self.view_is) p.0.1)))

pub index_mut-requires : goal.index_mut-requires
index_mut-requires c =
    let e = fits_length c.self.inside.steps.items c.self.inside.held.items c.self.invariant.0.held in
    omega arith
