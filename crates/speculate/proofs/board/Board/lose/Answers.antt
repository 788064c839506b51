use Rattle.std.proofs.Common.{◌≡◌, Some, slice_get, sym, subst, arith}
use Rattle.speculate.specs.declared.held.Held.TheVariants.{Empty}
use Rattle.speculate.specs.BoardState.{BoardState}
use Rattle.speculate.proofs.Honest.{lose_keeps}
use Rattle.speculate.proofs.Places.{fits_length, past_end_not_free, set_not_empty}
use Rattle.speculate.proofs.Seen.{seen}
use Rattle.speculate.proofs.board.Board.lose.Goals as goal

pub returns-then-position-len-clause-after : goal.returns-then-position-len-clause-after
returns-then-position-len-clause-after c = λ free.
    let P : BoardState → Type 0 = λ v. slice_get v.held c.args.position ≡ Some Empty in
    let h : slice_get c.self.inside.held.items c.args.position ≡ Some Empty = subst P (sym c.self.view_is) free.1 in
    past_end_not_free c.self.inside.steps.items c.self.inside.held.items c.args.position c.self.invariant.0.held (omega arith) h

pub index_mut-requires : goal.index_mut-requires
index_mut-requires c =
    let e = fits_length c.self.inside.steps.items c.self.inside.held.items c.self.invariant.0.held in
    omega arith

pub invariant_of-self : goal.invariant_of-self
invariant_of-self c = (lose_keeps (seen c.self.inside) c.args.position c.self.invariant.0, c.self.invariant.1)

pub returns-clause-after : goal.returns-clause-after
returns-clause-after c = λ free. set_not_empty c.self.inside.held.items c.args.position free.1
