use Rattle.std.proofs.Common.{◌≡◌, Some, slice_get, refl, sym, subst}
use Rattle.speculate.specs.declared.held.Held.TheVariants.{Holds}
use Rattle.speculate.specs.BoardState.{BoardState, world_after}
use Rattle.speculate.proofs.Honest.{holding_keeps}
use Rattle.speculate.proofs.Seen.{seen}
use Rattle.speculate.proofs.board.Board.post_seen.Goals as goal

pub invariant_of-self : goal.invariant_of-self
invariant_of-self c =
    let at : slice_get c.args.self.now.steps c.args.position ≡ Some c.args.guess.step = c.if-not-is_for.ensures.0 refl in
    let P : BoardState → Type 0 = λ v. slice_get v.steps c.args.position ≡ Some c.args.guess.step in
    let Q : BoardState → Type 0 = λ v. c.args.guess.before ≡ world_after v.base.plain v.steps c.args.seen in (
      holding_keeps (seen c.self.inside) c.args.position c.args.guess.step (Holds c.args.guess (Some c.args.seen)) c.self.invariant.0
          (subst P (sym c.self.view_is) at) (refl, c.know.ensures.right) (subst Q (sym c.self.view_is) c.requires),
      c.self.invariant.1,
    )
