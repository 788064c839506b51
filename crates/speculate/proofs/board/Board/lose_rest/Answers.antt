use Rattle.std.proofs.Common.{◌≡◌, ◌∙◌, length, sym, ap, arith}
use Rattle.speculate.specs.BoardState.{BoardState}
use Rattle.speculate.proofs.Rests.{full_held}
use Rattle.speculate.proofs.board.Board.lose_rest.Goals as goal

pub returns-clause-full : goal.returns-clause-full
returns-clause-full c =
    let same = c.rest.invariant.0 in
    let steps : length c.self.inside.steps.items ≡ length c.rest.self.steps =
    ap (λ (v : BoardState). length v.steps) c.self.view_is ∙ sym (ap (λ (v : BoardState). length v.steps) same) in
    let outs : length c.rest.self.outcomes ≡ length c.args.self.now.outcomes = ap (λ (v : BoardState). length v.outcomes) same in
    full_held c.rest.self c.count.ensures.honest.held (λ k a b e. c.rest.invariant.1 k (omega arith) (omega arith) e)
