use Rattle.std.proofs.Common.{◌∙◌, suc, ap, arith}
use Rattle.speculate.specs.BoardState.{BoardState}
use Rattle.speculate.specs.Progress.{Commits}
use Rattle.speculate.proofs.Honest.{advances_keep, commits_ready, commits_count, stays_keep}
use Rattle.speculate.proofs.board.Board.advance.Goals as goal

pub returns-in_err-commit_next-clause-honest : goal.returns-in_err-commit_next-clause-honest
returns-in_err-commit_next-clause-honest c =
    let i = c.next.invariant in
    stays_keep c.next.self c.commit_next.new.self (advances_keep i.0 c.args.self.now c.next.self c.count-from.ensures.honest i.1) c.in_err-commit_next.ensures.err

pub next-smaller : goal.next-smaller
next-smaller c =
    let d : Commits c.next.self c.commit_next.new.self = c.in_ok-commit_next.ensures.done c.if-branch.true in
    omega (arith, commits_ready c.next.self c.commit_next.new.self d)

pub next-preserved : goal.next-preserved
next-preserved c =
    let i = c.next.invariant in
    let d : Commits c.next.self c.commit_next.new.self = c.in_ok-commit_next.ensures.done c.if-branch.true in
    let a = commits_ready c.next.self c.commit_next.new.self d in
    let b = commits_count c.next.self c.commit_next.new.self d in (
      suc i.0,
      (c.next.self, i.1, d),
      omega arith,
      omega arith,
      ap (λ (x : BoardState). x.base) d.after ∙ i.4,
      ap (λ (x : BoardState). x.steps) d.after ∙ i.5,
    )
