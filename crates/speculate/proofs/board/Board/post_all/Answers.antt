use Rattle.std.proofs.Common.{◌≡◌, ◌∙◌, ℕ}
use Rattle.std.proofs.lemmas.List.Elements.{All-pop}
use Rattle.speculate.specs.declared.guesses.Guess.{Guess}
use Rattle.speculate.specs.BoardState.{world_after}
use Rattle.speculate.proofs.board.Board.post_all.Goals as goal

pub found-preserved : goal.found-preserved
found-preserved c =
    let P : ℕ × Guess → Type 0 = λ f. f.1.before ≡ world_after c.args.self.now.base.plain c.args.self.now.steps c.args.seen in (
      (All-pop P c.found.found.items c.pop.new.self.items c.pop.result c.pop.ensures.items c.found.invariant.0).0,
      c.post_seen.ensures.0 ∙ c.found.invariant.1,
      c.post_seen.ensures.1 ∙ c.found.invariant.2,
    )
