-- A board by its fields.
use Rattle.speculate.specs.declared.board.Board.TheInside.{Inside}
use Rattle.speculate.specs.BoardState.{BoardState}

abbrev pub seen : Inside → BoardState
seen b = record { base = b.base.value; steps = b.steps.items; world = b.world; outcomes = b.outcomes.items; marks = b.marks.items; held = b.held.items; undone = b.undone; since = b.since }
