use Rattle.streams.proofs.Growing.{part_ends}
use Rattle.streams.proofs.reading.read_stream.Goals as goal

pub returns-clause-spells : goal.returns-clause-spells
returns-clause-spells g c =
    part_ends _ (g.S.Source.left c.read_piece.new.source) _ c.read_piece.new.reader (c.in_ok-read_piece.ensures.end c.if-branch.false) (c.in_ok-read_piece.ensures.part (g.S.Source.left c.args.source.now) c.piece.invariant.0)
