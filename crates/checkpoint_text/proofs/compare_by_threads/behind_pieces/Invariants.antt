use Rattle.std.proofs.Common.{drop, string_bytes}
use Rattle.std.specs.List.{flat_map}
use Rattle.checkpoint_text.proofs.Behind.{AreLeft}
use Rattle.checkpoint_text.proofs.compare_by_threads.behind_pieces.Given as goal

abbrev pub invariant-loop-piece : goal.invariant-loop-piece
invariant-loop-piece l =
    AreLeft (flat_map (λ t. string_bytes t) l.pieces) (flat_map (λ t. string_bytes t) (drop l.piece-index l.pieces)) l.bytes l.left
