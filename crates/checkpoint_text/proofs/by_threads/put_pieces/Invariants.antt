use Rattle.std.proofs.Common.{◌≡◌, ◌++◌, length, string_bytes}
use Rattle.std.specs.List.{flat_map}
use Rattle.std.specs.Vec.Iter.{into_iter_items, into_iter_len}
use Rattle.checkpoint_text.proofs.by_threads.put_pieces.Given as goal

abbrev pub invariant-loop-piece : goal.invariant-loop-piece
invariant-loop-piece l =
    (l.page ++ flat_map (λ t. string_bytes t) (into_iter_items l.piece-iterator) ≡ l.fn.page ++ flat_map (λ t. string_bytes t) (into_iter_items l.initial.piece-iterator))
    × (into_iter_len l.piece-iterator ≡ length (into_iter_items l.piece-iterator))
