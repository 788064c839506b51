use Rattle.std.proofs.Common.{◌≡◌, take, drop, map, length}
use Rattle.streams.specs.Writes.{EachWritten}
use Rattle.moo_session.specs.Texts.{all_items}
use Rattle.moo_session.proofs.writing.write_all.Given as goal

abbrev pub invariant-sink : goal.invariant-sink
invariant-sink g l = EachWritten (map g.W.Sink.written (take l.at l.fn.sinks)) (map g.W.Sink.written (take l.at l.sinks)) (all_items (take l.at l.texts)) × (drop l.at l.sinks ≡ drop l.at l.fn.sinks) × (length l.sinks ≡ length l.fn.sinks)
