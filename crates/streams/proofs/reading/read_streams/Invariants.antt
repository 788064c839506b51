use Rattle.std.proofs.Common.{◌≡◌, length, map, take, drop}
use Rattle.streams.specs.Reads.{EachSpells, all_given}
use Rattle.streams.proofs.reading.read_streams.Given as goal

abbrev pub invariant-source : goal.invariant-source
invariant-source g l = EachSpells (map g.S.Source.left (take l.at l.fn.sources)) (all_given l.all.items) × (drop l.at l.sources ≡ drop l.at l.fn.sources) × (length l.sources ≡ length l.fn.sources) × (length l.all.items ≡ l.at)
