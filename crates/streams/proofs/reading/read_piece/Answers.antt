use Rattle.std.proofs.Common.{rules, take}
use Rattle.std.proofs.lemmas.List.{map-append}
use Rattle.telnet_line.specs.Events.{events_given}
use Rattle.streams.proofs.Growing.{part_grows}
use Rattle.streams.proofs.reading.read_piece.Goals as goal

pub returns-in-Ok-append-clause-part : goal.returns-in-Ok-append-clause-part
returns-in-Ok-append-clause-part g c stream part =
    part_grows stream _ _ (take c.in-Ok.count c.read.new.buffer) _ _ (events_given c.in-Ok-feed.events.items) _ _ c.in-Ok.ensures.bytes (search (rules, map-append, c.in-Ok-append.ensures.items)) c.in-Ok-feed.ensures.ok part
