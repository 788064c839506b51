-- Events as a caller gets them, without where they lie in memory.
use Rattle.std.specs.Prelude.{List, map}
use Rattle.std.specs.String.{string_bytes}
use Rattle.telnet_line.specs.declared.event.Event.{Event as Given}
use Rattle.telnet_line.specs.declared.event.Event.TheVariants as given
use Rattle.telnet_line.specs.Telnet.{Event, Line, Reply}

abbrev pub event_of : Given → Event
event_of (given.Line text) = Line (string_bytes text)
event_of (given.Reply bytes) = Reply bytes.items

abbrev pub events_given : List Given → List Event
events_given events = map event_of events
