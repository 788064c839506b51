use Rattle.telnet_line.proofs.Readings.{has_read, only_events, only_reading}
use Rattle.telnet_line.proofs.laws.byte_by_byte.Goals as goal

pub returns : goal.returns
returns c = record { read = has_read; events = only_events; reading = only_reading }
