use Rattle.std.proofs.Common.{[]}
use Rattle.telnet_line.proofs.Readings.{has_read}
use Rattle.telnet_line.proofs.reader.Reader.new.Goals as goal

pub returns : goal.returns
returns c = rw c.new.ensures (has_read [])
