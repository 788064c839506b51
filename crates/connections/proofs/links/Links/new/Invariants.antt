use Rattle.std.proofs.Common.{◌≡◌, vec_len}
use Rattle.connections.proofs.links.Links.new.Given as goal

abbrev pub invariant-place : goal.invariant-place
invariant-place l = vec_len l.places ≡ l.counter
