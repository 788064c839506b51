use Rattle.std.proofs.Common.{◌≡◌, ◌≤◌, ◌+◌, ◌-◌, drop, length}
use Rattle.connections.specs.Places.{in_use, leading}
use Rattle.connections.proofs.links.Links.first_free.Given as goal

abbrev pub invariant-place : goal.invariant-place
invariant-place l = (leading (in_use l.self.places.items) ≡ l.at + leading (in_use (drop l.at l.self.places.items))) × (l.at ≤ length l.self.places.items)

abbrev pub decreases-place : goal.decreases-place
decreases-place l = length l.self.places.items - l.at
