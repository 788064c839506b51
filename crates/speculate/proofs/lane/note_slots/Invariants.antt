use Rattle.std.proofs.Common.{◌≡◌, ◌<◌, ℕ, ℤ, Some, slice_get}
use Rattle.speculate.specs.Tables.{IsThere, Grows}
use Rattle.speculate.proofs.lane.note_slots.Given as goal

abbrev pub invariant-at : goal.invariant-at
invariant-at l = record {
  grows : Grows l.fn.read l.read;
  there : (k : ℕ) (o : ℤ) → k < l.at → slice_get l.objects k ≡ Some o → IsThere l.read o;
}
