use Rattle.std.proofs.Common.{◌≡◌, ◌<◌, ℕ, Some, None, length, slice_get, slice_index_or}
use Rattle.named_objects.specs.declared.record.ObjectRecord.{ObjectRecord}
use Rattle.named_objects.specs.Ways.{IsPlace, numbers_of}
use Rattle.named_objects.proofs.names.parents.Given as goal

abbrev pub invariant-loop-record : goal.invariant-loop-record
invariant-loop-record l =
    (length l.parents.items ≡ l.record-index)
    × ((k : ℕ) (r : ObjectRecord) → k < l.record-index → slice_get l.records k ≡ Some r → IsPlace (numbers_of l.records) r.header.parent (slice_index_or l.parents.items k None))
