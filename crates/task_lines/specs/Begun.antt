-- What an entry's own line tells.
use Rattle.std.specs.Prelude.{◌≡◌, List, length, Bool}
use Rattle.spec_value.specs.Datum.{Text}
use Rattle.spec_program.specs.Spelling.{canonical_lines}
use Rattle.spec_world.specs.World.{Entry, frame_entry, native_entry}
use Rattle.moo_task.specs.Frames.{native_of}
use Rattle.task_lines.specs.Entries.{call_fields, native_fields, may_stand}
use Rattle.task_lines.specs.declared.entry.Begun.{Begun}
use Rattle.task_lines.specs.declared.entry.Begun.TheVariants.{Verb, Native}
use Rattle.task_lines.specs.declared.entry.Place.{Place}

abbrev pub entry_fields : Entry → List Text
entry_fields (frame_entry f) = call_fields f.call (length (canonical_lines f.program))
entry_fields (native_entry n) = native_fields n

abbrev pub BegunBy : Entry → Begun → Type 0
BegunBy (frame_entry f) (Verb h) = (h.call ≡ f.call) × (h.lines ≡ length (canonical_lines f.program))
BegunBy (frame_entry f) (Native m) = ⊥
BegunBy (native_entry n) (Verb h) = ⊥
BegunBy (native_entry n) (Native m) = native_of m ≡ n

abbrev pub may_stand_at : Place → Entry → Bool
may_stand_at p e = may_stand p.is_fork p.is_first p.is_last p.is_behind_native p.verbs e
