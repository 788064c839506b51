-- Where texts spell the programs of the entries of a task, they spell those of all that waits.
use Rattle.std.proofs.Common.{◌≡◌, sym, subst, ℤ, true, List, [], ◌∷◌, IsTrue}
use Rattle.std.specs.List.{list_all}
use Rattle.spec_value.proofs.Entries.{first_holds, second_holds}
use Rattle.spec_program.specs.Trees.{program_fits}
use Rattle.spec_world.specs.World.{Entry, frame_entry, native_entry, Waiting, forked, timed, idle, reading_on, Task}
use Rattle.spec_holding.specs.Whole.{entry_spelled}
use Rattle.moo_code.specs.Machine.{Kept, Outer, verb, native, entries}
use Rattle.moo_code.specs.Rebuilding.{entries_of}
use Rattle.moo_code.specs.Stands.{AllWait}
use Rattle.moo_task.specs.Keeping.{BeginsAlone, AllAtCall, IsKept, those, entries_for, task_of}
use Rattle.moo_task.proofs.Kept.{rebuilt_there}
use Rattle.world_checks.specs.Waiting.{AllSpelled}

found_spelled : (es : List Entry) (ks : List Outer) → AllWait es ks → IsTrue (list_all entry_spelled es) → AllSpelled ks
found_spelled [] [] h g = tt
found_spelled (frame_entry f ∷ es) (verb k ∷ ks) h g = (
  subst (λ (j : Kept). IsTrue (program_fits [] j.program)) (sym (h.0).is) (first_holds (program_fits [] f.program) _ g),
  found_spelled es ks h.1 (second_holds (program_fits [] f.program) _ g),
)
found_spelled (native_entry n ∷ es) (native m ∷ ks) h g = (tt, found_spelled es ks h.1 g)
found_spelled [] (k ∷ ks) h g = absurd h
found_spelled (frame_entry f ∷ es) [] h g = absurd h
found_spelled (frame_entry f ∷ es) (native m ∷ ks) h g = absurd h
found_spelled (native_entry n ∷ es) [] h g = absurd h
found_spelled (native_entry n ∷ es) (verb k ∷ ks) h g = absurd h

at_call_spelled : (ks : List Outer) → AllAtCall ks → IsTrue (list_all entry_spelled (those (entries_of ks))) → AllSpelled ks
at_call_spelled [] h g = absurd h
at_call_spelled (native n ∷ ks) h g = absurd h
at_call_spelled (verb k ∷ ks) h g =
    found_spelled (frame_entry h.frame ∷ h.entries) (verb k ∷ ks) h.waiting (subst (λ es. IsTrue (list_all entry_spelled es)) (rebuilt_there k ks h) g)

alone_spelled : (ks : List Outer) → BeginsAlone ks → IsTrue (list_all entry_spelled (entries ks)) → AllSpelled ks
alone_spelled [] b h = absurd b
alone_spelled (native n ∷ ks) b h = absurd b
alone_spelled (verb k ∷ x ∷ ks) b h = absurd b
alone_spelled (verb k ∷ []) b h = (first_holds (program_fits [] k.program) true h, tt)

pub spelled_there : (t : Task) (p : ℤ) (why : Waiting) (ks : List Outer) → t ≡ task_of p why ks → IsKept why ks → IsTrue (list_all entry_spelled t.entries) → AllSpelled ks
spelled_there t p why ks is kept h = go why kept (subst (λ (u : Task). IsTrue (list_all entry_spelled u.entries)) is h)
  where
    go : (why : Waiting) → IsKept why ks → IsTrue (list_all entry_spelled (entries_for why ks)) → AllSpelled ks
    go (forked m) k h = alone_spelled ks k h
    go (timed m v) k h = at_call_spelled ks k h
    go idle k h = at_call_spelled ks k h
    go (reading_on c) k h = at_call_spelled ks k h
