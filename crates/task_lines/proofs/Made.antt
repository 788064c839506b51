-- What is read makes the task that the lines tell.
use Rattle.std.proofs.Common.{◌≡◌, ◌∙◌, refl, sym, ap, subst, ℕ, ℤ, ◌&&◌, Bool, true, false, List, [], ◌∷◌, ◌++◌, map, reverse, Option, Some, None, IsTrue, IfSome}
use Rattle.std.specs.Prelude.{is_some}
use Rattle.std.specs.List.{list_all}
use Rattle.std.proofs.lemmas.List.{reverse-append, reverse-reverse, map-append}
use Rattle.spec_value.specs.Table.{is_named}
use Rattle.spec_value.proofs.Entries.{first_holds, second_holds, both_hold}
use Rattle.spec_program.specs.Construct.{Piece}
use Rattle.spec_world.specs.World.{Frame, Entry, frame_entry, native_entry, Waiting, forked, timed, idle, reading_on, Task}
use Rattle.spec_world.specs.WellFormed.{FramesStand, is_variable, pieces_fit, frame_fits, begins_with_frame, fork_fits}
use Rattle.moo_code.specs.Machine.{Outer, native}
use Rattle.moo_code.specs.Rebuilding.{entries_of}
use Rattle.moo_code.specs.Resuming.{AllCounted}
use Rattle.moo_code.specs.Resuming as resuming
use Rattle.moo_code.specs.Stands.{Counted, operands, AllWait}
use Rattle.moo_code.proofs.Rebuilding.{entries_rebuilt}
use Rattle.moo_code.proofs.Resuming.{outers_wait, fitting_counted}
use Rattle.moo_task.specs.Frames.{outer_of, outers_of}
use Rattle.moo_task.specs.Keeping.{BeginsAlone, AllAtCall, IsKept, those, task_of}
use Rattle.moo_task.specs.declared.frame.Outer.{Outer as Stored}
use Rattle.task_lines.specs.Entries.{outer_for}
use Rattle.task_lines.specs.Tasks.{FrameReads, EntryReads, OrderReads, AllRead, is_forked, TaskReads}

-- ---- of a verb

pub sorted_of : (f : Frame) → FrameReads f → IsTrue (is_named f.variables)
sorted_of f h =
    first_holds (is_named f.variables) (list_all (λ e. is_variable e.0) f.variables)
    (first_holds (is_named f.variables && list_all (λ e. is_variable e.0) f.variables) (pieces_fit f.pieces) h.fits)

pub pieces_of : (f : Frame) → FrameReads f → IsTrue (pieces_fit f.pieces)
pieces_of f h = second_holds (is_named f.variables && list_all (λ e. is_variable e.0) f.variables) (pieces_fit f.pieces) h.fits

pub counted_of : (f : Frame) → FrameReads f → Counted f.pieces
counted_of f h = (fitting_counted (frame_entry f ∷ []) (both_hold (frame_fits f) true h.fits refl)).0

-- ---- turned round

read_behind : (is_fork : Bool) (es : List Entry) (e : Entry) → AllRead is_fork es → EntryReads is_fork e → AllRead is_fork (es ++ e ∷ [])
read_behind is_fork [] e h k = (k, tt)
read_behind is_fork (d ∷ es) e h k = (h.0, read_behind is_fork es e h.1 k)

pub read_turned : (is_fork : Bool) (es : List Entry) → AllRead is_fork es → AllRead is_fork (reverse es)
read_turned is_fork [] h = tt
read_turned is_fork (e ∷ es) h = subst (AllRead is_fork) (sym (reverse-append (e ∷ []) es)) (read_behind is_fork (reverse es) e (read_turned is_fork es h.1) h.0)

map_turned : {A B : Type 0} (f : A → B) (xs : List A) → map f (reverse xs) ≡ reverse (map f xs)
map_turned f [] = refl
map_turned f (x ∷ xs) =
    ap (map f) (reverse-append (x ∷ []) xs) ∙ map-append f (reverse xs) (x ∷ []) ∙ ap (λ ys. ys ++ f x ∷ []) (map_turned f xs)
    ∙ sym (reverse-append (f x ∷ []) (map f xs))

-- stored with the innermost last
pub turned_back : (os : List Stored) (g : Entry → Outer) (es : List Entry) → map outer_of os ≡ map g (reverse es) → outers_of os ≡ map g es
turned_back os g es e = map_turned outer_of os ∙ ap reverse (e ∙ map_turned g es) ∙ reverse-reverse (map g es)

-- ---- at calls

same_outers : (es : List Entry) → resuming.outers_of es ≡ map (outer_for false) es
same_outers [] = refl
same_outers (frame_entry f ∷ es) = ap (λ ks. outer_for false (frame_entry f) ∷ ks) (same_outers es)
same_outers (native_entry n ∷ es) = ap (λ ks. native n ∷ ks) (same_outers es)

all_stand : (es : List Entry) → AllRead false es → FramesStand es
all_stand [] h = tt
all_stand (frame_entry f ∷ es) h = (h.0.1, all_stand es h.1)
all_stand (native_entry n ∷ es) h = all_stand es h.1

all_counted : (es : List Entry) → AllRead false es → AllCounted es
all_counted [] h = tt
all_counted (frame_entry f ∷ es) h = (counted_of f h.0.0, all_counted es h.1)
all_counted (native_entry n ∷ es) h = all_counted es h.1

all_wait : (es : List Entry) → AllRead false es → AllWait es (map (outer_for false) es)
all_wait es h = subst (AllWait es) (same_outers es) (outers_wait es (all_stand es h) (all_counted es h))

at_calls : (es : List Entry) → AllRead false es → IsTrue (begins_with_frame es) → AllAtCall (map (outer_for false) es)
at_calls [] h order = cc
at_calls (native_entry n ∷ es) h order = cc
at_calls (frame_entry f ∷ es) h order =
    record { frame = f; entries = es; waiting = all_wait (frame_entry f ∷ es) h; standing = all_stand (frame_entry f ∷ es) h }

entries_back : (es : List Entry) → AllRead false es → those (entries_of (map (outer_for false) es)) ≡ es
entries_back es h = ap those (entries_rebuilt es (map (outer_for false) es) (all_wait es h) (all_stand es h))

-- ---- a fork

alone : (es : List Entry) → AllRead true es → IsTrue (fork_fits es) → BeginsAlone (map (outer_for true) es)
alone [] h fork = cc
alone (native_entry n ∷ es) h fork = cc
alone (frame_entry f ∷ e ∷ es) h fork = cc
alone (frame_entry f ∷ []) h fork = (refl, ap operands h.0.1)

-- ---- the task

kept_so : (why : Waiting) (es : List Entry) → AllRead (is_forked why) es → OrderReads (is_forked why) es → IsKept why (map (outer_for (is_forked why)) es)
kept_so (forked due) es h order = alone es h order
kept_so (timed due v) es h order = at_calls es h order.0
kept_so idle es h order = at_calls es h order.0
kept_so (reading_on c) es h order = at_calls es h order.0

fork_back : (player : ℤ) (due : ℕ) (es : List Entry) → AllRead true es → IsTrue (fork_fits es) → task_of player (forked due) (map (outer_for true) es) ≡ record { player = player; waiting = forked due; entries = es }
fork_back player due [] h fork = cc
fork_back player due (native_entry n ∷ es) h fork = cc
fork_back player due (frame_entry f ∷ e ∷ es) h fork = cc
fork_back player due (frame_entry f ∷ []) h fork =
    ap
    (λ (ps : List Piece).
    record { player = player; waiting = forked due; entries = frame_entry (record { call = f.call; start = f.start; program = f.program; variables = f.variables; pieces = ps }) ∷ [] })
    (sym h.0.1)

task_back : (player : ℤ) (why : Waiting) (es : List Entry) → AllRead (is_forked why) es → OrderReads (is_forked why) es
    → task_of player why (map (outer_for (is_forked why)) es) ≡ record { player = player; waiting = why; entries = es }
task_back player (forked due) es h order = fork_back player due es h order
task_back player (timed due v) es h order = ap (λ xs. record { player = player; waiting = timed due v; entries = xs }) (entries_back es h)
task_back player idle es h order = ap (λ xs. record { player = player; waiting = idle; entries = xs }) (entries_back es h)
task_back player (reading_on c) es h order = ap (λ xs. record { player = player; waiting = reading_on c; entries = xs }) (entries_back es h)

pub task_made : (i : ℤ) (t : Task) (made : Option Task) (player : ℤ) (why : Waiting) (ks : List Outer) → TaskReads i t → player ≡ t.player → why ≡ t.waiting
    → ks ≡ map (outer_for (is_forked t.waiting)) t.entries → IfSome made (λ x. x ≡ task_of player why ks) → (IsKept why ks → IsTrue (is_some made)) → made ≡ Some t
task_made i t made player why ks h players whys outers tells finds = go made tells (finds kept)
  where
    kept : IsKept why ks
    kept = subst (λ z. IsKept z ks) (sym whys) (subst (IsKept t.waiting) (sym outers) (kept_so t.waiting t.entries h.entries h.order))

    same : task_of player why ks ≡ t
    same = (λ j. task_of (players j) (whys j) (outers j)) ∙ task_back t.player t.waiting t.entries h.entries h.order

    go : (o : Option Task) → IfSome o (λ x. x ≡ task_of player why ks) → IsTrue (is_some o) → o ≡ Some t
    go None tells some = cc
    go (Some x) tells some = ap Some (tells ∙ same)
