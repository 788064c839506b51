-- The constructs under way are those on the path of the program, and the values that they hold are as many as they want.
use Rattle.std.proofs.Common.{◌≡◌, ℕ, suc, ℤ, pos, List, [], ◌∷◌, map, length, IsTrue, Bool, true, false, ◌&&◌, nat_le, refl, ap, sym, subst, ◌∙◌, cond, Option, Some, None, is_eq, int_cmp, Ordering, Less, Equal, Greater}
use Rattle.std.specs.Prelude.{option_map}
use Rattle.std.specs.List.{list_all}
use Rattle.std.specs.Cmp.{int_cmp_total}
use Rattle.std.specs.FinMap.{int_cmp-IsAntisymmetric}
use Rattle.std.specs.FinMap.Entries.{same_entries}
use Rattle.std.proofs.lemmas.List.{append-nil}
use Rattle.spec_value.specs.Datum.{Text, Datum, integer, object, list}
use Rattle.spec_value.specs.Table.{Numbered, at}
use Rattle.spec_value.proofs.Entries.{first_holds, second_holds}
use Rattle.spec_value.proofs.Keys.{as_type}
use Rattle.spec_program.specs.Tree.{Program}
use Rattle.spec_program.specs.Construct.{Construct, of_program, Piece}
use Rattle.spec_program.specs.Place.{Kind, Holds, holds, walks_list, walks_range, why_left, Part, part_at, tree_of, Linked, held_count}
use Rattle.spec_world.specs.World.{World, Frame, Native, Entry, frame_entry, native_entry, Waiting, forked, timed, idle, reading_on, Task}
use Rattle.spec_world.specs.WellFormed.{kind_fits, kinds_fit, held_fits, loops, part_fits, pieces_fit, frame_fits, is_variable, entry_fits, begins_with_frame, frames, at_beginning, fork_fits, is_moment, waiting_fits, FramesStand, TaskStands, IsWellFormed}
use Rattle.spec_value.specs.Table.{is_named}
use Rattle.spec_world.specs.Checkpoint.{values_held, each_task}
use Rattle.spec_checkpoint.specs.TasksTold.{TasksReadOnce}
use Rattle.spec_checkpoint.proofs.Runs.{first_same, rest_same}
use Rattle.spec_checkpoint.proofs.Turned.{parted_same}
use Rattle.spec_checkpoint.proofs.Paths.{parts_of}
use Rattle.spec_checkpoint.proofs.FrameRecords.{FrameShown, frame_key}
use Rattle.spec_checkpoint.proofs.EntryRecords.{Shown, frame_shown, native_shown, entry_key}
use Rattle.spec_checkpoint.proofs.TaskRecords.{TaskShown, task_shown, task_key, tasks_in_front}

-- ---- how many values are held

kinds_length : (ks : List Kind) (vs : List Datum) → IsTrue (kinds_fit ks vs) → length vs ≡ length ks
kinds_length [] [] h = refl
kinds_length [] (v ∷ vs) h = cc
kinds_length (k ∷ ks) [] h = cc
kinds_length (k ∷ ks) (v ∷ vs) h = ap suc (kinds_length ks vs (second_holds (kind_fits k v) (kinds_fit ks vs) h))

list_length : (around : ℕ) (vs : List Datum) → IsTrue (held_fits around walks_list vs) → length vs ≡ 2
list_length around (list xs ∷ integer (pos k) ∷ []) h = refl
list_length around _ h = cc

range_length : (around : ℕ) (vs : List Datum) → IsTrue (held_fits around walks_range vs) → length vs ≡ 2
range_length around (integer a ∷ integer b ∷ []) h = refl
range_length around (object a ∷ object b ∷ []) h = refl
range_length around _ h = cc

reason_length : (around : ℕ) (vs : List Datum) → IsTrue (held_fits around why_left vs) → length vs ≡ 1
reason_length around (list xs ∷ []) h = refl
reason_length around _ h = cc

held_length : (around : ℕ) (x : Holds) (vs : List Datum) → IsTrue (held_fits around x vs) → length vs ≡ held_count x
held_length around (holds ks) vs h = kinds_length ks vs h
held_length around walks_list vs h = list_length around vs h
held_length around walks_range vs h = range_length around vs h
held_length around why_left vs h = reason_length around vs h

abbrev wanted : Option Part → ℕ
wanted None = 0
wanted (Some x) = held_count x.held

part_length : (around : ℕ) (vs : List Datum) (x : Option Part) → IsTrue (part_fits around vs x) → length vs ≡ wanted x
part_length around vs None h = cc
part_length around vs (Some x) h = held_length around x.held vs h

-- ---- the constructs

abbrev constructs : List Piece → List Construct
constructs ps = map (λ p. p.construct) ps

same_construct : (c d : Construct) → ◌≡◌ {A = Option Construct} (Some c) (Some d) → c ≡ d
same_construct c d e = cc

-- from the outermost, which is the program
linked_same : (ps qs : List Piece) (c d root : Construct) → parts_of ps ≡ parts_of qs → Linked c ps root → Linked d qs root → (c ≡ d) × (constructs ps ≡ constructs qs)
linked_same [] [] c d root e l m = (l ∙ sym m, refl)
linked_same [] (q ∷ qs) c d root e l m = cc
linked_same (p ∷ ps) [] c d root e l m = cc
linked_same (p ∷ ps) (q ∷ qs) c d root e l m =
    let rest = linked_same ps qs p.construct q.construct root (rest_same p.part q.part (parts_of ps) (parts_of qs) e) l.1 m.1 in
    let part = first_same p.part q.part (parts_of ps) (parts_of qs) e in
    let tree : tree_of (part_at p.construct p.part) ≡ tree_of (part_at q.construct q.part) = λ i. tree_of (part_at (rest.0 i) (part i)) in
    (same_construct c d (sym l.0 ∙ tree ∙ m.0), λ i. rest.0 i ∷ rest.1 i)

pieces_same : (ps qs : List Piece) → constructs ps ≡ constructs qs → parts_of ps ≡ parts_of qs → IsTrue (pieces_fit ps) → IsTrue (pieces_fit qs) → values_held ps ≡ values_held qs → ps ≡ qs
pieces_same [] [] c n h k e = refl
pieces_same [] (q ∷ qs) c n h k e = cc
pieces_same (p ∷ ps) [] c n h k e = cc
pieces_same (p ∷ ps) (q ∷ qs) c n h k e =
    let construct = first_same p.construct q.construct (constructs ps) (constructs qs) c in
    let part = first_same p.part q.part (parts_of ps) (parts_of qs) n in
    let as_many : length p.held ≡ length q.held =
    part_length (loops ps) p.held (part_at p.construct p.part) (first_holds (part_fits (loops ps) p.held (part_at p.construct p.part)) (pieces_fit ps) h)
    ∙ (λ i. wanted (part_at (construct i) (part i)))
    ∙ sym (part_length (loops qs) q.held (part_at q.construct q.part) (first_holds (part_fits (loops qs) q.held (part_at q.construct q.part)) (pieces_fit qs) k)) in
    let held = parted_same (values_held ps) (values_held qs) p.held q.held as_many e in
    let rest = pieces_same ps qs (rest_same p.construct q.construct (constructs ps) (constructs qs) c) (rest_same p.part q.part (parts_of ps) (parts_of qs) n)
    (second_holds (part_fits (loops ps) p.held (part_at p.construct p.part)) (pieces_fit ps) h) (second_holds (part_fits (loops qs) q.held (part_at q.construct q.part)) (pieces_fit qs) k) held.0 in
    λ i. record { construct = construct i; part = part i; held = held.1 i } ∷ rest i

-- ---- frames

-- its pieces lead out of some construct to its program
abbrev IsLinked : Frame → Type 0
IsLinked f = (c : Construct) × Linked c f.pieces (of_program f.program)

frame_told : (f g : Frame) → IsTrue (frame_fits f) → IsTrue (frame_fits g) → IsLinked f → IsLinked g → frame_key f ≡ frame_key g → f ≡ g
frame_told f g h k l m e =
    let program : f.program ≡ g.program = ap (λ x. x.program) e in
    let parts : parts_of f.pieces ≡ parts_of g.pieces = ap (λ x. x.parts) e in
    let linked : Linked l.0 f.pieces (of_program g.program) = subst (λ p. Linked l.0 f.pieces (of_program p)) program l.1 in
    let same = linked_same f.pieces g.pieces l.0 m.0 (of_program g.program) parts linked m.1 in
    let h1 = second_holds (is_named f.variables && list_all (λ (v : Text × Datum). is_variable v.0) f.variables) (pieces_fit f.pieces) h in
    let k1 = second_holds (is_named g.variables && list_all (λ (v : Text × Datum). is_variable v.0) g.variables) (pieces_fit g.pieces) k in
    let pieces = pieces_same f.pieces g.pieces same.1 parts h1 k1 (ap (λ x. x.held) e) in
    λ i. record { call = (e i).call; start = (e i).start; program = (e i).program; variables = (e i).variables; pieces = pieces i }

-- ---- entries

abbrev AreLinked : List Entry → Type 0
AreLinked [] = Unit {0}
AreLinked (frame_entry f ∷ es) = IsLinked f × AreLinked es
AreLinked (native_entry n ∷ es) = AreLinked es

standing_linked : (es : List Entry) → FramesStand es → AreLinked es
standing_linked [] h = tt
standing_linked (frame_entry f ∷ es) h = (((h.0).0, (h.0).2), standing_linked es h.1)
standing_linked (native_entry n ∷ es) h = standing_linked es h

beginning_linked : (p : Program) (ps : List Piece) → IsTrue (at_beginning ps) → (c : Construct) × Linked c ps (of_program p)
beginning_linked p [] h = (of_program p, refl)
beginning_linked p (q ∷ ps) h = cc

fork_linked : (es : List Entry) → IsTrue (fork_fits es) → AreLinked es
fork_linked [] h = cc
fork_linked (frame_entry f ∷ []) h = (beginning_linked f.program f.pieces h, tt)
fork_linked (frame_entry f ∷ e ∷ es) h = cc
fork_linked (native_entry n ∷ es) h = cc

task_linked : (w : World) (t : Task) (x : Waiting) → IsTrue (waiting_fits w t x) → TaskStands t x → AreLinked t.entries
task_linked w t (forked due) h s = fork_linked t.entries (second_holds (is_moment due) (fork_fits t.entries) h)
task_linked w t (timed due v) h s = standing_linked t.entries s
task_linked w t idle h s = standing_linked t.entries s
task_linked w t (reading_on c) h s = standing_linked t.entries s

frame_in : Shown → FrameShown → FrameShown
frame_in (frame_shown f) d = f
frame_in (native_shown n) d = d

native_in : Shown → Native → Native
native_in (frame_shown f) d = d
native_in (native_shown n) d = n

is_frame : Shown → Bool
is_frame (frame_shown f) = true
is_frame (native_shown n) = false

no_frame : (f : FrameShown) (n : Native) → frame_shown f ≡ native_shown n → ⊥
unfolding is_frame
no_frame f n e = let b : true ≡ false = ap is_frame e in cc

entries_told : (es fs : List Entry) → IsTrue (list_all entry_fits es) → IsTrue (list_all entry_fits fs) → AreLinked es → AreLinked fs → map entry_key es ≡ map entry_key fs → es ≡ fs
unfolding frame_in native_in
entries_told [] [] h k l m e = refl
entries_told [] (f ∷ fs) h k l m e = cc
entries_told (x ∷ es) [] h k l m e = cc
entries_told (frame_entry f ∷ es) (frame_entry g ∷ fs) h k l m e =
    let key : frame_key f ≡ frame_key g = ap (λ x. frame_in x (frame_key f)) (first_same (frame_shown (frame_key f)) (frame_shown (frame_key g)) (map entry_key es) (map entry_key fs) e) in
    let one = frame_told f g (first_holds (frame_fits f) (list_all entry_fits es) h) (first_holds (frame_fits g) (list_all entry_fits fs) k) l.0 m.0 key in
    let rest = entries_told es fs (second_holds (frame_fits f) (list_all entry_fits es) h) (second_holds (frame_fits g) (list_all entry_fits fs) k) l.1 m.1 (rest_same (frame_shown (frame_key f)) (frame_shown (frame_key g)) (map entry_key es) (map entry_key fs) e) in
    λ i. frame_entry (one i) ∷ rest i
entries_told (frame_entry f ∷ es) (native_entry n ∷ fs) h k l m e =
    absurd (no_frame (frame_key f) n (first_same (frame_shown (frame_key f)) (native_shown n) (map entry_key es) (map entry_key fs) e))
entries_told (native_entry n ∷ es) (frame_entry g ∷ fs) h k l m e =
    absurd (no_frame (frame_key g) n (sym (first_same (native_shown n) (frame_shown (frame_key g)) (map entry_key es) (map entry_key fs) e)))
entries_told (native_entry a ∷ es) (native_entry b ∷ fs) h k l m e =
    let one : a ≡ b = ap (λ x. native_in x a) (first_same (native_shown a) (native_shown b) (map entry_key es) (map entry_key fs) e) in
    let rest = entries_told es fs (second_holds (entry_fits (native_entry a)) (list_all entry_fits es) h) (second_holds (entry_fits (native_entry b)) (list_all entry_fits fs) k) l m (rest_same (native_shown a) (native_shown b) (map entry_key es) (map entry_key fs) e) in
    λ i. native_entry (one i) ∷ rest i

-- ---- tasks

shown_at : (es : Numbered Task) (k : ℤ) → at (map task_key es) k ≡ option_map task_shown (at es k)
shown_at [] k = refl
shown_at (e ∷ es) k = go (int_cmp k e.0) (shown_at es k)
  where
    go : (r : Ordering) → at (map task_key es) k ≡ option_map task_shown (at es k) → cond (is_eq r) (Some (task_shown e.1)) (at (map task_key es) k) ≡ option_map task_shown (cond (is_eq r) (Some e.1) (at es k))
    go Less later = later
    go Greater later = later
    go Equal later = refl

same_shown : (x y : TaskShown) → ◌≡◌ {A = Option TaskShown} (Some x) (Some y) → x ≡ y
same_shown x y e = cc

module _ (v w : World) (hv : IsWellFormed v) (hw : IsWellFormed w) (e : map task_key v.tasks ≡ map task_key w.tasks) where
  task_fits : (w : World) (h : IsWellFormed w) (i : ℤ) (t : Task) → at w.tasks i ≡ Some t → IsTrue (list_all entry_fits t.entries) × AreLinked t.entries
  task_fits w h i t is =
      (second_holds (begins_with_frame t.entries && nat_le (frames t.entries) 50) (list_all entry_fits t.entries) (h.task_entries i t is), task_linked w t t.waiting (h.task_waits i t is) (h.task_places i t is))

  task_found : (i : ℤ) → at v.tasks i ≡ at w.tasks i
  task_found i = go (at v.tasks i) (at w.tasks i) refl refl (sym (shown_at v.tasks i) ∙ ap (λ (es : Numbered TaskShown). at es i) e ∙ shown_at w.tasks i)
    where
      go : (m n : Option Task) → at v.tasks i ≡ m → at w.tasks i ≡ n → option_map task_shown m ≡ option_map task_shown n → m ≡ n
      go None None a b s = refl
      go None (Some y) a b s = cc
      go (Some x) None a b s = cc
      go (Some x) (Some y) a b s =
          let t = same_shown (task_shown x) (task_shown y) s in
          let fx = task_fits v hv i x a in
          let fy = task_fits w hw i y b in
          let entries = entries_told x.entries y.entries fx.0 fy.0 fx.1 fy.1 (ap (λ z. z.entries) t) in
          λ j. Some (record { player = (t j).player; waiting = (t j).waiting; entries = entries j })

  pub tasks_same : v.tasks ≡ w.tasks
  tasks_same = same_entries int_cmp int_cmp_total int_cmp-IsAntisymmetric v.tasks w.tasks (as_type _ hv.tasks_in_order) (as_type _ hw.tasks_in_order) task_found

pub tasks_read_once : TasksReadOnce
tasks_read_once v w hv hw h k e =
    let p = tasks_in_front v.tasks w.tasks [] [] h k refl refl refl refl (append-nil (each_task v.tasks) ∙ e ∙ sym (append-nil (each_task w.tasks))) in
    tasks_same v w hv hw p.0
