-- A world of values within bounds holds values part by part, and stays one.
use Rattle.std.proofs.Common.{◌≡◌, length, ◌+◌, ◌≤◌, ◌<◌, ◌^◌, ℕ, zero, suc, ℤ, pos, nat_le, ◌&&◌, Bool, true, false, List, [], ◌∷◌, Option, Some, None, IsTrue, refl, sym, ap, ◌∙◌, ◌⊎◌, inl, inr, cond, arith, leb-true}
use Rattle.std.specs.Ordering.{int_eq}
use Rattle.spec_value.proofs.Same.{integer_itself}
use Rattle.spec_world.proofs.Trees.{same_or_not}
use Rattle.spec_world.proofs.Recycling.{below_none}
use Rattle.std.specs.List.{list_all}
use Rattle.spec_value.specs.Datum.{Datum, integer, object, text, error, list, of_list, Text, is_text, is_value, are_values, in_number_range}
use Rattle.spec_value.specs.Table.{at, is_named, is_numbered}
use Rattle.spec_value.proofs.Entries.{first_holds, second_holds, both_hold}
use Rattle.spec_program.specs.Tree.{Expr, listing, call, verb_call, caught, Statement, for_each, guarded, finished, Program}
use Rattle.spec_program.specs.Trees.{is_tree, program_fits}
use Rattle.spec_program.specs.Construct.{Construct, of_expr, of_statement, Piece}
use Rattle.spec_program.specs.Place.{part_at}
use Rattle.spec_world.specs.World.{World, Slot, PrepositionPart, no_preposition, any_preposition, preposition_set, Verb, Header, Object, Call, Entry, frame_entry, native_entry, Waiting, forked, timed, idle, reading_on, Task, Programming, Link}
use Rattle.spec_world.specs.WellFormed.{count, loops, part_fits, pieces_fit, is_variable, begins_with_frame, frames, entry_fits}
use Rattle.spec_world.specs.Checkpoint.{start_values, text_list, lines_held, programming_held}
use Rattle.spec_world.proofs.WorldsKept.{well_formed_agrees}
use Rattle.spec_moo.specs.Leaving.{returned, failed, broken, continued, failure_value, BodyLeft, ended, left_by, read_left}
use Rattle.spec_moo.specs.Effects.Handlers.{code_count}
use Rattle.spec_moo.specs.Steps.{play}
use Rattle.spec_holding.specs.Whole.{programs_spelled, entry_spelled, frames_spelled, TextsSpell}
use Rattle.spec_holding.proofs.WholeWorlds.{stays_whole}
use Rattle.spec_checkpoint.specs.Records.{link_holds}
use Rattle.spec_checkpoint.specs.Holding.{is_number, content_holds, slot_holds, preposition_holds, verb_holds, header_holds, object_holds, numbered_object_holds, call_holds, piece_holds, entry_holds, waiting_holds, task_holds, numbered_task_holds}
use Rattle.spec_values_kept.specs.Values.{is_flat, is_nearly_flat, InRange, IsPrinted, IsValue, IsKept, AreKept, IsHeld, Each, AreValues, IfThere}
use Rattle.spec_values_kept.specs.Nodes.{program_nodes}
use Rattle.spec_values_kept.specs.WorldValues.{SlotHolds, PrepositionHolds, VerbHolds, HeaderHolds, ObjectHolds, CallHolds, VariableHolds, Counts, LeftHolds, TellsLeaving, OneHeld, CodesFirst, AtCode, CaughtHolds, HeldBy, PieceHolds, EntryHolds, EntriesHold, WaitingHolds, TaskHolds, LinesHold, ProgrammingHolds, LinkHolds, NumberedHolds, WorldHolds}
use Rattle.spec_values_kept.specs.Whole.{is_preposition, verb_within, content_within, object_within, left_within, tells_within, one_within, codes_within, at_code_within, caught_within, held_within, entry_within, entries_within, waiting_within, task_within, lines_within, programming_within, link_within, is_within, HoldsValues, IsOfValues, StaysOfValues, FixtureWithin}
use Rattle.spec_values_kept.proofs.Nesting.{kept_value, kept_flat, kept_of, kept_values, kept_count, held_value, held_flat, held_of, held_values}
use Rattle.spec_values_kept.proofs.Leavings.{left_back, left_flat}
use Rattle.spec_values_kept.proofs.Numbers.{below_in_range}
use Rattle.spec_values_kept.proofs.ValuesGiven.{onto_data, first_datum, later_data, data_of}
use Rattle.spec_values_kept.proofs.Tables.{number_there}
use Rattle.spec_values_kept.proofs.TurnsHold.{each_count}
use Rattle.spec_values_kept.proofs.StepsHold.{lists_hold}

-- ---- lists

module _ {X : Type 0} (P : X → Type 0) where
  each_by : (p : X → Bool) → ((x : X) → IsTrue (p x) → P x) → (xs : List X) → IsTrue (list_all p xs) → Each P xs
  each_by p one [] h = tt
  each_by p one (x ∷ xs) h = (one x (first_holds (p x) _ h), each_by p one xs (second_holds (p x) _ h))

  each_by_both : (p q : X → Bool) → ((x : X) → IsTrue (p x) → IsTrue (q x) → P x) → (xs : List X) → IsTrue (list_all p xs) → IsTrue (list_all q xs) → Each P xs
  each_by_both p q one [] h k = tt
  each_by_both p q one (x ∷ xs) h k =
      (one x (first_holds (p x) _ h) (first_holds (q x) _ k), each_by_both p q one xs (second_holds (p x) _ h) (second_holds (q x) _ k))

  all_by : (p : X → Bool) → ((x : X) → P x → IsTrue (p x)) → (xs : List X) → Each P xs → IsTrue (list_all p xs)
  all_by p one [] h = refl
  all_by p one (x ∷ xs) h = both_hold (p x) _ (one x h.0) (all_by p one xs h.1)

-- ---- objects, by tests

content_there : (o : Option Datum) → IsTrue (content_holds o) → IsTrue (content_within o) → IfThere IsKept o
content_there None h k = tt
content_there (Some v) h k = kept_of v k h

slot_there : (s : Slot) → IsTrue (slot_holds s) → IsTrue (content_within s.content) → SlotHolds s
slot_there s h k = (first_holds (in_number_range s.owner) _ h, content_there s.content (second_holds (in_number_range s.owner) _ h) k)

preposition_there : (p : PrepositionPart) → IsTrue (is_preposition p) → PrepositionHolds p
preposition_there no_preposition h = tt
preposition_there any_preposition h = tt
preposition_there (preposition_set n) h = h

verb_there : (v : Verb) → IsTrue (verb_holds v) → IsTrue (verb_within v) → VerbHolds v
verb_there v h k =
    let a = second_holds (is_text v.names) (in_number_range v.owner && (preposition_holds v.preposition && is_tree v.program)) h in
    let b = second_holds (in_number_range v.owner) (preposition_holds v.preposition && is_tree v.program) a in (
      first_holds (is_text v.names) (in_number_range v.owner && (preposition_holds v.preposition && is_tree v.program)) h,
      (
        first_holds (in_number_range v.owner) (preposition_holds v.preposition && is_tree v.program) a,
        (
          preposition_there v.preposition (second_holds (is_number (program_nodes v.program)) (is_preposition v.preposition) k),
          (second_holds (preposition_holds v.preposition) (is_tree v.program) b, first_holds (is_number (program_nodes v.program)) (is_preposition v.preposition) k),
        ),
      ),
    )

header_there : (x : Header) → IsTrue (header_holds x) → HeaderHolds x
header_there x h =
    let a = second_holds (is_text x.name) (in_number_range x.owner && (in_number_range x.parent && in_number_range x.location)) h in
    let b = second_holds (in_number_range x.owner) (in_number_range x.parent && in_number_range x.location) a in (
      first_holds (is_text x.name) (in_number_range x.owner && (in_number_range x.parent && in_number_range x.location)) h,
      (
        first_holds (in_number_range x.owner) (in_number_range x.parent && in_number_range x.location) a,
        (first_holds (in_number_range x.parent) (in_number_range x.location) b, second_holds (in_number_range x.parent) (in_number_range x.location) b),
      ),
    )

object_there : (x : Object) → IsTrue (object_holds x) → IsTrue (object_within x) → ObjectHolds x
object_there x h k =
    let e : Bool = list_all (λ s. slot_holds s.1) x.slots && list_all verb_holds x.verbs in
    let a = second_holds (header_holds x.header) (list_all in_number_range x.children && (list_all in_number_range x.contents && (list_all is_text x.defines && e))) h in
    let b = second_holds (list_all in_number_range x.children) (list_all in_number_range x.contents && (list_all is_text x.defines && e)) a in
    let c = second_holds (list_all in_number_range x.contents) (list_all is_text x.defines && e) b in
    let d = second_holds (list_all is_text x.defines) e c in (
      header_there x.header (first_holds (header_holds x.header) (list_all in_number_range x.children && (list_all in_number_range x.contents && (list_all is_text x.defines && e))) h),
      (
        each_by InRange in_number_range (λ o i. i) x.children (first_holds (list_all in_number_range x.children) (list_all in_number_range x.contents && (list_all is_text x.defines && e)) a),
        (
          each_by InRange in_number_range (λ o i. i) x.contents (first_holds (list_all in_number_range x.contents) (list_all is_text x.defines && e) b),
          (
            each_by IsPrinted is_text (λ t i. i) x.defines (first_holds (list_all is_text x.defines) e c),
            (
              each_by_both (λ (s : Text × Slot). SlotHolds s.1) (λ s. slot_holds s.1) (λ s. content_within (s.1).content) (λ s i j. slot_there s.1 i j) x.slots (first_holds (list_all (λ s. slot_holds s.1) x.slots) (list_all verb_holds x.verbs) d) (first_holds (list_all (λ s. content_within (s.1).content) x.slots) (list_all verb_within x.verbs) k),
              each_by_both VerbHolds verb_holds verb_within verb_there x.verbs (second_holds (list_all (λ s. slot_holds s.1) x.slots) (list_all verb_holds x.verbs) d) (second_holds (list_all (λ s. content_within (s.1).content) x.slots) (list_all verb_within x.verbs) k),
            ),
          ),
        ),
      ),
    )

-- ---- tasks, by tests

values_there : (vs : List Datum) → IsTrue (list_all is_value vs) → AreValues vs
values_there vs h = each_by IsValue is_value (λ v i. i) vs h

call_there : (c : Call) → IsTrue (call_holds c) → CallHolds c
call_there c h =
    let r : Bool = in_number_range c.programmer && is_text c.verb in
    let a = second_holds (in_number_range c.this) (in_number_range c.caller && (in_number_range c.definer && r)) h in
    let b = second_holds (in_number_range c.caller) (in_number_range c.definer && r) a in
    let d = second_holds (in_number_range c.definer) r b in (
      first_holds (in_number_range c.this) (in_number_range c.caller && (in_number_range c.definer && r)) h,
      (
        first_holds (in_number_range c.caller) (in_number_range c.definer && r) a,
        (first_holds (in_number_range c.definer) r b, (first_holds (in_number_range c.programmer) (is_text c.verb) d, second_holds (in_number_range c.programmer) (is_text c.verb) d)),
      ),
    )

flat_there : (vs : List Datum) → IsTrue (list_all is_value vs) → IsTrue (list_all is_flat vs) → AreKept vs
flat_there vs h k = each_by_both IsKept is_value is_flat (λ v i j. kept_of v j i) vs h k

so_far_there : (vs : List Datum) → IsTrue (list_all is_value vs) → IsTrue (list_all is_nearly_flat vs) → Each IsHeld vs
so_far_there vs h k = each_by_both IsHeld is_value is_nearly_flat (λ v i j. held_of v j i) vs h k

one_there : (vs : List Datum) → IsTrue (list_all is_value vs) → IsTrue (one_within vs) → OneHeld vs
one_there [] h k = tt
one_there (v ∷ []) h k = held_of v k (first_holds (is_value v) true h)
one_there (v ∷ u ∷ vs) h k = cc

codes_there : (vs : List Datum) → IsTrue (list_all is_value vs) → IsTrue (codes_within vs) → CodesFirst vs
codes_there [] h k = tt
codes_there (v ∷ vs) h k =
    (held_of v (first_holds (is_nearly_flat v) (list_all is_flat vs) k) (first_holds (is_value v) _ h), flat_there vs (second_holds (is_value v) _ h) (second_holds (is_nearly_flat v) (list_all is_flat vs) k))

at_code_there : (n m : ℕ) (vs : List Datum) → IsTrue (list_all is_value vs) → IsTrue (at_code_within n m vs) → AtCode n m vs
at_code_there zero m vs h k = flat_there vs h k
at_code_there (suc n) zero vs h k = one_there vs h k
at_code_there (suc n) (suc m) vs h k = at_code_there n m vs h k

caught_there : (n m : ℕ) (vs : List Datum) → IsTrue (list_all is_value vs) → IsTrue (caught_within n m vs) → CaughtHolds n m vs
caught_there n zero vs h k = flat_there vs h k
caught_there n (suc zero) vs h k = codes_there vs h k
caught_there n (suc (suc m)) vs h k = at_code_there n m vs h k

tells_there : (around : ℕ) (d : Datum) → IsTrue (is_value d) → IsTrue (tells_within around d) → TellsLeaving around d
tells_there around d h k =
    (held_of d (first_holds (is_nearly_flat d) (left_within around (read_left d)) k) h, left_flat around (read_left d) (left_back d h) (second_holds (is_nearly_flat d) (left_within around (read_left d)) k))

held_there : (around : ℕ) (c : Construct) (n : ℕ) (vs : List Datum) → IsTrue (list_all is_value vs) → IsTrue (held_within around c n vs) → HeldBy around c n vs
held_there around (of_expr a) n vs h k = of_expression a k
  where
    of_expression : (e : Expr) → IsTrue (held_within around (of_expr e) n vs) → HeldBy around (of_expr e) n vs
    of_expression (listing es) j = so_far_there vs h j
    of_expression (call f es) j = so_far_there vs h j
    of_expression (verb_call o v es) j = so_far_there vs h j
    of_expression (caught e codes d) j = caught_there (code_count codes) n vs h j
    of_expression e j = flat_there vs h j
held_there around (of_statement t) n vs h k = of_statement_held t k
  where
    of_statement_held : (u : Statement) → IsTrue (held_within around (of_statement u) n vs) → HeldBy around (of_statement u) n vs
    of_statement_held (for_each x e p) j = each_count vs (flat_there vs h j)
    of_statement_held (guarded p arms) j = so_far_there vs h j
    of_statement_held (finished p q) j = each_by_both (TellsLeaving around) is_value (tells_within around) (tells_there around) vs h j
    of_statement_held u j = flat_there vs h j
held_there around c n vs h k = flat_there vs h k

piece_there : (around : ℕ) (q : Piece) → IsTrue (piece_holds q) → IsTrue (held_within around q.construct q.part q.held) → PieceHolds around q
piece_there around q h k =
    (first_holds (nat_le 1 q.part && is_number q.part) (list_all is_value q.held) h, held_there around q.construct q.part q.held (second_holds (nat_le 1 q.part && is_number q.part) (list_all is_value q.held) h) k)

variable_there : (e : Text × Datum) → IsTrue (is_text e.0 && is_value e.1) → IsTrue (is_flat e.1) → VariableHolds e
variable_there e h k = (first_holds (is_text e.0) (is_value e.1) h, kept_of e.1 k (second_holds (is_text e.0) (is_value e.1) h))

entry_there : (around : ℕ) (e : Entry) → IsTrue (entry_holds e) → IsTrue (entry_within around e) → EntryHolds around e
entry_there around (frame_entry f) h k =
    let r : Bool = list_all (λ e. is_text e.0 && is_value e.1) f.variables && list_all piece_holds f.pieces in
    let a = second_holds (call_holds f.call) (list_all is_value (start_values f.start) && (is_tree f.program && r)) h in
    let b = second_holds (list_all is_value (start_values f.start)) (is_tree f.program && r) a in
    let c = second_holds (is_tree f.program) r b in
    let flat : Bool = list_all (λ e. is_flat e.1) f.variables in
    let pieces : Bool = list_all (λ q. held_within around q.construct q.part q.held) f.pieces in
    let l = second_holds (is_number (program_nodes f.program)) (flat && pieces) k in (
      call_there f.call (first_holds (call_holds f.call) (list_all is_value (start_values f.start) && (is_tree f.program && r)) h),
      (
        values_there (start_values f.start) (first_holds (list_all is_value (start_values f.start)) (is_tree f.program && r) a),
        (
          (first_holds (is_tree f.program) r b, first_holds (is_number (program_nodes f.program)) (flat && pieces) k),
          (
            each_by_both VariableHolds (λ e. is_text e.0 && is_value e.1) (λ e. is_flat e.1) variable_there f.variables (first_holds (list_all (λ e. is_text e.0 && is_value e.1) f.variables) (list_all piece_holds f.pieces) c) (first_holds flat pieces l),
            each_by_both (PieceHolds around) piece_holds (λ q. held_within around q.construct q.part q.held) (piece_there around) f.pieces (second_holds (list_all (λ e. is_text e.0 && is_value e.1) f.variables) (list_all piece_holds f.pieces) c) (second_holds flat pieces l),
          ),
        ),
      ),
    )
entry_there around (native_entry n) h k = (first_holds (is_number n.stage) (list_all is_value n.arguments) h, values_there n.arguments (second_holds (is_number n.stage) (list_all is_value n.arguments) h))

entries_held : (es : List Entry) → IsTrue (list_all entry_holds es) → IsTrue (entries_within es) → EntriesHold es
entries_held [] h k = tt
entries_held (e ∷ es) h k =
    (entry_there (frames es) e (first_holds (entry_holds e) _ h) (first_holds (entry_within (frames es) e) (entries_within es) k), entries_held es (second_holds (entry_holds e) _ h) (second_holds (entry_within (frames es) e) (entries_within es) k))

waiting_there : (w : Waiting) → IsTrue (waiting_holds w) → IsTrue (waiting_within w) → WaitingHolds w
waiting_there (forked due) h k = h
waiting_there (timed due v) h k = (first_holds (is_number due) (is_value v) h, kept_of v k (second_holds (is_number due) (is_value v) h))
waiting_there idle h k = tt
waiting_there (reading_on c) h k = h

task_there : (t : Task) → IsTrue (task_holds t) → IsTrue (task_within t) → TaskHolds t
task_there t h k =
    let a = second_holds (in_number_range t.player) (waiting_holds t.waiting && list_all entry_holds t.entries) h in (
      first_holds (in_number_range t.player) (waiting_holds t.waiting && list_all entry_holds t.entries) h,
      (
        waiting_there t.waiting (first_holds (waiting_holds t.waiting) (list_all entry_holds t.entries) a) (first_holds (waiting_within t.waiting) (entries_within t.entries) k),
        entries_held t.entries (second_holds (waiting_holds t.waiting) (list_all entry_holds t.entries) a) (second_holds (waiting_within t.waiting) (entries_within t.entries) k),
      ),
    )

-- ---- links, by tests

lines_there : (ts : List Text) → IsTrue (are_values (of_list (text_list ts))) → Each IsPrinted ts
lines_there [] h = tt
lines_there (t ∷ ts) h = (first_datum (text t) (of_list (text_list ts)) h, lines_there ts (later_data (text t) (of_list (text_list ts)) h))

kept_there : (o : Option (List Text)) → IsValue (lines_held o) → IsTrue (lines_within o) → IfThere (λ ts. Each IsPrinted ts × LinesHold ts) o
kept_there None h k = tt
kept_there (Some ts) h k = (lines_there ts h, k)

programming_there : (o : Option Programming) → IsValue (programming_held o) → IsTrue (programming_within o) → IfThere ProgrammingHolds o
programming_there None h k = tt
programming_there (Some g) h k =
    let a = later_data (object g.object) (of_list (text g.verb ∷ lines_held g.lines ∷ [])) h in (
      first_datum (object g.object) (of_list (text g.verb ∷ lines_held g.lines ∷ [])) h,
      (first_datum (text g.verb) (of_list (lines_held g.lines ∷ [])) a, kept_there g.lines (first_datum (lines_held g.lines) (of_list []) (later_data (text g.verb) (of_list (lines_held g.lines ∷ [])) a)) k),
    )

link_there : (e : ℤ × Link) → IsTrue (link_holds e) → IsTrue (link_within e.1) → NumberedHolds LinkHolds e
link_there e h k =
    let a = second_holds (in_number_range e.0) (in_number_range (e.1).person && is_value (programming_held (e.1).programming)) h in (
      first_holds (in_number_range e.0) (in_number_range (e.1).person && is_value (programming_held (e.1).programming)) h,
      (
        first_holds (in_number_range (e.1).person) (is_value (programming_held (e.1).programming)) a,
        programming_there (e.1).programming (second_holds (in_number_range (e.1).person) (is_value (programming_held (e.1).programming)) a) k,
      ),
    )

-- ---- worlds, by tests

numbered_object : (e : ℤ × Object) → IsTrue (numbered_object_holds e) → IsTrue (object_within e.1) → NumberedHolds ObjectHolds e
numbered_object e h k = (first_holds (in_number_range e.0) (object_holds e.1) h, object_there e.1 (second_holds (in_number_range e.0) (object_holds e.1) h) k)

numbered_task : (e : ℤ × Task) → IsTrue (numbered_task_holds e) → IsTrue (task_within e.1) → NumberedHolds TaskHolds e
numbered_task e h k = (first_holds (in_number_range e.0) (task_holds e.1) h, task_there e.1 (second_holds (in_number_range e.0) (task_holds e.1) h) k)

pub holds_values : HoldsValues
holds_values w h k =
    let r : Bool = list_all numbered_object_holds w.objects && list_all numbered_task_holds w.tasks in
    let a = second_holds (is_number w.next) (in_number_range w.greatest && (list_all link_holds w.links && r)) h in
    let b = second_holds (in_number_range w.greatest) (list_all link_holds w.links && r) a in
    let c = second_holds (list_all link_holds w.links) r b in
    let l : Bool = list_all (λ e. task_within e.1) w.tasks && list_all (λ e. link_within e.1) w.links in
    let m = second_holds (list_all (λ e. object_within e.1) w.objects) l k in (
      each_by_both (NumberedHolds ObjectHolds) numbered_object_holds (λ e. object_within e.1) numbered_object w.objects
          (first_holds (list_all numbered_object_holds w.objects) (list_all numbered_task_holds w.tasks) c) (first_holds (list_all (λ e. object_within e.1) w.objects) l k),
      (
        each_by_both (NumberedHolds TaskHolds) numbered_task_holds (λ e. task_within e.1) numbered_task w.tasks
            (second_holds (list_all numbered_object_holds w.objects) (list_all numbered_task_holds w.tasks) c)
            (first_holds (list_all (λ e. task_within e.1) w.tasks) (list_all (λ e. link_within e.1) w.links) m),
        (
          each_by_both (NumberedHolds LinkHolds) link_holds (λ e. link_within e.1) link_there w.links (first_holds (list_all link_holds w.links) r b)
              (second_holds (list_all (λ e. task_within e.1) w.tasks) (list_all (λ e. link_within e.1) w.links) m),
          (first_holds (is_number w.next) (in_number_range w.greatest && (list_all link_holds w.links && r)) h, first_holds (in_number_range w.greatest) (list_all link_holds w.links && r) a),
        ),
      ),
    )

-- ---- and back: objects

content_tested : (o : Option Datum) → IfThere IsKept o → IsTrue (content_holds o) × IsTrue (content_within o)
content_tested None h = (refl, refl)
content_tested (Some v) h = (kept_value v h, kept_flat v h)

slot_tested : (s : Slot) → SlotHolds s → IsTrue (slot_holds s)
slot_tested s h = both_hold (in_number_range s.owner) (content_holds s.content) h.0 (content_tested s.content h.1).0

preposition_tested : (p : PrepositionPart) → PrepositionHolds p → IsTrue (preposition_holds p) × IsTrue (is_preposition p)
preposition_tested no_preposition h = (refl, refl)
preposition_tested any_preposition h = (refl, refl)
preposition_tested (preposition_set n) h = let l : n ≤ 14 = leb-true n 14 h in (below_in_range n (omega (arith, l)), h)

verb_tested : (v : Verb) → VerbHolds v → IsTrue (verb_holds v)
verb_tested v h =
    both_hold (is_text v.names) (in_number_range v.owner && (preposition_holds v.preposition && is_tree v.program)) h.0
    (both_hold (in_number_range v.owner) (preposition_holds v.preposition && is_tree v.program) h.1.0
    (both_hold (preposition_holds v.preposition) (is_tree v.program) (preposition_tested v.preposition h.1.1.0).0 h.1.1.1.0))

verb_bounded : (v : Verb) → VerbHolds v → IsTrue (verb_within v)
verb_bounded v h = both_hold (is_number (program_nodes v.program)) (is_preposition v.preposition) h.1.1.1.1 (preposition_tested v.preposition h.1.1.0).1

header_tested : (x : Header) → HeaderHolds x → IsTrue (header_holds x)
header_tested x h =
    both_hold (is_text x.name) (in_number_range x.owner && (in_number_range x.parent && in_number_range x.location)) h.0
    (both_hold (in_number_range x.owner) (in_number_range x.parent && in_number_range x.location) h.1.0 (both_hold (in_number_range x.parent) (in_number_range x.location) h.1.1.0 h.1.1.1))

object_tested : (x : Object) → ObjectHolds x → IsTrue (object_holds x)
object_tested x h =
    let e : Bool = list_all (λ s. slot_holds s.1) x.slots && list_all verb_holds x.verbs in
    both_hold (header_holds x.header) (list_all in_number_range x.children && (list_all in_number_range x.contents && (list_all is_text x.defines && e))) (header_tested x.header h.0)
    (both_hold (list_all in_number_range x.children) (list_all in_number_range x.contents && (list_all is_text x.defines && e)) (all_by InRange in_number_range (λ o i. i) x.children h.1.0)
    (both_hold (list_all in_number_range x.contents) (list_all is_text x.defines && e) (all_by InRange in_number_range (λ o i. i) x.contents h.1.1.0)
    (both_hold (list_all is_text x.defines) e (all_by IsPrinted is_text (λ t i. i) x.defines h.1.1.1.0)
    (both_hold (list_all (λ s. slot_holds s.1) x.slots) (list_all verb_holds x.verbs) (all_by (λ (s : Text × Slot). SlotHolds s.1) (λ s. slot_holds s.1) (λ s i. slot_tested s.1 i) x.slots h.1.1.1.1.0)
    (all_by VerbHolds verb_holds verb_tested x.verbs h.1.1.1.1.1)))))

object_bounded : (x : Object) → ObjectHolds x → IsTrue (object_within x)
object_bounded x h =
    both_hold (list_all (λ s. content_within (s.1).content) x.slots) (list_all verb_within x.verbs)
    (all_by (λ (s : Text × Slot). SlotHolds s.1) (λ s. content_within (s.1).content) (λ s i. (content_tested (s.1).content i.1).1) x.slots h.1.1.1.1.0)
    (all_by VerbHolds verb_within verb_bounded x.verbs h.1.1.1.1.1)

-- ---- and back: tasks

call_tested : (c : Call) → CallHolds c → IsTrue (call_holds c)
call_tested c h =
    let r : Bool = in_number_range c.programmer && is_text c.verb in
    both_hold (in_number_range c.this) (in_number_range c.caller && (in_number_range c.definer && r)) h.0
    (both_hold (in_number_range c.caller) (in_number_range c.definer && r) h.1.0
    (both_hold (in_number_range c.definer) r h.1.1.0 (both_hold (in_number_range c.programmer) (is_text c.verb) h.1.1.1.0 h.1.1.1.1)))

values_tested : (vs : List Datum) → AreValues vs → IsTrue (list_all is_value vs)
values_tested vs h = all_by IsValue is_value (λ v i. i) vs h

-- a loop's turns are no more than the items that it walks
turns_counted : (around n : ℕ) (x : Text) (a : Expr) (p : Program) (vs : List Datum)
    → IsTrue (part_fits around vs (part_at (of_statement (for_each x a p)) n)) → Each Counts vs → IsTrue (list_all is_value vs)
turns_counted around zero x a p vs f h = cc
turns_counted around (suc zero) x a p [] f h = refl
turns_counted around (suc zero) x a p (v ∷ vs) f h = cc
turns_counted around (suc (suc zero)) x a p (list xs ∷ integer (pos k) ∷ []) f h =
    let l : k ≤ count xs = leb-true k (count xs) (second_holds (nat_le 1 k) (nat_le k (count xs)) f) in
    let m : count xs < 2 ^ 31 = kept_count xs h.0 in
    both_hold (is_value (list xs)) _ (kept_value (list xs) h.0) (both_hold (is_value (integer (pos k))) true (below_in_range k (omega (arith, l, m))) refl)
turns_counted around (suc (suc zero)) x a p vs f h = cc
turns_counted around (suc (suc (suc n))) x a p vs f h = cc

one_values : (vs : List Datum) → OneHeld vs → AreValues vs
one_values [] h = tt
one_values (v ∷ []) h = (held_value v h, tt)
one_values (v ∷ u ∷ vs) h = absurd h

at_code_values : (n m : ℕ) (vs : List Datum) → AtCode n m vs → AreValues vs
at_code_values zero m vs h = kept_values vs h
at_code_values (suc n) zero vs h = one_values vs h
at_code_values (suc n) (suc m) vs h = at_code_values n m vs h

caught_values : (n m : ℕ) (vs : List Datum) → CaughtHolds n m vs → AreValues vs
caught_values n zero vs h = kept_values vs h
caught_values n (suc zero) [] h = tt
caught_values n (suc zero) (v ∷ vs) h = (held_value v h.0, kept_values vs h.1)
caught_values n (suc (suc m)) vs h = at_code_values n m vs h

telling_values : (outside : ℕ) (vs : List Datum) → Each (TellsLeaving outside) vs → AreValues vs
telling_values outside [] h = tt
telling_values outside (v ∷ vs) h = (held_value v (h.0).0, telling_values outside vs h.1)

held_tested : (outside around n : ℕ) (c : Construct) (vs : List Datum) → IsTrue (part_fits around vs (part_at c n)) → HeldBy outside c n vs → IsTrue (list_all is_value vs)
held_tested outside around n (of_statement t) vs f h = of_statement_tested t f h
  where
    of_statement_tested : (u : Statement) → IsTrue (part_fits around vs (part_at (of_statement u) n)) → HeldBy outside (of_statement u) n vs
        → IsTrue (list_all is_value vs)
    of_statement_tested (for_each x a p) f h = turns_counted around n x a p vs f h
    of_statement_tested (guarded p arms) f h = values_tested vs (held_values vs h)
    of_statement_tested (finished p q) f h = values_tested vs (telling_values outside vs h)
    of_statement_tested u f h = values_tested vs (kept_values vs h)
held_tested outside around n (of_expr a) vs f h = of_expression a h
  where
    of_expression : (e : Expr) → HeldBy outside (of_expr e) n vs → IsTrue (list_all is_value vs)
    of_expression (listing es) h = values_tested vs (held_values vs h)
    of_expression (call g es) h = values_tested vs (held_values vs h)
    of_expression (verb_call o v es) h = values_tested vs (held_values vs h)
    of_expression (caught e codes d) h = values_tested vs (caught_values (code_count codes) n vs h)
    of_expression e h = values_tested vs (kept_values vs h)
held_tested outside around n c vs f h = values_tested vs (kept_values vs h)

-- ---- and how deep they nest

flat_tested : (vs : List Datum) → AreKept vs → IsTrue (list_all is_flat vs)
flat_tested vs h = all_by IsKept is_flat kept_flat vs h

nearly_tested : (vs : List Datum) → Each IsHeld vs → IsTrue (list_all is_nearly_flat vs)
nearly_tested vs h = all_by IsHeld is_nearly_flat held_flat vs h

counts_tested : (vs : List Datum) → Each Counts vs → IsTrue (list_all is_flat vs)
counts_tested vs h = all_by Counts is_flat counted vs h
  where
    counted : (v : Datum) → Counts v → IsTrue (is_flat v)
    counted (integer k) i = refl
    counted (object k) i = refl
    counted (text k) i = refl
    counted (error k) i = refl
    counted (list k) i = kept_flat (list k) i

one_tested : (vs : List Datum) → OneHeld vs → IsTrue (one_within vs)
one_tested [] h = refl
one_tested (v ∷ []) h = held_flat v h
one_tested (v ∷ u ∷ vs) h = absurd h

at_code_tested : (n m : ℕ) (vs : List Datum) → AtCode n m vs → IsTrue (at_code_within n m vs)
at_code_tested zero m vs h = flat_tested vs h
at_code_tested (suc n) zero vs h = one_tested vs h
at_code_tested (suc n) (suc m) vs h = at_code_tested n m vs h

caught_tested : (n m : ℕ) (vs : List Datum) → CaughtHolds n m vs → IsTrue (caught_within n m vs)
caught_tested n zero vs h = flat_tested vs h
caught_tested n (suc zero) [] h = refl
caught_tested n (suc zero) (v ∷ vs) h = both_hold (is_nearly_flat v) (list_all is_flat vs) (held_flat v h.0) (flat_tested vs h.1)
caught_tested n (suc (suc m)) vs h = at_code_tested n m vs h

left_tested : (around : ℕ) (o : Option BodyLeft) → LeftHolds around o → IsTrue (left_within around o)
left_tested around None h = refl
left_tested around (Some ended) h = refl
left_tested around (Some (left_by (returned v))) h = kept_flat v h
left_tested around (Some (left_by (failed f))) h = both_hold (is_flat (failure_value f)) (is_number (length f.traceback + around)) (kept_flat (failure_value f) h.0) h.1
left_tested around (Some (left_by (broken k))) h = refl
left_tested around (Some (left_by (continued k))) h = refl

tells_tested : (around : ℕ) (d : Datum) → TellsLeaving around d → IsTrue (tells_within around d)
tells_tested around d h = both_hold (is_nearly_flat d) (left_within around (read_left d)) (held_flat d h.0) (left_tested around (read_left d) h.1)

held_bounded : (around : ℕ) (c : Construct) (n : ℕ) (vs : List Datum) → HeldBy around c n vs → IsTrue (held_within around c n vs)
held_bounded around (of_expr a) n vs h = of_expression a h
  where
    of_expression : (e : Expr) → HeldBy around (of_expr e) n vs → IsTrue (held_within around (of_expr e) n vs)
    of_expression (listing es) h = nearly_tested vs h
    of_expression (call f es) h = nearly_tested vs h
    of_expression (verb_call o v es) h = nearly_tested vs h
    of_expression (caught e codes d) h = caught_tested (code_count codes) n vs h
    of_expression e h = flat_tested vs h
held_bounded around (of_statement t) n vs h = of_statement_held t h
  where
    of_statement_held : (u : Statement) → HeldBy around (of_statement u) n vs → IsTrue (held_within around (of_statement u) n vs)
    of_statement_held (for_each x e p) h = counts_tested vs h
    of_statement_held (guarded p arms) h = nearly_tested vs h
    of_statement_held (finished p q) h = all_by (TellsLeaving around) (tells_within around) (tells_tested around) vs h
    of_statement_held u h = flat_tested vs h
held_bounded around c n vs h = flat_tested vs h

pieces_tested : (outside : ℕ) (ps : List Piece) → IsTrue (pieces_fit ps) → Each (PieceHolds outside) ps → IsTrue (list_all piece_holds ps)
pieces_tested outside [] f h = refl
pieces_tested outside (q ∷ ps) f h =
    both_hold (piece_holds q) (list_all piece_holds ps)
    (both_hold (nat_le 1 q.part && is_number q.part) (list_all is_value q.held) h.0.0
    (held_tested outside (loops ps) q.part q.construct q.held (first_holds (part_fits (loops ps) q.held (part_at q.construct q.part)) (pieces_fit ps) f) h.0.1))
    (pieces_tested outside ps (second_holds (part_fits (loops ps) q.held (part_at q.construct q.part)) (pieces_fit ps) f) h.1)

entry_tested : (outside : ℕ) (e : Entry) → IsTrue (entry_fits e) → EntryHolds outside e → IsTrue (entry_holds e)
entry_tested outside (frame_entry f) i h =
    let r : Bool = list_all (λ e. is_text e.0 && is_value e.1) f.variables && list_all piece_holds f.pieces in
    both_hold (call_holds f.call) (list_all is_value (start_values f.start) && (is_tree f.program && r)) (call_tested f.call h.0)
    (both_hold (list_all is_value (start_values f.start)) (is_tree f.program && r) (values_tested (start_values f.start) h.1.0)
    (both_hold (is_tree f.program) r h.1.1.0.0
    (both_hold (list_all (λ e. is_text e.0 && is_value e.1) f.variables) (list_all piece_holds f.pieces)
    (all_by VariableHolds (λ e. is_text e.0 && is_value e.1) (λ e k. both_hold (is_text e.0) (is_value e.1) k.0 (kept_value e.1 k.1)) f.variables h.1.1.1.0)
    (pieces_tested outside f.pieces (second_holds (is_named f.variables && list_all (λ e. is_variable e.0) f.variables) (pieces_fit f.pieces) i) h.1.1.1.1))))
entry_tested outside (native_entry n) i h = both_hold (is_number n.stage) (list_all is_value n.arguments) h.0 (values_tested n.arguments h.1)

entries_tested : (es : List Entry) → IsTrue (list_all entry_fits es) → EntriesHold es → IsTrue (list_all entry_holds es)
entries_tested [] i h = refl
entries_tested (e ∷ es) i h =
    both_hold (entry_holds e) (list_all entry_holds es) (entry_tested (frames es) e (first_holds (entry_fits e) _ i) h.0) (entries_tested es (second_holds (entry_fits e) _ i) h.1)

waiting_tested : (w : Waiting) → WaitingHolds w → IsTrue (waiting_holds w)
waiting_tested (forked due) h = h
waiting_tested (timed due v) h = both_hold (is_number due) (is_value v) h.0 (kept_value v h.1)
waiting_tested idle h = refl
waiting_tested (reading_on c) h = h

task_tested : (t : Task) → IsTrue (list_all entry_fits t.entries) → TaskHolds t → IsTrue (task_holds t)
task_tested t i h =
    both_hold (in_number_range t.player) (waiting_holds t.waiting && list_all entry_holds t.entries) h.0
    (both_hold (waiting_holds t.waiting) (list_all entry_holds t.entries) (waiting_tested t.waiting h.1.0) (entries_tested t.entries i h.1.1))

entry_bounded : (around : ℕ) (e : Entry) → EntryHolds around e → IsTrue (entry_within around e)
entry_bounded around (frame_entry f) h =
    both_hold (is_number (program_nodes f.program)) (list_all (λ e. is_flat e.1) f.variables && list_all (λ q. held_within around q.construct q.part q.held) f.pieces) h.1.1.0.1
    (both_hold (list_all (λ e. is_flat e.1) f.variables) (list_all (λ q. held_within around q.construct q.part q.held) f.pieces)
    (all_by VariableHolds (λ e. is_flat e.1) (λ e k. kept_flat e.1 k.1) f.variables h.1.1.1.0)
    (all_by (PieceHolds around) (λ q. held_within around q.construct q.part q.held) (λ q k. held_bounded around q.construct q.part q.held k.1) f.pieces h.1.1.1.1))
entry_bounded around (native_entry n) h = refl

entries_bounded : (es : List Entry) → EntriesHold es → IsTrue (entries_within es)
entries_bounded [] h = refl
entries_bounded (e ∷ es) h = both_hold (entry_within (frames es) e) (entries_within es) (entry_bounded (frames es) e h.0) (entries_bounded es h.1)

waiting_bounded : (w : Waiting) → WaitingHolds w → IsTrue (waiting_within w)
waiting_bounded (forked due) h = refl
waiting_bounded (timed due v) h = kept_flat v h.1
waiting_bounded idle h = refl
waiting_bounded (reading_on c) h = refl

task_bounded : (t : Task) → TaskHolds t → IsTrue (task_within t)
task_bounded t h = both_hold (waiting_within t.waiting) (entries_within t.entries) (waiting_bounded t.waiting h.1.0) (entries_bounded t.entries h.1.1)

-- ---- and back: links

lines_tested : (ts : List Text) → Each IsPrinted ts → IsTrue (are_values (of_list (text_list ts)))
lines_tested [] h = refl
lines_tested (t ∷ ts) h = onto_data (text t) (of_list (text_list ts)) h.0 (lines_tested ts h.1)

kept_tested : (o : Option (List Text)) → IfThere (λ ts. Each IsPrinted ts × LinesHold ts) o → IsValue (lines_held o) × IsTrue (lines_within o)
kept_tested None h = (refl, refl)
kept_tested (Some ts) h = (lines_tested ts h.0, h.1)

programming_tested : (o : Option Programming) → IfThere ProgrammingHolds o → IsValue (programming_held o) × IsTrue (programming_within o)
programming_tested None h = (refl, refl)
programming_tested (Some g) h = let k = kept_tested g.lines h.1.1 in (data_of (object g.object ∷ text g.verb ∷ lines_held g.lines ∷ []) (h.0, (h.1.0, (k.0, tt))), k.1)

link_tested : (e : ℤ × Link) → NumberedHolds LinkHolds e → IsTrue (link_holds e)
link_tested e h =
    both_hold (in_number_range e.0) (in_number_range (e.1).person && is_value (programming_held (e.1).programming)) h.0
    (both_hold (in_number_range (e.1).person) (is_value (programming_held (e.1).programming)) h.1.0 (programming_tested (e.1).programming h.1.1).0)

-- ---- and back: worlds

-- what is found in a table by number is each of its entries
later_found : {X : Type 0} (e : ℤ × X) (es : List (ℤ × X)) → IsTrue (is_numbered (e ∷ es)) → (q : ℤ) (x : X) → at es q ≡ Some x → at (e ∷ es) q ≡ Some x
later_found {X} e es h q x k = go (same_or_not q e.0)
  where
    go : (q ≡ e.0) ⊎ (int_eq q e.0 ≡ false) → cond (int_eq q e.0) (Some e.1) (at es q) ≡ Some x
    go (inl s) = let clash : None ≡ Some x = sym (below_none e.0 es (first_holds _ _ h)) ∙ ap (at es) (sym s) ∙ k in absurd (cc (clash))
    go (inr s) = ap (λ b. cond b (Some e.1) (at es q)) s ∙ k

first_found : {X : Type 0} (e : ℤ × X) (es : List (ℤ × X)) → at (e ∷ es) e.0 ≡ Some e.1
first_found e es = ap (λ b. cond b (Some e.1) (at es e.0)) (integer_itself e.0)

pub entries_there : (es : List (ℤ × Task)) → IsTrue (is_numbered es) → ((i : ℤ) (t : Task) → at es i ≡ Some t → IsTrue (list_all entry_fits t.entries))
    → IsTrue (list_all (λ e. list_all entry_fits (e.1).entries) es)
entries_there [] h each = refl
entries_there (e ∷ es) h each =
    both_hold (list_all entry_fits (e.1).entries) _ (each e.0 e.1 (first_found e es)) (entries_there es (second_holds _ _ h) (λ i t k. each i t (later_found e es h i t k)))

tasks_tested : (ts : List (ℤ × Task)) → IsTrue (list_all (λ e. list_all entry_fits (e.1).entries) ts) → Each (NumberedHolds TaskHolds) ts → IsTrue (list_all numbered_task_holds ts)
tasks_tested [] i h = refl
tasks_tested (e ∷ es) i h =
    both_hold (numbered_task_holds e) (list_all numbered_task_holds es)
    (both_hold (in_number_range e.0) (task_holds e.1) h.0.0 (task_tested e.1 (first_holds (list_all entry_fits (e.1).entries) _ i) h.0.1))
    (tasks_tested es (second_holds (list_all entry_fits (e.1).entries) _ i) h.1)

pub world_bounded : (w : World) → WorldHolds w → IsTrue (is_within w)
world_bounded w h =
    both_hold (list_all (λ e. object_within e.1) w.objects) (list_all (λ e. task_within e.1) w.tasks && list_all (λ e. link_within e.1) w.links)
    (all_by (NumberedHolds ObjectHolds) (λ e. object_within e.1) (λ e k. object_bounded e.1 k.1) w.objects h.0)
    (both_hold (list_all (λ e. task_within e.1) w.tasks) (list_all (λ e. link_within e.1) w.links)
    (all_by (NumberedHolds TaskHolds) (λ e. task_within e.1) (λ e k. task_bounded e.1 k.1) w.tasks h.1.0)
    (all_by (NumberedHolds LinkHolds) (λ e. link_within e.1) (λ e k. (programming_tested (e.1).programming k.1.1).1) w.links h.1.1.0))

pub is_of_values : IsOfValues
is_of_values w f h =
    let r : Bool = list_all numbered_object_holds w.objects && list_all numbered_task_holds w.tasks in
    let fits : IsTrue (list_all (λ e. list_all entry_fits (e.1).entries) w.tasks) =
    entries_there w.tasks f.tasks_in_order (λ i t e. second_holds (begins_with_frame t.entries && nat_le (frames t.entries) 50) (list_all entry_fits t.entries) (f.task_entries i t e)) in (
      both_hold (is_number w.next) (in_number_range w.greatest && (list_all link_holds w.links && r)) h.1.1.1.0
          (both_hold (in_number_range w.greatest) (list_all link_holds w.links && r) h.1.1.1.1
          (both_hold (list_all link_holds w.links) r (all_by (NumberedHolds LinkHolds) link_holds link_tested w.links h.1.1.0)
          (both_hold (list_all numbered_object_holds w.objects) (list_all numbered_task_holds w.tasks)
          (all_by (NumberedHolds ObjectHolds) numbered_object_holds (λ e k. both_hold (in_number_range e.0) (object_holds e.1) k.0 (object_tested e.1 k.1)) w.objects h.0)
          (tasks_tested w.tasks fits h.1.0)))),
      world_bounded w h,
    )

-- ---- lists of steps

pub spelled : (w : World) → WorldHolds w → TextsSpell w
spelled w h = (objects, tasks)
  where
    objects : (o : ℤ) (x : Object) → at w.objects o ≡ Some x → IsTrue (programs_spelled w o x)
    objects o x e =
        all_by VerbHolds (λ v. program_fits [] v.program) (λ v k. first_holds (program_fits [] v.program) _ k.1.1.1.0) x.verbs (number_there ObjectHolds w.objects o x h.0 e).1.1.1.1.1.1

    one : (around : ℕ) (e : Entry) → EntryHolds around e → IsTrue (entry_spelled e)
    one around (frame_entry f) k = first_holds (program_fits [] f.program) _ k.1.1.0.0
    one around (native_entry n) k = refl

    each_entry : (es : List Entry) → EntriesHold es → IsTrue (list_all entry_spelled es)
    each_entry [] k = refl
    each_entry (e ∷ es) k = both_hold (entry_spelled e) (list_all entry_spelled es) (one (frames es) e k.0) (each_entry es k.1)

    tasks : (i : ℤ) (t : Task) → at w.tasks i ≡ Some t → IsTrue (frames_spelled w i t)
    tasks i t e = each_entry t.entries (number_there TaskHolds w.tasks i t h.1.0 e).1.1.1

pub stays_of_values : StaysOfValues
stays_of_values w ss f h k r =
    let v : WorldHolds w = holds_values w h k in
    let a = (well_formed_agrees w f).0 in
    let g = (stays_whole w ss f (spelled w v) r).0 in
    is_of_values (play w ss).0 g (lists_hold w ss a v r)

-- ---- the built-in world

pub fixture_within : FixtureWithin
fixture_within = refl
