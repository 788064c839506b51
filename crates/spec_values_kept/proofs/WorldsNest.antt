-- How deep the text of a world nests whose values are within their bounds.
use Rattle.std.proofs.Common.{ℕ, zero, suc, nat_le, ◌&&◌, Bool, true, List, [], ◌∷◌, ◌++◌, Option, Some, None, IsTrue, refl}
use Rattle.std.specs.List.{list_all}
use Rattle.spec_value.specs.Datum.{Datum, object, text, list, of_list}
use Rattle.spec_value.specs.Answer.{weight_limit}
use Rattle.spec_value.proofs.Entries.{first_holds, second_holds, both_hold}
use Rattle.spec_program.specs.Tree.{Expr, listing, call, verb_call, caught, Statement, guarded, finished}
use Rattle.spec_program.specs.Construct.{Construct, of_expr, of_statement, Piece}
use Rattle.spec_world.specs.World.{Object, NativeName, move_native, create_native, recycle_native, eval_native, Entry, frame_entry, native_entry, Waiting, forked, timed, idle, reading_on, Task}
use Rattle.spec_world.specs.WellFormed.{native_fits, begins_with_frame, frames, entry_fits}
use Rattle.spec_world.specs.Checkpoint.{values_held}
use Rattle.spec_world.proofs.WorldsKept.{well_formed_agrees}
use Rattle.spec_moo.specs.Leaving.{read_left}
use Rattle.spec_moo.specs.Effects.Handlers.{code_count}
use Rattle.spec_moo.specs.Steps.{play}
use Rattle.spec_holding.proofs.WholeWorlds.{stays_whole}
use Rattle.spec_checkpoint.specs.Holding.{is_number}
use Rattle.spec_values_kept.specs.Values.{nests_within, is_flat, has_short_items, is_nearly_flat}
use Rattle.spec_values_kept.specs.Nodes.{program_nodes}
use Rattle.spec_values_kept.specs.WorldValues.{WorldHolds}
use Rattle.spec_values_kept.specs.Whole.{verb_within, content_within, object_within, left_within, tells_within, one_within, codes_within, at_code_within, caught_within, held_within, entry_within, entries_within, waiting_within, task_within, link_within, is_within, content_nests, entry_nests, waiting_nests, task_nests, NestsWithin, StaysNesting}
use Rattle.spec_values_kept.proofs.Nesting.{flat_nearly}
use Rattle.spec_values_kept.proofs.StepsHold.{lists_hold}
use Rattle.spec_values_kept.proofs.WholeWorlds.{spelled, entries_there, holds_values, world_bounded}

module _ {X : Type 0} where
  all_so : (p q : X → Bool) → ((x : X) → IsTrue (p x) → IsTrue (q x)) → (xs : List X) → IsTrue (list_all p xs) → IsTrue (list_all q xs)
  all_so p q one [] h = refl
  all_so p q one (x ∷ xs) h = both_hold (q x) (list_all q xs) (one x (first_holds (p x) _ h)) (all_so p q one xs (second_holds (p x) _ h))

  all_so_both : (p r q : X → Bool) → ((x : X) → IsTrue (p x) → IsTrue (r x) → IsTrue (q x)) → (xs : List X) → IsTrue (list_all p xs) → IsTrue (list_all r xs) → IsTrue (list_all q xs)
  all_so_both p r q one [] h k = refl
  all_so_both p r q one (x ∷ xs) h k =
      both_hold (q x) (list_all q xs) (one x (first_holds (p x) _ h) (first_holds (r x) _ k)) (all_so_both p r q one xs (second_holds (p x) _ h) (second_holds (r x) _ k))

  all_together : (p : X → Bool) (xs ys : List X) → IsTrue (list_all p xs) → IsTrue (list_all p ys) → IsTrue (list_all p (xs ++ ys))
  all_together p [] ys h k = k
  all_together p (x ∷ xs) ys h k = both_hold (p x) (list_all p (xs ++ ys)) (first_holds (p x) _ h) (all_together p xs ys (second_holds (p x) _ h) k)

nearly_nests : (v : Datum) → IsTrue (is_nearly_flat v) → IsTrue (nests_within (suc weight_limit) v)
nearly_nests v h = first_holds (nests_within (suc weight_limit) v) (has_short_items v) h

flat_nests : (v : Datum) → IsTrue (is_flat v) → IsTrue (nests_within (suc weight_limit) v)
flat_nests v h = nearly_nests v (flat_nearly v h)

-- ---- what a construct holds

all_nearly : (vs : List Datum) → IsTrue (list_all is_flat vs) → IsTrue (list_all is_nearly_flat vs)
all_nearly vs h = all_so is_flat is_nearly_flat flat_nearly vs h

one_nearly : (vs : List Datum) → IsTrue (one_within vs) → IsTrue (list_all is_nearly_flat vs)
one_nearly [] h = refl
one_nearly (v ∷ []) h = both_hold (is_nearly_flat v) true h refl
one_nearly (v ∷ u ∷ vs) h = cc

codes_nearly : (vs : List Datum) → IsTrue (codes_within vs) → IsTrue (list_all is_nearly_flat vs)
codes_nearly [] h = refl
codes_nearly (v ∷ vs) h =
    both_hold (is_nearly_flat v) (list_all is_nearly_flat vs) (first_holds (is_nearly_flat v) (list_all is_flat vs) h) (all_nearly vs (second_holds (is_nearly_flat v) (list_all is_flat vs) h))

at_code_nearly : (k m : ℕ) (vs : List Datum) → IsTrue (at_code_within k m vs) → IsTrue (list_all is_nearly_flat vs)
at_code_nearly zero m vs h = all_nearly vs h
at_code_nearly (suc k) zero vs h = one_nearly vs h
at_code_nearly (suc k) (suc m) vs h = at_code_nearly k m vs h

caught_nearly : (k n : ℕ) (vs : List Datum) → IsTrue (caught_within k n vs) → IsTrue (list_all is_nearly_flat vs)
caught_nearly k zero vs h = all_nearly vs h
caught_nearly k (suc zero) vs h = codes_nearly vs h
caught_nearly k (suc (suc m)) vs h = at_code_nearly k m vs h

held_nearly : (around : ℕ) (c : Construct) (n : ℕ) (vs : List Datum) → IsTrue (held_within around c n vs) → IsTrue (list_all is_nearly_flat vs)
held_nearly around (of_expr a) n vs h = of_expression a h
  where
    of_expression : (e : Expr) → IsTrue (held_within around (of_expr e) n vs) → IsTrue (list_all is_nearly_flat vs)
    of_expression (listing es) h = h
    of_expression (call f es) h = h
    of_expression (verb_call o v es) h = h
    of_expression (caught e codes d) h = caught_nearly (code_count codes) n vs h
    of_expression e h = all_nearly vs h
held_nearly around (of_statement t) n vs h = of_statement_held t h
  where
    of_statement_held : (u : Statement) → IsTrue (held_within around (of_statement u) n vs) → IsTrue (list_all is_nearly_flat vs)
    of_statement_held (guarded p arms) h = h
    of_statement_held (finished p q) h = all_so (tells_within around) is_nearly_flat (λ d i. first_holds (is_nearly_flat d) (left_within around (read_left d)) i) vs h
    of_statement_held u h = all_nearly vs h
held_nearly around c n vs h = all_nearly vs h

pieces_nest : (around : ℕ) (ps : List Piece) → IsTrue (list_all (λ q. held_within around q.construct q.part q.held) ps)
    → IsTrue (list_all (λ v. nests_within (suc weight_limit) v) (values_held ps))
pieces_nest around [] h = refl
pieces_nest around (q ∷ ps) h =
    all_together (λ v. nests_within (suc weight_limit) v) (values_held ps) q.held (pieces_nest around ps (second_holds (held_within around q.construct q.part q.held) _ h))
    (all_so is_nearly_flat (λ v. nests_within (suc weight_limit) v) nearly_nests q.held (held_nearly around q.construct q.part q.held (first_holds (held_within around q.construct q.part q.held) _ h)))

-- ---- tasks

native_nests : (name : NativeName) (n : ℕ) (vs : List Datum) → IsTrue (native_fits name n vs) → IsTrue (nests_within (suc weight_limit) (list (of_list vs)))
native_nests move_native (suc zero) (object a ∷ object b ∷ []) h = refl
native_nests move_native (suc (suc zero)) (object a ∷ object b ∷ object c ∷ []) h = refl
native_nests move_native (suc (suc (suc zero))) (object a ∷ object b ∷ object c ∷ []) h = refl
native_nests create_native (suc zero) (object a ∷ object b ∷ []) h = refl
native_nests create_native (suc zero) (object a ∷ object b ∷ object c ∷ []) h = refl
native_nests recycle_native (suc zero) (object o ∷ []) h = refl
native_nests eval_native (suc zero) (text t ∷ []) h = refl
native_nests name n vs h = cc

entry_nested : (around : ℕ) (e : Entry) → IsTrue (entry_fits e) → IsTrue (entry_within around e) → IsTrue (entry_nests (suc weight_limit) e)
entry_nested around (frame_entry f) i h =
    let flat : Bool = list_all (λ e. is_flat e.1) f.variables in
    let pieces : Bool = list_all (λ q. held_within around q.construct q.part q.held) f.pieces in
    let k = second_holds (is_number (program_nodes f.program)) (flat && pieces) h in
    both_hold (list_all (λ e. nests_within (suc weight_limit) e.1) f.variables) (list_all (λ v. nests_within (suc weight_limit) v) (values_held f.pieces))
    (all_so (λ e. is_flat e.1) (λ e. nests_within (suc weight_limit) e.1) (λ e j. flat_nests e.1 j) f.variables (first_holds flat pieces k)) (pieces_nest around f.pieces (second_holds flat pieces k))
entry_nested around (native_entry n) i h = native_nests n.name n.stage n.arguments i

entries_nested : (es : List Entry) → IsTrue (list_all entry_fits es) → IsTrue (entries_within es) → IsTrue (list_all (λ e. entry_nests (suc weight_limit) e) es)
entries_nested [] i h = refl
entries_nested (e ∷ es) i h =
    both_hold (entry_nests (suc weight_limit) e) _ (entry_nested (frames es) e (first_holds (entry_fits e) _ i) (first_holds (entry_within (frames es) e) (entries_within es) h))
    (entries_nested es (second_holds (entry_fits e) _ i) (second_holds (entry_within (frames es) e) (entries_within es) h))

waiting_nested : (w : Waiting) → IsTrue (waiting_within w) → IsTrue (waiting_nests (suc weight_limit) w)
waiting_nested (forked due) h = refl
waiting_nested (timed due v) h = flat_nests v h
waiting_nested idle h = refl
waiting_nested (reading_on c) h = refl

task_nested : (t : Task) → IsTrue (list_all entry_fits t.entries) → IsTrue (task_within t) → IsTrue (task_nests (suc weight_limit) t)
task_nested t i h =
    both_hold (waiting_nests (suc weight_limit) t.waiting) (list_all (λ e. entry_nests (suc weight_limit) e) t.entries)
    (waiting_nested t.waiting (first_holds (waiting_within t.waiting) (entries_within t.entries) h)) (entries_nested t.entries i (second_holds (waiting_within t.waiting) (entries_within t.entries) h))

-- ---- objects

content_nested : (o : Option Datum) → IsTrue (content_within o) → IsTrue (content_nests (suc weight_limit) o)
content_nested None h = refl
content_nested (Some v) h = flat_nests v h

object_nested : (x : Object) → IsTrue (object_within x) → IsTrue (list_all (λ s. content_nests (suc weight_limit) (s.1).content) x.slots)
object_nested x h =
    all_so (λ s. content_within (s.1).content) (λ s. content_nests (suc weight_limit) (s.1).content) (λ s i. content_nested (s.1).content i) x.slots
    (first_holds (list_all (λ s. content_within (s.1).content) x.slots) (list_all verb_within x.verbs) h)

-- ---- worlds

pub nests_in_world : NestsWithin
nests_in_world w f h =
    let tasks : Bool = list_all (λ e. task_within e.1) w.tasks in let links : Bool = list_all (λ e. link_within e.1) w.links in
    let k = second_holds (list_all (λ e. object_within e.1) w.objects) (tasks && links) h in
    let fit : IsTrue (list_all (λ e. list_all entry_fits (e.1).entries) w.tasks) =
    entries_there w.tasks f.tasks_in_order (λ i t e. second_holds (begins_with_frame t.entries && nat_le (frames t.entries) 50) (list_all entry_fits t.entries) (f.task_entries i t e)) in
    both_hold (list_all (λ e. list_all (λ s. content_nests (suc weight_limit) (s.1).content) (e.1).slots) w.objects) (list_all (λ e. task_nests (suc weight_limit) e.1) w.tasks)
    (all_so (λ e. object_within e.1) (λ e. list_all (λ s. content_nests (suc weight_limit) (s.1).content) (e.1).slots) (λ e i. object_nested e.1 i) w.objects
    (first_holds (list_all (λ e. object_within e.1) w.objects) (tasks && links) h))
    (all_so_both (λ e. list_all entry_fits (e.1).entries) (λ e. task_within e.1) (λ e. task_nests (suc weight_limit) e.1) (λ e i j. task_nested e.1 i j) w.tasks fit (first_holds tasks links k))

pub stays_nesting : StaysNesting
stays_nesting w ss f h k r =
    let v : WorldHolds w = holds_values w h k in
    let a = (well_formed_agrees w f).0 in
    let g = (stays_whole w ss f (spelled w v) r).0 in
    let i : IsTrue (is_within (play w ss).0) = world_bounded (play w ss).0 (lists_hold w ss a v r) in (i, nests_in_world (play w ss).0 g i)
