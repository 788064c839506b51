-- The lines of a task tell all of it but the constructs under way.
use Rattle.std.proofs.Common.{◌≡◌, ℕ, ℤ, List, [], ◌∷◌, ◌++◌, map, get_or, drop, IsTrue, Bool, false, not, ◌&&◌, ◌==◌, refl, ap, sym, ◌∙◌, codes, arith}
use Rattle.std.specs.List.{list_all}
use Rattle.std.specs.Fmt.{signed_decimal}
use Rattle.std.proofs.lemmas.List.{append_cancel_left}
use Rattle.spec_value.specs.Datum.{Text, in_number_range, is_value}
use Rattle.spec_value.specs.Literal.{literal}
use Rattle.spec_value.specs.Table.{Numbered}
use Rattle.spec_value.proofs.Entries.{first_holds, second_holds}
use Rattle.spec_world.specs.World.{Waiting, forked, timed, idle, reading_on, Task}
use Rattle.spec_world.specs.Checkpoint.{fields, spaced_by, waiting_fields, each_entry, task_lines, each_task}
use Rattle.spec_checkpoint.specs.Holding.{is_number, entry_holds, waiting_holds, task_holds, numbered_task_holds}
use Rattle.spec_checkpoint.proofs.Numbers.{tail_same, signed_read_once, numbers_read_once}
use Rattle.spec_checkpoint.proofs.Runs.{stops, each_of, AreRecords, records_read_once, begins_with}
use Rattle.spec_checkpoint.proofs.Fields.{number_small, whole_number, whole_signed, whole_value}
use Rattle.spec_checkpoint.proofs.EntryRecords.{Shown, entry_key, is_entry_line, entries_in_front}
use Rattle.spec_checkpoint.proofs.FrameRecords.{is_value_line}

-- ---- how it waits

abbrev sort_of : Waiting → ℕ
sort_of (forked due) = 102
sort_of (timed due v) = 119
sort_of idle = 105
sort_of (reading_on c) = 114

first_is : (w : Waiting) → get_or (fields (waiting_fields w)) 0 0 ≡ sort_of w
first_is (forked due) = refl
first_is (timed due v) = refl
first_is idle = refl
first_is (reading_on c) = refl

waiting_same : (a b : Waiting) → IsTrue (waiting_holds a) → IsTrue (waiting_holds b) → sort_of a ≡ sort_of b → fields (waiting_fields a) ≡ fields (waiting_fields b) → a ≡ b
waiting_same (forked m) (forked n) h k i e = ap forked (whole_number m n h k (append_cancel_left (codes "fork ") _ _ e))
waiting_same (timed m v) (timed n u) h k i e =
    let p = numbers_read_once m n (32 ∷ literal v) (32 ∷ literal u) (number_small m (first_holds (is_number m) (is_value v) h)) (number_small n (first_holds (is_number n) (is_value u) k)) refl refl (append_cancel_left (codes "wait ") _ _ e) in
    let q = whole_value v u (second_holds (is_number m) (is_value v) h) (second_holds (is_number n) (is_value u) k) (tail_same 32 32 (literal v) (literal u) p.1) in
    λ j. timed (p.0 j) (q j)
waiting_same idle idle h k i e = refl
waiting_same (reading_on c) (reading_on d) h k i e = ap reading_on (whole_signed c d h k (append_cancel_left (codes "read ") _ _ e))
waiting_same _ _ h k i e = absurd (omega (arith, i))

waiting_told : (a b : Waiting) → IsTrue (waiting_holds a) → IsTrue (waiting_holds b) → fields (waiting_fields a) ≡ fields (waiting_fields b) → a ≡ b
waiting_told a b h k e = waiting_same a b h k (sym (first_is a) ∙ ap (λ t. get_or t 0 0) e ∙ first_is b) e

spaced : (t : Text) (w : Waiting) → spaced_by t (waiting_fields w) ≡ t ++ (32 ∷ fields (waiting_fields w))
spaced t (forked due) = refl
spaced t (timed due v) = refl
spaced t idle = refl
spaced t (reading_on c) = refl

-- ---- a task

pub record TaskShown : Type 0 where
  pub player : ℤ
  pub waiting : Waiting
  pub entries : List Shown

abbrev pub task_shown : Task → TaskShown
task_shown t = record { player = t.player; waiting = t.waiting; entries = map entry_key t.entries }

abbrev pub task_key : ℤ × Task → ℤ × TaskShown
task_key e = (e.0, task_shown e.1)

abbrev numbered_lines : ℤ × Task → List Text
numbered_lines e = task_lines e.0 e.1

abbrev behind_task : List Text → Bool
behind_task r = stops is_value_line r && not (begins_with is_entry_line r)

abbrev is_task_line : Text → Bool
is_task_line [] = false
is_task_line (c ∷ t) = c == 116

task_same : (x y : ℤ × Task) (r s : List Text) → IsTrue (numbered_task_holds x) → IsTrue (numbered_task_holds y) → IsTrue (behind_task r) → IsTrue (behind_task s)
    → numbered_lines x ++ r ≡ numbered_lines y ++ s → (task_key x ≡ task_key y) × (r ≡ s)
task_same x y r s h k f g e =
    let a : Task = x.1 in
    let b : Task = y.1 in
    let h0 = second_holds (in_number_range x.0) (task_holds a) h in
    let k0 = second_holds (in_number_range y.0) (task_holds b) k in
    let h1 = second_holds (in_number_range a.player) _ h0 in
    let k1 = second_holds (in_number_range b.player) _ k0 in
    let head : signed_decimal x.0 ++ (32 ∷ fields (waiting_fields a.waiting)) ≡ signed_decimal y.0 ++ (32 ∷ fields (waiting_fields b.waiting))
    = sym (spaced (signed_decimal x.0) a.waiting) ∙ append_cancel_left (codes "task ") _ _ (ap (λ ts. get_or ts 0 []) e) ∙ spaced (signed_decimal y.0) b.waiting in
    let number = signed_read_once x.0 y.0 (32 ∷ fields (waiting_fields a.waiting)) (32 ∷ fields (waiting_fields b.waiting)) (first_holds (in_number_range x.0) (task_holds a) h) (first_holds (in_number_range y.0) (task_holds b) k) refl refl head in
    let waiting = waiting_told a.waiting b.waiting (first_holds (waiting_holds a.waiting) _ h1) (first_holds (waiting_holds b.waiting) _ k1) (tail_same 32 32 (fields (waiting_fields a.waiting)) (fields (waiting_fields b.waiting)) number.1) in
    let player = whole_signed a.player b.player (first_holds (in_number_range a.player) _ h0) (first_holds (in_number_range b.player) _ k0) (append_cancel_left (codes "player #") _ _ (ap (λ ts. get_or ts 1 []) e)) in
    let later : each_entry a.entries ++ r ≡ each_entry b.entries ++ s = ap (λ ts. drop 3 ts) e in
    let entries = entries_in_front a.entries b.entries r s (second_holds (waiting_holds a.waiting) (list_all entry_holds a.entries) h1) (second_holds (waiting_holds b.waiting) (list_all entry_holds b.entries) k1)
    (first_holds (stops is_value_line r) _ f) (first_holds (stops is_value_line s) _ g)
    (second_holds (stops is_value_line r) (not (begins_with is_entry_line r)) f) (second_holds (stops is_value_line s) (not (begins_with is_entry_line s)) g) later in
    (λ i. (number.0 i, record { player = player i; waiting = waiting i; entries = entries.0 i }), entries.1)

tasks_are : AreRecords numbered_lines task_key numbered_task_holds (begins_with is_task_line) behind_task
tasks_are = record { starts = λ x r. refl; goes = λ x r. refl; one = task_same }

tasks_each : (es : Numbered Task) → each_task es ≡ each_of numbered_lines es
tasks_each [] = refl
tasks_each (e ∷ es) = ap (λ ts. task_lines e.0 e.1 ++ ts) (tasks_each es)

-- in front of a line that is neither a task's nor an entry's nor a value's
pub tasks_in_front : (es fs : Numbered Task) (r s : List Text) → IsTrue (list_all numbered_task_holds es) → IsTrue (list_all numbered_task_holds fs)
    → IsTrue (behind_task r) → IsTrue (behind_task s) → IsTrue (not (begins_with is_task_line r)) → IsTrue (not (begins_with is_task_line s)) → each_task es ++ r ≡ each_task fs ++ s
    → (map task_key es ≡ map task_key fs) × (r ≡ s)
tasks_in_front es fs r s h k f g m n e =
    records_read_once numbered_lines task_key numbered_task_holds (begins_with is_task_line) behind_task (tasks_are) es fs r s h k f g m n
    (ap (λ ts. ts ++ r) (sym (tasks_each es)) ∙ e ∙ ap (λ ts. ts ++ s) (tasks_each fs))
