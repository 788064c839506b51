-- The lines of tasks as fields: words, and literals of values.
use Rattle.std.proofs.Common.{◌≡◌, refl, ℕ, zero, suc, ◌<◌, ◌≤◌, ◌^◌, nat_le, ℤ, pos, negsuc, true, List, [], ◌∷◌, ◌++◌, length, IsTrue, leb-true, arith}
use Rattle.std.specs.Prelude.{◌≤ℤ◌, codes}
use Rattle.std.specs.Fmt.{decimal, signed_decimal}
use Rattle.std.specs.List.{list_all}
use Rattle.std.proofs.lemmas.Bool.{lt-ltb}
use Rattle.spec_value.specs.Datum.{Datum, Text, text, list, of_list, in_number_range, is_text, is_value}
use Rattle.spec_value.specs.Table.{Named}
use Rattle.spec_value.proofs.Entries.{first_holds, second_holds, both_hold}
use Rattle.spec_value.proofs.Keys.{as_test}
use Rattle.spec_world.specs.World.{Call, Start, Native, NativeName, move_native, create_native, recycle_native, eval_native, Waiting, forked, timed, idle, reading_on}
use Rattle.spec_world.specs.WellFormed.{native_fits}
use Rattle.spec_world.specs.Checkpoint.{object_text, flag, native_text, start_values, variable_lines}
use Rattle.spec_checkpoint.specs.Holding.{is_number, call_holds}
use Rattle.spec_checkpoint.proofs.Fields.{values_hold}
use Rattle.line_fields.specs.Fields.{Field, word, held, all_spelled, is_field, are_fields}
use Rattle.line_fields.specs.Values.{is_readable, nests_no_deeper}
use Rattle.line_fields.proofs.Words.{word_decimal, word_number, word_signed, word_object, word_flag, word_native}
use Rattle.task_lines.specs.Entries.{own_fields}
use Rattle.task_lines.specs.Tasks.{WaitingReads, NativeReads, variable_reads}

-- ---- how a task waits

abbrev pub waiting_words : Waiting → List Field
waiting_words (forked due) = word (codes "fork") ∷ word (decimal due) ∷ []
waiting_words (timed due v) = word (codes "wait") ∷ word (decimal due) ∷ held v ∷ []
waiting_words idle = word (codes "idle") ∷ []
waiting_words (reading_on c) = word (codes "read") ∷ word (signed_decimal c) ∷ []

abbrev pub own_words : ℤ → Waiting → List Field
own_words i w = word (signed_decimal i) ∷ waiting_words w

pub own_spelled : (i : ℤ) (w : Waiting) → all_spelled (word (codes "task") ∷ own_words i w) ≡ own_fields i w
own_spelled i (forked due) = refl
own_spelled i (timed due v) = refl
own_spelled i idle = refl
own_spelled i (reading_on c) = refl

pub small_number : (n : ℕ) → n ≤ 2147483647 → IsTrue (is_number n)
small_number n le = lt-ltb n (2 ^ 31) (omega (arith, le))

pub connection_in_range : (c : ℤ) → pos 1 ≤ℤ c → c ≤ℤ pos 999999 → IsTrue (in_number_range c)
connection_in_range (pos n) least most = let le : n ≤ 999999 = leb-true n 999999 (as_test (nat_le n 999999) most.le) in lt-ltb n (2 ^ 31) (omega (arith, le))
connection_in_range (negsuc n) least most = absurd (least.le)

two_fields : (f g : Field) → IsTrue (is_field f) → IsTrue (is_field g) → IsTrue (are_fields (f ∷ g ∷ []))
two_fields f g h k = both_hold (is_field f) _ h (both_hold (is_field g) true k refl)

waiting_are : (w : Waiting) → WaitingReads w → IsTrue (are_fields (waiting_words w))
waiting_are (forked due) h = two_fields (word (codes "fork")) (word (decimal due)) refl (word_number due (small_number due h))
waiting_are (timed due v) h =
    both_hold (is_field (word (codes "wait"))) _ refl (two_fields (word (decimal due)) (held v) (word_number due (small_number due h.0)) (first_holds (is_value v) (nests_no_deeper v) h.1))
waiting_are idle h = refl
waiting_are (reading_on c) h = two_fields (word (codes "read")) (word (signed_decimal c)) refl (word_signed c (connection_in_range c h.0 h.1))

pub own_are : (i : ℤ) (w : Waiting) → IsTrue (in_number_range i) → WaitingReads w → IsTrue (are_fields (word (codes "task") ∷ own_words i w))
own_are i w h k = both_hold (is_field (word (codes "task"))) _ refl (both_hold (is_field (word (signed_decimal i))) _ (word_signed i h) (waiting_are w k))

-- ---- verbs

abbrev pub call_words : Call → ℕ → List Field
call_words c n =
    word (object_text c.this) ∷ word (object_text c.caller) ∷ word (object_text c.definer) ∷ word (object_text c.programmer) ∷ held (text c.verb) ∷ word (flag c.debug) ∷ word (decimal n) ∷ []

pub call_are : (c : Call) (n : ℕ) → IsTrue (call_holds c) → n < 2 ^ 63 → IsTrue (are_fields (word (codes "frame") ∷ call_words c n))
call_are c n h small =
    both_hold (is_field (word (codes "frame"))) _ refl
    (both_hold (is_field (word (object_text c.this))) _ (word_object c.this)
    (both_hold (is_field (word (object_text c.caller))) _ (word_object c.caller)
    (both_hold (is_field (word (object_text c.definer))) _ (word_object c.definer)
    (both_hold (is_field (word (object_text c.programmer))) _ (word_object c.programmer)
    (both_hold (is_text c.verb) _ (verb_holds h) (two_fields (word (flag c.debug)) (word (decimal n)) (word_flag c.debug) (word_decimal n (omega (arith, small)))))))))
  where
    verb_holds : IsTrue (call_holds c) → IsTrue (is_text c.verb)
    verb_holds h =
        second_holds (in_number_range c.programmer) (is_text c.verb)
        (second_holds (in_number_range c.definer) _ (second_holds (in_number_range c.caller) _ (second_holds (in_number_range c.this) _ h)))

-- ---- built-in functions

pub native_stage : (name : NativeName) (k : ℕ) (vs : List Datum) → IsTrue (native_fits name k vs) → (1 ≤ k) × (k ≤ 3)
native_stage move_native (suc zero) vs h = (omega arith, omega arith)
native_stage move_native (suc (suc zero)) vs h = (omega arith, omega arith)
native_stage move_native (suc (suc (suc zero))) vs h = (omega arith, omega arith)
native_stage create_native (suc zero) vs h = (omega arith, omega arith)
native_stage recycle_native (suc zero) vs h = (omega arith, omega arith)
native_stage eval_native (suc zero) vs h = (omega arith, omega arith)
native_stage _ _ vs h = cc

abbrev pub native_words : Native → List Field
native_words n = word (native_text n.name) ∷ word (decimal n.stage) ∷ held (list (of_list n.arguments)) ∷ []

pub native_are : (n : Native) → NativeReads n → IsTrue (are_fields (word (codes "native") ∷ native_words n))
native_are n h =
    let stage = native_stage n.name n.stage n.arguments h.fits in
    both_hold (is_field (word (codes "native"))) _ refl
    (both_hold (is_field (word (native_text n.name))) _ (word_native n.name)
    (two_fields (word (decimal n.stage)) (held (list (of_list n.arguments))) (word_decimal n.stage (omega (arith, stage.1)))
    (first_holds (is_value (list (of_list n.arguments))) (nests_no_deeper (list (of_list n.arguments))) h.arguments)))

-- ---- the start

pub start_readable : (s : Start) → IsTrue (list_all is_value (start_values s)) → IsTrue (is_readable (list (of_list (start_values s))))
start_readable s h = both_hold (is_value (list (of_list (start_values s)))) (nests_no_deeper (list (of_list (start_values s)))) (values_hold (start_values s) h) refl

pub start_are : (s : Start) → IsTrue (list_all is_value (start_values s)) → IsTrue (are_fields (held (list (of_list (start_values s))) ∷ []))
start_are s h = both_hold (is_value (list (of_list (start_values s)))) true (values_hold (start_values s) h) refl

-- ---- variables

abbrev pub variable_words : Text × Datum → List Field
variable_words e = held (text e.0) ∷ held e.1 ∷ []

pub variable_are : (e : Text × Datum) → IsTrue (variable_reads e) → IsTrue (are_fields (variable_words e))
variable_are e h =
    two_fields (held (text e.0)) (held e.1) (first_holds (is_text e.0) (is_readable e.1) h)
    (first_holds (is_value e.1) (nests_no_deeper e.1) (second_holds (is_text e.0) (is_readable e.1) h))

pub as_many_variables : (es : Named Datum) (rest : List Text) → length es ≤ length (variable_lines es ++ rest)
as_many_variables [] rest = omega arith
as_many_variables (e ∷ es) rest = let more = as_many_variables es rest in omega (arith, more)
