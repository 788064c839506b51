-- The words of ways to wait, and of built-in functions.
use Rattle.std.proofs.Common.{◌≡◌, refl, ℕ, ◌≤◌, ℤ, pos, length, Some, IsTrue}
use Rattle.std.specs.Prelude.{◌≤ℤ◌}
use Rattle.std.specs.Fmt.{decimal, signed_decimal}
use Rattle.spec_value.specs.Datum.{Datum}
use Rattle.spec_value.specs.Literal.{literal}
use Rattle.spec_world.specs.World as World
use Rattle.spec_world.specs.World.{Waiting, forked, timed, idle, reading_on}
use Rattle.spec_world.specs.Checkpoint.{native_text}
use Rattle.moo_task.specs.Frames.{native_name_of}
use Rattle.moo_task.specs.declared.native.NativeName.{NativeName}
use Rattle.moo_task.specs.declared.native.NativeName.TheVariants.{Move, Create, Recycle, Eval}
use Rattle.line_fields.specs.Values.{is_readable}
use Rattle.spec_faults.specs.Cutting.{field_at}
use Rattle.task_lines.specs.declared.waiting.Manner.TheVariants.{Fork, Wait, Idle, Read}
use Rattle.task_lines.specs.Entries.{own_fields}
use Rattle.task_lines.specs.Manners.{manner_for, manner_in, fields_of, name_in}
use Rattle.task_lines.specs.Tasks.{WaitingReads}
use Rattle.task_lines.proofs.LineWords.{own_words}

pub manner_word : (i : ℤ) (w : Waiting) → manner_in (field_at (own_fields i w) 2) ≡ Some (manner_for w)
manner_word i (forked due) = refl
manner_word i (timed due v) = refl
manner_word i idle = refl
manner_word i (reading_on c) = refl

pub as_many_words : (i : ℤ) (w : Waiting) → length (own_words i w) ≡ fields_of (manner_for w)
as_many_words i (forked due) = refl
as_many_words i (timed due v) = refl
as_many_words i idle = refl
as_many_words i (reading_on c) = refl

pub name_word : (n : NativeName) → name_in (native_text (native_name_of n)) ≡ Some n
name_word Move = refl
name_word Create = refl
name_word Recycle = refl
name_word Eval = refl

pub stored_name : (w : World.NativeName) → (n : NativeName) × (native_name_of n ≡ w)
stored_name World.move_native = (Move, refl)
stored_name World.create_native = (Create, refl)
stored_name World.recycle_native = (Recycle, refl)
stored_name World.eval_native = (Eval, refl)

-- ---- by its manner

pub forked_is : (i : ℤ) (w : Waiting) → Fork ≡ manner_for w → WaitingReads w → (n : ℕ) × (w ≡ forked n) × (n ≤ 2147483647) × (field_at (own_fields i w) 3 ≡ decimal n)
forked_is i (forked n) e h = (n, refl, h, refl)
forked_is i (timed n v) e h = absurd (cc)
forked_is i idle e h = absurd (cc)
forked_is i (reading_on c) e h = absurd (cc)

pub timed_is : (i : ℤ) (w : Waiting) → Wait ≡ manner_for w → WaitingReads w
    → (n : ℕ) × (v : Datum) × (w ≡ timed n v) × (n ≤ 2147483647) × IsTrue (is_readable v) × (field_at (own_fields i w) 3 ≡ decimal n) × (field_at (own_fields i w) 4 ≡ literal v)
timed_is i (timed n v) e h = (n, v, refl, h.0, h.1, refl, refl)
timed_is i (forked n) e h = absurd (cc)
timed_is i idle e h = absurd (cc)
timed_is i (reading_on c) e h = absurd (cc)

pub idle_is : (w : Waiting) → Idle ≡ manner_for w → idle ≡ w
idle_is idle e = refl
idle_is (forked n) e = absurd (cc)
idle_is (timed n v) e = absurd (cc)
idle_is (reading_on c) e = absurd (cc)

pub reading_is : (i : ℤ) (w : Waiting) → Read ≡ manner_for w → WaitingReads w → (c : ℤ) × (w ≡ reading_on c) × (pos 1 ≤ℤ c) × (c ≤ℤ pos 999999) × (field_at (own_fields i w) 3 ≡ signed_decimal c)
reading_is i (reading_on c) e h = (c, refl, h.0, h.1, refl)
reading_is i (forked n) e h = absurd (cc)
reading_is i (timed n v) e h = absurd (cc)
reading_is i idle e h = absurd (cc)
