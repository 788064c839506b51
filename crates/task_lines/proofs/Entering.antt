-- What an entry's own line tells of it.
use Rattle.std.proofs.Common.{◌≡◌, ◌∙◌, refl, sym, ap, subst, ℕ, suc, ◌<◌, ◌==◌, ◌&&◌, ◌^◌, Bool, true, false, List, ◌∷◌, ◌++◌, length, IsTrue, length-append, arith}
use Rattle.std.specs.Prelude.{codes}
use Rattle.spec_value.specs.Datum.{Text, same_text}
use Rattle.spec_program.specs.Spelling.{canonical_lines}
use Rattle.spec_world.specs.World.{Frame, Native, Entry, frame_entry, native_entry}
use Rattle.spec_world.specs.Checkpoint.{fields, entry_lines}
use Rattle.moo_task.specs.declared.native.Native.{Native as StoredNative}
use Rattle.moo_task.specs.Frames.{native_of}
use Rattle.line_fields.specs.Fields.{Field, word, all_spelled, are_fields}
use Rattle.spec_faults.specs.Cutting.{field_at}
use Rattle.task_lines.specs.declared.entry.Begun.{Begun}
use Rattle.task_lines.specs.declared.entry.Begun.TheVariants.{Verb, Native as NativeBegun}
use Rattle.task_lines.specs.declared.head.Head.{Head}
use Rattle.task_lines.specs.Begun.{entry_fields, BegunBy}
use Rattle.task_lines.specs.Entries.{own_line, lines_behind, lines_behind_program}
use Rattle.task_lines.specs.Tasks.{EntryReads}
use Rattle.task_lines.proofs.LineWords.{call_words, call_are, native_words, native_are}

-- ---- its fields

abbrev pub first_word : Entry → Field
first_word (frame_entry f) = word (codes "frame")
first_word (native_entry n) = word (codes "native")

abbrev pub later_words : Entry → List Field
later_words (frame_entry f) = call_words f.call (length (canonical_lines f.program))
later_words (native_entry n) = native_words n

pub entry_spelled : (e : Entry) → all_spelled (first_word e ∷ later_words e) ≡ entry_fields e
entry_spelled (frame_entry f) = refl
entry_spelled (native_entry n) = refl

pub own_spelled : (e : Entry) → own_line e ≡ fields (all_spelled (first_word e ∷ later_words e))
own_spelled (frame_entry f) = refl
own_spelled (native_entry n) = refl

pub few_lines : (f : Frame) → length (lines_behind (frame_entry f)) < 2 ^ 63 → length (canonical_lines f.program) < 2 ^ 63
few_lines f small = let both = length-append (canonical_lines f.program) (lines_behind_program f) in omega (arith, both, small)

pub entry_are : (is_fork : Bool) (e : Entry) → EntryReads is_fork e → length (lines_behind e) < 2 ^ 63 → IsTrue (are_fields (first_word e ∷ later_words e))
entry_are is_fork (frame_entry f) h small = call_are f.call (length (canonical_lines f.program)) h.0.call (few_lines f small)
entry_are is_fork (native_entry n) h small = native_are n h

pub parts : (e : Entry) (rest : List Text) → entry_lines e ++ rest ≡ own_line e ∷ (lines_behind e ++ rest)
parts (frame_entry f) rest = refl
parts (native_entry n) rest = refl

-- ---- by its first word

abbrev pub has_word : Text → ℕ → List Text → Bool
has_word t n ts = length ts == suc n && same_text (field_at ts 0) t

pub is_frame : (e : Entry) (ts : List Text) → ts ≡ entry_fields e → has_word (codes "frame") 7 ts ≡ true → (f : Frame) × (e ≡ frame_entry f)
is_frame (frame_entry f) ts is h = (f, refl)
is_frame (native_entry n) ts is h = let never : false ≡ true = sym (ap (has_word (codes "frame") 7) is) ∙ h in absurd (cc)

pub is_native : (e : Entry) (ts : List Text) → ts ≡ entry_fields e → has_word (codes "frame") 7 ts ≡ false → (n : Native) × (e ≡ native_entry n)
is_native (native_entry n) ts is h = (n, refl)
is_native (frame_entry f) ts is h = let never : true ≡ false = sym (ap (has_word (codes "frame") 7) is) ∙ h in absurd (cc)

pub has_native : (n : Native) (ts : List Text) → ts ≡ entry_fields (native_entry n) → has_word (codes "native") 3 ts ≡ true
has_native n ts is = ap (has_word (codes "native") 3) is

-- ---- what was read of it

pub verb_begun : (e : Entry) (b : Begun) (h : Head) → b ≡ Verb h → BegunBy e b → (f : Frame) × (e ≡ frame_entry f) × (h.call ≡ f.call) × (h.lines ≡ length (canonical_lines f.program))
verb_begun (frame_entry f) b h is by = let so = subst (BegunBy (frame_entry f)) is by in (f, refl, so.0, so.1)
verb_begun (native_entry n) b h is by = absurd (subst (BegunBy (native_entry n)) is by)

pub native_begun : (e : Entry) (b : Begun) (m : StoredNative) → b ≡ NativeBegun m → BegunBy e b → (n : Native) × (e ≡ native_entry n) × (native_of m ≡ n)
native_begun (native_entry n) b m is by = (n, refl, subst (BegunBy (native_entry n)) is by)
native_begun (frame_entry f) b m is by = absurd (subst (BegunBy (frame_entry f)) is by)
