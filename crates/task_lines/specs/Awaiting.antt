-- What is awaited of a task's lines, and behind those that were read.
use Rattle.std.specs.Prelude.{◌≡◌, ℕ, suc, ◌==◌, ◌&&◌, not, nat_lt, Bool, true, false, List, [], ◌∷◌, Result, Ok, Err, codes}
use Rattle.spec_value.specs.Datum.{Text, same_text}
use Rattle.spec_world.specs.Checkpoint as fault
use Rattle.spec_faults.specs.Cutting.{field_at}
use Rattle.spec_faults.specs.Plain.{number_in}
use Rattle.spec_faults.specs.Forms.{Wanted, word, task_id, moment, literal, connection, has_form, form_among, task_forms, player_form, frame_form, native_form}
use Rattle.spec_faults.specs.Awaited.{Awaited, one, code, of_frame, entries, entry, Verdict, goes_on, only_if, by_form, native_goes, is_fork_line}
use Rattle.checkpoint_lines.specs.Rows.{row_fields}
use Rattle.checkpoint_lines.specs.Told.{row_fault}
use Rattle.checkpoint_lines.specs.declared.fault.DecodeError.{DecodeError}
use Rattle.checkpoint_lines.specs.declared.fault.FaultKind.TheVariants as kind
use Rattle.checkpoint_lines.specs.declared.row.Row.{Row}
use Rattle.task_lines.specs.declared.entry.Begun.{Begun}
use Rattle.task_lines.specs.declared.entry.Begun.TheVariants.{Verb, Native}
use Rattle.task_lines.specs.declared.entry.Place.{Place}
use Rattle.task_lines.specs.declared.waiting.Manner.{Manner}
use Rattle.task_lines.specs.declared.waiting.Manner.TheVariants.{Fork, Wait, Idle, Read}

-- ---- how a task waits

abbrev pub form_of : Manner → List Wanted
form_of Fork = word (codes "task") ∷ task_id ∷ word (codes "fork") ∷ moment ∷ []
form_of Wait = word (codes "task") ∷ task_id ∷ word (codes "wait") ∷ moment ∷ literal ∷ []
form_of Idle = word (codes "task") ∷ task_id ∷ word (codes "idle") ∷ []
form_of Read = word (codes "task") ∷ task_id ∷ word (codes "read") ∷ connection ∷ []

abbrev pub manner_forks : Manner → Bool
manner_forks Fork = true
manner_forks Wait = false
manner_forks Idle = false
manner_forks Read = false

-- the form that the line has; or it has none
abbrev pub MannerTells : Result Manner DecodeError → Row → Type 0
MannerTells (Ok m) r = (form_among task_forms (row_fields r) ≡ form_of m) × (has_form (form_of m) (row_fields r) ≡ true) × (is_fork_line (row_fields r) ≡ manner_forks m)
MannerTells (Err e) r = (form_among task_forms (row_fields r) ≡ []) × (e ≡ row_fault r kind.Line)

-- behind a task's own line, of a fork or not
abbrev pub behind_own : Bool → List Awaited
behind_own is_fork = one player_form ∷ entries is_fork ∷ []

-- ---- where an entry stands

-- it is the first where no verb stands before it, and the last where so many, none, are left behind it
pub record IsPlace (p : Place) (more : ℕ) : Type 0 where
  pub first : p.is_first ≡ (p.verbs == 0)
  pub last : p.is_last ≡ (more == 0)

-- a verb, or a built-in function, may stand there
abbrev pub stands : Place → Bool → Bool
stands p false = not (p.is_fork && not p.is_first) && nat_lt p.verbs 50
stands p true = not (p.is_fork && not p.is_first) && (not p.is_first && (not p.is_last && not p.is_behind_native))

abbrev pub verbs_behind : ℕ → Bool → ℕ
verbs_behind n true = n
verbs_behind n false = suc n

-- so many entries from there
abbrev pub entry_awaited : Place → ℕ → Awaited
entry_awaited p more = entry p.is_fork p.verbs p.is_behind_native more

-- so many behind it, which is a built-in function or not
abbrev pub next_awaited : Place → ℕ → Bool → Awaited
next_awaited p more is_native = entry p.is_fork (verbs_behind p.verbs is_native) is_native more

-- ---- an entry's own line

abbrev pub is_native_begun : Begun → Bool
is_native_begun (Verb h) = false
is_native_begun (Native m) = true

-- of the entry behind its own line
abbrev pub rest_awaited : Bool → Begun → List Awaited
rest_awaited is_fork (Verb h) = code h.lines [] (of_frame is_fork) ∷ []
rest_awaited is_fork (Native m) = []

abbrev pub native_verdict : List Text → Verdict
native_verdict ts = only_if (native_goes ts) fault.frame []

abbrev pub own_goes : Bool → Bool → List Text → Verdict
own_goes is_fork true ts = goes_on (code (number_in (field_at ts 7)) [] (of_frame is_fork) ∷ [])
own_goes is_fork false ts = native_verdict ts

-- wherever it stands
abbrev pub own_verdict : Bool → List Text → Verdict
own_verdict is_fork ts = by_form (form_among (frame_form ∷ native_form ∷ []) ts) ts (λ us. own_goes is_fork (same_text (field_at us 0) (codes "frame")) us)
