-- Which line may come next, and what comes after it.
use Rattle.std.specs.Prelude.{ℕ, zero, suc, ◌==◌, ◌&&◌, nat_lt, nat_le, Bool, true, false, not, List, [], ◌∷◌, ◌++◌, map, length, if◌then◌else◌, Option, Some, None, codes}
use Rattle.spec_value.specs.Datum.{Text, same_text, Datum}
use Rattle.spec_program.specs.Tree.{Program, the_end}
use Rattle.spec_program.specs.Construct.{of_program}
use Rattle.spec_program.specs.Place.{Holds, held_count}
use Rattle.spec_world.specs.World.{NativeName, move_native, create_native, recycle_native, eval_native}
use Rattle.spec_world.specs.WellFormed.{native_fits}
use Rattle.spec_world.specs.Checkpoint as fault
use Rattle.spec_world.specs.Checkpoint.{CheckpointFault}
use Rattle.spec_faults.specs.Cutting.{fields_in, field_at}
use Rattle.spec_faults.specs.Plain.{number_in, path_in}
use Rattle.spec_faults.specs.Literals.{value_of, items_of}
use Rattle.spec_faults.specs.Forms as form
use Rattle.spec_faults.specs.Forms.{Wanted, fault_of, form_among}
use Rattle.spec_faults.specs.Codes.{program_of, holds_down, total, begins_held}

-- what comes so many times
pub data Group : Type 0 where
  each_link each_object each_slot each_verb each_task each_variable : Group

-- whose program: a verb's, or that of a verb under way, of a fork or not
pub data Whose : Type 0 where
  of_verb : Whose
  of_frame : Bool → Whose

pub data Awaited : Type 0 where
  first_line : Awaited
  one : List Wanted → Awaited  -- a line that tells nothing of what comes
  counted : Text → Group → Awaited  -- how many of the group come, by this word
  again : ℕ → Group → Awaited  -- so many of the group
  verb : Awaited
  code : ℕ → List Text → Whose → Awaited  -- so many lines of a program, behind these
  task : Awaited
  entries : Bool → Awaited  -- how many entries a task has, which is a fork or not
  entry : Bool → ℕ → Bool → ℕ → Awaited  -- so many entries of a fork or not, behind so many verbs, and right behind a built-in function or not
  place : Bool → Program → Awaited
  held : List (ℕ × Holds) → Awaited  -- how many values are held
  values : ℕ → ℕ → Holds → List Datum → Awaited  -- so many values of those that are held with so many loops around, behind these

-- what a line is found to be: it has a fault, which is told so many lines before it; or it has none, and this comes next
pub data Verdict : Type 0 where
  faulty : ℕ → CheckpointFault → Verdict
  goes_on : List Awaited → Verdict

abbrev pub only_if : Bool → CheckpointFault → List Awaited → Verdict
only_if true k more = goes_on more
only_if false k more = faulty 0 k

abbrev pub by_fault : Option CheckpointFault → List Text → (List Text → Verdict) → Verdict
by_fault (Some k) ts next = faulty 0 k
by_fault None ts next = next ts

-- by the fields that are wanted, and what they then tell
abbrev pub by_form : List Wanted → List Text → (List Text → Verdict) → Verdict
by_form ws ts next = by_fault (fault_of ws ts) ts next

-- ---- programs

abbrev pub behind_code : Whose → Program → List Awaited
behind_code of_verb p = []
behind_code (of_frame is_fork) p = one form.start_form ∷ place is_fork p ∷ []

-- told at the first of its lines
abbrev pub whole_code : ℕ → Whose → Option Program → Verdict
whole_code before whose None = faulty before fault.code
whole_code before whose (Some p) = goes_on (behind_code whose p)

abbrev pub one_code_line : ℕ → List Text → Whose → Text → Verdict
one_code_line zero before whose t = whole_code (length before) whose (program_of (before ++ t ∷ []))
one_code_line (suc n) before whose t = goes_on (code (suc n) (before ++ t ∷ []) whose ∷ [])

-- ---- entries

-- a fork is one verb; else there are 50 at most
abbrev pub verb_may_stand : Bool → ℕ → Bool
verb_may_stand is_fork verbs = nat_lt verbs (if is_fork then 1 else 50)

-- neither first nor last, and no two together; a fork has none
abbrev pub native_may_stand : Bool → ℕ → Bool → ℕ → Bool
native_may_stand is_fork verbs is_behind more = not is_fork && (nat_le 1 verbs && (not is_behind && nat_le 1 more))

abbrev pub native_named : Text → NativeName
native_named t =
    if same_text t (codes "move") then move_native
    else (if same_text t (codes "create") then create_native else (if same_text t (codes "recycle") then recycle_native else eval_native))

abbrev pub arguments_fit : NativeName → ℕ → Option (List Datum) → Bool
arguments_fit name stage None = false
arguments_fit name stage (Some vs) = native_fits name stage vs

abbrev pub native_goes : List Text → Bool
native_goes ts = arguments_fit (native_named (field_at ts 1)) (number_in (field_at ts 2)) (items_of (value_of (field_at ts 3)))

abbrev pub one_entry : Bool → ℕ → Bool → ℕ → Bool → List Text → Verdict
one_entry is_fork verbs is_behind more true ts =
    only_if (verb_may_stand is_fork verbs) fault.frame (code (number_in (field_at ts 7)) [] (of_frame is_fork) ∷ entry is_fork (suc verbs) false more ∷ [])
one_entry is_fork verbs is_behind more false ts =
    only_if (native_may_stand is_fork verbs is_behind more && native_goes ts) fault.frame (entry is_fork verbs true more ∷ [])

-- where the path leads: a fork stands at its beginning, any other verb at a call
abbrev pub holds_at : Bool → Program → List ℕ → Option (List (ℕ × Holds))
holds_at true p [] = Some []
holds_at true p (n ∷ path) = None
holds_at false p path = holds_down 0 (of_program p) path

abbrev pub behind_place : Option (List (ℕ × Holds)) → Verdict
behind_place None = faulty 0 fault.frame
behind_place (Some hs) = goes_on (counted (codes "vars") each_variable ∷ held hs ∷ [])

abbrev pub each_held : List (ℕ × Holds) → List Awaited
each_held hs = map (λ h. values (held_count h.1) h.0 h.1 []) hs

abbrev pub with_value : List Datum → Option Datum → List Datum
with_value vs None = vs
with_value vs (Some v) = vs ++ v ∷ []

abbrev pub one_value : ℕ → ℕ → Holds → List Datum → Verdict
one_value more around h vs = only_if (begins_held around h vs) fault.frame (values more around h vs ∷ [])

-- ---- each line

abbrev pub is_fork_line : List Text → Bool
is_fork_line ts = same_text (field_at ts 2) (codes "fork")

abbrev pub told : Awaited → Text → Verdict
told first_line t = only_if (same_text t (codes "MOO-CHECKPOINT 1")) fault.header []
told (one ws) t = by_form ws (fields_in t) (λ ts. goes_on [])
told (counted w g) t = by_form (form.counted_form w) (fields_in t) (λ ts. goes_on (again (number_in (field_at ts 1)) g ∷ []))
told verb t = by_form form.verb_form (fields_in t) (λ ts. goes_on (code (number_in (field_at ts 7)) [] of_verb ∷ []))
told (code (suc n) before whose) t = one_code_line n before whose t
told task t = by_form (form_among form.task_forms (fields_in t)) (fields_in t) (λ ts. goes_on (one form.player_form ∷ entries (is_fork_line ts) ∷ []))
told (entries is_fork) t = by_form (form.counted_form (codes "entries")) (fields_in t) (λ ts. goes_on (entry is_fork 0 false (number_in (field_at ts 1)) ∷ []))
told (entry is_fork verbs is_behind (suc more)) t =
    by_form (form_among (form.frame_form ∷ form.native_form ∷ []) (fields_in t)) (fields_in t)
    (λ ts. one_entry is_fork verbs is_behind more (same_text (field_at ts 0) (codes "frame")) ts)
told (place is_fork p) t = by_form form.place_form (fields_in t) (λ ts. behind_place (holds_at is_fork p (path_in (field_at ts 1))))
told (held hs) t = by_form (form.counted_form (codes "held")) (fields_in t) (λ ts. only_if (number_in (field_at ts 1) == total hs) fault.frame (each_held hs))
told (values (suc more) around h vs) t = by_form form.held_form (fields_in t) (λ ts. one_value more around h (with_value vs (value_of (field_at ts 0))))
told _ t = goes_on []

-- ---- what comes first of what is awaited

abbrev pub group : Group → List Awaited
group each_link = one form.link_form ∷ []
group each_object = map one form.object_forms ++ (counted (codes "slots") each_slot ∷ counted (codes "verbs") each_verb ∷ [])
group each_slot = one form.slot_form ∷ []
group each_verb = verb ∷ []
group each_task = task ∷ []
group each_variable = one form.variable_form ∷ []

-- with a line in front, or nothing
abbrev pub opened : List Awaited → List Awaited
opened [] = []
opened (again zero g ∷ more) = opened more
opened (again (suc n) g ∷ more) = group g ++ (again n g ∷ more)
opened (code zero ts of_verb ∷ more) = opened more
opened (code zero ts (of_frame is_fork) ∷ more) = behind_code (of_frame is_fork) the_end ++ more
opened (entry is_fork verbs is_behind zero ∷ more) = opened more
opened (values zero around h vs ∷ more) = opened more
opened (a ∷ more) = a ∷ more

-- the lines of a world
abbrev pub whole : List Awaited
whole =
    first_line ∷ one form.next_form ∷ one form.greatest_form ∷ one form.ending_form ∷ counted (codes "links") each_link
    ∷ counted (codes "objects") each_object ∷ counted (codes "tasks") each_task ∷ one form.end_form ∷ []
