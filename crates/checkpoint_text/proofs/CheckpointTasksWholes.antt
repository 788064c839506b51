-- The lines of verbs and of tasks, part by part.
use Rattle.std.proofs.Common.{◌≡◌, ℕ, ℤ, List, [], ◌∷◌, ◌++◌, length, refl, ap, ◌∙◌, append_assoc}
use Rattle.std.specs.Prelude.{codes}
use Rattle.std.specs.Fmt.{signed_decimal}
use Rattle.spec_value.specs.Datum.{Datum, Text}
use Rattle.spec_world.specs.World.{Task, Waiting, forked, timed, idle, reading_on}
use Rattle.spec_world.specs.Checkpoint.{counted, fields, spaced_by, waiting_fields, each_entry, task_lines, with_line_ends}
use Rattle.moo_code.specs.Machine.{Kept}
use Rattle.tree_parts.specs.Telling.{told_path, told_held, verb_lines}
use Rattle.checkpoint_text.proofs.Joined.{lines_more}
use Rattle.checkpoint_text.specs.CheckpointFramesLines.{program_lines, start_line, place_line, vars_lines, held_lines}
use Rattle.checkpoint_text.specs.CheckpointTasksLines.{waiting_line, reason_text, player_line}

-- ---- verbs

pub frame_written : (why : Waiting) (k : Kept) (path : List ℕ) (held : List Datum) (p0 p1 p2 p3 p4 p5 : Text) → path ≡ told_path why k → held ≡ told_held why k
    → p1 ≡ p0 ++ with_line_ends (program_lines k.call k.program) → p2 ≡ p1 ++ with_line_ends (start_line k.start ∷ [])
    → p3 ≡ p2 ++ with_line_ends (place_line path ∷ []) → p4 ≡ p3 ++ with_line_ends (vars_lines k.variables)
    → p5 ≡ p4 ++ with_line_ends (held_lines held) → p5 ≡ p0 ++ with_line_ends (verb_lines why k)
frame_written why k path held p0 p1 p2 p3 p4 p5 path_is held_is e1 e2 e3 e4 e5 =
    lines_more p0 p1 p5 (program_lines k.call k.program) (start_line k.start ∷ place_line path ∷ (vars_lines k.variables ++ held_lines held)) e1
    (lines_more p1 p2 p5 (start_line k.start ∷ []) (place_line path ∷ (vars_lines k.variables ++ held_lines held)) e2
    (lines_more p2 p3 p5 (place_line path ∷ []) (vars_lines k.variables ++ held_lines held) e3 (lines_more p3 p4 p5 (vars_lines k.variables) (held_lines held) e4 e5)))
    ∙ (λ i. p0 ++ with_line_ends (program_lines k.call k.program ++ (start_line k.start ∷ place_line (path_is i) ∷ (vars_lines k.variables ++ held_lines (held_is i)))))

-- ---- how a task waits

reason_shape : (old word n reason : Text) → (((old ++ word) ++ n) ++ 32 ∷ reason) ++ 10 ∷ [] ≡ old ++ ((word ++ (n ++ 32 ∷ reason)) ++ 10 ∷ [])
reason_shape old word n reason = simp append_assoc

reason_joined : (old word n reason p q r s : Text) → p ≡ old ++ word → q ≡ p ++ n → r ≡ q ++ 32 ∷ reason → s ≡ r ++ 10 ∷ []
    → s ≡ old ++ ((word ++ (n ++ 32 ∷ reason)) ++ 10 ∷ [])
reason_joined old word n reason p q r s e1 e2 e3 e4 = cc (reason_shape old word n reason)

reason_spaced : (n : Text) (why : Waiting) → n ++ 32 ∷ fields (waiting_fields why) ≡ spaced_by n (waiting_fields why)
reason_spaced n (forked due) = refl
reason_spaced n (timed due v) = refl
reason_spaced n idle = refl
reason_spaced n (reading_on c) = refl

pub waiting_written : (i : ℤ) (why : Waiting) (p0 p1 p2 p3 p4 : Text) → p1 ≡ p0 ++ codes "task " → p2 ≡ p1 ++ signed_decimal i → p3 ≡ p2 ++ reason_text why
    → p4 ≡ p3 ++ 10 ∷ [] → p4 ≡ p0 ++ with_line_ends (waiting_line i why ∷ [])
waiting_written i why p0 p1 p2 p3 p4 e1 e2 e3 e4 =
    reason_joined p0 (codes "task ") (signed_decimal i) (fields (waiting_fields why)) p1 p2 p3 p4 e1 e2 e3 e4
    ∙ ap (λ t. p0 ++ ((codes "task " ++ t) ++ 10 ∷ [])) (reason_spaced (signed_decimal i) why)

-- ---- tasks

pub task_written : (i : ℤ) (t : Task) (why : Waiting) (player : ℤ) (n : ℕ) (lines : List Text) (p0 p1 p2 p3 p4 : Text) → why ≡ t.waiting → player ≡ t.player
    → n ≡ length t.entries → lines ≡ each_entry t.entries → p1 ≡ p0 ++ with_line_ends (waiting_line i why ∷ [])
    → p2 ≡ p1 ++ with_line_ends (player_line player ∷ []) → p3 ≡ p2 ++ with_line_ends (counted (codes "entries") n ∷ [])
    → p4 ≡ p3 ++ with_line_ends lines → p4 ≡ p0 ++ with_line_ends (task_lines i t)
task_written i t why player n lines p0 p1 p2 p3 p4 why_is player_is count each e1 e2 e3 e4 =
    lines_more p0 p1 p4 (waiting_line i why ∷ []) (player_line player ∷ counted (codes "entries") n ∷ lines) e1
    (lines_more p1 p2 p4 (player_line player ∷ []) (counted (codes "entries") n ∷ lines) e2 (lines_more p2 p3 p4 (counted (codes "entries") n ∷ []) lines e3 e4))
    ∙ (λ j. p0 ++ with_line_ends (waiting_line i (why_is j) ∷ player_line (player_is j) ∷ counted (codes "entries") (count j) ∷ each j))
