-- What is under way in a task, as its lines tell it: the outermost first.
use Rattle.std.specs.Prelude.{ℕ, ℤ, suc, ◌&&◌, not, nat_lt, Bool, true, false, List, [], ◌∷◌, ◌++◌, length, codes}
use Rattle.std.specs.Fmt.{decimal, signed_decimal}
use Rattle.spec_value.specs.Datum.{Text, text}
use Rattle.spec_value.specs.Literal.{literal}
use Rattle.spec_program.specs.Spelling.{canonical_lines}
use Rattle.spec_world.specs.World.{Call, Frame, Native, Waiting, Entry, frame_entry, native_entry}
use Rattle.spec_world.specs.Checkpoint.{fields, counted, object_text, flag, list_literal, path, part_numbers, values_held, literal_lines, variable_lines, start_values, native_text, entry_lines, waiting_fields}
use Rattle.moo_code.specs.Machine.{Kept, Outer, verb, native}
use Rattle.moo_code.specs.Stands.{kept_of}
use Rattle.moo_code.specs.Resuming.{waiting_kept}

-- ---- lines

abbrev pub own_fields : ℤ → Waiting → List Text
own_fields i w = codes "task" ∷ signed_decimal i ∷ waiting_fields w

abbrev pub call_fields : Call → ℕ → List Text
call_fields c n =
    codes "frame" ∷ object_text c.this ∷ object_text c.caller ∷ object_text c.definer ∷ object_text c.programmer ∷ literal (text c.verb) ∷ flag c.debug ∷ decimal n ∷ []

abbrev pub native_fields : Native → List Text
native_fields n = codes "native" ∷ native_text n.name ∷ decimal n.stage ∷ list_literal n.arguments ∷ []

abbrev pub held_lines : Frame → List Text
held_lines f = counted (codes "held") (length (values_held f.pieces)) ∷ literal_lines (values_held f.pieces)

abbrev pub lines_behind_program : Frame → List Text
lines_behind_program f =
    fields (codes "start" ∷ list_literal (start_values f.start) ∷ [])
    ∷ fields (codes "place" ∷ path (part_numbers f.pieces) ∷ [])
    ∷ counted (codes "vars") (length f.variables)
    ∷ (variable_lines f.variables ++ held_lines f)

abbrev pub lines_behind_call : Frame → List Text
lines_behind_call f = canonical_lines f.program ++ lines_behind_program f

-- of an entry its own line, and those behind it
abbrev pub own_line : Entry → Text
own_line (frame_entry f) = fields (call_fields f.call (length (canonical_lines f.program)))
own_line (native_entry n) = fields (native_fields n)

abbrev pub lines_behind : Entry → List Text
lines_behind (frame_entry f) = lines_behind_call f
lines_behind (native_entry n) = []

abbrev pub lines_of : List Entry → List Text
lines_of [] = []
lines_of (e ∷ es) = entry_lines e ++ lines_of es

-- ---- what stands for an entry: a verb that was forked stands at its beginning, any other at a call

abbrev pub kept_for : Bool → Frame → Kept
kept_for true f = kept_of f 0
kept_for false f = waiting_kept f

abbrev pub outer_for : Bool → Entry → Outer
outer_for is_fork (frame_entry f) = verb (kept_for is_fork f)
outer_for is_fork (native_entry n) = native n

-- ---- their order

abbrev pub is_native : Entry → Bool
is_native (frame_entry f) = false
is_native (native_entry n) = true

abbrev pub is_native_outer : Outer → Bool
is_native_outer (verb k) = false
is_native_outer (native n) = true

abbrev pub is_end : List Entry → Bool
is_end [] = true
is_end (e ∷ es) = false

abbrev pub verbs_with : ℕ → Entry → ℕ
verbs_with n (frame_entry f) = suc n
verbs_with n (native_entry m) = n

-- one may stand there, of a fork or not, first or not, last or not, behind a built-in function or not, and behind so many verbs
abbrev pub may_stand : Bool → Bool → Bool → Bool → ℕ → Entry → Bool
may_stand is_fork is_first is_last is_behind verbs (frame_entry f) = not (is_fork && not is_first) && nat_lt verbs 50
may_stand is_fork is_first is_last is_behind verbs (native_entry n) = not (is_fork && not is_first) && (not is_first && (not is_last && not is_behind))

-- all that are left
abbrev pub may_follow : Bool → Bool → Bool → ℕ → List Entry → Bool
may_follow is_fork is_first is_behind verbs [] = true
may_follow is_fork is_first is_behind verbs (e ∷ es) =
    may_stand is_fork is_first (is_end es) is_behind verbs e && may_follow is_fork false (is_native e) (verbs_with verbs e) es
