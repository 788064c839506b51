-- How the logic stores worlds.
use Rattle.std.specs.Prelude.{◌≡◌, ℕ, ℤ, pos, List, [], Option, Some, None, Bool, ◌==◌, cond, refl}
use Rattle.std.specs.Coded.{Coded, code_by, coded×, coded_list, coded_option, coded_bool, coded_ℕ, coded_ℤ}
use Rattle.spec_value.specs.Datum.{Datum, Text, integer}
use Rattle.spec_value.specs.DatumCode.{datum_code}
use Rattle.spec_program.specs.Tree.{Expr, Target, Statement, Program, own_length, to_variable, give_zero, the_end}
use Rattle.spec_program.specs.TreeCode.{expr_code, target_code, statement_code, program_code}
use Rattle.spec_value.specs.Table.{Numbered, Named}
use Rattle.spec_world.specs.World.{Slot, ObjectPart, no_object, any_object, this_object, PrepositionPart, no_preposition, any_preposition, preposition_set, Verb, Header, Object, Call, Start, Frame, NativeName, move_native, create_native, recycle_native, eval_native, Native, Entry, frame_entry, native_entry, Waiting, forked, timed, idle, reading_on, Task, Programming, Link, World}
use Rattle.spec_program.specs.Construct.{Construct, of_expr, of_target, of_default, of_statement, of_program, Piece}

abbrev pub text_code : Coded Text
text_code = coded_list coded_ℕ

abbrev pub integers_code : Coded (List ℤ)
integers_code = coded_list coded_ℤ

abbrev pub named_code : {X : Type 0} → Coded X → Coded (Named X)
named_code c = coded_list (coded× text_code c)

abbrev pub numbered_code : {X : Type 0} → Coded X → Coded (Numbered X)
numbered_code c = coded_list (coded× coded_ℤ c)

-- ---- objects

abbrev pub slot_code : Coded Slot
slot_code =
    code_by (Option Datum × (ℤ × (Bool × (Bool × Bool)))) (coded× (coded_option datum_code) (coded× coded_ℤ (coded× coded_bool (coded× coded_bool coded_bool))))
    (λ s. (s.content, (s.owner, (s.readable, (s.writable, s.changeable)))))
    (λ p. record { content = p.0; owner = p.1.0; readable = p.1.1.0; writable = p.1.1.1.0; changeable = p.1.1.1.1 }) (λ _. refl)

abbrev pub from_object_part : ObjectPart → ℕ
from_object_part no_object = 0
from_object_part any_object = 1
from_object_part this_object = 2

abbrev pub to_object_part : ℕ → ObjectPart
to_object_part n = cond (n == 0) no_object (cond (n == 1) any_object this_object)

pub object_part_back : (p : ObjectPart) → to_object_part (from_object_part p) ≡ p
object_part_back no_object = refl
object_part_back any_object = refl
object_part_back this_object = refl

abbrev pub object_part_code : Coded ObjectPart
object_part_code = code_by ℕ coded_ℕ from_object_part to_object_part object_part_back

abbrev pub from_preposition_part : PrepositionPart → ℕ × ℕ
from_preposition_part no_preposition = (0, 0)
from_preposition_part any_preposition = (1, 0)
from_preposition_part (preposition_set n) = (2, n)

abbrev pub to_preposition_part : ℕ × ℕ → PrepositionPart
to_preposition_part p = cond (p.0 == 0) no_preposition (cond (p.0 == 1) any_preposition (preposition_set p.1))

pub preposition_part_back : (p : PrepositionPart) → to_preposition_part (from_preposition_part p) ≡ p
preposition_part_back no_preposition = refl
preposition_part_back any_preposition = refl
preposition_part_back (preposition_set n) = refl

abbrev pub preposition_part_code : Coded PrepositionPart
preposition_part_code = code_by (ℕ × ℕ) (coded× coded_ℕ coded_ℕ) from_preposition_part to_preposition_part preposition_part_back

abbrev pub Bits : Type 0
Bits = Bool × (Bool × (Bool × Bool))

abbrev pub bits_code : Coded Bits
bits_code = coded× coded_bool (coded× coded_bool (coded× coded_bool coded_bool))

abbrev pub Specifier : Type 0
Specifier = ObjectPart × (PrepositionPart × ObjectPart)

abbrev pub verb_code : Coded Verb
verb_code =
    code_by (Text × (ℤ × (Bits × (Specifier × Program)))) (coded× text_code (coded× coded_ℤ (coded× bits_code (coded× (coded× object_part_code (coded× preposition_part_code object_part_code)) program_code))))
    (λ v. (v.names, (v.owner, ((v.readable, (v.writable, (v.callable, v.debug))), ((v.direct, (v.preposition, v.indirect)), v.program)))))
    (λ p. record { names = p.0; owner = p.1.0; readable = p.1.1.0.0; writable = p.1.1.0.1.0; callable = p.1.1.0.1.1.0; debug = p.1.1.0.1.1.1; direct = p.1.1.1.0.0; preposition = p.1.1.1.0.1.0; indirect = p.1.1.1.0.1.1; program = p.1.1.1.1 }) (λ _. refl)

abbrev pub Flags : Type 0
Flags = Bool × (Bool × Bits)

abbrev pub header_code : Coded Header
header_code =
    code_by (Text × (ℤ × (ℤ × (ℤ × Flags)))) (coded× text_code (coded× coded_ℤ (coded× coded_ℤ (coded× coded_ℤ (coded× coded_bool (coded× coded_bool bits_code))))))
    (λ h. (h.name, (h.owner, (h.parent, (h.location, (h.is_player, (h.is_programmer, (h.is_wizard, (h.readable, (h.writable, h.fertile))))))))))
    (λ p. record {
      name = p.0;
      owner = p.1.0;
      parent = p.1.1.0;
      location = p.1.1.1.0;
      is_player = p.1.1.1.1.0;
      is_programmer = p.1.1.1.1.1.0;
      is_wizard = p.1.1.1.1.1.1.0;
      readable = p.1.1.1.1.1.1.1.0;
      writable = p.1.1.1.1.1.1.1.1.0;
      fertile = p.1.1.1.1.1.1.1.1.1;
    }) (λ _. refl)

abbrev pub object_code : Coded Object
object_code =
    code_by (Header × (List ℤ × (List ℤ × (List Text × (Named Slot × List Verb)))))
    (coded× header_code (coded× integers_code (coded× integers_code (coded× (coded_list text_code) (coded× (named_code slot_code) (coded_list verb_code))))))
    (λ x. (x.header, (x.children, (x.contents, (x.defines, (x.slots, x.verbs))))))
    (λ p. record { header = p.0; children = p.1.0; contents = p.1.1.0; defines = p.1.1.1.0; slots = p.1.1.1.1.0; verbs = p.1.1.1.1.1 }) (λ _. refl)

-- ---- tasks

abbrev pub Constructed : Type 0
Constructed = Expr × (Target × (Text × (Statement × Program)))

-- which of them it is, beside them all
abbrev pub from_construct : Construct → ℕ × Constructed
from_construct (of_expr e) = (0, (e, (to_variable [], ([], (give_zero, the_end)))))
from_construct (of_target t) = (1, (own_length, (t, ([], (give_zero, the_end)))))
from_construct (of_default x e) = (2, (e, (to_variable [], (x, (give_zero, the_end)))))
from_construct (of_statement s) = (3, (own_length, (to_variable [], ([], (s, the_end)))))
from_construct (of_program p) = (4, (own_length, (to_variable [], ([], (give_zero, p)))))

abbrev pub to_construct : ℕ × Constructed → Construct
to_construct c =
    cond (c.0 == 0) (of_expr c.1.0) (cond (c.0 == 1) (of_target c.1.1.0) (cond (c.0 == 2) (of_default c.1.1.1.0 c.1.0) (cond (c.0 == 3) (of_statement c.1.1.1.1.0) (of_program c.1.1.1.1.1))))

pub construct_back : (c : Construct) → to_construct (from_construct c) ≡ c
construct_back (of_expr e) = refl
construct_back (of_target t) = refl
construct_back (of_default x e) = refl
construct_back (of_statement s) = refl
construct_back (of_program p) = refl

abbrev pub construct_code : Coded Construct
construct_code =
    code_by (ℕ × Constructed) (coded× coded_ℕ (coded× expr_code (coded× target_code (coded× text_code (coded× statement_code program_code)))))
    from_construct to_construct construct_back

abbrev pub piece_code : Coded Piece
piece_code =
    code_by (Construct × (ℕ × List Datum)) (coded× construct_code (coded× coded_ℕ (coded_list datum_code)))
    (λ p. (p.construct, (p.part, p.held))) (λ p. record { construct = p.0; part = p.1.0; held = p.1.1 }) (λ _. refl)

abbrev pub call_code : Coded Call
call_code =
    code_by (ℤ × (ℤ × (ℤ × (ℤ × (Text × Bool))))) (coded× coded_ℤ (coded× coded_ℤ (coded× coded_ℤ (coded× coded_ℤ (coded× text_code coded_bool)))))
    (λ c. (c.this, (c.caller, (c.definer, (c.programmer, (c.verb, c.debug))))))
    (λ p. record { this = p.0; caller = p.1.0; definer = p.1.1.0; programmer = p.1.1.1.0; verb = p.1.1.1.1.0; debug = p.1.1.1.1.1 }) (λ _. refl)

abbrev pub start_code : Coded Start
start_code =
    code_by (Text × (ℤ × (Text × (Text × (ℤ × Text))))) (coded× text_code (coded× coded_ℤ (coded× text_code (coded× text_code (coded× coded_ℤ text_code)))))
    (λ s. (s.argstr, (s.dobj, (s.dobjstr, (s.prepstr, (s.iobj, s.iobjstr))))))
    (λ p. record { argstr = p.0; dobj = p.1.0; dobjstr = p.1.1.0; prepstr = p.1.1.1.0; iobj = p.1.1.1.1.0; iobjstr = p.1.1.1.1.1 }) (λ _. refl)

abbrev pub frame_code : Coded Frame
frame_code =
    code_by (Call × (Start × (Program × (Named Datum × List Piece)))) (coded× call_code (coded× start_code (coded× program_code (coded× (named_code datum_code) (coded_list piece_code)))))
    (λ f. (f.call, (f.start, (f.program, (f.variables, f.pieces)))))
    (λ p. record { call = p.0; start = p.1.0; program = p.1.1.0; variables = p.1.1.1.0; pieces = p.1.1.1.1 }) (λ _. refl)

abbrev pub from_native_name : NativeName → ℕ
from_native_name move_native = 0
from_native_name create_native = 1
from_native_name recycle_native = 2
from_native_name eval_native = 3

abbrev pub to_native_name : ℕ → NativeName
to_native_name n = cond (n == 0) move_native (cond (n == 1) create_native (cond (n == 2) recycle_native eval_native))

pub native_name_back : (n : NativeName) → to_native_name (from_native_name n) ≡ n
native_name_back move_native = refl
native_name_back create_native = refl
native_name_back recycle_native = refl
native_name_back eval_native = refl

abbrev pub native_name_code : Coded NativeName
native_name_code = code_by ℕ coded_ℕ from_native_name to_native_name native_name_back

abbrev pub native_code : Coded Native
native_code =
    code_by (NativeName × (ℕ × List Datum)) (coded× native_name_code (coded× coded_ℕ (coded_list datum_code)))
    (λ n. (n.name, (n.stage, n.arguments))) (λ p. record { name = p.0; stage = p.1.0; arguments = p.1.1 }) (λ _. refl)

-- one of two
abbrev pub from_entry : Entry → Option Frame × Option Native
from_entry (frame_entry f) = (Some f, None)
from_entry (native_entry n) = (None, Some n)

abbrev pub no_native : Native
no_native = record { name = eval_native; stage = 0; arguments = [] }

abbrev pub native_or_none : Option Native → Native
native_or_none None = no_native
native_or_none (Some n) = n

abbrev pub entry_or : Option Native → Option Frame → Entry
entry_or n None = native_entry (native_or_none n)
entry_or n (Some f) = frame_entry f

abbrev pub to_entry : Option Frame × Option Native → Entry
to_entry p = entry_or p.1 p.0

pub entry_back : (e : Entry) → to_entry (from_entry e) ≡ e
entry_back (frame_entry f) = refl
entry_back (native_entry n) = refl

abbrev pub entry_code : Coded Entry
entry_code = code_by (Option Frame × Option Native) (coded× (coded_option frame_code) (coded_option native_code)) from_entry to_entry entry_back

abbrev pub from_waiting : Waiting → ℕ × (ℕ × (ℤ × Datum))
from_waiting (forked t) = (0, (t, (pos 0, integer (pos 0))))
from_waiting (timed t v) = (1, (t, (pos 0, v)))
from_waiting idle = (2, (0, (pos 0, integer (pos 0))))
from_waiting (reading_on c) = (3, (0, (c, integer (pos 0))))

abbrev pub to_waiting : ℕ × (ℕ × (ℤ × Datum)) → Waiting
to_waiting p = cond (p.0 == 0) (forked p.1.0) (cond (p.0 == 1) (timed p.1.0 p.1.1.1) (cond (p.0 == 2) idle (reading_on p.1.1.0)))

pub waiting_back : (s : Waiting) → to_waiting (from_waiting s) ≡ s
waiting_back (forked t) = refl
waiting_back (timed t v) = refl
waiting_back idle = refl
waiting_back (reading_on c) = refl

abbrev pub waiting_code : Coded Waiting
waiting_code = code_by (ℕ × (ℕ × (ℤ × Datum))) (coded× coded_ℕ (coded× coded_ℕ (coded× coded_ℤ datum_code))) from_waiting to_waiting waiting_back

abbrev pub task_code : Coded Task
task_code =
    code_by (ℤ × (Waiting × List Entry)) (coded× coded_ℤ (coded× waiting_code (coded_list entry_code)))
    (λ t. (t.player, (t.waiting, t.entries))) (λ p. record { player = p.0; waiting = p.1.0; entries = p.1.1 }) (λ _. refl)

-- ---- links and the world

abbrev pub programming_code : Coded Programming
programming_code =
    code_by (ℤ × (Text × Option (List Text))) (coded× coded_ℤ (coded× text_code (coded_option (coded_list text_code))))
    (λ p. (p.object, (p.verb, p.lines))) (λ p. record { object = p.0; verb = p.1.0; lines = p.1.1 }) (λ _. refl)

abbrev pub link_code : Coded Link
link_code = code_by (ℤ × Option Programming) (coded× coded_ℤ (coded_option programming_code)) (λ k. (k.person, k.programming)) (λ p. record { person = p.0; programming = p.1 }) (λ _. refl)

abbrev pub world_code : Coded World
world_code =
    code_by (Numbered Object × (Numbered Task × (Numbered Link × (ℤ × (ℕ × Bool))))) (coded× (numbered_code object_code) (coded× (numbered_code task_code) (coded× (numbered_code link_code) (coded× coded_ℤ (coded× coded_ℕ coded_bool)))))
    (λ w. (w.objects, (w.tasks, (w.links, (w.greatest, (w.next, w.ending))))))
    (λ p. record { objects = p.0; tasks = p.1.0; links = p.1.1.0; greatest = p.1.1.1.0; next = p.1.1.1.1.0; ending = p.1.1.1.1.1 }) (λ _. refl)
