-- Which worlds are well formed (Programmer's Manual, "The LambdaMOO Database"): objects, links and tasks that agree with one another.
use Rattle.std.specs.Prelude.{◌≡◌, ℕ, zero, suc, ◌+◌, ◌*◌, ◌-◌, ◌==◌, nat_le, nat_lt, ℤ, pos, neg_ℤ, ◌-ℤ◌, int_le, Bool, true, false, not, ◌&&◌, ◌||◌, List, [], ◌∷◌, ◌++◌, map, is_none, is_some, Option, Some, None, IsTrue, codes}
use Rattle.std.specs.Ordering.{int_eq}
use Rattle.std.specs.List.{list_all, list_any}
use Rattle.spec_value.specs.Datum.{Datum, integer, object, text, list, Data, no_data, item, Text, fold_case, same_text}
use Rattle.spec_program.specs.Tree.{for_each, for_range, repeat}
use Rattle.spec_value.specs.Table.{at, is_numbered, is_named}
use Rattle.spec_world.specs.World.{World, Object, Link, Frame, NativeName, move_native, create_native, recycle_native, eval_native, Entry, frame_entry, native_entry, Task, Waiting, forked, timed, idle, reading_on, object_at}
use Rattle.spec_program.specs.Construct.{Construct, of_statement, of_program, Piece}
use Rattle.spec_world.specs.Inherit.{line_bound, ancestors, slot_at, content_of}
use Rattle.spec_program.specs.Place.{Kind, any_value, any_list, code_list, all_codes, Holds, holds, walks_list, walks_range, why_left, Part, part_at, Linked, is_call}

-- a test passes for each object, each link, each task
abbrev pub OfEachObject : World → (World → ℤ → Object → Bool) → Type 0
OfEachObject w test = (o : ℤ) (x : Object) → object_at w o ≡ Some x → IsTrue (test w o x)

abbrev pub OfEachLink : World → (World → ℤ → Link → Bool) → Type 0
OfEachLink w test = (c : ℤ) (k : Link) → at w.links c ≡ Some k → IsTrue (test w c k)

abbrev pub OfEachTask : World → (World → ℤ → Task → Bool) → Type 0
OfEachTask w test = (i : ℤ) (t : Task) → at w.tasks i ≡ Some t → IsTrue (test w i t)

-- ---- lists of objects

abbrev pub is_nowhere : ℤ → Bool
is_nowhere o = int_eq o (neg_ℤ (pos 1))

abbrev pub lists : List ℤ → ℤ → Bool
lists os o = list_any (int_eq o) os

unfoldable pub once : List ℤ → Bool
once [] = true
once (o ∷ os) = not (lists os o) && once os

abbrev pub passes : Option Object → (Object → Bool) → Bool
passes None test = false
passes (Some x) test = test x

-- an object is there and passes a test
abbrev pub on_object : World → ℤ → (Object → Bool) → Bool
on_object w o test = passes (object_at w o) test

-- ---- objects

abbrev pub number_fits : World → ℤ → Object → Bool
number_fits w o x = int_le (pos 0) o && int_le o w.greatest

abbrev pub ends_above : (ℤ → Bool) → (Object → ℤ) → Option Object → Bool
ends_above above up None = true
ends_above above up (Some x) = above (up x)

-- from an object upwards one comes to what is no object, after at most n of them
unfoldable pub comes_out : (Object → ℤ) → ℕ → World → ℤ → Bool
comes_out up zero w o = is_none (object_at w o)
comes_out up (suc n) w o = ends_above (comes_out up n w) up (object_at w o)

-- along parent, and along location
abbrev pub has_no_cycle : World → ℤ → Object → Bool
has_no_cycle w o x = comes_out (λ y. y.header.parent) (line_bound w) w o

abbrev pub is_in_no_cycle : World → ℤ → Object → Bool
is_in_no_cycle w o x = comes_out (λ y. y.header.location) (line_bound w) w o

-- children are the inverse of parent, and contents of location
abbrev pub children_agree : World → ℤ → Object → Bool
children_agree w o x = once x.children && list_all (λ c. on_object w c (λ y. int_eq y.header.parent o)) x.children

abbrev pub parent_agrees : World → ℤ → Object → Bool
parent_agrees w o x = is_nowhere x.header.parent || on_object w x.header.parent (λ y. lists y.children o)

abbrev pub contents_agree : World → ℤ → Object → Bool
contents_agree w o x = once x.contents && list_all (λ c. on_object w c (λ y. int_eq y.header.location o)) x.contents

abbrev pub location_agrees : World → ℤ → Object → Bool
location_agrees w o x = is_nowhere x.header.location || on_object w x.header.location (λ y. lists y.contents o)

-- ---- properties

abbrev pub folded_names : Option Object → List Text
folded_names None = []
folded_names (Some x) = map fold_case x.defines

-- the names of the properties that are defined along a line
unfoldable pub defined_on : World → List ℤ → List Text
defined_on w [] = []
defined_on w (o ∷ os) = folded_names (object_at w o) ++ defined_on w os

abbrev pub has_name : List Text → Text → Bool
has_name ts t = list_any (same_text t) ts

unfoldable pub names_once : List Text → Bool
names_once [] = true
names_once (t ∷ ts) = not (has_name ts t) && names_once ts

abbrev pub slot_names : Object → List Text
slot_names x = map (λ e. e.0) x.slots

-- no name stands twice on the line
abbrev pub line_names_once : World → ℤ → Object → Bool
line_names_once w o x = names_once (defined_on w (ancestors w o))

-- a slot for each property that is defined on an ancestor, and no other
abbrev pub slots_agree : World → ℤ → Object → Bool
slots_agree w o x =
    let names : List Text = defined_on w (ancestors w o) in list_all (has_name names) (slot_names x) && list_all (has_name (slot_names x)) names

abbrev pub slots_in_order : World → ℤ → Object → Bool
slots_in_order w o x = is_named x.slots

-- where a property is defined it is not clear
abbrev pub definers_filled : World → ℤ → Object → Bool
definers_filled w o x = list_all (λ t. is_some (content_of (slot_at w o t))) x.defines

-- ---- links

abbrev pub is_connection : ℤ → Bool
is_connection c = int_le (pos 1) c && int_le c (pos 999999)

-- a link is a player's, or nobody's yet
abbrev pub link_fits : World → ℤ → Link → Bool
link_fits w c k =
    is_connection c && (int_eq k.person (neg_ℤ (pos 3) -ℤ c) || on_object w k.person (λ x. x.header.is_player))

-- ---- what a waiting verb holds

abbrev pub nonempty : Data → Bool
nonempty no_data = false
nonempty (item x xs) = true

abbrev pub count : Data → ℕ
count no_data = 0
count (item x xs) = suc (count xs)

-- {this, verb, programmer, definer, player} of each verb that an error came by
abbrev pub is_traced : Datum → Bool
is_traced (list (item (object this) (item (text verb) (item (object programmer) (item (object definer) (item (object player) no_data)))))) = true
is_traced _ = false

abbrev pub are_traced : Data → Bool
are_traced no_data = true
are_traced (item x xs) = is_traced x && are_traced xs

-- the end of the body; a return; an error; a `break` or `continue` out of k loops before its own, with so many loops around
abbrev pub tells_leaving : ℕ → Data → Bool
tells_leaving around (item (integer (pos zero)) no_data) = true
tells_leaving around (item (integer (pos (suc zero))) (item v no_data)) = true
tells_leaving around (item (integer (pos (suc (suc zero)))) (item c (item (text m) (item v (item (list t) no_data))))) = nonempty t && are_traced t
tells_leaving around (item (integer (pos (suc (suc (suc zero))))) (item (integer (pos k)) no_data)) = nat_lt k around
tells_leaving around (item (integer (pos (suc (suc (suc (suc zero)))))) (item (integer (pos k)) no_data)) = nat_lt k around
tells_leaving around _ = false

abbrev pub kind_fits : Kind → Datum → Bool
kind_fits any_value v = true
kind_fits any_list (list vs) = true
kind_fits code_list (list vs) = true
kind_fits all_codes (integer (pos zero)) = true
kind_fits _ _ = false

abbrev pub kinds_fit : List Kind → List Datum → Bool
kinds_fit [] [] = true
kinds_fit (k ∷ ks) (v ∷ vs) = kind_fits k v && kinds_fit ks vs
kinds_fit _ _ = false

abbrev pub held_fits : ℕ → Holds → List Datum → Bool
held_fits around (holds kinds) vs = kinds_fit kinds vs
held_fits around walks_list (list vs ∷ integer (pos k) ∷ []) = nat_le 1 k && nat_le k (count vs)
held_fits around walks_range (integer a ∷ integer b ∷ []) = int_le a b
held_fits around walks_range (object a ∷ object b ∷ []) = int_le a b
held_fits around why_left (list vs ∷ []) = tells_leaving around vs
held_fits around _ _ = false

abbrev pub is_loop : Construct → ℕ
is_loop (of_statement (for_each x e p)) = 1
is_loop (of_statement (for_range x a b p)) = 1
is_loop (of_statement (repeat n c p)) = 1
is_loop _ = 0

-- the loops among these
abbrev pub loops : List Piece → ℕ
loops [] = 0
loops (p ∷ ps) = is_loop p.construct + loops ps

abbrev pub part_fits : ℕ → List Datum → Option Part → Bool
part_fits around vs None = false
part_fits around vs (Some x) = held_fits around x.held vs

-- each piece holds what its construct holds in that part
abbrev pub pieces_fit : List Piece → Bool
pieces_fit [] = true
pieces_fit (p ∷ ps) = part_fits (loops ps) p.held (part_at p.construct p.part) && pieces_fit ps

-- ---- frames

-- the pieces are those of the program, from a call outwards
abbrev pub StandsAtCall : Frame → Type 0
StandsAtCall f = (c : Construct) × IsTrue (is_call c) × Linked c f.pieces (of_program f.program)

abbrev pub reserved : List Text
reserved =
    codes "if" ∷ codes "else" ∷ codes "elseif" ∷ codes "endif" ∷ codes "for" ∷ codes "in" ∷ codes "endfor" ∷ codes "while" ∷ codes "endwhile"
    ∷ codes "break" ∷ codes "continue" ∷ codes "return" ∷ codes "fork" ∷ codes "endfork" ∷ codes "try" ∷ codes "except" ∷ codes "finally" ∷ codes "endtry" ∷ codes "any"
    ∷ codes "e_none" ∷ codes "e_type" ∷ codes "e_div" ∷ codes "e_perm" ∷ codes "e_propnf" ∷ codes "e_verbnf" ∷ codes "e_varnf" ∷ codes "e_invind"
    ∷ codes "e_recmove" ∷ codes "e_maxrec" ∷ codes "e_range" ∷ codes "e_args" ∷ codes "e_nacc" ∷ codes "e_invarg" ∷ codes "e_quota" ∷ codes "e_float" ∷ []

-- a letter in lower case, or an underscore
abbrev pub begins_name : ℕ → Bool
begins_name c = (c == 95) || (nat_le 97 c && nat_le c 122)

abbrev pub continues_name : ℕ → Bool
continues_name c = begins_name c || (nat_le 48 c && nat_le c 57)

abbrev pub is_identifier : Text → Bool
is_identifier [] = false
is_identifier (c ∷ t) = begins_name c && list_all continues_name t

-- a name that a program can write, in lower case
abbrev pub is_variable : Text → Bool
is_variable t = is_identifier t && not (has_name reserved t)

abbrev pub frame_fits : Frame → Bool
frame_fits f = is_named f.variables && list_all (λ e. is_variable e.0) f.variables && pieces_fit f.pieces

-- ---- entries

abbrev pub native_fits : NativeName → ℕ → List Datum → Bool
native_fits move_native (suc zero) (object what ∷ object where_to ∷ []) = true
native_fits move_native (suc (suc zero)) (object what ∷ object where_to ∷ object left ∷ []) = true
native_fits move_native (suc (suc (suc zero))) (object what ∷ object where_to ∷ object left ∷ []) = true
native_fits create_native (suc zero) (object parent ∷ object made ∷ []) = true
native_fits create_native (suc zero) (object parent ∷ object owner ∷ object made ∷ []) = true
native_fits recycle_native (suc zero) (object o ∷ []) = true
native_fits eval_native (suc zero) (text t ∷ []) = true
native_fits _ _ _ = false

abbrev pub entry_fits : Entry → Bool
entry_fits (frame_entry f) = frame_fits f
entry_fits (native_entry n) = native_fits n.name n.stage n.arguments

-- a frame first and last, and no two built-ins together
abbrev mutual
  pub begins_with_frame : List Entry → Bool
  begins_with_frame [] = false
  begins_with_frame (frame_entry f ∷ es) = goes_on_after_frame es
  begins_with_frame (native_entry n ∷ es) = false

  pub goes_on_after_frame : List Entry → Bool
  goes_on_after_frame [] = true
  goes_on_after_frame (frame_entry f ∷ es) = goes_on_after_frame es
  goes_on_after_frame (native_entry n ∷ es) = begins_with_frame es

abbrev pub frames : List Entry → ℕ
frames [] = 0
frames (frame_entry f ∷ es) = suc (frames es)
frames (native_entry n ∷ es) = frames es

-- ---- tasks

abbrev pub at_beginning : List Piece → Bool
at_beginning [] = true
at_beginning (p ∷ ps) = false

-- a fork is one frame at its beginning
abbrev pub fork_fits : List Entry → Bool
fork_fits (frame_entry f ∷ []) = at_beginning f.pieces
fork_fits _ = false

abbrev pub id_fits : World → ℤ → Task → Bool
id_fits w i t = int_le (pos 1) i && int_le i (pos ((w.next - 1) * 64))

abbrev pub entries_fit : World → ℤ → Task → Bool
entries_fit w i t = begins_with_frame t.entries && nat_le (frames t.entries) 50 && list_all entry_fits t.entries

abbrev pub is_moment : ℕ → Bool
is_moment n = nat_le n 2147483647

abbrev pub waiting_fits : World → Task → Waiting → Bool
waiting_fits w t (forked due) = is_moment due && fork_fits t.entries
waiting_fits w t (timed due v) = is_moment due
waiting_fits w t idle = true
waiting_fits w t (reading_on c) = is_some (at w.links c)

abbrev pub wait_fits : World → ℤ → Task → Bool
wait_fits w i t = waiting_fits w t t.waiting

-- of a task that is no fork, each frame stands at a call
abbrev pub FramesStand : List Entry → Type 0
FramesStand [] = Unit {0}
FramesStand (frame_entry f ∷ es) = StandsAtCall f × FramesStand es
FramesStand (native_entry n ∷ es) = FramesStand es

abbrev pub TaskStands : Task → Waiting → Type 0
TaskStands t (forked due) = Unit {0}
TaskStands t _ = FramesStand t.entries

abbrev pub read_by : Waiting → List ℤ
read_by (reading_on c) = c ∷ []
read_by _ = []

-- the links that tasks read on
unfoldable pub links_read : List (ℤ × Task) → List ℤ
links_read [] = []
links_read (e ∷ es) = read_by (e.1).waiting ++ links_read es

-- ---- the world

pub record IsWellFormed (w : World) : Type 0 where
  pub objects_in_order : IsTrue (is_numbered w.objects)
  pub tasks_in_order : IsTrue (is_numbered w.tasks)
  pub links_in_order : IsTrue (is_numbered w.links)
  pub greatest_in_range : IsTrue (int_le (neg_ℤ (pos 1)) w.greatest && int_le w.greatest (pos 999999))
  pub next_in_range : IsTrue (nat_le 1 w.next && nat_le w.next 33554432)
  pub numbers : OfEachObject w number_fits
  pub parents_end : OfEachObject w has_no_cycle
  pub locations_end : OfEachObject w is_in_no_cycle
  pub children : OfEachObject w children_agree
  pub parents : OfEachObject w parent_agrees
  pub contents : OfEachObject w contents_agree
  pub locations : OfEachObject w location_agrees
  pub names_on_a_line : OfEachObject w line_names_once
  pub slot_order : OfEachObject w slots_in_order
  pub slots : OfEachObject w slots_agree
  pub definers : OfEachObject w definers_filled
  pub links : OfEachLink w link_fits
  pub persons : IsTrue (once (map (λ e. (e.1).person) w.links))
  pub task_ids : OfEachTask w id_fits
  pub task_entries : OfEachTask w entries_fit
  pub task_waits : OfEachTask w wait_fits
  pub task_places : (i : ℤ) (t : Task) → at w.tasks i ≡ Some t → TaskStands t t.waiting
  pub readers : IsTrue (once (links_read w.tasks))
