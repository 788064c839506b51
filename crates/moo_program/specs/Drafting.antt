-- What the parts of a draft mean, and the draft of a layout: its items in their order, and the size of its code.
use Rattle.std.specs.Prelude.{ℕ, suc, ◌+◌, List, [], ◌∷◌, map, reverse, Option, Some, None, Bool, if◌then◌else◌}
use Rattle.std.specs.Borrow.{Bor}
use Rattle.spec_value.specs.Datum.{Datum, Text}
use Rattle.spec_moo.specs.Held as held
use Rattle.spec_moo.specs.Effects.Handlers.{all_codes, no_codes}
use Rattle.moo_value.specs.Operators.{unary_of, binary_of}
use Rattle.moo_code.specs.Instruction as code
use Rattle.moo_code.specs.Layout as layout
use Rattle.moo_code.specs.Layout.{Layout, stop, own, inner, gap, reception_size, shape_of, slots_of, default_parts}
use Rattle.moo_tree.specs.ExpressionView.{items_of}
use Rattle.moo_tree.specs.StatementView.{program_of}
use Rattle.moo_program.specs.declared.moo_bytecode.around.Bracketed.{Bracketed}
use Rattle.moo_program.specs.declared.moo_bytecode.around.Bracketed.TheVariants.{Nothing, Operand, Target}
use Rattle.moo_program.specs.declared.moo_bytecode.around.Around.{Around}
use Rattle.moo_program.specs.declared.moo_bytecode.operation.KnownCodes.{KnownCodes}
use Rattle.moo_program.specs.declared.moo_bytecode.operation.KnownCodes.TheVariants.{All, Empty}
use Rattle.moo_program.specs.declared.moo_bytecode.operation.Operation.{Operation}
use Rattle.moo_program.specs.declared.moo_bytecode.operation.Operation.TheVariants.{Push, Load, LengthOf, Unary, Binary, AndThen, OrElse, Choose, Chosen, MakeList, ReadProperty, CallVerb, TakeItem, TakeRange, CaughtValue, CallFunction, Store, Scatter, ScatterOn, StoreDefault, Pop, Return, ReturnZero, Finish, FinishBody, Test, TestLast, TestLoop, FirstItem, NextItem, FirstOfRange, NextOfRange, StartFork, LeaveLoops, ContinueLoops, EndFinally, BeginFirst, Begin, BeginAbove}
use Rattle.moo_program.specs.declared.moo_bytecode.operation.Way.{Way}
use Rattle.moo_program.specs.declared.moo_bytecode.operation.Way.TheVariants.{Beside, BeforeList, Listed, Spliced}
use Rattle.moo_program.specs.declared.moo_bytecode.operation.Unraised.{Unraised}
use Rattle.moo_program.specs.declared.moo_bytecode.operation.Unraised.TheVariants.{AsValue, Skipped, Never}
use Rattle.moo_program.specs.declared.moo_bytecode.operation.Reception.{Reception}
use Rattle.moo_program.specs.declared.moo_bytecode.operation.Reception.TheVariants.{Straight, Received}
use Rattle.moo_program.specs.declared.moo_bytecode.operation.HandlerRow.{HandlerRow}
use Rattle.moo_program.specs.declared.moo_bytecode.operation.Sign.{Sign}
use Rattle.moo_program.specs.declared.moo_bytecode.operation.Sign.TheVariants.{Loop, Finally, Handlers, Code, Instead}
use Rattle.moo_program.specs.declared.moo_bytecode.operation.Caught.{Caught}
use Rattle.moo_program.specs.declared.moo_bytecode.draft.Item.{Item}
use Rattle.moo_program.specs.declared.moo_bytecode.draft.Item.TheVariants.{Own, Part, Close, Gap}
use Rattle.moo_program.specs.declared.moo_bytecode.draft.Draft.{Draft}

abbrev pub name_of : Option (Bor Text) → Option Text
name_of None = None
name_of (Some x) = Some x.now

abbrev pub bracketed_of : Bracketed → code.Bracketed
bracketed_of Nothing = code.nothing
bracketed_of (Operand n) = code.operand_at n
bracketed_of (Target t n) = code.target_at (shape_of t.now) n

abbrev pub around_of : Around → layout.Around
around_of a = record { height = a.height; bracketed = bracketed_of a.bracketed; loops = map name_of a.loops.now }

abbrev pub known_of : KnownCodes → Datum
known_of All = all_codes
known_of Empty = no_codes

abbrev pub operation_of : Operation → code.Operation
operation_of (Push v) = code.push v.now
operation_of (Load x) = code.load x.now
operation_of (LengthOf b) = code.length_of (bracketed_of b)
operation_of (Unary u) = code.one (unary_of u)
operation_of (Binary o) = code.two (binary_of o)
operation_of AndThen = code.and_then
operation_of OrElse = code.or_else
operation_of Choose = code.choose
operation_of Chosen = code.chosen
operation_of MakeList = code.make_list
operation_of ReadProperty = code.read_property
operation_of CallVerb = code.call_verb
operation_of TakeItem = code.take_item
operation_of TakeRange = code.take_range
operation_of CaughtValue = code.caught_value
operation_of (CallFunction x) = code.call_function x.now
operation_of (Store t) = code.store (shape_of t.now)
operation_of (Scatter xs) = code.scatter (slots_of (items_of xs.now))
operation_of (ScatterOn xs n) = code.scatter_on (slots_of (items_of xs.now)) n
operation_of (StoreDefault x) = code.store_default x.now
operation_of Pop = code.pop
operation_of Return = code.return_top
operation_of ReturnZero = code.return_zero
operation_of (Finish n) = code.finish n
operation_of FinishBody = code.finish_body
operation_of (Test first n) = code.test first n (suc n)
operation_of (TestLast first n) = code.test_last first n
operation_of TestLoop = code.test_loop
operation_of (FirstItem x) = code.first_item x.now
operation_of (NextItem x) = code.next_item x.now
operation_of (FirstOfRange x) = code.first_of_range x.now
operation_of (NextOfRange x) = code.next_of_range x.now
operation_of (StartFork x p) = code.start_fork (name_of x) (program_of p.now)
operation_of (LeaveLoops n) = code.leave_loops n
operation_of (ContinueLoops n) = code.continue_loops n
operation_of EndFinally = code.end_finally
operation_of BeginFirst = code.begin_part 0 0 1 []
operation_of (Begin t k n) = code.begin_part t k n []
operation_of (BeginAbove t k n vs) = code.begin_part t k n (map known_of vs.items)

-- the parts to which it leads
abbrev pub parts_of : Operation → List ℕ
parts_of AndThen = 0 ∷ []
parts_of OrElse = 0 ∷ []
parts_of Choose = 3 ∷ []
parts_of Chosen = 0 ∷ []
parts_of CaughtValue = 0 ∷ []
parts_of (Scatter xs) = default_parts 1 (items_of xs.now)
parts_of (ScatterOn xs n) = 0 ∷ default_parts 1 (items_of xs.now)
parts_of (Finish n) = 0 ∷ []
parts_of (Test first n) = suc n ∷ []
parts_of (TestLast first n) = 0 ∷ []
parts_of TestLoop = 0 ∷ []
parts_of (FirstItem x) = 0 ∷ []
parts_of (NextItem x) = 2 ∷ []
parts_of (FirstOfRange x) = 0 ∷ []
parts_of (NextOfRange x) = 3 ∷ []
parts_of (Begin t k n) = n ∷ []
parts_of (BeginAbove t k n vs) = n ∷ []
parts_of o = []

abbrev pub way_of : Way → held.Way
way_of Beside = held.beside
way_of BeforeList = held.before_list
way_of Listed = held.listed
way_of Spliced = held.spliced

abbrev pub unraised_of : Unraised → code.Unraised
unraised_of AsValue = code.as_value
unraised_of Skipped = code.skipped
unraised_of Never = code.never

abbrev pub reception_of : Reception → layout.Reception
reception_of Straight = layout.straight
reception_of (Received w n u) = layout.received (way_of w) n (unraised_of u)

abbrev pub row_of : HandlerRow → Option Text × ℕ
row_of r = (name_of r.variable, r.part)

abbrev pub sign_of : Sign → code.Sign
sign_of Loop = code.in_loop
sign_of Finally = code.with_finally
sign_of (Handlers rows) = code.with_handlers (map row_of rows.items)
sign_of Code = code.with_code
sign_of (Instead n) = code.with_instead n

abbrev pub caught_of : Option Caught → Option layout.Caught
caught_of None = None
caught_of (Some c) = Some (record { height = c.height; held = c.held; sign = sign_of c.sign })

-- ---- drafts: a part begins before its own items, which are so many, with code of such a size, and then closes

pub data Draught : Type 0 where
  own_of : code.Operation → List ℕ → Draught
  part_of : Bool → ℕ → ℕ → Draught
  close_of : layout.Reception → Option layout.Caught → Draught
  gap_of : Draught

abbrev pub item_of : Item → Draught
item_of (Own o) = own_of (operation_of o) (parts_of o)
item_of (Part o n m) = part_of o n m
item_of (Close r c) = close_of (reception_of r) (caught_of c)
item_of Gap = gap_of

-- the items, and the size of their code
abbrev pub State : Type 0
State = List Draught × ℕ

abbrev pub state : Draft → State
state d = (map item_of (reverse d.items.items), d.size)

abbrev pub opening_size : Bool → ℕ
opening_size o = if o then 1 else 0

abbrev pub with_own : code.Operation → List ℕ → State → State
with_own op ns s = (own_of op ns ∷ s.0, suc s.1)

abbrev pub with_close : layout.Reception → Option layout.Caught → State → State
with_close r c s = (close_of r c ∷ s.0, reception_size r + s.1)

abbrev pub with_part : Bool → ℕ → ℕ → State → State
with_part o n m s = (part_of o n m ∷ s.0, opening_size o + s.1)

abbrev pub with_gap : State → State
with_gap s = (gap_of ∷ s.0, s.1)

-- how many items a layout has
abbrev pub count : Layout → ℕ
count stop = 0
count (own op ns l) = suc (count l)
count (inner k a l) = suc (count a + suc (count l))
count (gap l) = suc (count l)

-- a layout before a draft
abbrev pub over : Layout → State → State
over stop s = s
over (own op ns l) s = with_own op ns (over l s)
over (inner k a l) s = with_part k.opens (count a) (layout.size a) (over a (with_close k.reception k.caught (over l s)))
over (gap l) s = with_gap (over l s)
