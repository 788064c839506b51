-- Whether the slots of instructions and handlers are within so many.
use Rattle.std.specs.Prelude.{ℕ, List, Option, Some, None, Bool, true, nat_lt}
use Rattle.std.specs.List.{list_all}
use Rattle.std.specs.Arc.{arc_value}
use Rattle.moo_program.specs.declared.instruction.Slot.{Slot}
use Rattle.moo_program.specs.declared.instruction.Slot.TheVariants.{Required, Optional, Rest, Default}
use Rattle.moo_program.specs.declared.instruction.Instruction.{Instruction}
use Rattle.moo_program.specs.declared.instruction.Instruction.TheVariants.{Load, LengthOfTarget, StoreVariable, StorePart, Scatter, ScatterOn, StoreDefault, FirstItem, NextItem, FirstOfRange, NextOfRange, StartFork}
use Rattle.moo_program.specs.declared.instruction.Catch.{Catch}
use Rattle.moo_program.specs.declared.instruction.Catch.TheVariants.{Arms}
use Rattle.moo_program.specs.declared.instruction.Handler.{Handler}

abbrev pub some_in : ℕ → Option ℕ → Bool
some_in n None = true
some_in n (Some i) = nat_lt i n

abbrev pub slot_number : Slot → ℕ
slot_number (Required i) = i
slot_number (Optional i) = i
slot_number (Rest i) = i
slot_number (Default i) = i

abbrev pub slots_in : ℕ → Instruction → Bool
slots_in n (Load i) = nat_lt i n
slots_in n (LengthOfTarget s k) = some_in n s.value.variable
slots_in n (StoreVariable i) = nat_lt i n
slots_in n (StorePart s) = some_in n s.value.variable
slots_in n (Scatter s) = list_all (λ i. nat_lt (slot_number i) n) (arc_value s).items.items
slots_in n (ScatterOn s k place) = list_all (λ i. nat_lt (slot_number i) n) (arc_value s).items.items
slots_in n (StoreDefault i) = nat_lt i n
slots_in n (FirstItem i place) = nat_lt i n
slots_in n (NextItem i place) = nat_lt i n
slots_in n (FirstOfRange i place) = nat_lt i n
slots_in n (NextOfRange i place) = nat_lt i n
slots_in n (StartFork x k) = some_in n x
slots_in n i = true

abbrev pub catch_in : ℕ → Catch → Bool
catch_in n (Arms arms) = list_all (λ a. some_in n a.variable) arms.items
catch_in n c = true

abbrev pub handler_slots_in : ℕ → Handler → Bool
handler_slots_in n h = catch_in n h.catch
