-- What has been assembled, with the constructs under way, the innermost first, and the next place; and what each item adds.
use Rattle.std.specs.Prelude.{◌≡◌, ℕ, zero, suc, ◌+◌, List, [], ◌∷◌, ◌++◌, map, reverse, Option, Some, None, Bool}
use Rattle.std.specs.Borrow.{Bor}
use Rattle.moo_code.specs.Instruction.{Operation, Instruction, perform, placed, Handler}
use Rattle.moo_code.specs.Layout.{Reception, Caught, receiving, reception_size, handler}
use Rattle.moo_program.specs.Drafting.{Draught, opening_size, caught_of}
use Rattle.moo_program.specs.Assembling.{Open, place_of, opened, innermost, outer, opening_code, code_in, handlers_in}
use Rattle.moo_program.specs.declared.moo_bytecode.operation.Caught.{Caught as DraftCaught}
use Rattle.moo_program.specs.Opens.{open_of}
use Rattle.moo_program.specs.Tables.{meant_in, handler_in}
use Rattle.moo_program.specs.declared.tables.Tables.{Tables}
use Rattle.moo_program.specs.declared.assembly.Assembly.{Assembly}

pub record Walk : Type 0 where
  pub code : List Instruction
  pub handlers : List Handler
  pub opens : List Open
  pub place : ℕ

abbrev pub walk_of : Tables → Assembly → Walk
walk_of t a =
    record {
      code = map (meant_in t) a.assembled.code.items;
      handlers = map (handler_in t) a.assembled.handlers.items;
      opens = open_of a.here ∷ map open_of (reverse a.around.items);
      place = a.place;
    }

abbrev pub start_of : List Draught → ℕ → Walk
start_of ds size = record { code = []; handlers = []; opens = opened 0 ds size ∷ []; place = 0 }

abbrev pub with_own : Operation → List ℕ → Walk → Walk
with_own op ns w = record w { code = w.code ++ perform op (placed (place_of (innermost w.opens)) ns) ∷ []; place = suc w.place }

abbrev pub with_part : Bool → ℕ → List Draught → Walk → Walk
with_part o m ds w =
    record w {
      code = w.code ++ opening_code o;
      opens = opened (w.place + opening_size o) ds m ∷ w.opens;
      place = w.place + opening_size o;
    }

abbrev pub with_close : Reception → Option Caught → Walk → Walk
with_close r c w =
    record {
      code = w.code ++ receiving (innermost (outer w.opens)).end r;
      handlers = w.handlers ++ handler (place_of (innermost (outer w.opens))) (innermost w.opens).first w.place c;
      opens = outer w.opens;
      place = w.place + reception_size r;
    }

abbrev pub caught_in : Option (Bor DraftCaught) → Option Caught
caught_in None = None
caught_in (Some c) = caught_of (Some c.now)

-- all of the code, and of the handlers, where these items are left
unfoldable pub all_code : Walk → List Draught → List Instruction
all_code w ds = w.code ++ code_in w.opens w.place ds

unfoldable pub all_handlers : Walk → List Draught → List Handler
all_handlers w ds = w.handlers ++ handlers_in w.opens w.place ds

-- after an item there are these left, and all comes to the same
pub record Adds (w : Walk) (d : Draught) (ds : List Draught) (v : Walk) : Type 0 where
  pub code : all_code v ds ≡ all_code w (d ∷ ds)
  pub handlers : all_handlers v ds ≡ all_handlers w (d ∷ ds)
