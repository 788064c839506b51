-- The code of a draft, from its first item to the last: the construct under way and those around it, each with the places of its parts.
use Rattle.std.specs.Prelude.{◌≡◌, ℕ, zero, suc, ◌+◌, List, [], ◌∷◌, ◌++◌, take, get_or, Bool, if◌then◌else◌}
use Rattle.moo_code.specs.Instruction.{Instruction, open_list, perform, placed, Handler}
use Rattle.moo_code.specs.Layout.{reception_size, size, receiving, handler, whole_layout, code_of, handlers_of}
use Rattle.moo_program.specs.Drafting.{Draught, own_of, part_of, close_of, gap_of, opening_size, over}
use Rattle.spec_program.specs.Tree.{Program}

-- a construct under way: where it begins, where it ends, and where its parts begin
pub record Open : Type 0 where
  pub first : ℕ
  pub end : ℕ
  pub starts : List ℕ

-- where a part with a number begins; of 0 the end
abbrev pub place_of : Open → ℕ → ℕ
place_of c zero = c.end
place_of c (suc n) = get_or c.starts n c.end

-- where the parts of a construct begin, in so many items after so many that are passed over
abbrev pub scan : ℕ → ℕ → List Draught → List ℕ
scan n b [] = []
scan (suc n) b (d ∷ ds) = scan n b ds
scan zero b (own_of op ns ∷ ds) = scan zero (suc b) ds
scan zero b (part_of o n m ∷ ds) = b ∷ scan n (b + (opening_size o + m)) ds
scan zero b (close_of r c ∷ ds) = scan zero (b + reception_size r) ds
scan zero b (gap_of ∷ ds) = b ∷ scan zero b ds

-- a construct that begins at a place, with these items, so long
abbrev pub opened : ℕ → List Draught → ℕ → Open
opened b ds m = record { first = b; end = b + m; starts = scan zero b ds }

abbrev pub no_construct : Open
no_construct = record { first = 0; end = 0; starts = [] }

abbrev pub innermost : List Open → Open
innermost [] = no_construct
innermost (c ∷ cs) = c

abbrev pub outer : List Open → List Open
outer [] = []
outer (c ∷ cs) = cs

abbrev pub opening_code : Bool → List Instruction
opening_code o = if o then open_list ∷ [] else []

abbrev pub code_in : List Open → ℕ → List Draught → List Instruction
code_in cs b [] = []
code_in cs b (own_of op ns ∷ ds) = perform op (placed (place_of (innermost cs)) ns) ∷ code_in cs (suc b) ds
code_in cs b (part_of o n m ∷ ds) = opening_code o ++ code_in (opened (b + opening_size o) (take n ds) m ∷ cs) (b + opening_size o) ds
code_in cs b (close_of r c ∷ ds) = receiving (innermost (outer cs)).end r ++ code_in (outer cs) (b + reception_size r) ds
code_in cs b (gap_of ∷ ds) = code_in cs b ds

abbrev pub handlers_in : List Open → ℕ → List Draught → List Handler
handlers_in cs b [] = []
handlers_in cs b (own_of op ns ∷ ds) = handlers_in cs (suc b) ds
handlers_in cs b (part_of o n m ∷ ds) = handlers_in (opened (b + opening_size o) (take n ds) m ∷ cs) (b + opening_size o) ds
handlers_in cs b (close_of r c ∷ ds) = handler (place_of (innermost (outer cs))) (innermost cs).first b c ++ handlers_in (outer cs) (b + reception_size r) ds
handlers_in cs b (gap_of ∷ ds) = handlers_in cs b ds

-- ---- a program's draft, and that its code and its handlers are the program's

abbrev pub draft_of : Program → List Draught
draft_of p = (over (whole_layout p) ([], 0)).0

abbrev pub whole_program : Program → Open
whole_program p = opened 0 (draft_of p) (size (whole_layout p))

abbrev pub AssemblesCode : Type 0
AssemblesCode = (p : Program) → code_in (whole_program p ∷ []) 0 (draft_of p) ≡ code_of p

abbrev pub AssemblesHandlers : Type 0
AssemblesHandlers = (p : Program) → handlers_in (whole_program p ∷ []) 0 (draft_of p) ≡ handlers_of p
