-- What fields, lines and programs are told as, and that nothing else is.
use Rattle.std.specs.Prelude.{◌≡◌, ℕ, ◌<◌, ◌^◌, ℤ, ◌==◌, ◌||◌, Bool, not, List, [], ◌∷◌, ◌++◌, Some, IsTrue}
use Rattle.std.specs.Fmt.{decimal, signed_decimal}
use Rattle.std.specs.List.{list_all}
use Rattle.spec_value.specs.Datum.{Text, in_number_range, Datum, is_value}
use Rattle.spec_value.specs.Literal.{literal}
use Rattle.spec_program.specs.Tree.{Program}
use Rattle.spec_program.specs.Trees.{is_tree}
use Rattle.spec_program.specs.Spelling.{canonical_lines}
use Rattle.spec_world.specs.Checkpoint.{fields, with_line_ends}
use Rattle.spec_checkpoint.specs.Lines.{is_line, are_lines}
use Rattle.spec_faults.specs.Cutting.{Cut, lines_of, fields_in}
use Rattle.spec_faults.specs.Plain.{number_of, integer_of}
use Rattle.spec_faults.specs.Literals.{value_of, nests, deepest}
use Rattle.spec_faults.specs.Codes.{program_of}

-- ---- numbers

abbrev pub NumbersSpelled : Type 0
NumbersSpelled = (t : Text) (n : ℕ) → number_of t ≡ Some n → decimal n ≡ t

abbrev pub NumbersTold : Type 0
NumbersTold = (n : ℕ) → n < 2 ^ 64 → number_of (decimal n) ≡ Some n

pub record IsInteger (t : Text) (z : ℤ) : Type 0 where
  pub spelled : signed_decimal z ≡ t
  pub range : IsTrue (in_number_range z)

abbrev pub IntegersSpelled : Type 0
IntegersSpelled = (t : Text) (z : ℤ) → integer_of t ≡ Some z → IsInteger t z

abbrev pub IntegersTold : Type 0
IntegersTold = (z : ℤ) → IsTrue (in_number_range z) → integer_of (signed_decimal z) ≡ Some z

-- ---- values

pub record IsLiteral (t : Text) (v : Datum) : Type 0 where
  pub spelled : literal v ≡ t
  pub range : IsTrue (is_value v)
  pub depth : IsTrue (nests deepest v)

abbrev pub ValuesSpelled : Type 0
ValuesSpelled = (t : Text) (v : Datum) → value_of t ≡ Some v → IsLiteral t v

abbrev pub ValuesTold : Type 0
ValuesTold = (v : Datum) → IsTrue (is_value v) → IsTrue (nests deepest v) → value_of (literal v) ≡ Some v

-- ---- programs

pub record IsProgram (ts : List Text) (p : Program) : Type 0 where
  pub spelled : canonical_lines p ≡ ts
  pub tree : IsTrue (is_tree p)

abbrev pub ProgramsSpelled : Type 0
ProgramsSpelled = (ts : List Text) (p : Program) → program_of ts ≡ Some p → IsProgram ts p

abbrev pub ProgramsTold : Type 0
ProgramsTold = (p : Program) → IsTrue (is_tree p) → program_of (canonical_lines p) ≡ Some p

-- ---- lines

pub record AreLines (t : Text) (k : Cut) : Type 0 where
  pub whole : with_line_ends k.lines ++ k.rest ≡ t
  pub lines : IsTrue (are_lines k.lines)
  pub rest : IsTrue (is_line k.rest)

abbrev pub LinesSpelled : Type 0
LinesSpelled = (t : Text) → AreLines t (lines_of t)

abbrev pub LinesTold : Type 0
LinesTold = (ts : List Text) (r : Text) → IsTrue (are_lines ts) → IsTrue (is_line r) → lines_of (with_line_ends ts ++ r) ≡ record { lines = ts; rest = r }

-- ---- fields

-- it is no space, and no mark of a text or a list
abbrev pub is_unmarked : ℕ → Bool
is_unmarked c = not (c == 32 || (c == 34 || (c == 123 || c == 125)))

abbrev pub FieldsSpelled : Type 0
FieldsSpelled = (t : Text) → fields (fields_in t) ≡ t

-- a text of such characters, or a literal
pub data IsField : Text → Type 0 where
  unmarked : (t : Text) → IsTrue (list_all is_unmarked t) → IsField t
  spelled : (v : Datum) → IsField (literal v)

abbrev pub AreFields : List Text → Type 0
AreFields [] = Unit {0}
AreFields (t ∷ ts) = IsField t × AreFields ts

abbrev pub FieldsTold : Type 0
FieldsTold = (t : Text) (ts : List Text) → AreFields (t ∷ ts) → fields_in (fields (t ∷ ts)) ≡ t ∷ ts
