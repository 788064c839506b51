-- What a reader tells of the lines that it reads: it goes on where they have no fault, else it tells the first.
use Rattle.std.specs.Prelude.{◌≡◌, ℕ, suc, ◌+◌, ◌<◌, ◌^◌, ◌==◌, Bool, true, false, List, [], ◌∷◌, ◌++◌, length, if◌then◌else◌, Option, Some, None, Result, Ok, Err, IsTrue}
use Rattle.std.specs.List.{list_all}
use Rattle.std.specs.Borrow.{Bor}
use Rattle.spec_value.specs.Datum.{Text}
use Rattle.spec_world.specs.Checkpoint as fault
use Rattle.spec_world.specs.Checkpoint.{CheckpointFault, with_line_ends}
use Rattle.spec_checkpoint.specs.Lines.{are_lines}
use Rattle.spec_faults.specs.Cutting.{lines_of, fields_in}
use Rattle.spec_faults.specs.Plain.{number_in}
use Rattle.spec_faults.specs.Forms.{Wanted, word, fault_of, counted_form}
use Rattle.spec_faults.specs.Awaited.{Awaited, Verdict, goes_on, by_form, told, opened}
use Rattle.spec_faults.specs.Faults.{LineFault, fault_at, fault_among}
use Rattle.checkpoint_lines.specs.Rows.{row_fields}
use Rattle.spec_faults.specs.Cutting.{field_at, is_filled}
use Rattle.checkpoint_lines.specs.declared.fault.DecodeError.{DecodeError}
use Rattle.checkpoint_lines.specs.declared.fault.DecodeError.TheVariants.{Line, Memory}
use Rattle.checkpoint_lines.specs.declared.fault.FaultKind.{FaultKind}
use Rattle.checkpoint_lines.specs.declared.fault.FaultKind.TheVariants as kind
use Rattle.checkpoint_lines.specs.declared.row.Row.{Row}
use Rattle.checkpoint_lines.specs.declared.lines.Lines.{Lines}

abbrev pub meant : FaultKind → CheckpointFault
meant kind.Header = fault.header
meant kind.Ended = fault.ended
meant kind.Line = fault.line
meant kind.Number = fault.number
meant kind.Value = fault.value
meant kind.Code = fault.code
meant kind.World = fault.world
meant kind.Frame = fault.frame

-- the error tells that fault; want of memory says nothing of the text
abbrev pub IsFault : DecodeError → Option LineFault → Type 0
IsFault (Line n k) f = f ≡ fault_at n (meant k)
IsFault (Memory e) f = Unit {0}

-- ---- what is left of a text

-- the first fault of what is left, where this is awaited
abbrev pub fault_left : Lines → List Awaited → Option LineFault
fault_left l awaited = fault_among (lines_of l.left.now).lines (lines_of l.left.now).rest (suc l.count) awaited

-- how many lines the text has, those that were read and those that are left
abbrev pub lines_in : Lines → ℕ
lines_in l = l.count + length (lines_of l.left.now).lines

-- lines are counted in 64 bits
abbrev pub HasRoom : Lines → Type 0
HasRoom l = l.count + length l.left.now < 2 ^ 63

-- what was awaited stood there without a fault, and now this is awaited of what is left
pub record GoesOn (l m : Lines) (awaited after : List Awaited) : Type 0 where
  pub fault : (more : List Awaited) → fault_left l (awaited ++ more) ≡ fault_left m (after ++ more)
  pub lines : lines_in l ≡ lines_in m
  pub room : HasRoom m

abbrev pub TellsFault : DecodeError → Lines → List Awaited → Type 0
TellsFault e l awaited = (more : List Awaited) → IsFault e (fault_left l (awaited ++ more))

-- what is read, from the first lines to the second, and what is awaited behind it; or the first fault
abbrev pub Tells : {A : Type 0} → Result A DecodeError → Lines → Lines → List Awaited → (A → List Awaited) → Type 0
Tells (Ok x) l m awaited after = HasRoom l → GoesOn l m awaited (after x)
Tells (Err e) l m awaited after = HasRoom l → TellsFault e l awaited

-- ---- lines

-- the next line, and what is left behind it
pub record IsNext (line : Text) (l m : Lines) : Type 0 where
  pub cut : lines_of l.left.now ≡ record { lines = line ∷ (lines_of m.left.now).lines; rest = (lines_of m.left.now).rest }
  pub count : m.count ≡ suc l.count
  pub room : HasRoom m

-- no line is left, and what follows is the line that ends too early
pub record IsOver (e : DecodeError) (l : Lines) : Type 0 where
  pub cut : lines_of l.left.now ≡ record { lines = []; rest = l.left.now }
  pub error : e ≡ Line (suc l.count) kind.Ended

abbrev pub NextLine : Result (Bor Text) DecodeError → Lines → Lines → Type 0
NextLine (Ok line) l m = HasRoom l → IsNext line.now l m
NextLine (Err e) l m = HasRoom l → IsOver e l

-- so many lines, with their line ends, and what is left behind them
pub record AreNext (whole : Text) (n : ℕ) (l m : Lines) : Type 0 where
  pub lines : List Text
  pub text : whole ≡ with_line_ends lines
  pub are : IsTrue (are_lines lines)
  pub many : length lines ≡ n
  pub cut : lines_of l.left.now ≡ record { lines = lines ++ (lines_of m.left.now).lines; rest = (lines_of m.left.now).rest }
  pub count : m.count ≡ l.count + n
  pub room : HasRoom m

-- fewer are left, and what follows them ends too early
pub record AreOver (e : DecodeError) (n : ℕ) (l : Lines) : Type 0 where
  pub fewer : length (lines_of l.left.now).lines < n
  pub error : e ≡ Line (suc (lines_in l)) kind.Ended

abbrev pub NextLines : Result (Bor Text) DecodeError → Lines → Lines → ℕ → Type 0
NextLines (Ok text) l m n = HasRoom l → AreNext text.now n l m
NextLines (Err e) l m n = HasRoom l → AreOver e n l

-- ---- lines in fields

-- all fields of a line of which the last may be several
abbrev pub all_fields : List Text → List Text
all_fields [] = []
all_fields (t ∷ []) = fields_in t
all_fields (t ∷ u ∷ ts) = t ∷ all_fields (u ∷ ts)

abbrev pub line_fields : Row → List Text
line_fields r = all_fields (row_fields r)

-- the last is no more than one
abbrev pub is_cut : List Text → Bool
is_cut [] = true
is_cut (t ∷ []) = length (fields_in t) == 1
is_cut (t ∷ u ∷ ts) = is_cut (u ∷ ts)

-- a fault of the row's line
abbrev pub row_fault : Row → FaultKind → DecodeError
row_fault r k = Line r.line (if is_cut (row_fields r) then k else kind.Line)

-- a line that is told by what is wanted of its fields
pub record IsRow (a : Awaited) (form : List Text → List Wanted) (next : List Text → Verdict) : Type 0 where
  pub told : (t : Text) → told a t ≡ by_form (form (fields_in t)) (fields_in t) next
  pub first : (more : List Awaited) → opened (a ∷ more) ≡ a ∷ more

-- the row is the next line
pub record IsNextRow (r : Row) (l m : Lines) : Type 0 where
  pub line : Text
  pub next : IsNext line l m
  pub fields : line_fields r ≡ fields_in line
  pub filled : IsTrue (list_all is_filled (row_fields r))
  pub number : r.line ≡ m.count

-- it has the line's number and these fields, or one of them is empty
abbrev pub NewRow : Result Row DecodeError → ℕ → List Text → Type 0
NewRow (Ok r) n ts = (r.line ≡ n) × (row_fields r ≡ ts) × IsTrue (list_all is_filled ts)
NewRow (Err e) n ts = (e ≡ Line n kind.Line) × (list_all is_filled ts ≡ false)

-- whatever line of fields is awaited
abbrev pub TellsRow : DecodeError → Lines → Type 0
TellsRow e l = (a : Awaited) (form : List Text → List Wanted) (next : List Text → Verdict) → IsRow a form next → TellsFault e l (a ∷ [])

abbrev pub NextRow : Result Row DecodeError → Lines → Lines → Type 0
NextRow (Ok r) l m = HasRoom l → IsNextRow r l m × IsTrue (is_cut (row_fields r))
NextRow (Err e) l m = HasRoom l → TellsRow e l

-- ---- lines with a word

-- the first field is this word, and so many are behind it
pub record IsHeaded (r : Row) (w : Text) (n : ℕ) : Type 0 where
  pub many : length (row_fields r) ≡ suc n
  pub word : field_at (row_fields r) 0 ≡ w

-- there is no word among what is wanted
abbrev pub is_test : Wanted → Bool
is_test (word w) = false
is_test _ = true

-- whatever is wanted behind the word in so many fields
abbrev pub TellsHeaded : DecodeError → Lines → Text → ℕ → Type 0
TellsHeaded e l w n = (a : Awaited) (ws : List Wanted) (next : List Text → Verdict) → IsRow a (λ _. word w ∷ ws) next → length ws ≡ n → IsTrue (list_all is_test ws) → TellsFault e l (a ∷ [])

abbrev pub NextWith : Result Row DecodeError → Lines → Lines → Text → ℕ → Type 0
NextWith (Ok r) l m w n = HasRoom l → IsNextRow r l m × IsHeaded r w n
NextWith (Err e) l m w n = HasRoom l → TellsHeaded e l w n

-- ---- what fields say

-- the field passes its test; or the error is the row's, of that kind
abbrev pub Checks : {A : Type 0} → Result A DecodeError → Row → FaultKind → Bool → Type 0
Checks (Ok x) r k test = test ≡ true
Checks (Err (Line n j)) r k test = (test ≡ false) × (Line n j ≡ row_fault r k)
Checks (Err (Memory e)) r k test = Unit {0}

abbrev pub IsRowFault : DecodeError → Row → Option CheckpointFault → Type 0
IsRowFault (Line n k) r f = (n ≡ r.line) × (f ≡ Some (meant k))
IsRowFault (Memory e) r f = Unit {0}

-- the fields are as they are wanted; or the error tells the least fault of the row's line
abbrev pub RowTells : {A : Type 0} → Result A DecodeError → Row → List Wanted → Type 0
RowTells (Ok x) r ws = fault_of ws (line_fields r) ≡ None
RowTells (Err e) r ws = IsRowFault e r (fault_of ws (line_fields r))

-- ---- counts

-- a line that tells how many of something come, by this word, and what is awaited then
abbrev pub IsCount : Awaited → Text → (ℕ → List Awaited) → Type 0
IsCount a w after = IsRow a (λ _. counted_form w) (λ ts. goes_on (after (number_in (field_at ts 1))))

-- ---- the end

-- all that was awaited stood there, and nothing behind it; or the first fault
abbrev pub Ends : {A : Type 0} → Result A DecodeError → Lines → Lines → List Awaited → Type 0
Ends (Ok x) l m awaited = HasRoom l → (fault_left l awaited ≡ None) × (lines_in l ≡ m.count)
Ends (Err e) l m awaited = HasRoom l → IsFault e (fault_left l awaited)
