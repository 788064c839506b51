-- Functions of values: where their arguments are values, so is what they answer; and values that nest no deeper than one may by its weight.
use Rattle.std.specs.Prelude.{ℕ, suc, ◌≤◌, ◌<◌, ◌-◌, ◌^◌, nat_le, nat_lt, ℤ, Bool, true, ◌&&◌, List, [], ◌∷◌, Option, Some, None, IsTrue}
use Rattle.spec_value.specs.Datum.{Text, Datum, integer, object, text, error, list, Data, no_data, item, is_text, in_number_range, is_value, are_values, weight}
use Rattle.spec_value.specs.Answer.{Answer, gives, raises, weight_limit}
use Rattle.spec_world.specs.WellFormed.{count}
use Rattle.spec_value.specs.Operators.{UnaryOperator, BinaryOperator, unary_value, binary_value}
use Rattle.spec_value.specs.Indexing.{index_value, range_value, set_index_value, set_range_value}
use Rattle.spec_value.specs.Scatter.{TargetKind, Scattering, gets, refuses, scattered}
use Rattle.spec_value.specs.PureBuiltins.{PureFunction, call_value}

-- ---- numbers of 32 bits, texts of printed characters, and values made of them

abbrev pub InRange : ℤ → Type 0
InRange z = IsTrue (in_number_range z)

abbrev pub IsPrinted : Text → Type 0
IsPrinted t = IsTrue (is_text t)

abbrev pub IsValue : Datum → Type 0
IsValue v = IsTrue (is_value v)

abbrev pub AreData : Data → Type 0
AreData xs = IsTrue (are_values xs)

-- of each of a list
abbrev pub Each : {X : Type 0} → (X → Type 0) → List X → Type 0
Each P [] = Unit {0}
Each P (x ∷ xs) = P x × Each P xs

abbrev pub AreValues : List Datum → Type 0
AreValues vs = Each IsValue vs

-- of what is there
abbrev pub IfThere : {X : Type 0} → (X → Type 0) → Option X → Type 0
IfThere P None = Unit {0}
IfThere P (Some x) = P x

abbrev pub AnswerHolds : Answer → Type 0
AnswerHolds (gives v) = IsValue v
AnswerHolds (raises e) = Unit {0}

-- ---- how deep lists nest

abbrev mutual
  pub nests_within : ℕ → Datum → Bool
  nests_within n (integer z) = true
  nests_within n (object z) = true
  nests_within n (text t) = true
  nests_within n (error e) = true
  nests_within n (list xs) = nat_le 1 n && items_nest_within (n - 1) xs

  pub items_nest_within : ℕ → Data → Bool
  items_nest_within n no_data = true
  items_nest_within n (item x xs) = nests_within n x && items_nest_within n xs

-- ---- how long they are: a list has fewer items than there are numbers, at every level

abbrev pub is_counted : Data → Bool
is_counted xs = nat_lt (count xs) (2 ^ 31)

abbrev mutual
  pub is_short : Datum → Bool
  is_short (integer z) = true
  is_short (object z) = true
  is_short (text t) = true
  is_short (error e) = true
  is_short (list xs) = is_counted xs && items_are_short xs

  pub items_are_short : Data → Bool
  items_are_short no_data = true
  items_are_short (item x xs) = is_short x && items_are_short xs

-- no deeper than it is heavy
abbrev pub NestsByWeight : Type 0
NestsByWeight = (n : ℕ) (v : Datum) → weight v ≤ n → IsTrue (nests_within n v)

-- and no longer
abbrev pub ShortByWeight : Type 0
ShortByWeight = (v : Datum) → weight v < 2 ^ 31 → IsTrue (is_short v)

-- a value that is kept, or that an expression has, nests no deeper than one of an allowed weight, and has no longer lists in it
abbrev pub is_flat : Datum → Bool
is_flat v = nests_within weight_limit v && is_short v

abbrev pub IsKept : Datum → Type 0
IsKept v = IsTrue (is_flat v && is_value v)

abbrev pub AreKept : List Datum → Type 0
AreKept vs = Each IsKept vs

-- a list so far, whose weight nothing has limited yet, has such items
abbrev pub has_short_items : Datum → Bool
has_short_items (list xs) = items_are_short xs
has_short_items v = true

abbrev pub is_nearly_flat : Datum → Bool
is_nearly_flat v = nests_within (suc weight_limit) v && has_short_items v

abbrev pub IsHeld : Datum → Type 0
IsHeld v = IsTrue (is_nearly_flat v && is_value v)

abbrev pub AnswerKept : Answer → Type 0
AnswerKept (gives v) = IsKept v
AnswerKept (raises e) = Unit {0}

-- ---- operators

abbrev pub UnaryGives : Type 0
UnaryGives = (u : UnaryOperator) (a : Datum) → IsValue a → AnswerKept (unary_value u a)

abbrev pub BinaryGives : Type 0
BinaryGives = (op : BinaryOperator) (a b : Datum) → IsValue a → IsValue b → AnswerKept (binary_value op a b)

-- ---- items and ranges

abbrev pub IndexesGive : Type 0
IndexesGive = (x i : Datum) → IsValue x → AnswerHolds (index_value x i)

abbrev pub IndexesKeep : Type 0
IndexesKeep = (x i : Datum) → IsKept x → AnswerKept (index_value x i)

abbrev pub RangesGive : Type 0
RangesGive = (x a b : Datum) → IsValue x → AnswerHolds (range_value x a b)

abbrev pub RangesKeep : Type 0
RangesKeep = (x a b : Datum) → IsKept x → AnswerKept (range_value x a b)

abbrev pub ItemsPut : Type 0
ItemsPut = (x i v : Datum) → IsValue x → IsValue v → AnswerKept (set_index_value x i v)

abbrev pub RangesPut : Type 0
RangesPut = (x a b v : Datum) → IsValue x → IsValue v → AnswerKept (set_range_value x a b v)

-- ---- what the targets of a scattering get

abbrev pub ScatteringHolds : Scattering → Type 0
ScatteringHolds (gets os) = Each (IfThere IsValue) os
ScatteringHolds (refuses e) = Unit {0}

abbrev pub ScattersGive : Type 0
ScattersGive = (ks : List TargetKind) (v : Datum) → IsValue v → ScatteringHolds (scattered ks v)

abbrev pub ScatteringKept : Scattering → Type 0
ScatteringKept (gets os) = Each (IfThere IsKept) os
ScatteringKept (refuses e) = Unit {0}

abbrev pub ScattersKeep : Type 0
ScattersKeep = (ks : List TargetKind) (v : Datum) → IsKept v → ScatteringKept (scattered ks v)

-- ---- calls

abbrev pub CallsGive : Type 0
CallsGive = (f : PureFunction) (vs : List Datum) → AreValues vs → AnswerKept (call_value f vs)
