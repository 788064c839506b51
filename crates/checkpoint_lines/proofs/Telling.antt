-- What readers tell of the lines that they read: one after another, and of one line in fields.
use Rattle.std.proofs.Common.{◌≡◌, ℕ, zero, suc, ◌-◌, ◌<◌, ◌==◌, ◌&&◌, ◌||◌, nat_le, ℤ, int_le, Bool, true, false, not, List, [], ◌∷◌, ◌++◌, map, length, codes, if◌then◌else◌, Option, Some, None, Result, Ok, Err, IsTrue, refl, ap, sym, subst, ◌∙◌, arith, append_assoc, eq-eqb}
use Rattle.std.proofs.lemmas.Bool.Decides.{nat_tests}
use Rattle.std.specs.List.{list_all}
use Rattle.std.specs.Fmt.{decimal}
use Rattle.spec_value.specs.Datum.{Text, same_text, Datum}
use Rattle.spec_value.proofs.Entries.{first_holds, second_holds, both_hold}
use Rattle.spec_value.proofs.Same.{same_texts, text_itself}
use Rattle.spec_world.specs.Checkpoint as fault
use Rattle.spec_world.specs.Checkpoint.{CheckpointFault, fields, or_dash}
use Rattle.spec_faults.specs.Cutting.{lines_of, Spot, among, ends_field, with_next, spot_behind, fields_from, fields_in, field_at, is_filled}
use Rattle.spec_faults.specs.Forms.{Wanted, word, other, value, is_other_word, is_misspelt, is_no_value, one_is, has_form, least, fault_of}
use Rattle.spec_faults.specs.Awaited.{Awaited, Verdict, faulty, goes_on, by_fault, by_form, told, opened}
use Rattle.spec_faults.specs.Faults.{fault_at, at_line, behind_line, fault_among}
use Rattle.checkpoint_lines.specs.declared.fault.DecodeError.{DecodeError}
use Rattle.checkpoint_lines.specs.declared.fault.DecodeError.TheVariants.{Line, Memory}
use Rattle.checkpoint_lines.specs.declared.fault.FaultKind.{FaultKind}
use Rattle.checkpoint_lines.specs.declared.fault.FaultKind.TheVariants as kind
use Rattle.checkpoint_lines.specs.declared.row.Row.{Row}
use Rattle.checkpoint_lines.specs.declared.lines.Lines.{Lines}
use Rattle.spec_faults.specs.Plain.{passes, number_of, integer_of, is_number, is_integer, is_object, is_one_of, some_of, are_bits, is_flag, are_flags, with_dot, between_dots, is_path}
use Rattle.spec_faults.specs.Literals.{value_of, is_literal, any}
use Rattle.spec_faults.specs.FieldLaws.{is_unmarked, IsField, unmarked, spelled}
use Rattle.spec_faults.proofs.FieldsBack.{fields_spelled, fields_told, decimal_unmarked, signed_unmarked}
use Rattle.spec_faults.proofs.Spelling.{numbers_spelled, integers_spelled, values_spelled}
use Rattle.checkpoint_lines.specs.Rows.{row_fields}
use Rattle.checkpoint_lines.specs.Told.{all_fields, is_test, is_cut, row_fault, Checks, meant, IsFault, fault_left, lines_in, HasRoom, GoesOn, TellsFault, Tells, IsNext, line_fields, IsRow, IsNextRow, IsRowFault, RowTells}

-- ---- one after another

pub goes_then : (l m k : Lines) (A B C : List Awaited) → GoesOn l m A B → GoesOn m k B C → GoesOn l k A C
goes_then l m k A B C g h = record { fault = λ more. g.fault more ∙ h.fault more; lines = g.lines ∙ h.lines; room = h.room }

pub goes_behind : (l m : Lines) (A B more : List Awaited) → GoesOn l m A B → GoesOn l m (A ++ more) (B ++ more)
goes_behind l m A B more g =
    record {
      fault = λ rest. ap (fault_left l) (append_assoc A more rest) ∙ g.fault (more ++ rest) ∙ sym (ap (fault_left m) (append_assoc B more rest));
      lines = g.lines;
      room = g.room;
    }

pub fault_then : (e : DecodeError) (l m : Lines) (A B : List Awaited) → GoesOn l m A B → TellsFault e m B → TellsFault e l A
fault_then e l m A B g t more = subst (λ f. IsFault e f) (sym (g.fault more)) (t more)

pub fault_behind : (e : DecodeError) (l : Lines) (A more : List Awaited) → TellsFault e l A → TellsFault e l (A ++ more)
fault_behind e l A more t rest = subst (λ f. IsFault e f) (sym (ap (fault_left l) (append_assoc A more rest))) (t (more ++ rest))

-- awaiting the same
pub goes_from : (l m : Lines) (A B C : List Awaited) → A ≡ B → GoesOn l m B C → GoesOn l m A C
goes_from l m A B C e g = subst (λ X. GoesOn l m X C) (sym e) g

pub fault_from : (e : DecodeError) (l : Lines) (A B : List Awaited) → A ≡ B → TellsFault e l B → TellsFault e l A
fault_from e l A B is t = subst (λ X. TellsFault e l X) (sym is) t

-- ---- one line

-- what the next line is told to be, where it is awaited in front
pub line_told : (l m : Lines) (line : Text) (a : Awaited) (more : List Awaited) → IsNext line l m → opened (a ∷ more) ≡ a ∷ more
    → fault_left l (a ∷ more) ≡ behind_line (told a line) more m.count (fault_left m)
line_told l m line a more n o =
    ap (λ k. fault_among k.lines k.rest (suc l.count) (a ∷ more)) n.cut
    ∙ ap (λ xs. at_line xs line (suc l.count) (λ rest. fault_among (lines_of m.left.now).lines (lines_of m.left.now).rest (suc (suc l.count)) rest)) o
    ∙ ap (λ c. behind_line (told a line) more c (λ rest. fault_among (lines_of m.left.now).lines (lines_of m.left.now).rest (suc c) rest)) (sym n.count)

pub one_line_less : (line : Text) (l m : Lines) → IsNext line l m → lines_in l ≡ lines_in m
one_line_less line l m n = let many = ap (λ k. length k.lines) n.cut in let at = n.count in omega arith

-- the line goes on
pub line_goes : (l m : Lines) (line : Text) (a : Awaited) (after : List Awaited) → IsNext line l m → ((more : List Awaited) → opened (a ∷ more) ≡ a ∷ more)
    → told a line ≡ goes_on after → GoesOn l m (a ∷ []) after
line_goes l m line a after n o v =
    record {
      fault = λ more. line_told l m line a more n (o more) ∙ ap (λ w. behind_line w more m.count (fault_left m)) v;
      lines = one_line_less line l m n;
      room = n.room;
    }

no_less : (n : ℕ) → n - 0 ≡ n
no_less n = omega arith

-- it has a fault
pub line_faulty : (l m : Lines) (line : Text) (a : Awaited) (k : FaultKind) → IsNext line l m → ((more : List Awaited) → opened (a ∷ more) ≡ a ∷ more)
    → told a line ≡ faulty 0 (meant k) → TellsFault (Line m.count k) l (a ∷ [])
line_faulty l m line a k n o v more =
    line_told l m line a more n (o more) ∙ ap (λ w. behind_line w more m.count (fault_left m)) v ∙ ap (λ c. fault_at c (meant k)) (no_less m.count)

-- ---- one line in fields

pub row_told : (l m : Lines) (r : Row) (a : Awaited) (form : List Text → List Wanted) (next : List Text → Verdict) (n : IsNextRow r l m) → IsRow a form next
    → told a n.line ≡ by_form (form (line_fields r)) (line_fields r) next
row_told l m r a form next n is = is.told n.line ∙ ap (λ ts. by_form (form ts) ts next) (sym n.fields)

pub row_goes : (l m : Lines) (r : Row) (a : Awaited) (form : List Text → List Wanted) (next : List Text → Verdict) (after : List Awaited)
    → IsNextRow r l m → IsRow a form next → fault_of (form (line_fields r)) (line_fields r) ≡ None → next (line_fields r) ≡ goes_on after → GoesOn l m (a ∷ []) after
row_goes l m r a form next after n is none goes =
    line_goes l m n.line a after n.next is.first (row_told l m r a form next n is ∙ ap (λ o. by_fault o (line_fields r) next) none ∙ goes)

pub row_faulty : (e : DecodeError) (l m : Lines) (r : Row) (a : Awaited) (form : List Text → List Wanted) (next : List Text → Verdict)
    → IsNextRow r l m → IsRow a form next → IsRowFault e r (fault_of (form (line_fields r)) (line_fields r)) → TellsFault e l (a ∷ [])
row_faulty (Memory e) l m r a form next n is f = λ more. tt
row_faulty (Line i k) l m r a form next n is f =
    subst (λ j. TellsFault (Line j k) l (a ∷ [])) (sym (f.0 ∙ n.number))
    (line_faulty l m n.line a k n.next is.first (row_told l m r a form next n is ∙ ap (λ o. by_fault o (line_fields r) next) f.1))

pub row_next_faulty : (l m : Lines) (r : Row) (a : Awaited) (form : List Text → List Wanted) (next : List Text → Verdict) (k : FaultKind)
    → IsNextRow r l m → IsRow a form next → fault_of (form (line_fields r)) (line_fields r) ≡ None → next (line_fields r) ≡ faulty 0 (meant k)
    → TellsFault (Line r.line k) l (a ∷ [])
row_next_faulty l m r a form next k n is none bad =
    subst (λ j. TellsFault (Line j k) l (a ∷ [])) (sym n.number)
    (line_faulty l m n.line a k n.next is.first (row_told l m r a form next n is ∙ ap (λ o. by_fault o (line_fields r) next) none ∙ bad))

-- a reader of one whole row, whose fields are so wanted
pub row_tells : (A : Type 0) (res : Result A DecodeError) (l m : Lines) (r : Row) (a : Awaited) (form : List Text → List Wanted) (next : List Text → Verdict) (after : A → List Awaited)
    → IsRow a form next → (HasRoom l → IsNextRow r l m) → (HasRoom l → RowTells res r (form (line_fields r)))
    → ((x : A) → res ≡ Ok x → fault_of (form (line_fields r)) (line_fields r) ≡ None → next (line_fields r) ≡ goes_on (after x)) → Tells res l m (a ∷ []) after
row_tells A (Ok x) l m r a form next after is n tells goes = λ h. row_goes l m r a form next (after x) (n h) is (tells h) (goes x refl (tells h))
row_tells A (Err e) l m r a form next after is n tells goes = λ h. row_faulty e l m r a form next (n h) is (tells h)

-- ---- fields that are cut

-- a line has a field at least
pub some_field : (s : Spot) (t : Text) → 0 < length (fields_from s t)
some_field s [] = omega arith
some_field s (c ∷ t) = go (ends_field s c) (fields_from (spot_behind (ends_field s c) s c) t)
  where
    go : (b : Bool) (ts : List Text) → 0 < length (with_next b c ts)
    go true ts = omega arith
    go false [] = omega arith
    go false (u ∷ us) = omega arith

only_one : (ts : List Text) (t : Text) → fields ts ≡ t → (length ts == 1) ≡ true → ts ≡ t ∷ []
only_one [] t e h = cc
only_one (u ∷ []) t e h = ap (λ x. x ∷ []) e
only_one (u ∷ v ∷ ts) t e h = absurd (grind (arith, nat_tests))

pub one_field : (t : Text) → (length (fields_in t) == 1) ≡ true → fields_in t ≡ t ∷ []
one_field t h = only_one (fields_in t) t (fields_spelled t) h

pub cut_fields : (ts : List Text) → is_cut ts ≡ true → all_fields ts ≡ ts
cut_fields [] h = refl
cut_fields (t ∷ []) h = one_field t h
cut_fields (t ∷ u ∷ ts) h = ap (λ us. t ∷ us) (cut_fields (u ∷ ts) h)

several : (n : ℕ) → 0 < n → (n == 1) ≡ false → 1 < n
several n l h = grind (arith, nat_tests)

-- else there are more
pub more_fields : (ts : List Text) → is_cut ts ≡ false → length ts < length (all_fields ts)
more_fields [] h = cc
more_fields (t ∷ []) h = several (length (fields_in t)) (some_field (among 0) t) h
more_fields (t ∷ u ∷ ts) h = let more = more_fields (u ∷ ts) h in omega arith

-- ---- what is wanted of fields

pub has_line_fault : (ws : List Wanted) (ts : List Text) → (length ts == length ws) ≡ false → fault_of ws ts ≡ Some fault.line
has_line_fault ws ts h = ap (λ b. least (b && (list_all is_filled ts && not (one_is is_other_word ws ts))) (one_is is_misspelt ws ts) (one_is is_no_value ws ts)) h

not_as_many : (n m : ℕ) → n < m → (m == n) ≡ false
not_as_many n m l = grind (arith, nat_tests)

form_there : (ws : List Wanted) (ts : List Text) → length ts ≡ length ws → IsTrue (list_all is_filled ts) → one_is is_other_word ws ts ≡ false → has_form ws ts ≡ true
form_there ws ts many filled none =
    both_hold (length ts == length ws) (list_all is_filled ts && not (one_is is_other_word ws ts)) (eq-eqb (length ts) (length ws) many)
    (both_hold (list_all is_filled ts) (not (one_is is_other_word ws ts)) filled (ap not none))

-- the line has more fields than the row
pub cut_faulty : (ws : List Wanted) (ts : List Text) → length ts ≡ length ws → is_cut ts ≡ false → fault_of ws (all_fields ts) ≡ Some fault.line
cut_faulty ws ts many cut =
    let more = more_fields ts cut in
    let less : length ws < length (all_fields ts) = omega arith in
    has_line_fault ws (all_fields ts) (not_as_many (length ws) (length (all_fields ts)) less)

module _ (r : Row) (ws : List Wanted) (ts : List Text) (is : row_fields r ≡ ts) (many : length ts ≡ length ws) (filled : IsTrue (list_all is_filled (row_fields r))) (words : one_is is_other_word ws ts ≡ false) where
  all_cut : is_cut ts ≡ true → line_fields r ≡ ts
  all_cut cut = ap all_fields is ∙ cut_fields ts cut

  has_all : has_form ws ts ≡ true
  has_all = form_there ws ts many (subst (λ us. IsTrue (list_all is_filled us)) is filled) words

  -- each is as it is wanted
  pub all_meet : one_is is_misspelt ws ts ≡ false → one_is is_no_value ws ts ≡ false → is_cut ts ≡ true → (line_fields r ≡ ts) × (fault_of ws (line_fields r) ≡ None)
  all_meet spelt values cut = (
    all_cut cut,
    ap (fault_of ws) (all_cut cut)
        ∙ ap (λ b. least b (one_is is_misspelt ws ts) (one_is is_no_value ws ts)) has_all
        ∙ ap (λ b. least true b (one_is is_no_value ws ts)) spelt
        ∙ ap (least true false) values,
  )

  fails : (b : Bool) (k : FaultKind) → is_cut ts ≡ b → (b ≡ true → fault_of ws ts ≡ Some (meant k)) → IsRowFault (Line r.line (if b then k else kind.Line)) r (fault_of ws (line_fields r))
  fails true k cut there = (refl, ap (fault_of ws) (all_cut cut) ∙ there refl)
  fails false k cut there = (refl, ap (λ us. fault_of ws (all_fields us)) is ∙ cut_faulty ws ts many cut)

  fails_so : (k : FaultKind) → fault_of ws ts ≡ Some (meant k) → IsRowFault (row_fault r k) r (fault_of ws (line_fields r))
  fails_so k there = fails (is_cut (row_fields r)) k (sym (ap is_cut is)) (λ b. there)

  misspelt_least : (b : Bool) → least true true b ≡ Some fault.number
  misspelt_least true = refl
  misspelt_least false = refl

  -- one is misspelt
  pub misspelt : one_is is_misspelt ws ts ≡ true → IsRowFault (row_fault r kind.Number) r (fault_of ws (line_fields r))
  misspelt one =
      fails_so kind.Number
      (ap (λ b. least b (one_is is_misspelt ws ts) (one_is is_no_value ws ts)) has_all
      ∙ ap (λ b. least true b (one_is is_no_value ws ts)) one
      ∙ misspelt_least (one_is is_no_value ws ts))

  -- none is misspelt, and one is no such value
  pub no_value : one_is is_misspelt ws ts ≡ false → one_is is_no_value ws ts ≡ true → IsRowFault (row_fault r kind.Value) r (fault_of ws (line_fields r))
  no_value spelt one =
      fails_so kind.Value
      (ap (λ b. least b (one_is is_misspelt ws ts) (one_is is_no_value ws ts)) has_all
      ∙ ap (λ b. least true b (one_is is_no_value ws ts)) spelt
      ∙ ap (least true false) one)

  -- what the reader of a field tells of the row, where it fails
  pub fails_misspelt : {A : Type 0} (res : Result A DecodeError) (e : DecodeError) (test : Bool) → res ≡ Err e → Checks res r kind.Number test
      → (test ≡ false → one_is is_misspelt ws ts ≡ true) → IsRowFault e r (fault_of ws (line_fields r))
  fails_misspelt (Ok x) e test was c one = cc
  fails_misspelt (Err (Line n j)) e test was c one =
      let same : row_fault r kind.Number ≡ e = cc (c.1, was) in
      subst (λ d. IsRowFault d r (fault_of ws (line_fields r))) same (misspelt (one c.0))
  fails_misspelt (Err (Memory a)) e test was c one =
      let same : Memory a ≡ e = cc in
      subst (λ d. IsRowFault d r (fault_of ws (line_fields r))) same tt

  pub fails_value : {A : Type 0} (res : Result A DecodeError) (e : DecodeError) (test : Bool) → res ≡ Err e → Checks res r kind.Value test
      → one_is is_misspelt ws ts ≡ false → (test ≡ false → one_is is_no_value ws ts ≡ true) → IsRowFault e r (fault_of ws (line_fields r))
  fails_value (Ok x) e test was c spelt one = cc
  fails_value (Err (Line n j)) e test was c spelt one =
      let same : row_fault r kind.Value ≡ e = cc (c.1, was) in
      subst (λ d. IsRowFault d r (fault_of ws (line_fields r))) same (no_value spelt (one c.0))
  fails_value (Err (Memory a)) e test was c spelt one =
      let same : Memory a ≡ e = cc in
      subst (λ d. IsRowFault d r (fault_of ws (line_fields r))) same tt

-- ---- so many fields, each in its place

abbrev pub in_places : ℕ → ℕ → List Text → List Text
in_places zero i ts = []
in_places (suc n) i ts = field_at ts i ∷ in_places n (suc i) ts

places_behind : (n i : ℕ) (t : Text) (ts : List Text) → in_places n (suc i) (t ∷ ts) ≡ in_places n i ts
places_behind zero i t ts = refl
places_behind (suc n) i t ts = ap (λ us. field_at ts i ∷ us) (places_behind n (suc i) t ts)

-- for a number that is known it computes to its fields
pub listed : (n : ℕ) (ts : List Text) → length ts ≡ n → ts ≡ in_places n 0 ts
listed zero [] e = refl
listed zero (t ∷ ts) e = absurd (omega arith)
listed (suc n) [] e = absurd (omega arith)
listed (suc n) (t ∷ ts) e = let less : length ts ≡ n = omega arith in ap (λ us. t ∷ us) (listed n ts less ∙ sym (places_behind n 0 t ts))

-- ---- words

pub same_word : (w t : Text) → t ≡ w → not (same_text w t) ≡ false
same_word w t e = ap (λ u. not (same_text w u)) e ∙ ap not (text_itself w)

pub no_words : (ws : List Wanted) (ts : List Text) → IsTrue (list_all is_test ws) → one_is is_other_word ws ts ≡ false
no_words [] [] h = refl
no_words [] (t ∷ ts) h = refl
no_words (w ∷ ws) [] h = refl
no_words (word u ∷ ws) (t ∷ ts) h = cc
no_words (other test ∷ ws) (t ∷ ts) h = no_words ws ts h
no_words (value test ∷ ws) (t ∷ ts) h = no_words ws ts h

pub one_word : (w : Text) (ws : List Wanted) (t : Text) (ts : List Text) → t ≡ w → IsTrue (list_all is_test ws) → one_is is_other_word (word w ∷ ws) (t ∷ ts) ≡ false
one_word w ws t ts e h = ap (λ b. b || one_is is_other_word ws ts) (same_word w t e) ∙ no_words ws ts h

-- ---- fields that are one

abbrev pub IsOne : Text → Type 0
IsOne t = (length (fields_in t) == 1) ≡ true

field_is_one : (t : Text) → IsField t → IsOne t
field_is_one t f = ap (λ ts. length ts == 1) (fields_told t [] (f, tt))

pub unmarked_one : (t : Text) → IsTrue (list_all is_unmarked t) → IsOne t
unmarked_one t h = field_is_one t (unmarked t h)

passing : {A : Type 0} (test : A → Bool) (o : Option A) → passes test o ≡ true → (x : A) × ((o ≡ Some x) × (test x ≡ true))
passing test None h = cc
passing test (Some x) h = (x, (refl, h))

pub number_one : (least most : ℕ) (t : Text) → is_number least most t ≡ true → IsOne t
number_one least most t h =
    let p = passing (λ n. nat_le least n && nat_le n most) (number_of t) h in
    subst (λ u. IsOne u) (numbers_spelled t p.0 p.1.0) (unmarked_one (decimal p.0) (decimal_unmarked p.0))

integer_unmarked : (t : Text) (z : ℤ) → integer_of t ≡ Some z → IsTrue (list_all is_unmarked t)
integer_unmarked t z e = subst (λ u. IsTrue (list_all is_unmarked u)) (integers_spelled t z e).spelled (signed_unmarked z)

pub integer_one : (least most : ℤ) (t : Text) → is_integer least most t ≡ true → IsOne t
integer_one least most t h =
    let p = passing (λ z. int_le least z && int_le z most) (integer_of t) h in
    unmarked_one t (integer_unmarked t p.0 p.1.0)

hash_unmarked : (c : ℕ) → IsTrue (c == 35) → IsTrue (is_unmarked c)
hash_unmarked c h = grind (arith, nat_tests)

pub object_one : (t : Text) → is_object t ≡ true → IsOne t
object_one [] h = cc
object_one (c ∷ t) h =
    let p = passing (λ z. true) (integer_of t) (second_holds (c == 35) (passes (λ z. true) (integer_of t)) h) in
    unmarked_one (c ∷ t) (both_hold (is_unmarked c) (list_all is_unmarked t) (hash_unmarked c (first_holds (c == 35) (passes (λ z. true) (integer_of t)) h)) (integer_unmarked t p.0 p.1.0))

-- one of some words
among_unmarked : (ws : List Text) (t : Text) → IsTrue (list_all (list_all is_unmarked) ws) → is_one_of ws t ≡ true → IsTrue (list_all is_unmarked t)
among_unmarked [] t h one = cc
among_unmarked (w ∷ ws) t h one = go (among_unmarked ws t (second_holds (list_all is_unmarked w) (list_all (list_all is_unmarked) ws) h)) (same_text t w) refl one
  where
    go : (is_one_of ws t ≡ true → IsTrue (list_all is_unmarked t)) → (b : Bool) → same_text t w ≡ b → (b || is_one_of ws t) ≡ true → IsTrue (list_all is_unmarked t)
    go on true e o = subst (λ u. IsTrue (list_all is_unmarked u)) (sym (same_texts t w e)) (first_holds (list_all is_unmarked w) (list_all (list_all is_unmarked) ws) h)
    go on false e o = on o

pub one_of_one : (ws : List Text) (t : Text) → IsTrue (list_all (list_all is_unmarked) ws) → is_one_of ws t ≡ true → IsOne t
one_of_one ws t h one = unmarked_one t (among_unmarked ws t h one)

pub flag_one : (t : Text) → is_flag t ≡ true → IsOne t
flag_one t h = one_of_one (codes "0" ∷ codes "1" ∷ []) t refl h

flags_unmarked : (n : ℕ) (t : Text) → are_flags n t ≡ true → IsTrue (list_all is_unmarked t)
flags_unmarked zero [] h = refl
flags_unmarked zero (c ∷ t) h = cc
flags_unmarked (suc n) [] h = cc
flags_unmarked (suc n) (c ∷ t) h =
    let one = among_unmarked (codes "0" ∷ codes "1" ∷ []) (c ∷ []) refl (first_holds (is_flag (c ∷ [])) (are_flags n t) h) in
    both_hold (is_unmarked c) (list_all is_unmarked t) (first_holds (is_unmarked c) true one) (flags_unmarked n t (second_holds (is_flag (c ∷ [])) (are_flags n t) h))

pub flags_one : (n : ℕ) (t : Text) → are_flags n t ≡ true → IsOne t
flags_one n t h = unmarked_one t (flags_unmarked n t h)

-- of letters that are known the first fact is by computing
pub bits_one : (letters t : Text) → IsTrue (list_all (list_all is_unmarked) (map or_dash (some_of letters))) → are_bits letters t ≡ true → IsOne t
bits_one letters t h one = one_of_one (map or_dash (some_of letters)) t h one

pub slot_bits_one : (t : Text) → are_bits (codes "rwc") t ≡ true → IsOne t
slot_bits_one t h = bits_one (codes "rwc") t refl h

pub verb_bits_one : (t : Text) → are_bits (codes "rwxd") t ≡ true → IsOne t
verb_bits_one t h = bits_one (codes "rwxd") t refl h

-- ---- paths

dot_unmarked : (c : ℕ) → (c == 46) ≡ true → IsTrue (is_unmarked c)
dot_unmarked c h = grind (arith, nat_tests)

parts_unmarked : (t : Text) → IsTrue (list_all (list_all is_unmarked) (between_dots t)) → IsTrue (list_all is_unmarked t)
parts_unmarked [] h = refl
parts_unmarked (c ∷ t) h = go (c == 46) (between_dots t) refl (parts_unmarked t) h
  where
    go : (b : Bool) (ts : List Text) → (c == 46) ≡ b → (IsTrue (list_all (list_all is_unmarked) ts) → IsTrue (list_all is_unmarked t)) → IsTrue (list_all (list_all is_unmarked) (with_dot b c ts))
        → IsTrue (list_all is_unmarked (c ∷ t))
    go true ts e on k = both_hold (is_unmarked c) (list_all is_unmarked t) (dot_unmarked c e) (on k)
    go false [] e on k = both_hold (is_unmarked c) (list_all is_unmarked t) (first_holds (is_unmarked c) true (first_holds (list_all is_unmarked (c ∷ [])) true k)) (on refl)
    go false (u ∷ us) e on k =
        let front = first_holds (list_all is_unmarked (c ∷ u)) (list_all (list_all is_unmarked) us) k in
        both_hold (is_unmarked c) (list_all is_unmarked t) (first_holds (is_unmarked c) (list_all is_unmarked u) front)
        (on (both_hold (list_all is_unmarked u) (list_all (list_all is_unmarked) us) (second_holds (is_unmarked c) (list_all is_unmarked u) front) (second_holds (list_all is_unmarked (c ∷ u)) (list_all (list_all is_unmarked) us) k)))

number_unmarked : (least most : ℕ) (t : Text) → is_number least most t ≡ true → IsTrue (list_all is_unmarked t)
number_unmarked least most t h =
    let p = passing (λ n. nat_le least n && nat_le n most) (number_of t) h in
    subst (λ u. IsTrue (list_all is_unmarked u)) (numbers_spelled t p.0 p.1.0) (decimal_unmarked p.0)

numbers_unmarked : (least most : ℕ) (ts : List Text) → IsTrue (list_all (is_number least most) ts) → IsTrue (list_all (list_all is_unmarked) ts)
numbers_unmarked least most [] h = refl
numbers_unmarked least most (t ∷ ts) h =
    both_hold (list_all is_unmarked t) (list_all (list_all is_unmarked) ts) (number_unmarked least most t (first_holds (is_number least most t) (list_all (is_number least most) ts) h))
    (numbers_unmarked least most ts (second_holds (is_number least most t) (list_all (is_number least most) ts) h))

pub path_one : (t : Text) → is_path t ≡ true → IsOne t
path_one t h = unmarked_one t (go (same_text t (codes "0")) refl h)
  where
    go : (b : Bool) → same_text t (codes "0") ≡ b → (b || list_all (is_number 1 9223372036854775807) (between_dots t)) ≡ true → IsTrue (list_all is_unmarked t)
    go true e k = subst (λ u. IsTrue (list_all is_unmarked u)) (sym (same_texts t (codes "0") e)) refl
    go false e k = parts_unmarked t (numbers_unmarked 1 9223372036854775807 (between_dots t) k)

-- ---- literals

pub literal_one : (test : Datum → Bool) (t : Text) → is_literal test t ≡ true → IsOne t
literal_one test t h =
    let p = passing test (value_of t) h in
    field_is_one t (subst (λ u. IsField u) (values_spelled t p.0 p.1.0).spelled (spelled p.0))

-- one of some words, or what is one besides
pub either_one : (ws : List Text) (test : Text → Bool) (t : Text) → IsTrue (list_all (list_all is_unmarked) ws) → (test t ≡ true → IsOne t) → (is_one_of ws t || test t) ≡ true → IsOne t
either_one ws test t h on one = go (is_one_of ws t) refl one
  where
    go : (b : Bool) → is_one_of ws t ≡ b → (b || test t) ≡ true → IsOne t
    go true e o = one_of_one ws t h e
    go false e o = on o

pub preposition_one : (t : Text) → (is_one_of (codes "none" ∷ codes "any" ∷ []) t || is_number 0 14 t) ≡ true → IsOne t
preposition_one t h = either_one (codes "none" ∷ codes "any" ∷ []) (is_number 0 14) t refl (number_one 0 14 t) h

pub content_one : (t : Text) → (same_text t (codes "clear") || is_literal any t) ≡ true → IsOne t
content_one t h = go (same_text t (codes "clear")) refl h
  where
    go : (b : Bool) → same_text t (codes "clear") ≡ b → (b || is_literal any t) ≡ true → IsOne t
    go true e o = unmarked_one t (subst (λ u. IsTrue (list_all is_unmarked u)) (sym (same_texts t (codes "clear") e)) refl)
    go false e o = literal_one any t o
