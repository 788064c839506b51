-- What the lines of a place and of held values tell, one by one.
use Rattle.std.proofs.Common.{◌≡◌, ◌∙◌, ap, sym, refl, subst, ℕ, suc, ◌==◌, ◌||◌, not, Bool, true, false, List, [], ◌∷◌, ◌++◌, length, Option, Some, None, Result, Err, IsTrue, codes, if◌then◌else◌, arith, eq-eqb}
use Rattle.std.proofs.lemmas.Bool.Decides.{nat_tests}
use Rattle.std.specs.Option.{ok_or}
use Rattle.spec_value.specs.Datum.{Datum, Text}
use Rattle.spec_program.specs.Tree.{Program}
use Rattle.spec_program.specs.Place.{Holds}
use Rattle.spec_world.specs.Checkpoint as fault
use Rattle.spec_faults.specs.Cutting.{field_at}
use Rattle.spec_faults.specs.Plain.{number_of, number_in, or_zero, is_number, is_path, path_in}
use Rattle.spec_faults.specs.Literals.{value_of, is_literal, any}
use Rattle.spec_faults.specs.Codes.{total}
use Rattle.spec_faults.specs.Forms as form
use Rattle.spec_faults.specs.Forms.{word, other, value, one_is, is_other_word, fault_of}
use Rattle.spec_faults.specs.Awaited.{only_if, place, held, values, each_held, with_value, one_value, holds_at, behind_place, counted, each_variable}
use Rattle.checkpoint_lines.specs.declared.fault.DecodeError.{DecodeError}
use Rattle.checkpoint_lines.specs.declared.fault.DecodeError.TheVariants.{Line}
use Rattle.checkpoint_lines.specs.declared.fault.FaultKind.{FaultKind}
use Rattle.checkpoint_lines.specs.declared.fault.FaultKind.TheVariants as kind
use Rattle.checkpoint_lines.specs.declared.row.Row.{Row}
use Rattle.checkpoint_lines.specs.declared.lines.Lines.{Lines}
use Rattle.checkpoint_lines.specs.Rows.{row_fields}
use Rattle.checkpoint_lines.specs.Told.{HasRoom, GoesOn, TellsFault, line_fields, is_cut, row_fault, IsRow, IsNextRow, IsHeaded, TellsRow, TellsHeaded, IsRowFault, Checks}
use Rattle.checkpoint_lines.proofs.Telling.{row_goes, row_faulty, row_next_faulty, cut_fields, all_meet, fails_misspelt, fails_value, has_line_fault, listed, one_word, number_one, path_one}
use Rattle.held_values.specs.declared.fits.Wanted.{Wanted as WantedValue}
use Rattle.held_values.specs.Wanted.{wanted_fits}
use Rattle.task_lines.specs.Wanting.{GoesWith, StandsWith, TellsStand}
use Rattle.task_lines.specs.declared.stand.Stand.{Stand}

-- a fault of a row whose last field is one
pub cut_fault : (r : Row) (k : FaultKind) → is_cut (row_fields r) ≡ true → row_fault r k ≡ Line r.line k
cut_fault r k cut = ap (λ b. Line r.line (if b then k else kind.Line)) cut

pub if_not : (b : Bool) → (IsTrue b → ⊥) → b ≡ false
if_not true h = absurd (h refl)
if_not false h = refl

-- ---- a line that is one value

value_row : (more around : ℕ) (h : Holds) (vs : List Datum) → IsRow (values (suc more) around h vs) (λ _. form.held_form) (λ ts. one_value more around h (with_value vs (value_of (field_at ts 0))))
value_row more around h vs = record { told = λ t. refl; first = λ rest. refl }

pub value_none : (e : DecodeError) (l : Lines) (more around : ℕ) (h : Holds) (vs : List Datum) → TellsRow e l → TellsFault e l (values (suc more) around h vs ∷ [])
value_none e l more around h vs t = t (values (suc more) around h vs) (λ _. form.held_form) (λ ts. one_value more around h (with_value vs (value_of (field_at ts 0)))) (value_row more around h vs)

not_one : (n : ℕ) → (n ≡ 1 → ⊥) → (n == 1) ≡ false
not_one n h = grind (arith, nat_tests)

pub value_line : (l m : Lines) (r : Row) (more around : ℕ) (h : Holds) (vs : List Datum) → IsNextRow r l m → is_cut (row_fields r) ≡ true → (length (row_fields r) ≡ 1 → ⊥)
    → TellsFault (row_fault r kind.Line) l (values (suc more) around h vs ∷ [])
value_line l m r more around h vs n cut several =
    let fault : fault_of form.held_form (line_fields r) ≡ Some fault.line =
    ap (fault_of form.held_form) (cut_fields (row_fields r) cut) ∙ has_line_fault form.held_form (row_fields r) (not_one (length (row_fields r)) several) in
    subst (λ e. TellsFault e l (values (suc more) around h vs ∷ [])) (sym (cut_fault r kind.Line cut))
    (row_faulty (Line r.line kind.Line) l m r (values (suc more) around h vs) (λ _. form.held_form) (λ ts. one_value more around h (with_value vs (value_of (field_at ts 0)))) n (value_row more around h vs) (refl, fault))

no_literal : (test : Bool) → test ≡ false → (not test || false) ≡ true
no_literal true h = cc
no_literal false h = refl

pub value_misspelt : (l m : Lines) (r : Row) (e : DecodeError) (more around : ℕ) (h : Holds) (vs : List Datum) → IsNextRow r l m → length (row_fields r) ≡ 1
    → Checks {A = Datum} (Err e) r kind.Value (is_literal any (field_at (row_fields r) 0)) → TellsFault e l (values (suc more) around h vs ∷ [])
value_misspelt l m r e more around h vs n one c =
    let t : Text = field_at (row_fields r) 0 in
    row_faulty e l m r (values (suc more) around h vs) (λ _. form.held_form) (λ ts. one_value more around h (with_value vs (value_of (field_at ts 0)))) n (value_row more around h vs)
    (fails_value r form.held_form (t ∷ []) (listed 1 (row_fields r) one) refl n.filled refl {A = Datum} (Err e) e (is_literal any t) refl c refl (no_literal (is_literal any t)))

a_literal : (test : Bool) → test ≡ true → (not test || false) ≡ false
a_literal true h = refl
a_literal false h = cc

value_meets : (l m : Lines) (r : Row) → IsNextRow r l m → is_cut (row_fields r) ≡ true → length (row_fields r) ≡ 1 → is_literal any (field_at (row_fields r) 0) ≡ true
    → (line_fields r ≡ field_at (row_fields r) 0 ∷ []) × (fault_of form.held_form (line_fields r) ≡ None)
value_meets l m r n cut one is =
    let t : Text = field_at (row_fields r) 0 in
    let are : row_fields r ≡ t ∷ [] = listed 1 (row_fields r) one in
    all_meet r form.held_form (t ∷ []) are refl n.filled refl refl (a_literal (is_literal any t) is) (sym (ap is_cut are) ∙ cut)

value_next : (r : Row) (more around : ℕ) (h : Holds) (vs : List Datum) (w : WantedValue) (before : Option Datum) (v : Datum) (b : Bool) → GoesWith around h vs w before
    → line_fields r ≡ field_at (row_fields r) 0 ∷ [] → value_of (field_at (row_fields r) 0) ≡ Some v → wanted_fits w before v ≡ b
    → one_value more around h (with_value vs (value_of (field_at (line_fields r) 0))) ≡ only_if b fault.frame (values more around h (vs ++ v ∷ []) ∷ [])
value_next r more around h vs w before v b goes are said fits =
    ap (λ ts. one_value more around h (with_value vs (value_of (field_at ts 0)))) are
    ∙ ap (λ o. one_value more around h (with_value vs o)) said
    ∙ ap (λ c. only_if c fault.frame (values more around h (vs ++ v ∷ []) ∷ [])) (goes v ∙ fits)

module _ (l m : Lines) (r : Row) (more around : ℕ) (h : Holds) (vs : List Datum) (w : WantedValue) (before : Option Datum) (v : Datum) (goes : GoesWith around h vs w before)
    (n : IsNextRow r l m) (cut : is_cut (row_fields r) ≡ true) (one : length (row_fields r) ≡ 1) (is : is_literal any (field_at (row_fields r) 0) ≡ true) (said : value_of (field_at (row_fields r) 0) ≡ Some v) where
  pub value_goes : wanted_fits w before v ≡ true → GoesOn l m (values (suc more) around h vs ∷ []) (values more around h (vs ++ v ∷ []) ∷ [])
  value_goes fits =
      let meets = value_meets l m r n cut one is in
      row_goes l m r (values (suc more) around h vs) (λ _. form.held_form) (λ ts. one_value more around h (with_value vs (value_of (field_at ts 0)))) (values more around h (vs ++ v ∷ []) ∷ [])
      n (value_row more around h vs) meets.1 (value_next r more around h vs w before v true goes meets.0 said fits)

  pub value_unfit : wanted_fits w before v ≡ false → TellsFault (row_fault r kind.Frame) l (values (suc more) around h vs ∷ [])
  value_unfit fits =
      let meets = value_meets l m r n cut one is in
      subst (λ e. TellsFault e l (values (suc more) around h vs ∷ [])) (sym (cut_fault r kind.Frame cut))
      (row_next_faulty l m r (values (suc more) around h vs) (λ _. form.held_form) (λ ts. one_value more around h (with_value vs (value_of (field_at ts 0)))) kind.Frame
      n (value_row more around h vs) meets.1 (value_next r more around h vs w before v false goes meets.0 said fits))

-- ---- a line that is a word and a field behind it

word_there : (r : Row) (w : Text) (test : Text → Bool) → IsHeaded r w 1 → one_is is_other_word (word w ∷ other test ∷ []) (field_at (row_fields r) 0 ∷ field_at (row_fields r) 1 ∷ []) ≡ false
word_there r w test headed = one_word w (other test ∷ []) (field_at (row_fields r) 0) (field_at (row_fields r) 1 ∷ []) headed.word refl

misspelt_there : (test : Bool) → test ≡ false → (false || (not test || false)) ≡ true
misspelt_there true h = cc
misspelt_there false h = refl

spelt_there : (test : Bool) → test ≡ true → (false || (not test || false)) ≡ false
spelt_there true h = refl
spelt_there false h = cc

module _ (l m : Lines) (r : Row) (w : Text) (test : Text → Bool) (n : IsNextRow r l m) (headed : IsHeaded r w 1) where
  -- the field is misspelt
  pub headed_misspelt : (e : DecodeError) → Checks {A = ℕ} (Err e) r kind.Number (test (field_at (row_fields r) 1)) → IsRowFault e r (fault_of (word w ∷ other test ∷ []) (line_fields r))
  headed_misspelt e c =
      let ts : List Text = field_at (row_fields r) 0 ∷ field_at (row_fields r) 1 ∷ [] in
      fails_misspelt r (word w ∷ other test ∷ []) ts (listed 2 (row_fields r) headed.many) refl n.filled (word_there r w test headed) {A = ℕ} (Err e) e (test (field_at (row_fields r) 1)) refl c (misspelt_there (test (field_at (row_fields r) 1)))

  -- or it is as it is wanted
  pub headed_meets : test (field_at (row_fields r) 1) ≡ true → is_cut (row_fields r) ≡ true
      → (line_fields r ≡ field_at (row_fields r) 0 ∷ field_at (row_fields r) 1 ∷ []) × (fault_of (word w ∷ other test ∷ []) (line_fields r) ≡ None)
  headed_meets meets cut =
      let ts : List Text = field_at (row_fields r) 0 ∷ field_at (row_fields r) 1 ∷ [] in
      let are : row_fields r ≡ ts = listed 2 (row_fields r) headed.many in
      all_meet r (word w ∷ other test ∷ []) ts are refl n.filled (word_there r w test headed) (spelt_there (test (field_at (row_fields r) 1)) meets) refl (sym (ap is_cut are) ∙ cut)

-- the last of two is one
pub second_cut : (r : Row) (w : Text) → IsHeaded r w 1 → is_cut (field_at (row_fields r) 1 ∷ []) ≡ true → is_cut (row_fields r) ≡ true
second_cut r w headed h = ap is_cut (listed 2 (row_fields r) headed.many) ∙ h

-- ---- how many values are held

count_row : (hs : List (ℕ × Holds)) → IsRow (held hs) (λ _. form.counted_form (codes "held")) (λ ts. only_if (number_in (field_at ts 1) == total hs) fault.frame (each_held hs))
count_row hs = record { told = λ t. refl; first = λ rest. refl }

pub count_headed : (e : DecodeError) (l : Lines) (hs : List (ℕ × Holds)) → TellsHeaded e l (codes "held") 1 → TellsFault e l (held hs ∷ [])
count_headed e l hs t = t (held hs) (form.how_many ∷ []) (λ ts. only_if (number_in (field_at ts 1) == total hs) fault.frame (each_held hs)) (count_row hs) refl refl

count_told : (n : ℕ) (hs : List (ℕ × Holds)) (r : Row) (b : Bool) → line_fields r ≡ field_at (row_fields r) 0 ∷ field_at (row_fields r) 1 ∷ [] → number_of (field_at (row_fields r) 1) ≡ Some n → (n == total hs) ≡ b
    → only_if (number_in (field_at (line_fields r) 1) == total hs) fault.frame (each_held hs) ≡ only_if b fault.frame (each_held hs)
count_told n hs r b are said is =
    ap (λ ts. only_if (number_in (field_at ts 1) == total hs) fault.frame (each_held hs)) are
    ∙ ap (λ o. only_if (or_zero o == total hs) fault.frame (each_held hs)) said
    ∙ ap (λ c. only_if c fault.frame (each_held hs)) is

other_number : (n k : ℕ) → (n ≡ k → ⊥) → (n == k) ≡ false
other_number n k h = grind (arith, nat_tests)

module _ (l m : Lines) (r : Row) (hs : List (ℕ × Holds)) (n : IsNextRow r l m) (headed : IsHeaded r (codes "held") 1) where
  pub count_misspelt : (e : DecodeError) → Checks {A = ℕ} (Err e) r kind.Number (is_number 0 9223372036854775807 (field_at (row_fields r) 1)) → TellsFault e l (held hs ∷ [])
  count_misspelt e c =
      row_faulty e l m r (held hs) (λ _. form.counted_form (codes "held")) (λ ts. only_if (number_in (field_at ts 1) == total hs) fault.frame (each_held hs)) n (count_row hs)
      (headed_misspelt l m r (codes "held") (is_number 0 9223372036854775807) n headed e c)

  count_meets : is_number 0 9223372036854775807 (field_at (row_fields r) 1) ≡ true
      → (line_fields r ≡ field_at (row_fields r) 0 ∷ field_at (row_fields r) 1 ∷ []) × (fault_of (form.counted_form (codes "held")) (line_fields r) ≡ None)
  count_meets is =
      headed_meets l m r (codes "held") (is_number 0 9223372036854775807) n headed is (second_cut r (codes "held") headed (number_one 0 9223372036854775807 (field_at (row_fields r) 1) is))

  pub count_goes : (k : ℕ) → is_number 0 9223372036854775807 (field_at (row_fields r) 1) ≡ true → number_of (field_at (row_fields r) 1) ≡ Some k → k ≡ total hs → GoesOn l m (held hs ∷ []) (each_held hs)
  count_goes k is said same =
      let meets = count_meets is in
      row_goes l m r (held hs) (λ _. form.counted_form (codes "held")) (λ ts. only_if (number_in (field_at ts 1) == total hs) fault.frame (each_held hs)) (each_held hs) n (count_row hs)
      meets.1 (count_told k hs r true meets.0 said (eq-eqb k (total hs) same))

  pub count_unfit : (k : ℕ) → is_number 0 9223372036854775807 (field_at (row_fields r) 1) ≡ true → number_of (field_at (row_fields r) 1) ≡ Some k → (k ≡ total hs → ⊥) → TellsFault (row_fault r kind.Frame) l (held hs ∷ [])
  count_unfit k is said same =
      let meets = count_meets is in
      let cut = second_cut r (codes "held") headed (number_one 0 9223372036854775807 (field_at (row_fields r) 1) is) in
      subst (λ e. TellsFault e l (held hs ∷ [])) (sym (cut_fault r kind.Frame cut))
      (row_next_faulty l m r (held hs) (λ _. form.counted_form (codes "held")) (λ ts. only_if (number_in (field_at ts 1) == total hs) fault.frame (each_held hs)) kind.Frame n (count_row hs)
      meets.1 (count_told k hs r false meets.0 said (other_number k (total hs) same)))

-- ---- where a verb stands

place_row : (is_fork : Bool) (p : Program) → IsRow (place is_fork p) (λ _. form.place_form) (λ ts. behind_place (holds_at is_fork p (path_in (field_at ts 1))))
place_row is_fork p = record { told = λ t. refl; first = λ rest. refl }

pub place_headed : (e : DecodeError) (l : Lines) (is_fork : Bool) (p : Program) → TellsHeaded e l (codes "place") 1 → TellsFault e l (place is_fork p ∷ [])
place_headed e l is_fork p t = t (place is_fork p) (other is_path ∷ []) (λ ts. behind_place (holds_at is_fork p (path_in (field_at ts 1)))) (place_row is_fork p) refl refl

place_told : (path : List ℕ) (is_fork : Bool) (p : Program) (r : Row) (o : Option (List (ℕ × Holds))) → line_fields r ≡ field_at (row_fields r) 0 ∷ field_at (row_fields r) 1 ∷ [] → path_in (field_at (row_fields r) 1) ≡ path
    → holds_at is_fork p path ≡ o → behind_place (holds_at is_fork p (path_in (field_at (line_fields r) 1))) ≡ behind_place o
place_told path is_fork p r o are said is =
    ap (λ ts. behind_place (holds_at is_fork p (path_in (field_at ts 1)))) are
    ∙ ap (λ ns. behind_place (holds_at is_fork p ns)) said
    ∙ ap behind_place is

module _ (l m : Lines) (r : Row) (is_fork : Bool) (p : Program) (n : IsNextRow r l m) (headed : IsHeaded r (codes "place") 1) where
  pub place_misspelt : (e : DecodeError) → Checks {A = ℕ} (Err e) r kind.Number (is_path (field_at (row_fields r) 1)) → TellsFault e l (place is_fork p ∷ [])
  place_misspelt e c =
      row_faulty e l m r (place is_fork p) (λ _. form.place_form) (λ ts. behind_place (holds_at is_fork p (path_in (field_at ts 1)))) n (place_row is_fork p)
      (headed_misspelt l m r (codes "place") is_path n headed e c)

  place_meets : is_path (field_at (row_fields r) 1) ≡ true → (line_fields r ≡ field_at (row_fields r) 0 ∷ field_at (row_fields r) 1 ∷ []) × (fault_of form.place_form (line_fields r) ≡ None)
  place_meets is = headed_meets l m r (codes "place") is_path n headed is (second_cut r (codes "place") headed (path_one (field_at (row_fields r) 1) is))

  place_goes : (path : List ℕ) (hs : List (ℕ × Holds)) → is_path (field_at (row_fields r) 1) ≡ true → path_in (field_at (row_fields r) 1) ≡ path → holds_at is_fork p path ≡ Some hs
      → GoesOn l m (place is_fork p ∷ []) (counted (codes "vars") each_variable ∷ held hs ∷ [])
  place_goes path hs is said there =
      let meets = place_meets is in
      row_goes l m r (place is_fork p) (λ _. form.place_form) (λ ts. behind_place (holds_at is_fork p (path_in (field_at ts 1)))) (counted (codes "vars") each_variable ∷ held hs ∷ [])
      n (place_row is_fork p) meets.1 (place_told path is_fork p r (Some hs) meets.0 said there)

  place_unfit : (path : List ℕ) → is_path (field_at (row_fields r) 1) ≡ true → path_in (field_at (row_fields r) 1) ≡ path → holds_at is_fork p path ≡ None → TellsFault (row_fault r kind.Frame) l (place is_fork p ∷ [])
  place_unfit path is said none =
      let meets = place_meets is in
      let cut = second_cut r (codes "place") headed (path_one (field_at (row_fields r) 1) is) in
      subst (λ e. TellsFault e l (place is_fork p ∷ [])) (sym (cut_fault r kind.Frame cut))
      (row_next_faulty l m r (place is_fork p) (λ _. form.place_form) (λ ts. behind_place (holds_at is_fork p (path_in (field_at ts 1)))) kind.Frame
      n (place_row is_fork p) meets.1 (place_told path is_fork p r None meets.0 said none))

pub place_stand : (l m : Lines) (r : Row) (is_fork : Bool) (p : Program) (path : List ℕ) (o : Option Stand) (res : Result Stand DecodeError) (e : DecodeError)
    → (HasRoom l → IsNextRow r l m × IsHeaded r (codes "place") 1) → is_path (field_at (row_fields r) 1) ≡ true → path_in (field_at (row_fields r) 1) ≡ path → StandsWith is_fork p path o
    → e ≡ row_fault r kind.Frame → res ≡ ok_or o e → TellsStand is_fork p res l m
place_stand l m r is_fork p path None res e row is said none bad found =
    subst (λ s. TellsStand is_fork p s l m) (sym found)
    (λ room. subst (λ d. TellsFault d l (place is_fork p ∷ [])) (sym bad) (place_unfit l m r is_fork p (row room).0 (row room).1 path is said none))
place_stand l m r is_fork p path (Some s) res e row is said there bad found =
    subst (λ q. TellsStand is_fork p q l m) (sym found)
    (λ room. record { on_way = there.0; wanted = there.2; goes = place_goes l m r is_fork p (row room).0 (row room).1 path there.0 is said there.1 })

pub stand_passed : (is_fork : Bool) (p : Program) (res : Result Stand DecodeError) (y e : DecodeError) (l m : Lines) → res ≡ Err y → y ≡ e → (HasRoom l → TellsFault e l (place is_fork p ∷ [])) → TellsStand is_fork p res l m
stand_passed is_fork p res y e l m is same t = subst (λ s. TellsStand is_fork p s l m) (sym is) (λ room. subst (λ d. TellsFault d l (place is_fork p ∷ [])) (sym same) (t room))
