-- What an entry's own line is told as, and where it may stand.
use Rattle.std.proofs.Common.{◌≡◌, ℕ, zero, suc, ◌+◌, ◌-◌, ◌<◌, ◌==◌, ◌&&◌, ◌||◌, nat_le, nat_lt, Bool, true, false, not, List, [], ◌∷◌, ◌++◌, length, Option, Some, None, Result, Ok, Err, IfOk, IsTrue, refl, ap, sym, subst, ◌∙◌, codes, if◌then◌else◌, arith, min, ◌^◌}
use Rattle.std.proofs.lemmas.Bool.{ltb-true}
use Rattle.std.proofs.lemmas.Bool.Decides.{nat_tests}
use Rattle.std.specs.List.{list_all}
use Rattle.spec_value.specs.Datum.{Text, same_text, Datum, integer, object, text, error, list, Data, of_list, to_list}
use Rattle.spec_value.proofs.Entries.{first_holds, second_holds, both_hold}
use Rattle.spec_value.proofs.Same.{same_texts, text_itself}
use Rattle.spec_checkpoint.proofs.Fields.{list_back}
use Rattle.spec_world.specs.World.{NativeName}
use Rattle.spec_world.specs.WellFormed.{native_fits}
use Rattle.spec_world.specs.Checkpoint as fault
use Rattle.spec_world.specs.Checkpoint.{CheckpointFault}
use Rattle.spec_faults.specs.Cutting.{field_at, is_filled}
use Rattle.spec_faults.specs.Plain.{number_in, is_one_of}
use Rattle.spec_faults.specs.Literals.{value_of, items_of}
use Rattle.spec_faults.specs.Forms.{Wanted, word, is_other_word, one_is, has_form, fault_of, form_among, or_else, frame_form, native_form, object_number, string, flag, how_many, other, number, literal}
use Rattle.spec_faults.specs.Awaited.{Awaited, entries, entry, code, of_frame, Verdict, faulty, goes_on, only_if, by_fault, by_form, told, opened, one_entry, verb_may_stand, native_may_stand, native_goes, native_named, arguments_fit}
use Rattle.checkpoint_lines.specs.Rows.{row_fields}
use Rattle.checkpoint_lines.specs.Told.{meant, fault_left, HasRoom, GoesOn, TellsFault, Tells, line_fields, row_fault, is_test, IsRow, IsNextRow, IsCount}
use Rattle.checkpoint_lines.specs.declared.lines.Lines.{Lines}
use Rattle.checkpoint_lines.specs.declared.fault.DecodeError.{DecodeError}
use Rattle.checkpoint_lines.specs.declared.fault.DecodeError.TheVariants.{Line, Memory}
use Rattle.checkpoint_lines.specs.declared.fault.FaultKind.{FaultKind}
use Rattle.checkpoint_lines.specs.declared.fault.FaultKind.TheVariants as kind
use Rattle.checkpoint_lines.specs.declared.row.Row.{Row}
use Rattle.checkpoint_lines.proofs.Telling.{goes_then, fault_then, row_told, line_goes, line_faulty, one_word}
use Rattle.checkpoint_lines.proofs.Going.{Goes, Fails}
use Rattle.task_lines.specs.declared.entry.Begun.{Begun}
use Rattle.task_lines.specs.declared.entry.Begun.TheVariants.{Verb, Native}
use Rattle.task_lines.specs.declared.entry.Place.{Place}
use Rattle.task_lines.specs.Awaiting.{IsPlace, stands, verbs_behind, entry_awaited, next_awaited, is_native_begun, rest_awaited, native_verdict, own_goes, own_verdict}
use Rattle.task_lines.specs.Verdicts.{IsWhole, VerdictTells}
use Rattle.task_lines.proofs.Telling.{whole_is, whole_fault, goes_alike}
use Rattle.task_lines.proofs.RowForms.{no_form_at, no_form_long, form_is, no_word_turned, form_there, none_there}

-- ---- where it may stand

few : (v : ℕ) → ((v == 0) && nat_lt v 50) ≡ nat_lt v 1
few v = grind (arith, nat_tests)

some_before : (v : ℕ) → not (v == 0) ≡ nat_le 1 v
some_before v = grind (arith, nat_tests)

verb_room : (f : Bool) (v : ℕ) → (not (f && not (v == 0)) && nat_lt v 50) ≡ nat_lt v (if f then 1 else 50)
verb_room true v = twice (v == 0) ∙ few v
  where
    twice : (b : Bool) → (not (not b) && nat_lt v 50) ≡ (b && nat_lt v 50)
    twice true = refl
    twice false = refl
verb_room false v = refl

native_room : (f a b c : Bool) → (not (f && not a) && (not a && (not c && not b))) ≡ (not f && (not a && (not b && not c)))
native_room true true b c = refl
native_room true false b c = refl
native_room false true b c = refl
native_room false false true true = refl
native_room false false true false = refl
native_room false false false true = refl
native_room false false false false = refl

pub verb_stands : (p : Place) (more : ℕ) → IsPlace p more → stands p false ≡ verb_may_stand p.is_fork p.verbs
verb_stands p more h = ap (λ a. not (p.is_fork && not a) && nat_lt p.verbs 50) h.first ∙ verb_room p.is_fork p.verbs

pub native_stands : (p : Place) (more : ℕ) → IsPlace p more → stands p true ≡ native_may_stand p.is_fork p.verbs p.is_behind_native more
native_stands p more h =
    (λ i. not (p.is_fork && not (h.first i)) && (not (h.first i) && (not (h.last i) && not p.is_behind_native)))
    ∙ native_room p.is_fork (p.verbs == 0) p.is_behind_native (more == 0)
    ∙ (λ i. not p.is_fork && (some_before p.verbs i && (not p.is_behind_native && some_before more i)))

-- ---- its own line, there

abbrev pub entry_forms : List Text → List Wanted
entry_forms ts = form_among (frame_form ∷ native_form ∷ []) ts

-- behind a line that has its form
abbrev pub entry_goes : Place → ℕ → List Text → Verdict
entry_goes p more ts = one_entry p.is_fork p.verbs p.is_behind_native more (same_text (field_at ts 0) (codes "frame")) ts

abbrev pub entry_verdict : Place → ℕ → List Text → Verdict
entry_verdict p more ts = by_form (entry_forms ts) ts (entry_goes p more)

pub entry_is_row : (p : Place) (more : ℕ) → IsRow (entry_awaited p (suc more)) entry_forms (entry_goes p more)
entry_is_row p more = record { told = λ t. refl; first = λ us. refl }

never : (b : Bool) → (b && false) ≡ false
never true = refl
never false = refl

faults_alike : (p : Place) (more : ℕ) (ts : List Text) (is_frame goes : Bool) (k : CheckpointFault) → native_goes ts ≡ goes → own_goes p.is_fork is_frame ts ≡ faulty 0 k
    → one_entry p.is_fork p.verbs p.is_behind_native more is_frame ts ≡ faulty 0 k
faults_alike p more ts true goes k g e = absurd (cc (e))
faults_alike p more ts false true k g e = let no : only_if true fault.frame [] ≡ faulty 0 k = ap (λ b. only_if b fault.frame []) (sym g) ∙ e in absurd (cc (no))
faults_alike p more ts false false k g e =
    ap (λ b. only_if (native_may_stand p.is_fork p.verbs p.is_behind_native more && b) fault.frame (entry p.is_fork p.verbs true more ∷ [])) g
    ∙ ap (λ b. only_if b fault.frame (entry p.is_fork p.verbs true more ∷ [])) (never (native_may_stand p.is_fork p.verbs p.is_behind_native more))
    ∙ ap (λ b. only_if b fault.frame []) (sym g) ∙ e

-- a fault of its own line is its fault there
pub own_faulty : (p : Place) (more : ℕ) (ts : List Text) (k : CheckpointFault) → own_verdict p.is_fork ts ≡ faulty 0 k → entry_verdict p more ts ≡ faulty 0 k
own_faulty p more ts k e = go (fault_of (entry_forms ts) ts) e
  where
    go : (o : Option CheckpointFault) → by_fault o ts (λ us. own_goes p.is_fork (same_text (field_at us 0) (codes "frame")) us) ≡ faulty 0 k → by_fault o ts (entry_goes p more) ≡ faulty 0 k
    go (Some j) h = h
    go None h = faults_alike p more ts (same_text (field_at ts 0) (codes "frame")) (native_goes ts) k refl h

same_awaited : (A B : List Awaited) → goes_on A ≡ goes_on B → A ≡ B
same_awaited A B e = cc

entries_alike : (p : Place) (more : ℕ) (ts : List Text) (b : Begun) (is_frame goes : Bool) → IsPlace p more → native_goes ts ≡ goes → is_frame ≡ not (is_native_begun b) → own_goes p.is_fork is_frame ts ≡ goes_on (rest_awaited p.is_fork b)
    → one_entry p.is_fork p.verbs p.is_behind_native more is_frame ts ≡ only_if (stands p (is_native_begun b)) fault.frame (rest_awaited p.is_fork b ++ next_awaited p more (is_native_begun b) ∷ [])
entries_alike p more ts (Verb h) true goes place g is e =
    ap (λ s. only_if s fault.frame (code (number_in (field_at ts 7)) [] (of_frame p.is_fork) ∷ entry p.is_fork (suc p.verbs) false more ∷ [])) (sym (verb_stands p more place))
    ∙ ap (λ us. only_if (stands p false) fault.frame (us ++ entry p.is_fork (suc p.verbs) false more ∷ [])) (same_awaited (code (number_in (field_at ts 7)) [] (of_frame p.is_fork) ∷ []) (rest_awaited p.is_fork (Verb h)) e)
entries_alike p more ts (Verb h) false goes place g is e = absurd (cc (is))
entries_alike p more ts (Native m) true goes place g is e = absurd (cc (is))
entries_alike p more ts (Native m) false false place g is e = let no : only_if false fault.frame [] ≡ goes_on [] = ap (λ b. only_if b fault.frame []) (sym g) ∙ e in absurd (cc (no))
entries_alike p more ts (Native m) false true place g is e =
    ap (λ b. only_if (native_may_stand p.is_fork p.verbs p.is_behind_native more && b) fault.frame (entry p.is_fork p.verbs true more ∷ [])) g
    ∙ ap (λ b. only_if b fault.frame (entry p.is_fork p.verbs true more ∷ [])) (always (native_may_stand p.is_fork p.verbs p.is_behind_native more) ∙ sym (native_stands p more place))
  where
    always : (b : Bool) → (b && true) ≡ b
    always true = refl
    always false = refl

-- what its own line gives stands there, or it is a fault
pub own_goes_on : (p : Place) (more : ℕ) (ts : List Text) (b : Begun) → IsPlace p more → same_text (field_at ts 0) (codes "frame") ≡ not (is_native_begun b) → own_verdict p.is_fork ts ≡ goes_on (rest_awaited p.is_fork b)
    → entry_verdict p more ts ≡ only_if (stands p (is_native_begun b)) fault.frame (rest_awaited p.is_fork b ++ next_awaited p more (is_native_begun b) ∷ [])
own_goes_on p more ts b place is e = go (fault_of (entry_forms ts) ts) e
  where
    go : (o : Option CheckpointFault) → by_fault o ts (λ us. own_goes p.is_fork (same_text (field_at us 0) (codes "frame")) us) ≡ goes_on (rest_awaited p.is_fork b)
        → by_fault o ts (entry_goes p more) ≡ only_if (stands p (is_native_begun b)) fault.frame (rest_awaited p.is_fork b ++ next_awaited p more (is_native_begun b) ∷ [])
    go (Some j) h = absurd (cc (h))
    go None h = entries_alike p more ts b (same_text (field_at ts 0) (codes "frame")) (native_goes ts) place refl is h

pub may_stand_there : (s : Bool) (us : List Awaited) (v : Verdict) → IsTrue s → v ≡ only_if s fault.frame us → v ≡ goes_on us
may_stand_there s us v h e = e ∙ ap (λ b. only_if b fault.frame us) h

pub may_not_stand : (s : Bool) (us : List Awaited) (v : Verdict) → s ≡ false → v ≡ only_if s fault.frame us → v ≡ faulty 0 fault.frame
may_not_stand s us v h e = e ∙ ap (λ b. only_if b fault.frame us) h

-- ---- which form it has

abbrev pub has_word : Text → ℕ → List Text → Bool
has_word w n ts = length ts == suc n && same_text (field_at ts 0) w

first_word : (w : Text) (ws : List Wanted) (ts : List Text) → length ts ≡ suc (length ws) → same_text (field_at ts 0) w ≡ true → IsTrue (list_all is_test ws) → one_is is_other_word (word w ∷ ws) ts ≡ false
first_word w ws [] e h tests = absurd (omega (arith, e))
first_word w ws (t ∷ ts) e h tests = one_word w ws t ts (same_texts t w h) tests

pub headed_form : (w : Text) (ws : List Wanted) (ts : List Text) → has_word w (length ws) ts ≡ true → IsTrue (list_all is_test ws) → IsTrue (list_all is_filled ts) → has_form (word w ∷ ws) ts ≡ true
headed_form w ws ts h tests filled =
    let many = first_holds (length ts == suc (length ws)) (same_text (field_at ts 0) w) h in
    form_is (word w ∷ ws) ts many filled (first_word w ws ts (same many) (second_holds (length ts == suc (length ws)) (same_text (field_at ts 0) w) h) tests)
  where
    same : (length ts == suc (length ws)) ≡ true → length ts ≡ suc (length ws)
    same e = grind (arith, nat_tests)

pub headed_by_none : (w : Text) (ws : List Wanted) (ts : List Text) → has_word w (length ws) ts ≡ false → has_form (word w ∷ ws) ts ≡ false
headed_by_none w ws ts h = go (length ts == suc (length ws)) refl h
  where
    go : (b : Bool) → (length ts == suc (length ws)) ≡ b → (b && same_text (field_at ts 0) w) ≡ false → has_form (word w ∷ ws) ts ≡ false
    go true e k = no_form_at (word w ∷ ws) ts 0 (omega arith) (no_word_turned (field_at ts 0) w k)
    go false e k = no_form_long (word w ∷ ws) ts e

abbrev pub frame_rest : List Wanted
frame_rest = object_number ∷ object_number ∷ object_number ∷ object_number ∷ string ∷ flag ∷ how_many ∷ []

abbrev pub native_rest : List Wanted
native_rest = other (is_one_of (codes "move" ∷ codes "create" ∷ codes "recycle" ∷ codes "eval" ∷ [])) ∷ number 1 3 ∷ literal ∷ []

pub frame_has : (ts : List Text) → has_word (codes "frame") 7 ts ≡ true → IsTrue (list_all is_filled ts) → has_form frame_form ts ≡ true
frame_has ts h filled = headed_form (codes "frame") frame_rest ts h refl filled

pub native_has : (ts : List Text) → has_word (codes "native") 3 ts ≡ true → IsTrue (list_all is_filled ts) → has_form native_form ts ≡ true
native_has ts h filled = headed_form (codes "native") native_rest ts h refl filled

-- the form of a verb's line
pub verb_forms : (ts : List Text) → has_form frame_form ts ≡ true → entry_forms ts ≡ frame_form
verb_forms ts h = ap (λ b. or_else b frame_form (form_among (native_form ∷ []) ts)) h

not_verb : (ts : List Text) → has_word (codes "frame") 7 ts ≡ false → entry_forms ts ≡ form_among (native_form ∷ []) ts
not_verb ts h = ap (λ b. or_else b frame_form (form_among (native_form ∷ []) ts)) (headed_by_none (codes "frame") frame_rest ts h)

pub native_forms : (ts : List Text) → has_word (codes "frame") 7 ts ≡ false → has_form native_form ts ≡ true → entry_forms ts ≡ native_form
native_forms ts h k = not_verb ts h ∙ ap (λ b. or_else b native_form []) k

pub neither_forms : (ts : List Text) → has_word (codes "frame") 7 ts ≡ false → has_word (codes "native") 3 ts ≡ false → entry_forms ts ≡ []
neither_forms ts h k = not_verb ts h ∙ ap (λ b. or_else b native_form []) (headed_by_none (codes "native") native_rest ts k)

pub is_frame_word : (ts : List Text) (n : ℕ) → has_word (codes "frame") n ts ≡ true → same_text (field_at ts 0) (codes "frame") ≡ true
is_frame_word ts n h = second_holds (length ts == suc n) (same_text (field_at ts 0) (codes "frame")) h

pub is_native_word : (ts : List Text) (n : ℕ) → has_word (codes "native") n ts ≡ true → same_text (field_at ts 0) (codes "frame") ≡ false
is_native_word ts n h = ap (λ t. same_text t (codes "frame")) (same_texts (field_at ts 0) (codes "native") (second_holds (length ts == suc n) (same_text (field_at ts 0) (codes "native")) h))

-- ---- what a built-in function's line says

pub native_said : (ts : List Text) (v : Datum) (vs : List Datum) (name : NativeName) (stage : ℕ) → value_of (field_at ts 3) ≡ Some v → v ≡ list (of_list vs) → name ≡ native_named (field_at ts 1) → stage ≡ number_in (field_at ts 2)
    → native_goes ts ≡ native_fits name stage vs
native_said ts v vs name stage f l n s =
    (λ i. arguments_fit (sym n i) (sym s i) (items_of (f i)))
    ∙ ap (λ u. arguments_fit name stage (items_of (Some u))) l
    ∙ ap (λ us. native_fits name stage us) (list_back vs)

no_items : (v : Datum) → ((xs : Data) → v ≡ list xs → ⊥) → items_of (Some v) ≡ None
no_items (list xs) h = absurd (h xs refl)
no_items (integer z) h = refl
no_items (object z) h = refl
no_items (text t) h = refl
no_items (error e) h = refl

pub native_no_list : (ts : List Text) (v : Datum) → value_of (field_at ts 3) ≡ Some v → ((xs : Data) → v ≡ list xs → ⊥) → native_goes ts ≡ false
native_no_list ts v f h = ap (λ o. arguments_fit (native_named (field_at ts 1)) (number_in (field_at ts 2)) (items_of o)) f ∙ ap (arguments_fit (native_named (field_at ts 1)) (number_in (field_at ts 2))) (no_items v h)

module _ (r : Row) (w : IsWhole r) where
  goes_by : (b : Bool) (ts : List Text) → line_fields r ≡ ts → native_goes ts ≡ b → native_verdict (line_fields r) ≡ only_if b fault.frame []
  goes_by b ts is h = ap native_verdict is ∙ ap (λ c. only_if c fault.frame []) h

  pub native_fit : fault_of native_form (line_fields r) ≡ None → native_goes (row_fields r) ≡ true → by_form native_form (line_fields r) native_verdict ≡ goes_on []
  native_fit none h = ap (λ o. by_fault o (line_fields r) native_verdict) none ∙ goes_by true (row_fields r) (whole_is r w) h

  pub native_unfit : (A : Type 0) (e : DecodeError) → e ≡ row_fault r kind.Frame → fault_of native_form (line_fields r) ≡ None → native_goes (row_fields r) ≡ false
      → VerdictTells {A = A} (Err e) r (by_form native_form (line_fields r) native_verdict) (λ _. [])
  native_unfit A e is none h =
      subst (λ d. VerdictTells {A = A} (Err d) r (by_form native_form (line_fields r) native_verdict) (λ _. [])) (sym (is ∙ whole_fault r kind.Frame w))
      (refl, ap (λ o. by_fault o (line_fields r) native_verdict) none ∙ goes_by false (row_fields r) (whole_is r w) h)

-- ---- what a reader of its own line tells

abbrev entry_lines : List (List Wanted)
entry_lines = frame_form ∷ native_form ∷ []

module _ (r : Row) (w : IsWhole r) (is_fork : Bool) where
  abbrev own_next : List Text → Verdict
  own_next ts = own_goes is_fork (same_text (field_at ts 0) (codes "frame")) ts

  pub own_verb : (n : ℕ) → has_form frame_form (row_fields r) ≡ true → same_text (field_at (row_fields r) 0) (codes "frame") ≡ true → fault_of frame_form (line_fields r) ≡ None → n ≡ number_in (field_at (row_fields r) 7)
      → own_verdict is_fork (line_fields r) ≡ goes_on (code n [] (of_frame is_fork) ∷ [])
  own_verb n h is none said =
      ap (λ o. by_fault o (line_fields r) own_next) (none_there r w entry_lines frame_form (verb_forms (row_fields r) h) none)
      ∙ ap own_next (whole_is r w)
      ∙ ap (λ b. own_goes is_fork b (row_fields r)) is
      ∙ ap (λ k. goes_on (code k [] (of_frame is_fork) ∷ [])) (sym said)

  pub own_native : entry_forms (row_fields r) ≡ native_form → same_text (field_at (row_fields r) 0) (codes "frame") ≡ false → own_verdict is_fork (line_fields r) ≡ by_form native_form (line_fields r) native_verdict
  own_native forms is = ap (λ ws. by_form ws (line_fields r) own_next) (form_there r w entry_lines native_form forms) ∙ go (fault_of native_form (line_fields r))
    where
      go : (o : Option CheckpointFault) → by_fault o (line_fields r) own_next ≡ by_fault o (line_fields r) native_verdict
      go (Some k) = refl
      go None = ap (λ b. own_goes is_fork b (line_fields r)) (ap (λ ts. same_text (field_at ts 0) (codes "frame")) (whole_is r w) ∙ is)

pub verdict_passed_on : {A B : Type 0} (res : Result A DecodeError) (y e : DecodeError) (from : Result B DecodeError) (r : Row) (v u : Verdict) (after : A → List Awaited) (before : B → List Awaited) → res ≡ Err y → y ≡ e → from ≡ Err e → v ≡ u
    → VerdictTells from r u before → VerdictTells res r v after
verdict_passed_on {A} {B} res y e from r v u after before is same was alike t =
    subst (λ s. VerdictTells s r v after) (sym (is ∙ ap (λ d. Err d) same)) (go e (subst (λ s. VerdictTells s r u before) was t))
  where
    go : (d : DecodeError) → VerdictTells {A = B} (Err d) r u before → VerdictTells {A = A} (Err d) r v after
    go (Line n k) c = (c.0, alike ∙ c.1)
    go (Memory a) c = tt

module _ (r : Row) (l m : Lines) (n : IsNextRow r l m) (w : IsWhole r) (p : Place) (more : ℕ) where
  entry_faulty : (k : FaultKind) → entry_verdict p more (line_fields r) ≡ faulty 0 (meant k) → TellsFault (Line r.line k) l (entry_awaited p (suc more) ∷ [])
  entry_faulty k v =
      subst (λ j. TellsFault (Line j k) l (entry_awaited p (suc more) ∷ [])) (sym n.number)
      (line_faulty l m n.line (entry_awaited p (suc more)) k n.next (λ us. refl) (row_told l m r (entry_awaited p (suc more)) entry_forms (entry_goes p more) n (entry_is_row p more) ∙ v))

  pub entry_fails : {A : Type 0} (res : Result A DecodeError) (e : DecodeError) (after : A → List Awaited) → res ≡ Err e → VerdictTells res r (own_verdict p.is_fork (line_fields r)) after → TellsFault e l (entry_awaited p (suc more) ∷ [])
  entry_fails {A} res e after was v = go e (subst (λ s. VerdictTells s r (own_verdict p.is_fork (line_fields r)) after) was v)
    where
      go : (d : DecodeError) → VerdictTells {A = A} (Err d) r (own_verdict p.is_fork (line_fields r)) after → TellsFault d l (entry_awaited p (suc more) ∷ [])
      go (Line i k) c = subst (λ j. TellsFault (Line j k) l (entry_awaited p (suc more) ∷ [])) (sym c.0) (entry_faulty k (own_faulty p more (line_fields r) (meant k) c.1))
      go (Memory a) c = λ us. tt

  module _ (b : Begun) (place : IsPlace p more) (kind_is : same_text (field_at (row_fields r) 0) (codes "frame") ≡ not (is_native_begun b)) (own : own_verdict p.is_fork (line_fields r) ≡ goes_on (rest_awaited p.is_fork b)) where
    there : entry_verdict p more (line_fields r) ≡ only_if (stands p (is_native_begun b)) fault.frame (rest_awaited p.is_fork b ++ next_awaited p more (is_native_begun b) ∷ [])
    there = own_goes_on p more (line_fields r) b place (ap (λ ts. same_text (field_at ts 0) (codes "frame")) (whole_is r w) ∙ kind_is) own

    pub entry_stands : IsTrue (stands p (is_native_begun b)) → GoesOn l m (entry_awaited p (suc more) ∷ []) (rest_awaited p.is_fork b ++ next_awaited p more (is_native_begun b) ∷ [])
    entry_stands h =
        line_goes l m n.line (entry_awaited p (suc more)) (rest_awaited p.is_fork b ++ next_awaited p more (is_native_begun b) ∷ []) n.next (λ us. refl)
        (row_told l m r (entry_awaited p (suc more)) entry_forms (entry_goes p more) n (entry_is_row p more) ∙ may_stand_there (stands p (is_native_begun b)) (rest_awaited p.is_fork b ++ next_awaited p more (is_native_begun b) ∷ []) (entry_verdict p more (line_fields r)) h there)

    pub entry_stops : (e : DecodeError) → stands p (is_native_begun b) ≡ false → e ≡ row_fault r kind.Frame → TellsFault e l (entry_awaited p (suc more) ∷ [])
    entry_stops e h is =
        subst (λ d. TellsFault d l (entry_awaited p (suc more) ∷ [])) (sym (is ∙ whole_fault r kind.Frame w))
        (entry_faulty kind.Frame (may_not_stand (stands p (is_native_begun b)) (rest_awaited p.is_fork b ++ next_awaited p more (is_native_begun b) ∷ []) (entry_verdict p more (line_fields r)) h there))

module _ {A : Type 0} where
  pub tells_so : (res : Result A DecodeError) (l m : Lines) (now : List Awaited) (so : A → Bool) (b : Bool) (after : Bool → List Awaited) → IfOk res (λ x. so x ≡ b) → Tells res l m now (λ _. after b) → Tells res l m now (λ x. after (so x))
  tells_so (Ok x) l m now so b after e t = λ room. subst (λ c. GoesOn l m now (after c)) (sym e) (t room)
  tells_so (Err e) l m now so b after h t = t

  pub stands_so : (res : Result A DecodeError) (p : Place) (so : A → Bool) (b : Bool) → IfOk res (λ x. so x ≡ b) → IsTrue (stands p b) → IfOk res (λ x. IsTrue (stands p (so x)))
  stands_so (Ok x) p so b e h = subst (λ c. IsTrue (stands p c)) (sym e) h
  stands_so (Err e) p so b h k = tt

-- ---- one entry after another

pub first_is : (index : ℕ) → (index + 1 == 0) ≡ false
first_is index = let some : 0 < index + 1 = omega arith in grind (arith, nat_tests, some)

pub last_is : (index count : ℕ) → index < count → (index + 1 == count) ≡ (count - (index + 1) == 0)
last_is index count l = grind (arith, nat_tests)

pub left_is : (index count : ℕ) → index < count → count - index ≡ suc (count - (index + 1))
left_is index count l = omega (arith, l)

few_verbs : (p : Place) → IsTrue (stands p false) → p.verbs < 50
few_verbs p h = ltb-true p.verbs 50 (second_holds (not (p.is_fork && not p.is_first)) (nat_lt p.verbs 50) h)

pub verbs_on : (p : Place) (n : Bool) → IsTrue (stands p n) → (if n then p.verbs else min (p.verbs + 1) (2 ^ 32 - 1)) ≡ verbs_behind p.verbs n
verbs_on p true h = refl
verbs_on p false h = let few = few_verbs p h in omega (arith, few)

not_first : (p : Place) → IsTrue (stands p true) → p.is_first ≡ false
not_first p h = go p.is_first (first_holds (not p.is_first) (not p.is_last && not p.is_behind_native) (second_holds (not (p.is_fork && not p.is_first)) (not p.is_first && (not p.is_last && not p.is_behind_native)) h))
  where
    go : (b : Bool) → IsTrue (not b) → b ≡ false
    go true k = cc
    go false k = refl

-- a verb stands before what comes behind
pub verbs_before : (p : Place) (n : Bool) → p.is_first ≡ (p.verbs == 0) → IsTrue (stands p n) → (verbs_behind p.verbs n == 0) ≡ false
verbs_before p true f h = sym f ∙ not_first p h
verbs_before p false f h = some p.verbs
  where
    some : (v : ℕ) → (suc v == 0) ≡ false
    some v = grind (arith, nat_tests)

-- so many are left of them, behind so many verbs
abbrev pub EntriesOn : Bool → Lines → Lines → ℕ → ℕ → ℕ → Bool → Type 0
EntriesOn is_fork l m count index verbs is_behind = Goes l m (entry is_fork 0 false count ∷ []) (entry is_fork verbs is_behind (count - index) ∷ [])

pub none_entered : (is_fork : Bool) (l : Lines) (count : ℕ) → EntriesOn is_fork l l count 0 0 false
none_entered is_fork l count room = record { fault = λ more. ap (λ n. fault_left l (entry is_fork 0 false n ∷ more)) (all_left count); lines = refl; room = room }
  where
    all_left : (n : ℕ) → n ≡ n - 0
    all_left n = omega arith

module _ (is_fork : Bool) (l m : Lines) (count index verbs : ℕ) (is_behind : Bool) (on : EntriesOn is_fork l m count index verbs is_behind) where
  pub all_entered : count - index ≡ 0 → Goes l m (entry is_fork 0 false count ∷ []) []
  all_entered past room =
      let before = subst (λ n. GoesOn l m (entry is_fork 0 false count ∷ []) (entry is_fork verbs is_behind n ∷ [])) past (on room) in
      goes_then l m m (entry is_fork 0 false count ∷ []) (entry is_fork verbs is_behind 0 ∷ []) [] before (goes_alike m (entry is_fork verbs is_behind 0 ∷ []) [] (λ more. refl) before.room)

  module _ (within : index < count) where
    one_before : HasRoom l → GoesOn l m (entry is_fork 0 false count ∷ []) (entry is_fork verbs is_behind (suc (count - (index + 1))) ∷ [])
    one_before room = subst (λ n. GoesOn l m (entry is_fork 0 false count ∷ []) (entry is_fork verbs is_behind n ∷ [])) (left_is index count within) (on room)

    pub entry_failed : (e : DecodeError) → Fails e m (entry is_fork verbs is_behind (suc (count - (index + 1))) ∷ []) → Fails e l (entry is_fork 0 false count ∷ [])
    entry_failed e f room = let before = one_before room in fault_then e l m (entry is_fork 0 false count ∷ []) (entry is_fork verbs is_behind (suc (count - (index + 1))) ∷ []) before (f before.room)

    pub one_entered : (k : Lines) (more : ℕ) (native : Bool) → Goes m k (entry is_fork verbs is_behind (suc (count - (index + 1))) ∷ []) (entry is_fork more native (count - (index + 1)) ∷ []) → EntriesOn is_fork l k count (index + 1) more native
    one_entered k more native g room =
        let before = one_before room in
        goes_then l m k (entry is_fork 0 false count ∷ []) (entry is_fork verbs is_behind (suc (count - (index + 1))) ∷ []) (entry is_fork more native (count - (index + 1)) ∷ []) before (g before.room)

pub count_is : (is_fork : Bool) → IsCount (entries is_fork) (codes "entries") (λ n. entry is_fork 0 false n ∷ [])
count_is is_fork = record { told = λ t. refl; first = λ more. refl }
