-- What a task's own line is told as.
use Rattle.std.proofs.Common.{◌≡◌, ℕ, suc, ◌<◌, ◌≤◌, ◌^◌, ◌==◌, ◌&&◌, nat_le, ℤ, pos, negsuc, int_le, Bool, true, false, not, List, [], ◌∷◌, length, Option, Some, None, Result, Err, IsTrue, refl, ap, sym, subst, ◌∙◌, codes, if◌then◌else◌, arith}
use Rattle.std.proofs.lemmas.Bool.Decides.{nat_tests}
use Rattle.std.specs.List.{list_all}
use Rattle.std.specs.Fmt.{decimal, signed_decimal}
use Rattle.spec_value.specs.Datum.{Text, same_text, in_number_range}
use Rattle.spec_value.proofs.Entries.{first_holds, second_holds}
use Rattle.spec_value.proofs.Same.{same_texts}
use Rattle.spec_faults.specs.Cutting.{field_at, is_filled}
use Rattle.spec_faults.specs.Plain.{passes, number_of, integer_of, is_number, is_integer}
use Rattle.spec_faults.specs.Literals.{is_literal, any}
use Rattle.spec_faults.specs.Forms.{Wanted, word, task_id, moment, literal, connection, is_other_word, is_misspelt, is_no_value, one_is, has_form, fault_of, form_among, or_else, task_forms}
use Rattle.spec_faults.specs.Awaited.{Verdict, goes_on, is_fork_line, task}
use Rattle.spec_faults.proofs.Spelling.{numbers_spelled, numbers_told, integers_spelled, integers_told}
use Rattle.checkpoint_lines.specs.Rows.{row_fields}
use Rattle.checkpoint_lines.specs.Told.{line_fields, row_fault, IsRow, Checks, RowTells}
use Rattle.checkpoint_lines.specs.declared.fault.DecodeError.{DecodeError}
use Rattle.checkpoint_lines.specs.declared.fault.FaultKind.TheVariants as kind
use Rattle.checkpoint_lines.specs.declared.row.Row.{Row}
use Rattle.checkpoint_lines.proofs.Telling.{same_word}
use Rattle.task_lines.specs.declared.waiting.Manner.{Manner}
use Rattle.task_lines.specs.declared.waiting.Manner.TheVariants.{Fork, Wait, Idle, Read}
use Rattle.task_lines.specs.Manners.{manner_in, fields_of}
use Rattle.task_lines.specs.Verdicts.{IsWhole}
use Rattle.task_lines.specs.Awaiting.{form_of, manner_forks, MannerTells, behind_own}
use Rattle.task_lines.proofs.Telling.{form_length, whole_is}
use Rattle.task_lines.proofs.RowForms.{wanted_at, one_at, none_of, no_form_at, form_is, no_word_turned, last_number, whole_none}
use Rattle.task_lines.proofs.EntryTold.{has_word, headed_by_none}

-- ---- its word

abbrev pub word_of : Manner → Text
word_of Fork = codes "fork"
word_of Wait = codes "wait"
word_of Idle = codes "idle"
word_of Read = codes "read"

same_manner : (m n : Manner) → Some m ≡ Some n → m ≡ n
same_manner m n e = cc

pub manner_is : (t : Text) (m : Manner) → manner_in t ≡ Some m → t ≡ word_of m
manner_is t m e = go (same_text t (codes "fork")) (same_text t (codes "wait")) (same_text t (codes "idle")) (same_text t (codes "read")) refl refl refl refl e
  where
    so : (n : Manner) → same_text t (word_of n) ≡ true → Some n ≡ Some m → t ≡ word_of m
    so n h is = subst (λ k. t ≡ word_of k) (same_manner n m is) (same_texts t (word_of n) h)

    go : (a b c d : Bool) → same_text t (codes "fork") ≡ a → same_text t (codes "wait") ≡ b → same_text t (codes "idle") ≡ c → same_text t (codes "read") ≡ d
        → (if a then Some Fork else if b then Some Wait else if c then Some Idle else if d then Some Read else None) ≡ Some m → t ≡ word_of m
    go true b c d f w i r is = so Fork f is
    go false true c d f w i r is = so Wait w is
    go false false true d f w i r is = so Idle i is
    go false false false true f w i r is = so Read r is
    go false false false false f w i r is = cc

pub no_manner_is : (t : Text) → manner_in t ≡ None → (m : Manner) → same_text t (word_of m) ≡ false
no_manner_is t e = go (same_text t (codes "fork")) (same_text t (codes "wait")) (same_text t (codes "idle")) (same_text t (codes "read")) refl refl refl refl e
  where
    by : same_text t (codes "fork") ≡ false → same_text t (codes "wait") ≡ false → same_text t (codes "idle") ≡ false → same_text t (codes "read") ≡ false → (m : Manner) → same_text t (word_of m) ≡ false
    by f w i r Fork = f
    by f w i r Wait = w
    by f w i r Idle = i
    by f w i r Read = r

    go : (a b c d : Bool) → same_text t (codes "fork") ≡ a → same_text t (codes "wait") ≡ b → same_text t (codes "idle") ≡ c → same_text t (codes "read") ≡ d
        → (if a then Some Fork else if b then Some Wait else if c then Some Idle else if d then Some Read else None) ≡ None → (m : Manner) → same_text t (word_of m) ≡ false
    go true b c d f w i r is = absurd (cc (is))
    go false true c d f w i r is = absurd (cc (is))
    go false false true d f w i r is = absurd (cc (is))
    go false false false true f w i r is = absurd (cc (is))
    go false false false false f w i r is = by f w i r

-- ---- its form

-- another word stands there
no_form_word : (m : Manner) (ts : List Text) → not (same_text (word_of m) (field_at ts 2)) ≡ true → has_form (form_of m) ts ≡ false
no_form_word Fork ts h = no_form_at (form_of Fork) ts 2 (omega arith) h
no_form_word Wait ts h = no_form_at (form_of Wait) ts 2 (omega arith) h
no_form_word Idle ts h = no_form_at (form_of Idle) ts 2 (omega arith) h
no_form_word Read ts h = no_form_at (form_of Read) ts 2 (omega arith) h

no_form_headed : (m : Manner) (ts : List Text) → has_word (codes "task") (fields_of m) ts ≡ false → has_form (form_of m) ts ≡ false
no_form_headed Fork ts h = headed_by_none (codes "task") (task_id ∷ word (codes "fork") ∷ moment ∷ []) ts h
no_form_headed Wait ts h = headed_by_none (codes "task") (task_id ∷ word (codes "wait") ∷ moment ∷ literal ∷ []) ts h
no_form_headed Idle ts h = headed_by_none (codes "task") (task_id ∷ word (codes "idle") ∷ []) ts h
no_form_headed Read ts h = headed_by_none (codes "task") (task_id ∷ word (codes "read") ∷ connection ∷ []) ts h

forms_by : (ts : List Text) (f w i r : Bool) → has_form (form_of Fork) ts ≡ f → has_form (form_of Wait) ts ≡ w → has_form (form_of Idle) ts ≡ i → has_form (form_of Read) ts ≡ r
    → form_among task_forms ts ≡ or_else f (form_of Fork) (or_else w (form_of Wait) (or_else i (form_of Idle) (or_else r (form_of Read) [])))
forms_by ts f w i r a b c d = λ j. or_else (a j) (form_of Fork) (or_else (b j) (form_of Wait) (or_else (c j) (form_of Idle) (or_else (d j) (form_of Read) [])))

-- of two ways to wait each has its word
other_form : (m n : Manner) (ts : List Text) → field_at ts 2 ≡ word_of m → not (same_text (word_of n) (word_of m)) ≡ true → has_form (form_of n) ts ≡ false
other_form m n ts is apart = no_form_word n ts (ap (λ t. not (same_text (word_of n) t)) is ∙ apart)

pub manner_form : (m : Manner) (ts : List Text) → field_at ts 2 ≡ word_of m → has_form (form_of m) ts ≡ true → form_among task_forms ts ≡ form_of m
manner_form Fork ts is h = forms_by ts true false false false h (other_form Fork Wait ts is refl) (other_form Fork Idle ts is refl) (other_form Fork Read ts is refl)
manner_form Wait ts is h = forms_by ts false true false false (other_form Wait Fork ts is refl) h (other_form Wait Idle ts is refl) (other_form Wait Read ts is refl)
manner_form Idle ts is h = forms_by ts false false true false (other_form Idle Fork ts is refl) (other_form Idle Wait ts is refl) h (other_form Idle Read ts is refl)
manner_form Read ts is h = forms_by ts false false false true (other_form Read Fork ts is refl) (other_form Read Wait ts is refl) (other_form Read Idle ts is refl) h

pub no_manner_form : (m : Manner) (ts : List Text) → field_at ts 2 ≡ word_of m → has_word (codes "task") (fields_of m) ts ≡ false → form_among task_forms ts ≡ []
no_manner_form Fork ts is h = forms_by ts false false false false (no_form_headed Fork ts h) (other_form Fork Wait ts is refl) (other_form Fork Idle ts is refl) (other_form Fork Read ts is refl)
no_manner_form Wait ts is h = forms_by ts false false false false (other_form Wait Fork ts is refl) (no_form_headed Wait ts h) (other_form Wait Idle ts is refl) (other_form Wait Read ts is refl)
no_manner_form Idle ts is h = forms_by ts false false false false (other_form Idle Fork ts is refl) (other_form Idle Wait ts is refl) (no_form_headed Idle ts h) (other_form Idle Read ts is refl)
no_manner_form Read ts is h = forms_by ts false false false false (other_form Read Fork ts is refl) (other_form Read Wait ts is refl) (other_form Read Idle ts is refl) (no_form_headed Read ts h)

pub none_named : (ts : List Text) → manner_in (field_at ts 2) ≡ None → form_among task_forms ts ≡ []
none_named ts e =
    let none : (m : Manner) → has_form (form_of m) ts ≡ false = λ m. no_form_word m ts (no_word_turned (field_at ts 2) (word_of m) (no_manner_is (field_at ts 2) e m)) in
    forms_by ts false false false false (none Fork) (none Wait) (none Idle) (none Read)

as_many : (ts : List Text) (n : ℕ) (w : Text) → has_word w n ts ≡ true → length ts ≡ suc n
as_many ts n w h = same (first_holds (length ts == suc n) (same_text (field_at ts 0) w) h)
  where
    same : (length ts == suc n) ≡ true → length ts ≡ suc n
    same e = grind (arith, nat_tests)

pub manner_has : (m : Manner) (ts : List Text) → field_at ts 2 ≡ word_of m → has_word (codes "task") (fields_of m) ts ≡ true → IsTrue (list_all is_filled ts) → has_form (form_of m) ts ≡ true
manner_has m ts is h filled = go m is h
  where
    is_task : (n : ℕ) → has_word (codes "task") n ts ≡ true → not (same_text (codes "task") (field_at ts 0)) ≡ false
    is_task n k = same_word (codes "task") (field_at ts 0) (same_texts (field_at ts 0) (codes "task") (second_holds (length ts == suc n) (same_text (field_at ts 0) (codes "task")) k))

    go : (m : Manner) → field_at ts 2 ≡ word_of m → has_word (codes "task") (fields_of m) ts ≡ true → has_form (form_of m) ts ≡ true
    go Fork e k = form_is (form_of Fork) ts (first_holds (length ts == 4) (same_text (field_at ts 0) (codes "task")) k) filled
        (none_of is_other_word (form_of Fork) 4 ts (as_many ts 3 (codes "task") k) (is_task 3 k, (refl, (same_word (codes "fork") (field_at ts 2) e, (refl, tt)))))
    go Wait e k = form_is (form_of Wait) ts (first_holds (length ts == 5) (same_text (field_at ts 0) (codes "task")) k) filled
        (none_of is_other_word (form_of Wait) 5 ts (as_many ts 4 (codes "task") k) (is_task 4 k, (refl, (same_word (codes "wait") (field_at ts 2) e, (refl, (refl, tt))))))
    go Idle e k = form_is (form_of Idle) ts (first_holds (length ts == 3) (same_text (field_at ts 0) (codes "task")) k) filled
        (none_of is_other_word (form_of Idle) 3 ts (as_many ts 2 (codes "task") k) (is_task 2 k, (refl, (same_word (codes "idle") (field_at ts 2) e, tt))))
    go Read e k = form_is (form_of Read) ts (first_holds (length ts == 4) (same_text (field_at ts 0) (codes "task")) k) filled
        (none_of is_other_word (form_of Read) 4 ts (as_many ts 3 (codes "task") k) (is_task 3 k, (refl, (same_word (codes "read") (field_at ts 2) e, (refl, tt)))))

pub forks_so : (m : Manner) (ts : List Text) → field_at ts 2 ≡ word_of m → is_fork_line ts ≡ manner_forks m
forks_so Fork ts is = ap (λ t. same_text t (codes "fork")) is
forks_so Wait ts is = ap (λ t. same_text t (codes "fork")) is
forks_so Idle ts is = ap (λ t. same_text t (codes "fork")) is
forks_so Read ts is = ap (λ t. same_text t (codes "fork")) is

-- ---- what its fields say

pub id_misspelt : (m : Manner) (ts : List Text) → has_form (form_of m) ts ≡ true → is_number 1 2147483584 (field_at ts 1) ≡ false → one_is is_misspelt (form_of m) ts ≡ true
id_misspelt m ts h f = go m (form_length (form_of m) ts h)
  where
    go : (m : Manner) → length ts ≡ length (form_of m) → one_is is_misspelt (form_of m) ts ≡ true
    go Fork e = one_at is_misspelt (form_of Fork) ts 1 e (omega arith) (ap not f)
    go Wait e = one_at is_misspelt (form_of Wait) ts 1 e (omega arith) (ap not f)
    go Idle e = one_at is_misspelt (form_of Idle) ts 1 e (omega arith) (ap not f)
    go Read e = one_at is_misspelt (form_of Read) ts 1 e (omega arith) (ap not f)

module _ (ts : List Text) (id : is_number 1 2147483584 (field_at ts 1) ≡ true) where
  pub fork_spelt : length ts ≡ 4 → is_number 0 2147483647 (field_at ts 3) ≡ true → one_is is_misspelt (form_of Fork) ts ≡ false
  fork_spelt e due = none_of is_misspelt (form_of Fork) 4 ts e (refl, (ap not id, (refl, (ap not due, tt))))

  pub wait_spelt : length ts ≡ 5 → is_number 0 2147483647 (field_at ts 3) ≡ true → one_is is_misspelt (form_of Wait) ts ≡ false
  wait_spelt e due = none_of is_misspelt (form_of Wait) 5 ts e (refl, (ap not id, (refl, (ap not due, (refl, tt)))))

  pub idle_spelt : length ts ≡ 3 → one_is is_misspelt (form_of Idle) ts ≡ false
  idle_spelt e = none_of is_misspelt (form_of Idle) 3 ts e (refl, (ap not id, (refl, tt)))

  pub read_spelt : length ts ≡ 4 → is_integer (pos 1) (pos 999999) (field_at ts 3) ≡ true → one_is is_misspelt (form_of Read) ts ≡ false
  read_spelt e on = none_of is_misspelt (form_of Read) 4 ts e (refl, (ap not id, (refl, (ap not on, tt))))

pub fork_values : (ts : List Text) → length ts ≡ 4 → one_is is_no_value (form_of Fork) ts ≡ false
fork_values ts e = none_of is_no_value (form_of Fork) 4 ts e (refl, (refl, (refl, (refl, tt))))

pub idle_values : (ts : List Text) → length ts ≡ 3 → one_is is_no_value (form_of Idle) ts ≡ false
idle_values ts e = none_of is_no_value (form_of Idle) 3 ts e (refl, (refl, (refl, tt)))

pub read_values : (ts : List Text) → length ts ≡ 4 → one_is is_no_value (form_of Read) ts ≡ false
read_values ts e = none_of is_no_value (form_of Read) 4 ts e (refl, (refl, (refl, (refl, tt))))

pub wait_values : (ts : List Text) → length ts ≡ 5 → is_literal any (field_at ts 4) ≡ true → one_is is_no_value (form_of Wait) ts ≡ false
wait_values ts e v = none_of is_no_value (form_of Wait) 5 ts e (refl, (refl, (refl, (refl, (ap not v, tt)))))

pub fork_misspelt : (ts : List Text) → length ts ≡ 4 → is_number 0 2147483647 (field_at ts 3) ≡ false → one_is is_misspelt (form_of Fork) ts ≡ true
fork_misspelt ts e f = one_at is_misspelt (form_of Fork) ts 3 e (omega arith) (ap not f)

pub wait_misspelt : (ts : List Text) → length ts ≡ 5 → is_number 0 2147483647 (field_at ts 3) ≡ false → one_is is_misspelt (form_of Wait) ts ≡ true
wait_misspelt ts e f = one_at is_misspelt (form_of Wait) ts 3 e (omega arith) (ap not f)

pub wait_no_value : (ts : List Text) → length ts ≡ 5 → is_literal any (field_at ts 4) ≡ false → one_is is_no_value (form_of Wait) ts ≡ true
wait_no_value ts e f = one_at is_no_value (form_of Wait) ts 4 e (omega arith) (ap not f)

pub read_misspelt : (ts : List Text) → length ts ≡ 4 → is_integer (pos 1) (pos 999999) (field_at ts 3) ≡ false → one_is is_misspelt (form_of Read) ts ≡ true
read_misspelt ts e f = one_at is_misspelt (form_of Read) ts 3 e (omega arith) (ap not f)

-- ---- a number as an integer

passing : {A : Type 0} (test : A → Bool) (o : Option A) → passes test o ≡ true → (x : A) × (o ≡ Some x) × (test x ≡ true)
passing test None h = cc
passing test (Some x) h = (x, refl, h)

int_small : (most n : ℕ) → most < 2 ^ 31 → (int_le (pos 1) (pos n) && int_le (pos n) (pos most)) ≡ true → (nat_le 1 n && nat_le n most) ≡ true
int_small most n l h = h

within : (most n : ℕ) → most < 2 ^ 31 → (nat_le 1 n && nat_le n most) ≡ true → n < 2 ^ 31
within most n l h = let s = second_holds (nat_le 1 n) (nat_le n most) h in grind (arith, nat_tests)

fits : (n : ℕ) → n < 2 ^ 31 → IsTrue (in_number_range (pos n))
fits n l = grind (arith, nat_tests)

same_truth : (a b : Bool) → (a ≡ true → b ≡ true) → (b ≡ true → a ≡ true) → a ≡ b
same_truth true b f g = sym (f refl)
same_truth false true f g = g refl
same_truth false false f g = refl

-- in a range from 1 on
pub integer_number : (most : ℕ) (t : Text) → most < 2 ^ 31 → is_integer (pos 1) (pos most) t ≡ is_number 1 most t
integer_number most t l = same_truth (is_integer (pos 1) (pos most) t) (is_number 1 most t) on back
  where
    of : (z : ℤ) → integer_of t ≡ Some z → (int_le (pos 1) z && int_le z (pos most)) ≡ true → is_number 1 most t ≡ true
    of (pos n) e h =
        let small = within most n l h in
        ap (passes (λ k. nat_le 1 k && nat_le k most)) (ap number_of (sym (integers_spelled t (pos n) e).spelled) ∙ numbers_told n (omega (arith, small))) ∙ h
    of (negsuc n) e h = cc

    on : is_integer (pos 1) (pos most) t ≡ true → is_number 1 most t ≡ true
    on h = let p = passing (λ z. int_le (pos 1) z && int_le z (pos most)) (integer_of t) h in of p.0 p.1 p.2

    back : is_number 1 most t ≡ true → is_integer (pos 1) (pos most) t ≡ true
    back h =
        let p = passing (λ k. nat_le 1 k && nat_le k most) (number_of t) h in
        ap (passes (λ z. int_le (pos 1) z && int_le z (pos most))) (ap integer_of (sym (numbers_spelled t p.0 p.1)) ∙ integers_told (pos p.0) (fits p.0 (within most p.0 l p.2))) ∙ p.2

pub task_is_row : IsRow task (form_among task_forms) (λ ts. goes_on (behind_own (is_fork_line ts)))
task_is_row = record { told = λ t. refl; first = λ more. refl }

-- ---- how it waits

module _ {A : Type 0} (res : Result A DecodeError) (r : Row) (w : IsWhole r) (id : is_number 1 2147483584 (field_at (row_fields r) 1) ≡ true) where
  pub fork_tells : has_form (form_of Fork) (row_fields r) ≡ true → Checks res r kind.Number (is_number 0 2147483647 (field_at (row_fields r) 3)) → RowTells res r (form_of Fork)
  fork_tells h t =
      let many = form_length (form_of Fork) (row_fields r) h in
      last_number r (form_of Fork) w res (is_number 0 2147483647 (field_at (row_fields r) 3)) t h (fork_misspelt (row_fields r) many) (fork_spelt (row_fields r) id many) (fork_values (row_fields r) many)

  pub read_tells : has_form (form_of Read) (row_fields r) ≡ true → Checks res r kind.Number (is_integer (pos 1) (pos 999999) (field_at (row_fields r) 3)) → RowTells res r (form_of Read)
  read_tells h t =
      let many = form_length (form_of Read) (row_fields r) h in
      last_number r (form_of Read) w res (is_integer (pos 1) (pos 999999) (field_at (row_fields r) 3)) t h (read_misspelt (row_fields r) many) (read_spelt (row_fields r) id many) (read_values (row_fields r) many)

pub idle_none : (r : Row) → IsWhole r → is_number 1 2147483584 (field_at (row_fields r) 1) ≡ true → has_form (form_of Idle) (row_fields r) ≡ true → fault_of (form_of Idle) (line_fields r) ≡ None
idle_none r w id h =
    let many = form_length (form_of Idle) (row_fields r) h in whole_none r (form_of Idle) w h (idle_spelt (row_fields r) id many) (idle_values (row_fields r) many)

pub behind_waiting : (r : Row) (b c : Bool) → IsWhole r → is_fork_line (row_fields r) ≡ b → c ≡ b → goes_on (behind_own (is_fork_line (line_fields r))) ≡ goes_on (behind_own c)
behind_waiting r b c w is same = ap (λ ts. goes_on (behind_own (is_fork_line ts))) (whole_is r w) ∙ ap (λ d. goes_on (behind_own d)) (is ∙ sym same)

pub manner_fails : (res : Result Manner DecodeError) (e : DecodeError) (r : Row) → res ≡ Err e → MannerTells res r → (form_among task_forms (row_fields r) ≡ []) × (e ≡ row_fault r kind.Line)
manner_fails res e r was t = subst (λ s. MannerTells s r) was t
