-- Readers one after another, and what comes so many times.
use Rattle.std.proofs.Common.{◌≡◌, ◌<◌, ◌+◌, ◌-◌, ℕ, zero, suc, Bool, true, false, List, [], ◌∷◌, ◌++◌, None, Result, Ok, Err, IfOk, alloc_error, refl, ap, sym, subst, ◌∙◌, arith, append_assoc}
use Rattle.spec_value.specs.Datum.{Text}
use Rattle.spec_faults.specs.Awaited.{Awaited, one, counted, again, Group, each_link, each_object, each_slot, each_verb, each_task, each_variable, group, opened, Verdict, goes_on}
use Rattle.spec_faults.specs.Faults.{at_last, at_line, fault_among}
use Rattle.spec_faults.specs.Cutting.{lines_of}
use Rattle.checkpoint_lines.specs.declared.fault.DecodeError.{DecodeError}
use Rattle.checkpoint_lines.specs.declared.fault.DecodeError.TheVariants.{Line, Memory}
use Rattle.checkpoint_lines.specs.declared.fault.FaultKind.{FaultKind}
use Rattle.checkpoint_lines.specs.declared.row.Row.{Row}
use Rattle.checkpoint_lines.specs.declared.lines.Lines.{Lines}
use Rattle.spec_faults.specs.Forms.{Wanted, fault_of}
use Rattle.checkpoint_lines.specs.Told.{HasRoom, GoesOn, TellsFault, Tells, fault_left, line_fields, row_fault, IsRow, IsNextRow, IsRowFault, RowTells, Checks, IsCount}
use Rattle.checkpoint_lines.proofs.Telling.{goes_then, goes_behind, fault_then, fault_behind, row_goes, row_faulty}

-- ---- one after another

abbrev pub Goes : Lines → Lines → List Awaited → List Awaited → Type 0
Goes l m A B = HasRoom l → GoesOn l m A B

abbrev pub Fails : DecodeError → Lines → List Awaited → Type 0
Fails e l A = HasRoom l → TellsFault e l A

-- what is read first, before what else is awaited
pub then_goes : {l m k : Lines} (A B C D : List Awaited) → Goes l m A B → Goes m k (B ++ C) D → Goes l k (A ++ C) D
then_goes {l = l} {m = m} {k = k} A B C D f g room = let first = f room in goes_then l m k (A ++ C) (B ++ C) D (goes_behind l m A B C first) (g first.room)

pub then_fails : (e : DecodeError) {l m : Lines} (A B C : List Awaited) → Goes l m A B → Fails e m (B ++ C) → Fails e l (A ++ C)
then_fails e {l = l} {m = m} A B C f g room = let first = f room in fault_then e l m (A ++ C) (B ++ C) (goes_behind l m A B C first) (g first.room)

pub first_fails : (e : DecodeError) (l : Lines) (A C : List Awaited) → Fails e l A → Fails e l (A ++ C)
first_fails e l A C f room = fault_behind e l A C (f room)

-- it is whole, and what comes behind it fails, before what else is awaited
pub later_fails : (e : DecodeError) {l m : Lines} (A B C : List Awaited) → Goes l m A [] → Fails e m B → Fails e l (A ++ (B ++ C))
later_fails e {l = l} {m = m} A B C f g = then_fails e A [] (B ++ C) f (first_fails e m B C g)

-- the reader of what comes behind it
pub tells_then : {A : Type 0} (res : Result A DecodeError) (l m k : Lines) (front B C : List Awaited) (after : A → List Awaited) → Goes l m front B → Tells res m k (B ++ C) after → Tells res l k (front ++ C) after
tells_then (Ok x) l m k front B C after f t = then_goes front B C (after x) f t
tells_then (Err e) l m k front B C after f t = then_fails e front B C f t

-- ---- errors that are passed on

pub passed_on : {A : Type 0} (res : Result A DecodeError) (y e : DecodeError) (l m : Lines) (awaited : List Awaited) (after : A → List Awaited)
    → res ≡ Err y → y ≡ e → Fails e l awaited → Tells res l m awaited after
passed_on res y e l m awaited after is same f = subst (λ s. Tells s l m awaited after) (sym is) (subst (λ x. Fails x l awaited) (sym same) f)

pub no_memory : {A : Type 0} (res : Result A DecodeError) (y : DecodeError) (l m : Lines) (awaited : List Awaited) (after : A → List Awaited)
    → res ≡ Err y → y ≡ Memory alloc_error → Tells res l m awaited after
no_memory res y l m awaited after is same = passed_on res y (Memory alloc_error) l m awaited after is same (λ room more. tt)

-- ---- rows

pub one_row : (ws : List Wanted) → IsRow (one ws) (λ _. ws) (λ _. goes_on [])
one_row ws = record { told = λ t. refl; first = λ more. refl }

pub row_read : {A : Type 0} (res : Result A DecodeError) (l m : Lines) (r : Row) (a : Awaited) (ws : List Wanted) (next : List Text → Verdict) (after : A → List Awaited) → IsRow a (λ _. ws) next
    → (HasRoom l → IsNextRow r l m × (RowTells res r ws × IfOk res (λ x. next (line_fields r) ≡ goes_on (after x)))) → Tells res l m (a ∷ []) after
row_read (Ok x) l m r a ws next after is f = λ room. let it = f room in row_goes l m r a (λ _. ws) next (after x) it.0 is it.1.0 it.1.1
row_read (Err e) l m r a ws next after is f = λ room. let it = f room in row_faulty e l m r a (λ _. ws) next it.0 is it.1.0

-- a fault of a row that is passed on
pub row_fails : {A : Type 0} (res : Result A DecodeError) (y e : DecodeError) (r : Row) (ws : List Wanted) → res ≡ Err y → y ≡ e → IsRowFault e r (fault_of ws (line_fields r)) → RowTells res r ws
row_fails res y e r ws is same f = subst (λ s. RowTells s r ws) (sym is) (subst (λ x. IsRowFault x r (fault_of ws (line_fields r))) (sym same) f)

pub one_fails_in_row : {A : Type 0} (res : Result A DecodeError) (y e : DecodeError) (l m k : Lines) (r : Row) (ws : List Wanted) (after : A → List Awaited) → res ≡ Err y → y ≡ e
    → (HasRoom l → IsNextRow r l m × IsRowFault e r (fault_of ws (line_fields r))) → Tells res l k (one ws ∷ []) after
one_fails_in_row res y e l m k r ws after is same f =
    passed_on res y e l k (one ws ∷ []) after is same (λ room. let it = f room in row_faulty e l m r (one ws) (λ _. ws) (λ _. goes_on []) it.0 (one_row ws) it.1)

pub one_stands : (l m : Lines) (r : Row) (ws : List Wanted) → (HasRoom l → IsNextRow r l m × (fault_of ws (line_fields r) ≡ None)) → Goes l m (one ws ∷ []) []
one_stands l m r ws f room = let it = f room in row_goes l m r (one ws) (λ _. ws) (λ _. goes_on []) [] it.0 (one_row ws) it.1 refl

pub checks_same : {A : Type 0} (res : Result A DecodeError) (r : Row) (k : FaultKind) (s t : Bool) → s ≡ t → Checks res r k s → Checks res r k t
checks_same res r k s t e c = subst (λ b. Checks res r k b) e c

pub checks_passed : {A B : Type 0} (res : Result A DecodeError) (from : Result B DecodeError) (y e : DecodeError) (r : Row) (k : FaultKind) (test : Bool) → res ≡ Err y → y ≡ e → from ≡ Err e
    → Checks from r k test → Checks res r k test
checks_passed res (Ok x) y e r k test is same was c = cc
checks_passed res (Err (Memory a)) y e r k test is same was c =
    let whole : res ≡ Err (Memory a) = cc in
    subst (λ s. Checks s r k test) (sym whole) tt
checks_passed res (Err (Line n j)) y e r k test is same was c =
    let whole : res ≡ Err (Line n j) = cc in
    subst (λ s. Checks s r k test) (sym whole) c

pub checks_fail : {A : Type 0} (res : Result A DecodeError) (e : DecodeError) (r : Row) (k : FaultKind) (test : Bool) → res ≡ Err e → e ≡ row_fault r k → test ≡ false → Checks res r k test
checks_fail res e r k test is same fails =
    let whole : res ≡ Err (row_fault r k) = cc in
    subst (λ s. Checks s r k test) (sym whole) (fails, refl)

abbrev pub failed : DecodeError → Result ℕ DecodeError
failed e = Err e

-- a row whose fields are read by one reader
pub row_by_check : {A : Type 0} (res : Result A DecodeError) (r : Row) (k : FaultKind) (ws : List Wanted) (test : Bool) → Checks res r k test
    → ((e : DecodeError) → res ≡ Err e → IsRowFault e r (fault_of ws (line_fields r))) → (test ≡ true → fault_of ws (line_fields r) ≡ None) → RowTells res r ws
row_by_check (Ok x) r k ws test c fails stands = stands c
row_by_check (Err e) r k ws test c fails stands = fails e refl

pub if_always : {A : Type 0} (res : Result A DecodeError) (P : A → Type 0) → ((x : A) → P x) → IfOk res P
if_always (Ok x) P h = h x
if_always (Err e) P h = tt

pub if_map : {A : Type 0} (res : Result A DecodeError) (P Q : A → Type 0) → IfOk res P → ((x : A) → P x → Q x) → IfOk res Q
if_map (Ok x) P Q h f = f x h
if_map (Err e) P Q h f = tt

-- ---- counts

pub count_row : (w : Text) (g : Group) → IsCount (counted w g) w (λ n. again n g ∷ [])
count_row w g = record { told = λ t. refl; first = λ more. refl }

-- ---- so many times

-- what comes first of it is the same
pub same_fault : (a b : List Awaited) (ts : List Text) (rest : Text) (n : ℕ) → opened a ≡ opened b → fault_among ts rest n a ≡ fault_among ts rest n b
same_fault a b [] rest n e = ap (λ o. at_last o rest n) e
same_fault a b (t ∷ ts) rest n e = ap (λ o. at_line o t n (λ more. fault_among ts rest (suc n) more)) e

same_left : (l : Lines) (a b : List Awaited) → opened a ≡ opened b → fault_left l a ≡ fault_left l b
same_left l a b e = same_fault a b (lines_of l.left.now).lines (lines_of l.left.now).rest (suc l.count) e

-- a group begins with a line
group_opens : (g : Group) (more : List Awaited) → opened (group g ++ more) ≡ group g ++ more
group_opens each_link more = refl
group_opens each_object more = refl
group_opens each_slot more = refl
group_opens each_verb more = refl
group_opens each_task more = refl
group_opens each_variable more = refl

pub once_more : (l : Lines) (n : ℕ) (g : Group) → Goes l l (again (suc n) g ∷ []) (group g ++ (again n g ∷ []))
once_more l n g room =
    record {
      fault = λ more. same_left l (again (suc n) g ∷ more) ((group g ++ (again n g ∷ [])) ++ more) (sym (group_opens g (again n g ∷ more)) ∙ sym (ap opened (append_assoc (group g) (again n g ∷ []) more)));
      lines = refl;
      room = room;
    }

pub no_more : (l : Lines) (g : Group) → Goes l l (again zero g ∷ []) []
no_more l g room = record { fault = λ more. same_left l (again zero g ∷ more) more refl; lines = refl; room = room }

-- so many are left of them
abbrev pub Counts : Lines → Lines → ℕ → ℕ → Group → Type 0
Counts l m count i g = Goes l m (again count g ∷ []) (again (count - i) g ∷ [])

same_goes : (l m : Lines) (A B C : List Awaited) → B ≡ C → Goes l m A B → Goes l m A C
same_goes l m A B C e f = subst (λ X. Goes l m A X) e f

pub none_yet : (l : Lines) (count : ℕ) (g : Group) → Counts l l count 0 g
none_yet l count g room = record { fault = λ more. ap (λ n. fault_left l (again n g ∷ more)) (all_left count); lines = refl; room = room }
  where
    all_left : (n : ℕ) → n ≡ n - 0
    all_left n = omega arith

pub one_of_them : (l m k : Lines) (count i : ℕ) (g : Group) → i < count → Counts l m count i g → Goes m k (group g) [] → Counts l k count (i + 1) g
one_of_them l m k count i g within f next room =
    let some : count - i ≡ suc (count - (i + 1)) = omega arith in
    let before = subst (λ n. GoesOn l m (again count g ∷ []) (again n g ∷ [])) some (f room) in
    goes_then l m k (again count g ∷ []) (again (suc (count - (i + 1))) g ∷ []) (again (count - (i + 1)) g ∷ []) before
    (goes_then m m k (again (suc (count - (i + 1))) g ∷ []) (group g ++ (again (count - (i + 1)) g ∷ [])) (again (count - (i + 1)) g ∷ []) (once_more m (count - (i + 1)) g before.room)
    (goes_behind m k (group g) [] (again (count - (i + 1)) g ∷ []) (next before.room)))

pub one_fails : (e : DecodeError) (l m : Lines) (count i : ℕ) (g : Group) → i < count → Counts l m count i g → Fails e m (group g) → Fails e l (again count g ∷ [])
one_fails e l m count i g within f next room =
    let some : count - i ≡ suc (count - (i + 1)) = omega arith in
    let before = subst (λ n. GoesOn l m (again count g ∷ []) (again n g ∷ [])) some (f room) in
    fault_then e l m (again count g ∷ []) (again (suc (count - (i + 1))) g ∷ []) before
    (fault_then e m m (again (suc (count - (i + 1))) g ∷ []) (group g ++ (again (count - (i + 1)) g ∷ [])) (once_more m (count - (i + 1)) g before.room)
    (fault_behind e m (group g) (again (count - (i + 1)) g ∷ []) (next before.room)))

pub all_of_them : (l m : Lines) (count i : ℕ) (g : Group) → count - i ≡ 0 → Counts l m count i g → Goes l m (again count g ∷ []) []
all_of_them l m count i g past f room =
    let before = subst (λ n. GoesOn l m (again count g ∷ []) (again n g ∷ [])) past (f room) in
    goes_then l m m (again count g ∷ []) (again zero g ∷ []) [] before (no_more m g before.room)
