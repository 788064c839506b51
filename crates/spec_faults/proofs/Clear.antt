-- What is known behind lines of a text that has no fault.
use Rattle.std.proofs.Common.{◌≡◌, ℕ, zero, suc, ◌-◌, ◌<◌, ◌^◌, Bool, true, false, List, [], ◌∷◌, ◌++◌, length, Option, Some, None, IsTrue, refl, ap, sym, ◌∙◌}
use Rattle.std.specs.List.{list_all}
use Rattle.spec_value.specs.Datum.{Text}
use Rattle.spec_program.specs.Tree.{Program, the_end}
use Rattle.spec_world.specs.Checkpoint as fault
use Rattle.spec_world.specs.Checkpoint.{CheckpointFault, counted}
use Rattle.spec_faults.specs.Cutting.{fields_in, is_filled}
use Rattle.spec_faults.specs.Codes.{program_of}
use Rattle.spec_faults.specs.Awaited as awaited
use Rattle.spec_faults.specs.Awaited.{Awaited, one, again, Group, group, Whose, of_verb, of_frame, code, behind_code, whole_code, Verdict, faulty, goes_on, only_if, by_fault, by_form, told, opened}
use Rattle.spec_faults.specs.Forms.{Wanted, fault_of}
use Rattle.spec_faults.specs.Faults.{LineFault, fault_at, at_last, at_line, behind_line, fault_among}
use Rattle.spec_faults.specs.FieldLaws.{is_unmarked}
use Rattle.spec_faults.proofs.ObjectsFine.{counted_told}

-- none of these lines has a fault where this is awaited, and they are all
pub record Clear (ts : List Text) (awaited : List Awaited) : Type 0 where
  pub number : ℕ
  pub none : fault_among ts [] number awaited ≡ None

same_fault : (a b : List Awaited) (ts : List Text) (n : ℕ) → opened a ≡ opened b → fault_among ts [] n a ≡ fault_among ts [] n b
same_fault a b [] n e = ap (λ o. at_last o [] n) e
same_fault a b (t ∷ ts) n e = ap (λ o. at_line o t n (λ more. fault_among ts [] (suc n) more)) e

pub clear_same : (a b : List Awaited) (ts : List Text) → opened a ≡ opened b → Clear ts a → Clear ts b
clear_same a b ts e c = record { number = c.number; none = sym (same_fault a b ts c.number e) ∙ c.none }

-- ---- one line

some_fault : (n : ℕ) (k : CheckpointFault) → fault_at n k ≡ None → ⊥
some_fault n k e = cc

module _ (a : Awaited) (more : List Awaited) (t : Text) (ts : List Text) (first : opened (a ∷ more) ≡ a ∷ more) where
  abbrev Behind : ℕ → Verdict → Option LineFault
  Behind n v = behind_line v more n (λ m. fault_among ts [] (suc n) m)

  verdict : (v : Verdict) → told a t ≡ v → (c : Clear (t ∷ ts) (a ∷ more)) → Behind c.number v ≡ None
  verdict v e c = sym (ap (λ x. at_line x t c.number (λ m. fault_among ts [] (suc c.number) m)) first ∙ ap (Behind c.number) e) ∙ c.none

  pub never : (before : ℕ) (k : CheckpointFault) → told a t ≡ faulty before k → Clear (t ∷ ts) (a ∷ more) → ⊥
  never before k e c = some_fault (c.number - before) k (verdict (faulty before k) e c)

  pub clear_line : (next : List Awaited) → told a t ≡ goes_on next → Clear (t ∷ ts) (a ∷ more) → Clear ts (next ++ more)
  clear_line next e c = record { number = suc c.number; none = verdict (goes_on next) e c }

  pub clear_only : (b : Bool) (k : CheckpointFault) (next : List Awaited) → told a t ≡ only_if b k next → Clear (t ∷ ts) (a ∷ more) → Clear ts (next ++ more)
  clear_only true k next e c = clear_line next e c
  clear_only false k next e c = absurd (never 0 k e c)

  pub clear_test : (b : Bool) (k : CheckpointFault) (next : List Awaited) → told a t ≡ only_if b k next → Clear (t ∷ ts) (a ∷ more) → IsTrue b
  clear_test true k next e c = refl
  clear_test false k next e c = absurd (never 0 k e c)

  -- its fields have no fault
  pub clear_fields : (ws : List Wanted) (us : List Text) (next : List Text → Verdict) → told a t ≡ by_form ws us next → Clear (t ∷ ts) (a ∷ more) → fault_of ws us ≡ None
  clear_fields ws us next e c = go (fault_of ws us) (verdict (by_form ws us next) e c)
    where
      go : (x : Option CheckpointFault) → Behind c.number (by_fault x us next) ≡ None → x ≡ None
      go None d = refl
      go (Some k) d = absurd (some_fault (c.number - 0) k d)

  pub clear_next : (ws : List Wanted) (us : List Text) (next : List Text → Verdict) → told a t ≡ by_form ws us next → Clear (t ∷ ts) (a ∷ more) → told a t ≡ next us
  clear_next ws us next e c = e ∙ ap (λ x. by_fault x us next) (clear_fields ws us next e c)

-- behind a line that tells nothing of what comes
pub past : {ws : List Wanted} {more : List Awaited} {t : Text} {ts : List Text} → Clear (t ∷ ts) (one ws ∷ more) → Clear ts more
past {ws} {more} {t} {ts} c = clear_line (one ws) more t ts refl [] (clear_next (one ws) more t ts refl ws (fields_in t) (λ us. goes_on []) refl c) c

pub clear_counted : (w : Text) (g : Group) (n : ℕ) (us : List Text) (more : List Awaited) → IsTrue (list_all is_unmarked w) → IsTrue (is_filled w) → n < 2 ^ 63
    → Clear (counted w n ∷ us) (awaited.counted w g ∷ more) → Clear us (again n g ∷ more)
clear_counted w g n us more h k l c = clear_line (awaited.counted w g) more (counted w n) us refl (again n g ∷ []) (counted_told w g n h k l) c

-- ---- groups of one line

abbrev pub AllClear : List Wanted → List Text → Type 0
AllClear ws [] = Unit {0}
AllClear ws (t ∷ ts) = (fault_of ws (fields_in t) ≡ None) × AllClear ws ts

pub clear_parts : (ws : List Wanted) (ts us : List Text) → AllClear ws (ts ++ us) → AllClear ws ts × AllClear ws us
clear_parts ws [] us c = (tt, c)
clear_parts ws (t ∷ ts) us c = let later = clear_parts ws ts us c.1 in ((c.0, later.0), later.1)

pub clear_group : (g : Group) (ws : List Wanted) → group g ≡ one ws ∷ [] → (ts us : List Text) (more : List Awaited) → Clear (ts ++ us) (again (length ts) g ∷ more)
    → AllClear ws ts × Clear us more
clear_group g ws e [] us more c = (tt, clear_same (again zero g ∷ more) more us refl c)
clear_group g ws e (t ∷ ts) us more c =
    let left : List Awaited = again (length ts) g ∷ more in
    let here : Clear (t ∷ (ts ++ us)) (one ws ∷ left) = clear_same (again (suc (length ts)) g ∷ more) (one ws ∷ left) (t ∷ (ts ++ us)) (ap (λ a. a ++ left) e) c in
    let later = clear_group g ws e ts us more (past here) in
    ((clear_fields (one ws) left t (ts ++ us) refl ws (fields_in t) (λ rs. goes_on []) refl here, later.0), later.1)

-- ---- programs

abbrev BehindCode : Whose → List Text → List Awaited → Type 0
BehindCode whose us more = (p : Program) × Clear us (behind_code whose p ++ more)

code_ends : (whose : Whose) (t : Text) (before us : List Text) (more : List Awaited) → Clear (t ∷ us) (code 1 before whose ∷ more) → BehindCode whose us more
code_ends whose t before us more c = go (program_of (before ++ t ∷ [])) refl
  where
    go : (o : Option Program) → program_of (before ++ t ∷ []) ≡ o → BehindCode whose us more
    go None e = absurd (never (code 1 before whose) more t us refl (length before) fault.code (ap (whole_code (length before) whose) e) c)
    go (Some p) e = (p, clear_line (code 1 before whose) more t us refl (behind_code whose p) (ap (whole_code (length before) whose) e) c)

code_goes : (whose : Whose) (t : Text) (ts before us : List Text) (more : List Awaited) → Clear (t ∷ (ts ++ us)) (code (suc (length ts)) before whose ∷ more) → BehindCode whose us more
code_goes whose t [] before us more c = code_ends whose t before us more c
code_goes whose t (u ∷ ts) before us more c =
    code_goes whose u ts (before ++ t ∷ []) us more
    (clear_line (code (suc (suc (length ts))) before whose) more t (u ∷ (ts ++ us)) refl (code (suc (length ts)) (before ++ t ∷ []) whose ∷ []) refl c)

no_code : (whose : Whose) (ts us : List Text) (more : List Awaited) → Clear us (code zero ts whose ∷ more) → Clear us (behind_code whose the_end ++ more)
no_code of_verb ts us more c = clear_same (code zero ts of_verb ∷ more) more us refl c
no_code (of_frame is_fork) ts us more c = clear_same (code zero ts (of_frame is_fork) ∷ more) (behind_code (of_frame is_fork) the_end ++ more) us refl c

pub clear_code : (whose : Whose) (ts us : List Text) (more : List Awaited) → Clear (ts ++ us) (code (length ts) [] whose ∷ more) → BehindCode whose us more
clear_code whose [] us more c = (the_end, no_code whose [] us more c)
clear_code whose (t ∷ ts) us more c = code_goes whose t ts [] us more c
