-- What a reader tells of the lines of a program.
use Rattle.std.proofs.Common.{◌≡◌, ℕ, zero, suc, ◌+◌, ◌-◌, ◌<◌, min, List, [], ◌∷◌, ◌++◌, length, Option, Some, None, Result, Err, IsTrue, refl, ap, sym, subst, ◌∙◌, arith, append_assoc, length-append}
use Rattle.spec_value.specs.Datum.{Text}
use Rattle.spec_program.specs.Tree.{Program, the_end}
use Rattle.spec_world.specs.Checkpoint as fault
use Rattle.spec_world.specs.Checkpoint.{with_line_ends}
use Rattle.spec_checkpoint.specs.Lines.{are_lines}
use Rattle.spec_faults.specs.Cutting.{lines_of}
use Rattle.spec_faults.specs.Codes.{program_of}
use Rattle.spec_faults.specs.Awaited.{Awaited, code, Whose, of_verb, of_frame, behind_code, whole_code, opened}
use Rattle.spec_faults.specs.Faults.{fault_at, behind_line, fault_among}
use Rattle.spec_faults.proofs.Spelling.{programs_told}
use Rattle.checkpoint_lines.specs.declared.fault.DecodeError.{DecodeError}
use Rattle.checkpoint_lines.specs.declared.lines.Lines.{Lines}
use Rattle.checkpoint_lines.specs.Told.{IsFault, fault_left, lines_in, HasRoom, GoesOn, Tells, AreNext, AreOver}
use Rattle.checkpoint_lines.proofs.Going.{same_fault}

-- ---- so many lines of it

code_told : (t : Text) (ts us : List Text) (r : Text) (n : ℕ) (before : List Text) (whose : Whose) (more : List Awaited)
    → fault_among ((t ∷ ts) ++ us) r n (code (suc (length ts)) before whose ∷ more)
    ≡ behind_line (whole_code (length before + length ts) whose (program_of (before ++ t ∷ ts))) more (n + length ts) (λ a. fault_among us r (suc (n + length ts)) a)
code_told t [] us r n before whose more =
    let same : length before ≡ length before + 0 = omega arith in
    let at : n ≡ n + 0 = omega arith in
    ap (λ b. behind_line (whole_code b whose (program_of (before ++ t ∷ []))) more n (λ a. fault_among us r (suc n) a)) same
    ∙ ap (λ i. behind_line (whole_code (length before + 0) whose (program_of (before ++ t ∷ []))) more i (λ a. fault_among us r (suc i) a)) at
code_told t (u ∷ ts) us r n before whose more =
    let longer = length-append before (t ∷ []) in
    let same : length (before ++ t ∷ []) + length ts ≡ length before + suc (length ts) = omega arith in
    let at : suc n + length ts ≡ n + suc (length ts) = omega arith in
    code_told u ts us r (suc n) (before ++ t ∷ []) whose more
    ∙ ap (λ b. behind_line (whole_code b whose (program_of ((before ++ t ∷ []) ++ u ∷ ts))) more (suc n + length ts) (λ a. fault_among us r (suc (suc n + length ts)) a)) same
    ∙ ap (λ ws. behind_line (whole_code (length before + suc (length ts)) whose (program_of ws)) more (suc n + length ts) (λ a. fault_among us r (suc (suc n + length ts)) a)) (append_assoc before (t ∷ []) (u ∷ ts))
    ∙ ap (λ i. behind_line (whole_code (length before + suc (length ts)) whose (program_of (before ++ t ∷ u ∷ ts))) more i (λ a. fault_among us r (suc i) a)) at

-- fewer are left
code_over : (us : List Text) (r : Text) (n k : ℕ) (before : List Text) (whose : Whose) (more : List Awaited) → length us < k
    → fault_among us r n (code k before whose ∷ more) ≡ fault_at (n + length us) fault.ended
code_over us r n zero before whose more l = absurd (omega arith)
code_over [] r n (suc k) before whose more l = let at : n ≡ n + 0 = omega arith in ap (λ i. fault_at i fault.ended) at
code_over (t ∷ us) r n (suc zero) before whose more l = absurd (omega arith)
code_over (t ∷ us) r n (suc (suc k)) before whose more l =
    let at : suc n + length us ≡ n + suc (length us) = omega arith in
    code_over us r (suc n) (suc k) (before ++ t ∷ []) whose more (omega arith) ∙ ap (λ i. fault_at i fault.ended) at

-- ---- none of it

no_code : (whose : Whose) (more : List Awaited) → opened (code 0 [] whose ∷ more) ≡ opened (behind_code whose the_end ++ more)
no_code of_verb more = refl
no_code (of_frame is_fork) more = refl

none_is_end : program_of [] ≡ Some the_end
none_is_end = programs_told the_end refl

-- ---- what is read

code_goes : (l m : Lines) (n : ℕ) (whose : Whose) (p : Program) (ts : List Text) → length ts ≡ n
    → lines_of l.left.now ≡ record { lines = ts ++ (lines_of m.left.now).lines; rest = (lines_of m.left.now).rest } → m.count ≡ l.count + n → HasRoom m → program_of ts ≡ Some p
    → GoesOn l m (code n [] whose ∷ []) (behind_code whose p)
code_goes l m n whose p ts many cut count room is =
    let all = ap (λ k. length k.lines) cut in
    let sum = length-append ts (lines_of m.left.now).lines in
    record {
      fault = λ more. ap (λ k. fault_among k.lines k.rest (suc l.count) (code n [] whose ∷ more)) cut
          ∙ ap (λ i. fault_among (ts ++ (lines_of m.left.now).lines) (lines_of m.left.now).rest (suc l.count) (code i [] whose ∷ more)) (sym many)
          ∙ go ts (count ∙ ap (λ i. l.count + i) (sym many)) is more;
      lines = omega arith;
      room = room;
    }
  where
    go : (us : List Text) → m.count ≡ l.count + length us → program_of us ≡ Some p → (more : List Awaited)
        → fault_among (us ++ (lines_of m.left.now).lines) (lines_of m.left.now).rest (suc l.count) (code (length us) [] whose ∷ more) ≡ fault_left m (behind_code whose p ++ more)
    go [] at is more =
        let same : the_end ≡ p = cc (none_is_end, is) in
        let here : l.count ≡ m.count = omega arith in
        same_fault (code 0 [] whose ∷ more) (behind_code whose the_end ++ more) (lines_of m.left.now).lines (lines_of m.left.now).rest (suc l.count) (no_code whose more)
        ∙ ap (λ q. fault_among (lines_of m.left.now).lines (lines_of m.left.now).rest (suc l.count) (behind_code whose q ++ more)) same
        ∙ ap (λ i. fault_among (lines_of m.left.now).lines (lines_of m.left.now).rest (suc i) (behind_code whose p ++ more)) here
    go (u ∷ us) at is more =
        let here : suc l.count + length us ≡ m.count = omega arith in
        code_told u us (lines_of m.left.now).lines (lines_of m.left.now).rest (suc l.count) [] whose more
        ∙ ap (λ o. behind_line (whole_code (0 + length us) whose o) more (suc l.count + length us) (λ a. fault_among (lines_of m.left.now).lines (lines_of m.left.now).rest (suc (suc l.count + length us)) a)) is
        ∙ ap (λ i. fault_among (lines_of m.left.now).lines (lines_of m.left.now).rest (suc i) (behind_code whose p ++ more)) here

pub program_goes : (l m : Lines) (text : Text) (n : ℕ) (whose : Whose) (p : Program) (found : Option Program) → (HasRoom l → AreNext text n l m)
    → ((ts : List Text) → IsTrue (are_lines ts) → text ≡ with_line_ends ts → found ≡ program_of ts) → found ≡ Some p → HasRoom l → GoesOn l m (code n [] whose ∷ []) (behind_code whose p)
program_goes l m text n whose p found next told is room =
    let x = next room in
    code_goes l m n whose p x.lines x.many x.cut x.count x.room (sym (told x.lines x.are x.text) ∙ is)

code_fails : (l m : Lines) (n : ℕ) (whose : Whose) (ts : List Text) (more : List Awaited) → length ts ≡ n
    → lines_of l.left.now ≡ record { lines = ts ++ (lines_of m.left.now).lines; rest = (lines_of m.left.now).rest } → program_of ts ≡ None
    → fault_left l (code n [] whose ∷ more) ≡ fault_at (suc l.count) fault.code
code_fails l m n whose ts more many cut is =
    ap (λ k. fault_among k.lines k.rest (suc l.count) (code n [] whose ∷ more)) cut
    ∙ ap (λ i. fault_among (ts ++ (lines_of m.left.now).lines) (lines_of m.left.now).rest (suc l.count) (code i [] whose ∷ more)) (sym many)
    ∙ go ts is
  where
    go : (us : List Text) → program_of us ≡ None
        → fault_among (us ++ (lines_of m.left.now).lines) (lines_of m.left.now).rest (suc l.count) (code (length us) [] whose ∷ more) ≡ fault_at (suc l.count) fault.code
    go [] is = absurd (cc (none_is_end, is))
    go (u ∷ us) is =
        let here : (suc l.count + length us) - (0 + length us) ≡ suc l.count = omega arith in
        code_told u us (lines_of m.left.now).lines (lines_of m.left.now).rest (suc l.count) [] whose more
        ∙ ap (λ o. behind_line (whole_code (0 + length us) whose o) more (suc l.count + length us) (λ a. fault_among (lines_of m.left.now).lines (lines_of m.left.now).rest (suc (suc l.count + length us)) a)) is
        ∙ ap (λ i. fault_at i fault.code) here

pub program_fails : (l m : Lines) (text : Text) (n line : ℕ) (whose : Whose) (found : Option Program) → (HasRoom l → AreNext text n l m)
    → ((ts : List Text) → IsTrue (are_lines ts) → text ≡ with_line_ends ts → found ≡ program_of ts) → found ≡ None → line ≡ min (l.count + 1) 18446744073709551615
    → HasRoom l → (more : List Awaited) → fault_left l (code n [] whose ∷ more) ≡ fault_at line fault.code
program_fails l m text n line whose found next told is count room more =
    let x = next room in
    let at : suc l.count ≡ line = omega arith in
    code_fails l m n whose x.lines more x.many x.cut (sym (told x.lines x.are x.text) ∙ is) ∙ ap (λ i. fault_at i fault.code) at

-- fewer lines are left
pub program_over : {A : Type 0} (res : Result A DecodeError) (e d : DecodeError) (l m : Lines) (n : ℕ) (whose : Whose) (after : A → List Awaited) → res ≡ Err d → d ≡ e → (HasRoom l → AreOver e n l)
    → Tells res l m (code n [] whose ∷ []) after
program_over res e d l m n whose after was is over =
    subst (λ s. Tells s l m (code n [] whose ∷ []) after) (sym was)
    (λ room more.
    let o = over room in
    let at : suc l.count + length (lines_of l.left.now).lines ≡ suc (lines_in l) = omega arith in
    subst (λ f. IsFault f (fault_left l (code n [] whose ∷ more))) (sym (is ∙ o.error))
    (code_over (lines_of l.left.now).lines (lines_of l.left.now).rest (suc l.count) n [] whose more o.fewer ∙ ap (λ i. fault_at i fault.ended) at))
