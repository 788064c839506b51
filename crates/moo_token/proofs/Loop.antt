-- What the loop over the bytes needs.
use Rattle.std.proofs.Common.{◌≡◌, ℕ, zero, suc, ◌+◌, ◌-◌, ◌*◌, ◌<◌, ◌≤◌, List, [], ◌∷◌, ◌++◌, length, take, get_or, Option, Some, None, Ok, Err, refl, sym, ap, ◌∙◌, subst, arith, add-one}
use Rattle.std.specs.Prelude.{◌==◌, nat_le}
use Rattle.std.specs.Char.{is_ascii_digit}
use Rattle.std.proofs.Math.Seq.{take-suc, take-length}
use Rattle.spec_value.specs.Datum.{Text, is_character}
use Rattle.moo_token.specs.declared.token.Sign.{Sign}
use Rattle.moo_token.specs.declared.cutter.Pending.{Pending}
use Rattle.moo_token.specs.declared.cutter.Pending.TheVariants as p
use Rattle.moo_token.specs.Tokens as t
use Rattle.moo_token.specs.declared.fault.FaultKind.{FaultKind}
use Rattle.moo_token.specs.declared.cutter.CutError.{CutError}
use Rattle.moo_token.specs.declared.cutter.CutError.TheVariants as error
use Rattle.moo_token.specs.declared.cutter.Cutter.{Cutter}
use Rattle.moo_token.specs.Tokens.{is_letter, is_word, is_blank, sign_of, word_of, max_number, max_object, Place, line_after, Ending, whole, faulty, IsText}
use Rattle.moo_token.specs.Views.{places, Stepped, Finished}
use Rattle.moo_token.specs.Cutting.{State, Cut, Step, longer, signed, begin, with_token, string_fault, after_sign, step_by, step, finish, and_step, run, at_end, fresh, cut, Fits}
use Rattle.moo_token.proofs.Lists.{by_cond}
use Rattle.moo_token.proofs.Cuts.{run_stop, cut_is}
use Rattle.moo_token.proofs.Complete.{run_append, cuts}

-- a step keeps the buffer in order, and moves the line by one at most
abbrev pub Keeps : ℕ → Step → Type 0
Keeps line (Ok s) = Fits s × (s.line ≤ line + 1)
Keeps line (Err e) = Unit {0}

line_keeps : (b line : ℕ) → line_after b line ≤ line + 1
line_keeps b line = by_cond (λ n. n ≤ line + 1) (b == 10) (line + 1) line (λ _. omega arith) (λ _. omega arith)

signed_keeps : (o : Option Sign) (out : List Place) (line : ℕ) → Keeps line (signed o out line)
signed_keeps None out line = tt
signed_keeps (Some m) out line = (refl, omega arith)

begin_keeps : (b : ℕ) (out : List Place) (line : ℕ) → Keeps line (begin b out line)
begin_keeps b out line =
    let P = λ (r : Step). Keeps line r in
    by_cond P (is_letter b) _ _ (λ _. (tt, omega arith)) (λ _.
    by_cond P (is_ascii_digit b) _ _ (λ _. (refl, omega arith)) (λ _.
    by_cond P (b == 34) _ _ (λ _. (tt, omega arith)) (λ _.
    by_cond P (is_blank b) _ _ (λ _. (refl, line_keeps b line)) (λ _.
    by_cond P (b == 35) _ _ (λ _. (refl, omega arith)) (λ _.
    by_cond P (b == 38) _ _ (λ _. (refl, omega arith)) (λ _. signed_keeps (sign_of b) out line))))))

fault_keeps : (b : ℕ) (out : List Place) (line : ℕ) → Keeps line (string_fault b out line)
fault_keeps b out line = by_cond (λ (r : Step). Keeps line r) (b == 10) _ _ (λ _. tt) (λ _. tt)

sign_keeps : (o : Option Sign) (m : Sign) (b : ℕ) (out : List Place) (line : ℕ) → Keeps line (after_sign o m b out line)
sign_keeps None m b out line = begin_keeps b (with_token out (t.mark m) line) line
sign_keeps (Some n) m b out line = (refl, omega arith)

step_keeps : (b : ℕ) (q : Pending) (buffer : Text) (out : List Place) (line : ℕ) → Keeps line (step_by b q buffer out line)
step_keeps b p.Nothing buffer out line = begin_keeps b out line
step_keeps b p.InWord buffer out line = by_cond (λ (r : Step). Keeps line r) (is_word b) _ _ (λ _. (tt, omega arith)) (λ _. begin_keeps b (with_token out (word_of buffer) line) line)
step_keeps b (p.InNumber n) buffer out line =
    let P = λ (r : Step). Keeps line r in
    by_cond P (is_ascii_digit b) _ _ (λ _. by_cond P (nat_le (10 * n + (b - 48)) max_number) _ _ (λ _. (refl, omega arith)) (λ _. tt)) (λ _. begin_keeps b (with_token out (t.integer n) line) line)
step_keeps b p.AfterHash buffer out line =
    let P = λ (r : Step). Keeps line r in
    by_cond P (is_ascii_digit b) _ _ (λ _. (refl, omega arith)) (λ _. by_cond P (b == 45) _ _ (λ _. (refl, omega arith)) (λ _. tt))
step_keeps b p.AfterMinus buffer out line = by_cond (λ (r : Step). Keeps line r) (is_ascii_digit b) _ _ (λ _. (refl, omega arith)) (λ _. tt)
step_keeps b (p.InObject m n) buffer out line =
    let P = λ (r : Step). Keeps line r in
    by_cond P (is_ascii_digit b) _ _ (λ _. by_cond P (nat_le (10 * n + (b - 48)) (max_object m)) _ _ (λ _. (refl, omega arith)) (λ _. tt)) (λ _. begin_keeps b (with_token out (t.object m n) line) line)
step_keeps b p.InText buffer out line =
    let P = λ (r : Step). Keeps line r in
    by_cond P (b == 34) _ _ (λ _. (tt, omega arith)) (λ _. by_cond P (b == 92) _ _ (λ _. (tt, omega arith)) (λ _. by_cond P (is_character b) _ _ (λ _. (tt, omega arith)) (λ _. fault_keeps b out line)))
step_keeps b p.InEscape buffer out line = by_cond (λ (r : Step). Keeps line r) (is_character b) _ _ (λ _. (tt, omega arith)) (λ _. fault_keeps b out line)
step_keeps b p.AfterText buffer out line = begin_keeps b (with_token out (t.text buffer) line) line
step_keeps b p.AfterAmpersand buffer out line = by_cond (λ (r : Step). Keeps line r) (b == 38) _ _ (λ _. (refl, omega arith)) (λ _. tt)
step_keeps b (p.AfterSign m) buffer out line = sign_keeps (longer m b) m b out line

next_is : (bs : Text) (at d : ℕ) → at < length bs → take (at + 1) bs ≡ take at bs ++ get_or bs at d ∷ []
next_is bs at d h = rw add-one (take-suc bs at d h)

reached_more : (bs : Text) (at d : ℕ) (s : State) (r : Step) → at < length bs → run (Ok (fresh [] 1)) (take at bs) ≡ Ok s → step (get_or bs at d) s ≡ r → run (Ok (fresh [] 1)) (take (at + 1) bs) ≡ r
reached_more bs at d s r h e f = ap (run (Ok (fresh [] 1))) (next_is bs at d h) ∙ run_append (take at bs) (get_or bs at d ∷ []) (Ok (fresh [] 1)) ∙ ap (λ x. and_step (get_or bs at d) x) e ∙ f

pub record Invariant (bs : Text) (at : ℕ) (s : State) : Type 0 where
  pub reached : run (Ok (fresh [] 1)) (take at bs) ≡ Ok s
  pub fits : Fits s
  pub lines : s.line ≤ at + 1

pub goes_on : (bs : Text) (at d : ℕ) (s u : State) → at < length bs → Invariant bs at s → step (get_or bs at d) s ≡ Ok u → Invariant bs (at + 1) u
goes_on bs at d s u h i e =
    let k = subst (Keeps s.line) e (step_keeps (get_or bs at d) s.pending s.buffer s.out s.line) in
    record { reached = reached_more bs at d s (Ok u) h i.reached e; fits = k.0; lines = omega (arith, k.1, i.lines) }

drop_from : (bs : Text) (n : ℕ) → (rest : Text) × (take n bs ++ rest ≡ bs)
drop_from bs zero = (bs, refl)
drop_from [] (suc n) = ([], refl)
drop_from (b ∷ bs) (suc n) = let r = drop_from bs n in (r.0, ap (λ x. b ∷ x) r.1)

cut_stop : (bs : Text) (n : ℕ) (c : Cut) → run (Ok (fresh [] 1)) (take n bs) ≡ Err c → cut bs ≡ c
cut_stop bs n c h =
    let r = drop_from bs n in
    ap at_end (ap (run (Ok (fresh [] 1))) (sym r.1) ∙ run_append (take n bs) r.0 (Ok (fresh [] 1)) ∙ ap (λ x. run x r.0) h ∙ run_stop r.0 c)

pub stopped : (bs : Text) (at d : ℕ) (s : State) (c : Cut) → at < length bs → Invariant bs at s → step (get_or bs at d) s ≡ Err c → cut bs ≡ c
stopped bs at d s c h i e = cut_stop bs (at + 1) c (reached_more bs at d s (Err c) h i.reached e)

pub finished : (bs : Text) (at : ℕ) (s : State) (c : Cut) → at ≤ length bs → length bs ≤ at → Invariant bs at s → finish s.pending s.buffer s.out s.line ≡ c → cut bs ≡ c
finished bs at s c le ge i e =
    let n : at ≡ length bs = omega arith in
    ap at_end (ap (run (Ok (fresh [] 1))) (sym (ap (λ n. take n bs) n ∙ take-length bs)) ∙ i.reached) ∙ e

abbrev cut_of : Ending → List Place → Cut
cut_of e ps = record { places = ps; ending = e }

pub found : (bs : Text) (ps : List Place) (e : Ending) → cut bs ≡ cut_of e ps → IsText 1 bs ps e
found bs ps e h =
    let c = cut_is bs in
    let places = ap (λ r. r.places) (sym c.2 ∙ h) in
    let ending = ap (λ r. r.ending) (sym c.2 ∙ h) in
    subst (λ x. IsText 1 bs ps x) ending (subst (λ x. IsText 1 bs x c.1) places c.3)

pub only : (bs : Text) (ps qs : List Place) (e f : Ending) → IsText 1 bs ps e → IsText 1 bs qs f → (ps ≡ qs) × (e ≡ f)
only bs ps qs e f h k = let x = sym (cuts bs ps e h) ∙ cuts bs qs f k in (ap (λ r. r.places) x, ap (λ r. r.ending) x)

pub total : (bs : Text) → (ps : List Place) × (e : Ending) × IsText 1 bs ps e
total bs = let c = cut_is bs in (c.0, c.1, c.3)

-- what the code gives, from what the machine cut
pub record IsRight (bs : Text) (ps : List Place) (e : Ending) : Type 0 where
  pub found : IsText 1 bs ps e
  pub tokens : (qs : List Place) (f : Ending) → IsText 1 bs qs f → ps ≡ qs
  pub ending : (qs : List Place) (f : Ending) → IsText 1 bs qs f → e ≡ f

pub right : (bs : Text) (ps qs : List Place) (e f : Ending) → cut bs ≡ cut_of f qs → ps ≡ qs → e ≡ f → IsRight bs ps e
right bs ps qs e f h p q =
    let t = found bs ps e (h ∙ ap (λ x. cut_of x qs) (sym q) ∙ ap (cut_of e) (sym p)) in
    record { found = t; tokens = λ rs g k. (only bs ps rs e g t k).0; ending = λ rs g k. (only bs ps rs e g t k).1 }

pub stopped_at : (bs : Text) (at d : ℕ) (s : State) (e : CutError) (kind : FaultKind) (new : Cutter) (ps : List Place) (f : Ending) → at < length bs → Invariant bs at s → e ≡ error.Fault kind → Stepped (step (get_or bs at d) s) (Err e) new → ps ≡ places new.out.items → f ≡ faulty kind new.line → IsRight bs ps f
stopped_at bs at d s e kind new ps f h i k x p q =
    right bs ps (places new.out.items) f (faulty kind new.line) (stopped bs at d s (cut_of (faulty kind new.line) (places new.out.items)) h i (subst (λ y. Stepped (step (get_or bs at d) s) (Err y) new) k x)) p q

pub finished_at : (bs : Text) (at : ℕ) (s : State) (e : CutError) (kind : FaultKind) (new : Cutter) (ps : List Place) (f : Ending) → at ≤ length bs → length bs ≤ at → Invariant bs at s → e ≡ error.Fault kind → Finished (finish s.pending s.buffer s.out s.line) (Err e) new → ps ≡ places new.out.items → f ≡ faulty kind new.line → IsRight bs ps f
finished_at bs at s e kind new ps f le ge i k x p q =
    right bs ps (places new.out.items) f (faulty kind new.line) (finished bs at s (cut_of (faulty kind new.line) (places new.out.items)) le ge i (subst (λ y. Finished (finish s.pending s.buffer s.out s.line) (Err y) new) k x)) p q

pub ended_at : (bs : Text) (at : ℕ) (s : State) (ps : List Place) → at ≤ length bs → length bs ≤ at → Invariant bs at s → finish s.pending s.buffer s.out s.line ≡ cut_of whole ps → IsRight bs ps whole
ended_at bs at s ps le ge i x = right bs ps ps whole whole (finished bs at s (cut_of whole ps) le ge i x) refl refl
