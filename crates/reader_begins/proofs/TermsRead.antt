-- The six steps of the machine past an operator and an integer that is its whole right operand.
use Rattle.std.proofs.Common.{◌≡◌, ℕ, Bool, true, false, not, ◌&&◌, List, ◌∷◌, if◌then◌else◌, Option, Some, refl, sym, ap, ◌∙◌, subst}
use Rattle.std.specs.Prelude.{nat_le, IfSome}
use Rattle.spec_program.specs.Tokens as t
use Rattle.spec_program.specs.Tokens.{Token, Sign, Placed}
use Rattle.spec_program.specs.Spelling.{operator_level, right_level}
use Rattle.spec_program.specs.Moves.{is_tight}
use Rattle.spec_program.specs.ReadExpressions as by
use Rattle.spec_program.specs.ReadExpressions.{Found, Operand, whole}
use Rattle.spec_program.specs.Frames as f
use Rattle.spec_program.specs.Frames.{an_expression, an_operand, Frames, push}
use Rattle.spec_reader.specs.Next.{found, reads_expression, reads_steps, reads_operators, State, goes}
use Rattle.spec_reader.specs.Begins.{operand_by, joint_by, if_tight}
use Rattle.spec_reader.specs.Step.{step}
use Rattle.spec_reader.specs.Whole.{after}
use Rattle.moo_value.specs.Operators.{binary_of}
use Rattle.moo_value.specs.declared.operator.BinaryOperator.{BinaryOperator as CodeOperator}
use Rattle.reader_begins.specs.declared.term.Term.{Term}
use Rattle.reader_begins.specs.Joints.{joint_next}
use Rattle.reader_begins.specs.Steps.{is_step}
use Rattle.reader_begins.specs.Terms.{integer_at, with_term, TermRead, TermBefore}
use Rattle.reader_begins.proofs.Ends.{no_step_there}
use Rattle.reader_begins.proofs.TakenJoints.{operators_taken}

six : (s0 s1 s2 s3 s4 s5 s6 : State) → step s0 ≡ s1 → step s1 ≡ s2 → step s2 ≡ s3 → step s3 ≡ s4 → step s4 ≡ s5 → step s5 ≡ s6 → after 6 s0 ≡ s6
unfolding after
six s0 s1 s2 s3 s4 s5 s6 a b c d e g = ap (after 5) a ∙ ap (after 4) b ∙ ap (after 3) c ∙ ap (after 2) d ∙ ap (after 1) e ∙ g

loose : (b : Bool) (k : ℕ) (a : Found) (fs : Frames an_expression) (r : Placed) (us : List Placed) → is_tight k (by.joint r.token) ≡ false
    → step (goes (reads_operators b k a fs) (r ∷ us)) ≡ goes (found fs a) (r ∷ us)
loose b k a fs r us h =
    operators_taken b k a fs (r ∷ us)
    ∙ ap (λ c. goes (joint_next b k a fs (if c then by.joint r.token else by.no_joint)) (if c then us else r ∷ us)) h

term_read : (k : ℕ) (x : Term) (p q r : Placed) (us : List Placed) → by.joint p.token ≡ by.operator (binary_of x.operator)
    → nat_le k (operator_level (binary_of x.operator)) ≡ true → q.token ≡ t.integer x.number → q.line ≡ x.line → is_step r.token ≡ false
    → is_tight (right_level (binary_of x.operator)) (by.joint r.token) ≡ false → TermRead k (p ∷ q ∷ r ∷ us) x (r ∷ us)
term_read k x p q r us h i j g l n b a fs =
    let op = binary_of x.operator in
    let w = right_level op in
    let gs = push (f.right_of b k a (f.by_operator op)) fs in
    let hs = push (f.value_behind b w) gs in
    let c = integer_at x.number x.line in
    six (goes (reads_operators b k a fs) (p ∷ q ∷ r ∷ us)) (goes (reads_expression b w gs) (q ∷ r ∷ us)) (goes (reads_steps b (whole c) hs) (r ∷ us))
    (goes (found hs (whole c)) (r ∷ us)) (goes (reads_operators b w c gs) (r ∷ us)) (goes (found gs c) (r ∷ us))
    (goes (reads_operators b k (with_term a x) fs) (r ∷ us))
    (ap (λ y. joint_by b k a fs y (q ∷ r ∷ us) (p ∷ q ∷ r ∷ us)) h
    ∙ ap (λ y. if_tight y (reads_expression b w gs) (found fs a) (q ∷ r ∷ us) (p ∷ q ∷ r ∷ us)) i)
    (ap (λ y. operand_by b w hs y q.line (r ∷ us) (q ∷ r ∷ us)) j
    ∙ ap (λ y. goes (reads_steps b (whole (integer_at x.number y)) hs) (r ∷ us)) g)
    (no_step_there b (whole c) hs (r ∷ us) l)
    refl
    (loose b w c gs r us n)
    refl

both : (a b : Bool) → (not a && not b) ≡ true → (a ≡ false) × (b ≡ false)
both false false h = (refl, refl)
both false true h = absurd (cc)
both true b h = absurd (cc)

pub term_before : (k : ℕ) (x : Term) (p q r : Placed) → by.joint p.token ≡ by.operator (binary_of x.operator)
    → nat_le k (operator_level (binary_of x.operator)) ≡ true → q.token ≡ t.integer x.number → q.line ≡ x.line
    → (not (is_step r.token) && not (is_tight (right_level (binary_of x.operator)) (by.joint r.token))) ≡ true → TermBefore k p q r x
term_before k x p q r h i j g l us =
    let e = both (is_step r.token) (is_tight (right_level (binary_of x.operator)) (by.joint r.token)) l in
    term_read k x p q r us h i j g e.0 e.1

-- as the tests of the code tell it
pub term_from : {ro : Option CodeOperator} {rn : Option ℕ} {j : by.Joint} {w : ℕ} {c : Bool} (k : ℕ) (x : Term) (p q r : Placed)
    → ro ≡ Some x.operator → rn ≡ Some x.number → j ≡ by.joint p.token
    → IfSome ro (λ o. j ≡ by.operator (binary_of o)) → IfSome ro (λ o. nat_le k (operator_level (binary_of o)) ≡ true)
    → IfSome rn (λ n. q.token ≡ t.integer n) → q.line ≡ x.line → w ≡ right_level (binary_of x.operator)
    → c ≡ (not (is_step r.token) && not (is_tight w (by.joint r.token))) → c ≡ true → TermBefore k p q r x
term_from {j = j} k x p q r e d jp ho hi hn hl hw hc ht =
    let o = subst (λ z. IfSome z (λ o. j ≡ by.operator (binary_of o))) e ho in
    let i = subst (λ z. IfSome z (λ o. nat_le k (operator_level (binary_of o)) ≡ true)) e hi in
    let n = subst (λ z. IfSome z (λ n. q.token ≡ t.integer n)) d hn in
    term_before k x p q r (sym jp ∙ o) i n hl
    (ap (λ w. not (is_step r.token) && not (is_tight w (by.joint r.token))) (sym hw) ∙ sym hc ∙ ht)
