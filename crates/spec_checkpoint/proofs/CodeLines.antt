-- With what a line of a program can end: no `d`, no digit and no brace.
use Rattle.std.proofs.Common.{ℕ, List, [], ◌∷◌, ◌++◌, IsTrue, Bool, false, not, ◌||◌, ◌==◌, refl, sym, subst, codes}
use Rattle.std.specs.List.{list_all}
use Rattle.std.proofs.lemmas.List.Folds.{list_all-append}
use Rattle.spec_value.specs.Datum.{Text}
use Rattle.spec_value.proofs.Entries.{both_hold}
use Rattle.spec_program.specs.Names.{is_digit}
use Rattle.spec_program.specs.Tree.{Statement, evaluate, give, give_zero, branch, for_each, for_range, repeat, fork, guarded, finished, leave_loop, next_turn, Program, the_end, seq, Branches, no_branches, on, Otherwise, no_else, else_do, Arms, no_arms, except}
use Rattle.spec_program.specs.Spelling.{expression_text, codes_text, within, before_name, head, deeper, statement_lines, program_lines, branches_lines, otherwise_lines, arms_lines, canonical_lines}

abbrev pub is_last : ℕ → Bool
is_last c = not (c == 100 || (is_digit c || c == 125))

-- the last character passes a test
abbrev pub last_is : (ℕ → Bool) → Text → Bool
last_is test [] = false
last_is test (c ∷ []) = test c
last_is test (c ∷ d ∷ t) = last_is test (d ∷ t)

grown : (test : ℕ → Bool) (c : ℕ) (t : Text) → IsTrue (last_is test t) → IsTrue (last_is test (c ∷ t))
grown test c [] h = cc
grown test c (d ∷ t) h = h

pub last_behind : (test : ℕ → Bool) (a b : Text) → IsTrue (last_is test b) → IsTrue (last_is test (a ++ b))
last_behind test [] b h = h
last_behind test (c ∷ a) b h = grown test c (a ++ b) (last_behind test a b h)

abbrev pub closes : Text → Bool
closes t = last_is is_last t

-- a line that ends otherwise
abbrev pub leaves_open : Text → Bool
leaves_open t = last_is (λ c. not (is_last c)) t

pub open_is_not_closed : (t : Text) → IsTrue (leaves_open t) → IsTrue (not (closes t))
open_is_not_closed [] h = cc
open_is_not_closed (c ∷ []) h = h
open_is_not_closed (c ∷ d ∷ t) h = open_is_not_closed (d ∷ t) h

abbrev pub are_closed : List Text → Bool
are_closed ts = list_all closes ts

closes_behind : (a b : Text) → IsTrue (closes b) → IsTrue (closes (a ++ b))
closes_behind = last_behind is_last

pub all_both : {A : Type 0} (test : A → Bool) (xs ys : List A) → IsTrue (list_all test xs) → IsTrue (list_all test ys) → IsTrue (list_all test (xs ++ ys))
all_both test xs ys h k = subst (λ b. IsTrue b) (sym (list_all-append test xs ys)) (both_hold (list_all test xs) (list_all test ys) h k)

closed_both : (ts us : List Text) → IsTrue (are_closed ts) → IsTrue (are_closed us) → IsTrue (are_closed (ts ++ us))
closed_both = all_both closes

-- a line, and lines behind it
closed_on : (t : Text) (ts : List Text) → IsTrue (closes t) → IsTrue (are_closed ts) → IsTrue (are_closed (t ∷ ts))
closed_on t ts = both_hold (closes t) (are_closed ts)

end_word : (indent word : Text) → IsTrue (closes word) → IsTrue (are_closed ((indent ++ word) ∷ []))
end_word indent word h = closed_on (indent ++ word) [] (closes_behind indent word h) refl

head_closes : (word e : Text) → IsTrue (closes (head word e))
head_closes word e = closes_behind word (32 ∷ 40 ∷ (e ++ 41 ∷ [])) (closes_behind (32 ∷ 40 ∷ e) (41 ∷ []) refl)

head_line : (indent word e : Text) → IsTrue (closes (indent ++ head word e))
head_line indent word e = closes_behind indent (head word e) (head_closes word e)

mutual
  statement_closed : (indent : Text) (s : Statement) → IsTrue (are_closed (statement_lines indent s))
  statement_closed indent (evaluate e) = end_word indent (expression_text e ++ codes ";") (closes_behind (expression_text e) (codes ";") refl)
  statement_closed indent (give e) = end_word indent (within (codes "return ") (expression_text e) (codes ";")) (closes_behind (codes "return " ++ expression_text e) (codes ";") refl)
  statement_closed indent give_zero = end_word indent (codes "return;") refl
  statement_closed indent (branch bs q) =
      closed_both (branches_lines indent (codes "if") bs) (otherwise_lines indent q ++ (indent ++ codes "endif") ∷ []) (branches_closed indent (codes "if") bs)
      (closed_both (otherwise_lines indent q) ((indent ++ codes "endif") ∷ []) (otherwise_closed indent q) (end_word indent (codes "endif") refl))
  statement_closed indent (for_each x e p) =
      let line : Text = codes "for " ++ head (x ++ codes " in") (expression_text e) in
      closed_on (indent ++ line) (program_lines (deeper indent) p ++ (indent ++ codes "endfor") ∷ [])
      (closes_behind indent line (closes_behind (codes "for ") (head (x ++ codes " in") (expression_text e)) (head_closes (x ++ codes " in") (expression_text e))))
      (closed_both (program_lines (deeper indent) p) ((indent ++ codes "endfor") ∷ []) (program_closed (deeper indent) p) (end_word indent (codes "endfor") refl))
  statement_closed indent (for_range x a b p) =
      let bounds : Text = within (expression_text a) (codes "..") (expression_text b) in
      let line : Text = codes "for " ++ (x ++ within (codes " in [") bounds (codes "]")) in
      closed_on (indent ++ line) (program_lines (deeper indent) p ++ (indent ++ codes "endfor") ∷ [])
      (closes_behind indent line
      (closes_behind (codes "for ") (x ++ within (codes " in [") bounds (codes "]"))
      (closes_behind x (within (codes " in [") bounds (codes "]")) (closes_behind (codes " in [") (bounds ++ codes "]") (closes_behind bounds (codes "]") refl)))))
      (closed_both (program_lines (deeper indent) p) ((indent ++ codes "endfor") ∷ []) (program_closed (deeper indent) p) (end_word indent (codes "endfor") refl))
  statement_closed indent (repeat x c p) =
      closed_on (indent ++ head (codes "while" ++ before_name x) (expression_text c)) (program_lines (deeper indent) p ++ (indent ++ codes "endwhile") ∷ [])
      (head_line indent (codes "while" ++ before_name x) (expression_text c))
      (closed_both (program_lines (deeper indent) p) ((indent ++ codes "endwhile") ∷ []) (program_closed (deeper indent) p) (end_word indent (codes "endwhile") refl))
  statement_closed indent (fork x e p) =
      closed_on (indent ++ head (codes "fork" ++ before_name x) (expression_text e)) (program_lines (deeper indent) p ++ (indent ++ codes "endfork") ∷ [])
      (head_line indent (codes "fork" ++ before_name x) (expression_text e))
      (closed_both (program_lines (deeper indent) p) ((indent ++ codes "endfork") ∷ []) (program_closed (deeper indent) p) (end_word indent (codes "endfork") refl))
  statement_closed indent (guarded p arms) =
      closed_on (indent ++ codes "try") (program_lines (deeper indent) p ++ (arms_lines indent arms ++ (indent ++ codes "endtry") ∷ [])) (closes_behind indent (codes "try") refl)
      (closed_both (program_lines (deeper indent) p) (arms_lines indent arms ++ (indent ++ codes "endtry") ∷ []) (program_closed (deeper indent) p)
      (closed_both (arms_lines indent arms) ((indent ++ codes "endtry") ∷ []) (arms_closed indent arms) (end_word indent (codes "endtry") refl)))
  statement_closed indent (finished p q) =
      let later : List Text = program_lines (deeper indent) q ++ (indent ++ codes "endtry") ∷ [] in
      closed_on (indent ++ codes "try") (program_lines (deeper indent) p ++ ((indent ++ codes "finally") ∷ later)) (closes_behind indent (codes "try") refl)
      (closed_both (program_lines (deeper indent) p) ((indent ++ codes "finally") ∷ later) (program_closed (deeper indent) p)
      (closed_on (indent ++ codes "finally") later (closes_behind indent (codes "finally") refl)
      (closed_both (program_lines (deeper indent) q) ((indent ++ codes "endtry") ∷ []) (program_closed (deeper indent) q) (end_word indent (codes "endtry") refl))))
  statement_closed indent (leave_loop x) = end_word indent (within (codes "break") (before_name x) (codes ";")) (closes_behind (codes "break" ++ before_name x) (codes ";") refl)
  statement_closed indent (next_turn x) = end_word indent (within (codes "continue") (before_name x) (codes ";")) (closes_behind (codes "continue" ++ before_name x) (codes ";") refl)

  program_closed : (indent : Text) (p : Program) → IsTrue (are_closed (program_lines indent p))
  program_closed indent the_end = refl
  program_closed indent (seq s more) = closed_both (statement_lines indent s) (program_lines indent more) (statement_closed indent s) (program_closed indent more)

  branches_closed : (indent word : Text) (bs : Branches) → IsTrue (are_closed (branches_lines indent word bs))
  branches_closed indent word no_branches = refl
  branches_closed indent word (on c p more) =
      closed_on (indent ++ head word (expression_text c)) (program_lines (deeper indent) p ++ branches_lines indent (codes "elseif") more) (head_line indent word (expression_text c))
      (closed_both (program_lines (deeper indent) p) (branches_lines indent (codes "elseif") more) (program_closed (deeper indent) p) (branches_closed indent (codes "elseif") more))

  otherwise_closed : (indent : Text) (q : Otherwise) → IsTrue (are_closed (otherwise_lines indent q))
  otherwise_closed indent no_else = refl
  otherwise_closed indent (else_do p) =
      closed_on (indent ++ codes "else") (program_lines (deeper indent) p) (closes_behind indent (codes "else") refl) (program_closed (deeper indent) p)

  arms_closed : (indent : Text) (arms : Arms) → IsTrue (are_closed (arms_lines indent arms))
  arms_closed indent no_arms = refl
  arms_closed indent (except x c p more) =
      closed_on (indent ++ head (codes "except" ++ before_name x) (codes_text c)) (program_lines (deeper indent) p ++ arms_lines indent more)
      (head_line indent (codes "except" ++ before_name x) (codes_text c))
      (closed_both (program_lines (deeper indent) p) (arms_lines indent more) (program_closed (deeper indent) p) (arms_closed indent more))

pub code_closed : (p : Program) → IsTrue (are_closed (canonical_lines p))
code_closed p = program_closed [] p
