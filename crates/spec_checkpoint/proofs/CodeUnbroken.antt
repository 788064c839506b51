-- No line end stands within a line of a program.
use Rattle.std.proofs.Common.{ℕ, suc, pos, negsuc, List, [], ◌∷◌, ◌++◌, IsTrue, Bool, true, false, ◌&&◌, if◌then◌else◌, nat_le, refl, codes, Option, Some, None}
use Rattle.spec_value.specs.Datum as value
use Rattle.spec_value.specs.Datum.{Text, is_text, is_character, ErrorCode, no_error, type_mismatch, zero_division, permission_denied, property_not_found, verb_not_found, variable_not_found, invalid_indirection, recursive_move, too_many_calls, range_error, wrong_argument_count, move_refused, invalid_argument, limit_exceeded, float_error, Datum, Data, no_data, item, is_value, are_values}
use Rattle.spec_value.specs.Operators.{UnaryOperator, negation, not_true, BinaryOperator, plus, minus, times, divided_by, remainder_by, to_the, equals, differs, less, less_or_equal, greater, greater_or_equal, is_in}
use Rattle.spec_value.proofs.Entries.{first_holds, second_holds}
use Rattle.spec_program.specs.Names.{is_digit}
use Rattle.spec_program.specs.Names as names
use Rattle.spec_program.specs.Tree.{Expr, literal, variable, own_length, unary, binary, both, either, conditional, listing, call, property, verb_call, index, range, caught, assignment, scatter, Arguments, no_arguments, argument, splice, Codes, any_code, codes_in, Fallback, the_code, instead, Target, to_variable, to_property, to_index, to_range, Items, no_items, required, optional, remaining, defaulted, Statement, evaluate, give, give_zero, branch, for_each, for_range, repeat, fork, guarded, finished, leave_loop, next_turn, Program, the_end, seq, Branches, no_branches, on, Otherwise, no_else, else_do, Arms, no_arms, except}
use Rattle.spec_program.specs.Spelling.{level, left_level, right_level, unary_sign, binary_sign, within, in_parentheses, at_level, literal_text, plain_name, is_system, dotted, expression_text, arguments_text, further_arguments, codes_text, fallback_text, target_text, items_text, further_items, before_name, head, deeper, statement_lines, program_lines, branches_lines, otherwise_lines, arms_lines, canonical_lines}
use Rattle.spec_program.specs.Trees.{is_name, may_name, is_literal, has_item, rest_once, has_argument, goes_on, expr_fits, arguments_fit, codes_fit, fallback_fits, target_fits, items_fit, is_around, has_branch, has_arm, statement_fits, program_fits, branches_fit, otherwise_fits, arms_fit, is_tree}
use Rattle.spec_checkpoint.specs.Lines.{is_line, are_lines}
use Rattle.spec_checkpoint.proofs.ValuesUnbroken.{line_then, lines_then, line_on, decimal_line, signed_line, text_line, quoted_line, error_line, name_line, before_line}

-- ---- parts of expressions

in_line : (t : Text) → IsTrue (is_line t) → IsTrue (is_line (in_parentheses t))
in_line t h = line_then t (codes ")") h refl

within_line : (a t b : Text) → IsTrue (is_line a) → IsTrue (is_line t) → IsTrue (is_line b) → IsTrue (is_line (within a t b))
within_line a t b f g h = line_then a (t ++ b) f (line_then t b g h)

at_line : (wanted own : ℕ) (t : Text) → IsTrue (is_line t) → IsTrue (is_line (at_level wanted own t))
at_line wanted own t h = go (nat_le wanted own)
  where
    go : (b : Bool) → IsTrue (is_line (if b then t else in_parentheses t))
    go true = h
    go false = in_line t h

abbrev may_be_line : Option Text → Bool
may_be_line None = true
may_be_line (Some t) = is_line t

plain_line : (b : Bool) (p : Expr) → IsTrue (expr_fits b p) → IsTrue (may_be_line (plain_name p))
plain_line b (literal (value.text t)) h = go (names.is_identifier t)
  where
    go : (b : Bool) → IsTrue (may_be_line (if b then Some t else None))
    go true = text_line t h
    go false = refl
plain_line b _ h = refl

dotted_line : (sign o : Text) (system : Bool) (name : Option Text) (spelled : Text) → IsTrue (is_line sign) → IsTrue (is_line o) → IsTrue (may_be_line name) → IsTrue (is_line spelled)
    → IsTrue (is_line (dotted sign o system name spelled))
dotted_line sign o true (Some t) spelled f g h k = h
dotted_line sign o true None spelled f g h k = line_then o (sign ++ in_parentheses spelled) g (line_then sign (in_parentheses spelled) f (in_line spelled k))
dotted_line sign o false (Some t) spelled f g h k = line_then o (sign ++ t) g (line_then sign t f h)
dotted_line sign o false None spelled f g h k = line_then o (sign ++ in_parentheses spelled) g (line_then sign (in_parentheses spelled) f (in_line spelled k))

literal_text_line : (v : Datum) → IsTrue (is_literal v) → IsTrue (is_line (literal_text v))
literal_text_line (value.integer (pos n)) h = decimal_line n
literal_text_line (value.integer (negsuc n)) h = decimal_line (suc n)
literal_text_line (value.object z) h = signed_line z
literal_text_line (value.text t) h = quoted_line t h
literal_text_line (value.error e) h = error_line e
literal_text_line (value.list xs) h = cc

unary_line : (u : UnaryOperator) → IsTrue (is_line (unary_sign u))
unary_line negation = refl
unary_line not_true = refl

binary_line : (op : BinaryOperator) → IsTrue (is_line (binary_sign op))
binary_line plus = refl
binary_line minus = refl
binary_line times = refl
binary_line divided_by = refl
binary_line remainder_by = refl
binary_line to_the = refl
binary_line equals = refl
binary_line differs = refl
binary_line less = refl
binary_line less_or_equal = refl
binary_line greater = refl
binary_line greater_or_equal = refl
binary_line is_in = refl

-- ---- expressions

mutual
  expression_line : (e : Expr) (b : Bool) → IsTrue (expr_fits b e) → IsTrue (is_line (expression_text e))
  expression_line (literal v) b h = literal_text_line v h
  expression_line (variable x) b h = name_line x h
  expression_line own_length b h = refl
  expression_line (unary u a) b h = line_then (unary_sign u) (at_level 7 (level a) (expression_text a)) (unary_line u) (at_line 7 (level a) (expression_text a) (expression_line a b h))
  expression_line (binary op x y) b h =
      within_line (at_level (left_level op) (level x) (expression_text x)) (binary_sign op) (at_level (right_level op) (level y) (expression_text y))
      (at_line (left_level op) (level x) (expression_text x) (expression_line x b (first_holds (expr_fits b x) (expr_fits b y) h))) (binary_line op)
      (at_line (right_level op) (level y) (expression_text y) (expression_line y b (second_holds (expr_fits b x) (expr_fits b y) h)))
  expression_line (both x y) b h =
      within_line (at_level 2 (level x) (expression_text x)) (codes " && ") (at_level 3 (level y) (expression_text y))
      (at_line 2 (level x) (expression_text x) (expression_line x b (first_holds (expr_fits b x) (expr_fits b y) h))) refl
      (at_line 3 (level y) (expression_text y) (expression_line y b (second_holds (expr_fits b x) (expr_fits b y) h)))
  expression_line (either x y) b h =
      within_line (at_level 2 (level x) (expression_text x)) (codes " || ") (at_level 3 (level y) (expression_text y))
      (at_line 2 (level x) (expression_text x) (expression_line x b (first_holds (expr_fits b x) (expr_fits b y) h))) refl
      (at_line 3 (level y) (expression_text y) (expression_line y b (second_holds (expr_fits b x) (expr_fits b y) h)))
  expression_line (conditional c x y) b h =
      let k = second_holds (expr_fits b c) (expr_fits b x && expr_fits b y) h in
      let later : Text = codes " | " ++ at_level 1 (level y) (expression_text y) in
      line_then (at_level 2 (level c) (expression_text c)) (within (codes " ? ") (expression_text x) later)
      (at_line 2 (level c) (expression_text c) (expression_line c b (first_holds (expr_fits b c) (expr_fits b x && expr_fits b y) h)))
      (within_line (codes " ? ") (expression_text x) later refl (expression_line x b (first_holds (expr_fits b x) (expr_fits b y) k))
      (at_line 1 (level y) (expression_text y) (expression_line y b (second_holds (expr_fits b x) (expr_fits b y) k))))
  expression_line (listing es) b h = within_line (codes "{") (arguments_text es) (codes "}") refl (arguments_line es b h) refl
  expression_line (call f es) b h =
      line_then f (in_parentheses (arguments_text es)) (name_line f (first_holds (is_name f) (arguments_fit b es) h)) (in_line (arguments_text es) (arguments_line es b (second_holds (is_name f) (arguments_fit b es) h)))
  expression_line (property o p) b h =
      let hp = second_holds (expr_fits b o) (expr_fits b p) h in
      dotted_line (codes ".") (at_level 8 (level o) (expression_text o)) (is_system o) (plain_name p) (expression_text p) refl
      (at_line 8 (level o) (expression_text o) (expression_line o b (first_holds (expr_fits b o) (expr_fits b p) h))) (plain_line b p hp) (expression_line p b hp)
  expression_line (verb_call o v es) b h =
      let k = second_holds (expr_fits b o) (expr_fits b v && arguments_fit b es) h in
      let hv = first_holds (expr_fits b v) (arguments_fit b es) k in
      line_then (dotted (codes ":") (at_level 8 (level o) (expression_text o)) (is_system o) (plain_name v) (expression_text v)) (in_parentheses (arguments_text es))
      (dotted_line (codes ":") (at_level 8 (level o) (expression_text o)) (is_system o) (plain_name v) (expression_text v) refl
      (at_line 8 (level o) (expression_text o) (expression_line o b (first_holds (expr_fits b o) (expr_fits b v && arguments_fit b es) h))) (plain_line b v hv) (expression_line v b hv))
      (in_line (arguments_text es) (arguments_line es b (second_holds (expr_fits b v) (arguments_fit b es) k)))
  expression_line (index x i) b h =
      line_then (at_level 8 (level x) (expression_text x)) (within (codes "[") (expression_text i) (codes "]"))
      (at_line 8 (level x) (expression_text x) (expression_line x b (first_holds (expr_fits b x) (expr_fits true i) h)))
      (within_line (codes "[") (expression_text i) (codes "]") refl (expression_line i true (second_holds (expr_fits b x) (expr_fits true i) h)) refl)
  expression_line (range x i j) b h =
      let k = second_holds (expr_fits b x) (expr_fits true i && expr_fits true j) h in
      let bounds : Text = within (expression_text i) (codes "..") (expression_text j) in
      line_then (at_level 8 (level x) (expression_text x)) (within (codes "[") bounds (codes "]"))
      (at_line 8 (level x) (expression_text x) (expression_line x b (first_holds (expr_fits b x) (expr_fits true i && expr_fits true j) h)))
      (within_line (codes "[") bounds (codes "]") refl
      (within_line (expression_text i) (codes "..") (expression_text j) (expression_line i true (first_holds (expr_fits true i) (expr_fits true j) k)) refl (expression_line j true (second_holds (expr_fits true i) (expr_fits true j) k))) refl)
  expression_line (caught e c d) b h =
      let k = second_holds (expr_fits b e) (codes_fit b c && fallback_fits b d) h in
      let later : Text = codes_text c ++ fallback_text d in
      within_line (codes "`") (within (expression_text e) (codes " ! ") later) (codes "'") refl
      (within_line (expression_text e) (codes " ! ") later (expression_line e b (first_holds (expr_fits b e) (codes_fit b c && fallback_fits b d) h)) refl
      (line_then (codes_text c) (fallback_text d) (codes_line c b (first_holds (codes_fit b c) (fallback_fits b d) k)) (fallback_line d b (second_holds (codes_fit b c) (fallback_fits b d) k)))) refl
  expression_line (assignment t e) b h =
      within_line (target_text t) (codes " = ") (expression_text e) (target_line t b (first_holds (target_fits b t) (expr_fits b e) h)) refl (expression_line e b (second_holds (target_fits b t) (expr_fits b e) h))
  expression_line (scatter xs e) b h =
      let k = second_holds (has_item xs && rest_once xs) (items_fit b xs && expr_fits b e) h in
      line_then (within (codes "{") (items_text xs) (codes "}")) (codes " = " ++ expression_text e)
      (within_line (codes "{") (items_text xs) (codes "}") refl (items_line xs b (first_holds (items_fit b xs) (expr_fits b e) k)) refl) (expression_line e b (second_holds (items_fit b xs) (expr_fits b e) k))

  arguments_line : (es : Arguments) (b : Bool) → IsTrue (arguments_fit b es) → IsTrue (is_line (arguments_text es))
  arguments_line no_arguments b h = refl
  arguments_line (argument e es) b h =
      line_then (expression_text e) (further_arguments es) (expression_line e b (first_holds (expr_fits b e) (arguments_fit b es) h)) (further_line es b (second_holds (expr_fits b e) (arguments_fit b es) h))
  arguments_line (splice e es) b h =
      line_then (expression_text e) (further_arguments es) (expression_line e b (first_holds (expr_fits b e) (arguments_fit b es) h)) (further_line es b (second_holds (expr_fits b e) (arguments_fit b es) h))

  further_line : (es : Arguments) (b : Bool) → IsTrue (arguments_fit b es) → IsTrue (is_line (further_arguments es))
  further_line no_arguments b h = refl
  further_line (argument e es) b h =
      line_then (expression_text e) (further_arguments es) (expression_line e b (first_holds (expr_fits b e) (arguments_fit b es) h)) (further_line es b (second_holds (expr_fits b e) (arguments_fit b es) h))
  further_line (splice e es) b h =
      line_then (expression_text e) (further_arguments es) (expression_line e b (first_holds (expr_fits b e) (arguments_fit b es) h)) (further_line es b (second_holds (expr_fits b e) (arguments_fit b es) h))

  codes_line : (c : Codes) (b : Bool) → IsTrue (codes_fit b c) → IsTrue (is_line (codes_text c))
  codes_line any_code b h = refl
  codes_line (codes_in es) b h = arguments_line es b (second_holds (has_argument es) (arguments_fit b es) h)

  fallback_line : (d : Fallback) (b : Bool) → IsTrue (fallback_fits b d) → IsTrue (is_line (fallback_text d))
  fallback_line the_code b h = refl
  fallback_line (instead e) b h = expression_line e b h

  target_line : (t : Target) (b : Bool) → IsTrue (target_fits b t) → IsTrue (is_line (target_text t))
  target_line (to_variable x) b h = name_line x h
  target_line (to_property o p) b h =
      let hp = second_holds (expr_fits b o) (expr_fits b p) h in
      dotted_line (codes ".") (at_level 8 (level o) (expression_text o)) (is_system o) (plain_name p) (expression_text p) refl
      (at_line 8 (level o) (expression_text o) (expression_line o b (first_holds (expr_fits b o) (expr_fits b p) h))) (plain_line b p hp) (expression_line p b hp)
  target_line (to_index t i) b h =
      line_then (target_text t) (within (codes "[") (expression_text i) (codes "]"))
      (target_line t b (second_holds (goes_on t) (target_fits b t) (first_holds (goes_on t && target_fits b t) (expr_fits true i) h)))
      (within_line (codes "[") (expression_text i) (codes "]") refl (expression_line i true (second_holds (goes_on t && target_fits b t) (expr_fits true i) h)) refl)
  target_line (to_range t i j) b h =
      let k = second_holds (goes_on t && target_fits b t) (expr_fits true i && expr_fits true j) h in
      let bounds : Text = within (expression_text i) (codes "..") (expression_text j) in
      line_then (target_text t) (within (codes "[") bounds (codes "]"))
      (target_line t b (second_holds (goes_on t) (target_fits b t) (first_holds (goes_on t && target_fits b t) (expr_fits true i && expr_fits true j) h)))
      (within_line (codes "[") bounds (codes "]") refl
      (within_line (expression_text i) (codes "..") (expression_text j) (expression_line i true (first_holds (expr_fits true i) (expr_fits true j) k)) refl (expression_line j true (second_holds (expr_fits true i) (expr_fits true j) k))) refl)

  items_line : (xs : Items) (b : Bool) → IsTrue (items_fit b xs) → IsTrue (is_line (items_text xs))
  items_line no_items b h = refl
  items_line (required x more) b h = line_then x (further_items more) (name_line x (first_holds (is_name x) (items_fit b more) h)) (further_items_line more b (second_holds (is_name x) (items_fit b more) h))
  items_line (optional x more) b h = line_then x (further_items more) (name_line x (first_holds (is_name x) (items_fit b more) h)) (further_items_line more b (second_holds (is_name x) (items_fit b more) h))
  items_line (remaining x more) b h = line_then x (further_items more) (name_line x (first_holds (is_name x) (items_fit b more) h)) (further_items_line more b (second_holds (is_name x) (items_fit b more) h))
  items_line (defaulted x e more) b h =
      let k = second_holds (is_name x) (expr_fits b e && items_fit b more) h in
      line_then (within x (codes " = ") (expression_text e)) (further_items more)
      (within_line x (codes " = ") (expression_text e) (name_line x (first_holds (is_name x) (expr_fits b e && items_fit b more) h)) refl (expression_line e b (first_holds (expr_fits b e) (items_fit b more) k)))
      (further_items_line more b (second_holds (expr_fits b e) (items_fit b more) k))

  further_items_line : (xs : Items) (b : Bool) → IsTrue (items_fit b xs) → IsTrue (is_line (further_items xs))
  further_items_line no_items b h = refl
  further_items_line (required x more) b h = line_then x (further_items more) (name_line x (first_holds (is_name x) (items_fit b more) h)) (further_items_line more b (second_holds (is_name x) (items_fit b more) h))
  further_items_line (optional x more) b h = line_then x (further_items more) (name_line x (first_holds (is_name x) (items_fit b more) h)) (further_items_line more b (second_holds (is_name x) (items_fit b more) h))
  further_items_line (remaining x more) b h = line_then x (further_items more) (name_line x (first_holds (is_name x) (items_fit b more) h)) (further_items_line more b (second_holds (is_name x) (items_fit b more) h))
  further_items_line (defaulted x e more) b h =
      let k = second_holds (is_name x) (expr_fits b e && items_fit b more) h in
      line_then (within x (codes " = ") (expression_text e)) (further_items more)
      (within_line x (codes " = ") (expression_text e) (name_line x (first_holds (is_name x) (expr_fits b e && items_fit b more) h)) refl (expression_line e b (first_holds (expr_fits b e) (items_fit b more) k)))
      (further_items_line more b (second_holds (expr_fits b e) (items_fit b more) k))

-- ---- statements

head_line : (word e : Text) → IsTrue (is_line word) → IsTrue (is_line e) → IsTrue (is_line (head word e))
head_line word e h k = line_then word (codes " " ++ in_parentheses e) h (in_line e k)

module _ (indent : Text) (i : IsTrue (is_line indent)) where
  behind_line : (t : Text) → IsTrue (is_line t) → IsTrue (is_line (indent ++ t))
  behind_line t h = line_then indent t i h

  one_line : (t : Text) → IsTrue (is_line t) → IsTrue (are_lines ((indent ++ t) ∷ []))
  one_line t h = line_on (indent ++ t) [] (behind_line t h) refl

  first_line : (t : Text) (ts : List Text) → IsTrue (is_line t) → IsTrue (are_lines ts) → IsTrue (are_lines ((indent ++ t) ∷ ts))
  first_line t ts h k = line_on (indent ++ t) ts (behind_line t h) k

  up_to : (ts : List Text) (word : Text) → IsTrue (are_lines ts) → IsTrue (is_line word) → IsTrue (are_lines (ts ++ (indent ++ word) ∷ []))
  up_to ts word h k = lines_then ts ((indent ++ word) ∷ []) h (one_line word k)

mutual
  statement_line : (s : Statement) (loops : List (Option Text)) (indent : Text) → IsTrue (is_line indent) → IsTrue (statement_fits loops s) → IsTrue (are_lines (statement_lines indent s))
  statement_line (evaluate e) loops indent i h = one_line indent i (expression_text e ++ codes ";") (line_then (expression_text e) (codes ";") (expression_line e false h) refl)
  statement_line (give e) loops indent i h =
      one_line indent i (within (codes "return ") (expression_text e) (codes ";")) (within_line (codes "return ") (expression_text e) (codes ";") refl (expression_line e false h) refl)
  statement_line give_zero loops indent i h = one_line indent i (codes "return;") refl
  statement_line (branch bs q) loops indent i h =
      let k = second_holds (has_branch bs) (branches_fit loops bs && otherwise_fits loops q) h in
      lines_then (branches_lines indent (codes "if") bs) (otherwise_lines indent q ++ (indent ++ codes "endif") ∷ []) (branches_line bs loops indent (codes "if") i refl (first_holds (branches_fit loops bs) (otherwise_fits loops q) k))
      (up_to indent i (otherwise_lines indent q) (codes "endif") (otherwise_line q loops indent i (second_holds (branches_fit loops bs) (otherwise_fits loops q) k)) refl)
  statement_line (for_each x e p) loops indent i h =
      let k = second_holds (is_name x) (expr_fits false e && program_fits (Some x ∷ loops) p) h in
      first_line indent i (codes "for " ++ head (x ++ codes " in") (expression_text e)) (program_lines (deeper indent) p ++ (indent ++ codes "endfor") ∷ [])
      (head_line (x ++ codes " in") (expression_text e) (line_then x (codes " in") (name_line x (first_holds (is_name x) (expr_fits false e && program_fits (Some x ∷ loops) p) h)) refl)
      (expression_line e false (first_holds (expr_fits false e) (program_fits (Some x ∷ loops) p) k)))
      (up_to indent i (program_lines (deeper indent) p) (codes "endfor") (program_line p (Some x ∷ loops) (deeper indent) i (second_holds (expr_fits false e) (program_fits (Some x ∷ loops) p) k)) refl)
  statement_line (for_range x a c p) loops indent i h =
      let k = second_holds (is_name x) ((expr_fits false a && expr_fits false c) && program_fits (Some x ∷ loops) p) h in
      let f = first_holds (expr_fits false a && expr_fits false c) (program_fits (Some x ∷ loops) p) k in
      let bounds : Text = within (expression_text a) (codes "..") (expression_text c) in
      first_line indent i (codes "for " ++ (x ++ within (codes " in [") bounds (codes "]"))) (program_lines (deeper indent) p ++ (indent ++ codes "endfor") ∷ [])
      (line_then x (within (codes " in [") bounds (codes "]")) (name_line x (first_holds (is_name x) ((expr_fits false a && expr_fits false c) && program_fits (Some x ∷ loops) p) h))
      (within_line (codes " in [") bounds (codes "]") refl
      (within_line (expression_text a) (codes "..") (expression_text c) (expression_line a false (first_holds (expr_fits false a) (expr_fits false c) f)) refl (expression_line c false (second_holds (expr_fits false a) (expr_fits false c) f))) refl))
      (up_to indent i (program_lines (deeper indent) p) (codes "endfor") (program_line p (Some x ∷ loops) (deeper indent) i (second_holds (expr_fits false a && expr_fits false c) (program_fits (Some x ∷ loops) p) k)) refl)
  statement_line (repeat x c p) loops indent i h =
      let k = second_holds (may_name x) (expr_fits false c && program_fits (x ∷ loops) p) h in
      first_line indent i (head (codes "while" ++ before_name x) (expression_text c)) (program_lines (deeper indent) p ++ (indent ++ codes "endwhile") ∷ [])
      (head_line (codes "while" ++ before_name x) (expression_text c) (before_line x (first_holds (may_name x) (expr_fits false c && program_fits (x ∷ loops) p) h)) (expression_line c false (first_holds (expr_fits false c) (program_fits (x ∷ loops) p) k)))
      (up_to indent i (program_lines (deeper indent) p) (codes "endwhile") (program_line p (x ∷ loops) (deeper indent) i (second_holds (expr_fits false c) (program_fits (x ∷ loops) p) k)) refl)
  statement_line (fork x e p) loops indent i h =
      let k = second_holds (may_name x) (expr_fits false e && program_fits [] p) h in
      first_line indent i (head (codes "fork" ++ before_name x) (expression_text e)) (program_lines (deeper indent) p ++ (indent ++ codes "endfork") ∷ [])
      (head_line (codes "fork" ++ before_name x) (expression_text e) (before_line x (first_holds (may_name x) (expr_fits false e && program_fits [] p) h)) (expression_line e false (first_holds (expr_fits false e) (program_fits [] p) k)))
      (up_to indent i (program_lines (deeper indent) p) (codes "endfork") (program_line p [] (deeper indent) i (second_holds (expr_fits false e) (program_fits [] p) k)) refl)
  statement_line (guarded p arms) loops indent i h =
      let k = second_holds (has_arm arms) (program_fits loops p && arms_fit loops arms) h in
      first_line indent i (codes "try") (program_lines (deeper indent) p ++ (arms_lines indent arms ++ (indent ++ codes "endtry") ∷ [])) refl
      (lines_then (program_lines (deeper indent) p) (arms_lines indent arms ++ (indent ++ codes "endtry") ∷ []) (program_line p loops (deeper indent) i (first_holds (program_fits loops p) (arms_fit loops arms) k))
      (up_to indent i (arms_lines indent arms) (codes "endtry") (arms_line arms loops indent i (second_holds (program_fits loops p) (arms_fit loops arms) k)) refl))
  statement_line (finished p q) loops indent i h =
      let later : List Text = program_lines (deeper indent) q ++ (indent ++ codes "endtry") ∷ [] in
      first_line indent i (codes "try") (program_lines (deeper indent) p ++ ((indent ++ codes "finally") ∷ later)) refl
      (lines_then (program_lines (deeper indent) p) ((indent ++ codes "finally") ∷ later) (program_line p loops (deeper indent) i (first_holds (program_fits loops p) (program_fits loops q) h))
      (first_line indent i (codes "finally") later refl
      (up_to indent i (program_lines (deeper indent) q) (codes "endtry") (program_line q loops (deeper indent) i (second_holds (program_fits loops p) (program_fits loops q) h)) refl)))
  statement_line (leave_loop x) loops indent i h =
      one_line indent i (within (codes "break") (before_name x) (codes ";")) (within_line (codes "break") (before_name x) (codes ";") refl (before_line x (first_holds (may_name x) (is_around loops x) h)) refl)
  statement_line (next_turn x) loops indent i h =
      one_line indent i (within (codes "continue") (before_name x) (codes ";")) (within_line (codes "continue") (before_name x) (codes ";") refl (before_line x (first_holds (may_name x) (is_around loops x) h)) refl)

  program_line : (p : Program) (loops : List (Option Text)) (indent : Text) → IsTrue (is_line indent) → IsTrue (program_fits loops p) → IsTrue (are_lines (program_lines indent p))
  program_line the_end loops indent i h = refl
  program_line (seq s more) loops indent i h =
      lines_then (statement_lines indent s) (program_lines indent more) (statement_line s loops indent i (first_holds (statement_fits loops s) (program_fits loops more) h))
      (program_line more loops indent i (second_holds (statement_fits loops s) (program_fits loops more) h))

  branches_line : (bs : Branches) (loops : List (Option Text)) (indent word : Text) → IsTrue (is_line indent) → IsTrue (is_line word) → IsTrue (branches_fit loops bs) → IsTrue (are_lines (branches_lines indent word bs))
  branches_line no_branches loops indent word i j h = refl
  branches_line (on c p more) loops indent word i j h =
      let k = second_holds (expr_fits false c) (program_fits loops p && branches_fit loops more) h in
      first_line indent i (head word (expression_text c)) (program_lines (deeper indent) p ++ branches_lines indent (codes "elseif") more)
      (head_line word (expression_text c) j (expression_line c false (first_holds (expr_fits false c) (program_fits loops p && branches_fit loops more) h)))
      (lines_then (program_lines (deeper indent) p) (branches_lines indent (codes "elseif") more) (program_line p loops (deeper indent) i (first_holds (program_fits loops p) (branches_fit loops more) k))
      (branches_line more loops indent (codes "elseif") i refl (second_holds (program_fits loops p) (branches_fit loops more) k)))

  otherwise_line : (q : Otherwise) (loops : List (Option Text)) (indent : Text) → IsTrue (is_line indent) → IsTrue (otherwise_fits loops q) → IsTrue (are_lines (otherwise_lines indent q))
  otherwise_line no_else loops indent i h = refl
  otherwise_line (else_do p) loops indent i h = first_line indent i (codes "else") (program_lines (deeper indent) p) refl (program_line p loops (deeper indent) i h)

  arms_line : (arms : Arms) (loops : List (Option Text)) (indent : Text) → IsTrue (is_line indent) → IsTrue (arms_fit loops arms) → IsTrue (are_lines (arms_lines indent arms))
  arms_line no_arms loops indent i h = refl
  arms_line (except x c p more) loops indent i h =
      let f = first_holds (may_name x && codes_fit false c) (program_fits loops p && arms_fit loops more) h in
      let k = second_holds (may_name x && codes_fit false c) (program_fits loops p && arms_fit loops more) h in
      first_line indent i (head (codes "except" ++ before_name x) (codes_text c)) (program_lines (deeper indent) p ++ arms_lines indent more)
      (head_line (codes "except" ++ before_name x) (codes_text c) (before_line x (first_holds (may_name x) (codes_fit false c) f)) (codes_line c false (second_holds (may_name x) (codes_fit false c) f)))
      (lines_then (program_lines (deeper indent) p) (arms_lines indent more) (program_line p loops (deeper indent) i (first_holds (program_fits loops p) (arms_fit loops more) k))
      (arms_line more loops indent i (second_holds (program_fits loops p) (arms_fit loops more) k)))

pub code_is_lines : (p : Program) → IsTrue (is_tree p) → IsTrue (are_lines (canonical_lines p))
code_is_lines p h = program_line p [] [] refl (first_holds (program_fits [] p) _ h)
