-- The lines of a program have printed characters alone.
use Rattle.std.proofs.Common.{ℕ, suc, pos, negsuc, List, [], ◌∷◌, ◌++◌, IsTrue, Bool, true, false, ◌&&◌, if◌then◌else◌, nat_le, refl, codes, Option, Some, None, arith}
use Rattle.spec_value.specs.Datum as value
use Rattle.spec_value.specs.Datum.{Text, is_text, is_character, ErrorCode, no_error, type_mismatch, zero_division, permission_denied, property_not_found, verb_not_found, variable_not_found, invalid_indirection, recursive_move, too_many_calls, range_error, wrong_argument_count, move_refused, invalid_argument, limit_exceeded, float_error, Datum, Data, no_data, item, is_value, are_values}
use Rattle.spec_value.specs.Operators.{UnaryOperator, negation, not_true, BinaryOperator, plus, minus, times, divided_by, remainder_by, to_the, equals, differs, less, less_or_equal, greater, greater_or_equal, is_in}
use Rattle.spec_value.proofs.Entries.{first_holds, second_holds}
use Rattle.spec_program.specs.Names.{is_digit}
use Rattle.spec_program.specs.Names as names
use Rattle.spec_program.specs.Tree.{Expr, literal, variable, own_length, unary, binary, both, either, conditional, listing, call, property, verb_call, index, range, caught, assignment, scatter, Arguments, no_arguments, argument, splice, Codes, any_code, codes_in, Fallback, the_code, instead, Target, to_variable, to_property, to_index, to_range, Items, no_items, required, optional, remaining, defaulted, Statement, evaluate, give, give_zero, branch, for_each, for_range, repeat, fork, guarded, finished, leave_loop, next_turn, Program, the_end, seq, Branches, no_branches, on, Otherwise, no_else, else_do, Arms, no_arms, except}
use Rattle.spec_program.specs.Spelling.{level, left_level, right_level, unary_sign, binary_sign, within, in_parentheses, at_level, literal_text, plain_name, is_system, dotted, expression_text, arguments_text, further_arguments, codes_text, fallback_text, target_text, items_text, further_items, before_name, head, deeper, statement_lines, program_lines, branches_lines, otherwise_lines, arms_lines, canonical_lines}
use Rattle.spec_program.specs.Trees.{is_name, may_name, is_literal, has_item, rest_once, has_argument, goes_on, expr_fits, arguments_fit, codes_fit, fallback_fits, target_fits, items_fit, is_around, has_branch, has_arm, statement_fits, program_fits, branches_fit, otherwise_fits, arms_fit, is_tree}
use Rattle.std.specs.List.{list_all}
use Rattle.spec_checkpoint.proofs.CodeLines.{all_both}
use Rattle.spec_program.specs.Trees.{begins_name, continues_name, is_lower_word}
use Rattle.std.proofs.lemmas.Bool.Decides.{nat_tests}
use Rattle.spec_value.proofs.Entries.{both_hold}
use Rattle.spec_values_kept.proofs.Texts.{text_then, text_onto, decimal_text, signed_text, error_text}
use Rattle.spec_values_kept.proofs.Texts as texts
use Rattle.spec_values_kept.specs.Values.{IsPrinted, Each}
use Rattle.spec_values_kept.specs.UnderWay.{CodePrinted}

-- ---- names

begins_text : (c : ℕ) → IsTrue (begins_name c) → IsTrue (is_character c)
begins_text c h = grind (arith, nat_tests)

continues_text : (c : ℕ) → IsTrue (continues_name c) → IsTrue (is_character c)
continues_text c h = grind (arith, nat_tests)

word_text : (t : Text) → IsTrue (list_all continues_name t) → IsTrue (is_text t)
word_text [] h = refl
word_text (c ∷ t) h = text_onto c t (continues_text c (first_holds (continues_name c) (list_all continues_name t) h)) (word_text t (second_holds (continues_name c) (list_all continues_name t) h))

lower_text : (t : Text) → IsTrue (is_lower_word t) → IsTrue (is_text t)
lower_text [] h = refl
lower_text (c ∷ t) h = text_onto c t (begins_text c (first_holds (begins_name c) (list_all continues_name t) h)) (word_text t (second_holds (begins_name c) (list_all continues_name t) h))

pub name_printed : (t : Text) → IsTrue (is_name t) → IsTrue (is_text t)
name_printed t h = lower_text t (first_holds (is_lower_word t) _ h)

before_printed : (x : Option Text) → IsTrue (may_name x) → IsTrue (is_text (before_name x))
before_printed None h = refl
before_printed (Some x) h = name_printed x h

-- ---- lists of texts

abbrev are_texts : List Text → Bool
are_texts ts = list_all is_text ts

texts_then : (ts us : List Text) → IsTrue (are_texts ts) → IsTrue (are_texts us) → IsTrue (are_texts (ts ++ us))
texts_then = all_both is_text

text_on : (t : Text) (ts : List Text) → IsTrue (is_text t) → IsTrue (are_texts ts) → IsTrue (are_texts (t ∷ ts))
text_on t ts = both_hold (is_text t) (are_texts ts)

-- ---- parts of expressions

in_printed : (t : Text) → IsTrue (is_text t) → IsTrue (is_text (in_parentheses t))
in_printed t h = text_then t (codes ")") h refl

within_printed : (a t b : Text) → IsTrue (is_text a) → IsTrue (is_text t) → IsTrue (is_text b) → IsTrue (is_text (within a t b))
within_printed a t b f g h = text_then a (t ++ b) f (text_then t b g h)

at_printed : (wanted own : ℕ) (t : Text) → IsTrue (is_text t) → IsTrue (is_text (at_level wanted own t))
at_printed wanted own t h = go (nat_le wanted own)
  where
    go : (b : Bool) → IsTrue (is_text (if b then t else in_parentheses t))
    go true = h
    go false = in_printed t h

abbrev may_be_text : Option Text → Bool
may_be_text None = true
may_be_text (Some t) = is_text t

plain_printed : (b : Bool) (p : Expr) → IsTrue (expr_fits b p) → IsTrue (may_be_text (plain_name p))
plain_printed b (literal (value.text t)) h = go (names.is_identifier t)
  where
    go : (b : Bool) → IsTrue (may_be_text (if b then Some t else None))
    go true = h
    go false = refl
plain_printed b _ h = refl

dotted_printed : (sign o : Text) (system : Bool) (name : Option Text) (spelled : Text) → IsTrue (is_text sign) → IsTrue (is_text o) → IsTrue (may_be_text name) → IsTrue (is_text spelled)
    → IsTrue (is_text (dotted sign o system name spelled))
dotted_printed sign o true (Some t) spelled f g h k = h
dotted_printed sign o true None spelled f g h k = text_then o (sign ++ in_parentheses spelled) g (text_then sign (in_parentheses spelled) f (in_printed spelled k))
dotted_printed sign o false (Some t) spelled f g h k = text_then o (sign ++ t) g (text_then sign t f h)
dotted_printed sign o false None spelled f g h k = text_then o (sign ++ in_parentheses spelled) g (text_then sign (in_parentheses spelled) f (in_printed spelled k))

literal_text_printed : (v : Datum) → IsTrue (is_literal v) → IsTrue (is_text (literal_text v))
literal_text_printed (value.integer (pos n)) h = decimal_text n
literal_text_printed (value.integer (negsuc n)) h = decimal_text (suc n)
literal_text_printed (value.object z) h = signed_text z
literal_text_printed (value.text t) h = texts.literal_text (value.text t) h
literal_text_printed (value.error e) h = error_text e
literal_text_printed (value.list xs) h = cc

unary_printed : (u : UnaryOperator) → IsTrue (is_text (unary_sign u))
unary_printed negation = refl
unary_printed not_true = refl

binary_printed : (op : BinaryOperator) → IsTrue (is_text (binary_sign op))
binary_printed plus = refl
binary_printed minus = refl
binary_printed times = refl
binary_printed divided_by = refl
binary_printed remainder_by = refl
binary_printed to_the = refl
binary_printed equals = refl
binary_printed differs = refl
binary_printed less = refl
binary_printed less_or_equal = refl
binary_printed greater = refl
binary_printed greater_or_equal = refl
binary_printed is_in = refl

-- ---- expressions

mutual
  expression_printed : (e : Expr) (b : Bool) → IsTrue (expr_fits b e) → IsTrue (is_text (expression_text e))
  expression_printed (literal v) b h = literal_text_printed v h
  expression_printed (variable x) b h = name_printed x h
  expression_printed own_length b h = refl
  expression_printed (unary u a) b h = text_then (unary_sign u) (at_level 7 (level a) (expression_text a)) (unary_printed u) (at_printed 7 (level a) (expression_text a) (expression_printed a b h))
  expression_printed (binary op x y) b h =
      within_printed (at_level (left_level op) (level x) (expression_text x)) (binary_sign op) (at_level (right_level op) (level y) (expression_text y))
      (at_printed (left_level op) (level x) (expression_text x) (expression_printed x b (first_holds (expr_fits b x) (expr_fits b y) h))) (binary_printed op)
      (at_printed (right_level op) (level y) (expression_text y) (expression_printed y b (second_holds (expr_fits b x) (expr_fits b y) h)))
  expression_printed (both x y) b h =
      within_printed (at_level 2 (level x) (expression_text x)) (codes " && ") (at_level 3 (level y) (expression_text y))
      (at_printed 2 (level x) (expression_text x) (expression_printed x b (first_holds (expr_fits b x) (expr_fits b y) h))) refl
      (at_printed 3 (level y) (expression_text y) (expression_printed y b (second_holds (expr_fits b x) (expr_fits b y) h)))
  expression_printed (either x y) b h =
      within_printed (at_level 2 (level x) (expression_text x)) (codes " || ") (at_level 3 (level y) (expression_text y))
      (at_printed 2 (level x) (expression_text x) (expression_printed x b (first_holds (expr_fits b x) (expr_fits b y) h))) refl
      (at_printed 3 (level y) (expression_text y) (expression_printed y b (second_holds (expr_fits b x) (expr_fits b y) h)))
  expression_printed (conditional c x y) b h =
      let k = second_holds (expr_fits b c) (expr_fits b x && expr_fits b y) h in
      let later : Text = codes " | " ++ at_level 1 (level y) (expression_text y) in
      text_then (at_level 2 (level c) (expression_text c)) (within (codes " ? ") (expression_text x) later)
      (at_printed 2 (level c) (expression_text c) (expression_printed c b (first_holds (expr_fits b c) (expr_fits b x && expr_fits b y) h)))
      (within_printed (codes " ? ") (expression_text x) later refl (expression_printed x b (first_holds (expr_fits b x) (expr_fits b y) k))
      (at_printed 1 (level y) (expression_text y) (expression_printed y b (second_holds (expr_fits b x) (expr_fits b y) k))))
  expression_printed (listing es) b h = within_printed (codes "{") (arguments_text es) (codes "}") refl (arguments_printed es b h) refl
  expression_printed (call f es) b h =
      text_then f (in_parentheses (arguments_text es)) (name_printed f (first_holds (is_name f) (arguments_fit b es) h)) (in_printed (arguments_text es) (arguments_printed es b (second_holds (is_name f) (arguments_fit b es) h)))
  expression_printed (property o p) b h =
      let hp = second_holds (expr_fits b o) (expr_fits b p) h in
      dotted_printed (codes ".") (at_level 8 (level o) (expression_text o)) (is_system o) (plain_name p) (expression_text p) refl
      (at_printed 8 (level o) (expression_text o) (expression_printed o b (first_holds (expr_fits b o) (expr_fits b p) h))) (plain_printed b p hp) (expression_printed p b hp)
  expression_printed (verb_call o v es) b h =
      let k = second_holds (expr_fits b o) (expr_fits b v && arguments_fit b es) h in
      let hv = first_holds (expr_fits b v) (arguments_fit b es) k in
      text_then (dotted (codes ":") (at_level 8 (level o) (expression_text o)) (is_system o) (plain_name v) (expression_text v)) (in_parentheses (arguments_text es))
      (dotted_printed (codes ":") (at_level 8 (level o) (expression_text o)) (is_system o) (plain_name v) (expression_text v) refl
      (at_printed 8 (level o) (expression_text o) (expression_printed o b (first_holds (expr_fits b o) (expr_fits b v && arguments_fit b es) h))) (plain_printed b v hv) (expression_printed v b hv))
      (in_printed (arguments_text es) (arguments_printed es b (second_holds (expr_fits b v) (arguments_fit b es) k)))
  expression_printed (index x i) b h =
      text_then (at_level 8 (level x) (expression_text x)) (within (codes "[") (expression_text i) (codes "]"))
      (at_printed 8 (level x) (expression_text x) (expression_printed x b (first_holds (expr_fits b x) (expr_fits true i) h)))
      (within_printed (codes "[") (expression_text i) (codes "]") refl (expression_printed i true (second_holds (expr_fits b x) (expr_fits true i) h)) refl)
  expression_printed (range x i j) b h =
      let k = second_holds (expr_fits b x) (expr_fits true i && expr_fits true j) h in
      let bounds : Text = within (expression_text i) (codes "..") (expression_text j) in
      text_then (at_level 8 (level x) (expression_text x)) (within (codes "[") bounds (codes "]"))
      (at_printed 8 (level x) (expression_text x) (expression_printed x b (first_holds (expr_fits b x) (expr_fits true i && expr_fits true j) h)))
      (within_printed (codes "[") bounds (codes "]") refl
      (within_printed (expression_text i) (codes "..") (expression_text j) (expression_printed i true (first_holds (expr_fits true i) (expr_fits true j) k)) refl (expression_printed j true (second_holds (expr_fits true i) (expr_fits true j) k))) refl)
  expression_printed (caught e c d) b h =
      let k = second_holds (expr_fits b e) (codes_fit b c && fallback_fits b d) h in
      let later : Text = codes_text c ++ fallback_text d in
      within_printed (codes "`") (within (expression_text e) (codes " ! ") later) (codes "'") refl
      (within_printed (expression_text e) (codes " ! ") later (expression_printed e b (first_holds (expr_fits b e) (codes_fit b c && fallback_fits b d) h)) refl
      (text_then (codes_text c) (fallback_text d) (codes_printed c b (first_holds (codes_fit b c) (fallback_fits b d) k)) (fallback_printed d b (second_holds (codes_fit b c) (fallback_fits b d) k)))) refl
  expression_printed (assignment t e) b h =
      within_printed (target_text t) (codes " = ") (expression_text e) (target_printed t b (first_holds (target_fits b t) (expr_fits b e) h)) refl (expression_printed e b (second_holds (target_fits b t) (expr_fits b e) h))
  expression_printed (scatter xs e) b h =
      let k = second_holds (has_item xs && rest_once xs) (items_fit b xs && expr_fits b e) h in
      text_then (within (codes "{") (items_text xs) (codes "}")) (codes " = " ++ expression_text e)
      (within_printed (codes "{") (items_text xs) (codes "}") refl (items_printed xs b (first_holds (items_fit b xs) (expr_fits b e) k)) refl) (expression_printed e b (second_holds (items_fit b xs) (expr_fits b e) k))

  arguments_printed : (es : Arguments) (b : Bool) → IsTrue (arguments_fit b es) → IsTrue (is_text (arguments_text es))
  arguments_printed no_arguments b h = refl
  arguments_printed (argument e es) b h =
      text_then (expression_text e) (further_arguments es) (expression_printed e b (first_holds (expr_fits b e) (arguments_fit b es) h)) (further_printed es b (second_holds (expr_fits b e) (arguments_fit b es) h))
  arguments_printed (splice e es) b h =
      text_then (expression_text e) (further_arguments es) (expression_printed e b (first_holds (expr_fits b e) (arguments_fit b es) h)) (further_printed es b (second_holds (expr_fits b e) (arguments_fit b es) h))

  further_printed : (es : Arguments) (b : Bool) → IsTrue (arguments_fit b es) → IsTrue (is_text (further_arguments es))
  further_printed no_arguments b h = refl
  further_printed (argument e es) b h =
      text_then (expression_text e) (further_arguments es) (expression_printed e b (first_holds (expr_fits b e) (arguments_fit b es) h)) (further_printed es b (second_holds (expr_fits b e) (arguments_fit b es) h))
  further_printed (splice e es) b h =
      text_then (expression_text e) (further_arguments es) (expression_printed e b (first_holds (expr_fits b e) (arguments_fit b es) h)) (further_printed es b (second_holds (expr_fits b e) (arguments_fit b es) h))

  codes_printed : (c : Codes) (b : Bool) → IsTrue (codes_fit b c) → IsTrue (is_text (codes_text c))
  codes_printed any_code b h = refl
  codes_printed (codes_in es) b h = arguments_printed es b (second_holds (has_argument es) (arguments_fit b es) h)

  fallback_printed : (d : Fallback) (b : Bool) → IsTrue (fallback_fits b d) → IsTrue (is_text (fallback_text d))
  fallback_printed the_code b h = refl
  fallback_printed (instead e) b h = expression_printed e b h

  target_printed : (t : Target) (b : Bool) → IsTrue (target_fits b t) → IsTrue (is_text (target_text t))
  target_printed (to_variable x) b h = name_printed x h
  target_printed (to_property o p) b h =
      let hp = second_holds (expr_fits b o) (expr_fits b p) h in
      dotted_printed (codes ".") (at_level 8 (level o) (expression_text o)) (is_system o) (plain_name p) (expression_text p) refl
      (at_printed 8 (level o) (expression_text o) (expression_printed o b (first_holds (expr_fits b o) (expr_fits b p) h))) (plain_printed b p hp) (expression_printed p b hp)
  target_printed (to_index t i) b h =
      text_then (target_text t) (within (codes "[") (expression_text i) (codes "]"))
      (target_printed t b (second_holds (goes_on t) (target_fits b t) (first_holds (goes_on t && target_fits b t) (expr_fits true i) h)))
      (within_printed (codes "[") (expression_text i) (codes "]") refl (expression_printed i true (second_holds (goes_on t && target_fits b t) (expr_fits true i) h)) refl)
  target_printed (to_range t i j) b h =
      let k = second_holds (goes_on t && target_fits b t) (expr_fits true i && expr_fits true j) h in
      let bounds : Text = within (expression_text i) (codes "..") (expression_text j) in
      text_then (target_text t) (within (codes "[") bounds (codes "]"))
      (target_printed t b (second_holds (goes_on t) (target_fits b t) (first_holds (goes_on t && target_fits b t) (expr_fits true i && expr_fits true j) h)))
      (within_printed (codes "[") bounds (codes "]") refl
      (within_printed (expression_text i) (codes "..") (expression_text j) (expression_printed i true (first_holds (expr_fits true i) (expr_fits true j) k)) refl (expression_printed j true (second_holds (expr_fits true i) (expr_fits true j) k))) refl)

  items_printed : (xs : Items) (b : Bool) → IsTrue (items_fit b xs) → IsTrue (is_text (items_text xs))
  items_printed no_items b h = refl
  items_printed (required x more) b h = text_then x (further_items more) (name_printed x (first_holds (is_name x) (items_fit b more) h)) (further_items_printed more b (second_holds (is_name x) (items_fit b more) h))
  items_printed (optional x more) b h = text_then x (further_items more) (name_printed x (first_holds (is_name x) (items_fit b more) h)) (further_items_printed more b (second_holds (is_name x) (items_fit b more) h))
  items_printed (remaining x more) b h = text_then x (further_items more) (name_printed x (first_holds (is_name x) (items_fit b more) h)) (further_items_printed more b (second_holds (is_name x) (items_fit b more) h))
  items_printed (defaulted x e more) b h =
      let k = second_holds (is_name x) (expr_fits b e && items_fit b more) h in
      text_then (within x (codes " = ") (expression_text e)) (further_items more)
      (within_printed x (codes " = ") (expression_text e) (name_printed x (first_holds (is_name x) (expr_fits b e && items_fit b more) h)) refl (expression_printed e b (first_holds (expr_fits b e) (items_fit b more) k)))
      (further_items_printed more b (second_holds (expr_fits b e) (items_fit b more) k))

  further_items_printed : (xs : Items) (b : Bool) → IsTrue (items_fit b xs) → IsTrue (is_text (further_items xs))
  further_items_printed no_items b h = refl
  further_items_printed (required x more) b h = text_then x (further_items more) (name_printed x (first_holds (is_name x) (items_fit b more) h)) (further_items_printed more b (second_holds (is_name x) (items_fit b more) h))
  further_items_printed (optional x more) b h = text_then x (further_items more) (name_printed x (first_holds (is_name x) (items_fit b more) h)) (further_items_printed more b (second_holds (is_name x) (items_fit b more) h))
  further_items_printed (remaining x more) b h = text_then x (further_items more) (name_printed x (first_holds (is_name x) (items_fit b more) h)) (further_items_printed more b (second_holds (is_name x) (items_fit b more) h))
  further_items_printed (defaulted x e more) b h =
      let k = second_holds (is_name x) (expr_fits b e && items_fit b more) h in
      text_then (within x (codes " = ") (expression_text e)) (further_items more)
      (within_printed x (codes " = ") (expression_text e) (name_printed x (first_holds (is_name x) (expr_fits b e && items_fit b more) h)) refl (expression_printed e b (first_holds (expr_fits b e) (items_fit b more) k)))
      (further_items_printed more b (second_holds (expr_fits b e) (items_fit b more) k))

-- ---- statements

head_printed : (word e : Text) → IsTrue (is_text word) → IsTrue (is_text e) → IsTrue (is_text (head word e))
head_printed word e h k = text_then word (codes " " ++ in_parentheses e) h (in_printed e k)

module _ (indent : Text) (i : IsTrue (is_text indent)) where
  behind_printed : (t : Text) → IsTrue (is_text t) → IsTrue (is_text (indent ++ t))
  behind_printed t h = text_then indent t i h

  one_printed : (t : Text) → IsTrue (is_text t) → IsTrue (are_texts ((indent ++ t) ∷ []))
  one_printed t h = text_on (indent ++ t) [] (behind_printed t h) refl

  first_printed : (t : Text) (ts : List Text) → IsTrue (is_text t) → IsTrue (are_texts ts) → IsTrue (are_texts ((indent ++ t) ∷ ts))
  first_printed t ts h k = text_on (indent ++ t) ts (behind_printed t h) k

  up_to : (ts : List Text) (word : Text) → IsTrue (are_texts ts) → IsTrue (is_text word) → IsTrue (are_texts (ts ++ (indent ++ word) ∷ []))
  up_to ts word h k = texts_then ts ((indent ++ word) ∷ []) h (one_printed word k)

mutual
  statement_printed : (s : Statement) (loops : List (Option Text)) (indent : Text) → IsTrue (is_text indent) → IsTrue (statement_fits loops s) → IsTrue (are_texts (statement_lines indent s))
  statement_printed (evaluate e) loops indent i h = one_printed indent i (expression_text e ++ codes ";") (text_then (expression_text e) (codes ";") (expression_printed e false h) refl)
  statement_printed (give e) loops indent i h =
      one_printed indent i (within (codes "return ") (expression_text e) (codes ";")) (within_printed (codes "return ") (expression_text e) (codes ";") refl (expression_printed e false h) refl)
  statement_printed give_zero loops indent i h = one_printed indent i (codes "return;") refl
  statement_printed (branch bs q) loops indent i h =
      let k = second_holds (has_branch bs) (branches_fit loops bs && otherwise_fits loops q) h in
      texts_then (branches_lines indent (codes "if") bs) (otherwise_lines indent q ++ (indent ++ codes "endif") ∷ []) (branches_printed bs loops indent (codes "if") i refl (first_holds (branches_fit loops bs) (otherwise_fits loops q) k))
      (up_to indent i (otherwise_lines indent q) (codes "endif") (otherwise_printed q loops indent i (second_holds (branches_fit loops bs) (otherwise_fits loops q) k)) refl)
  statement_printed (for_each x e p) loops indent i h =
      let k = second_holds (is_name x) (expr_fits false e && program_fits (Some x ∷ loops) p) h in
      first_printed indent i (codes "for " ++ head (x ++ codes " in") (expression_text e)) (program_lines (deeper indent) p ++ (indent ++ codes "endfor") ∷ [])
      (head_printed (x ++ codes " in") (expression_text e) (text_then x (codes " in") (name_printed x (first_holds (is_name x) (expr_fits false e && program_fits (Some x ∷ loops) p) h)) refl)
      (expression_printed e false (first_holds (expr_fits false e) (program_fits (Some x ∷ loops) p) k)))
      (up_to indent i (program_lines (deeper indent) p) (codes "endfor") (program_printed p (Some x ∷ loops) (deeper indent) i (second_holds (expr_fits false e) (program_fits (Some x ∷ loops) p) k)) refl)
  statement_printed (for_range x a c p) loops indent i h =
      let k = second_holds (is_name x) ((expr_fits false a && expr_fits false c) && program_fits (Some x ∷ loops) p) h in
      let f = first_holds (expr_fits false a && expr_fits false c) (program_fits (Some x ∷ loops) p) k in
      let bounds : Text = within (expression_text a) (codes "..") (expression_text c) in
      first_printed indent i (codes "for " ++ (x ++ within (codes " in [") bounds (codes "]"))) (program_lines (deeper indent) p ++ (indent ++ codes "endfor") ∷ [])
      (text_then x (within (codes " in [") bounds (codes "]")) (name_printed x (first_holds (is_name x) ((expr_fits false a && expr_fits false c) && program_fits (Some x ∷ loops) p) h))
      (within_printed (codes " in [") bounds (codes "]") refl
      (within_printed (expression_text a) (codes "..") (expression_text c) (expression_printed a false (first_holds (expr_fits false a) (expr_fits false c) f)) refl (expression_printed c false (second_holds (expr_fits false a) (expr_fits false c) f))) refl))
      (up_to indent i (program_lines (deeper indent) p) (codes "endfor") (program_printed p (Some x ∷ loops) (deeper indent) i (second_holds (expr_fits false a && expr_fits false c) (program_fits (Some x ∷ loops) p) k)) refl)
  statement_printed (repeat x c p) loops indent i h =
      let k = second_holds (may_name x) (expr_fits false c && program_fits (x ∷ loops) p) h in
      first_printed indent i (head (codes "while" ++ before_name x) (expression_text c)) (program_lines (deeper indent) p ++ (indent ++ codes "endwhile") ∷ [])
      (head_printed (codes "while" ++ before_name x) (expression_text c) (before_printed x (first_holds (may_name x) (expr_fits false c && program_fits (x ∷ loops) p) h)) (expression_printed c false (first_holds (expr_fits false c) (program_fits (x ∷ loops) p) k)))
      (up_to indent i (program_lines (deeper indent) p) (codes "endwhile") (program_printed p (x ∷ loops) (deeper indent) i (second_holds (expr_fits false c) (program_fits (x ∷ loops) p) k)) refl)
  statement_printed (fork x e p) loops indent i h =
      let k = second_holds (may_name x) (expr_fits false e && program_fits [] p) h in
      first_printed indent i (head (codes "fork" ++ before_name x) (expression_text e)) (program_lines (deeper indent) p ++ (indent ++ codes "endfork") ∷ [])
      (head_printed (codes "fork" ++ before_name x) (expression_text e) (before_printed x (first_holds (may_name x) (expr_fits false e && program_fits [] p) h)) (expression_printed e false (first_holds (expr_fits false e) (program_fits [] p) k)))
      (up_to indent i (program_lines (deeper indent) p) (codes "endfork") (program_printed p [] (deeper indent) i (second_holds (expr_fits false e) (program_fits [] p) k)) refl)
  statement_printed (guarded p arms) loops indent i h =
      let k = second_holds (has_arm arms) (program_fits loops p && arms_fit loops arms) h in
      first_printed indent i (codes "try") (program_lines (deeper indent) p ++ (arms_lines indent arms ++ (indent ++ codes "endtry") ∷ [])) refl
      (texts_then (program_lines (deeper indent) p) (arms_lines indent arms ++ (indent ++ codes "endtry") ∷ []) (program_printed p loops (deeper indent) i (first_holds (program_fits loops p) (arms_fit loops arms) k))
      (up_to indent i (arms_lines indent arms) (codes "endtry") (arms_printed arms loops indent i (second_holds (program_fits loops p) (arms_fit loops arms) k)) refl))
  statement_printed (finished p q) loops indent i h =
      let later : List Text = program_lines (deeper indent) q ++ (indent ++ codes "endtry") ∷ [] in
      first_printed indent i (codes "try") (program_lines (deeper indent) p ++ ((indent ++ codes "finally") ∷ later)) refl
      (texts_then (program_lines (deeper indent) p) ((indent ++ codes "finally") ∷ later) (program_printed p loops (deeper indent) i (first_holds (program_fits loops p) (program_fits loops q) h))
      (first_printed indent i (codes "finally") later refl
      (up_to indent i (program_lines (deeper indent) q) (codes "endtry") (program_printed q loops (deeper indent) i (second_holds (program_fits loops p) (program_fits loops q) h)) refl)))
  statement_printed (leave_loop x) loops indent i h =
      one_printed indent i (within (codes "break") (before_name x) (codes ";")) (within_printed (codes "break") (before_name x) (codes ";") refl (before_printed x (first_holds (may_name x) (is_around loops x) h)) refl)
  statement_printed (next_turn x) loops indent i h =
      one_printed indent i (within (codes "continue") (before_name x) (codes ";")) (within_printed (codes "continue") (before_name x) (codes ";") refl (before_printed x (first_holds (may_name x) (is_around loops x) h)) refl)

  program_printed : (p : Program) (loops : List (Option Text)) (indent : Text) → IsTrue (is_text indent) → IsTrue (program_fits loops p) → IsTrue (are_texts (program_lines indent p))
  program_printed the_end loops indent i h = refl
  program_printed (seq s more) loops indent i h =
      texts_then (statement_lines indent s) (program_lines indent more) (statement_printed s loops indent i (first_holds (statement_fits loops s) (program_fits loops more) h))
      (program_printed more loops indent i (second_holds (statement_fits loops s) (program_fits loops more) h))

  branches_printed : (bs : Branches) (loops : List (Option Text)) (indent word : Text) → IsTrue (is_text indent) → IsTrue (is_text word) → IsTrue (branches_fit loops bs) → IsTrue (are_texts (branches_lines indent word bs))
  branches_printed no_branches loops indent word i j h = refl
  branches_printed (on c p more) loops indent word i j h =
      let k = second_holds (expr_fits false c) (program_fits loops p && branches_fit loops more) h in
      first_printed indent i (head word (expression_text c)) (program_lines (deeper indent) p ++ branches_lines indent (codes "elseif") more)
      (head_printed word (expression_text c) j (expression_printed c false (first_holds (expr_fits false c) (program_fits loops p && branches_fit loops more) h)))
      (texts_then (program_lines (deeper indent) p) (branches_lines indent (codes "elseif") more) (program_printed p loops (deeper indent) i (first_holds (program_fits loops p) (branches_fit loops more) k))
      (branches_printed more loops indent (codes "elseif") i refl (second_holds (program_fits loops p) (branches_fit loops more) k)))

  otherwise_printed : (q : Otherwise) (loops : List (Option Text)) (indent : Text) → IsTrue (is_text indent) → IsTrue (otherwise_fits loops q) → IsTrue (are_texts (otherwise_lines indent q))
  otherwise_printed no_else loops indent i h = refl
  otherwise_printed (else_do p) loops indent i h = first_printed indent i (codes "else") (program_lines (deeper indent) p) refl (program_printed p loops (deeper indent) i h)

  arms_printed : (arms : Arms) (loops : List (Option Text)) (indent : Text) → IsTrue (is_text indent) → IsTrue (arms_fit loops arms) → IsTrue (are_texts (arms_lines indent arms))
  arms_printed no_arms loops indent i h = refl
  arms_printed (except x c p more) loops indent i h =
      let f = first_holds (may_name x && codes_fit false c) (program_fits loops p && arms_fit loops more) h in
      let k = second_holds (may_name x && codes_fit false c) (program_fits loops p && arms_fit loops more) h in
      first_printed indent i (head (codes "except" ++ before_name x) (codes_text c)) (program_lines (deeper indent) p ++ arms_lines indent more)
      (head_printed (codes "except" ++ before_name x) (codes_text c) (before_printed x (first_holds (may_name x) (codes_fit false c) f)) (codes_printed c false (second_holds (may_name x) (codes_fit false c) f)))
      (texts_then (program_lines (deeper indent) p) (arms_lines indent more) (program_printed p loops (deeper indent) i (first_holds (program_fits loops p) (arms_fit loops more) k))
      (arms_printed more loops indent i (second_holds (program_fits loops p) (arms_fit loops more) k)))

code_printed : (p : Program) → IsTrue (is_tree p) → IsTrue (are_texts (canonical_lines p))
code_printed p h = program_printed p [] [] refl (first_holds (program_fits [] p) _ h)

all_printed : (ts : List Text) → IsTrue (are_texts ts) → Each IsPrinted ts
all_printed [] h = tt
all_printed (t ∷ ts) h = (first_holds (is_text t) (are_texts ts) h, all_printed ts (second_holds (is_text t) (are_texts ts) h))

pub code_is_printed : CodePrinted
code_is_printed p h = all_printed (canonical_lines p) (code_printed p h)
