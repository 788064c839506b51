-- Further moves over frames: properties, verbs and indexes of an operand, calls, assignments, and `c ? a | b`.
use Rattle.std.specs.Prelude.{ℕ, zero, suc, ◌<◌, ◌≡◌, Bool, true, false, List, [], ◌∷◌, length, Some, None}
use Rattle.spec_value.specs.Datum as value
use Rattle.spec_value.specs.Datum.{Text, fold_case}
use Rattle.spec_program.specs.Tree.{literal, variable, Target, to_variable, Items}
use Rattle.spec_program.specs.Tokens as t
use Rattle.spec_program.specs.Tokens.{Sign, Token, Placed}
use Rattle.spec_program.specs.Reading.{got, is_sign, Node}
use Rattle.spec_program.specs.ReadExpressions as by
use Rattle.spec_program.specs.ReadExpressions.{Found, Operand, steps, operators, expression}
use Rattle.spec_program.specs.Frames as f
use Rattle.spec_program.specs.Frames.{an_expression, an_operand, Frames, push, resume, means}
use Rattle.spec_program.specs.Moves.{at, begins_with}

abbrev pub name_at : ℕ → Text → Found
name_at line x = by.found_at line (literal (value.text x)) []

-- steps behind an operand that is no scatter for sure
pub record StepMoves (n : ℕ) (b : Bool) (o : Operand) (ts : List Placed) (fs : Frames an_operand) : Type 0 where
  pub property_word :
      (l m : ℕ) (x : Text)
      → means n fs (steps n (expression n) b o (at l (t.sign t.dot) ∷ at m (t.word x) ∷ ts)) ≡ means n fs (steps n (expression n) b (by.property_of o.found (name_at m x)) ts)
  pub property_parenthesis :
      (l m : ℕ)
      → means n fs (steps n (expression n) b o (at l (t.sign t.dot) ∷ at m (t.sign t.open_parenthesis) ∷ ts))
      ≡ means n (push (f.in_parentheses m) (push (f.property_name b o) fs)) (expression n b 0 ts)
  pub verb_word :
      (l m : ℕ) (x : Text)
      → means n fs (steps n (expression n) b o (at l (t.sign t.colon) ∷ at m (t.word x) ∷ ts)) ≡ means n fs (resume n (f.verb_name b o) (name_at m x) ts)
  pub verb_parenthesis :
      (l m : ℕ)
      → means n fs (steps n (expression n) b o (at l (t.sign t.colon) ∷ at m (t.sign t.open_parenthesis) ∷ ts))
      ≡ means n (push (f.in_parentheses m) (push (f.verb_name b o) fs)) (expression n b 0 ts)
  pub bracket :
      (l : ℕ)
      → means n fs (steps n (expression n) b o (at l (t.sign t.open_bracket) ∷ ts)) ≡ means n (push (f.index_in b o) fs) (expression n true 0 ts)

-- past the name of a verb, and past what stands in brackets
pub record StepEnds (n : ℕ) (b : Bool) (o : Operand) (p : Placed) (ts : List Placed) (fs : Frames an_operand) : Type 0 where
  pub verb_arguments :
      (v : Found) → is_sign t.open_parenthesis p.token ≡ true
      → means n fs (resume n (f.verb_name b o) v (p ∷ ts))
      ≡ means n (push (f.verb_arguments o.found v) (push (f.steps_behind b) fs)) (by.arguments_to t.close_parenthesis n (expression n) b ts)
  pub range :
      (i : Found) → is_sign t.double_dot p.token ≡ true
      → means n (push (f.index_in b o) fs) (got i (p ∷ ts)) ≡ means n (push (f.range_in b o i) fs) (expression n true 0 ts)
  pub index_closed :
      (i : Found) → is_sign t.double_dot p.token ≡ false → is_sign t.close_bracket p.token ≡ true
      → means n (push (f.index_in b o) fs) (got i (p ∷ ts)) ≡ means n fs (steps n (expression n) b (by.index_of o i) ts)
  pub range_closed :
      (i j : Found) → is_sign t.close_bracket p.token ≡ true
      → means n (push (f.range_in b o i) fs) (got j (p ∷ ts)) ≡ means n fs (steps n (expression n) b (by.range_of o i j) ts)
  pub called :
      (x : Text) (line : ℕ) → is_sign t.open_parenthesis p.token ≡ true
      → means n fs (by.word_first n (expression n) b x line (p ∷ ts)) ≡ means n (push (f.call_of x line) fs) (by.arguments_to t.close_parenthesis n (expression n) b ts)

-- a word with no parenthesis behind it is a variable
abbrev pub VariableMove : Type 0
VariableMove =
    (n : ℕ) (b : Bool) (x : Text) (line : ℕ) (ts : List Placed) (fs : Frames an_operand) → begins_with t.open_parenthesis ts ≡ false
    → means n fs (by.word_first n (expression n) b x line ts)
    ≡ means n fs (got (by.assignable (by.found_at line (variable (fold_case x)) []) (to_variable (fold_case x))) ts)

-- behind a whole operand: `=`, or its operators
pub record ValueMoves (n : ℕ) (b : Bool) (o : Operand) (fs : Frames an_expression) : Type 0 where
  pub assigned :
      (x : Target) (p : Placed) (ts : List Placed) → o.braces ≡ by.no_braces → o.target ≡ Some x → is_sign t.assign p.token ≡ true
      → means n (push (f.value_behind b zero) fs) (got o (p ∷ ts)) ≡ means n (push (f.assigned_to o.found x) fs) (expression n b 0 ts)
  pub scattered :
      (items : Items) (ns : List Node) (p : Placed) (ts : List Placed) → o.braces ≡ by.perhaps_scatter items ns → is_sign t.assign p.token ≡ true
      → means n (push (f.value_behind b zero) fs) (got o (p ∷ ts)) ≡ means n (push (f.scattered_to o.found.line items ns) fs) (expression n b 0 ts)
  pub surely_scattered :
      (items : Items) (ns : List Node) (p : Placed) (ts : List Placed) → o.braces ≡ by.surely_scatter items ns → is_sign t.assign p.token ≡ true
      → means n (push (f.value_behind b zero) fs) (got o (p ∷ ts)) ≡ means n (push (f.scattered_to o.found.line items ns) fs) (expression n b 0 ts)
  pub no_target :
      (k : ℕ) (ts : List Placed) → o.braces ≡ by.no_braces → o.target ≡ None
      → means n (push (f.value_behind b k) fs) (got o ts) ≡ means n fs (operators n (expression n) b k o.found ts)
  pub value :
      (k : ℕ) (ts : List Placed) → by.is_surely_scatter o.braces ≡ false → begins_with t.assign ts ≡ false
      → means n (push (f.value_behind b k) fs) (got o ts) ≡ means n fs (operators n (expression n) b k o.found ts)
  pub inner :
      (k : ℕ) (ts : List Placed) → by.is_surely_scatter o.braces ≡ false
      → means n (push (f.value_behind b (suc k)) fs) (got o ts) ≡ means n fs (operators n (expression n) b (suc k) o.found ts)

abbrev pub BarMove : Type 0
BarMove =
    (n : ℕ) (b : Bool) (k : ℕ) (c x : Found) (p : Placed) (ts : List Placed) (fs : Frames an_expression) → is_sign t.bar p.token ≡ true
    → means n (push (f.chosen_first b k c) fs) (got x (p ∷ ts)) ≡ means n (push (f.chosen_second b k c x) fs) (expression n b 1 ts)

abbrev pub StepMovesHold : Type 0
StepMovesHold =
    (n : ℕ) (b : Bool) (o : Operand) (ts : List Placed) (fs : Frames an_operand)
    → suc (suc (length ts)) < n → by.is_surely_scatter o.braces ≡ false → StepMoves n b o ts fs

abbrev pub StepEndsHold : Type 0
StepEndsHold = (n : ℕ) (b : Bool) (o : Operand) (p : Placed) (ts : List Placed) (fs : Frames an_operand) → StepEnds n b o p ts fs

abbrev pub ValueMovesHold : Type 0
ValueMovesHold = (n : ℕ) (b : Bool) (o : Operand) (fs : Frames an_expression) → ValueMoves n b o fs
