-- The moves over frames that no other file has, so that each place where a text is read has a law for each token, and for the end of the
-- tokens. By what is read, or by the newest frame where something was found:
--
--   expression                            ExpressionMove
--   operand                               OperandMoves; no operand begins so, the end: OperandFaults
--   steps                                 . : [ of an operand: StepMoves; no name: StepFaults; none of them, the end, a sure scatter: StepsStop
--   verb_name                             ( StepEnds; else: StepFaults
--   word_first                            ( StepEnds; else: VariableMove
--   dollar_first                          word and else: DollarMoves; then system_first: SystemMoves
--   arguments_to                          the sign, else: ArgumentMoves
--   some_arguments                        @ and else: ArgumentMoves
--   operators                             OperatorMoves; the end: OperatorsEnd
--   in_braces (read)                      } and else: BraceMoves
--   items_from                            word, @ word: ListItems, ScatterItems; ? and @ and else, the end: OtherListItems, OtherScatterItems
--   optional_item                         word with = and without, else: OptionalItems
--   and_items (goes_on)                   , } ItemMoves; else: ItemFaults
--   error_codes                           ANY and else: CodeMoves; the end: CodesEnd
--   block                                 BlockMoves; the end: BlockEnds
--   ended_by_semicolon, return_statement, leaving_statement       SimpleMoves
--   for_statement, for_named, for_in, while_statement, fork_statement, head_read      HeadMoves
--   branches                              BranchMoves
--   arms, arm_named                       ArmMoves
--
--   in_parentheses                        ) and else: ExpressionEnds
--   as_operand, behind_sign, call_of, property_name, verb_name, verb_arguments, steps_behind, in_braces       OperandEnds
--   behind_argument, argument_before, to_sign          ArgumentMoves
--   index_in, range_in                    .. ] StepEnds; else: StepFaults
--   value_behind                          ValueMoves; a sure scatter with no =: ValueFaults
--   chosen_first                          | BarMove; else: ExpressionEnds
--   right_of, chosen_second, assigned_to, scattered_to      ExpressionEnds
--   item_expression, item_default, item_before              ItemEnds
--   as_codes                              CodesEnd
--   caught_in, caught_codes, caught_instead                 ! => ' CatchMoves; else: CatchFaults
--   statement_before, block_behind, to_word                 BlockEnds
--   evaluated, returned                   SimpleMoves
--   head_of, block_of_body                HeadMoves
--   in_head, range_first, range_last      HeadEnds; else: HeadFaults
--   condition, block_of_branch, branch_before, as_else      BranchMoves
--   codes_of_arm, block_of_arm, arm_before                  ArmMoves
--   tried, finally_of, arms_of, branches_of                 TryMoves
--   whole_text                            the start and the end of a text
use Rattle.std.specs.Prelude.{ℕ, suc, ◌<◌, ◌≡◌, Bool, true, false, List, [], ◌∷◌, ◌++◌, length}
use Rattle.spec_value.specs.Datum.{Text, fold_case}
use Rattle.spec_value.specs.Operators.{UnaryOperator}
use Rattle.spec_program.specs.Tree.{own_length, unary, call, verb_call, conditional, assignment, scatter, Target, Items, codes_in}
use Rattle.spec_program.specs.Tokens as t
use Rattle.spec_program.specs.Tokens.{Token, Placed}
use Rattle.spec_program.specs.Reading.{got, stuck, is_sign, Node}
use Rattle.spec_program.specs.ReadExpressions as by
use Rattle.spec_program.specs.ReadExpressions.{Found, FoundArguments, FoundCodes, FoundItems, Operand, Allowed, some_arguments, steps, items_from, operators, expression}
use Rattle.spec_program.specs.Frames as f
use Rattle.spec_program.specs.Frames.{an_expression, an_operand, some_items_read, some_codes_read, Frames, Item, Join, push, resume, means}
use Rattle.spec_program.specs.Moves.{at, begins_with}
use Rattle.spec_program.specs.FurtherMoves.{name_at}
use Rattle.spec_program.specs.ItemChoices.{goes_on}
use Rattle.spec_program.specs.StatementMoves.{begins_with_word, begins_expression}

-- ---- where no token has to follow: what a frame makes of what was found

pub record OperandEnds (n : ℕ) (ts : List Placed) (fs : Frames an_operand) : Type 0 where
  pub in_parentheses : (e : Found) → means n (push f.as_operand fs) (got e ts) ≡ means n fs (got (by.whole e) ts)
  pub behind_sign :
      (u : UnaryOperator) (line : ℕ) (e : Found)
      → means n (push (f.behind_sign u line) fs) (got e ts) ≡ means n fs (got (by.whole (by.found_at line (unary u e.tree) e.nodes)) ts)
  pub called :
      (x : Text) (line : ℕ) (es : FoundArguments)
      → means n (push (f.call_of x line) fs) (got es ts) ≡ means n fs (got (by.whole (by.found_at line (call (fold_case x) es.tree) es.nodes)) ts)
  pub property :
      (b : Bool) (o : Operand) (p : Found)
      → means n (push (f.property_name b o) fs) (got p ts) ≡ means n fs (steps n (expression n) b (by.property_of o.found p) ts)
  pub verb :
      (b : Bool) (o : Operand) (v : Found) → means n (push (f.verb_name b o) fs) (got v ts) ≡ means n fs (resume n (f.verb_name b o) v ts)
  pub verb_called :
      (o v : Found) (es : FoundArguments)
      → means n (push (f.verb_arguments o v) fs) (got es ts)
      ≡ means n fs (got (by.whole (by.found_at o.line (verb_call o.tree v.tree es.tree) (o.nodes ++ (v.nodes ++ es.nodes)))) ts)
  pub stepped : (b : Bool) (o : Operand) → means n (push (f.steps_behind b) fs) (got o ts) ≡ means n fs (steps n (expression n) b o ts)
  pub braces :
      (line : ℕ) (i : FoundItems) → means n (push (f.in_braces line) fs) (got i ts) ≡ means n fs (got (by.braces_found line i) ts)

pub record ExpressionEnds (n : ℕ) (ts : List Placed) (fs : Frames an_expression) : Type 0 where
  pub closed :
      (line : ℕ) (e : Found) (p : Placed) → is_sign t.close_parenthesis p.token ≡ true
      → means n (push (f.in_parentheses line) fs) (got e (p ∷ ts)) ≡ means n fs (got (record e { line = line }) ts)
  pub not_closed :
      (line : ℕ) (e : Found) → begins_with t.close_parenthesis ts ≡ false → means n (push (f.in_parentheses line) fs) (got e ts) ≡ stuck ts
  pub joined :
      (b : Bool) (k : ℕ) (a c : Found) (j : Join)
      → means n (push (f.right_of b k a j) fs) (got c ts)
      ≡ means n fs (operators n (expression n) b k (by.found_at a.line (f.joins j a.tree c.tree) (a.nodes ++ c.nodes)) ts)
  pub no_bar :
      (b : Bool) (k : ℕ) (c x : Found) → begins_with t.bar ts ≡ false → means n (push (f.chosen_first b k c) fs) (got x ts) ≡ stuck ts
  pub chosen :
      (b : Bool) (k : ℕ) (c x y : Found)
      → means n (push (f.chosen_second b k c x) fs) (got y ts)
      ≡ means n fs (operators n (expression n) b k (by.found_at c.line (conditional c.tree x.tree y.tree) (c.nodes ++ (x.nodes ++ y.nodes))) ts)
  pub assigned :
      (a e : Found) (x : Target)
      → means n (push (f.assigned_to a x) fs) (got e ts) ≡ means n fs (got (by.found_at a.line (assignment x e.tree) (a.nodes ++ e.nodes)) ts)
  pub scattered :
      (line : ℕ) (items : Items) (ns : List Node) (e : Found)
      → means n (push (f.scattered_to line items ns) fs) (got e ts) ≡ means n fs (got (by.found_at line (scatter items e.tree) (ns ++ e.nodes)) ts)

pub record ItemEnds (n : ℕ) (b : Bool) (a : Allowed) (ts : List Placed) (fs : Frames some_items_read) : Type 0 where
  pub expression :
      (spliced : Bool) (e : Found)
      → means n (push (f.item_expression b a spliced) fs) (got e ts) ≡ means n fs (goes_on n b (by.list_alone a) (f.other spliced e) ts)
  pub default :
      (x : Text) (e : Found)
      → means n (push (f.item_default b a x) fs) (got e ts) ≡ means n fs (goes_on n b (by.scatter_alone a) (f.with_its_default x e) ts)
  pub joined : (i : Item) (r : FoundItems) → means n (push (f.item_before i) fs) (got r ts) ≡ means n fs (got (f.with_item i r) ts)

pub record CodesEnd (n : ℕ) (b : Bool) (fs : Frames some_codes_read) : Type 0 where
  pub listed :
      (es : FoundArguments) (ts : List Placed)
      → means n (push f.as_codes fs) (got es ts) ≡ means n fs (got (record { tree = codes_in es.tree; nodes = es.nodes }) ts)
  pub nothing_left :
      means n fs (by.error_codes n (expression n) b []) ≡ means n (push f.as_codes fs) (some_arguments n (expression n) b [])

-- ---- operands and what stands behind them

pub record OperandFaults (n : ℕ) (b : Bool) (k line : ℕ) (ts : List Placed) (fs : Frames an_operand) : Type 0 where
  pub other :
      (x : Token) → begins_expression x ≡ false → means n fs (by.operand n (expression n) b k (at line x ∷ ts)) ≡ stuck (at line x ∷ ts)
  pub nothing_left : means n fs (by.operand n (expression n) b k []) ≡ stuck []

abbrev pub is_step : Token → Bool
is_step (t.sign t.dot) = true
is_step (t.sign t.colon) = true
is_step (t.sign t.open_bracket) = true
is_step k = false

pub record StepsStop (n : ℕ) (b : Bool) (o : Operand) (fs : Frames an_operand) : Type 0 where
  pub other :
      (p : Placed) (ts : List Placed) → suc (length ts) < n → is_step p.token ≡ false
      → means n fs (steps n (expression n) b o (p ∷ ts)) ≡ means n fs (got o (p ∷ ts))
  pub nothing_left : 0 < n → means n fs (steps n (expression n) b o []) ≡ means n fs (got o [])
  pub surely_scatter :
      (ts : List Placed) → length ts < n → by.is_surely_scatter o.braces ≡ true
      → means n fs (steps n (expression n) b o ts) ≡ means n fs (got o ts)

-- a name is a word, or stands in parentheses
abbrev pub begins_name : Token → Bool
begins_name (t.word x) = true
begins_name (t.sign t.open_parenthesis) = true
begins_name k = false

abbrev pub begins_with_name : List Placed → Bool
begins_with_name [] = false
begins_with_name (p ∷ ts) = begins_name p.token

pub record StepFaults (n : ℕ) (b : Bool) (o : Operand) (ts : List Placed) (fs : Frames an_operand) : Type 0 where
  pub no_property :
      (l : ℕ) → suc (length ts) < n → by.is_surely_scatter o.braces ≡ false → begins_with_name ts ≡ false
      → means n fs (steps n (expression n) b o (at l (t.sign t.dot) ∷ ts)) ≡ stuck ts
  pub no_verb :
      (l : ℕ) → suc (length ts) < n → by.is_surely_scatter o.braces ≡ false → begins_with_name ts ≡ false
      → means n fs (steps n (expression n) b o (at l (t.sign t.colon) ∷ ts)) ≡ stuck ts
  pub not_called : (v : Found) → begins_with t.open_parenthesis ts ≡ false → means n fs (resume n (f.verb_name b o) v ts) ≡ stuck ts
  pub index_not_closed :
      (i : Found) → begins_with t.double_dot ts ≡ false → begins_with t.close_bracket ts ≡ false
      → means n (push (f.index_in b o) fs) (got i ts) ≡ stuck ts
  pub range_not_closed :
      (i j : Found) → begins_with t.close_bracket ts ≡ false → means n (push (f.range_in b o i) fs) (got j ts) ≡ stuck ts

-- `$` alone stands in brackets only
pub record DollarMoves (n line : ℕ) (ts : List Placed) (fs : Frames an_operand) : Type 0 where
  pub word :
      (b : Bool) (l : ℕ) (x : Text)
      → means n fs (by.dollar_first n (expression n) b line (at l (t.word x) ∷ ts)) ≡ means n fs (by.system_first n (expression n) b line (name_at l x) ts)
  pub alone_in_brackets :
      begins_with_word ts ≡ false
      → means n fs (by.dollar_first n (expression n) true line ts) ≡ means n fs (got (by.whole (by.found_at line own_length [])) ts)
  pub alone : begins_with_word ts ≡ false → means n fs (by.dollar_first n (expression n) false line ts) ≡ stuck ts

-- a sure scatter stands before `=` only, and where any expression may stand
pub record ValueFaults (n : ℕ) (b : Bool) (o : Operand) (ts : List Placed) (fs : Frames an_expression) : Type 0 where
  pub no_value :
      (k : ℕ) → by.is_surely_scatter o.braces ≡ true → begins_with t.assign ts ≡ false
      → means n (push (f.value_behind b k) fs) (got o ts) ≡ stuck ts
  pub within : (k : ℕ) → by.is_surely_scatter o.braces ≡ true → means n (push (f.value_behind b (suc k)) fs) (got o ts) ≡ stuck ts

-- ---- braces

-- neither a word, nor `?`, nor `@`
abbrev pub is_other_item : Token → Bool
is_other_item (t.word x) = false
is_other_item (t.sign t.question) = false
is_other_item (t.sign t.at_sign) = false
is_other_item k = true

pub record OtherListItems (n : ℕ) (b : Bool) (a : Allowed) (l : ℕ) (ts : List Placed) (fs : Frames some_items_read) : Type 0 where
  pub optional :
      a.as_scatter ≡ true
      → means n fs (items_from n (expression n) b a (at l (t.sign t.question) ∷ ts))
      ≡ means n fs (by.optional_item (expression n) b (items_from n (expression n) b) a ts)
  pub not_optional :
      a.as_scatter ≡ false → means n fs (items_from n (expression n) b a (at l (t.sign t.question) ∷ ts)) ≡ stuck (at l (t.sign t.question) ∷ ts)
  pub spliced :
      begins_with_word ts ≡ false
      → means n fs (items_from n (expression n) b a (at l (t.sign t.at_sign) ∷ ts)) ≡ means n (push (f.item_expression b a true) fs) (expression n b 0 ts)
  pub plain :
      (k : Token) → is_other_item k ≡ true
      → means n fs (items_from n (expression n) b a (at l k ∷ ts)) ≡ means n (push (f.item_expression b a false) fs) (expression n b 0 (at l k ∷ ts))
  pub nothing_left : means n fs (items_from n (expression n) b a []) ≡ stuck []

pub record OtherScatterItems (n : ℕ) (b : Bool) (a : Allowed) (l : ℕ) (ts : List Placed) (fs : Frames some_items_read) : Type 0 where
  pub optional :
      means n fs (items_from n (expression n) b a (at l (t.sign t.question) ∷ ts))
      ≡ means n fs (by.optional_item (expression n) b (items_from n (expression n) b) a ts)
  pub rest_again :
      a.has_rest ≡ true → means n fs (items_from n (expression n) b a (at l (t.sign t.at_sign) ∷ ts)) ≡ stuck (at l (t.sign t.at_sign) ∷ ts)
  pub no_rest :
      a.has_rest ≡ false → begins_with_word ts ≡ false → means n fs (items_from n (expression n) b a (at l (t.sign t.at_sign) ∷ ts)) ≡ stuck ts
  pub other :
      (k : Token) → is_other_item k ≡ true → means n fs (items_from n (expression n) b a (at l k ∷ ts)) ≡ stuck (at l k ∷ ts)
  pub nothing_left : means n fs (items_from n (expression n) b a []) ≡ stuck []

-- behind `?`
pub record OptionalItems (n : ℕ) (b : Bool) (a : Allowed) (ts : List Placed) (fs : Frames some_items_read) : Type 0 where
  pub default :
      (l : ℕ) (x : Text) (p : Placed) → is_sign t.assign p.token ≡ true
      → means n fs (by.optional_item (expression n) b (items_from n (expression n) b) a (at l (t.word x) ∷ p ∷ ts))
      ≡ means n (push (f.item_default b a x) fs) (expression n b 0 ts)
  pub bare :
      (l : ℕ) (x : Text) → begins_with t.assign ts ≡ false
      → means n fs (by.optional_item (expression n) b (items_from n (expression n) b) a (at l (t.word x) ∷ ts))
      ≡ means n fs (goes_on n b (by.scatter_alone a) (f.bare_optional x) ts)
  pub no_word :
      begins_with_word ts ≡ false → means n fs (by.optional_item (expression n) b (items_from n (expression n) b) a ts) ≡ stuck ts

abbrev pub ItemFault : Type 0
ItemFault =
    (n : ℕ) (b : Bool) (a : Allowed) (i : Item) (ts : List Placed) (fs : Frames some_items_read)
    → begins_with t.comma ts ≡ false → begins_with t.close_brace ts ≡ false → means n fs (goes_on n b a i ts) ≡ stuck ts

-- ---- between a back quote and a quote

pub record CatchFaults (n : ℕ) (b : Bool) (line : ℕ) (e : Found) (ts : List Placed) (fs : Frames an_operand) : Type 0 where
  pub no_codes : begins_with t.not_sign ts ≡ false → means n (push (f.caught_in b line) fs) (got e ts) ≡ stuck ts
  pub codes_not_ended :
      (c : FoundCodes) → begins_with t.arrow ts ≡ false → begins_with t.quote ts ≡ false
      → means n (push (f.caught_codes b line e) fs) (got c ts) ≡ stuck ts
  pub not_closed :
      (c : FoundCodes) (d : Found) → begins_with t.quote ts ≡ false → means n (push (f.caught_instead line e c) fs) (got d ts) ≡ stuck ts

-- ---- all of them

abbrev pub OperandEndsHold : Type 0
OperandEndsHold = (n : ℕ) (ts : List Placed) (fs : Frames an_operand) → OperandEnds n ts fs

abbrev pub ExpressionEndsHold : Type 0
ExpressionEndsHold = (n : ℕ) (ts : List Placed) (fs : Frames an_expression) → ExpressionEnds n ts fs

abbrev pub ItemEndsHold : Type 0
ItemEndsHold = (n : ℕ) (b : Bool) (a : Allowed) (ts : List Placed) (fs : Frames some_items_read) → ItemEnds n b a ts fs

abbrev pub CodesEndHolds : Type 0
CodesEndHolds = (n : ℕ) (b : Bool) (fs : Frames some_codes_read) → CodesEnd n b fs

abbrev pub OperandFaultsHold : Type 0
OperandFaultsHold = (n : ℕ) (b : Bool) (k line : ℕ) (ts : List Placed) (fs : Frames an_operand) → OperandFaults n b k line ts fs

abbrev pub StepsStopHolds : Type 0
StepsStopHolds = (n : ℕ) (b : Bool) (o : Operand) (fs : Frames an_operand) → StepsStop n b o fs

abbrev pub StepFaultsHold : Type 0
StepFaultsHold = (n : ℕ) (b : Bool) (o : Operand) (ts : List Placed) (fs : Frames an_operand) → StepFaults n b o ts fs

abbrev pub DollarMovesHold : Type 0
DollarMovesHold = (n line : ℕ) (ts : List Placed) (fs : Frames an_operand) → DollarMoves n line ts fs

abbrev pub ValueFaultsHold : Type 0
ValueFaultsHold = (n : ℕ) (b : Bool) (o : Operand) (ts : List Placed) (fs : Frames an_expression) → ValueFaults n b o ts fs

abbrev pub OtherListItemsHold : Type 0
OtherListItemsHold =
    (n : ℕ) (b : Bool) (a : Allowed) (l : ℕ) (ts : List Placed) (fs : Frames some_items_read)
    → suc (length ts) < n → a.as_list ≡ true → OtherListItems n b a l ts fs

abbrev pub OtherScatterItemsHold : Type 0
OtherScatterItemsHold =
    (n : ℕ) (b : Bool) (a : Allowed) (l : ℕ) (ts : List Placed) (fs : Frames some_items_read)
    → suc (length ts) < n → a.as_list ≡ false → OtherScatterItems n b a l ts fs

abbrev pub OptionalItemsHold : Type 0
OptionalItemsHold = (n : ℕ) (b : Bool) (a : Allowed) (ts : List Placed) (fs : Frames some_items_read) → OptionalItems n b a ts fs

abbrev pub CatchFaultsHold : Type 0
CatchFaultsHold = (n : ℕ) (b : Bool) (line : ℕ) (e : Found) (ts : List Placed) (fs : Frames an_operand) → CatchFaults n b line e ts fs
