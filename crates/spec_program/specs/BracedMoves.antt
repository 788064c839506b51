-- Moves over frames within braces and between a back quote and a quote, and behind `$`.
use Rattle.std.specs.Prelude.{ℕ, ◌==◌, ◌≡◌, Bool, true, false, List, [], ◌∷◌}
use Rattle.spec_program.specs.Tree.{listing, no_arguments, any_code, instead, the_code}
use Rattle.spec_program.specs.Tokens as t
use Rattle.spec_program.specs.Tokens.{Placed}
use Rattle.spec_program.specs.Reading.{got, is_sign, is_keyword}
use Rattle.spec_program.specs.ReadExpressions as by
use Rattle.spec_program.specs.ReadExpressions.{Found, FoundItems, FoundCodes, Allowed, some_arguments, items_from, expression}
use Rattle.spec_program.specs.Frames as f
use Rattle.spec_program.specs.Frames.{an_operand, some_items_read, some_codes_read, Frames, push, means}
use Rattle.spec_program.specs.Moves.{begins_with}

-- at first a list is possible, and a scatter where any expression may stand
abbrev pub all_allowed : ℕ → Allowed
all_allowed k = record { as_list = true; as_scatter = k == 0; has_rest = false }

pub record BraceMoves (n : ℕ) (b : Bool) (k line : ℕ) (fs : Frames an_operand) : Type 0 where
  pub empty :
      (p : Placed) (ts : List Placed) → is_sign t.close_brace p.token ≡ true
      → means n fs (by.in_braces n (expression n) b k line (p ∷ ts)) ≡ means n fs (got (by.whole (by.found_at line (listing no_arguments) [])) ts)
  pub items :
      (ts : List Placed) → begins_with t.close_brace ts ≡ false
      → means n fs (by.in_braces n (expression n) b k line ts) ≡ means n (push (f.in_braces line) fs) (items_from n (expression n) b (all_allowed k) ts)

-- behind an item
pub record ItemMoves (n : ℕ) (b : Bool) (a : Allowed) (i : f.Item) (p : Placed) (ts : List Placed) (fs : Frames some_items_read) : Type 0 where
  pub another :
      is_sign t.comma p.token ≡ true
      → means n fs (by.and_items (items_from n (expression n) b) a (f.with_item i) (p ∷ ts)) ≡ means n (push (f.item_before i) fs) (items_from n (expression n) b a ts)
  pub last :
      is_sign t.comma p.token ≡ false → is_sign t.close_brace p.token ≡ true
      → means n fs (by.and_items (items_from n (expression n) b) a (f.with_item i) (p ∷ ts)) ≡ means n fs (got (f.with_item i (by.no_more a)) ts)

abbrev pub all_codes : FoundCodes
all_codes = record { tree = any_code; nodes = [] }

pub record CodeMoves (n : ℕ) (b : Bool) (p : Placed) (ts : List Placed) (fs : Frames some_codes_read) : Type 0 where
  pub any :
      is_keyword t.any_word p.token ≡ true → means n fs (by.error_codes n (expression n) b (p ∷ ts)) ≡ means n fs (got all_codes ts)
  pub listed :
      is_keyword t.any_word p.token ≡ false
      → means n fs (by.error_codes n (expression n) b (p ∷ ts)) ≡ means n (push f.as_codes fs) (some_arguments n (expression n) b (p ∷ ts))

pub record CatchMoves (n : ℕ) (b : Bool) (line : ℕ) (e : Found) (p : Placed) (ts : List Placed) (fs : Frames an_operand) : Type 0 where
  pub codes_follow :
      is_sign t.not_sign p.token ≡ true
      → means n (push (f.caught_in b line) fs) (got e (p ∷ ts)) ≡ means n (push (f.caught_codes b line e) fs) (by.error_codes n (expression n) b ts)
  pub value_follows :
      (c : FoundCodes) → is_sign t.arrow p.token ≡ true
      → means n (push (f.caught_codes b line e) fs) (got c (p ∷ ts)) ≡ means n (push (f.caught_instead line e c) fs) (expression n b 0 ts)
  pub code_itself :
      (c : FoundCodes) → is_sign t.arrow p.token ≡ false → is_sign t.quote p.token ≡ true
      → means n (push (f.caught_codes b line e) fs) (got c (p ∷ ts)) ≡ means n fs (got (by.caught_with line e c the_code []) ts)
  pub closed :
      (c : FoundCodes) (d : Found) → is_sign t.quote p.token ≡ true
      → means n (push (f.caught_instead line e c) fs) (got d (p ∷ ts)) ≡ means n fs (got (by.caught_with line e c (instead d.tree) d.nodes) ts)

-- `$x` and `$x(..)`
pub record SystemMoves (n : ℕ) (b : Bool) (line : ℕ) (x : Found) (fs : Frames an_operand) : Type 0 where
  pub verb :
      (p : Placed) (ts : List Placed) → is_sign t.open_parenthesis p.token ≡ true
      → means n fs (by.system_first n (expression n) b line x (p ∷ ts))
      ≡ means n (push (f.verb_arguments (by.system_at line) x) fs) (by.arguments_to t.close_parenthesis n (expression n) b ts)
  pub property :
      (ts : List Placed) → begins_with t.open_parenthesis ts ≡ false
      → means n fs (by.system_first n (expression n) b line x ts) ≡ means n fs (got (by.property_of (by.system_at line) x) ts)

abbrev pub BraceMovesHold : Type 0
BraceMovesHold = (n : ℕ) (b : Bool) (k line : ℕ) (fs : Frames an_operand) → BraceMoves n b k line fs

abbrev pub ItemMovesHold : Type 0
ItemMovesHold = (n : ℕ) (b : Bool) (a : Allowed) (i : f.Item) (p : Placed) (ts : List Placed) (fs : Frames some_items_read) → ItemMoves n b a i p ts fs

abbrev pub CodeMovesHold : Type 0
CodeMovesHold = (n : ℕ) (b : Bool) (p : Placed) (ts : List Placed) (fs : Frames some_codes_read) → CodeMoves n b p ts fs

abbrev pub CatchMovesHold : Type 0
CatchMovesHold = (n : ℕ) (b : Bool) (line : ℕ) (e : Found) (p : Placed) (ts : List Placed) (fs : Frames an_operand) → CatchMoves n b line e p ts fs

abbrev pub SystemMovesHold : Type 0
SystemMovesHold = (n : ℕ) (b : Bool) (line : ℕ) (x : Found) (fs : Frames an_operand) → SystemMoves n b line x fs
