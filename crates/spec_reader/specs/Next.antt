-- What a reader of tokens does next, and how it takes tokens.
use Rattle.std.specs.Prelude.{ℕ, Bool, true, false, List, [], ◌∷◌, Option, Some, None}
use Rattle.spec_value.specs.Datum.{Text}
use Rattle.spec_program.specs.Tokens.{Sign, Keyword, Token, word, Placed}
use Rattle.spec_program.specs.Reading.{Read, got, stuck, is_sign, is_keyword}
use Rattle.spec_program.specs.ReadExpressions.{Found, Operand, Allowed, some_arguments, steps, items_from, operators, expression}
use Rattle.spec_program.specs.ReadPrograms.{FoundBlock, branches, arms, block}
use Rattle.spec_program.specs.Frames.{Kind, an_expression, an_operand, some_arguments_read, some_items_read, a_block, some_branches_read, some_arms_read, Of, Frames, means}

-- what is read next, or was found, with the frames of what was begun; the first Bool tells whether it stands in brackets
pub data Next : Type 0 where
  found : {a : Kind} → Frames a → Of a → Next
  reads_expression : Bool → ℕ → Frames an_expression → Next  -- one that binds at least so tightly
  reads_steps : Bool → Operand → Frames an_operand → Next
  reads_operators : Bool → ℕ → Found → Frames an_expression → Next
  reads_arguments : Bool → Frames some_arguments_read → Next
  reads_items : Bool → Allowed → Frames some_items_read → Next
  reads_block : Frames a_block → Next
  reads_branches : Frames some_branches_read → Next
  reads_arms : Frames some_arms_read → Next
  sticks : Next  -- no program goes on with the next token

-- with the tokens that are left
pub record State : Type 0 where
  pub next : Next
  pub left : List Placed

abbrev pub goes : Next → List Placed → State
goes x ts = record { next = x; left = ts }

abbrev pub stops : List Placed → State
stops ts = goes sticks ts

-- what it means, by a number that is enough for all tokens
abbrev pub next_means : ℕ → Next → List Placed → Read FoundBlock
next_means n (found fs v) ts = means n fs (got v ts)
next_means n (reads_expression b k fs) ts = means n fs (expression n b k ts)
next_means n (reads_steps b o fs) ts = means n fs (steps n (expression n) b o ts)
next_means n (reads_operators b k e fs) ts = means n fs (operators n (expression n) b k e ts)
next_means n (reads_arguments b fs) ts = means n fs (some_arguments n (expression n) b ts)
next_means n (reads_items b a fs) ts = means n fs (items_from n (expression n) b a ts)
next_means n (reads_block fs) ts = means n fs (block n ts)
next_means n (reads_branches fs) ts = means n fs (branches n (expression n) (block n) ts)
next_means n (reads_arms fs) ts = means n fs (arms n (expression n) (block n) ts)
next_means n sticks ts = stuck ts

abbrev pub state_means : ℕ → State → Read FoundBlock
state_means n s = next_means n s.next s.left

-- ---- a token that is taken if it is there, and what is left then

pub record Taken : Type 0 where
  pub there : Bool
  pub left : List Placed

abbrev pub if_there : Bool → Placed → List Placed → Taken
if_there true p ts = record { there = true; left = ts }
if_there false p ts = record { there = false; left = p ∷ ts }

abbrev pub taken : (Token → Bool) → List Placed → Taken
taken test [] = record { there = false; left = [] }
taken test (p ∷ ts) = if_there (test p.token) p ts

abbrev pub by_presence : Bool → (List Placed → State) → (List Placed → State) → List Placed → State
by_presence true f g us = f us
by_presence false f g us = g us

abbrev pub on : (List Placed → State) → (List Placed → State) → Taken → State
on f g r = by_presence r.there f g r.left

abbrev pub on_sign : Sign → (List Placed → State) → (List Placed → State) → List Placed → State
on_sign s f g ts = on f g (taken (is_sign s) ts)

abbrev pub on_keyword : Keyword → (List Placed → State) → (List Placed → State) → List Placed → State
on_keyword k f g ts = on f g (taken (is_keyword k) ts)

-- a word that is taken if it is there, with its text and its line
pub record TakenWord : Type 0 where
  pub word : Option (Text × ℕ)
  pub left : List Placed

abbrev pub no_word : List Placed → TakenWord
no_word ts = record { word = None; left = ts }

abbrev pub this_word : Text → ℕ → List Placed → TakenWord
this_word x line ts = record { word = Some (x, line); left = ts }

abbrev pub if_word : Token → ℕ → List Placed → List Placed → TakenWord
if_word (word x) line rest all = this_word x line rest
if_word k line rest all = no_word all

abbrev pub taken_word : List Placed → TakenWord
taken_word [] = no_word []
taken_word (p ∷ ts) = if_word p.token p.line ts (p ∷ ts)

abbrev pub by_word : Option (Text × ℕ) → (Text → ℕ → List Placed → State) → (List Placed → State) → List Placed → State
by_word (Some w) f g us = f w.0 w.1 us
by_word None f g us = g us

abbrev pub on_word : (Text → ℕ → List Placed → State) → (List Placed → State) → TakenWord → State
on_word f g r = by_word r.word f g r.left
