-- What a reader leaves of the tokens that it was given: an end of them, and where it found something, a shorter one.
use Rattle.std.specs.Prelude.{ℕ, suc, ◌<◌, ◌≡◌, Bool, List, ◌∷◌, length}
use Rattle.spec_program.specs.Tokens.{Placed}
use Rattle.spec_program.specs.Reading.{Read, got, stuck}
use Rattle.spec_program.specs.ReadExpressions.{Found, Operand, Allowed, some_arguments, steps, items_from, operators, expression}
use Rattle.spec_program.specs.ReadPrograms.{branches, arms, block, parsed_by, parsed_tokens}

-- `Ends us ts`: us is what is left of ts past some of its tokens
pub data Ends : List Placed → List Placed → Type 0 where
  all : {ts : List Placed} → Ends ts ts
  past : {us ts : List Placed} (p : Placed) → Ends us ts → Ends us (p ∷ ts)

-- past at least one
pub data Behind : List Placed → List Placed → Type 0 where
  behind : {us ts : List Placed} (p : Placed) → Ends us ts → Behind us (p ∷ ts)

-- what is found stands in one token at least; where reading sticks is an end of the tokens too
abbrev pub Consumes : {X : Type 0} → List Placed → Read X → Type 0
Consumes ts (got x us) = Behind us ts
Consumes ts (stuck us) = Ends us ts

-- what is found may stand in no token
abbrev pub Leaves : {X : Type 0} → List Placed → Read X → Type 0
Leaves ts (got x us) = Ends us ts
Leaves ts (stuck us) = Ends us ts

-- ---- any number greater than that of the tokens is enough for them: two of them read alike

abbrev pub EnoughForExpression : Type 0
EnoughForExpression =
    (n m : ℕ) (b : Bool) (k : ℕ) (ts : List Placed)
    → length ts < n → length ts < m → expression n b k ts ≡ expression m b k ts

abbrev pub ExpressionConsumes : Type 0
ExpressionConsumes = (n : ℕ) (b : Bool) (k : ℕ) (ts : List Placed) → length ts < n → Consumes ts (expression n b k ts)

-- of the parts with a number of their own: it and the one of the expressions within are both enough
pub record Both (n i : ℕ) (ts : List Placed) : Type 0 where
  pub own : length ts < n
  pub within : length ts < i

abbrev pub EnoughForArguments : Type 0
EnoughForArguments =
    (n m i j : ℕ) (b : Bool) (ts : List Placed)
    → Both n i ts → Both m j ts → some_arguments n (expression i) b ts ≡ some_arguments m (expression j) b ts

abbrev pub EnoughForSteps : Type 0
EnoughForSteps =
    (n m i j : ℕ) (b : Bool) (o : Operand) (ts : List Placed)
    → Both n i ts → Both m j ts → steps n (expression i) b o ts ≡ steps m (expression j) b o ts

abbrev pub EnoughForItems : Type 0
EnoughForItems =
    (n m i j : ℕ) (b : Bool) (a : Allowed) (ts : List Placed)
    → Both n i ts → Both m j ts → items_from n (expression i) b a ts ≡ items_from m (expression j) b a ts

abbrev pub EnoughForOperators : Type 0
EnoughForOperators =
    (n m i j : ℕ) (b : Bool) (k : ℕ) (a : Found) (ts : List Placed)
    → Both n i ts → Both m j ts → operators n (expression i) b k a ts ≡ operators m (expression j) b k a ts

-- arguments and items stand in one token at least, steps and operators may be none
abbrev pub PartsConsume : Type 0
PartsConsume =
    (n i : ℕ) (b : Bool) (ts : List Placed) → Both n i ts
    → Consumes ts (some_arguments n (expression i) b ts)
    × ((a : Allowed) → Consumes ts (items_from n (expression i) b a ts))
    × ((o : Operand) → Leaves ts (steps n (expression i) b o ts))
    × ((k : ℕ) (a : Found) → Leaves ts (operators n (expression i) b k a ts))

-- ---- of statements: a block may stand in no token, and its number is greater by one

abbrev pub EnoughForBlock : Type 0
EnoughForBlock = (n m : ℕ) (ts : List Placed) → suc (length ts) < n → suc (length ts) < m → block n ts ≡ block m ts

abbrev pub BlockLeaves : Type 0
BlockLeaves = (n : ℕ) (ts : List Placed) → suc (length ts) < n → Leaves ts (block n ts)

abbrev pub EnoughForBranches : Type 0
EnoughForBranches =
    (n m i j q r : ℕ) (ts : List Placed)
    → Both n i ts → Both m j ts → suc (length ts) < q → suc (length ts) < r
    → branches n (expression i) (block q) ts ≡ branches m (expression j) (block r) ts

abbrev pub EnoughForArms : Type 0
EnoughForArms =
    (n m i j q r : ℕ) (ts : List Placed)
    → Both n i ts → Both m j ts → suc (length ts) < q → suc (length ts) < r
    → arms n (expression i) (block q) ts ≡ arms m (expression j) (block r) ts

abbrev pub StatementPartsConsume : Type 0
StatementPartsConsume =
    (n i q : ℕ) (ts : List Placed) → Both n i ts → suc (length ts) < q
    → Consumes ts (branches n (expression i) (block q) ts) × Consumes ts (arms n (expression i) (block q) ts)

-- a whole text is read alike with each number that is enough
abbrev pub EnoughForText : Type 0
EnoughForText = (n : ℕ) (ts : List Placed) → suc (length ts) < n → parsed_tokens ts ≡ parsed_by ts (block n ts)
