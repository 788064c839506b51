-- What of a program can be under way: a part of its tree, and what it holds.
use Rattle.std.specs.Prelude.{ℕ, List}
use Rattle.spec_value.specs.Datum.{Datum, Text}
use Rattle.spec_program.specs.Tree.{Expr, Target, Statement, Program}

-- a part of a tree that has parts of its own
pub data Construct : Type 0 where
  of_expr : Expr → Construct
  of_target : Target → Construct
  of_default : Text → Expr → Construct  -- a scatter's item with a default
  of_statement : Statement → Construct
  of_program : Program → Construct

-- a construct that was begun: the part under way, counted from 1 as written, and the values that it holds
pub record Piece : Type 0 where
  pub construct : Construct
  pub part : ℕ
  pub held : List Datum
