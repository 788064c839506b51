-- A program as its source tree (Programmer's Manual, "The MOO Programming Language"): the whole grammar.
use Rattle.std.specs.Prelude.{Option}
use Rattle.spec_value.specs.Datum.{Datum, Text}
use Rattle.spec_value.specs.Operators.{UnaryOperator, BinaryOperator}

-- Variables and functions by their names in lower case. A name after `.` or `:` is an expression; written plainly it is a literal text.
mutual
  pub data Expr : Type 0 where
    literal : Datum → Expr
    variable : Text → Expr
    own_length : Expr  -- `$` in brackets
    unary : UnaryOperator → Expr → Expr
    binary : BinaryOperator → Expr → Expr → Expr
    both either : Expr → Expr → Expr  -- `&&`, `||`
    conditional : Expr → Expr → Expr → Expr  -- `c ? a | b`
    listing : Arguments → Expr
    call : Text → Arguments → Expr
    property : Expr → Expr → Expr
    verb_call : Expr → Expr → Arguments → Expr
    index : Expr → Expr → Expr
    range : Expr → Expr → Expr → Expr
    caught : Expr → Codes → Fallback → Expr  -- `e ! codes => d` between a back quote and a quote
    assignment : Target → Expr → Expr
    scatter : Items → Expr → Expr

  pub data Arguments : Type 0 where
    no_arguments : Arguments
    argument splice : Expr → Arguments → Arguments  -- `e`, `@e`

  pub data Codes : Type 0 where
    any_code : Codes
    codes_in : Arguments → Codes

  pub data Fallback : Type 0 where
    the_code : Fallback
    instead : Expr → Fallback

  pub data Target : Type 0 where
    to_variable : Text → Target
    to_property : Expr → Expr → Target
    to_index : Target → Expr → Target
    to_range : Target → Expr → Expr → Target

  pub data Items : Type 0 where
    no_items : Items
    required optional remaining : Text → Items → Items  -- `x`, `?x`, `@x`
    defaulted : Text → Expr → Items → Items  -- `?x = e`

mutual
  pub data Statement : Type 0 where
    evaluate : Expr → Statement
    give : Expr → Statement  -- `return e;`
    give_zero : Statement  -- `return;`
    branch : Branches → Otherwise → Statement
    for_each : Text → Expr → Program → Statement
    for_range : Text → Expr → Expr → Program → Statement
    repeat : Option Text → Expr → Program → Statement  -- `while`
    fork : Option Text → Expr → Program → Statement
    guarded : Program → Arms → Statement  -- `try` with handlers
    finished : Program → Program → Statement  -- `try` with a finally part
    leave_loop next_turn : Option Text → Statement  -- `break`, `continue`

  pub data Program : Type 0 where
    the_end : Program
    seq : Statement → Program → Program

  pub data Branches : Type 0 where
    no_branches : Branches
    on : Expr → Program → Branches → Branches

  -- an `else` with nothing in it is kept
  pub data Otherwise : Type 0 where
    no_else : Otherwise
    else_do : Program → Otherwise

  pub data Arms : Type 0 where
    no_arms : Arms
    except : Option Text → Codes → Program → Arms → Arms
