-- Worked rows, true by computation: at which calls of a program a verb can wait, and what its constructs hold then.
use Rattle.std.specs.Prelude.{ℕ, pos, neg_ℤ, List, [], ◌∷◌, Bool, false, ◌&&◌, Option, Some, None, codes}
use Rattle.spec_value.specs.Datum.{Datum, integer, object, text, error, list, of_list, zero_division}
use Rattle.spec_value.specs.Operators.{negation, plus}
use Rattle.spec_program.specs.Tree.{Expr, literal, unary, binary, both, either, conditional, listing, call, property, verb_call, index, range, caught, assignment, scatter, no_arguments, argument, splice, any_code, codes_in, the_code, instead, Target, to_variable, to_property, to_index, to_range, required, optional, remaining, defaulted, no_items, Statement, evaluate, give, branch, for_each, for_range, repeat, fork, guarded, finished, Program, the_end, seq, no_branches, on, else_do, no_arms, except}
use Rattle.spec_program.specs.Construct.{Construct, of_program, Piece}
use Rattle.spec_program.specs.Place.{pieces_at, is_call}
use Rattle.spec_world.specs.WellFormed.{pieces_fit}
use Rattle.spec_rows.specs.Told.{AllPass, NonePasses}

-- ---- places

-- a call, where each construct round it holds what it does there
abbrev pub is_place : Option (Construct × List Piece) → Bool
is_place None = false
is_place (Some r) = is_call r.0 && pieces_fit r.1

abbrev pub only : Statement → Program
only s = seq s the_end

-- a verb can wait at this path of the statement, with these values held on the way, the outermost first
abbrev pub waits_in : Statement → List ℕ → List Datum → Bool
waits_in s path held = is_place (pieces_at (of_program (only s)) (1 ∷ path) held [])

abbrev pub waits_at : Expr → List ℕ → List Datum → Bool
waits_at e path held = waits_in (evaluate e) (1 ∷ path) held

abbrev pub called : Expr
called = call (codes "f") no_arguments

abbrev pub calling : Program
calling = only (evaluate called)

abbrev pub number : ℕ → Datum
number n = integer (pos n)

abbrev pub listed : List Datum → Datum
listed vs = list (of_list vs)

abbrev pub nothing : Datum
nothing = listed []

-- ---- expressions

-- the first of two operands is held, but not what decides whether the other is evaluated
abbrev pub Operands : Type 0
Operands =
    AllPass (
    waits_at (unary negation called) (1 ∷ []) []
    ∷ waits_at (binary plus called called) (1 ∷ []) []
    ∷ waits_at (binary plus called called) (2 ∷ []) (text (codes "a") ∷ [])
    ∷ waits_at (both called called) (2 ∷ []) []
    ∷ waits_at (either called called) (2 ∷ []) []
    ∷ waits_at (conditional called called called) (1 ∷ []) []
    ∷ waits_at (conditional called called called) (3 ∷ []) []
    ∷ [])
    × NonePasses (
    waits_at (unary negation called) (1 ∷ []) (number 1 ∷ [])
    ∷ waits_at (unary negation (literal (number 1))) (1 ∷ []) []
    ∷ waits_at (binary plus called called) (2 ∷ []) []
    ∷ waits_at (binary plus called called) (2 ∷ []) (number 1 ∷ number 2 ∷ [])
    ∷ waits_at (binary plus called called) (3 ∷ []) []
    ∷ waits_at (binary plus called called) (0 ∷ []) []
    ∷ waits_at (both called called) (2 ∷ []) (number 1 ∷ [])
    ∷ waits_at (conditional called called called) (2 ∷ []) (number 1 ∷ [])
    ∷ [])

-- f(1, @f(), f(f()))
abbrev pub nested_call : Expr
nested_call = call (codes "f") (argument (literal (number 1)) (splice called (argument (call (codes "f") (argument called no_arguments)) no_arguments)))

-- arguments and items are held as one list from the first on
abbrev pub Lists : Type 0
Lists =
    AllPass (
    waits_at nested_call [] []
    ∷ waits_at nested_call (2 ∷ []) (listed (number 1 ∷ []) ∷ [])
    ∷ waits_at nested_call (3 ∷ []) (nothing ∷ [])
    ∷ waits_at nested_call (3 ∷ 1 ∷ []) (nothing ∷ nothing ∷ [])
    ∷ waits_at (listing (argument called no_arguments)) (1 ∷ []) (nothing ∷ [])
    ∷ [])
    × NonePasses (
    waits_at nested_call (1 ∷ []) (nothing ∷ [])
    ∷ waits_at nested_call (2 ∷ []) []
    ∷ waits_at nested_call (2 ∷ []) (number 1 ∷ [])
    ∷ waits_at nested_call (3 ∷ 1 ∷ []) (nothing ∷ [])
    ∷ waits_at nested_call (4 ∷ []) (nothing ∷ [])
    ∷ waits_at (listing (argument called no_arguments)) (1 ∷ []) []
    ∷ waits_at (listing (argument called no_arguments)) [] []
    ∷ [])

-- f():f()(f(), @f())
abbrev pub called_verb : Expr
called_verb = verb_call called called (argument called (splice called no_arguments))

abbrev pub References : Type 0
References =
    AllPass (
    waits_at (property called called) (1 ∷ []) []
    ∷ waits_at (property called called) (2 ∷ []) (object (pos 1) ∷ [])
    ∷ waits_at called_verb [] []
    ∷ waits_at called_verb (2 ∷ []) (number 1 ∷ [])
    ∷ waits_at called_verb (3 ∷ []) (number 1 ∷ number 2 ∷ nothing ∷ [])
    ∷ waits_at called_verb (4 ∷ []) (number 1 ∷ number 2 ∷ listed (number 3 ∷ []) ∷ [])
    ∷ waits_at (index called called) (2 ∷ []) (number 1 ∷ [])
    ∷ waits_at (range called called called) (3 ∷ []) (number 1 ∷ number 2 ∷ [])
    ∷ [])
    × NonePasses (
    waits_at (property called called) (2 ∷ []) []
    ∷ waits_at called_verb (3 ∷ []) (number 1 ∷ number 2 ∷ [])
    ∷ waits_at called_verb (3 ∷ []) (number 1 ∷ number 2 ∷ number 3 ∷ [])
    ∷ waits_at (index called called) (2 ∷ []) []
    ∷ waits_at (range called called called) (3 ∷ []) (number 1 ∷ [])
    ∷ [])

-- `f() ! f(), @f() => f()', and `f() ! ANY'
abbrev pub caught_codes : Expr
caught_codes = caught called (codes_in (argument called (splice called no_arguments))) (instead called)

abbrev pub caught_all : Expr
caught_all = caught called any_code the_code

-- a catch holds its codes, or 0 where it takes every error, and never the one for the other
abbrev pub Catches : Type 0
Catches =
    AllPass (
    waits_at caught_codes (1 ∷ []) (listed (error zero_division ∷ []) ∷ [])
    ∷ waits_at caught_codes (2 ∷ []) (nothing ∷ [])
    ∷ waits_at caught_codes (3 ∷ []) (nothing ∷ [])
    ∷ waits_at caught_codes (4 ∷ []) []
    ∷ waits_at caught_all (1 ∷ []) (number 0 ∷ [])
    ∷ [])
    × NonePasses (
    waits_at caught_codes (1 ∷ []) (number 0 ∷ [])
    ∷ waits_at caught_codes (1 ∷ []) (error zero_division ∷ [])
    ∷ waits_at caught_codes (2 ∷ []) []
    ∷ waits_at caught_codes (4 ∷ []) (nothing ∷ [])
    ∷ waits_at caught_all (1 ∷ []) (nothing ∷ [])
    ∷ waits_at caught_all (1 ∷ []) (number 1 ∷ [])
    ∷ waits_at caught_all (2 ∷ []) []
    ∷ [])

-- f().(f())[f()][f()..f()] = f()
abbrev pub long_target : Target
long_target = to_range (to_index (to_property called called) called) called called

-- what is assigned to holds the values of its parts, one after another
abbrev pub Targets : Type 0
Targets =
    AllPass (
    waits_at (assignment (to_variable (codes "x")) called) (2 ∷ []) []
    ∷ waits_at (assignment (to_index (to_variable (codes "x")) called) called) (1 ∷ 2 ∷ []) []
    ∷ waits_at (assignment (to_index (to_variable (codes "x")) called) called) (2 ∷ []) (number 1 ∷ [])
    ∷ waits_at (assignment long_target called) (1 ∷ 1 ∷ 1 ∷ 1 ∷ []) []
    ∷ waits_at (assignment long_target called) (1 ∷ 1 ∷ 1 ∷ 2 ∷ []) (number 1 ∷ [])
    ∷ waits_at (assignment long_target called) (1 ∷ 1 ∷ 2 ∷ []) (number 1 ∷ number 2 ∷ [])
    ∷ waits_at (assignment long_target called) (1 ∷ 3 ∷ []) (number 1 ∷ number 2 ∷ number 3 ∷ number 4 ∷ [])
    ∷ waits_at (assignment long_target called) (2 ∷ []) (number 1 ∷ number 2 ∷ number 3 ∷ number 4 ∷ number 5 ∷ [])
    ∷ [])
    × NonePasses (
    waits_at (assignment (to_variable (codes "x")) called) (1 ∷ []) []
    ∷ waits_at (assignment (to_index (to_variable (codes "x")) called) called) (2 ∷ []) []
    ∷ waits_at (assignment long_target called) (1 ∷ 2 ∷ []) (number 1 ∷ number 2 ∷ [])
    ∷ waits_at (assignment long_target called) (2 ∷ []) (number 1 ∷ number 2 ∷ number 3 ∷ number 4 ∷ [])
    ∷ [])

-- {a, ?b = f(), @c, ?d = f(), ?e} = f()
abbrev pub scattered : Expr
scattered =
    scatter (required (codes "a") (defaulted (codes "b") called (remaining (codes "c") (defaulted (codes "d") called (optional (codes "e") no_items))))) called

-- a default holds the whole list
abbrev pub Scattering : Type 0
Scattering =
    AllPass (
    waits_at scattered (2 ∷ 1 ∷ []) (nothing ∷ [])
    ∷ waits_at scattered (4 ∷ 1 ∷ []) (listed (number 1 ∷ []) ∷ [])
    ∷ waits_at scattered (6 ∷ []) []
    ∷ [])
    × NonePasses (
    waits_at scattered (2 ∷ 1 ∷ []) []
    ∷ waits_at scattered (2 ∷ 1 ∷ []) (number 1 ∷ [])
    ∷ waits_at scattered (6 ∷ []) (nothing ∷ [])
    ∷ waits_at scattered (1 ∷ 1 ∷ []) (nothing ∷ [])
    ∷ [])

-- ---- statements

abbrev pub two_branches : Statement
two_branches = branch (on called calling (on called calling no_branches)) (else_do calling)

-- a condition is not held; the body of a fork is a task of its own
abbrev pub Branches : Type 0
Branches =
    AllPass (
    waits_in (give called) (1 ∷ []) []
    ∷ waits_in two_branches (1 ∷ []) []
    ∷ waits_in two_branches (2 ∷ 1 ∷ 1 ∷ []) []
    ∷ waits_in two_branches (3 ∷ []) []
    ∷ waits_in two_branches (5 ∷ 1 ∷ 1 ∷ []) []
    ∷ waits_in (repeat (Some (codes "x")) called calling) (1 ∷ []) []
    ∷ waits_in (repeat None called calling) (2 ∷ 1 ∷ 1 ∷ []) []
    ∷ waits_in (fork None called calling) (1 ∷ []) []
    ∷ [])
    × NonePasses (
    waits_in two_branches (2 ∷ 1 ∷ 1 ∷ []) (number 1 ∷ [])
    ∷ waits_in two_branches (6 ∷ 1 ∷ 1 ∷ []) []
    ∷ waits_in (repeat None called calling) (2 ∷ 1 ∷ 1 ∷ []) (number 1 ∷ [])
    ∷ waits_in (fork None called calling) (2 ∷ 1 ∷ 1 ∷ []) []
    ∷ [])

abbrev pub over_list : Program → Statement
over_list p = for_each (codes "x") called p

abbrev pub over_range : Program → Statement
over_range p = for_range (codes "x") called called p

-- a loop holds its list and how many turns of it were begun, or this turn's number or object and the last one
abbrev pub Loops : Type 0
Loops =
    AllPass (
    waits_in (over_list calling) (1 ∷ []) []
    ∷ waits_in (over_list calling) (2 ∷ 1 ∷ 1 ∷ []) (listed (number 7 ∷ number 8 ∷ []) ∷ number 1 ∷ [])
    ∷ waits_in (over_list calling) (2 ∷ 1 ∷ 1 ∷ []) (listed (number 7 ∷ number 8 ∷ []) ∷ number 2 ∷ [])
    ∷ waits_in (over_range calling) (2 ∷ []) (object (pos 1) ∷ [])
    ∷ waits_in (over_range calling) (3 ∷ 1 ∷ 1 ∷ []) (integer (neg_ℤ (pos 4)) ∷ number 0 ∷ [])
    ∷ waits_in (over_range calling) (3 ∷ 1 ∷ 1 ∷ []) (object (pos 3) ∷ object (pos 3) ∷ [])
    ∷ [])
    × NonePasses (
    waits_in (over_list calling) (2 ∷ 1 ∷ 1 ∷ []) (listed (number 7 ∷ []) ∷ number 0 ∷ [])
    ∷ waits_in (over_list calling) (2 ∷ 1 ∷ 1 ∷ []) (listed (number 7 ∷ []) ∷ number 2 ∷ [])
    ∷ waits_in (over_list calling) (2 ∷ 1 ∷ 1 ∷ []) (nothing ∷ number 1 ∷ [])
    ∷ waits_in (over_list calling) (2 ∷ 1 ∷ 1 ∷ []) (number 7 ∷ number 1 ∷ [])
    ∷ waits_in (over_range calling) (2 ∷ []) []
    ∷ waits_in (over_range calling) (3 ∷ 1 ∷ 1 ∷ []) (number 4 ∷ number 3 ∷ [])
    ∷ waits_in (over_range calling) (3 ∷ 1 ∷ 1 ∷ []) (number 1 ∷ object (pos 3) ∷ [])
    ∷ waits_in (over_range calling) (3 ∷ 1 ∷ 1 ∷ []) (text (codes "a") ∷ text (codes "b") ∷ [])
    ∷ [])

-- handlers for codes, for all errors, and for codes again
abbrev pub handled : Statement
handled =
    guarded calling
    (except None (codes_in (argument called (splice called no_arguments))) calling
    (except (Some (codes "e")) any_code calling
    (except None (codes_in (argument called no_arguments)) calling no_arms)))

-- the body holds what each arm takes; an arm's codes hold what the arms before it take
abbrev pub Handlers : Type 0
Handlers =
    AllPass (
    waits_in handled (1 ∷ 1 ∷ 1 ∷ []) (nothing ∷ number 0 ∷ nothing ∷ [])
    ∷ waits_in handled (3 ∷ []) (nothing ∷ [])
    ∷ waits_in handled (4 ∷ 1 ∷ 1 ∷ []) []
    ∷ waits_in handled (6 ∷ []) (nothing ∷ number 0 ∷ nothing ∷ [])
    ∷ waits_in handled (7 ∷ 1 ∷ 1 ∷ []) []
    ∷ [])
    × NonePasses (
    waits_in handled (1 ∷ 1 ∷ 1 ∷ []) (nothing ∷ nothing ∷ nothing ∷ [])
    ∷ waits_in handled (1 ∷ 1 ∷ 1 ∷ []) (number 0 ∷ number 0 ∷ nothing ∷ [])
    ∷ waits_in handled (1 ∷ 1 ∷ 1 ∷ []) (nothing ∷ number 0 ∷ [])
    ∷ waits_in handled (4 ∷ 1 ∷ 1 ∷ []) (nothing ∷ [])
    ∷ waits_in handled (6 ∷ []) (nothing ∷ nothing ∷ nothing ∷ [])
    ∷ waits_in handled (6 ∷ []) (nothing ∷ number 0 ∷ [])
    ∷ [])

abbrev pub at_last : Statement
at_last = finished calling calling

-- {this, verb, programmer, definer, player}
abbrev pub one_trace : Datum
one_trace = listed (object (pos 1) ∷ text (codes "v") ∷ object (pos 2) ∷ object (pos 3) ∷ object (pos 4) ∷ [])

abbrev pub told_error : Datum → List Datum → Datum
told_error message traceback = listed (number 2 ∷ error zero_division ∷ message ∷ number 0 ∷ listed traceback ∷ [])

-- a finally part holds how its body was left
abbrev pub FinallyParts : Type 0
FinallyParts =
    AllPass (
    waits_in at_last (1 ∷ 1 ∷ 1 ∷ []) []
    ∷ waits_in at_last (2 ∷ 1 ∷ 1 ∷ []) (listed (number 0 ∷ []) ∷ [])
    ∷ waits_in at_last (2 ∷ 1 ∷ 1 ∷ []) (listed (number 1 ∷ number 7 ∷ []) ∷ [])
    ∷ waits_in at_last (2 ∷ 1 ∷ 1 ∷ []) (told_error (text []) (one_trace ∷ []) ∷ [])
    ∷ [])
    × NonePasses (
    waits_in at_last (1 ∷ 1 ∷ 1 ∷ []) (listed (number 0 ∷ []) ∷ [])
    ∷ waits_in at_last (2 ∷ 1 ∷ 1 ∷ []) []
    ∷ waits_in at_last (2 ∷ 1 ∷ 1 ∷ []) (number 0 ∷ [])
    ∷ waits_in at_last (2 ∷ 1 ∷ 1 ∷ []) (listed (number 0 ∷ number 0 ∷ []) ∷ [])
    ∷ waits_in at_last (2 ∷ 1 ∷ 1 ∷ []) (listed (number 1 ∷ []) ∷ [])
    ∷ waits_in at_last (2 ∷ 1 ∷ 1 ∷ []) (told_error (text []) [] ∷ [])
    ∷ waits_in at_last (2 ∷ 1 ∷ 1 ∷ []) (told_error (number 5) (one_trace ∷ []) ∷ [])
    ∷ waits_in at_last (2 ∷ 1 ∷ 1 ∷ []) (told_error (text []) (listed (object (pos 1) ∷ []) ∷ []) ∷ [])
    ∷ waits_in at_last (2 ∷ 1 ∷ 1 ∷ []) (listed (number 3 ∷ number 0 ∷ []) ∷ [])
    ∷ waits_in at_last (2 ∷ 1 ∷ 1 ∷ []) (listed (number 5 ∷ []) ∷ [])
    ∷ [])

-- while (f()) for x in [f()..f()] try f(); finally f(); endtry endfor endwhile
abbrev pub in_two_loops : Statement
in_two_loops = repeat None called (only (over_range (only at_last)))

-- a `break` or `continue` out of its body goes past fewer loops than are round it
abbrev pub LeftLoops : Type 0
LeftLoops =
    AllPass (
    waits_in (over_list (only at_last)) (2 ∷ 1 ∷ 2 ∷ 1 ∷ 1 ∷ []) (listed (number 7 ∷ []) ∷ number 1 ∷ listed (number 3 ∷ number 0 ∷ []) ∷ [])
    ∷ waits_in in_two_loops (2 ∷ 1 ∷ 3 ∷ 1 ∷ 2 ∷ 1 ∷ 1 ∷ []) (number 1 ∷ number 1 ∷ listed (number 4 ∷ number 1 ∷ []) ∷ [])
    ∷ [])
    × NonePasses (
    waits_in (over_list (only at_last)) (2 ∷ 1 ∷ 2 ∷ 1 ∷ 1 ∷ []) (listed (number 7 ∷ []) ∷ number 1 ∷ listed (number 3 ∷ number 1 ∷ []) ∷ [])
    ∷ waits_in in_two_loops (2 ∷ 1 ∷ 3 ∷ 1 ∷ 2 ∷ 1 ∷ 1 ∷ []) (number 1 ∷ number 1 ∷ listed (number 4 ∷ number 2 ∷ []) ∷ [])
    ∷ waits_in in_two_loops (2 ∷ 1 ∷ 3 ∷ 1 ∷ 2 ∷ 1 ∷ 1 ∷ []) (number 1 ∷ number 1 ∷ listed (number 4 ∷ integer (neg_ℤ (pos 1)) ∷ []) ∷ [])
    ∷ [])
