-- Worked rows, true by computation: what programs come to on the fixture.
use Rattle.std.specs.Prelude.{◌≡◌, ℕ, pos, List, [], ◌∷◌, ◌++◌, replicate, length, Some, None, codes}
use Rattle.spec_value.specs.Datum.{integer, text, error, list, of_list, Text, zero_division, type_mismatch, limit_exceeded, too_many_calls, variable_not_found}
use Rattle.spec_value.specs.Operators.{plus, divided_by, negation}
use Rattle.spec_program.specs.Tree.{Expr, literal, variable, unary, binary, listing, verb_call, caught, no_arguments, codes_in, instead, for_each, for_range, repeat, fork, guarded, finished, leave_loop, next_turn, Program, the_end, seq, except, no_arms, any_code}
use Rattle.spec_world.specs.Outcome.{Queued, at_moment}
use Rattle.spec_fixture.specs.Programs.{number, word, one_given, two_given, none_given, only, returning, doing, setting, sum_program, call_program, plot_program, spin_program, storm_program}
use Rattle.spec_moo_rows.specs.Trying.{Written, wizards, wizards_without_debug, value_of, raised_by, ran_out, came_to, came, tried, run_with}

-- ---- short programs

abbrev pub try_it : Program → List Written
try_it p = wizards (codes "try") p ∷ []

abbrev pub try_without_debug : Program → List Written
try_without_debug p = wizards_without_debug (codes "try") p ∷ []

abbrev pub traced : Text → List Text
traced message = (codes "#3:try: " ++ message) ∷ codes "(End of traceback)" ∷ []

-- the empty program; 1 + 2 * 3
abbrev pub EmptyProgram : Type 0
EmptyProgram = tried (try_it the_end) ≡ came_to (value_of (integer (pos 0))) 0 []

abbrev pub Sums : Type 0
Sums = tried (try_it sum_program) ≡ came_to (value_of (integer (pos 7))) 3 []

abbrev pub one_by_zero : Expr
one_by_zero = binary divided_by (number 1) (number 0)

-- return `1 / 0 ! E_DIV => 7';
abbrev pub Caught : Type 0
Caught =
    tried (try_it (returning (caught one_by_zero (codes_in (one_given (literal (error zero_division)))) (instead (number 7)))))
    ≡ came_to (value_of (integer (pos 7))) 3 []

-- return 1 / 0; with the bit d, and without
abbrev pub Raised : Type 0
Raised = tried (try_it (returning one_by_zero)) ≡ came_to (raised_by (error zero_division)) 1 (traced (codes "Division by zero"))

abbrev pub WithoutDebug : Type 0
WithoutDebug = tried (try_without_debug (returning one_by_zero)) ≡ came_to (value_of (error zero_division)) 2 []

-- return `#6:hum() ! E_VERBNF => "none"';
abbrev pub NoVerb : Type 0
NoVerb = tried (try_it call_program) ≡ came_to (value_of (text (codes "none"))) 3 []

-- ---- `for` and `fork` statements that raise

-- for x in (5) endfor return 3;
abbrev pub bad_loop : Program
bad_loop = seq (for_each (codes "x") (number 5) the_end) (returning (number 3))

abbrev pub LoopRaises : Type 0
LoopRaises = tried (try_it bad_loop) ≡ came_to (raised_by (error type_mismatch)) 0 (traced (codes "Type mismatch"))

abbrev pub LoopSkipped : Type 0
LoopSkipped = tried (try_without_debug bad_loop) ≡ came_to (value_of (integer (pos 3))) 1 []

-- fork b (-1) endfork return b; without the bit d: no variable is set
abbrev pub ForkSkipped : Type 0
ForkSkipped =
    tried (try_without_debug (seq (fork (Some (codes "b")) (unary negation (number 1)) the_end) (returning (variable (codes "b")))))
    ≡ came_to (value_of (error variable_not_found)) 3 []

-- ---- leaving

-- for i in [1..3] while j (1) try break i; finally n = 5; endtry endwhile endfor return n;
abbrev pub BreaksOut : Type 0
BreaksOut =
    tried
    (try_it
    (seq
    (for_range (codes "i") (number 1) (number 3)
    (only
    (repeat (Some (codes "j")) (number 1)
    (only (finished (only (leave_loop (Some (codes "i")))) (setting (codes "n") (number 5) the_end))))))
    (returning (variable (codes "n")))))
    ≡ came_to (value_of (integer (pos 5))) 4 []

-- for i in ({1, 2}) try continue; finally return i; endtry endfor, with the list as a literal
abbrev pub FinallyLeaves : Type 0
FinallyLeaves =
    tried
    (try_it
    (only
    (for_each (codes "i") (literal (list (of_list (integer (pos 1) ∷ integer (pos 2) ∷ []))))
    (only (finished (only (next_turn None)) (returning (variable (codes "i"))))))))
    ≡ came_to (value_of (integer (pos 1))) 2 []

-- try 1 / 0; except (E_TYPE) return 1; except (ANY) return 2; endtry
abbrev pub SecondHandler : Type 0
SecondHandler =
    tried
    (try_it
    (only
    (guarded (doing one_by_zero the_end)
    (except None (codes_in (one_given (literal (error type_mismatch)))) (returning (number 1))
    (except None any_code (returning (number 2)) no_arms)))))
    ≡ came_to (value_of (integer (pos 2))) 2 []

-- ---- limits

-- return this:try();
abbrev pub Nested : Type 0
Nested =
    tried (try_it (returning (verb_call (variable (codes "this")) (word (codes "try")) none_given)))
    ≡ came_to (raised_by (error too_many_calls)) 50
    ((codes "#3:try: Too many verb calls") ∷ (replicate 49 (codes "called from #3:try") ++ codes "(End of traceback)" ∷ []))

-- s = "a"; while (1) s = s + s; endwhile
abbrev pub Doubled : Type 0
Doubled =
    tried
    (try_it
    (setting (codes "s") (word (codes "a"))
    (only (repeat None (number 1) (setting (codes "s") (binary plus (variable (codes "s")) (variable (codes "s"))) the_end)))))
    ≡ came_to (raised_by (error limit_exceeded)) 48 (traced (codes "Resource limit exceeded"))

-- s = {}; while (1) s = this:wrap(s, s); endwhile, with wrap: return args;
abbrev pub Wrapped : Type 0
Wrapped =
    tried
    (wizards (codes "try")
    (setting (codes "s") (listing no_arguments)
    (only
    (repeat None (number 1)
    (setting (codes "s")
    (verb_call (variable (codes "this")) (word (codes "wrap")) (two_given (variable (codes "s")) (variable (codes "s"))))
    the_end))))
    ∷ wizards (codes "wrap") (returning (variable (codes "args")))
    ∷ [])
    ≡ came_to (raised_by (error limit_exceeded)) 64 (traced (codes "Resource limit exceeded"))

-- try while (1) endwhile finally .. endtry, with 20 ticks: no finally part is run
abbrev pub OutOfTicks : Type 0
OutOfTicks =
    came 20 (run_with 20 (try_it spin_program)) ≡ came_to ran_out 20 ((codes "#3:try: Task ran out of ticks") ∷ (codes "(End of traceback)") ∷ [])

-- ---- forks

abbrev pub due_now : ℕ → Queued
due_now id = record { id = pos id; due = at_moment 0 }

-- two forks have the ids 1 and 2
abbrev pub Forked : Type 0
Forked =
    (tried (try_it plot_program) ≡ came_to (value_of (integer (pos 0))) 2 [])
    × ((run_with 30000 (try_it plot_program)).scene.queued ≡ due_now 1 ∷ due_now 2 ∷ [])

-- the 65th finds no id
abbrev pub Storm : Type 0
Storm =
    (tried (try_it storm_program) ≡ came_to (raised_by (error limit_exceeded)) 130 (traced (codes "Resource limit exceeded")))
    × (length (run_with 30000 (try_it storm_program)).scene.queued ≡ 64)
