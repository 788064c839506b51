-- Drafts of small constructs, each item of which is written out.
use Rattle.std.specs.Prelude.{◌≡◌, ℕ, pos, List, [], ◌∷◌, Some, None, codes, true, false}
use Rattle.spec_value.specs.Datum.{Text, integer, object, text, error, zero_division}
use Rattle.spec_value.specs.Operators.{plus}
use Rattle.spec_program.specs.Tree.{Expr, literal, variable, own_length, binary, listing, call, verb_call, index, caught, assignment, scatter, argument, splice, no_arguments, any_code, codes_in, the_code, instead, to_variable, to_index, no_items, required, remaining, defaulted, Statement, give_zero, give, branch, for_each, repeat, fork, guarded, finished, next_turn, the_end, no_branches, on, else_do, no_arms, except}
use Rattle.spec_moo.specs.Held.{before_list, listed, spliced}
use Rattle.spec_moo.specs.Effects.Handlers.{all_codes, no_codes}
use Rattle.spec_fixture.specs.Programs.{number, word, object_number, one_given, only}
use Rattle.moo_code.specs.Instruction as code
use Rattle.moo_code.specs.Instruction.{Operation, push, load, length_of, two, make_list, call_verb, take_item, caught_value, call_function, store, scatter_on, store_default, return_top, return_zero, finish, finish_body, test, test_loop, first_item, next_item, start_fork, continue_loops, end_finally, begin_part, as_value, never, in_variable, in_index, operand_at, target_at, Slot, one_value, other_values, with_default, Sign, in_loop, with_finally, with_handlers, with_code, with_instead}
use Rattle.moo_code.specs.Layout.{outermost, straight, received, expr_layout, statement_layout}
use Rattle.moo_program.specs.Drafting.{Draught, own_of, part_of, close_of, gap_of, over}

abbrev pub expression_draft : Expr → List Draught
expression_draft e = (over (expr_layout outermost e) ([], 0)).0

abbrev pub statement_draft : Statement → List Draught
statement_draft s = (over (statement_layout outermost s) ([], 0)).0

-- an operation that leads on alone, one that leads to a part, and the ends of parts
abbrev pub does : Operation → Draught
does op = own_of op []

abbrev pub leads : Operation → ℕ → Draught
leads op n = own_of op (n ∷ [])

abbrev pub done : Draught
done = close_of straight None

abbrev pub watched : ℕ → Sign → Draught
watched n s = close_of straight (Some (record { height = 0; held = n; sign = s }))

abbrev pub one : Operation
one = push (integer (pos 1))

abbrev pub division : Operation
division = push (error zero_division)

abbrev pub a : Text
a = codes "a"

abbrev pub b : Text
b = codes "b"

abbrev pub c : Text
c = codes "c"

abbrev pub x : Text
x = codes "x"

abbrev pub x_read : Expr
x_read = variable x

-- ---- expressions

-- {1, @x}
abbrev pub Listing : Type 0
Listing =
    expression_draft (listing (argument (number 1) (splice x_read no_arguments)))
    ≡ part_of false 1 1 ∷ does one ∷ close_of (received listed 1 as_value) None
    ∷ part_of false 1 1 ∷ does (load x) ∷ close_of (received spliced 1 as_value) None
    ∷ does make_list ∷ []

-- x(1)
abbrev pub Call : Type 0
Call =
    expression_draft (call x (one_given (number 1)))
    ≡ part_of false 1 1 ∷ does one ∷ close_of (received listed 1 as_value) None ∷ does (call_function x) ∷ []

-- #6:hum({1}): the list begins with an empty one
abbrev pub VerbCall : Type 0
VerbCall =
    expression_draft (verb_call (object_number 6) (word (codes "hum")) (one_given (listing (one_given (number 1)))))
    ≡ part_of false 1 1 ∷ does (push (object (pos 6))) ∷ done
    ∷ part_of false 1 1 ∷ does (push (text (codes "hum"))) ∷ close_of (received before_list 1 as_value) None
    ∷ part_of true 4 3 ∷ part_of false 1 1 ∷ does one ∷ close_of (received listed 1 as_value) None ∷ does make_list ∷ close_of (received listed 3 as_value) None
    ∷ does call_verb ∷ []

-- 1 + x[$]: what `$` is the length of has one operand below it
abbrev pub Nested : Type 0
Nested =
    expression_draft (binary plus (number 1) (index x_read own_length))
    ≡ part_of false 1 1 ∷ does one ∷ done
    ∷ part_of false 7 3 ∷ part_of false 1 1 ∷ does (load x) ∷ done ∷ part_of false 1 1 ∷ does (length_of (operand_at 1)) ∷ done ∷ does take_item ∷ done
    ∷ does (two plus) ∷ []

-- x[$] = 1
abbrev pub Assigned : Type 0
Assigned =
    expression_draft (assignment (to_index (to_variable x) own_length) (number 1))
    ≡ part_of false 5 1 ∷ part_of false 0 0 ∷ done ∷ part_of false 1 1 ∷ does (length_of (target_at (in_variable x) 0)) ∷ done ∷ done
    ∷ part_of false 1 1 ∷ does one ∷ done
    ∷ does (store (in_index (in_variable x))) ∷ []

-- `x ! E_DIV => 1': the code is the second part, and done first
abbrev pub Catch : Type 0
Catch =
    expression_draft (caught x_read (codes_in (one_given (literal (error zero_division)))) (instead (number 1)))
    ≡ leads (begin_part 0 0 2 (no_codes ∷ [])) 2
    ∷ part_of false 1 1 ∷ does (load x) ∷ watched 1 (with_instead 3) ∷ leads caught_value 0
    ∷ part_of false 1 1 ∷ does division ∷ close_of (received listed 1 as_value) None ∷ leads (begin_part 1 1 1 []) 1
    ∷ part_of false 1 1 ∷ does one ∷ done ∷ []

-- `x ! ANY'
abbrev pub AnyCode : Type 0
AnyCode =
    expression_draft (caught x_read any_code the_code)
    ≡ leads (begin_part 1 0 1 (all_codes ∷ [])) 1 ∷ part_of false 1 1 ∷ does (load x) ∷ watched 1 with_code ∷ leads caught_value 0 ∷ []

-- {a, ?b = 1, @c} = x: the second item's default is the second part
abbrev pub three_items : List Slot
three_items = one_value a ∷ with_default b ∷ other_values c ∷ []

abbrev pub Scattering : Type 0
Scattering =
    expression_draft (scatter (required a (defaulted b (number 1) (remaining c no_items))) x_read)
    ≡ leads (begin_part 0 0 4 []) 4
    ∷ gap_of
    ∷ part_of false 4 2 ∷ part_of false 1 1 ∷ does one ∷ done ∷ does (store_default b) ∷ done ∷ own_of (scatter_on three_items 2) (0 ∷ 2 ∷ [])
    ∷ gap_of
    ∷ part_of false 1 1 ∷ does (load x) ∷ done ∷ leads (code.scatter three_items) 2 ∷ []

-- ---- statements

-- if (x) return; else endif
abbrev pub Else : Type 0
Else =
    statement_draft (branch (on x_read (only give_zero) no_branches) (else_do the_end))
    ≡ part_of false 1 1 ∷ does (load x) ∷ done ∷ leads (test true 2 3) 3
    ∷ part_of false 3 1 ∷ part_of false 1 1 ∷ does return_zero ∷ done ∷ done ∷ leads (finish 0) 0
    ∷ part_of false 0 0 ∷ done ∷ []

-- for a in (x) endfor
abbrev pub Items : Type 0
Items =
    statement_draft (for_each a x_read the_end)
    ≡ part_of false 1 1 ∷ does (load x) ∷ done ∷ leads (first_item a) 0 ∷ part_of false 0 0 ∷ watched 2 in_loop ∷ leads (next_item a) 2 ∷ []

-- while (x) continue; endwhile
abbrev pub Loop : Type 0
Loop =
    statement_draft (repeat None x_read (only (next_turn None)))
    ≡ does (begin_part 0 0 1 [])
    ∷ part_of false 1 1 ∷ does (load x) ∷ done ∷ leads test_loop 0
    ∷ part_of false 3 1 ∷ part_of false 1 1 ∷ does (continue_loops 0) ∷ done ∷ watched 0 in_loop ∷ leads (begin_part 0 0 1 []) 1 ∷ []

-- try finally endtry
abbrev pub Finally : Type 0
Finally =
    statement_draft (finished the_end the_end)
    ≡ does (begin_part 0 0 1 []) ∷ part_of false 0 0 ∷ watched 0 with_finally ∷ does finish_body ∷ part_of false 0 0 ∷ done ∷ does end_finally ∷ []

-- fork (x) endfork: its body has no code here
abbrev pub Fork : Type 0
Fork = statement_draft (fork None x_read the_end) ≡ part_of false 1 1 ∷ does (load x) ∷ done ∷ does (start_fork None the_end) ∷ gap_of ∷ []

-- try return x; except a (E_DIV) except (ANY) return; endtry
abbrev pub Handlers : Type 0
Handlers =
    statement_draft (guarded (only (give x_read)) (except (Some a) (codes_in (one_given (literal (error zero_division)))) the_end (except None any_code (only give_zero) no_arms)))
    ≡ leads (begin_part 0 0 2 (no_codes ∷ [])) 2
    ∷ part_of false 6 2 ∷ part_of false 4 2 ∷ part_of false 1 1 ∷ does (load x) ∷ done ∷ does return_top ∷ done
    ∷ watched 2 (with_handlers ((Some a, 3) ∷ (None, 4) ∷ [])) ∷ leads (finish 2) 0
    ∷ part_of false 1 1 ∷ does division ∷ close_of (received listed 1 never) None ∷ leads (begin_part 0 1 1 (all_codes ∷ [])) 1
    ∷ part_of false 0 0 ∷ done ∷ leads (finish 0) 0
    ∷ part_of false 3 1 ∷ part_of false 1 1 ∷ does return_zero ∷ done ∷ done ∷ leads (finish 0) 0 ∷ []
