-- What programs come to on a machine.
use Rattle.std.specs.Prelude.{◌≡◌, pos, [], ◌∷◌, Some, None, codes}
use Rattle.spec_value.specs.Datum.{integer, error, zero_division}
use Rattle.spec_value.specs.Operators.{plus, divided_by}
use Rattle.spec_program.specs.Tree.{variable, own_length, binary, listing, index, argument, splice, no_arguments, codes_in, Program, the_end, seq, for_range, repeat, leave_loop, finished, guarded, except, no_arms, literal}
use Rattle.spec_fixture.specs.Programs.{number, returning, setting, only, one_given}
use Rattle.spec_moo_rows.specs.Trying.{wizards, value_of, came_to, tried}
use Rattle.moo_code_rows.specs.Running.{machine_tried}

-- return 1 + 2;
abbrev pub Sum : Type 0
Sum = machine_tried 10 (wizards (codes "try") (returning (binary plus (number 1) (number 2))) ∷ []) ≡ came_to (value_of (integer (pos 3))) 2 []

-- x = 0; for i in [1..3] x = x + i; endfor return x;
abbrev pub summing : Program
summing = setting (codes "x") (number 0) (seq (for_range (codes "i") (number 1) (number 3) (setting (codes "x") (binary plus (variable (codes "x")) (variable (codes "i"))) the_end)) (returning (variable (codes "x"))))

abbrev pub Loop : Type 0
Loop = machine_tried 60 (wizards (codes "try") summing ∷ []) ≡ tried (wizards (codes "try") summing ∷ [])

-- return {1, @{2, 3}}[$];
abbrev pub last_item : Program
last_item = returning (index (listing (argument (number 1) (splice (listing (argument (number 2) (one_given (number 3)))) no_arguments))) own_length)

abbrev pub Last : Type 0
Last = machine_tried 40 (wizards (codes "try") last_item ∷ []) ≡ tried (wizards (codes "try") last_item ∷ [])

-- while (1) try break; finally x = 5; endtry endwhile return x;
abbrev pub leaving : Program
leaving = seq (repeat None (number 1) (only (finished (only (leave_loop None)) (setting (codes "x") (number 5) the_end)))) (returning (variable (codes "x")))

abbrev pub Finally : Type 0
Finally = machine_tried 60 (wizards (codes "try") leaving ∷ []) ≡ came_to (value_of (integer (pos 5))) 3 []

-- try return 1 / 0; except e (E_DIV) return 7; endtry
abbrev pub handling : Program
handling =
    only (guarded (returning (binary divided_by (number 1) (number 0))) (except (Some (codes "e")) (codes_in (one_given (literal (error zero_division)))) (returning (number 7)) no_arms))

abbrev pub Handler : Type 0
Handler = machine_tried 60 (wizards (codes "try") handling ∷ []) ≡ tried (wizards (codes "try") handling ∷ [])
