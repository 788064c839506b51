-- Source trees that are programs and that are none, each computed.
use Rattle.std.specs.Prelude.{◌≡◌, ℕ, zero, suc, pos, negsuc, Bool, true, false, [], ◌∷◌, Some, None, codes}
use Rattle.spec_value.specs.Datum.{integer, object, text, list, no_data}
use Rattle.spec_value.specs.Operators.{negation}
use Rattle.spec_program.specs.Tree.{Expr, literal, variable, own_length, unary, index, assignment, scatter, caught, codes_in, no_arguments, the_code, to_variable, to_index, to_range, no_items, required, remaining, Statement, evaluate, repeat, fork, guarded, leave_loop, next_turn, branch, no_branches, no_else, Program, the_end, seq, no_arms}
use Rattle.spec_program.specs.ReadPrograms.{Parsed, program, faulty, parsed}
use Rattle.spec_program.specs.Trees.{is_tree}

abbrev pub alone : Statement → Program
alone s = seq s the_end

abbrev pub of_value : Expr → Program
of_value e = alone (evaluate e)

abbrev pub is_text_tree : Parsed → Bool
is_text_tree (program p) = is_tree p
is_text_tree (faulty f) = false

abbrev pub x : Expr
x = variable (codes "x")

-- so many signs before x
unfoldable pub deep : ℕ → Expr
deep zero = x
deep (suc n) = unary negation (deep n)

abbrev pub TreesOfTexts : Type 0
TreesOfTexts =
    (is_text_tree (parsed (codes "while X (x) fork (1) return {@a, b[$ - 1]}; endfork if (a) break x; else continue; endif endwhile")) ≡ true)
    × (is_text_tree (parsed (codes "{a, ?B = 2, @c} = `f(-2147483648, $o.p) ! E_DIV, @l => \"t\"'; try x[1][2..$] = 3; except v (ANY) finally_ = #-1; endtry")) ≡ true)

abbrev pub NoTrees : Type 0
NoTrees =
    (is_tree (of_value (variable (codes "X"))) ≡ false)
    × (is_tree (of_value (variable (codes "for"))) ≡ false)
    × (is_tree (of_value (variable (codes "2x"))) ≡ false)
    × (is_tree (of_value (literal (integer (pos 2147483648)))) ≡ false)
    × (is_tree (of_value (literal (integer (negsuc 4)))) ≡ false)
    × (is_tree (of_value (literal (object (pos 2147483648)))) ≡ false)
    × (is_tree (of_value (literal (text (10 ∷ [])))) ≡ false)
    × (is_tree (of_value (literal (list no_data))) ≡ false)
    × (is_tree (of_value own_length) ≡ false)
    × (is_tree (of_value (index x own_length)) ≡ true)
    × (is_tree (of_value (assignment (to_index (to_range (to_variable (codes "x")) x x) x) x)) ≡ false)
    × (is_tree (of_value (assignment (to_range (to_index (to_variable (codes "x")) x) x x) x)) ≡ true)
    × (is_tree (of_value (scatter no_items x)) ≡ false)
    × (is_tree (of_value (scatter (remaining (codes "a") (required (codes "b") (remaining (codes "c") no_items))) x)) ≡ false)
    × (is_tree (of_value (caught x (codes_in no_arguments) the_code)) ≡ false)
    × (is_tree (alone (branch no_branches no_else)) ≡ false)
    × (is_tree (alone (guarded the_end no_arms)) ≡ false)
    × (is_tree (alone (leave_loop None)) ≡ false)
    × (is_tree (alone (repeat None x (alone (next_turn (Some (codes "y")))))) ≡ false)
    × (is_tree (alone (repeat (Some (codes "y")) x (alone (repeat None x (alone (next_turn (Some (codes "y")))))))) ≡ true)
    × (is_tree (alone (repeat None x (alone (fork None x (alone (leave_loop None)))))) ≡ false)

-- a path of a statement and at most 99 expressions
abbrev pub Heights : Type 0
Heights = (is_tree (of_value (deep 98)) ≡ true) × (is_tree (of_value (deep 99)) ≡ false)
