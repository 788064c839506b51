-- Programs of expressions, each with the verbs that it calls, and what then comes: another reading of the language worked them out.
use Rattle.std.specs.Prelude.{◌≡◌, pos, neg_ℤ, [], ◌∷◌, codes}
use Rattle.spec_value.specs.Datum.{integer, object, error, list, no_data, item, no_error, type_mismatch, zero_division, property_not_found, verb_not_found, variable_not_found, too_many_calls, range_error, wrong_argument_count, invalid_argument, limit_exceeded, float_error}
use Rattle.spec_value.specs.Operators.{negation, not_true, plus, minus, times, to_the, equals, less, is_in}
use Rattle.spec_program.specs.Tree.{literal, variable, own_length, unary, binary, both, either, conditional, listing, call, property, index, range, caught, assignment, scatter, no_arguments, argument, splice, any_code, codes_in, the_code, instead, to_variable, to_property, to_index, to_range, no_items, required, optional, remaining, defaulted, give, give_zero, branch, the_end, seq, no_branches, on, else_do}
use Rattle.spec_fixture.specs.Programs.{number, word, object_number, one_given, two_given, three_given, only, returning, doing, setting}
use Rattle.spec_moo_rows.specs.Trying.{wizards, wizards_without_debug, anns, value_of, raised_by, came_to, tried}

-- try #2 xd: a = 1; t = 2; l = {#2, 65536, 0, "#4"}; o = #5; x = "foo bar"; return (({" -7 ", "-"} ? 0 | 4096) ? t - 2 | args[4]) + (o ? #2 |
--   #7).aliases; `(#99 || #99).n = {a, ?o, @x} = {"E_PERM"} ! ANY'; return `player < a ! ANY' ? {} | `{l, l, err} ! E_FLOAT, E_RANGE, E_RANGE => {#6,
--   "2147483648"} ? {#99, 90} | l'; return {}[o.nope];
abbrev pub Values1 : Type 0
Values1 =
    tried
    ((wizards (codes "try")
    (setting (codes "a") (number 1)
    (setting (codes "t") (number 2)
    (setting (codes "l") (listing (argument (object_number 2) (three_given (number 65536) (number 0) (word (codes "#4")))))
    (setting (codes "o") (object_number 5)
    (setting (codes "x") (word (codes "foo bar"))
    (seq
    (give
    (binary plus
    (conditional (conditional (listing (two_given (word (codes " -7 ")) (word (codes "-")))) (number 0) (number 4096))
    (binary minus (variable (codes "t")) (number 2))
    (index (variable (codes "args")) (number 4)))
    (property (conditional (variable (codes "o")) (object_number 2) (object_number 7)) (word (codes "aliases")))))
    (doing
    (caught
    (assignment (to_property (either (object_number 99) (object_number 99)) (word (codes "n")))
    (scatter (required (codes "a") (optional (codes "o") (remaining (codes "x") no_items))) (listing (one_given (word (codes "E_PERM"))))))
    any_code
    the_code)
    (seq
    (give
    (conditional (caught (binary less (variable (codes "player")) (variable (codes "a"))) any_code the_code)
    (listing no_arguments)
    (caught (listing (three_given (variable (codes "l")) (variable (codes "l")) (variable (codes "err"))))
    (codes_in (three_given (literal (error float_error)) (literal (error range_error)) (literal (error range_error))))
    (instead
    (conditional (listing (two_given (object_number 6) (word (codes "2147483648"))))
    (listing (two_given (object_number 99) (number 90)))
    (variable (codes "l")))))))
    (returning (index (listing no_arguments) (property (variable (codes "o")) (word (codes "nope"))))))))))))))
    ∷ [])
    ≡ came_to (raised_by (error range_error)) 10 ((codes "#3:try: Range error") ∷ (codes "(End of traceback)") ∷ [])

-- try #4 xd: a = 2147483648; b = 0; t = 2147483648; o = #3; t[{} ? a | b..3] = args; return; return o;
abbrev pub Values2 : Type 0
Values2 =
    tried
    ((anns (codes "try")
    (setting (codes "a") (literal (integer (neg_ℤ (pos 2147483648))))
    (setting (codes "b") (number 0)
    (setting (codes "t") (literal (integer (neg_ℤ (pos 2147483648))))
    (setting (codes "o") (object_number 3)
    (doing
    (assignment
    (to_range (to_variable (codes "t")) (conditional (listing no_arguments) (variable (codes "a")) (variable (codes "b"))) (number 3))
    (variable (codes "args")))
    (seq give_zero (returning (variable (codes "o"))))))))))
    ∷ [])
    ≡ came_to (raised_by (error type_mismatch)) 7 ((codes "#3:try: Type mismatch") ∷ (codes "(End of traceback)") ∷ [])

-- try #2 xd: b = 4; t = 5; l = {}; (caller.b = "none"[3..$]) ? t[b ^ 5..1] = caller in l | E_VERBNF == (E_DIV && E_MAXREC);
abbrev pub Values3 : Type 0
Values3 =
    tried
    ((wizards (codes "try")
    (setting (codes "b") (number 4)
    (setting (codes "t") (number 5)
    (setting (codes "l") (listing no_arguments)
    (doing
    (conditional
    (assignment (to_property (variable (codes "caller")) (word (codes "b"))) (range (word (codes "none")) (number 3) own_length))
    (assignment (to_range (to_variable (codes "t")) (binary to_the (variable (codes "b")) (number 5)) (number 1))
    (binary is_in (variable (codes "caller")) (variable (codes "l"))))
    (binary equals (literal (error verb_not_found)) (both (literal (error zero_division)) (literal (error too_many_calls)))))
    the_end)))))
    ∷ [])
    ≡ came_to (raised_by (error property_not_found)) 7 ((codes "#3:try: Property not found") ∷ (codes "(End of traceback)") ∷ [])

-- try #2 xd: a = 76; c = #4; return {`c ! E_QUOTA, E_FLOAT'}[a in {"a"}];
abbrev pub Values4 : Type 0
Values4 =
    tried
    ((wizards (codes "try")
    (setting (codes "a") (number 76)
    (setting (codes "c") (object_number 4)
    (returning
    (index
    (listing
    (one_given (caught (variable (codes "c")) (codes_in (two_given (literal (error limit_exceeded)) (literal (error float_error)))) the_code)))
    (binary is_in (variable (codes "a")) (listing (one_given (word (codes "a"))))))))))
    ∷ [])
    ≡ came_to (raised_by (error range_error)) 7 ((codes "#3:try: Range error") ∷ (codes "(End of traceback)") ∷ [])

-- try #4 xd: b = 1; l = {#1, " -7 ", 2147483646, 2}; if (({1000000, "2147483648"} ? l | args)[!o..-1]) return; else endif #2.b = o.nope; `l = 4 ! ANY';
abbrev pub Values5 : Type 0
Values5 =
    tried
    ((anns (codes "try")
    (setting (codes "b") (number 1)
    (setting (codes "l") (listing (argument (object_number 1) (three_given (word (codes " -7 ")) (number 2147483646) (number 2))))
    (seq
    (branch
    (on
    (range
    (conditional (listing (two_given (number 1000000) (word (codes "2147483648")))) (variable (codes "l")) (variable (codes "args")))
    (unary not_true (variable (codes "o")))
    (unary negation (number 1)))
    (only give_zero)
    no_branches)
    (else_do the_end))
    (doing (assignment (to_property (object_number 2) (word (codes "b"))) (property (variable (codes "o")) (word (codes "nope"))))
    (doing (caught (assignment (to_variable (codes "l")) (number 4)) any_code the_code) the_end))))))
    ∷ [])
    ≡ came_to (raised_by (error variable_not_found)) 5 ((codes "#3:try: Variable not found") ∷ (codes "(End of traceback)") ∷ [])

-- try #2 x: t = 17; if (tostr({#6, 64, 4}, #1)[2]) else return ({?t = t} = {#3, 79, 3}).owner; endif
abbrev pub Values6 : Type 0
Values6 =
    tried
    ((wizards_without_debug (codes "try")
    (setting (codes "t") (number 17)
    (only
    (branch
    (on
    (index (call (codes "tostr") (two_given (listing (three_given (object_number 6) (number 64) (number 4))) (object_number 1))) (number 2))
    the_end
    no_branches)
    (else_do
    (returning
    (property
    (scatter (defaulted (codes "t") (variable (codes "t")) no_items) (listing (three_given (object_number 3) (number 79) (number 3))))
    (word (codes "owner")))))))))
    ∷ [])
    ≡ came_to (value_of (integer (pos 0))) 5 ([])

-- try #2 x: c = 37; t = 1; l = {#7, #7, #5}; o = #4; x = E_FLOAT; y = E_ARGS; c[#5 in {""}..min()] = {#5, #3, 1000000}[1]; return {?c, ?x = "n" ? #3 |
--   `#99 ! E_VARNF, E_NONE, E_INVARG => o', ?t = o.name, t} = {{}, x = 2 || t, (o && o).wizard[!y] = l[3..3]};
abbrev pub Values7 : Type 0
Values7 =
    tried
    ((wizards_without_debug (codes "try")
    (setting (codes "c") (number 37)
    (setting (codes "t") (number 1)
    (setting (codes "l") (listing (three_given (object_number 7) (object_number 7) (object_number 5)))
    (setting (codes "o") (object_number 4)
    (setting (codes "x") (literal (error float_error))
    (setting (codes "y") (literal (error wrong_argument_count))
    (doing
    (assignment
    (to_range (to_variable (codes "c")) (binary is_in (object_number 5) (listing (one_given (word [])))) (call (codes "min") no_arguments))
    (index (listing (three_given (object_number 5) (object_number 3) (number 1000000))) (number 1)))
    (returning
    (scatter
    (optional (codes "c")
    (defaulted (codes "x")
    (conditional (word (codes "n")) (object_number 3)
    (caught (object_number 99)
    (codes_in (three_given (literal (error variable_not_found)) (literal (error no_error)) (literal (error invalid_argument))))
    (instead (variable (codes "o")))))
    (defaulted (codes "t") (property (variable (codes "o")) (word (codes "name"))) (required (codes "t") no_items))))
    (listing
    (three_given (listing no_arguments)
    (assignment (to_variable (codes "x")) (either (number 2) (variable (codes "t"))))
    (assignment
    (to_index (to_property (both (variable (codes "o")) (variable (codes "o"))) (word (codes "wizard")))
    (unary not_true (variable (codes "y"))))
    (range (variable (codes "l")) (number 3) (number 3)))))))))))))))
    ∷ [])
    ≡ came_to (value_of (list (item (list no_data) (item (integer (pos 2)) (item (error type_mismatch) no_data))))) 24 ([])

-- try #2 xd: y = "name"; s[b * 1] = o || #2; return `y.wizard[!$] ! E_PROPNF';
abbrev pub Values8 : Type 0
Values8 =
    tried
    ((wizards (codes "try")
    (setting (codes "y") (word (codes "name"))
    (doing
    (assignment (to_index (to_variable (codes "s")) (binary times (variable (codes "b")) (number 1)))
    (either (variable (codes "o")) (object_number 2)))
    (returning
    (caught (index (property (variable (codes "y")) (word (codes "wizard"))) (unary not_true own_length))
    (codes_in (one_given (literal (error property_not_found))))
    the_code)))))
    ∷ [])
    ≡ came_to (raised_by (error variable_not_found)) 1 ((codes "#3:try: Variable not found") ∷ (codes "(End of traceback)") ∷ [])

-- try #4 xd: b = 3; b = ("#3"[b..1] + "2147483648"[2])[2];
abbrev pub Values9 : Type 0
Values9 =
    tried
    ((anns (codes "try")
    (setting (codes "b") (number 3)
    (setting (codes "b")
    (index (binary plus (range (word (codes "#3")) (variable (codes "b")) (number 1)) (index (word (codes "2147483648")) (number 2))) (number 2))
    the_end)))
    ∷ [])
    ≡ came_to (raised_by (error range_error)) 5 ((codes "#3:try: Range error") ∷ (codes "(End of traceback)") ∷ [])

-- try #2 xd: b = 1; s = "x\"y\\z"; t = 2; o = #3; return {?a = {"-" + "-", @{"Abc", 3}, s[t]}, @t} = {(o[2..0] = {})[1], b ^ b * ("a" in {"Ann", 4,
--   5}), {}, E_TYPE};
abbrev pub Values10 : Type 0
Values10 =
    tried
    ((wizards (codes "try")
    (setting (codes "b") (number 1)
    (setting (codes "s") (word (120 ∷ 34 ∷ 121 ∷ 92 ∷ 122 ∷ []))
    (setting (codes "t") (number 2)
    (setting (codes "o") (object_number 3)
    (returning
    (scatter
    (defaulted (codes "a")
    (listing
    (argument (binary plus (word (codes "-")) (word (codes "-")))
    (splice (listing (two_given (word (codes "Abc")) (number 3))) (one_given (index (variable (codes "s")) (variable (codes "t")))))))
    (remaining (codes "t") no_items))
    (listing
    (argument
    (index (assignment (to_range (to_variable (codes "o")) (number 2) (number 0)) (listing no_arguments)) (number 1))
    (three_given
    (binary times (binary to_the (variable (codes "b")) (variable (codes "b")))
    (binary is_in (word (codes "a")) (listing (three_given (word (codes "Ann")) (number 4) (number 5)))))
    (listing no_arguments)
    (literal (error type_mismatch))))))))))))
    ∷ [])
    ≡ came_to (raised_by (error type_mismatch)) 6 ((codes "#3:try: Type mismatch") ∷ (codes "(End of traceback)") ∷ [])

-- try #2 xd: t = 40000; if (max()) 0; t = #-1.p = -(1000000 && 1); else return tostr(); endif
abbrev pub Values11 : Type 0
Values11 =
    tried
    ((wizards (codes "try")
    (setting (codes "t") (number 40000)
    (only
    (branch
    (on (call (codes "max") no_arguments)
    (doing (number 0)
    (setting (codes "t")
    (assignment (to_property (literal (object (neg_ℤ (pos 1)))) (word (codes "p"))) (unary negation (both (number 1000000) (number 1))))
    the_end))
    no_branches)
    (else_do (returning (call (codes "tostr") no_arguments)))))))
    ∷ [])
    ≡ came_to (raised_by (error wrong_argument_count)) 2 ((codes "#3:try: Incorrect number of arguments") ∷ (codes "(End of traceback)") ∷ [])
