-- Programs with loops, each with the verbs that it calls, and what then comes: another reading of the language worked them out.
use Rattle.std.specs.Prelude.{◌≡◌, pos, neg_ℤ, [], ◌∷◌, Some, None, codes}
use Rattle.spec_value.specs.Datum.{integer, object, error, no_error, type_mismatch, permission_denied, property_not_found, variable_not_found, invalid_indirection, range_error, float_error}
use Rattle.spec_value.specs.Operators.{negation, plus, minus, divided_by, to_the, differs, less, is_in}
use Rattle.spec_program.specs.Tree.{literal, variable, own_length, unary, binary, both, either, conditional, listing, call, property, index, range, caught, assignment, scatter, no_arguments, argument, splice, any_code, the_code, instead, to_variable, to_property, to_index, to_range, no_items, required, optional, remaining, defaulted, give, branch, for_each, for_range, repeat, leave_loop, next_turn, the_end, seq, no_branches, on, no_else}
use Rattle.spec_fixture.specs.Programs.{number, word, object_number, one_given, two_given, three_given, only, returning, doing, setting}
use Rattle.spec_moo_rows.specs.Trying.{wizards, wizards_without_debug, anns, value_of, raised_by, came_to, tried}

-- try #2 xd: b = 4; c = E_VARNF; l = {"foo bar", #-1}; return l = t[4096 / 4][1][5 ^ 2147483648..3] = l in {4, "#3", 83}; #-1; c = `o ! ANY'; for outer
--   in ((#0 && #4).contents) continue outer; o = b = "Abc"; endfor
abbrev pub Loops1 : Type 0
Loops1 =
    tried
    ((wizards (codes "try")
    (setting (codes "b") (number 4)
    (setting (codes "c") (literal (error variable_not_found))
    (setting (codes "l") (listing (two_given (word (codes "foo bar")) (literal (object (neg_ℤ (pos 1))))))
    (seq
    (give
    (assignment (to_variable (codes "l"))
    (assignment
    (to_range (to_index (to_index (to_variable (codes "t")) (binary divided_by (number 4096) (number 4))) (number 1))
    (binary to_the (number 5) (literal (integer (neg_ℤ (pos 2147483648)))))
    (number 3))
    (binary is_in (variable (codes "l")) (listing (three_given (number 4) (word (codes "#3")) (number 83)))))))
    (doing (literal (object (neg_ℤ (pos 1))))
    (setting (codes "c") (caught (variable (codes "o")) any_code the_code)
    (only
    (for_each (codes "outer") (property (both (object_number 0) (object_number 4)) (word (codes "contents")))
    (seq (next_turn (Some (codes "outer"))) (setting (codes "o") (assignment (to_variable (codes "b")) (word (codes "Abc"))) the_end)))))))))))
    ∷ [])
    ≡ came_to (raised_by (error variable_not_found)) 9 ((codes "#3:try: Variable not found") ∷ (codes "(End of traceback)") ∷ [])

-- try #4 xd: for k in [0..4] ("Abc" && "12") + "tab\there" + "none"; endfor return (o.q[2] = {1, " -7 "})[2][1..1];
abbrev pub Loops2 : Type 0
Loops2 =
    tried
    ((anns (codes "try")
    (seq
    (for_range (codes "k") (number 0) (number 4)
    (doing
    (binary plus
    (binary plus (both (word (codes "Abc")) (word (codes "12"))) (word (116 ∷ 97 ∷ 98 ∷ 9 ∷ 104 ∷ 101 ∷ 114 ∷ 101 ∷ [])))
    (word (codes "none")))
    the_end))
    (returning
    (range
    (index
    (assignment (to_index (to_property (variable (codes "o")) (word (codes "q"))) (number 2))
    (listing (two_given (number 1) (word (codes " -7 ")))))
    (number 2))
    (number 1)
    (number 1)))))
    ∷ [])
    ≡ came_to (raised_by (error variable_not_found)) 20 ((codes "#3:try: Variable not found") ∷ (codes "(End of traceback)") ∷ [])

-- try #2 xd: if (1) j = 0; while (j < 3) j = j + 1; endwhile endif #7.w;
abbrev pub Loops3 : Type 0
Loops3 =
    tried
    ((wizards (codes "try")
    (seq
    (branch
    (on (number 1)
    (setting (codes "j") (number 0)
    (only
    (repeat None (binary less (variable (codes "j")) (number 3)) (setting (codes "j") (binary plus (variable (codes "j")) (number 1)) the_end))))
    no_branches)
    no_else)
    (doing (property (object_number 7) (word (codes "w"))) the_end)))
    ∷ [])
    ≡ came_to (value_of (integer (pos 0))) 16 ([])

-- try #2 xd: b = 3; l = {2147483647, 20, 5, #1}; for i in ({{?l, ?b, ?b = l} = {}, @E_NONE ? l | {#7, "none"}, "n"}) continue i; endfor
abbrev pub Loops4 : Type 0
Loops4 =
    tried
    ((wizards (codes "try")
    (setting (codes "b") (number 3)
    (setting (codes "l") (listing (argument (number 2147483647) (three_given (number 20) (number 5) (object_number 1))))
    (only
    (for_each (codes "i")
    (listing
    (argument
    (scatter (optional (codes "l") (optional (codes "b") (defaulted (codes "b") (variable (codes "l")) no_items))) (listing no_arguments))
    (splice
    (conditional (literal (error no_error)) (variable (codes "l")) (listing (two_given (object_number 7) (word (codes "none")))))
    (one_given (word (codes "n"))))))
    (only (next_turn (Some (codes "i")))))))))
    ∷ [])
    ≡ came_to (value_of (integer (pos 0))) 12 ([])

-- try #4 xd: a = 4; b = 1000000; for k in (listdelete({}[b..a], 0)) break; endfor
abbrev pub Loops5 : Type 0
Loops5 =
    tried
    ((anns (codes "try")
    (setting (codes "a") (number 4)
    (setting (codes "b") (number 1000000)
    (only
    (for_each (codes "k")
    (call (codes "listdelete") (two_given (range (listing no_arguments) (variable (codes "b")) (variable (codes "a"))) (number 0)))
    (only (leave_loop None)))))))
    ∷ [])
    ≡ came_to (raised_by (error range_error)) 5 ((codes "#3:try: Range error") ∷ (codes "(End of traceback)") ∷ [])

-- try #2 x: b = 1; s = "#4"; o = #1; x = #7; if (1) i = 0; while (i < 3) i = i + 1; `{@s, o, ?s} = {} ! ANY'; `s[1][2] = ((x || "foo bar") +
--   #1.b)["aBcAbC" != c..2 - $] ! ANY'; endwhile endif
abbrev pub Loops6 : Type 0
Loops6 =
    tried
    ((wizards_without_debug (codes "try")
    (setting (codes "b") (number 1)
    (setting (codes "s") (word (codes "#4"))
    (setting (codes "o") (object_number 1)
    (setting (codes "x") (object_number 7)
    (only
    (branch
    (on (number 1)
    (setting (codes "i") (number 0)
    (only
    (repeat None (binary less (variable (codes "i")) (number 3))
    (setting (codes "i") (binary plus (variable (codes "i")) (number 1))
    (doing
    (caught
    (scatter (remaining (codes "s") (required (codes "o") (optional (codes "s") no_items))) (listing no_arguments))
    any_code
    the_code)
    (doing
    (caught
    (assignment (to_index (to_index (to_variable (codes "s")) (number 1)) (number 2))
    (range
    (binary plus (either (variable (codes "x")) (word (codes "foo bar"))) (property (object_number 1) (word (codes "b"))))
    (binary differs (word (codes "aBcAbC")) (variable (codes "c")))
    (binary minus (number 2) own_length)))
    any_code
    the_code)
    the_end))))))
    no_branches)
    no_else)))))))
    ∷ [])
    ≡ came_to (value_of (integer (pos 0))) 55 ([])

-- try #2 xd: o = #2; for j in (`{}[2] ! ANY => o') endfor
abbrev pub Loops7 : Type 0
Loops7 =
    tried
    ((wizards (codes "try")
    (setting (codes "o") (object_number 2)
    (only (for_each (codes "j") (caught (index (listing no_arguments) (number 2)) any_code (instead (variable (codes "o")))) the_end))))
    ∷ [])
    ≡ came_to (raised_by (error type_mismatch)) 4 ((codes "#3:try: Type mismatch") ∷ (codes "(End of traceback)") ∷ [])

-- try #2 x: if (1) i = 0; while j (i < 3) i = i + 1; break j; endwhile endif {};
abbrev pub Loops8 : Type 0
Loops8 =
    tried
    ((wizards_without_debug (codes "try")
    (seq
    (branch
    (on (number 1)
    (setting (codes "i") (number 0)
    (only
    (repeat (Some (codes "j")) (binary less (variable (codes "i")) (number 3))
    (setting (codes "i") (binary plus (variable (codes "i")) (number 1)) (only (leave_loop (Some (codes "j"))))))))
    no_branches)
    no_else)
    (doing (listing no_arguments) the_end)))
    ∷ [])
    ≡ came_to (value_of (integer (pos 0))) 7 ([])

-- try #4 xd: o = #-1; y = #99; for i in ({o.p, E_PERM && y, -4}) break; endfor
abbrev pub Loops9 : Type 0
Loops9 =
    tried
    ((anns (codes "try")
    (setting (codes "o") (literal (object (neg_ℤ (pos 1))))
    (setting (codes "y") (object_number 99)
    (only
    (for_each (codes "i")
    (listing
    (three_given (property (variable (codes "o")) (word (codes "p")))
    (both (literal (error permission_denied)) (variable (codes "y")))
    (unary negation (number 4))))
    (only (leave_loop None)))))))
    ∷ [])
    ≡ came_to (raised_by (error invalid_indirection)) 3 ((codes "#3:try: Invalid indirection") ∷ (codes "(End of traceback)") ∷ [])

-- try #2 xd: for j in ({65536, #2}) continue; endfor
abbrev pub Loops10 : Type 0
Loops10 =
    tried
    ((wizards (codes "try")
    (only (for_each (codes "j") (listing (two_given (number 65536) (object_number 2))) (only (next_turn None)))))
    ∷ [])
    ≡ came_to (value_of (integer (pos 0))) 3 ([])

-- try #2 xd: for i in [#0..#5] endfor `#6 ! ANY'.p = 0;
abbrev pub Loops11 : Type 0
Loops11 =
    tried
    ((wizards (codes "try")
    (seq (for_range (codes "i") (object_number 0) (object_number 5) the_end)
    (doing (assignment (to_property (caught (object_number 6) any_code the_code) (word (codes "p"))) (number 0)) the_end)))
    ∷ [])
    ≡ came_to (raised_by (error property_not_found)) 8 ((codes "#3:try: Property not found") ∷ (codes "(End of traceback)") ∷ [])

-- try #2 x: for i in (#5.a = {"none"}) continue; endfor
abbrev pub Loops12 : Type 0
Loops12 =
    tried
    ((wizards_without_debug (codes "try")
    (only
    (for_each (codes "i")
    (assignment (to_property (object_number 5) (word (codes "a"))) (listing (one_given (word (codes "none")))))
    (only (next_turn None)))))
    ∷ [])
    ≡ came_to (value_of (integer (pos 0))) 2 ([])

-- try #4 xd: c = E_FLOAT; l = {"abc", #1, #-1, 0}; y = E_PROPNF; for i in ({{5} && l, `{1, "E_PERM", #5} ! ANY => l', {#3, @y}}) endfor c = `args[$ ||
--   $..2] ! ANY';
abbrev pub Loops13 : Type 0
Loops13 =
    tried
    ((anns (codes "try")
    (setting (codes "c") (literal (error float_error))
    (setting (codes "l") (listing (argument (word (codes "abc")) (three_given (object_number 1) (literal (object (neg_ℤ (pos 1)))) (number 0))))
    (setting (codes "y") (literal (error property_not_found))
    (seq
    (for_each (codes "i")
    (listing
    (three_given (both (listing (one_given (number 5))) (variable (codes "l")))
    (caught (listing (three_given (number 1) (word (codes "E_PERM")) (object_number 5))) any_code (instead (variable (codes "l"))))
    (listing (argument (object_number 3) (splice (variable (codes "y")) no_arguments)))))
    the_end)
    (setting (codes "c") (caught (range (variable (codes "args")) (either own_length own_length) (number 2)) any_code the_code) the_end))))))
    ∷ [])
    ≡ came_to (raised_by (error type_mismatch)) 8 ((codes "#3:try: Type mismatch") ∷ (codes "(End of traceback)") ∷ [])

-- try #2 xd: t = 1; for k in ({}) break k; endfor return {caller.n = 83, t + "foo bar"}[1];
abbrev pub Loops14 : Type 0
Loops14 =
    tried
    ((wizards (codes "try")
    (setting (codes "t") (number 1)
    (seq (for_each (codes "k") (listing no_arguments) (only (leave_loop (Some (codes "k")))))
    (returning
    (index
    (listing
    (two_given (assignment (to_property (variable (codes "caller")) (word (codes "n"))) (number 83))
    (binary plus (variable (codes "t")) (word (codes "foo bar")))))
    (number 1))))))
    ∷ [])
    ≡ came_to (raised_by (error property_not_found)) 3 ((codes "#3:try: Property not found") ∷ (codes "(End of traceback)") ∷ [])

-- try #2 xd: b = 3; for k in ("E_PERM"[$] && t[$..b]) endfor
abbrev pub Loops15 : Type 0
Loops15 =
    tried
    ((wizards (codes "try")
    (setting (codes "b") (number 3)
    (only
    (for_each (codes "k")
    (both (index (word (codes "E_PERM")) own_length) (range (variable (codes "t")) own_length (variable (codes "b"))))
    the_end))))
    ∷ [])
    ≡ came_to (raised_by (error variable_not_found)) 4 ((codes "#3:try: Variable not found") ∷ (codes "(End of traceback)") ∷ [])
