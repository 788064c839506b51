-- Programs with `try`, `except` and `finally`, each with the verbs that it calls, and what then comes: another reading of the language worked them out.
use Rattle.std.specs.Prelude.{◌≡◌, pos, neg_ℤ, [], ◌∷◌, Some, None, codes}
use Rattle.spec_value.specs.Datum.{integer, object, error, type_mismatch, zero_division, property_not_found, verb_not_found, variable_not_found, recursive_move, too_many_calls, range_error, wrong_argument_count, move_refused, limit_exceeded, float_error}
use Rattle.spec_value.specs.Operators.{negation, not_true, plus, minus, times, divided_by, remainder_by, differs, less, is_in}
use Rattle.spec_program.specs.Tree.{literal, variable, own_length, unary, binary, both, either, conditional, listing, call, property, verb_call, index, range, caught, assignment, scatter, no_arguments, argument, splice, any_code, codes_in, the_code, instead, to_variable, to_property, to_range, no_items, required, optional, remaining, defaulted, give, give_zero, branch, for_range, repeat, guarded, finished, leave_loop, the_end, seq, no_branches, on, no_else, else_do, no_arms, except}
use Rattle.spec_fixture.specs.Programs.{number, word, object_number, one_given, two_given, three_given, only, returning, doing, setting}
use Rattle.spec_moo_rows.specs.Trying.{wizards, wizards_without_debug, anns, value_of, raised_by, came_to, tried}

-- try #2 xd: a = 50; b = 4096; c = E_VARNF; l = {2}; try finally equal("#3" in l ? {a, c, @y, y} = {} | b, $owner = equal("tab\there", E_RANGE,
--   @args)); endtry
abbrev pub Handlers1 : Type 0
Handlers1 =
    tried
    ((wizards (codes "try")
    (setting (codes "a") (number 50)
    (setting (codes "b") (number 4096)
    (setting (codes "c") (literal (error variable_not_found))
    (setting (codes "l") (listing (one_given (number 2)))
    (only
    (finished the_end
    (doing
    (call (codes "equal")
    (two_given
    (conditional (binary is_in (word (codes "#3")) (variable (codes "l")))
    (scatter (required (codes "a") (required (codes "c") (remaining (codes "y") (required (codes "y") no_items)))) (listing no_arguments))
    (variable (codes "b")))
    (assignment (to_property (object_number 0) (word (codes "owner")))
    (call (codes "equal")
    (argument (word (116 ∷ 97 ∷ 98 ∷ 9 ∷ 104 ∷ 101 ∷ 114 ∷ 101 ∷ []))
    (argument (literal (error range_error)) (splice (variable (codes "args")) no_arguments)))))))
    the_end))))))))
    ∷ [])
    ≡ came_to (raised_by (error type_mismatch)) 9 ((codes "#3:try: Type mismatch") ∷ (codes "(End of traceback)") ∷ [])

-- try #4 xd: l = {#5, #1, "n"}; try l = #3.a; finally endtry
abbrev pub Handlers2 : Type 0
Handlers2 =
    tried
    ((anns (codes "try")
    (setting (codes "l") (listing (three_given (object_number 5) (object_number 1) (word (codes "n"))))
    (only (finished (setting (codes "l") (property (object_number 3) (word (codes "a"))) the_end) the_end))))
    ∷ [])
    ≡ came_to (raised_by (error property_not_found)) 3 ((codes "#3:try: Property not found") ∷ (codes "(End of traceback)") ∷ [])

-- try #2 xd: a = 5; t = 2; o = #1; x = #99; try except y (E_DIV, E_QUOTA, @args[1]) endtry x = `o ! ANY'; t = `length({a, args}[3], b) ! ANY';
abbrev pub Handlers3 : Type 0
Handlers3 =
    tried
    ((wizards (codes "try")
    (setting (codes "a") (number 5)
    (setting (codes "t") (number 2)
    (setting (codes "o") (object_number 1)
    (setting (codes "x") (object_number 99)
    (seq
    (guarded the_end
    (except (Some (codes "y"))
    (codes_in
    (argument (literal (error zero_division))
    (argument (literal (error limit_exceeded)) (splice (index (variable (codes "args")) (number 1)) no_arguments))))
    the_end
    no_arms))
    (setting (codes "x") (caught (variable (codes "o")) any_code the_code)
    (setting (codes "t")
    (caught
    (call (codes "length")
    (two_given (index (listing (two_given (variable (codes "a")) (variable (codes "args")))) (number 3)) (variable (codes "b"))))
    any_code
    the_code)
    the_end))))))))
    ∷ [])
    ≡ came_to (raised_by (error range_error)) 5 ((codes "#3:try: Range error") ∷ (codes "(End of traceback)") ∷ [])

-- try #4 xd: a = 1; s = "Ann"; o = #-1; try finally s = (#4.("a" || s) && o:v1(s))[2]; return; endtry
-- v1 #2 x: a = 47; c = E_RANGE; s = "2147483648"; t = 3; l = {22}; o = #5; x = ""; y = #6; return;
abbrev pub Handlers4 : Type 0
Handlers4 =
    tried
    ((anns (codes "try")
    (setting (codes "a") (number 1)
    (setting (codes "s") (word (codes "Ann"))
    (setting (codes "o") (literal (object (neg_ℤ (pos 1))))
    (only
    (finished the_end
    (setting (codes "s")
    (index
    (both (property (object_number 4) (either (word (codes "a")) (variable (codes "s"))))
    (verb_call (variable (codes "o")) (word (codes "v1")) (one_given (variable (codes "s")))))
    (number 2))
    (only give_zero))))))))
    ∷ (wizards_without_debug (codes "v1")
    (setting (codes "a") (number 47)
    (setting (codes "c") (literal (error range_error))
    (setting (codes "s") (word (codes "2147483648"))
    (setting (codes "t") (number 3)
    (setting (codes "l") (listing (one_given (number 22)))
    (setting (codes "o") (object_number 5) (setting (codes "x") (word []) (setting (codes "y") (object_number 6) (only give_zero))))))))))
    ∷ [])
    ≡ came_to (raised_by (error property_not_found)) 5 ((codes "#3:try: Property not found") ∷ (codes "(End of traceback)") ∷ [])

-- try #2 xd: b = 1; c = "2147483648"; s = "rw"; l = {1, 0}; o = #0; x = E_ARGS; y = #2; try if (t[3..$][2]) endif finally if (1) j = 0; while (j < 4) j
--   = j + 1; {?c = `{#1}[3].owner ! ANY => "#4"[1][$ % $..3]'} = {strcmp(#1:count(), `o ! E_NACC, E_PROPNF, iobj => o'.owner), ({} ? t | "rw")[l ? y |
--   b] + ({}[0] ? "foo bar" | `a ! x => s')}; endwhile endif endtry this.k.p;
abbrev pub Handlers5 : Type 0
Handlers5 =
    tried
    ((wizards (codes "try")
    (setting (codes "b") (number 1)
    (setting (codes "c") (word (codes "2147483648"))
    (setting (codes "s") (word (codes "rw"))
    (setting (codes "l") (listing (two_given (number 1) (number 0)))
    (setting (codes "o") (object_number 0)
    (setting (codes "x") (literal (error wrong_argument_count))
    (setting (codes "y") (object_number 2)
    (seq
    (finished
    (only (branch (on (index (range (variable (codes "t")) (number 3) own_length) (number 2)) the_end no_branches) no_else))
    (only
    (branch
    (on (number 1)
    (setting (codes "j") (number 0)
    (only
    (repeat None (binary less (variable (codes "j")) (number 4))
    (setting (codes "j") (binary plus (variable (codes "j")) (number 1))
    (doing
    (scatter
    (defaulted (codes "c")
    (caught (property (index (listing (one_given (object_number 1))) (number 3)) (word (codes "owner")))
    any_code
    (instead (range (index (word (codes "#4")) (number 1)) (binary remainder_by own_length own_length) (number 3))))
    no_items)
    (listing
    (two_given
    (call (codes "strcmp")
    (two_given (verb_call (object_number 1) (word (codes "count")) no_arguments)
    (property
    (caught (variable (codes "o"))
    (codes_in (three_given (literal (error move_refused)) (literal (error property_not_found)) (variable (codes "iobj"))))
    (instead (variable (codes "o"))))
    (word (codes "owner")))))
    (binary plus
    (index (conditional (listing no_arguments) (variable (codes "t")) (word (codes "rw")))
    (conditional (variable (codes "l")) (variable (codes "y")) (variable (codes "b"))))
    (conditional (index (listing no_arguments) (number 0)) (word (codes "foo bar"))
    (caught (variable (codes "a")) (codes_in (one_given (variable (codes "x")))) (instead (variable (codes "s")))))))))
    the_end)))))
    no_branches)
    no_else)))
    (doing (property (property (variable (codes "this")) (word (codes "k"))) (word (codes "p"))) the_end))))))))))
    ∷ [])
    ≡ came_to (raised_by (error verb_not_found)) 15 ((codes "#3:try: Verb not found") ∷ (codes "(End of traceback)") ∷ [])

-- try #2 x: try except ("#4") endtry if (1) j = 0; while j (j < 2) j = j + 1; endwhile endif return; return "E_PERM";
abbrev pub Handlers6 : Type 0
Handlers6 =
    tried
    ((wizards_without_debug (codes "try")
    (seq (guarded the_end (except None (codes_in (one_given (word (codes "#4")))) the_end no_arms))
    (seq
    (branch
    (on (number 1)
    (setting (codes "j") (number 0)
    (only
    (repeat (Some (codes "j")) (binary less (variable (codes "j")) (number 2))
    (setting (codes "j") (binary plus (variable (codes "j")) (number 1)) the_end))))
    no_branches)
    no_else)
    (seq give_zero (returning (word (codes "E_PERM")))))))
    ∷ [])
    ≡ came_to (value_of (integer (pos 0))) 12 ([])

-- try #2 xd: b = 70; t = 3; x = #7; t = `-(3 / t) * (-0 + `b ! ANY => 0') ! ANY'; for outer in [0..t] endfor try try except (E_FLOAT, E_TYPE, x) except
--   (ANY) endtry finally endtry
abbrev pub Handlers7 : Type 0
Handlers7 =
    tried
    ((wizards (codes "try")
    (setting (codes "b") (number 70)
    (setting (codes "t") (number 3)
    (setting (codes "x") (object_number 7)
    (setting (codes "t")
    (caught
    (binary times (unary negation (binary divided_by (number 3) (variable (codes "t"))))
    (binary plus (unary negation (number 0)) (caught (variable (codes "b")) any_code (instead (number 0)))))
    any_code
    the_code)
    (seq (for_range (codes "outer") (number 0) (variable (codes "t")) the_end)
    (only
    (finished
    (only
    (guarded the_end
    (except None
    (codes_in (three_given (literal (error float_error)) (literal (error type_mismatch)) (variable (codes "x"))))
    the_end
    (except None any_code the_end no_arms))))
    the_end))))))))
    ∷ [])
    ≡ came_to (value_of (integer (pos 0))) 11 ([])

-- try #2 xd: t = 2; x = E_TYPE; for i in [0..1] try t = {1, 5}[2] != ("#3" in args) && 3; return !`#6 ! ANY'; except x (E_MAXREC) endtry break; endfor
abbrev pub Handlers8 : Type 0
Handlers8 =
    tried
    ((wizards (codes "try")
    (setting (codes "t") (number 2)
    (setting (codes "x") (literal (error type_mismatch))
    (only
    (for_range (codes "i") (number 0) (number 1)
    (seq
    (guarded
    (setting (codes "t")
    (both
    (binary differs (index (listing (two_given (number 1) (number 5))) (number 2))
    (binary is_in (word (codes "#3")) (variable (codes "args"))))
    (number 3))
    (returning (unary not_true (caught (object_number 6) any_code the_code))))
    (except (Some (codes "x")) (codes_in (one_given (literal (error too_many_calls)))) the_end no_arms))
    (only (leave_loop None))))))))
    ∷ [])
    ≡ came_to (value_of (integer (pos 1))) 12 ([])

-- try #2 xd: c = #-1; x = #4; try except x (E_RANGE) except (ANY) endtry if ("foo bar") else return {@c, b, c} = {"#4", #99, toobj(#2, @`{#7, #2} ! ANY
--   => {}')}; endif
abbrev pub Handlers9 : Type 0
Handlers9 =
    tried
    ((wizards (codes "try")
    (setting (codes "c") (literal (object (neg_ℤ (pos 1))))
    (setting (codes "x") (object_number 4)
    (seq
    (guarded the_end
    (except (Some (codes "x")) (codes_in (one_given (literal (error range_error)))) the_end (except None any_code the_end no_arms)))
    (only
    (branch (on (word (codes "foo bar")) the_end no_branches)
    (else_do
    (returning
    (scatter (remaining (codes "c") (required (codes "b") (required (codes "c") no_items)))
    (listing
    (three_given (word (codes "#4")) (object_number 99)
    (call (codes "toobj")
    (argument (object_number 2)
    (splice (caught (listing (two_given (object_number 7) (object_number 2))) any_code (instead (listing no_arguments))) no_arguments))))))))))))))
    ∷ [])
    ≡ came_to (value_of (integer (pos 0))) 3 ([])

-- try #4 xd: a = 1; try except (E_QUOTA, E_NACC) `a[1.."x\"y\\z" in {3, #5}] = #7 ! ANY'; return 2; return; endtry
abbrev pub Handlers10 : Type 0
Handlers10 =
    tried
    ((anns (codes "try")
    (setting (codes "a") (number 1)
    (only
    (guarded the_end
    (except None (codes_in (two_given (literal (error limit_exceeded)) (literal (error move_refused))))
    (doing
    (caught
    (assignment
    (to_range (to_variable (codes "a")) (number 1)
    (binary is_in (word (120 ∷ 34 ∷ 121 ∷ 92 ∷ 122 ∷ [])) (listing (two_given (number 3) (object_number 5)))))
    (object_number 7))
    any_code
    the_code)
    (seq (give (number 2)) (only give_zero)))
    no_arms)))))
    ∷ [])
    ≡ came_to (value_of (integer (pos 0))) 1 ([])

-- try #2 x: a = 2; c = 2147483648; t = 2; l = {#4, 65536, #6, "abc"}; o = #99; x = #2; return s; try finally return x; c = #7.a - --c; `{t, ?s, ?l =
--   #0.(#4:accept())[{"foo bar", 2147483648, 4}[5]], o} = {l[2..0] && {E_RECMOVE, 89, @1}, #2} ! ANY'; endtry o = #2; for j in [#1..#1] endfor
abbrev pub Handlers11 : Type 0
Handlers11 =
    tried
    ((wizards_without_debug (codes "try")
    (setting (codes "a") (number 2)
    (setting (codes "c") (literal (integer (neg_ℤ (pos 2147483648))))
    (setting (codes "t") (number 2)
    (setting (codes "l") (listing (argument (object_number 4) (three_given (number 65536) (object_number 6) (word (codes "abc")))))
    (setting (codes "o") (object_number 99)
    (setting (codes "x") (object_number 2)
    (seq (give (variable (codes "s")))
    (seq
    (finished the_end
    (seq (give (variable (codes "x")))
    (setting (codes "c")
    (binary minus (property (object_number 7) (word (codes "a"))) (unary negation (unary negation (variable (codes "c")))))
    (doing
    (caught
    (scatter
    (required (codes "t")
    (optional (codes "s")
    (defaulted (codes "l")
    (index (property (object_number 0) (verb_call (object_number 4) (word (codes "accept")) no_arguments))
    (index (listing (three_given (word (codes "foo bar")) (literal (integer (neg_ℤ (pos 2147483648)))) (number 4))) (number 5)))
    (required (codes "o") no_items))))
    (listing
    (two_given
    (both (range (variable (codes "l")) (number 2) (number 0))
    (listing (argument (literal (error recursive_move)) (argument (number 89) (splice (number 1) no_arguments)))))
    (object_number 2))))
    any_code
    the_code)
    the_end))))
    (setting (codes "o") (object_number 2) (only (for_range (codes "j") (object_number 1) (object_number 1) the_end))))))))))))
    ∷ [])
    ≡ came_to (value_of (error variable_not_found)) 8 ([])
