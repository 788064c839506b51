-- Programs that call verbs, each with the verbs that it calls, and what then comes: another reading of the language worked them out.
use Rattle.std.specs.Prelude.{◌≡◌, pos, neg_ℤ, [], ◌∷◌, codes}
use Rattle.spec_value.specs.Datum.{object, error, no_error, verb_not_found, invalid_indirection}
use Rattle.spec_value.specs.Operators.{negation, to_the}
use Rattle.spec_program.specs.Tree.{literal, variable, own_length, unary, binary, both, either, listing, property, verb_call, index, range, assignment, scatter, no_arguments, argument, splice, to_variable, to_property, to_index, no_items, required, optional, the_end}
use Rattle.spec_fixture.specs.Programs.{number, word, object_number, one_given, two_given, three_given, returning, setting}
use Rattle.spec_moo_rows.specs.Trying.{wizards, raised_by, came_to, tried}

-- try #2 xd: return #2:sum()[4..-$];
abbrev pub Calls1 : Type 0
Calls1 =
    tried
    ((wizards (codes "try")
    (returning (range (verb_call (object_number 2) (word (codes "sum")) no_arguments) (number 4) (unary negation own_length))))
    ∷ [])
    ≡ came_to (raised_by (error verb_not_found)) 1 ((codes "#3:try: Verb not found") ∷ (codes "(End of traceback)") ∷ [])

-- try #2 xd: b = 2; t = 4; o = #-1; return #7:accept(o:count("none", 8) ^ #4.n, args[$][args[1]], #-1:accept(@{x, ?b} = {t, {}, o, "a"}, {}[32],
--   o.owner[1] = "x\"y\\z"));
abbrev pub Calls2 : Type 0
Calls2 =
    tried
    ((wizards (codes "try")
    (setting (codes "b") (number 2)
    (setting (codes "t") (number 4)
    (setting (codes "o") (literal (object (neg_ℤ (pos 1))))
    (returning
    (verb_call (object_number 7) (word (codes "accept"))
    (three_given
    (binary to_the (verb_call (variable (codes "o")) (word (codes "count")) (two_given (word (codes "none")) (number 8)))
    (property (object_number 4) (word (codes "n"))))
    (index (index (variable (codes "args")) own_length) (index (variable (codes "args")) (number 1)))
    (verb_call (literal (object (neg_ℤ (pos 1)))) (word (codes "accept"))
    (splice
    (scatter (required (codes "x") (optional (codes "b") no_items))
    (listing (argument (variable (codes "t")) (three_given (listing no_arguments) (variable (codes "o")) (word (codes "a"))))))
    (two_given (index (listing no_arguments) (number 32))
    (assignment (to_index (to_property (variable (codes "o")) (word (codes "owner"))) (number 1)) (word (120 ∷ 34 ∷ 121 ∷ 92 ∷ 122 ∷ [])))))))))))))
    ∷ [])
    ≡ came_to (raised_by (error invalid_indirection)) 4 ((codes "#3:try: Invalid indirection") ∷ (codes "(End of traceback)") ∷ [])

-- try #2 xd: a = 2; l = {2}; y = E_NONE; y = (l = l) && #5:accept() && {y}[$ || a];
abbrev pub Calls3 : Type 0
Calls3 =
    tried
    ((wizards (codes "try")
    (setting (codes "a") (number 2)
    (setting (codes "l") (listing (one_given (number 2)))
    (setting (codes "y") (literal (error no_error))
    (setting (codes "y")
    (both
    (both (assignment (to_variable (codes "l")) (variable (codes "l"))) (verb_call (object_number 5) (word (codes "accept")) no_arguments))
    (index (listing (one_given (variable (codes "y")))) (either own_length (variable (codes "a")))))
    the_end)))))
    ∷ [])
    ≡ came_to (raised_by (error verb_not_found)) 7 ((codes "#3:try: Verb not found") ∷ (codes "(End of traceback)") ∷ [])
