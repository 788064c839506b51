-- Worked rows, true by computation: texts that are programs, with their canonical spelling, and the faults of those that are none.
use Rattle.std.specs.Prelude.{◌≡◌, ℕ, List, [], ◌∷◌, ◌++◌, codes, replicate, length}
use Rattle.spec_value.specs.Datum.{Text}
use Rattle.spec_program.specs.Tokens.{FaultKind, character, unclosed, token, nesting, number, loop_name}
use Rattle.spec_program.specs.Spelling.{canonical_lines}
use Rattle.spec_program.specs.ReadPrograms.{Parsed, program, faulty, at_fault, parsed, parsed_lines, fault_text}

-- the lines of a text's tree, or its fault as people read it
abbrev pub spelled : Parsed → List Text
spelled (program p) = canonical_lines p
spelled (faulty f) = fault_text f ∷ []

-- the text is spelled so, and so are the lines again
abbrev pub Spells : Text → List Text → Type 0
Spells t ts = (spelled (parsed t) ≡ ts) × (spelled (parsed_lines ts) ≡ ts)

-- a line that is its own spelling
abbrev pub IsCanonical : Text → Type 0
IsCanonical t = spelled (parsed t) ≡ t ∷ []

abbrev pub Fails : Text → FaultKind → ℕ → Type 0
Fails t k line = parsed t ≡ at_fault k line

-- ---- spelling

abbrev pub Branch : Type 0
Branch = Spells (codes "if(1)return{1,2};endif") (codes "if (1)" ∷ codes "  return {1, 2};" ∷ codes "endif" ∷ [])

abbrev pub Chain : Type 0
Chain =
    Spells (codes "IF (a) ELSEIF (b) ; ELSE x; ENDIF")
    (codes "if (a)" ∷ codes "elseif (b)" ∷ codes "else" ∷ codes "  x;" ∷ codes "endif" ∷ [])

abbrev pub Loops : Type 0
Loops =
    Spells (codes "for Foo in(l)while(1)continue FOO;endwhile endfor for i in[1..2]break;endfor")
    (codes "for foo in (l)" ∷ codes "  while (1)" ∷ codes "    continue foo;" ∷ codes "  endwhile" ∷ codes "endfor" ∷ codes "for i in [1..2]" ∷ codes "  break;" ∷ codes "endfor" ∷ [])

abbrev pub NamedLoop : Type 0
NamedLoop = Spells (codes "while foo (1) break foo; endwhile") (codes "while foo (1)" ∷ codes "  break foo;" ∷ codes "endwhile" ∷ [])

abbrev pub Handlers : Type 0
Handlers =
    Spells (codes "try x; except v (e_div, @l) y; except (any) endtry try finally z; endtry fork t(0) endfork")
    (codes "try" ∷ codes "  x;" ∷ codes "except v (E_DIV, @l)" ∷ codes "  y;" ∷ codes "except (ANY)" ∷ codes "endtry"
    ∷ codes "try" ∷ codes "finally" ∷ codes "  z;" ∷ codes "endtry" ∷ codes "fork t (0)" ∷ codes "endfork" ∷ [])

abbrev pub Comments : Type 0
Comments = Spells (codes ";;; x;; ") (codes "x;" ∷ [])

-- parentheses stand only where the tree would change without them
abbrev pub Parentheses : Type 0
Parentheses =
    Spells (codes "((1) + (2 * 3)) * 4 - (5 - (6)) ^ (7 ^ 8) ^ (-9);")
    (codes "(1 + 2 * 3) * 4 - (5 - 6) ^ (7 ^ 8) ^ -9;" ∷ [])

abbrev pub Groups : Type 0
Groups =
    IsCanonical (codes "-1 ^ 2;") × IsCanonical (codes "a ? b | c ? d | e;") × IsCanonical (codes "(a ? b | c) ? d = 1 | (e = 2);")
    × IsCanonical (codes "a = b = c;") × IsCanonical (codes "a && b || c && (d || e);") × IsCanonical (codes "!(a in b) == -c;")
    × IsCanonical (codes "1 + (x = 2);") × IsCanonical (codes "(-x).y;") × IsCanonical (codes "-x.y;")

abbrev pub Targets : Type 0
Targets =
    IsCanonical (codes "a.b.c = 1;") × IsCanonical (codes "x[1..$] = y;") × IsCanonical (codes "x[1][$ - 1] = y;") × IsCanonical (codes "$p[1] = $q.r;")
    × IsCanonical (codes "{a, ?b = 1, @c} = x;") × IsCanonical (codes "{?a} = {b, @c} = {};") × IsCanonical (codes "{a, b}[1];")

abbrev pub Names : Type 0
Names =
    Spells (codes "o:(\"v\")(1); #0.(\"p\"); #0:w(@x); o.(\"if\"); #0.(\"a b\"); o.(p); $Q;")
    (codes "o:v(1);" ∷ codes "$p;" ∷ codes "$w(@x);" ∷ codes "o.(\"if\");" ∷ codes "#0.(\"a b\");" ∷ codes "o.(p);" ∷ codes "$Q;" ∷ [])

abbrev pub Catches : Type 0
Catches = Spells (codes "`e!any=>f'; `1/0!E_DIV,@x'; l[1 ..2]; l[1..2];") (codes "`e ! ANY => f';" ∷ codes "`1 / 0 ! E_DIV, @x';" ∷ codes "l[1..2];" ∷ codes "l[1..2];" ∷ [])

-- the number after the greatest is the least one, which is written so
abbrev pub Literals : Type 0
Literals = Spells (codes "007; 2147483648; #-07; \"a\\\"b\\\\c\\d\"; e_perm;") (codes "7;" ∷ codes "2147483648;" ∷ codes "#-7;" ∷ codes "\"a\\\"b\\\\cd\";" ∷ codes "E_PERM;" ∷ [])

-- ---- faults

abbrev pub BadTokens : Type 0
BadTokens =
    Fails (codes "return 2147483649;") number 1 × Fails (codes "x;\n#2147483648;") number 2 × Fails (codes "#-;") character 1 × Fails (codes "a & b;") character 1
    × Fails (codes "x = \"ab\ncd\";") unclosed 1 × Fails (codes "\"ab\\") unclosed 1 × Fails (34 ∷ 7 ∷ 34 ∷ []) character 1 × Fails (codes "1 2147483649;") number 1
    × Fails (codes ") 2147483649;") token 1 × Fails (codes "x ~ y;") character 1

abbrev pub WrongTokens : Type 0
WrongTokens =
    Fails (codes "x = ;") token 1 × Fails (codes "x\n\n") token 1 × Fails (codes "if (1)\nendwhile") token 2 × Fails (codes "o.if;") token 1 × Fails (codes "else") token 1
    × Fails (codes "a + b = c;") token 1 × Fails (codes "(x) = 1;") token 1 × Fails (codes "x[1..2][3] = y;") token 1 × Fails (codes "$;") token 1 × Fails (codes "retrun 8;") token 1
    × Fails (codes "for i in [1..$] endfor") token 1

abbrev pub WrongScatters : Type 0
WrongScatters =
    Fails (codes "{1, 2} = x;") token 1 × Fails (codes "{} = x;") token 1 × Fails (codes "{?a};") token 1 × Fails (codes "{@a, @b} = x;") token 1 × Fails (codes "{?a, @b, @c} = x;") token 1
    × Fails (codes "{1, ?a} = x;") token 1 × Fails (codes "1 + {?a} = x;") token 1 × Fails (codes "{?a, 1} = x;") token 1

abbrev pub LoopNames : Type 0
LoopNames =
    Fails (codes "while (1) break foo; endwhile") loop_name 1 × Fails (codes "x;\nbreak;") loop_name 2 × Fails (codes "while (1)\nfork (0)\nbreak;\nendfork\nendwhile") loop_name 3
    × Fails (codes "for x in (l) continue y; endfor") loop_name 1

-- a token that fits nothing comes first
abbrev pub FirstFaults : Type 0
FirstFaults = Fails (codes "break; )") token 1

abbrev pub negations : ℕ → Text
negations n = replicate n 45 ++ codes "1;"

-- a statement, its expression, and 98 more are a path of 100
abbrev pub Depths : Type 0
Depths = (length (spelled (parsed (negations 98))) ≡ 1) × Fails (negations 99) nesting 1
