-- Each statement in its turn: the canonical lines of a program are cut into its tokens, and it is read back from them.
use Rattle.std.proofs.Common.{◌≡◌, false, ◌&&◌, List, [], ◌∷◌, ◌++◌, length, Option, Some, IsTrue, refl, sym, ap, subst, ◌∙◌, arith, append-nil}
use Rattle.spec_value.specs.Datum.{Text}
use Rattle.spec_value.proofs.Entries.{first_holds, second_holds}
use Rattle.spec_program.specs.Tree.{Statement, evaluate, give, give_zero, branch, for_each, for_range, repeat, fork, guarded, finished, leave_loop, next_turn, Program, the_end, seq, Branches, no_branches, on, Otherwise, no_else, else_do, Arms, no_arms, except}
use Rattle.spec_program.specs.Tokens as t
use Rattle.spec_program.specs.Tokens.{Keyword, Token, Placed, tokens_of}
use Rattle.spec_program.specs.ReadPrograms.{joined_lines, program, parsed, parsed_lines, parsed_tokens}
use Rattle.spec_program.specs.Spelling.{expression_text, arguments_text, codes_text, statement_lines, program_lines, branches_lines, otherwise_lines, arms_lines, canonical_lines}
use Rattle.spec_program.specs.CanonicalTokens.{expression_tokens, arguments_tokens, codes_tokens, Laid}
use Rattle.spec_program.specs.Trees.{is_name, may_name, is_around, has_branch, has_arm, expr_fits, codes_fit, statement_fits, program_fits, branches_fit, otherwise_fits, arms_fit}
use Rattle.spec_spelling.specs.ProgramTokens.{statement_tokens, program_tokens, branches_tokens, otherwise_tokens, arms_tokens}
use Rattle.spec_spelling.specs.Canonical.{ExpressionsCut, ArgumentsCut, CodesCut, ProgramsCut, LinesReadBack, EachSpelled, SpelledAnew, OneTree}
use Rattle.spec_program.specs.Names.{is_word_character}
use Rattle.spec_program.proofs.ParsedFits.{parsed_is_tree}
use Rattle.spec_spelling.proofs.Pieces.{CutInto, nothing, placed, are_laid, Piece}
use Rattle.spec_spelling.proofs.WordsCut.{keyword_text, keyword_piece}
use Rattle.spec_spelling.proofs.PartsCut.{ends}
use Rattle.spec_spelling.proofs.ExpressionsCut.{cut, arguments_cut, codes_cut}
use Rattle.spec_spelling.proofs.LinesCut.{Lines, no_lines, lines_on, Indent, flush, deeper_indent, indented}
use Rattle.spec_spelling.proofs.HeadsCut.{ended, given, given_zero, jump, plain_head, named_head, for_each_head, for_range_head}
use Rattle.spec_spelling.proofs.ProgramsBack.{program_read_back}

-- a word alone on its line
word_line : {indent : Text} (k : Keyword) → Indent indent → Lines ((indent ++ keyword_text k) ∷ []) (t.keyword k ∷ [])
word_line k i = indented i (keyword_piece k)

mutual
  statement_cut : (s : Statement) (loops : List (Option Text)) (indent : Text) → Indent indent → IsTrue (statement_fits loops s)
      → Lines (statement_lines indent s) (statement_tokens s)
  statement_cut (evaluate e) loops indent i h = indented i (ended (cut e false h).piece)
  statement_cut (give e) loops indent i h = indented i (given (cut e false h).piece)
  statement_cut give_zero loops indent i h = indented i given_zero
  statement_cut (branch bs q) loops indent i h =
      let k = second_holds (has_branch bs) (branches_fit loops bs && otherwise_fits loops q) h in
      lines_on (branches_cut t.if_word bs loops indent i (first_holds _ _ k)) (lines_on (otherwise_cut q loops indent i (second_holds _ _ k)) (word_line t.endif_word i))
  statement_cut (for_each x e p) loops indent i h =
      let k = second_holds (is_name x) (expr_fits false e && program_fits (Some x ∷ loops) p) h in
      lines_on (indented i (for_each_head x (first_holds _ _ h) (cut e false (first_holds _ _ k)).piece))
      (lines_on (program_cut p (Some x ∷ loops) (32 ∷ 32 ∷ indent) (deeper_indent i) (second_holds _ _ k)) (word_line t.endfor_word i))
  statement_cut (for_range x a c p) loops indent i h =
      let k = second_holds (is_name x) ((expr_fits false a && expr_fits false c) && program_fits (Some x ∷ loops) p) h in
      let l = first_holds (expr_fits false a && expr_fits false c) (program_fits (Some x ∷ loops) p) k in
      lines_on (indented i (for_range_head x (first_holds _ _ h) (ends (cut a false (first_holds _ _ l)) (cut c false (second_holds _ _ l)))))
      (lines_on (program_cut p (Some x ∷ loops) (32 ∷ 32 ∷ indent) (deeper_indent i) (second_holds _ _ k)) (word_line t.endfor_word i))
  statement_cut (repeat x c p) loops indent i h =
      let k = second_holds (may_name x) (expr_fits false c && program_fits (x ∷ loops) p) h in
      lines_on (indented i (named_head t.while_word x (first_holds _ _ h) (cut c false (first_holds _ _ k)).piece))
      (lines_on (program_cut p (x ∷ loops) (32 ∷ 32 ∷ indent) (deeper_indent i) (second_holds _ _ k)) (word_line t.endwhile_word i))
  statement_cut (fork x e p) loops indent i h =
      let k = second_holds (may_name x) (expr_fits false e && program_fits [] p) h in
      lines_on (indented i (named_head t.fork_word x (first_holds _ _ h) (cut e false (first_holds _ _ k)).piece))
      (lines_on (program_cut p [] (32 ∷ 32 ∷ indent) (deeper_indent i) (second_holds _ _ k)) (word_line t.endfork_word i))
  statement_cut (guarded p rs) loops indent i h =
      let k = second_holds (has_arm rs) (program_fits loops p && arms_fit loops rs) h in
      lines_on (word_line t.try_word i)
      (lines_on (program_cut p loops (32 ∷ 32 ∷ indent) (deeper_indent i) (first_holds _ _ k))
      (lines_on (arms_cut rs loops indent i (second_holds _ _ k)) (word_line t.endtry_word i)))
  statement_cut (finished p q) loops indent i h =
      lines_on (word_line t.try_word i)
      (lines_on (program_cut p loops (32 ∷ 32 ∷ indent) (deeper_indent i) (first_holds _ _ h))
      (lines_on (word_line t.finally_word i)
      (lines_on (program_cut q loops (32 ∷ 32 ∷ indent) (deeper_indent i) (second_holds _ _ h)) (word_line t.endtry_word i))))
  statement_cut (leave_loop x) loops indent i h = indented i (jump t.break_word x (first_holds (may_name x) (is_around loops x) h))
  statement_cut (next_turn x) loops indent i h = indented i (jump t.continue_word x (first_holds (may_name x) (is_around loops x) h))

  program_cut : (p : Program) (loops : List (Option Text)) (indent : Text) → Indent indent → IsTrue (program_fits loops p)
      → Lines (program_lines indent p) (program_tokens p)
  program_cut the_end loops indent i h = no_lines
  program_cut (seq s more) loops indent i h = lines_on (statement_cut s loops indent i (first_holds _ _ h)) (program_cut more loops indent i (second_holds _ _ h))

  branches_cut : (word : Keyword) (bs : Branches) (loops : List (Option Text)) (indent : Text) → Indent indent → IsTrue (branches_fit loops bs)
      → Lines (branches_lines indent (keyword_text word) bs) (branches_tokens word bs)
  branches_cut word no_branches loops indent i h = no_lines
  branches_cut word (on c p more) loops indent i h =
      let k = second_holds (expr_fits false c) (program_fits loops p && branches_fit loops more) h in
      lines_on (indented i (plain_head word (cut c false (first_holds _ _ h)).piece))
      (lines_on (program_cut p loops (32 ∷ 32 ∷ indent) (deeper_indent i) (first_holds _ _ k))
      (branches_cut t.elseif_word more loops indent i (second_holds _ _ k)))

  otherwise_cut : (q : Otherwise) (loops : List (Option Text)) (indent : Text) → Indent indent → IsTrue (otherwise_fits loops q)
      → Lines (otherwise_lines indent q) (otherwise_tokens q)
  otherwise_cut no_else loops indent i h = no_lines
  otherwise_cut (else_do p) loops indent i h = lines_on (word_line t.else_word i) (program_cut p loops (32 ∷ 32 ∷ indent) (deeper_indent i) h)

  arms_cut : (rs : Arms) (loops : List (Option Text)) (indent : Text) → Indent indent → IsTrue (arms_fit loops rs)
      → Lines (arms_lines indent rs) (arms_tokens rs)
  arms_cut no_arms loops indent i h = no_lines
  arms_cut (except x c p more) loops indent i h =
      let k = first_holds (may_name x && codes_fit false c) (program_fits loops p && arms_fit loops more) h in
      let l = second_holds (may_name x && codes_fit false c) (program_fits loops p && arms_fit loops more) h in
      lines_on (indented i (named_head t.except_word x (first_holds _ _ k) (codes_cut c false (second_holds _ _ k))))
      (lines_on (program_cut p loops (32 ∷ 32 ∷ indent) (deeper_indent i) (first_holds _ _ l)) (arms_cut more loops indent i (second_holds _ _ l)))

-- ---- as laws

whole_text : (w : Text) (ts : List Placed) → CutInto 1 w ts → tokens_of w ≡ ts
whole_text w ts k = k.cut (length w) (omega arith)

alone_cut : (w : Text) (ks : List Token) → Piece is_word_character w ks → Laid ks (tokens_of w) []
alone_cut w ks p =
    subst (λ ts. Laid ks ts []) (sym (ap tokens_of (sym (append-nil w)) ∙ whole_text (w ++ []) (placed 1 ks []) (p.goes 1 [] [] tt (nothing 1)))) (are_laid 1 ks [])

pub expressions_cut : ExpressionsCut
expressions_cut e b h = alone_cut (expression_text e) (expression_tokens e) (cut e b h).piece

pub all_arguments_cut : ArgumentsCut
all_arguments_cut es b h = alone_cut (arguments_text es) (arguments_tokens es) (arguments_cut es b h)

pub all_codes_cut : CodesCut
all_codes_cut c b h = alone_cut (codes_text c) (codes_tokens c) (codes_cut c b h)

pub programs_cut : ProgramsCut
programs_cut p loops h = go (program_cut p loops [] flush h)
  where
    go : Lines (canonical_lines p) (program_tokens p) → Laid (program_tokens p) (tokens_of (joined_lines (canonical_lines p))) []
    go l =
        subst (λ ts. Laid (program_tokens p) ts [])
        (sym (ap (λ ls. tokens_of (joined_lines ls)) (sym (append-nil (canonical_lines p))) ∙ whole_text (joined_lines (canonical_lines p ++ [])) (l.tokens 1 []) (l.cuts 1 [] [] (nothing (l.behind 1)))))
        (l.laid 1 [])

from_tokens : (u : Text) → parsed u ≡ parsed_tokens (tokens_of u)
unfolding parsed
from_tokens u = refl

pub lines_read_back : LinesReadBack
lines_read_back p h =
    from_tokens (joined_lines (canonical_lines p))
    ∙ program_read_back p (tokens_of (joined_lines (canonical_lines p))) h (programs_cut p [] (first_holds (program_fits [] p) _ h))

pub each_spelled : EachSpelled
each_spelled p h = (joined_lines (canonical_lines p), lines_read_back p h)

pub spelled_anew : SpelledAnew
spelled_anew t p e = lines_read_back p (parsed_is_tree t p e)

same_program : (p q : Program) → program p ≡ program q → p ≡ q
same_program p q e = cc

pub one_tree : OneTree
one_tree p q h k e = same_program p q (sym (lines_read_back p h) ∙ ap parsed_lines e ∙ lines_read_back q k)
