-- Numbers that are great enough read statements alike, and what is left is an end of the tokens.
use Rattle.std.proofs.Common.{ap, ℕ, zero, suc, ◌<◌, true, false, List, [], ◌∷◌, ◌++◌, length, arith, Option, Some, None}
use Rattle.spec_value.specs.Datum.{Text, fold_case}
use Rattle.spec_program.specs.Tree.{Statement, evaluate, give, give_zero, for_each, for_range, repeat, leave_loop, next_turn}
use Rattle.spec_program.specs.Tokens as t
use Rattle.spec_program.specs.Tokens.{Sign, Keyword, Token, Placed}
use Rattle.spec_program.specs.Reading.{Read, line_of}
use Rattle.spec_program.specs.ReadExpressions.{ReadsExpression}
use Rattle.spec_program.specs.ReadPrograms as by
use Rattle.spec_program.specs.ReadPrograms.{FoundBlock, FoundStatement, FoundBranches, FoundArms, ReadsBlock, branches, arms, block}
use Rattle.spec_program.specs.Remaining.{Ends, all, past, Behind, EnoughForBlock, BlockLeaves, EnoughForBranches, EnoughForArms, StatementPartsConsume, EnoughForText}
use Rattle.spec_program.proofs.Alike.{on, strictly, and_strictly, weakly, fewer, Alike, got, found, same, consumes, leaves, weak, next, then, perhaps_then, if_there, if_word_there, beyond, beyond_word, beyond_name, tail_of, Good, later, inner, reading}
use Rattle.spec_program.proofs.AlikeExpressions.{error_codes_alike, expression_alike, both_good}

-- blocks that are read alike
abbrev GoodBlocks : ReadsBlock → ReadsBlock → List Placed → Type 0
GoodBlocks f g ts = (us : List Placed) → Ends us ts → Alike false us (f us) (g us)

later_blocks : {f g : ReadsBlock} {us ts : List Placed} → Ends us ts → GoodBlocks f g ts → GoodBlocks f g us
later_blocks e h vs d = h vs (on d e)

-- ---- parts of statements

in_parentheses_alike : {n m : ℕ} {f g : ReadsExpression} (ts : List Placed) → Good n m f g ts → Alike true ts (by.in_parentheses f ts) (by.in_parentheses g ts)
in_parentheses_alike ts k =
    beyond t.open_parenthesis ts (λ us d. then (reading (later (weakly d) k) false 0) (λ e vs i. beyond t.close_parenthesis vs (λ ws j. found e)))

word_there_alike : (u : Token) (p : Placed) (ts : List Placed) → Alike false (p ∷ ts) (by.word_there u ts (p ∷ ts)) (by.word_there u ts (p ∷ ts))
word_there_alike (t.word x) p ts = got (Some (fold_case x)) ts (past p all)
word_there_alike _ p ts = found None

perhaps_word_alike : (ts : List Placed) → Alike false ts (by.perhaps_word ts) (by.perhaps_word ts)
perhaps_word_alike [] = found None
perhaps_word_alike (p ∷ ts) = word_there_alike p.token p ts

block_to_alike : {f g : ReadsBlock} (w : Keyword) (ts : List Placed) → GoodBlocks f g ts → Alike true ts (by.block_to w f ts) (by.block_to w g ts)
block_to_alike w ts h = perhaps_then (h ts all) (λ p us d. beyond_word w us (λ vs e. found p))

-- ---- `if`

more_branches_alike : {f g : ReadsBlock} {more less : List Placed → Read FoundBranches} (ts : List Placed)
    → GoodBlocks f g ts → ((us : List Placed) → Behind us ts → Alike true us (more us) (less us)) → Alike true ts (by.more_branches f more ts) (by.more_branches g less ts)
more_branches_alike ts h i =
    if_word_there t.elseif_word ts (λ us d. i us d) (λ us d. if_word_there t.else_word us
    (λ vs e. then (block_to_alike t.endif_word vs (later_blocks (on (weakly e) d) h)) (λ p ws j. found (by.else_block p)))
    (λ vs e. beyond_word t.endif_word vs (λ ws j. found by.no_more_branches)))

one_branch_alike : {n m : ℕ} {f g : ReadsExpression} {blocks others : ReadsBlock} {more less : List Placed → Read FoundBranches} (ts : List Placed)
    → Good n m f g ts → GoodBlocks blocks others ts → ((us : List Placed) → Behind us ts → Alike true us (more us) (less us))
    → Alike true ts (by.one_branch f blocks more ts) (by.one_branch g others less ts)
one_branch_alike ts k h i =
    then (in_parentheses_alike ts k) (λ c us d. perhaps_then (h us (weakly d)) (λ p vs e.
    then (more_branches_alike vs (later_blocks (on e (weakly d)) h) (λ ws j. i ws (strictly (on (weakly j) e) d))) (λ b ws j. found (by.with_branch c p b))))

pub branches_alike : (n m : ℕ) {f g : ReadsExpression} {blocks others : ReadsBlock} (ts : List Placed)
    → Good n m f g ts → GoodBlocks blocks others ts → Alike true ts (by.branches n f blocks ts) (by.branches m g others ts)
unfolding branches
branches_alike zero m ts k h = let l = k.first in absurd (omega (arith, l))
branches_alike (suc n) zero ts k h = let l = k.second in absurd (omega (arith, l))
branches_alike (suc n) (suc m) ts k h = one_branch_alike ts k h (λ us d. branches_alike n m us (inner d k) (later_blocks (weakly d) h))

if_statement_alike : {n m : ℕ} {f g : ReadsExpression} {blocks others : ReadsBlock} (line : ℕ) (ts : List Placed)
    → Good n m f g ts → GoodBlocks blocks others ts → Alike true ts (by.if_statement n f blocks line ts) (by.if_statement m g others line ts)
if_statement_alike {n} {m} line ts k h = then (branches_alike n m ts k h) (λ b us d. found (by.branch_of line b))

-- ---- loops and `fork`

over_range_alike : {n m : ℕ} {f g : ReadsExpression} {blocks others : ReadsBlock} (line : ℕ) (x : Text) (ts : List Placed)
    → Good n m f g ts → GoodBlocks blocks others ts → Alike true ts (by.over_range f blocks line x ts) (by.over_range g others line x ts)
over_range_alike line x ts k h =
    then (reading k false 0) (λ a us d. beyond t.double_dot us (λ vs e. then (reading (later (on (weakly e) (weakly d)) k) false 0) (λ b ws i.
    beyond t.close_bracket ws (λ xs j. then (block_to_alike t.endfor_word xs (later_blocks (on (weakly j) (on (weakly i) (on (weakly e) (weakly d)))) h)) (λ p ys q.
    found (by.loop_of line (Some x) (for_range x a.tree b.tree p.tree) (a.nodes ++ b.nodes) p))))))

over_list_alike : {n m : ℕ} {f g : ReadsExpression} {blocks others : ReadsBlock} (line : ℕ) (x : Text) (ts : List Placed)
    → Good n m f g ts → GoodBlocks blocks others ts → Alike true ts (by.over_list f blocks line x ts) (by.over_list g others line x ts)
over_list_alike line x ts k h =
    then (in_parentheses_alike ts k) (λ e us d. then (block_to_alike t.endfor_word us (later_blocks (weakly d) h)) (λ p vs i.
    found (by.loop_of line (Some x) (for_each x e.tree p.tree) e.nodes p)))

for_statement_alike : {n m : ℕ} {f g : ReadsExpression} {blocks others : ReadsBlock} (line : ℕ) (ts : List Placed)
    → Good n m f g ts → GoodBlocks blocks others ts → Alike true ts (by.for_statement f blocks line ts) (by.for_statement g others line ts)
for_statement_alike line ts k h =
    beyond_name ts (λ x at us d. beyond_word t.in_word us (λ vs e. if_there t.open_bracket vs
    (λ ws i. let q = on (weakly i) (on (weakly e) (weakly d)) in over_range_alike line (fold_case x) ws (later q k) (later_blocks q h))
    (λ ws i. let q = on i (on (weakly e) (weakly d)) in over_list_alike line (fold_case x) ws (later q k) (later_blocks q h))))

while_statement_alike : {n m : ℕ} {f g : ReadsExpression} {blocks others : ReadsBlock} (line : ℕ) (ts : List Placed)
    → Good n m f g ts → GoodBlocks blocks others ts → Alike true ts (by.while_statement f blocks line ts) (by.while_statement g others line ts)
while_statement_alike line ts k h =
    perhaps_then (perhaps_word_alike ts) (λ x us d. then (in_parentheses_alike us (later d k)) (λ c vs e.
    then (block_to_alike t.endwhile_word vs (later_blocks (on (weakly e) d) h)) (λ p ws i. found (by.loop_of line x (repeat x c.tree p.tree) c.nodes p))))

fork_statement_alike : {n m : ℕ} {f g : ReadsExpression} {blocks others : ReadsBlock} (line : ℕ) (ts : List Placed)
    → Good n m f g ts → GoodBlocks blocks others ts → Alike true ts (by.fork_statement f blocks line ts) (by.fork_statement g others line ts)
fork_statement_alike line ts k h =
    perhaps_then (perhaps_word_alike ts) (λ x us d. then (in_parentheses_alike us (later d k)) (λ e vs i.
    then (block_to_alike t.endfork_word vs (later_blocks (on (weakly i) d) h)) (λ p ws j. found (by.forked line x e p))))

-- ---- `try`

more_arms_alike : {more less : List Placed → Read FoundArms} (ts : List Placed)
    → ((us : List Placed) → Behind us ts → Alike true us (more us) (less us)) → Alike true ts (by.more_arms more ts) (by.more_arms less ts)
more_arms_alike ts i = if_word_there t.except_word ts (λ us d. i us d) (λ us d. beyond_word t.endtry_word us (λ vs e. found by.no_more_arms))

one_arm_alike : {n m : ℕ} {f g : ReadsExpression} {blocks others : ReadsBlock} {more less : List Placed → Read FoundArms} (ts : List Placed)
    → Good (suc n) (suc m) f g ts → GoodBlocks blocks others ts → ((us : List Placed) → Behind us ts → Alike true us (more us) (less us))
    → Alike true ts (by.one_arm n f blocks more ts) (by.one_arm m g others less ts)
one_arm_alike ts k h i =
    perhaps_then (perhaps_word_alike ts) (λ x us d. beyond t.open_parenthesis us (λ vs e. then (error_codes_alike false vs (inner (and_strictly e d) k)) (λ c ws j.
    beyond t.close_parenthesis ws (λ xs l.
    let q = on (weakly l) (on (weakly j) (weakly (and_strictly e d))) in
    perhaps_then (h xs q) (λ p ys r.
    then (more_arms_alike ys (λ zs s. i zs (and_strictly (and_strictly s r) q))) (λ a zs s. found (by.with_arm x c p a)))))))

pub arms_alike : (n m : ℕ) {f g : ReadsExpression} {blocks others : ReadsBlock} (ts : List Placed)
    → Good n m f g ts → GoodBlocks blocks others ts → Alike true ts (by.arms n f blocks ts) (by.arms m g others ts)
unfolding arms
arms_alike zero m ts k h = let l = k.first in absurd (omega (arith, l))
arms_alike (suc n) zero ts k h = let l = k.second in absurd (omega (arith, l))
arms_alike (suc n) (suc m) ts k h = one_arm_alike ts k h (λ us d. arms_alike n m us (inner d k) (later_blocks (weakly d) h))

finally_part_alike : {f g : ReadsBlock} (line : ℕ) (p : FoundBlock) (ts : List Placed)
    → GoodBlocks f g ts → Alike true ts (by.finally_part f line p ts) (by.finally_part g line p ts)
finally_part_alike line p ts h = then (block_to_alike t.endtry_word ts h) (λ q us d. found (by.finished_of line p q))

handlers_alike : {n m : ℕ} {f g : ReadsExpression} {blocks others : ReadsBlock} (line : ℕ) (p : FoundBlock) (ts : List Placed)
    → Good n m f g ts → GoodBlocks blocks others ts → Alike true ts (by.handlers n f blocks line p ts) (by.handlers m g others line p ts)
handlers_alike {n} {m} line p ts k h =
    beyond_word t.except_word ts (λ us d. then (arms_alike n m us (later (weakly d) k) (later_blocks (weakly d) h)) (λ a vs e. found (by.guarded_of line p a)))

try_statement_alike : {n m : ℕ} {f g : ReadsExpression} {blocks others : ReadsBlock} (line : ℕ) (ts : List Placed)
    → Good n m f g ts → GoodBlocks blocks others ts → Alike true ts (by.try_statement n f blocks line ts) (by.try_statement m g others line ts)
try_statement_alike line ts k h =
    perhaps_then (h ts all) (λ p us d. if_word_there t.finally_word us
    (λ vs e. finally_part_alike line p vs (later_blocks (on (weakly e) d) h))
    (λ vs e. handlers_alike line p vs (later (on e d) k) (later_blocks (on e d) h)))

-- ---- simple statements

leaving_statement_alike : (f : Option Text → Statement) (line : ℕ) (ts : List Placed)
    → Alike true ts (by.leaving_statement f line ts) (by.leaving_statement f line ts)
leaving_statement_alike f line ts = perhaps_then (perhaps_word_alike ts) (λ x us d. beyond t.semicolon us (λ vs e. found (by.stray line x (f x))))

return_statement_alike : {n m : ℕ} {f g : ReadsExpression} (line : ℕ) (ts : List Placed)
    → Good n m f g ts → Alike true ts (by.return_statement f line ts) (by.return_statement g line ts)
return_statement_alike line ts k =
    if_there t.semicolon ts
    (λ us d. found (by.simple line give_zero []))
    (λ us d. then (reading (later d k) false 0) (λ e vs i. beyond t.semicolon vs (λ ws j. found (by.simple line (give e.tree) e.nodes))))

expression_statement_alike : (f g : ReadsExpression) (ts : List Placed)
    → Alike true ts (f false 0 ts) (g false 0 ts) → Alike true ts (by.expression_statement f ts) (by.expression_statement g ts)
expression_statement_alike f g ts h =
    then h (λ e us d. beyond t.semicolon us (λ vs i. found (by.simple (line_of ts) (evaluate e.tree) e.nodes)))

-- ---- programs

-- a statement takes a token at least, and then there is a block behind it
then_block_alike : {blocks others : ReadsBlock} {a b : Read FoundStatement} {ts : List Placed}
    → Alike true ts a b → ((us : List Placed) → Behind us ts → Alike false us (blocks us) (others us))
    → Alike true ts (by.then_block blocks a) (by.then_block others b)
then_block_alike k h = then k (λ s us d. perhaps_then (h us d) (λ p vs e. found (by.and_block s p)))

behind_one : {blocks others : ReadsBlock} {a b : Read FoundStatement} {ts : List Placed} (p : Placed)
    → Alike true ts a b → GoodBlocks blocks others ts → Alike false (p ∷ ts) (by.then_block blocks a) (by.then_block others b)
behind_one p k h = weak (next p (then_block_alike k (λ us d. h us (weakly d))))

by_keyword_alike : {n m : ℕ} {f g : ReadsExpression} {blocks others : ReadsBlock} (w : Keyword) (line : ℕ) (p : Placed) (ts : List Placed)
    → Good n m f g ts → GoodBlocks blocks others ts
    → Alike false (p ∷ ts) (by.by_keyword n f blocks w line ts (p ∷ ts)) (by.by_keyword m g others w line ts (p ∷ ts))
by_keyword_alike t.if_word line p ts k h = behind_one p (if_statement_alike line ts k h) h
by_keyword_alike t.for_word line p ts k h = behind_one p (for_statement_alike line ts k h) h
by_keyword_alike t.while_word line p ts k h = behind_one p (while_statement_alike line ts k h) h
by_keyword_alike t.fork_word line p ts k h = behind_one p (fork_statement_alike line ts k h) h
by_keyword_alike t.try_word line p ts k h = behind_one p (try_statement_alike line ts k h) h
by_keyword_alike t.break_word line p ts k h = behind_one p (leaving_statement_alike leave_loop line ts) h
by_keyword_alike t.continue_word line p ts k h = behind_one p (leaving_statement_alike next_turn line ts) h
by_keyword_alike t.return_word line p ts k h = behind_one p (return_statement_alike line ts k) h
by_keyword_alike _ line p ts k h = found by.no_statements

-- one that begins with an expression
begun : (f g : ReadsExpression) {blocks others : ReadsBlock} (p : Placed) (ts : List Placed)
    → Alike true (p ∷ ts) (f false 0 (p ∷ ts)) (g false 0 (p ∷ ts)) → GoodBlocks blocks others ts
    → Alike false (p ∷ ts) (by.then_block blocks (by.expression_statement f (p ∷ ts))) (by.then_block others (by.expression_statement g (p ∷ ts)))
begun f g p ts i h = weak (then_block_alike (expression_statement_alike f g (p ∷ ts) i) (λ us d. h us (tail_of d)))

by_sign_alike : (n m : ℕ) (f g : ReadsExpression) {blocks others : ReadsBlock} (s : Sign) (line : ℕ) (p : Placed) (ts : List Placed)
    → Alike true (p ∷ ts) (f false 0 (p ∷ ts)) (g false 0 (p ∷ ts)) → GoodBlocks blocks others ts
    → Alike false (p ∷ ts) (by.by_token n f blocks (t.sign s) line ts (p ∷ ts)) (by.by_token m g others (t.sign s) line ts (p ∷ ts))
by_sign_alike n m f g t.semicolon line p ts i h = weak (next p (h ts all))
by_sign_alike n m f g t.open_parenthesis line p ts i h = begun f g p ts i h
by_sign_alike n m f g t.open_brace line p ts i h = begun f g p ts i h
by_sign_alike n m f g t.dollar line p ts i h = begun f g p ts i h
by_sign_alike n m f g t.backquote line p ts i h = begun f g p ts i h
by_sign_alike n m f g t.minus_sign line p ts i h = begun f g p ts i h
by_sign_alike n m f g t.not_sign line p ts i h = begun f g p ts i h
by_sign_alike n m f g _ line p ts i h = found by.no_statements

by_token_alike : {n m : ℕ} {f g : ReadsExpression} {blocks others : ReadsBlock} (u : Token) (line : ℕ) (p : Placed) (ts : List Placed)
    → Good n m f g ts → Alike true (p ∷ ts) (f false 0 (p ∷ ts)) (g false 0 (p ∷ ts)) → GoodBlocks blocks others ts
    → Alike false (p ∷ ts) (by.by_token n f blocks u line ts (p ∷ ts)) (by.by_token m g others u line ts (p ∷ ts))
by_token_alike (t.keyword w) line p ts k i h = by_keyword_alike w line p ts k h
by_token_alike {n} {m} {f} {g} (t.sign s) line p ts k i h = by_sign_alike n m f g s line p ts i h
by_token_alike (t.bad w) line p ts k i h = found by.no_statements
by_token_alike {f = f} {g} _ line p ts k i h = begun f g p ts i h

pub block_alike : (n m : ℕ) (ts : List Placed) → suc (length ts) < n → suc (length ts) < m → Alike false ts (by.block n ts) (by.block m ts)
unfolding block
block_alike zero m ts i j = absurd (omega (arith, i))
block_alike (suc n) zero ts i j = absurd (omega (arith, j))
block_alike (suc n) (suc m) [] i j = found by.no_statements
block_alike (suc n) (suc m) (p ∷ ts) i j =
    let x : suc (length ts) < n = omega (arith, i) in
    let y : suc (length ts) < m = omega (arith, j) in
    by_token_alike p.token p.line p ts
    (record {
      first = omega (arith, x);
      second = omega (arith, y);
      reads = λ c q us e. let z = fewer e in expression_alike n m c q us (omega (arith, x, z)) (omega (arith, y, z));
    })
    (expression_alike n m false 0 (p ∷ ts) x y)
    (λ us e. let z = fewer e in block_alike n m us (omega (arith, x, z)) (omega (arith, y, z)))

-- ---- the laws

pub enough_for_block : EnoughForBlock
enough_for_block n m ts i j = same (block_alike n m ts i j)

pub block_leaves : BlockLeaves
block_leaves n ts i = leaves (block_alike n n ts i i)

blocks_good : (n m : ℕ) (ts : List Placed) → suc (length ts) < n → suc (length ts) < m → GoodBlocks (block n) (block m) ts
blocks_good n m ts x y us e = let z = fewer e in block_alike n m us (omega (arith, x, z)) (omega (arith, y, z))

pub enough_for_branches : EnoughForBranches
enough_for_branches n m i j q r ts h k x y = same (branches_alike n m ts (both_good h k) (blocks_good q r ts x y))

pub enough_for_arms : EnoughForArms
enough_for_arms n m i j q r ts h k x y = same (arms_alike n m ts (both_good h k) (blocks_good q r ts x y))

pub statement_parts_consume : StatementPartsConsume
statement_parts_consume n i q ts h x =
    (consumes (branches_alike n n ts (both_good h h) (blocks_good q q ts x x)), consumes (arms_alike n n ts (both_good h h) (blocks_good q q ts x x)))

pub enough_for_text : EnoughForText
enough_for_text n ts i = ap (by.parsed_by ts) (enough_for_block (suc (suc (length ts))) n ts (omega arith) i)
