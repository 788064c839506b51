-- Canonical tokens of branches and handlers are read as the trees that they are of.
use Rattle.std.proofs.Common.{arith, ◌≡◌, ℕ, false, ◌&&◌, List, [], ◌∷◌, ◌++◌, Option, IsTrue, refl, ap, ◌∙◌}
use Rattle.std.specs.Prelude.{max}
use Rattle.spec_value.proofs.Entries.{first_holds, second_holds}
use Rattle.spec_value.specs.Datum.{Text}
use Rattle.spec_program.specs.Tree.{Expr, Codes, branch, guarded, finished, Program, Branches, no_branches, on, Otherwise, no_else, else_do, Arms, no_arms, except}
use Rattle.spec_program.specs.Tokens as t
use Rattle.spec_program.specs.Tokens.{Sign, Keyword, Token, Placed}
use Rattle.spec_program.specs.Reading.{Read, got, and_then, if_keyword, past_sign, Node, under}
use Rattle.spec_program.specs.ReadExpressions.{Found, FoundCodes, expression}
use Rattle.spec_program.specs.ReadPrograms as by
use Rattle.spec_program.specs.ReadPrograms.{Stray, FoundBlock, FoundStatement, FoundBranches, FoundArms, block, branches, arms}
use Rattle.spec_program.specs.Moves.{at}
use Rattle.spec_program.specs.Trees.{may_name, expr_fits, codes_fit, program_fits, branches_fit, otherwise_fits, arms_fit, expr_height, codes_height, program_height, branches_height, otherwise_height, arms_height}
use Rattle.spec_program.specs.CanonicalTokens.{Laid, none, next, in_parentheses, expression_tokens, codes_tokens}
use Rattle.spec_program.proofs.LowTrees.{Within}
use Rattle.spec_program.proofs.StatementsFit.{Taken}
use Rattle.spec_program.proofs.MovesHold.{block_again, branches_again, arms_again}
use Rattle.spec_program.proofs.Laid.{Cut, cut, split, Enough, later, tail, of}
use Rattle.spec_program.proofs.OperatorsBack.{one_higher, of_two, wider}
use Rattle.spec_spelling.specs.ProgramTokens.{up_to, name_before, program_tokens, branches_tokens, otherwise_tokens, arms_tokens}
use Rattle.spec_spelling.proofs.CatchesBack.{CodesGot, codes_back}
use Rattle.spec_spelling.proofs.ExpressionsBack.{all_codes_back}
use Rattle.spec_spelling.proofs.StatementsBack.{taken_both, BlockGot, StatementGot, Ended, ProgramBack, StatementBack, HeadGot, head_read, name_read, BodyGot, body_read}

-- ---- `if`

abbrev pub BranchesBacks : Branches → Type 0
BranchesBacks no_branches = Unit {0}
BranchesBacks (on c p more) = ProgramBack p × BranchesBacks more

abbrev pub OtherwiseBack : Otherwise → Type 0
OtherwiseBack no_else = Unit {0}
OtherwiseBack (else_do p) = ProgramBack p

record BranchesGot (n : ℕ) (loops : List (Option Text)) (bs : Branches) (q : Otherwise) (ts us : List Placed) : Type 0 where
  nodes : List Node
  strays : List Stray
  low : Within (max (branches_height bs) (otherwise_height q)) nodes
  kept : Taken loops strays
  reads : branches n (expression n) (block n) ts ≡ got (record { branches = bs; otherwise = q; nodes = nodes; strays = strays }) us

-- behind a branch
record MoreGot (n : ℕ) (loops : List (Option Text)) (bs : Branches) (q : Otherwise) (ts us : List Placed) : Type 0 where
  nodes : List Node
  strays : List Stray
  low : Within (max (branches_height bs) (otherwise_height q)) nodes
  kept : Taken loops strays
  reads :
      by.more_branches (block n) (branches n (expression n) (block n)) ts ≡ got (record { branches = bs; otherwise = q; nodes = nodes; strays = strays }) us

branch_read : {n : ℕ} {loops : List (Option Text)} {c : Expr} {p : Program} {more : Branches} {q : Otherwise} {ts vs ws us : List Placed}
    → HeadGot n c ts vs → BlockGot n loops p vs ws → MoreGot n loops more q ws us → Enough n ts → BranchesGot n loops (on c p more) q ts us
branch_read {n} {loops} {c} {p} {more} {q} {ts} h b m i =
    record {
      nodes = h.nodes ++ (b.nodes ++ m.nodes);
      strays = b.strays ++ m.strays;
      low =
          wider (max (expr_height c) (max (program_height p) (max (branches_height more) (otherwise_height q))))
          (max (max (expr_height c) (max (program_height p) (branches_height more))) (otherwise_height q)) (h.nodes ++ (b.nodes ++ m.nodes)) (omega arith)
          (of_two (expr_height c) (max (program_height p) (max (branches_height more) (otherwise_height q))) h.nodes (b.nodes ++ m.nodes) h.low
          (of_two (program_height p) (max (branches_height more) (otherwise_height q)) b.nodes m.nodes b.low m.low));
      kept = taken_both loops b.strays m.strays b.kept m.kept;
      reads =
          branches_again n ts i
          ∙ ap (λ r. and_then r body) h.reads
          ∙ ap (λ r. and_then r (further (of c h.line h.nodes))) b.reads
          ∙ ap (λ r. and_then r (whole (of c h.line h.nodes) (record { tree = p; nodes = b.nodes; strays = b.strays }))) m.reads;
    }
  where
    whole : Found → FoundBlock → FoundBranches → List Placed → Read FoundBranches
    whole c p b us = got (by.with_branch c p b) us

    further : Found → FoundBlock → List Placed → Read FoundBranches
    further c p vs = by.and_branches (block n) (branches n (expression n) (block n)) c p vs

    body : Found → List Placed → Read FoundBranches
    body c us = and_then (block n us) (further c)

after_branch : (more : Branches) (q : Otherwise) (ts vs us : List Placed) → Laid (branches_tokens t.elseif_word more) ts vs
    → Laid (up_to (otherwise_tokens q) t.endif_word) vs us → Ended ts
after_branch no_branches no_else ts vs us none (next m l) = refl
after_branch no_branches (else_do p) ts vs us none (next m l) = refl
after_branch (on c p more) q ts vs us (next line l) m = refl

otherwise_read : (q : Otherwise) → OtherwiseBack q → (n : ℕ) (loops : List (Option Text)) (ts us : List Placed) → IsTrue (otherwise_fits loops q)
    → Laid (up_to (otherwise_tokens q) t.endif_word) ts us → Enough n ts → MoreGot n loops no_branches q ts us
otherwise_read no_else r n loops ts us h (next m none) i = record { nodes = []; strays = []; low = refl; kept = refl; reads = refl }
otherwise_read (else_do p) r n loops ts us h (next {ts = vs} m l) i =
    let b = body_read t.endif_word refl refl p r n loops vs us h l (tail (at m (t.keyword t.else_word)) vs i) in
    record {
      nodes = b.nodes;
      strays = b.strays;
      low = wider (program_height p) (max 0 (program_height p)) b.nodes (omega arith) b.low;
      kept = b.kept;
      reads = ap (λ r. and_then r (λ p ws. got (by.else_block p) ws)) b.reads;
    }

abbrev MoreRead : ℕ → List (Option Text) → Branches → Otherwise → List Placed → List Placed → Type 0
MoreRead n loops more q vs us = (ts : List Placed) → Laid (branches_tokens t.elseif_word more) ts vs → Enough n ts → MoreGot n loops more q ts us

one_read : (c : Expr) (p : Program) (more : Branches) (q : Otherwise) → ProgramBack p → (n : ℕ) (loops : List (Option Text)) (ts vs us : List Placed)
    → IsTrue (expr_fits false c) → IsTrue (program_fits loops p) → MoreRead n loops more q vs us → Laid (up_to (otherwise_tokens q) t.endif_word) vs us
    → Laid (in_parentheses (expression_tokens c) ++ (program_tokens p ++ branches_tokens t.elseif_word more)) ts vs → Enough n ts → BranchesGot n loops (on c p more) q ts us
one_read c p more q r n loops ts vs us hc hp others lq l i =
    first (split (in_parentheses (expression_tokens c)) (program_tokens p ++ branches_tokens t.elseif_word more) l)
  where
    second : (ws : List Placed) → Laid (in_parentheses (expression_tokens c)) ts ws → Cut (program_tokens p) (branches_tokens t.elseif_word more) ws vs
        → BranchesGot n loops (on c p more) q ts us
    second ws lc (cut zs lp lm) =
        let i1 = later lc i in
        branch_read (head_read c n ts ws hc lc i) (r.block_back n loops ws zs hp lp i1 (after_branch more q zs vs us lm lq)) (others zs lm (later lp i1)) i

    first : Cut (in_parentheses (expression_tokens c)) (program_tokens p ++ branches_tokens t.elseif_word more) ts vs → BranchesGot n loops (on c p more) q ts us
    first (cut ws lc x) = second ws lc (split (program_tokens p) (branches_tokens t.elseif_word more) x)

as_more : {n : ℕ} {loops : List (Option Text)} {bs : Branches} {q : Otherwise} {ts us : List Placed} (line : ℕ)
    → BranchesGot n loops bs q ts us → MoreGot n loops bs q (at line (t.keyword t.elseif_word) ∷ ts) us
as_more line g = record { nodes = g.nodes; strays = g.strays; low = g.low; kept = g.kept; reads = g.reads }

more_read : (more : Branches) (q : Otherwise) → BranchesBacks more → OtherwiseBack q → (n : ℕ) (loops : List (Option Text)) (ts vs us : List Placed)
    → IsTrue (branches_fit loops more) → IsTrue (otherwise_fits loops q) → Laid (branches_tokens t.elseif_word more) ts vs
    → Laid (up_to (otherwise_tokens q) t.endif_word) vs us → Enough n ts → MoreGot n loops more q ts us
more_read no_branches q rs rq n loops ts vs us h hq none lq i = otherwise_read q rq n loops ts us hq lq i
more_read (on c p more) q rs rq n loops ts vs us h hq (next {ts = zs} line l) lq i =
    let hr = second_holds (expr_fits false c) (program_fits loops p && branches_fit loops more) h in
    as_more line
    (one_read c p more q rs.0 n loops zs vs us (first_holds (expr_fits false c) (program_fits loops p && branches_fit loops more) h)
    (first_holds (program_fits loops p) (branches_fit loops more) hr)
    (λ ws k j. more_read more q rs.1 rq n loops ws vs us (second_holds (program_fits loops p) (branches_fit loops more) hr) hq k lq j) lq l
    (tail (at line (t.keyword t.elseif_word)) zs i))

branched : {n : ℕ} {loops : List (Option Text)} {bs : Branches} {q : Otherwise} {ts us : List Placed} (line : ℕ)
    → BranchesGot n loops bs q ts us → Enough n (at line (t.keyword t.if_word) ∷ ts) → StatementGot n loops (branch bs q) (at line (t.keyword t.if_word) ∷ ts) us
branched {n} {loops} {bs} {q} {ts} {us} line g i =
    record {
      nodes = under line g.nodes;
      strays = g.strays;
      low = one_higher (max (branches_height bs) (otherwise_height q)) line g.nodes g.low;
      kept = g.kept;
      reads =
          block_again n (at line (t.keyword t.if_word) ∷ ts) i
          ∙ ap (λ r. by.then_block (block n) (and_then r (λ b us. got (by.branch_of line b) us))) g.reads;
    }

pub branch_back : (bs : Branches) (q : Otherwise) → BranchesBacks bs → OtherwiseBack q → StatementBack (branch bs q)
branch_back no_branches q rs rq = record { statement_back = λ n loops ts us h l i. absurd (cc h) }
branch_back (on c p more) q rs rq = record { statement_back = go }
  where
    parts : (n : ℕ) (loops : List (Option Text)) (ts us : List Placed)
        → IsTrue ((expr_fits false c && (program_fits loops p && branches_fit loops more)) && otherwise_fits loops q)
        → Cut (branches_tokens t.if_word (on c p more)) (up_to (otherwise_tokens q) t.endif_word) ts us → Enough n ts → StatementGot n loops (branch (on c p more) q) ts us
    parts n loops ts us h (cut vs (next {ts = zs} line l) lq) i =
        let hb = first_holds (expr_fits false c && (program_fits loops p && branches_fit loops more)) (otherwise_fits loops q) h in
        let hq = second_holds (expr_fits false c && (program_fits loops p && branches_fit loops more)) (otherwise_fits loops q) h in
        let hr = second_holds (expr_fits false c) (program_fits loops p && branches_fit loops more) hb in
        branched line
        (one_read c p more q rs.0 n loops zs vs us (first_holds (expr_fits false c) (program_fits loops p && branches_fit loops more) hb)
        (first_holds (program_fits loops p) (branches_fit loops more) hr)
        (λ ws k j. more_read more q rs.1 rq n loops ws vs us (second_holds (program_fits loops p) (branches_fit loops more) hr) hq k lq j) lq l
        (tail (at line (t.keyword t.if_word)) zs i))
        i

    go : (n : ℕ) (loops : List (Option Text)) (ts us : List Placed)
        → IsTrue ((expr_fits false c && (program_fits loops p && branches_fit loops more)) && otherwise_fits loops q)
        → Laid (branches_tokens t.if_word (on c p more) ++ up_to (otherwise_tokens q) t.endif_word) ts us → Enough n ts
        → StatementGot n loops (branch (on c p more) q) ts us
    go n loops ts us h l i = parts n loops ts us h (split (branches_tokens t.if_word (on c p more)) (up_to (otherwise_tokens q) t.endif_word) l) i

-- ---- `try`

abbrev pub ArmsBacks : Arms → Type 0
ArmsBacks no_arms = Unit {0}
ArmsBacks (except x c p more) = ProgramBack p × ArmsBacks more

record ArmsGot (n : ℕ) (loops : List (Option Text)) (rs : Arms) (ts us : List Placed) : Type 0 where
  nodes : List Node
  strays : List Stray
  low : Within (arms_height rs) nodes
  kept : Taken loops strays
  reads : arms n (expression n) (block n) ts ≡ got (record { tree = rs; nodes = nodes; strays = strays }) us

-- behind a handler
record MoreArms (n : ℕ) (loops : List (Option Text)) (rs : Arms) (ts us : List Placed) : Type 0 where
  nodes : List Node
  strays : List Stray
  low : Within (arms_height rs) nodes
  kept : Taken loops strays
  reads : by.more_arms (arms n (expression n) (block n)) ts ≡ got (record { tree = rs; nodes = nodes; strays = strays }) us

-- perhaps a name, and codes in parentheses
record CodesHead (n : ℕ) (x : Option Text) (c : Codes) (ts us : List Placed) : Type 0 where
  open_line : ℕ
  close_line : ℕ
  inner : List Placed
  named : by.perhaps_word ts ≡ got x (at open_line (t.sign t.open_parenthesis) ∷ inner)
  codes : CodesGot n false c inner (at close_line (t.sign t.close_parenthesis) ∷ us)

codes_head : (x : Option Text) (c : Codes) (n : ℕ) (ts us : List Placed) → IsTrue (may_name x) → IsTrue (codes_fit false c)
    → Laid (name_before x ++ in_parentheses (codes_tokens c)) ts us → Enough n ts → CodesHead n x c ts us
codes_head x c n ts us hx hc l i = first (split (name_before x) (in_parentheses (codes_tokens c)) l)
  where
    second : (q : ℕ) (vs : List Placed) → Laid (name_before x) ts (at q (t.sign t.open_parenthesis) ∷ vs)
        → Cut (codes_tokens c) (t.sign t.close_parenthesis ∷ []) vs us → CodesHead n x c ts us
    second q vs k (cut _ y (next m none)) =
        record {
          open_line = q;
          close_line = m;
          inner = vs;
          named = name_read x ts (at q (t.sign t.open_parenthesis) ∷ vs) hx k refl;
          codes =
              codes_back c (all_codes_back c) n false vs (at m (t.sign t.close_parenthesis) ∷ us) hc y (tail (at q (t.sign t.open_parenthesis)) vs (later k i))
              (record { loose = refl; stops = refl; comma = refl });
        }

    first : Cut (name_before x) (in_parentheses (codes_tokens c)) ts us → CodesHead n x c ts us
    first (cut _ k (next {ts = vs} q m)) = second q vs k (split (codes_tokens c) (t.sign t.close_parenthesis ∷ []) m)

arm_read : {n : ℕ} {loops : List (Option Text)} {x : Option Text} {c : Codes} {p : Program} {more : Arms} {ts vs ws us : List Placed}
    → CodesHead n x c ts vs → BlockGot n loops p vs ws → MoreArms n loops more ws us → Enough n ts → ArmsGot n loops (except x c p more) ts us
arm_read {n} {loops} {x} {c} {p} {more} {ts} h b m i =
    record {
      nodes = h.codes.nodes ++ (b.nodes ++ m.nodes);
      strays = b.strays ++ m.strays;
      low =
          of_two (codes_height c) (max (program_height p) (arms_height more)) h.codes.nodes (b.nodes ++ m.nodes) h.codes.low
          (of_two (program_height p) (arms_height more) b.nodes m.nodes b.low m.low);
      kept = taken_both loops b.strays m.strays b.kept m.kept;
      reads =
          arms_again n ts i
          ∙ ap (λ r. and_then r (by.arm_named n (expression n) (block n) (arms n (expression n) (block n)))) h.named
          ∙ ap (λ r. and_then r body) h.codes.reads
          ∙ ap (λ r. and_then r (further (record { tree = c; nodes = h.codes.nodes }))) b.reads
          ∙ ap (λ r. and_then r (λ a us. got (by.with_arm x (record { tree = c; nodes = h.codes.nodes }) (record { tree = p; nodes = b.nodes; strays = b.strays }) a) us)) m.reads;
    }
  where
    further : FoundCodes → FoundBlock → List Placed → Read FoundArms
    further c p xs = by.and_arms (arms n (expression n) (block n)) x c p xs

    body : FoundCodes → List Placed → Read FoundArms
    body c vs = past_sign t.close_parenthesis vs (λ ws. and_then (block n ws) (further c))

after_arm : (more : Arms) (m : ℕ) (ts us : List Placed) → Laid (arms_tokens more) ts (at m (t.keyword t.endtry_word) ∷ us) → Ended ts
after_arm no_arms m ts us none = refl
after_arm (except x c p more) m ts us (next line l) = refl

abbrev ArmsRead : ℕ → List (Option Text) → Arms → List Placed → List Placed → Type 0
ArmsRead n loops more vs us = (ts : List Placed) → Laid (arms_tokens more) ts vs → Enough n ts → MoreArms n loops more ts us

one_arm_read : (x : Option Text) (c : Codes) (p : Program) (more : Arms) → ProgramBack p → (n : ℕ) (loops : List (Option Text)) (m : ℕ) (ts us : List Placed)
    → IsTrue (may_name x) → IsTrue (codes_fit false c) → IsTrue (program_fits loops p) → ArmsRead n loops more (at m (t.keyword t.endtry_word) ∷ us) us
    → Laid ((name_before x ++ in_parentheses (codes_tokens c)) ++ (program_tokens p ++ arms_tokens more)) ts (at m (t.keyword t.endtry_word) ∷ us) → Enough n ts
    → ArmsGot n loops (except x c p more) ts us
one_arm_read x c p more r n loops m ts us hx hc hp others l i =
    first (split (name_before x ++ in_parentheses (codes_tokens c)) (program_tokens p ++ arms_tokens more) l)
  where
    second : (ws : List Placed) → Laid (name_before x ++ in_parentheses (codes_tokens c)) ts ws
        → Cut (program_tokens p) (arms_tokens more) ws (at m (t.keyword t.endtry_word) ∷ us) → ArmsGot n loops (except x c p more) ts us
    second ws lc (cut zs lp lm) =
        let i1 = later lc i in
        arm_read (codes_head x c n ts ws hx hc lc i) (r.block_back n loops ws zs hp lp i1 (after_arm more m zs us lm)) (others zs lm (later lp i1)) i

    first : Cut (name_before x ++ in_parentheses (codes_tokens c)) (program_tokens p ++ arms_tokens more) ts (at m (t.keyword t.endtry_word) ∷ us)
        → ArmsGot n loops (except x c p more) ts us
    first (cut ws lc y) = second ws lc (split (program_tokens p) (arms_tokens more) y)

as_more_arms : {n : ℕ} {loops : List (Option Text)} {rs : Arms} {ts us : List Placed} (line : ℕ)
    → ArmsGot n loops rs ts us → MoreArms n loops rs (at line (t.keyword t.except_word) ∷ ts) us
as_more_arms line g = record { nodes = g.nodes; strays = g.strays; low = g.low; kept = g.kept; reads = g.reads }

more_arms_read : (more : Arms) → ArmsBacks more → (n : ℕ) (loops : List (Option Text)) (m : ℕ) (ts us : List Placed) → IsTrue (arms_fit loops more)
    → Laid (arms_tokens more) ts (at m (t.keyword t.endtry_word) ∷ us) → Enough n ts → MoreArms n loops more ts us
more_arms_read no_arms rs n loops m ts us h none i = record { nodes = []; strays = []; low = refl; kept = refl; reads = refl }
more_arms_read (except x c p more) rs n loops m ts us h (next {ts = zs} line l) i =
    let hxc = first_holds (may_name x && codes_fit false c) (program_fits loops p && arms_fit loops more) h in
    let hpm = second_holds (may_name x && codes_fit false c) (program_fits loops p && arms_fit loops more) h in
    as_more_arms line
    (one_arm_read x c p more rs.0 n loops m zs us (first_holds (may_name x) (codes_fit false c) hxc) (second_holds (may_name x) (codes_fit false c) hxc)
    (first_holds (program_fits loops p) (arms_fit loops more) hpm)
    (λ ws k j. more_arms_read more rs.1 n loops m ws us (second_holds (program_fits loops p) (arms_fit loops more) hpm) k j) l
    (tail (at line (t.keyword t.except_word)) zs i))

guarded_read : {n : ℕ} {loops : List (Option Text)} {p : Program} {rs : Arms} {ts vs us : List Placed} (line q : ℕ)
    → BlockGot n loops p ts (at q (t.keyword t.except_word) ∷ vs) → ArmsGot n loops rs vs us → Enough n (at line (t.keyword t.try_word) ∷ ts)
    → StatementGot n loops (guarded p rs) (at line (t.keyword t.try_word) ∷ ts) us
guarded_read {n} {loops} {p} {rs} {ts} {vs} {us} line q b a i =
    record {
      nodes = under line (b.nodes ++ a.nodes);
      strays = b.strays ++ a.strays;
      low = one_higher (max (program_height p) (arms_height rs)) line (b.nodes ++ a.nodes) (of_two (program_height p) (arms_height rs) b.nodes a.nodes b.low a.low);
      kept = taken_both loops b.strays a.strays b.kept a.kept;
      reads =
          block_again n (at line (t.keyword t.try_word) ∷ ts) i
          ∙ ap (by.then_block (block n))
          (ap (λ r. and_then r after) b.reads
          ∙ ap (λ r. and_then r (λ a vs. got (by.guarded_of line (record { tree = p; nodes = b.nodes; strays = b.strays }) a) vs)) a.reads);
    }
  where
    after : FoundBlock → List Placed → Read FoundStatement
    after p us = if_keyword t.finally_word (by.finally_part (block n) line p) (by.handlers n (expression n) (block n) line p) us

pub guarded_back : (p : Program) (rs : Arms) → ProgramBack p → ArmsBacks rs → StatementBack (guarded p rs)
guarded_back p no_arms r bs = record { statement_back = λ n loops ts us h l i. absurd (cc h) }
guarded_back p (except x c s more) r bs = record { statement_back = go }
  where
    third : (n : ℕ) (loops : List (Option Text)) (line m : ℕ) (zs vs us : List Placed)
        → IsTrue (program_fits loops p && ((may_name x && codes_fit false c) && (program_fits loops s && arms_fit loops more)))
        → Laid (program_tokens p) zs vs → Laid (arms_tokens (except x c s more)) vs (at m (t.keyword t.endtry_word) ∷ us)
        → Enough n (at line (t.keyword t.try_word) ∷ zs) → StatementGot n loops (guarded p (except x c s more)) (at line (t.keyword t.try_word) ∷ zs) us
    third n loops line m zs vs us h lp (next {ts = ws} q l) i =
        let hp = first_holds (program_fits loops p) ((may_name x && codes_fit false c) && (program_fits loops s && arms_fit loops more)) h in
        let ha = second_holds (program_fits loops p) ((may_name x && codes_fit false c) && (program_fits loops s && arms_fit loops more)) h in
        let hxc = first_holds (may_name x && codes_fit false c) (program_fits loops s && arms_fit loops more) ha in
        let hsm = second_holds (may_name x && codes_fit false c) (program_fits loops s && arms_fit loops more) ha in
        let i1 = tail (at line (t.keyword t.try_word)) zs i in
        guarded_read line q (r.block_back n loops zs (at q (t.keyword t.except_word) ∷ ws) hp lp i1 refl)
        (one_arm_read x c s more bs.0 n loops m ws us (first_holds (may_name x) (codes_fit false c) hxc) (second_holds (may_name x) (codes_fit false c) hxc)
        (first_holds (program_fits loops s) (arms_fit loops more) hsm)
        (λ ys k j. more_arms_read more bs.1 n loops m ys us (second_holds (program_fits loops s) (arms_fit loops more) hsm) k j) l
        (tail (at q (t.keyword t.except_word)) ws (later lp i1)))
        i

    second : (n : ℕ) (loops : List (Option Text)) (line : ℕ) (zs vs us : List Placed)
        → IsTrue (program_fits loops p && ((may_name x && codes_fit false c) && (program_fits loops s && arms_fit loops more)))
        → Laid (program_tokens p) zs vs → Cut (arms_tokens (except x c s more)) (t.keyword t.endtry_word ∷ []) vs us
        → Enough n (at line (t.keyword t.try_word) ∷ zs) → StatementGot n loops (guarded p (except x c s more)) (at line (t.keyword t.try_word) ∷ zs) us
    second n loops line zs vs us h lp (cut _ la (next m none)) i = third n loops line m zs vs us h lp la i

    first : (n : ℕ) (loops : List (Option Text)) (line : ℕ) (zs us : List Placed)
        → IsTrue (program_fits loops p && ((may_name x && codes_fit false c) && (program_fits loops s && arms_fit loops more)))
        → Cut (program_tokens p) (up_to (arms_tokens (except x c s more)) t.endtry_word) zs us
        → Enough n (at line (t.keyword t.try_word) ∷ zs) → StatementGot n loops (guarded p (except x c s more)) (at line (t.keyword t.try_word) ∷ zs) us
    first n loops line zs us h (cut vs lp la) i = second n loops line zs vs us h lp (split (arms_tokens (except x c s more)) (t.keyword t.endtry_word ∷ []) la) i

    go : (n : ℕ) (loops : List (Option Text)) (ts us : List Placed)
        → IsTrue (program_fits loops p && ((may_name x && codes_fit false c) && (program_fits loops s && arms_fit loops more)))
        → Laid (t.keyword t.try_word ∷ (program_tokens p ++ up_to (arms_tokens (except x c s more)) t.endtry_word)) ts us → Enough n ts
        → StatementGot n loops (guarded p (except x c s more)) ts us
    go n loops ts us h (next {ts = zs} line l) i = first n loops line zs us h (split (program_tokens p) (up_to (arms_tokens (except x c s more)) t.endtry_word) l) i

finished_read : {n : ℕ} {loops : List (Option Text)} {p q : Program} {ts vs us : List Placed} (line m : ℕ)
    → BlockGot n loops p ts (at m (t.keyword t.finally_word) ∷ vs) → BodyGot n loops t.endtry_word q vs us → Enough n (at line (t.keyword t.try_word) ∷ ts)
    → StatementGot n loops (finished p q) (at line (t.keyword t.try_word) ∷ ts) us
finished_read {n} {loops} {p} {q} {ts} {vs} {us} line m b d i =
    record {
      nodes = under line (b.nodes ++ d.nodes);
      strays = b.strays ++ d.strays;
      low = one_higher (max (program_height p) (program_height q)) line (b.nodes ++ d.nodes) (of_two (program_height p) (program_height q) b.nodes d.nodes b.low d.low);
      kept = taken_both loops b.strays d.strays b.kept d.kept;
      reads =
          block_again n (at line (t.keyword t.try_word) ∷ ts) i
          ∙ ap (by.then_block (block n))
          (ap (λ r. and_then r after) b.reads
          ∙ ap (λ r. and_then r (λ q us. got (by.finished_of line (record { tree = p; nodes = b.nodes; strays = b.strays }) q) us)) d.reads);
    }
  where
    after : FoundBlock → List Placed → Read FoundStatement
    after p us = if_keyword t.finally_word (by.finally_part (block n) line p) (by.handlers n (expression n) (block n) line p) us

pub finished_back : (p q : Program) → ProgramBack p → ProgramBack q → StatementBack (finished p q)
finished_back p q rp rq = record { statement_back = go }
  where
    first : (n : ℕ) (loops : List (Option Text)) (line : ℕ) (zs us : List Placed) → IsTrue (program_fits loops p && program_fits loops q)
        → Cut (program_tokens p) (t.keyword t.finally_word ∷ up_to (program_tokens q) t.endtry_word) zs us
        → Enough n (at line (t.keyword t.try_word) ∷ zs) → StatementGot n loops (finished p q) (at line (t.keyword t.try_word) ∷ zs) us
    first n loops line zs us h (cut _ lp (next {ts = vs} m lq)) i =
        let i1 = tail (at line (t.keyword t.try_word)) zs i in
        finished_read line m
        (rp.block_back n loops zs (at m (t.keyword t.finally_word) ∷ vs) (first_holds (program_fits loops p) (program_fits loops q) h) lp i1 refl)
        (body_read t.endtry_word refl refl q rq n loops vs us (second_holds (program_fits loops p) (program_fits loops q) h) lq
        (tail (at m (t.keyword t.finally_word)) vs (later lp i1)))
        i

    go : (n : ℕ) (loops : List (Option Text)) (ts us : List Placed) → IsTrue (program_fits loops p && program_fits loops q)
        → Laid (t.keyword t.try_word ∷ (program_tokens p ++ (t.keyword t.finally_word ∷ up_to (program_tokens q) t.endtry_word))) ts us → Enough n ts
        → StatementGot n loops (finished p q) ts us
    go n loops ts us h (next {ts = zs} line l) i = first n loops line zs us h (split (program_tokens p) (t.keyword t.finally_word ∷ up_to (program_tokens q) t.endtry_word) l) i
