-- Canonical tokens of verbs are read as the trees that they are of.
use Rattle.std.proofs.Common.{◌≡◌, ℕ, pos, Bool, true, false, ◌&&◌, List, [], ◌∷◌, ◌++◌, IsTrue, refl, sym, ap, subst, ◌∙◌}
use Rattle.std.specs.Prelude.{max, Option, Some, None}
use Rattle.spec_value.proofs.Entries.{first_holds, second_holds}
use Rattle.spec_value.specs.Datum as value
use Rattle.spec_value.specs.Datum.{Text}
use Rattle.spec_program.specs.Tree.{Expr, literal, verb_call, Arguments}
use Rattle.spec_program.specs.Spelling.{level, plain_name, is_system}
use Rattle.spec_program.specs.Tokens as t
use Rattle.spec_program.specs.Tokens.{Token, Placed}
use Rattle.spec_program.specs.Reading.{got, and_then, under}
use Rattle.spec_program.specs.ReadExpressions as by
use Rattle.spec_program.specs.ReadExpressions.{Found, FoundArguments, Operand, steps, expression}
use Rattle.spec_program.specs.Moves.{at}
use Rattle.spec_program.specs.Trees.{expr_fits, arguments_fit, expr_height, arguments_height}
use Rattle.spec_program.specs.CanonicalTokens.{Laid, none, next, at_level, in_parentheses, name_tokens, dotted, expression_tokens, arguments_tokens}
use Rattle.spec_program.proofs.Laid.{Cut, cut, split, Enough, later, tail, Free, of, Post}
use Rattle.spec_program.proofs.OperatorsBack.{one_higher, of_two, Back, leveled_post, operand_back}
use Rattle.spec_program.proofs.StepsBack.{step_read, name_is, system_is, NameGot, name_back}
use Rattle.spec_program.proofs.ArgumentsBack.{Backs, ArgumentsGot, arguments_back}

verb_read : {n : ℕ} {b : Bool} {k line m : ℕ} {o v : Expr} {es : Arguments} {ts vs ws us : List Placed}
    → Post n b k o ts (at line (t.sign t.colon) ∷ vs) → Enough n (at line (t.sign t.colon) ∷ vs)
    → NameGot n b v vs (at m (t.sign t.open_parenthesis) ∷ ws) → ArgumentsGot n b es ws us → Post n b k (verb_call o v es) ts us
verb_read {n} {b} {k} {line} {m} {o} {v} {es} {ts} {vs} {ws} {us} r h s g =
    record {
      line = r.line;
      nodes = under r.line (r.nodes ++ (s.nodes ++ g.nodes));
      target = None;
      ranged = false;
      braces = by.no_braces;
      low =
          one_higher (max (expr_height o) (max (expr_height v) (arguments_height es))) r.line (r.nodes ++ (s.nodes ++ g.nodes))
          (of_two (expr_height o) (max (expr_height v) (arguments_height es)) r.nodes (s.nodes ++ g.nodes) r.low (of_two (expr_height v) (arguments_height es) s.nodes g.nodes s.low g.low));
      sure = refl;
      reads =
          step_read r h
          ∙ ap (λ z. and_then z (λ v us. and_then (by.verb_of n (expression n) b (of o r.line r.nodes) v us) (steps n (expression n) b))) s.reads
          ∙ ap (λ z. and_then (and_then z (λ es vs. got (by.whole (by.found_at r.line (verb_call o v es.tree) (r.nodes ++ (s.nodes ++ es.nodes)))) vs)) (steps n (expression n) b)) g.reads;
    }

system_verb : {n : ℕ} {b : Bool} {k : ℕ} {es : Arguments} {ws us : List Placed} (line q m : ℕ) (x : Text) → ArgumentsGot n b es ws us
    → Post n b k (verb_call (literal (value.object (pos 0))) (literal (value.text x)) es)
    (at line (t.sign t.dollar) ∷ at q (t.word x) ∷ at m (t.sign t.open_parenthesis) ∷ ws) us
system_verb {n} {b} {k} {es} {ws} {us} line q m x g =
    record {
      line = line;
      nodes = under line (under line [] ++ (under q [] ++ g.nodes));
      target = None;
      ranged = false;
      braces = by.no_braces;
      low =
          one_higher (max 1 (max 1 (arguments_height es))) line (under line [] ++ (under q [] ++ g.nodes))
          (of_two 1 (max 1 (arguments_height es)) (under line []) (under q [] ++ g.nodes) refl (of_two 1 (arguments_height es) (under q []) g.nodes refl g.low));
      sure = refl;
      reads =
          ap (λ z. by.with_steps n (expression n) b
          (and_then z (λ es vs. got (by.whole (by.found_at line (verb_call (literal (value.object (pos 0))) (literal (value.text x)) es.tree) (under line [] ++ (under q [] ++ es.nodes)))) vs))) g.reads;
    }

short_verb : {o v : Expr} {es : Arguments} (n : ℕ) (b : Bool) (k q : ℕ) (ts vs us : List Placed) (x : Text) → is_system o ≡ true → plain_name v ≡ Some x
    → ArgumentsGot n b es vs us → (ws : List Placed) → ws ≡ at q (t.sign t.open_parenthesis) ∷ vs → Laid (t.sign t.dollar ∷ t.word x ∷ []) ts ws
    → Post n b k (verb_call o v es) ts us
short_verb {o} {v} {es} n b k q ts vs us x c d g ws e (next line (next m none)) =
    subst (λ z. Post n b k (verb_call o v es) (at line (t.sign t.dollar) ∷ at m (t.word x) ∷ z) us) (sym e)
    (subst (λ u. Post n b k (verb_call u v es) (at line (t.sign t.dollar) ∷ at m (t.word x) ∷ at q (t.sign t.open_parenthesis) ∷ vs) us) (sym (system_is o c))
    (subst (λ u. Post n b k (verb_call (literal (value.object (pos 0))) u es) (at line (t.sign t.dollar) ∷ at m (t.word x) ∷ at q (t.sign t.open_parenthesis) ∷ vs) us)
    (sym (name_is v x d)) (system_verb line m q x g)))

pub verb_back : (o v : Expr) (es : Arguments) → Back o → Back v → Backs es → Back (verb_call o v es)
verb_back o v es ro rv rs = operand_back go
  where
    go : (n : ℕ) (b : Bool) (k : ℕ) (ts us : List Placed) → IsTrue (expr_fits b o && (expr_fits b v && arguments_fit b es))
        → Laid (expression_tokens (verb_call o v es)) ts us → Enough n ts → Free us → Post n b k (verb_call o v es) ts us
    go n b k ts us h l e fr = by_name (is_system o) (plain_name v) refl refl l
      where
        ho : IsTrue (expr_fits b o)
        ho = first_holds (expr_fits b o) (expr_fits b v && arguments_fit b es) h

        rest : IsTrue (expr_fits b v && arguments_fit b es)
        rest = second_holds (expr_fits b o) (expr_fits b v && arguments_fit b es) h

        hv : IsTrue (expr_fits b v)
        hv = first_holds (expr_fits b v) (arguments_fit b es) rest

        hes : IsTrue (arguments_fit b es)
        hes = second_holds (expr_fits b v) (arguments_fit b es) rest

        long : (m : Option Text) → plain_name v ≡ m → (vs : List Placed) (q : ℕ)
            → Laid (arguments_tokens es ++ t.sign t.close_parenthesis ∷ []) vs us → Enough n (at q (t.sign t.open_parenthesis) ∷ vs)
            → Cut (at_level 8 (level o) (expression_tokens o)) (t.sign t.colon ∷ name_tokens m (expression_tokens v)) ts (at q (t.sign t.open_parenthesis) ∷ vs)
            → Post n b k (verb_call o v es) ts us
        long m d vs q la ia (cut _ lo (next {ts = ws} line lv)) =
            let eo = later lo e in
            verb_read {line = line} {m = q}
            (leveled_post ro n b k ts (at line (t.sign t.colon) ∷ ws) ho lo e refl)
            eo
            (name_back rv n b m ws (at q (t.sign t.open_parenthesis) ∷ vs) hv d lv (tail (at line (t.sign t.colon)) ws eo))
            (arguments_back es rs n b vs us hes la (tail (at q (t.sign t.open_parenthesis)) vs ia))

        cases : (s : Bool) (m : Option Text) → is_system o ≡ s → plain_name v ≡ m → (vs : List Placed) (q : ℕ)
            → Laid (arguments_tokens es ++ t.sign t.close_parenthesis ∷ []) vs us → Enough n (at q (t.sign t.open_parenthesis) ∷ vs)
            → Laid (dotted t.colon (at_level 8 (level o) (expression_tokens o)) s m (expression_tokens v)) ts (at q (t.sign t.open_parenthesis) ∷ vs)
            → Post n b k (verb_call o v es) ts us
        cases true (Some x) c d vs q la ia m =
            short_verb n b k q ts vs us x c d (arguments_back es rs n b vs us hes la (tail (at q (t.sign t.open_parenthesis)) vs ia)) (at q (t.sign t.open_parenthesis) ∷ vs) refl m
        cases true None c d vs q la ia m =
            long None d vs q la ia (split (at_level 8 (level o) (expression_tokens o)) (t.sign t.colon ∷ name_tokens None (expression_tokens v)) m)
        cases false (Some x) c d vs q la ia m =
            long (Some x) d vs q la ia (split (at_level 8 (level o) (expression_tokens o)) (t.sign t.colon ∷ name_tokens (Some x) (expression_tokens v)) m)
        cases false None c d vs q la ia m =
            long None d vs q la ia (split (at_level 8 (level o) (expression_tokens o)) (t.sign t.colon ∷ name_tokens None (expression_tokens v)) m)

        by_name : (s : Bool) (m : Option Text) → is_system o ≡ s → plain_name v ≡ m
            → Laid (dotted t.colon (at_level 8 (level o) (expression_tokens o)) s m (expression_tokens v) ++ in_parentheses (arguments_tokens es)) ts us
            → Post n b k (verb_call o v es) ts us
        by_name s m c d l =
            parts s m c d (split (dotted t.colon (at_level 8 (level o) (expression_tokens o)) s m (expression_tokens v)) (in_parentheses (arguments_tokens es)) l)
          where
            parts : (s : Bool) (m : Option Text) → is_system o ≡ s → plain_name v ≡ m
                → Cut (dotted t.colon (at_level 8 (level o) (expression_tokens o)) s m (expression_tokens v)) (in_parentheses (arguments_tokens es)) ts us
                → Post n b k (verb_call o v es) ts us
            parts s m c d (cut _ ld (next {ts = vs} q la)) = cases s m c d vs q la (later ld e) ld
