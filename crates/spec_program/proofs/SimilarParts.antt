-- What is made of similar parts is similar.
use Rattle.std.proofs.Common.{◌≡◌, ℕ, suc, Bool, true, false, List, [], ◌∷◌, ◌++◌, map, Option, Some, None, if◌then◌else◌, nat_lt, refl, sym, ap, ◌∙◌, arith}
use Rattle.std.proofs.lemmas.Bool.Decides.{nat_tests}
use Rattle.std.proofs.lemmas.List.{append-nil}
use Rattle.spec_program.specs.Tree.{Expr, Target}
use Rattle.spec_program.specs.Tokens.{Sign, Token, Placed}
use Rattle.spec_program.specs.Reading.{Read, got, stuck, and_then, chosen, if_token, past_sign, past_keyword, is_sign, is_keyword, Node, deeper, under}
use Rattle.spec_program.specs.Tokens.{Keyword}
use Rattle.spec_program.specs.ReadExpressions as by
use Rattle.spec_program.specs.ReadExpressions.{Found}
use Rattle.spec_program.specs.ReadPrograms.{too_deep, greatest_depth}
use Rattle.spec_program.specs.KeptNodes.{kept}
use Rattle.spec_program.specs.Similar.{Similar, SimilarFound, SimilarTarget, no_target, a_target, none, SimilarOperand, SimilarRead, both_got, both_stuck}
use Rattle.spec_program.proofs.KeptNodesTell.{kept_of_both, kept_under}

-- ---- what is not too deep has no part that is

front_step : (c : Bool) (line : ℕ) (a b : Option ℕ) → (a ≡ None → b ≡ None) → (if c then Some line else a) ≡ None
    → (if c then Some line else b) ≡ None
front_step true line a b k h = h
front_step false line a b k h = k h

front_shallow : (ns ms : List Node) → too_deep (ns ++ ms) ≡ None → too_deep ns ≡ None
front_shallow [] ms h = refl
front_shallow (n ∷ ns) ms h = front_step (nat_lt greatest_depth n.depth) n.line (too_deep (ns ++ ms)) (too_deep ns) (λ i. front_shallow ns ms i) h

back_step : (c : Bool) (line : ℕ) (a b : Option ℕ) → (a ≡ None → b ≡ None) → (if c then Some line else a) ≡ None → b ≡ None
back_step true line a b k h = cc
back_step false line a b k h = k h

back_shallow : (ns ms : List Node) → too_deep (ns ++ ms) ≡ None → too_deep ms ≡ None
back_shallow [] ms h = h
back_shallow (n ∷ ns) ms h = back_step (nat_lt greatest_depth n.depth) n.line (too_deep (ns ++ ms)) (too_deep ms) (λ i. back_shallow ns ms i) h

deeper_step : (c b : Bool) (line : ℕ) (x y : Option ℕ) → (b ≡ true → c ≡ true) → (x ≡ None → y ≡ None) → (if c then Some line else x) ≡ None
    → (if b then Some line else y) ≡ None
deeper_step true b line x y j k h = cc
deeper_step false true line x y j k h = let z : false ≡ true = j refl in cc
deeper_step false false line x y j k h = k h

deeper_still : (d : ℕ) → nat_lt greatest_depth d ≡ true → nat_lt greatest_depth (suc d) ≡ true
deeper_still d h = grind (arith, nat_tests)

inner_shallow : (ns : List Node) → too_deep (map deeper ns) ≡ None → too_deep ns ≡ None
inner_shallow [] h = refl
inner_shallow (n ∷ ns) h =
    deeper_step (nat_lt greatest_depth (suc n.depth)) (nat_lt greatest_depth n.depth) n.line (too_deep (map deeper ns)) (too_deep ns)
    (deeper_still n.depth) (λ i. inner_shallow ns i) h

-- ---- parts and wholes

pub like : {X : Type 0} (ns : List Node) (x : X) → Similar ns ns x x
like ns x = record { nodes = refl; same = λ h. refl }

pub mapped : {X Y : Type 0} {ns ms : List Node} {x y : X} (f : X → Y) → Similar ns ms x y → Similar ns ms (f x) (f y)
mapped f h = record { nodes = h.nodes; same = λ i. ap f (h.same i) }

-- what is kept of the nodes stands for them all; of what is too deep anything may stand for the rest
pub kept_stands : {X : Type 0} (ns : List Node) (x y : X) → (too_deep ns ≡ None → x ≡ y) → Similar ns (kept ns) x y
kept_stands ns x y h = record { nodes = ap kept (sym (append-nil ns)) ∙ kept_of_both ns [] ∙ ap kept (append-nil (kept ns)); same = h }

-- of the same nodes
pub mapped_both : {A B C : Type 0} {ns ms : List Node} {x y : A} {v w : B} (g : A → B → C) → Similar ns ms x y → Similar ns ms v w
    → Similar ns ms (g x v) (g y w)
mapped_both {y = y} {v = v} g h k = record { nodes = h.nodes; same = λ i. ap (λ z. g z v) (h.same i) ∙ ap (λ z. g y z) (k.same i) }

kept_pair : (ns ms ks ls : List Node) → kept ns ≡ kept ms → kept ks ≡ kept ls → kept (ns ++ ks) ≡ kept (ms ++ ls)
kept_pair ns ms ks ls e d = kept_of_both ns ks ∙ ap (λ z. kept (z ++ kept ks)) e ∙ ap (λ z. kept (kept ms ++ z)) d ∙ sym (kept_of_both ms ls)

-- of two parts
pub of_two : {A B C : Type 0} {ns ms ks ls : List Node} {x y : A} {v w : B} (g : A → B → C) → Similar ns ms x y → Similar ks ls v w
    → Similar (ns ++ ks) (ms ++ ls) (g x v) (g y w)
of_two {ns = ns} {ms = ms} {ks = ks} {ls = ls} {y = y} {v = v} g h k = record {
  nodes = kept_pair ns ms ks ls h.nodes k.nodes;
  same = λ i. ap (λ z. g z v) (h.same (front_shallow ns ks i)) ∙ ap (λ z. g y z) (k.same (back_shallow ns ks i));
}

-- of three
pub of_three : {A B C D : Type 0} {ns ms ks ls is js : List Node} {x y : A} {v w : B} {a b : C} (g : A → B → C → D)
    → Similar ns ms x y → Similar ks ls v w → Similar is js a b → Similar (ns ++ (ks ++ is)) (ms ++ (ls ++ js)) (g x v a) (g y w b)
of_three {ns = ns} {ms = ms} {ks = ks} {ls = ls} {is = is} {js = js} {y = y} {v = v} {w = w} {a = a} g h k l = record {
  nodes = kept_pair ns ms (ks ++ is) (ls ++ js) h.nodes (kept_pair ks ls is js k.nodes l.nodes);
  same = λ i.
      ap (λ z. g z v a) (h.same (front_shallow ns (ks ++ is) i))
      ∙ ap (λ z. g y z a) (k.same (front_shallow ks is (back_shallow ns (ks ++ is) i)))
      ∙ ap (λ z. g y w z) (l.same (back_shallow ks is (back_shallow ns (ks ++ is) i)));
}

-- of two, and a third behind both
pub of_two_and : {A B C D : Type 0} {ns ms ks ls is js : List Node} {x y : A} {v w : B} {a b : C} (g : A → B → C → D)
    → Similar ns ms x y → Similar ks ls v w → Similar is js a b → Similar ((ns ++ ks) ++ is) ((ms ++ ls) ++ js) (g x v a) (g y w b)
of_two_and {ns = ns} {ms = ms} {ks = ks} {ls = ls} {is = is} {js = js} {y = y} {v = v} {w = w} {a = a} g h k l = record {
  nodes = kept_pair (ns ++ ks) (ms ++ ls) is js (kept_pair ns ms ks ls h.nodes k.nodes) l.nodes;
  same = λ i.
      ap (λ z. g z v a) (h.same (front_shallow ns ks (front_shallow (ns ++ ks) is i)))
      ∙ ap (λ z. g y z a) (k.same (back_shallow ns ks (front_shallow (ns ++ ks) is i)))
      ∙ ap (λ z. g y w z) (l.same (back_shallow (ns ++ ks) is i));
}

pub around : {X : Type 0} {l m : ℕ} {ns ms : List Node} {x y : X} → l ≡ m → Similar ns ms x y → Similar (under l ns) (under m ms) x y
around {l = l} {ns = ns} {ms = ms} e h = record {
  nodes = kept_under l ns ∙ ap (λ z. kept (under l z)) h.nodes ∙ sym (kept_under l ms) ∙ ap (λ z. kept (under z ms)) e;
  same = λ i. h.same (inner_shallow ns i);
}

pub made : {l m : ℕ} {ns ms : List Node} {t u : Expr} → l ≡ m → Similar ns ms t u → SimilarFound (by.found_at l t ns) (by.found_at m u ms)
made e h = record { line = e; parts = around e h }

pub as_whole : {e d : Found} → SimilarFound e d → SimilarOperand (by.whole e) (by.whole d)
as_whole {e} {d} h = record { found = h; target = no_target e.nodes d.nodes; ranged = refl; braces = none }

-- a step more of what may be a target
pub target_step : {ns ms : List Node} {t u : Option Target} (ks ls : List Node) (r s : Bool) (g j : Target → Target) → r ≡ s
    → SimilarTarget ns ms t u
    → ((y z : Target) → Similar ns ms y z → Similar ks ls (g y) (j z)) → SimilarTarget ks ls (by.stepped t r g) (by.stepped u s j)
target_step ks ls true true g j e (no_target _ _) k = no_target ks ls
target_step ks ls true true g j e (a_target _ _ t u h) k = no_target ks ls
target_step ks ls false false g j e (no_target _ _) k = no_target ks ls
target_step ks ls false false g j e (a_target _ _ t u h) k = a_target ks ls (g t) (j u) (k t u h)
target_step ks ls true false g j e h k = cc
target_step ks ls false true g j e h k = cc

-- ---- readers

pub next : {X Y : Type 0} {R : X → X → Type 0} {S : Y → Y → Type 0} {r s : Read X} {f g : X → List Placed → Read Y}
    → SimilarRead R r s → ((x y : X) (ts : List Placed) → R x y → SimilarRead S (f x ts) (g y ts)) → SimilarRead S (and_then r f) (and_then s g)
next (both_got x y ts h) k = k x y ts h
next (both_stuck ts) k = both_stuck ts

-- behind something that is read alike
pub onward : {X Y : Type 0} {S : Y → Y → Type 0} {f g : X → List Placed → Read Y} (r : Read X)
    → ((x : X) (ts : List Placed) → SimilarRead S (f x ts) (g x ts)) → SimilarRead S (and_then r f) (and_then r g)
onward (got x ts) k = k x ts
onward (stuck ts) k = both_stuck ts

pub itself : {X : Type 0} (R : X → X → Type 0) → ((x : X) → R x x) → (r : Read X) → SimilarRead R r r
itself R h (got x ts) = both_got x x ts (h x)
itself R h (stuck ts) = both_stuck ts

by_test : {X : Type 0} {R : X → X → Type 0} {f g i j : List Placed → Read X} (c : Bool)
    → ((us : List Placed) → SimilarRead R (f us) (g us)) → ((us : List Placed) → SimilarRead R (i us) (j us))
    → (ts us : List Placed) → SimilarRead R (chosen c f i ts us) (chosen c g j ts us)
by_test true h k ts us = h ts
by_test false h k ts us = k us

pub if_there : {X : Type 0} {R : X → X → Type 0} {f g i j : List Placed → Read X} (test : Token → Bool)
    → ((us : List Placed) → SimilarRead R (f us) (g us)) → ((us : List Placed) → SimilarRead R (i us) (j us))
    → (ts : List Placed) → SimilarRead R (if_token test f i ts) (if_token test g j ts)
if_there test h k [] = k []
if_there test h k (p ∷ ts) = by_test (test p.token) h k ts (p ∷ ts)

pub past : {X : Type 0} {R : X → X → Type 0} {f g : List Placed → Read X} (s : Sign) (ts : List Placed)
    → ((us : List Placed) → SimilarRead R (f us) (g us)) → SimilarRead R (past_sign s ts f) (past_sign s ts g)
past s ts h = if_there (is_sign s) h (λ us. both_stuck us) ts

pub past_word : {X : Type 0} {R : X → X → Type 0} {f g : List Placed → Read X} (k : Keyword) (ts : List Placed)
    → ((us : List Placed) → SimilarRead R (f us) (g us)) → SimilarRead R (past_keyword k ts f) (past_keyword k ts g)
past_word k ts h = if_there (is_keyword k) h (λ us. both_stuck us) ts
