-- What is read behind similar parts is similar.
use Rattle.std.proofs.Common.{◌≡◌, ℕ, zero, suc, Bool, true, false, List, [], ◌∷◌, ◌++◌, Option, Some, None, if◌then◌else◌, refl, ap, subst}
use Rattle.std.specs.Prelude.{nat_le}
use Rattle.spec_value.specs.Datum.{Text, fold_case}
use Rattle.spec_program.specs.Tree.{Expr, binary, both, either, conditional, verb_call, property, index, range, assignment, scatter, listing, argument, splice, variable, Target, to_property, to_index, to_range, Items, required, optional, remaining, defaulted, caught, Fallback}
use Rattle.spec_program.specs.Spelling.{operator_level, right_level}
use Rattle.spec_program.specs.Tokens as t
use Rattle.spec_program.specs.Tokens.{Sign, Token, Placed}
use Rattle.spec_program.specs.Reading.{Read, is_sign, Node, under}
use Rattle.spec_program.specs.ReadExpressions as by
use Rattle.spec_program.specs.ReadExpressions.{ReadsExpression, Found, FoundArguments, Operand, Braces, Allowed, FoundItems, FoundCodes, Joint, Continues, steps, operators}
use Rattle.spec_program.specs.Frames as f
use Rattle.spec_program.specs.Similar.{Similar, SimilarFound, SimilarTarget, no_target, a_target, SimilarBraces, none, perhaps, surely, SimilarOperand, SimilarArguments, SimilarItems, SimilarCodes, SimilarRead, both_got, both_stuck}
use Rattle.spec_program.proofs.SimilarParts.{like, mapped, of_two, of_three, around, made, as_whole, target_step, next, onward, itself, if_there, past}

-- ---- each is similar to itself

pub found_like : (e : Found) → SimilarFound e e
found_like e = record { line = refl; parts = like e.nodes e.tree }

pub target_like : (ns : List Node) (t : Option Target) → SimilarTarget ns ns t t
target_like ns None = no_target ns ns
target_like ns (Some t) = a_target ns ns t t (like ns t)

pub braces_like : (b : Braces) → SimilarBraces b b
braces_like by.no_braces = none
braces_like (by.perhaps_scatter xs ns) = perhaps xs xs ns ns (like ns xs)
braces_like (by.surely_scatter xs ns) = surely xs xs ns ns (like ns xs)

pub operand_like : (o : Operand) → SimilarOperand o o
operand_like o = record { found = found_like o.found; target = target_like o.found.nodes o.target; ranged = refl; braces = braces_like o.braces }

pub arguments_like : (es : FoundArguments) → SimilarArguments es es
arguments_like es = record { parts = like es.nodes es.tree }

pub items_like : (i : FoundItems) → SimilarItems i i
items_like i = record { allowed = refl; arguments = like i.argument_nodes i.arguments; items = like i.default_nodes i.items }

pub codes_like : (c : FoundCodes) → SimilarCodes c c
codes_like c = record { parts = like c.nodes c.tree }

-- ---- steps behind an operand

pub two : {a c e d : Found} (g : Expr → Expr → Expr) → SimilarFound a e → SimilarFound c d
    → SimilarFound (by.found_at a.line (g a.tree c.tree) (a.nodes ++ c.nodes)) (by.found_at e.line (g e.tree d.tree) (e.nodes ++ d.nodes))
two g h k = made h.line (of_two g h.parts k.parts)

pub three : {a c x e d y : Found} (g : Expr → Expr → Expr → Expr) → SimilarFound a e → SimilarFound c d → SimilarFound x y
    → SimilarFound (by.found_at a.line (g a.tree c.tree x.tree) (a.nodes ++ (c.nodes ++ x.nodes)))
    (by.found_at e.line (g e.tree d.tree y.tree) (e.nodes ++ (d.nodes ++ y.nodes)))
three g h k l = made h.line (of_three g h.parts k.parts l.parts)

pub property_similar : {o q p r : Found} → SimilarFound o q → SimilarFound p r → SimilarOperand (by.property_of o p) (by.property_of q r)
property_similar {o} {q} {p} {r} h k = record {
  found = two property h k;
  target = a_target (under o.line (o.nodes ++ p.nodes)) (under q.line (q.nodes ++ r.nodes)) (to_property o.tree p.tree) (to_property q.tree r.tree)
      (around h.line (of_two to_property h.parts k.parts));
  ranged = refl;
  braces = none;
}

pub call_similar : {o q v w : Found} {es ds : FoundArguments} → SimilarFound o q → SimilarFound v w → SimilarArguments es ds
    → SimilarOperand (by.whole (by.found_at o.line (verb_call o.tree v.tree es.tree) (o.nodes ++ (v.nodes ++ es.nodes))))
    (by.whole (by.found_at q.line (verb_call q.tree w.tree ds.tree) (q.nodes ++ (w.nodes ++ ds.nodes))))
call_similar h k l = as_whole (made h.line (of_three verb_call h.parts k.parts l.parts))

pub verb_similar : (n : ℕ) (reads : ReadsExpression) (b : Bool) {o q v w : Found} → SimilarFound o q → SimilarFound v w → (ts : List Placed)
    → SimilarRead SimilarOperand (by.verb_of n reads b o v ts) (by.verb_of n reads b q w ts)
verb_similar n reads b h k ts =
    past t.open_parenthesis ts (λ us.
    next (itself SimilarArguments arguments_like (by.arguments_to t.close_parenthesis n reads b us))
    (λ es ds vs l. both_got _ _ vs (call_similar h k l)))

pub index_similar : {o q : Operand} {i j : Found} → SimilarOperand o q → SimilarFound i j → SimilarOperand (by.index_of o i) (by.index_of q j)
index_similar {o} {q} {i} {j} h k = record {
  found = two index h.found k;
  target = target_step (under o.found.line (o.found.nodes ++ i.nodes)) (under q.found.line (q.found.nodes ++ j.nodes)) o.ranged q.ranged
      (λ t. to_index t i.tree) (λ t. to_index t j.tree) h.ranged h.target (λ y z l. around h.found.line (of_two to_index l k.parts));
  ranged = refl;
  braces = none;
}

pub range_similar : {o q : Operand} {i j x y : Found} → SimilarOperand o q → SimilarFound i j → SimilarFound x y
    → SimilarOperand (by.range_of o i x) (by.range_of q j y)
range_similar {o} {q} {i} {j} {x} {y} h k l = record {
  found = three range h.found k l;
  target = target_step (under o.found.line (o.found.nodes ++ (i.nodes ++ x.nodes)))
      (under q.found.line (q.found.nodes ++ (j.nodes ++ y.nodes))) o.ranged q.ranged
      (λ t. to_range t i.tree x.tree) (λ t. to_range t j.tree y.tree) h.ranged h.target
      (λ v w m. around h.found.line (of_three to_range m k.parts l.parts));
  ranged = refl;
  braces = none;
}

abbrev More : (Operand → List Placed → Read Operand) → Type 0
More more = (o q : Operand) (ts : List Placed) → SimilarOperand o q → SimilarRead SimilarOperand (more o ts) (more q ts)

brackets_similar : (reads : ReadsExpression) (more : Operand → List Placed → Read Operand) {o q : Operand} → SimilarOperand o q → More more
    → (ts : List Placed)
    → SimilarRead SimilarOperand (by.in_brackets reads o more ts) (by.in_brackets reads q more ts)
brackets_similar reads more {o} {q} h k ts =
    onward (reads true 0 ts) (λ i us.
    if_there (is_sign t.double_dot)
    (λ vs. onward (reads true 0 vs) (λ j ws. past t.close_bracket ws (λ xs. k (by.range_of o i j) (by.range_of q i j) xs (range_similar h (found_like i) (found_like j)))))
    (λ vs. past t.close_bracket vs (λ ws. k (by.index_of o i) (by.index_of q i) ws (index_similar h (found_like i))))
    us)

step_sign_similar : (n : ℕ) (reads : ReadsExpression) (b : Bool) (more : Operand → List Placed → Read Operand) {o q : Operand} (s : Sign)
    (ts us : List Placed)
    → SimilarOperand o q → More more
    → SimilarRead SimilarOperand (by.step_after n reads b more o (t.sign s) ts us) (by.step_after n reads b more q (t.sign s) ts us)
step_sign_similar n reads b more {o} {q} t.dot ts us h k =
    onward (by.name reads b ts) (λ p vs. k (by.property_of o.found p) (by.property_of q.found p) vs (property_similar h.found (found_like p)))
step_sign_similar n reads b more {o} {q} t.colon ts us h k =
    onward (by.name reads b ts) (λ v vs. next (verb_similar n reads b h.found (found_like v) vs) (λ x y ws l. k x y ws l))
step_sign_similar n reads b more t.open_bracket ts us h k = brackets_similar reads more h k ts
step_sign_similar n reads b more {o} {q} _ ts us h k = both_got o q us h

step_similar : (n : ℕ) (reads : ReadsExpression) (b : Bool) (more : Operand → List Placed → Read Operand) {o q : Operand} (u : Token)
    (ts us : List Placed)
    → SimilarOperand o q → More more
    → SimilarRead SimilarOperand (by.step_after n reads b more o u ts us) (by.step_after n reads b more q u ts us)
step_similar n reads b more (t.sign s) ts us h k = step_sign_similar n reads b more s ts us h k
step_similar n reads b more {o} {q} _ ts us h k = both_got o q us h

unless_similar : (c : Bool) (n : ℕ) (reads : ReadsExpression) (b : Bool) (more : Operand → List Placed → Read Operand) {o q : Operand}
    (ts : List Placed)
    → SimilarOperand o q → More more
    → SimilarRead SimilarOperand (by.steps_unless c n reads b more o ts) (by.steps_unless c n reads b more q ts)
unless_similar true n reads b more {o} {q} ts h k = both_got o q ts h
unless_similar false n reads b more {o} {q} [] h k = both_got o q [] h
unless_similar false n reads b more (p ∷ ts) h k = step_similar n reads b more p.token ts (p ∷ ts) h k

same_braces : {x y : Braces} → SimilarBraces x y → by.is_surely_scatter x ≡ by.is_surely_scatter y
same_braces none = refl
same_braces (perhaps xs ys ns ms h) = refl
same_braces (surely xs ys ns ms h) = refl

unless_either : (c d : Bool) → c ≡ d
    → (n : ℕ) (reads : ReadsExpression) (b : Bool) (more : Operand → List Placed → Read Operand) {o q : Operand} (ts : List Placed)
    → SimilarOperand o q → More more
    → SimilarRead SimilarOperand (by.steps_unless c n reads b more o ts) (by.steps_unless d n reads b more q ts)
unless_either true true e n reads b more ts h k = unless_similar true n reads b more ts h k
unless_either false false e n reads b more ts h k = unless_similar false n reads b more ts h k
unless_either true false e n reads b more ts h k = cc
unless_either false true e n reads b more ts h k = cc

pub steps_similar : (n : ℕ) (reads : ReadsExpression) (b : Bool) (o q : Operand) (ts : List Placed) → SimilarOperand o q
    → SimilarRead SimilarOperand (steps n reads b o ts) (steps n reads b q ts)
unfolding steps
steps_similar zero reads b o q ts h = both_stuck ts
steps_similar (suc n) reads b o q ts h =
    unless_either (by.is_surely_scatter o.braces) (by.is_surely_scatter q.braces) (same_braces h.braces) n reads b (steps n reads b) ts h
    (λ x y us k. steps_similar n reads b x y us k)

-- ---- operators behind an expression

abbrev Continued : Continues → Type 0
Continued more = (a c : Found) (ts : List Placed) → SimilarFound a c → SimilarRead SimilarFound (more a ts) (more c ts)

tight_similar : (c : Bool) (f g i j : List Placed → Read Found) (ts us : List Placed) → SimilarRead SimilarFound (f ts) (g ts)
    → SimilarRead SimilarFound (i us) (j us)
    → SimilarRead SimilarFound (by.if_tight c f i ts us) (by.if_tight c g j ts us)
tight_similar true f g i j ts us h k = h
tight_similar false f g i j ts us h k = k

joined_similar : (reads : ReadsExpression) (b : Bool) (more : Continues) {a c : Found} (right : ℕ) (g : Expr → Expr → Expr) (ts : List Placed)
    → SimilarFound a c → Continued more
    → SimilarRead SimilarFound (by.joined reads b more a right g ts) (by.joined reads b more c right g ts)
joined_similar reads b more right g ts h k = onward (reads b right ts) (λ x us. k _ _ us (two g h (found_like x)))

choice_similar : (reads : ReadsExpression) (b : Bool) (more : Continues) {a c : Found} (ts : List Placed) → SimilarFound a c → Continued more
    → SimilarRead SimilarFound (by.chosen_between reads b more a ts) (by.chosen_between reads b more c ts)
choice_similar reads b more ts h k =
    onward (reads b 0 ts)
    (λ x us. past t.bar us (λ vs. onward (reads b 1 vs) (λ y ws. k _ _ ws (three conditional h (found_like x) (found_like y)))))

join_similar : (reads : ReadsExpression) (b : Bool) (more : Continues) (k : ℕ) {a c : Found} (j : Joint) (ts us : List Placed) → SimilarFound a c
    → Continued more
    → SimilarRead SimilarFound (by.join_by reads b more k a j ts us) (by.join_by reads b more k c j ts us)
join_similar reads b more k {a} {c} (by.operator o) ts us h l =
    tight_similar (nat_le k (operator_level o)) _ _ _ _ ts us (joined_similar reads b more (right_level o) (binary o) ts h l) (both_got a c us h)
join_similar reads b more k {a} {c} by.and_joint ts us h l =
    tight_similar (nat_le k 2) _ _ _ _ ts us (joined_similar reads b more 3 both ts h l) (both_got a c us h)
join_similar reads b more k {a} {c} by.or_joint ts us h l =
    tight_similar (nat_le k 2) _ _ _ _ ts us (joined_similar reads b more 3 either ts h l) (both_got a c us h)
join_similar reads b more k {a} {c} by.question_joint ts us h l =
    tight_similar (nat_le k 1) _ _ _ _ ts us (choice_similar reads b more ts h l) (both_got a c us h)
join_similar reads b more k {a} {c} by.no_joint ts us h l = both_got a c us h

pub operators_similar : (n : ℕ) (reads : ReadsExpression) (b : Bool) (k : ℕ) (a c : Found) (ts : List Placed) → SimilarFound a c
    → SimilarRead SimilarFound (operators n reads b k a ts) (operators n reads b k c ts)
unfolding operators
operators_similar zero reads b k a c ts h = both_stuck ts
operators_similar (suc n) reads b k a c [] h = both_got a c [] h
operators_similar (suc n) reads b k a c (p ∷ ts) h =
    join_similar reads b (operators n reads b k) k (by.joint p.token) ts (p ∷ ts) h (λ x y us l. operators_similar n reads b k x y us l)

-- ---- assignments

any_level_similar : (k : ℕ) {f g i j : List Placed → Read Found} (ts : List Placed)
    → ((us : List Placed) → SimilarRead SimilarFound (f us) (g us)) → ((us : List Placed) → SimilarRead SimilarFound (i us) (j us))
    → SimilarRead SimilarFound (by.if_any_level k f i ts) (by.if_any_level k g j ts)
any_level_similar zero ts h l = if_there (is_sign t.assign) h l ts
any_level_similar (suc k) ts h l = l ts

-- the target lies in the nodes of what it was read from
assigned_similar : (reads : ReadsExpression) (b : Bool) (a c : Found) {x y : Target} → a.line ≡ c.line → Similar a.nodes c.nodes x y
    → (ts : List Placed)
    → SimilarRead SimilarFound (by.assigned reads b a x ts) (by.assigned reads b c y ts)
assigned_similar reads b a c l h ts =
    onward (reads b 0 ts) (λ e us. both_got _ _ us (made l (of_two assignment h (like e.nodes e.tree))))

scattered_similar : (reads : ReadsExpression) (b : Bool) {l m : ℕ} {xs ys : Items} {ns ms : List Node} → l ≡ m → Similar ns ms xs ys
    → (ts : List Placed)
    → SimilarRead SimilarFound (by.scattered reads b l xs ns ts) (by.scattered reads b m ys ms ts)
scattered_similar reads b l h ts =
    onward (reads b 0 ts) (λ e us. both_got _ _ us (made l (of_two scatter h (like e.nodes e.tree))))

target_similar : (reads : ReadsExpression) (b : Bool) (k : ℕ) (a c : Found) {x y : Option Target} {f g : List Placed → Read Found}
    (ts : List Placed)
    → a.line ≡ c.line → SimilarTarget a.nodes c.nodes x y → ((us : List Placed) → SimilarRead SimilarFound (f us) (g us))
    → SimilarRead SimilarFound (by.target_or_value reads b k a x f ts) (by.target_or_value reads b k c y g ts)
target_similar reads b k a c ts l (no_target _ _) h = h ts
target_similar reads b k a c ts l (a_target _ _ x y i) h = any_level_similar k ts (λ us. assigned_similar reads b a c l i us) h

pub value_similar : (reads : ReadsExpression) (b : Bool) (k : ℕ) {o q : Operand} {x y : Braces} {f g : List Placed → Read Found} (ts : List Placed)
    → SimilarOperand o q → SimilarBraces x y → ((us : List Placed) → SimilarRead SimilarFound (f us) (g us))
    → SimilarRead SimilarFound (by.braces_or_value reads b k o x f ts) (by.braces_or_value reads b k q y g ts)
value_similar reads b k {o} {q} ts h none l = target_similar reads b k o.found q.found ts h.found.line h.target l
value_similar reads b k ts h (perhaps xs ys ns ms i) l = any_level_similar k ts (λ us. scattered_similar reads b h.found.line i us) l
value_similar reads b k ts h (surely xs ys ns ms i) l =
    any_level_similar k ts (λ us. scattered_similar reads b h.found.line i us) (λ us. both_stuck us)

-- ---- arguments, items and codes

pub argument_similar : (spliced : Bool) {e d : Found} {es ds : FoundArguments} → SimilarFound e d → SimilarArguments es ds
    → SimilarArguments (by.with_argument spliced e es) (by.with_argument spliced d ds)
argument_similar true h k = record { parts = of_two splice h.parts k.parts }
argument_similar false h k = record { parts = of_two argument h.parts k.parts }

pub default_similar : (x : Text) {e d : Found} {i j : FoundItems} → SimilarFound e d → SimilarItems i j
    → SimilarItems (by.with_default x e i) (by.with_default x d j)
default_similar x h k =
    record { allowed = k.allowed; arguments = k.arguments; items = of_two (defaulted (fold_case x)) h.parts k.items }

pub expression_similar : (spliced : Bool) {e d : Found} {i j : FoundItems} → SimilarFound e d → SimilarItems i j
    → SimilarItems (by.with_expression spliced e i) (by.with_expression spliced d j)
expression_similar true h k = record { allowed = k.allowed; arguments = of_two splice h.parts k.arguments; items = k.items }
expression_similar false h k = record { allowed = k.allowed; arguments = of_two argument h.parts k.arguments; items = k.items }

pub item_similar : (x : f.Item) {i j : FoundItems} → SimilarItems i j → SimilarItems (f.with_item x i) (f.with_item x j)
item_similar (f.bare x line) k = record {
  allowed = k.allowed;
  arguments = of_two argument (like (under line []) (variable (fold_case x))) k.arguments;
  items = mapped (λ y. required (fold_case x) y) k.items;
}
item_similar (f.bare_rest x line) k = record {
  allowed = k.allowed;
  arguments = of_two splice (like (under line []) (variable (fold_case x))) k.arguments;
  items = mapped (λ y. remaining (fold_case x) y) k.items;
}
item_similar (f.bare_optional x) k = record { allowed = k.allowed; arguments = k.arguments; items = mapped (λ y. optional (fold_case x) y) k.items }
item_similar (f.with_its_default x e) k = default_similar x (found_like e) k
item_similar (f.other spliced e) k = expression_similar spliced (found_like e) k

pub and_items_similar : (more : Allowed → List Placed → Read FoundItems) (a : Allowed) {g h : FoundItems → FoundItems} (ts : List Placed)
    → ((i : FoundItems) → SimilarItems (g i) (h i)) → SimilarRead SimilarItems (by.and_items more a g ts) (by.and_items more a h ts)
and_items_similar more a ts k = onward _ (λ i us. both_got _ _ us (k i))

braces_by : (l s : Bool) {xs ys : Items} {ns ms : List Node} → Similar ns ms xs ys
    → SimilarBraces
    (if s then (if l then by.perhaps_scatter xs ns else by.surely_scatter xs ns) else by.no_braces)
    (if s then (if l then by.perhaps_scatter ys ms else by.surely_scatter ys ms) else by.no_braces)
braces_by l false h = none
braces_by true true {xs} {ys} {ns} {ms} h = perhaps xs ys ns ms h
braces_by false true {xs} {ys} {ns} {ms} h = surely xs ys ns ms h

-- with what the first of them allows
allowed_as : (a c : Allowed) (xs : Items) (ns : List Node) → a ≡ c
    → (if a.as_scatter then (if a.as_list then by.perhaps_scatter xs ns else by.surely_scatter xs ns) else by.no_braces)
    ≡ (if c.as_scatter then (if c.as_list then by.perhaps_scatter xs ns else by.surely_scatter xs ns) else by.no_braces)
allowed_as a c xs ns e =
    ap (λ z. if z.as_scatter then (if z.as_list then by.perhaps_scatter xs ns else by.surely_scatter xs ns) else by.no_braces) e

pub braces_similar : (line : ℕ) {i j : FoundItems} → SimilarItems i j → SimilarOperand (by.braces_found line i) (by.braces_found line j)
braces_similar line {i} {j} h =
    let found = made {l = line} refl (mapped listing h.arguments) in
    record {
      found = found;
      target = no_target _ _;
      ranged = refl;
      braces = subst (λ z. SimilarBraces (by.braces_of i) z) (allowed_as i.allowed j.allowed j.items j.default_nodes h.allowed)
          (braces_by i.allowed.as_list i.allowed.as_scatter h.items);
    }

pub caught_similar : (line : ℕ) {e d : Found} {c x : FoundCodes} {w v : Fallback} {ns ms : List Node} → SimilarFound e d → SimilarCodes c x
    → Similar ns ms w v
    → SimilarOperand (by.caught_with line e c w ns) (by.caught_with line d x v ms)
caught_similar line h k l = as_whole (made refl (of_three caught h.parts k.parts l))
