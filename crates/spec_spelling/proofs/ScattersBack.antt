-- Canonical tokens of scatters are read as the trees that they are of.
use Rattle.std.proofs.Common.{◌≡◌, ℕ, ◌≤◌, Bool, true, false, not, ◌&&◌, List, [], ◌∷◌, ◌++◌, IsTrue, refl, sym, ap, ◌∙◌, subst, if◌then◌else◌, arith}
use Rattle.std.specs.Prelude.{max}
use Rattle.spec_value.proofs.Entries.{first_holds, second_holds}
use Rattle.spec_value.specs.Datum.{Text}
use Rattle.spec_program.specs.Tree.{Expr, listing, no_arguments, scatter, Items, no_items, required, optional, remaining, defaulted}
use Rattle.spec_program.specs.Tokens as t
use Rattle.spec_program.specs.Tokens.{Sign, Token, Placed}
use Rattle.spec_program.specs.Reading.{Read, got, and_then, if_sign, past_sign, under}
use Rattle.spec_program.specs.ReadExpressions as by
use Rattle.spec_program.specs.ReadExpressions.{Found, FoundItems, Operand, Allowed, Braces, steps, items_from, operators, expression, operand}
use Rattle.spec_program.specs.Moves.{at, begins_with}
use Rattle.spec_program.specs.Trees.{is_name, has_item, takes_rest, rest_once, expr_fits, items_fit, expr_height, items_height}
use Rattle.spec_program.specs.CanonicalTokens.{Laid, none, next, between, expression_tokens, items_tokens, further_items, Loose, Stops}
use Rattle.spec_program.proofs.LowTrees.{Within}
use Rattle.spec_program.proofs.MovesHold.{expression_again, steps_again, items_again, sign_absent}
use Rattle.spec_program.proofs.OtherMovesHold.{stops}
use Rattle.spec_program.proofs.Laid.{Cut, cut, split, Enough, later, tail, plain, of, Begun, Got, stop, value_behind}
use Rattle.spec_program.proofs.OperatorsBack.{one_higher, of_two, Back, whole_back, no_operand_back}
use Rattle.spec_program.proofs.OperandsBack.{name_is_lower}
use Rattle.spec_spelling.proofs.Begins.{laid_on}

abbrev pub ItemsBacks : Items → Type 0
ItemsBacks no_items = Unit {0}
ItemsBacks (required x more) = ItemsBacks more
ItemsBacks (optional x more) = ItemsBacks more
ItemsBacks (remaining x more) = ItemsBacks more
ItemsBacks (defaulted x e more) = Back e × ItemsBacks more

-- a scatter is still possible, perhaps a list too, and one of the items so far takes the rest or none
abbrev possible : Bool → Bool → Allowed
possible l r = record { as_list = l; as_scatter = true; has_rest = r }

abbrev Once : Bool → Items → Type 0
Once true xs = takes_rest xs ≡ false
Once false xs = IsTrue (rest_once xs)

record ScatterGot (n : ℕ) (b : Bool) (xs : Items) (a : Allowed) (ts us : List Placed) : Type 0 where
  found : FoundItems
  reads : items_from n (expression n) b a ts ≡ got found us
  tree : found.items ≡ xs
  low : Within (items_height xs) found.default_nodes
  scattered : found.allowed.as_scatter ≡ true

abbrev closing : Allowed → List Placed → Read FoundItems
closing a us = past_sign t.close_brace us (got (by.no_more a))

record FurtherScatter (n : ℕ) (b : Bool) (xs : Items) (a : Allowed) (ts us : List Placed) : Type 0 where
  found : FoundItems
  reads : if_sign t.comma (items_from n (expression n) b a) (closing a) ts ≡ got found us
  tree : found.items ≡ xs
  low : Within (items_height xs) found.default_nodes
  scattered : found.allowed.as_scatter ≡ true

after_comma : {n : ℕ} {b : Bool} {xs : Items} {a : Allowed} {ts us : List Placed} (line : ℕ)
    → ScatterGot n b xs a ts us → FurtherScatter n b xs a (at line (t.sign t.comma) ∷ ts) us
after_comma line g = record { found = g.found; reads = g.reads; tree = g.tree; low = g.low; scattered = g.scattered }

-- an item and those behind it
made_of : {n : ℕ} {b : Bool} {xs : Items} {c : Allowed} {vs us : List Placed} (a : Allowed) (ts : List Placed) (made : FoundItems → FoundItems)
    → items_from n (expression n) b a ts ≡ by.and_items (items_from n (expression n) b) c made vs
    → (m : FurtherScatter n b xs c vs us) → items_from n (expression n) b a ts ≡ got (made m.found) us
made_of a ts made r m = r ∙ ap (λ z. and_then z (λ f us. got (made f) us)) m.reads

-- ---- what stands behind an item

ends : (more : Items) (vs us : List Placed) → Laid (further_items more ++ t.sign t.close_brace ∷ []) vs us → by.ends_item vs ≡ true
ends no_items vs us (next m none) = refl
ends (required x more) vs us (next m l) = refl
ends (optional x more) vs us (next m l) = refl
ends (remaining x more) vs us (next m l) = refl
ends (defaulted x e more) vs us (next m l) = refl

no_default : (more : Items) (vs us : List Placed) → Laid (further_items more ++ t.sign t.close_brace ∷ []) vs us → begins_with t.assign vs ≡ false
no_default no_items vs us (next m none) = refl
no_default (required x more) vs us (next m l) = refl
no_default (optional x more) vs us (next m l) = refl
no_default (remaining x more) vs us (next m l) = refl
no_default (defaulted x e more) vs us (next m l) = refl

record Following (vs : List Placed) : Type 0 where
  loose : Loose vs
  stops : Stops 0 vs

following : (more : Items) (m : ℕ) (vs us : List Placed) → Laid (further_items more) vs (at m (t.sign t.close_brace) ∷ us) → Following vs
following no_items m vs us none = record { loose = refl; stops = refl }
following (required x more) m vs us (next q l) = record { loose = refl; stops = refl }
following (optional x more) m vs us (next q l) = record { loose = refl; stops = refl }
following (remaining x more) m vs us (next q l) = record { loose = refl; stops = refl }
following (defaulted x e more) m vs us (next q l) = record { loose = refl; stops = refl }

-- ---- each item

required_first : (n : ℕ) (b l r : Bool) (line : ℕ) (x : Text) (ts : List Placed) → Enough n (at line (t.word x) ∷ ts) → by.ends_item ts ≡ true
    → items_from n (expression n) b (possible l r) (at line (t.word x) ∷ ts)
    ≡ by.and_items (items_from n (expression n) b) (possible l r) (by.with_required x line) ts
required_first n b true r line x ts i e =
    items_again n b (possible true r) (at line (t.word x) ∷ ts) (plain (at line (t.word x) ∷ ts) i)
    ∙ ap (λ z. by.bare_or_not z (by.and_items (items_from n (expression n) b) (possible true r) (by.with_required x line))
    (by.expression_item (expression n) b (items_from n (expression n) b) (possible true r) false) ts (at line (t.word x) ∷ ts)) e
required_first n b false r line x ts i e = items_again n b (possible false r) (at line (t.word x) ∷ ts) (plain (at line (t.word x) ∷ ts) i)

rest_first : (n : ℕ) (b l : Bool) (line m : ℕ) (x : Text) (ts : List Placed) → Enough n (at line (t.sign t.at_sign) ∷ at m (t.word x) ∷ ts) → by.ends_item ts ≡ true
    → items_from n (expression n) b (possible l false) (at line (t.sign t.at_sign) ∷ at m (t.word x) ∷ ts)
    ≡ by.and_items (items_from n (expression n) b) (possible l true) (by.with_rest x m) ts
rest_first n b true line m x ts i e =
    items_again n b (possible true false) (at line (t.sign t.at_sign) ∷ at m (t.word x) ∷ ts) (plain (at line (t.sign t.at_sign) ∷ at m (t.word x) ∷ ts) i)
    ∙ ap (λ z. by.bare_or_not z (by.and_items (items_from n (expression n) b) (possible true true) (by.with_rest x m))
    (by.expression_item (expression n) b (items_from n (expression n) b) (possible true false) true) ts (at m (t.word x) ∷ ts)) e
rest_first n b false line m x ts i e =
    items_again n b (possible false false) (at line (t.sign t.at_sign) ∷ at m (t.word x) ∷ ts) (plain (at line (t.sign t.at_sign) ∷ at m (t.word x) ∷ ts) i)

perhaps_first : (n : ℕ) (b l r : Bool) (line : ℕ) (ts : List Placed) → Enough n (at line (t.sign t.question) ∷ ts)
    → items_from n (expression n) b (possible l r) (at line (t.sign t.question) ∷ ts)
    ≡ by.optional_item (expression n) b (items_from n (expression n) b) (possible l r) ts
perhaps_first n b true r line ts i = items_again n b (possible true r) (at line (t.sign t.question) ∷ ts) (plain (at line (t.sign t.question) ∷ ts) i)
perhaps_first n b false r line ts i = items_again n b (possible false r) (at line (t.sign t.question) ∷ ts) (plain (at line (t.sign t.question) ∷ ts) i)

required_joined : {n : ℕ} {b l r : Bool} {more : Items} {vs us : List Placed} (line : ℕ) (x : Text) → IsTrue (is_name x) → Enough n (at line (t.word x) ∷ vs)
    → by.ends_item vs ≡ true → FurtherScatter n b more (possible l r) vs us → ScatterGot n b (required x more) (possible l r) (at line (t.word x) ∷ vs) us
required_joined {n} {b} {l} {r} {more} {vs} line x h i e m =
    record {
      found = by.with_required x line m.found;
      reads = made_of (possible l r) (at line (t.word x) ∷ vs) (by.with_required x line) (required_first n b l r line x vs i e) m;
      tree = ap (λ y. required y m.found.items) (name_is_lower x h) ∙ ap (required x) m.tree;
      low = m.low;
      scattered = m.scattered;
    }

rest_joined : {n : ℕ} {b l : Bool} {more : Items} {vs us : List Placed} (line q : ℕ) (x : Text) → IsTrue (is_name x)
    → Enough n (at line (t.sign t.at_sign) ∷ at q (t.word x) ∷ vs) → by.ends_item vs ≡ true → FurtherScatter n b more (possible l true) vs us
    → ScatterGot n b (remaining x more) (possible l false) (at line (t.sign t.at_sign) ∷ at q (t.word x) ∷ vs) us
rest_joined {n} {b} {l} {more} {vs} line q x h i e m =
    record {
      found = by.with_rest x q m.found;
      reads = made_of (possible l false) (at line (t.sign t.at_sign) ∷ at q (t.word x) ∷ vs) (by.with_rest x q) (rest_first n b l line q x vs i e) m;
      tree = ap (λ y. remaining y m.found.items) (name_is_lower x h) ∙ ap (remaining x) m.tree;
      low = m.low;
      scattered = m.scattered;
    }

optional_joined : {n : ℕ} {b l r : Bool} {more : Items} {vs us : List Placed} (line q : ℕ) (x : Text) → IsTrue (is_name x)
    → Enough n (at line (t.sign t.question) ∷ at q (t.word x) ∷ vs) → begins_with t.assign vs ≡ false → FurtherScatter n b more (possible false r) vs us
    → ScatterGot n b (optional x more) (possible l r) (at line (t.sign t.question) ∷ at q (t.word x) ∷ vs) us
optional_joined {n} {b} {l} {r} {more} {vs} line q x h i e m =
    record {
      found = by.with_optional x m.found;
      reads = made_of (possible l r) (at line (t.sign t.question) ∷ at q (t.word x) ∷ vs) (by.with_optional x) (perhaps_first n b l r line (at q (t.word x) ∷ vs) i ∙ sign_absent t.assign valued bare vs e) m;
      tree = ap (λ y. optional y m.found.items) (name_is_lower x h) ∙ ap (optional x) m.tree;
      low = m.low;
      scattered = m.scattered;
    }
  where
    valued : List Placed → Read FoundItems
    valued us = and_then (expression n b 0 us) (λ e ws. by.and_items (items_from n (expression n) b) (possible false r) (by.with_default x e) ws)

    bare : List Placed → Read FoundItems
    bare us = by.and_items (items_from n (expression n) b) (possible false r) (by.with_optional x) us

default_joined : {n : ℕ} {b l r : Bool} {e : Expr} {more : Items} {vs ws us : List Placed} (line q m : ℕ) (x : Text) → IsTrue (is_name x)
    → Enough n (at line (t.sign t.question) ∷ at q (t.word x) ∷ at m (t.sign t.assign) ∷ vs) → Got n b 0 e vs ws → FurtherScatter n b more (possible false r) ws us
    → ScatterGot n b (defaulted x e more) (possible l r) (at line (t.sign t.question) ∷ at q (t.word x) ∷ at m (t.sign t.assign) ∷ vs) us
default_joined {n} {b} {l} {r} {e} {more} {vs} line q m x h i g f =
    record {
      found = by.with_default x (of e g.line g.nodes) f.found;
      reads =
          made_of (possible l r) (at line (t.sign t.question) ∷ at q (t.word x) ∷ at m (t.sign t.assign) ∷ vs) (by.with_default x (of e g.line g.nodes))
          (perhaps_first n b l r line (at q (t.word x) ∷ at m (t.sign t.assign) ∷ vs) i
          ∙ ap (λ z. and_then z (λ e ws. by.and_items (items_from n (expression n) b) (possible false r) (by.with_default x e) ws)) g.reads) f;
      tree = ap (λ y. defaulted y e f.found.items) (name_is_lower x h) ∙ ap (defaulted x e) f.tree;
      low = of_two (expr_height e) (items_height more) g.nodes f.found.default_nodes g.low f.low;
      scattered = f.scattered;
    }

-- ---- all of them, up to the closing brace

abbrev Others : ℕ → Bool → Bool → Items → List Placed → Type 0
Others n b r more us = (vs : List Placed) → Laid (further_items more ++ t.sign t.close_brace ∷ []) vs us → Enough n vs → FurtherScatter n b more (possible false r) vs us

default_cut : (x : Text) (e : Expr) (more : Items) → Back e → (n : ℕ) (b l r : Bool) (line q m z : ℕ) (vs us : List Placed) → IsTrue (is_name x) → IsTrue (expr_fits b e)
    → Others n b r more us → Enough n (at line (t.sign t.question) ∷ at q (t.word x) ∷ at m (t.sign t.assign) ∷ vs)
    → Cut (expression_tokens e) (further_items more) vs (at z (t.sign t.close_brace) ∷ us)
    → ScatterGot n b (defaulted x e more) (possible l r) (at line (t.sign t.question) ∷ at q (t.word x) ∷ at m (t.sign t.assign) ∷ vs) us
default_cut x e more re n b l r line q m z vs us h he others i (cut ws y k) =
    let d = following more z ws us k in
    let i1 = tail (at line (t.sign t.question)) (at q (t.word x) ∷ at m (t.sign t.assign) ∷ vs) i in
    let i2 = tail (at q (t.word x)) (at m (t.sign t.assign) ∷ vs) i1 in
    let i3 = tail (at m (t.sign t.assign)) vs i2 in
    default_joined line q m x h i (whole_back re n b vs ws he y i3 d.loose d.stops) (others ws (laid_on k (next z none)) (later y i3))

default_laid : (x : Text) (e : Expr) (more : Items) → Back e → (n : ℕ) (b l r : Bool) (line q m : ℕ) (vs us : List Placed) → IsTrue (is_name x) → IsTrue (expr_fits b e)
    → Others n b r more us → Enough n (at line (t.sign t.question) ∷ at q (t.word x) ∷ at m (t.sign t.assign) ∷ vs)
    → Laid ((expression_tokens e ++ further_items more) ++ t.sign t.close_brace ∷ []) vs us
    → ScatterGot n b (defaulted x e more) (possible l r) (at line (t.sign t.question) ∷ at q (t.word x) ∷ at m (t.sign t.assign) ∷ vs) us
default_laid x e more re n b l r line q m vs us h he others i k = go (split (expression_tokens e ++ further_items more) (t.sign t.close_brace ∷ []) k)
  where
    go : Cut (expression_tokens e ++ further_items more) (t.sign t.close_brace ∷ []) vs us
        → ScatterGot n b (defaulted x e more) (possible l r) (at line (t.sign t.question) ∷ at q (t.word x) ∷ at m (t.sign t.assign) ∷ vs) us
    go (cut _ y (next z none)) = default_cut x e more re n b l r line q m z vs us h he others i (split (expression_tokens e) (further_items more) y)

rest_later : (r : Bool) (x : Text) (more : Items) → Once r (remaining x more) → (r ≡ false) × (takes_rest more ≡ false)
rest_later true x more o = cc
rest_later false x more o = (refl, negated (takes_rest more) o)
  where
    negated : (c : Bool) → IsTrue (not c) → c ≡ false
    negated true h = cc
    negated false h = refl

required_later : (r : Bool) (x : Text) (more : Items) → Once r (required x more) → Once r more
required_later true x more o = o
required_later false x more o = o

optional_later : (r : Bool) (x : Text) (more : Items) → Once r (optional x more) → Once r more
optional_later true x more o = o
optional_later false x more o = o

default_later : (r : Bool) (x : Text) (e : Expr) (more : Items) → Once r (defaulted x e more) → Once r more
default_later true x e more o = o
default_later false x e more o = o

further_scatter : (xs : Items) → ItemsBacks xs → (n : ℕ) (b l r : Bool) (ts us : List Placed) → Once r xs → IsTrue (items_fit b xs)
    → Laid (further_items xs ++ t.sign t.close_brace ∷ []) ts us → Enough n ts → FurtherScatter n b xs (possible l r) ts us
further_scatter no_items bs n b l r ts us o h (next m none) i = record { found = by.no_more (possible l r); reads = refl; tree = refl; low = refl; scattered = refl }
further_scatter (required x more) bs n b l r ts us o h (next line (next {ts = vs} q k)) i =
    let j = tail (at line (t.sign t.comma)) (at q (t.word x) ∷ vs) i in
    after_comma line
    (required_joined q x (first_holds (is_name x) (items_fit b more) h) j (ends more vs us k)
    (further_scatter more bs n b l r vs us (required_later r x more o) (second_holds (is_name x) (items_fit b more) h) k (tail (at q (t.word x)) vs j)))
further_scatter (optional x more) bs n b l r ts us o h (next line (next m (next {ts = vs} q k))) i =
    let j = tail (at line (t.sign t.comma)) (at m (t.sign t.question) ∷ at q (t.word x) ∷ vs) i in
    let j2 = tail (at m (t.sign t.question)) (at q (t.word x) ∷ vs) j in
    after_comma line
    (optional_joined m q x (first_holds (is_name x) (items_fit b more) h) j (no_default more vs us k)
    (further_scatter more bs n b false r vs us (optional_later r x more o) (second_holds (is_name x) (items_fit b more) h) k (tail (at q (t.word x)) vs j2)))
further_scatter (remaining x more) bs n b l r ts us o h (next line (next m (next {ts = vs} q k))) i =
    let j = tail (at line (t.sign t.comma)) (at m (t.sign t.at_sign) ∷ at q (t.word x) ∷ vs) i in
    let j2 = tail (at m (t.sign t.at_sign)) (at q (t.word x) ∷ vs) j in
    let d = rest_later r x more o in
    subst (λ z. FurtherScatter n b (remaining x more) (possible l z) (at line (t.sign t.comma) ∷ at m (t.sign t.at_sign) ∷ at q (t.word x) ∷ vs) us) (sym d.0)
    (after_comma line
    (rest_joined m q x (first_holds (is_name x) (items_fit b more) h) j (ends more vs us k)
    (further_scatter more bs n b l true vs us d.1 (second_holds (is_name x) (items_fit b more) h) k (tail (at q (t.word x)) vs j2))))
further_scatter (defaulted x e more) bs n b l r ts us o h (next line (next m (next q (next {ts = vs} z k)))) i =
    after_comma line
    (default_laid x e more bs.0 n b l r m q z vs us (first_holds (is_name x) (expr_fits b e && items_fit b more) h)
    (first_holds (expr_fits b e) (items_fit b more) (second_holds (is_name x) (expr_fits b e && items_fit b more) h))
    (λ ws y j. further_scatter more bs.1 n b false r ws us (default_later r x e more o)
    (second_holds (expr_fits b e) (items_fit b more) (second_holds (is_name x) (expr_fits b e && items_fit b more) h)) y j)
    (tail (at line (t.sign t.comma)) (at m (t.sign t.question) ∷ at q (t.word x) ∷ at z (t.sign t.assign) ∷ vs) i) k)

-- the first of them, behind the opening brace
some_scatter : (xs : Items) → ItemsBacks xs → (n : ℕ) (b : Bool) (ts us : List Placed) → IsTrue (has_item xs) → IsTrue (rest_once xs) → IsTrue (items_fit b xs)
    → Laid (items_tokens xs ++ t.sign t.close_brace ∷ []) ts us → Enough n ts
    → ScatterGot n b xs (possible true false) ts us × (begins_with t.close_brace ts ≡ false)
some_scatter no_items bs n b ts us s o h l i = absurd (cc s)
some_scatter (required x more) bs n b ts us s o h (next {ts = vs} q k) i = (
  required_joined q x (first_holds (is_name x) (items_fit b more) h) i (ends more vs us k)
      (further_scatter more bs n b true false vs us o (second_holds (is_name x) (items_fit b more) h) k (tail (at q (t.word x)) vs i)),
  refl,
)
some_scatter (optional x more) bs n b ts us s o h (next m (next {ts = vs} q k)) i =
    let j = tail (at m (t.sign t.question)) (at q (t.word x) ∷ vs) i in (
      optional_joined m q x (first_holds (is_name x) (items_fit b more) h) i (no_default more vs us k)
          (further_scatter more bs n b false false vs us o (second_holds (is_name x) (items_fit b more) h) k (tail (at q (t.word x)) vs j)),
      refl,
    )
some_scatter (remaining x more) bs n b ts us s o h (next m (next {ts = vs} q k)) i =
    let j = tail (at m (t.sign t.at_sign)) (at q (t.word x) ∷ vs) i in
    let d = rest_later false x more o in (
      rest_joined m q x (first_holds (is_name x) (items_fit b more) h) i (ends more vs us k)
          (further_scatter more bs n b true true vs us d.1 (second_holds (is_name x) (items_fit b more) h) k (tail (at q (t.word x)) vs j)),
      refl,
    )
some_scatter (defaulted x e more) bs n b ts us s o h (next m (next q (next {ts = vs} z k))) i = (
  default_laid x e more bs.0 n b true false m q z vs us (first_holds (is_name x) (expr_fits b e && items_fit b more) h)
      (first_holds (expr_fits b e) (items_fit b more) (second_holds (is_name x) (expr_fits b e && items_fit b more) h))
      (λ ws y j. further_scatter more bs.1 n b false false ws us o
      (second_holds (expr_fits b e) (items_fit b more) (second_holds (is_name x) (expr_fits b e && items_fit b more) h)) y j) i k,
  refl,
)

-- ---- scatters

as_scatter : (n : ℕ) (b s l : Bool) (o : Operand) (f : FoundItems) (more : List Placed → Read Found) (line : ℕ) (vs : List Placed) → s ≡ true
    → by.braces_or_value (expression n) b 0 o
    (if s then (if l then by.perhaps_scatter f.items f.default_nodes else by.surely_scatter f.items f.default_nodes) else by.no_braces) more (at line (t.sign t.assign) ∷ vs)
    ≡ by.scattered (expression n) b o.found.line f.items f.default_nodes vs
as_scatter n b true true o f more line vs e = refl
as_scatter n b true false o f more line vs e = refl
as_scatter n b false l o f more line vs e = cc

scattered_read : {n : ℕ} {b : Bool} {line m : ℕ} {xs : Items} {e : Expr} {ts vs us : List Placed}
    → ScatterGot n b xs (possible true false) ts (at m (t.sign t.assign) ∷ vs) → begins_with t.close_brace ts ≡ false → Got n b 0 e vs us
    → Enough n (at line (t.sign t.open_brace) ∷ ts) → Enough n (at m (t.sign t.assign) ∷ vs) → Enough n us → Stops 0 us
    → Begun n b 0 (scatter xs e) (at line (t.sign t.open_brace) ∷ ts) us
scattered_read {n} {b} {line} {m} {xs} {e} {ts} {vs} {us} g s q h i j st =
    record {
      line = line;
      nodes = under line (g.found.default_nodes ++ q.nodes);
      low =
          one_higher (max (items_height xs) (expr_height e)) line (g.found.default_nodes ++ q.nodes)
          (of_two (items_height xs) (expr_height e) g.found.default_nodes q.nodes g.low q.low);
      reads =
          expression_again n b 0 (at line (t.sign t.open_brace) ∷ ts) (plain (at line (t.sign t.open_brace) ∷ ts) h)
          ∙ ap (λ z. and_then z (value_behind n b 0))
          (ap (λ r. by.with_steps n (expression n) b r)
          (sign_absent t.close_brace (got (by.whole (by.found_at line (listing no_arguments) []))) some ts s
          ∙ ap (λ r. and_then r (λ f vs. got (by.braces_found line f) vs)) g.reads)
          ∙ steps_again n b o (at m (t.sign t.assign) ∷ vs) (plain (at m (t.sign t.assign) ∷ vs) i)
          ∙ stops n (by.is_surely_scatter o.braces) b o (at m (t.sign t.assign)) vs refl)
          ∙ as_scatter n b g.found.allowed.as_scatter g.found.allowed.as_list o g.found (operators n (expression n) b 0 o.found) m vs g.scattered
          ∙ ap (λ z. and_then z (λ e us. got (by.found_at line (scatter g.found.items e.tree) (g.found.default_nodes ++ e.nodes)) us)) q.reads
          ∙ ap (λ x. got (of (scatter x e) line (under line (g.found.default_nodes ++ q.nodes))) us) g.tree
          ∙ sym (stop n b 0 (of (scatter xs e) line (under line (g.found.default_nodes ++ q.nodes))) us j st);
    }
  where
    some : List Placed → Read Operand
    some us = and_then (items_from n (expression n) b (possible true false) us) (λ f vs. got (by.braces_found line f) vs)

    o : Operand
    o = by.braces_found line g.found

zero_only : (k : ℕ) → k ≤ 0 → k ≡ 0
zero_only k h = omega (arith, h)

pub scatter_back : (xs : Items) (e : Expr) → ItemsBacks xs → Back e → Back (scatter xs e)
scatter_back xs e bs re = no_operand_back (λ d. cc) go
  where
    inner : (n : ℕ) (b : Bool) (line m : ℕ) (ts vs us : List Placed) → IsTrue ((has_item xs && rest_once xs) && (items_fit b xs && expr_fits b e))
        → Laid (items_tokens xs ++ t.sign t.close_brace ∷ []) ts (at m (t.sign t.assign) ∷ vs) → Laid (expression_tokens e) vs us
        → Enough n (at line (t.sign t.open_brace) ∷ ts) → Loose us → Stops 0 us → Begun n b 0 (scatter xs e) (at line (t.sign t.open_brace) ∷ ts) us
    inner n b line m ts vs us h l k i lo st =
        let hr = first_holds (has_item xs && rest_once xs) (items_fit b xs && expr_fits b e) h in
        let hf = second_holds (has_item xs && rest_once xs) (items_fit b xs && expr_fits b e) h in
        let i1 = tail (at line (t.sign t.open_brace)) ts i in
        let i2 = later l i1 in
        let i3 = tail (at m (t.sign t.assign)) vs i2 in
        let g =
        some_scatter xs bs n b ts (at m (t.sign t.assign) ∷ vs) (first_holds (has_item xs) (rest_once xs) hr) (second_holds (has_item xs) (rest_once xs) hr)
        (first_holds (items_fit b xs) (expr_fits b e) hf) l i1 in
        scattered_read {line = line} {m = m} g.0 g.1 (whole_back re n b vs us (second_holds (items_fit b xs) (expr_fits b e) hf) k i3 lo st) i i2 (later k i3) st

    at_zero : (n : ℕ) (b : Bool) (ts us : List Placed) → IsTrue ((has_item xs && rest_once xs) && (items_fit b xs && expr_fits b e))
        → Cut (between t.open_brace (items_tokens xs) t.close_brace) (t.sign t.assign ∷ expression_tokens e) ts us → Enough n ts → Loose us → Stops 0 us
        → Begun n b 0 (scatter xs e) ts us
    at_zero n b ts us h (cut _ (next {ts = xs_here} line l) (next {ts = vs} m k)) i lo st = inner n b line m xs_here vs us h l k i lo st

    go : (n : ℕ) (b : Bool) (k : ℕ) (ts us : List Placed) → IsTrue ((has_item xs && rest_once xs) && (items_fit b xs && expr_fits b e)) → k ≤ 0
        → Laid (between t.open_brace (items_tokens xs) t.close_brace ++ (t.sign t.assign ∷ expression_tokens e)) ts us → Enough n ts → Loose us → Stops 0 us
        → Begun n b k (scatter xs e) ts us
    go n b k ts us h kl l i lo st =
        subst (λ m. Begun n b m (scatter xs e) ts us) (sym (zero_only k kl))
        (at_zero n b ts us h (split (between t.open_brace (items_tokens xs) t.close_brace) (t.sign t.assign ∷ expression_tokens e) l) i lo st)
