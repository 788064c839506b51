-- Where items of braces are read: each token keeps what is still to be read.
use Rattle.std.proofs.Common.{◌≡◌, ℕ, ◌<◌, Bool, true, false, List, [], ◌∷◌, length, if◌then◌else◌, refl, sym, ap, arith}
use Rattle.spec_value.specs.Datum.{Text}
use Rattle.spec_program.specs.Tokens as t
use Rattle.spec_program.specs.Tokens.{Sign, Token, Placed}
use Rattle.spec_program.specs.Reading.{Read, stuck, and_then, chosen, if_sign, is_sign, past_word}
use Rattle.spec_program.specs.ReadExpressions as by
use Rattle.spec_program.specs.ReadExpressions.{Allowed, FoundItems, items_from, expression}
use Rattle.spec_program.specs.Frames as f
use Rattle.spec_program.specs.Frames.{some_items_read, Frames, Item, push, resume, means}
use Rattle.spec_program.specs.Moves.{at}
use Rattle.spec_program.specs.ItemChoices.{goes_on}
use Rattle.spec_program.proofs.MovesHold.{pushed, expression_again, items_again}
use Rattle.spec_reader.specs.Next.{reads_expression, State, goes, stops, on_word}
use Rattle.spec_reader.specs.Ends.{items_on}
use Rattle.spec_reader.specs.Begins.{expression_item, if_alone, plain_item, rest_item, optional_named, optional_item, listed_item, stops_at, item_of_list, scatter_plain, scatter_rest, scatter_unless, item_by}
use Rattle.spec_reader.specs.Laws.{Keeps}
use Rattle.spec_reader.proofs.Keeping.{now, via, later, on_token, past_a_word}
use Rattle.spec_reader.proofs.Parts.{items_keep}

-- an item that is an expression
expression_keeps : (n : ℕ) (b : Bool) (a : Allowed) (spliced : Bool) (fs : Frames some_items_read) (ts : List Placed)
    → Keeps n (means n fs (by.expression_item (expression n) b (items_from n (expression n) b) a spliced ts)) ts (expression_item b a spliced fs ts)
expression_keeps n b a spliced fs ts =
    now n (reads_expression b 0 (push (f.item_expression b a spliced) fs)) ts
    (means n fs (and_then (expression n b 0 ts) (resume n (f.item_expression b a spliced))))
    (pushed n (f.item_expression b a spliced) fs (expression n b 0 ts))

nothing_left : (n : ℕ) (b : Bool) (a : Allowed) (spliced : Bool) (fs : Frames some_items_read) → 0 < n
    → Keeps n (stuck []) [] (expression_item b a spliced fs [])
nothing_left n b a spliced fs h =
    via n (stuck []) (means n (push (f.item_expression b a spliced) fs) (expression n b 0 [])) [] (expression_item b a spliced fs [])
    (sym (ap (λ r. means n (push (f.item_expression b a spliced) fs) r) (expression_again n b 0 [] h)))
    (record { means = refl; left = omega arith })

-- a word that is an item, or an expression
alone_keeps : (n : ℕ) (b : Bool) (a c : Allowed) (spliced : Bool) (i : Item) (x : Text) (line : ℕ) (fs : Frames some_items_read) (p : Placed)
    (ts : List Placed)
    (g : Text → ℕ → List Placed → State) → g x line ts ≡ items_on b c i fs ts → (d : Bool)
    → Keeps n
    (means n fs (by.bare_or_not d (goes_on n b c i) (by.expression_item (expression n) b (items_from n (expression n) b) a spliced) ts (p ∷ ts)))
    (p ∷ ts) (on_word g (expression_item b a spliced fs) (if_alone d x line ts (p ∷ ts)))
alone_keeps n b a c spliced i x line fs p ts g e true =
    let k = items_keep n b c i fs ts in
    later n (means n fs (goes_on n b c i ts)) p ts (g x line ts) (rw e k)
alone_keeps n b a c spliced i x line fs p ts g e false = expression_keeps n b a spliced fs (p ∷ ts)

plain_keeps : (n : ℕ) (b : Bool) (a : Allowed) (fs : Frames some_items_read) (ts : List Placed) → 0 < n
    → Keeps n (means n fs (by.plain_item (expression n) b (items_from n (expression n) b) a ts)) ts (plain_item b a fs ts)
plain_keeps n b a fs [] h = nothing_left n b a false fs h
plain_keeps n b a fs (p ∷ ts) h = by_token p.token p.line
  where
    by_token : (k : Token) (l : ℕ)
        → Keeps n (means n fs (by.plain_item (expression n) b (items_from n (expression n) b) a (at l k ∷ ts))) (at l k ∷ ts)
        (plain_item b a fs (at l k ∷ ts))
    by_token (t.word x) l =
        alone_keeps n b a a false (f.bare x l) x l fs (at l (t.word x)) ts (λ y m us. items_on b a (f.bare y m) fs us) refl (by.ends_item ts)
    by_token (t.keyword k) l = expression_keeps n b a false fs (at l (t.keyword k) ∷ ts)
    by_token (t.error_name k) l = expression_keeps n b a false fs (at l (t.error_name k) ∷ ts)
    by_token (t.integer k) l = expression_keeps n b a false fs (at l (t.integer k) ∷ ts)
    by_token (t.object c k) l = expression_keeps n b a false fs (at l (t.object c k) ∷ ts)
    by_token (t.string k) l = expression_keeps n b a false fs (at l (t.string k) ∷ ts)
    by_token (t.sign k) l = expression_keeps n b a false fs (at l (t.sign k) ∷ ts)
    by_token (t.bad k) l = expression_keeps n b a false fs (at l (t.bad k) ∷ ts)

rest_keeps : (n : ℕ) (b : Bool) (a : Allowed) (fs : Frames some_items_read) (ts : List Placed) → 0 < n
    → Keeps n (means n fs (by.rest_item (expression n) b (items_from n (expression n) b) a ts)) ts (rest_item b a fs ts)
rest_keeps n b a fs [] h = nothing_left n b a true fs h
rest_keeps n b a fs (p ∷ ts) h = by_token p.token p.line
  where
    by_token : (k : Token) (l : ℕ)
        → Keeps n (means n fs (by.rest_item (expression n) b (items_from n (expression n) b) a (at l k ∷ ts))) (at l k ∷ ts)
        (rest_item b a fs (at l k ∷ ts))
    by_token (t.word x) l =
        alone_keeps n b a (by.rest_allowed a) true (f.bare_rest x l) x l fs (at l (t.word x)) ts
        (λ y m us. items_on b (by.rest_allowed a) (f.bare_rest y m) fs us) refl
        (by.ends_item ts)
    by_token (t.keyword k) l = expression_keeps n b a true fs (at l (t.keyword k) ∷ ts)
    by_token (t.error_name k) l = expression_keeps n b a true fs (at l (t.error_name k) ∷ ts)
    by_token (t.integer k) l = expression_keeps n b a true fs (at l (t.integer k) ∷ ts)
    by_token (t.object c k) l = expression_keeps n b a true fs (at l (t.object c k) ∷ ts)
    by_token (t.string k) l = expression_keeps n b a true fs (at l (t.string k) ∷ ts)
    by_token (t.sign k) l = expression_keeps n b a true fs (at l (t.sign k) ∷ ts)
    by_token (t.bad k) l = expression_keeps n b a true fs (at l (t.bad k) ∷ ts)

optional_keeps : (n : ℕ) (b : Bool) (a : Allowed) (fs : Frames some_items_read) (ts : List Placed)
    → Keeps n (means n fs (by.optional_item (expression n) b (items_from n (expression n) b) a ts)) ts (optional_item b a fs ts)
optional_keeps n b a fs ts =
    let more = items_from n (expression n) b in
    let default = λ (x : Text) (us : List Placed). and_then (expression n b 0 us) (resume n (f.item_default b a x)) in
    let bare = λ (x : Text) (us : List Placed). goes_on n b (by.scatter_alone a) (f.bare_optional x) us in
    past_a_word n fs (λ x line us. if_sign t.assign (default x) (bare x) us) (λ x line us. optional_named b a fs x us)
    (λ x line us. on_token n fs (is_sign t.assign) (default x) (bare x) (goes (reads_expression b 0 (push (f.item_default b a x) fs)))
    (items_on b (by.scatter_alone a) (f.bare_optional x) fs)
    (λ vs. now n (reads_expression b 0 (push (f.item_default b a x) fs)) vs (means n fs (default x vs))
    (pushed n (f.item_default b a x) fs (expression n b 0 vs)))
    (λ vs. items_keep n b (by.scatter_alone a) (f.bare_optional x) fs vs)
    us)
    ts

listed_keeps : (n : ℕ) (b : Bool) (a : Allowed) (fs : Frames some_items_read) (ts : List Placed) → 0 < n
    → Keeps n
    (means n fs (if_sign t.at_sign (by.rest_item (expression n) b (items_from n (expression n) b) a)
    (by.plain_item (expression n) b (items_from n (expression n) b) a) ts))
    ts (listed_item b a fs ts)
listed_keeps n b a fs ts h =
    on_token n fs (is_sign t.at_sign) (by.rest_item (expression n) b (items_from n (expression n) b) a)
    (by.plain_item (expression n) b (items_from n (expression n) b) a)
    (rest_item b a fs) (plain_item b a fs) (λ us. rest_keeps n b a fs us h) (λ us. plain_keeps n b a fs us h) ts

-- where a sign may not stand
stops_keep : (n : ℕ) (fs : Frames some_items_read) (s : Sign) (more : List Placed → Read FoundItems) (g : List Placed → State)
    → ((us : List Placed) → Keeps n (means n fs (more us)) us (g us))
    → (ts : List Placed) → Keeps n (means n fs (if_sign s (λ us. stuck ts) more ts)) ts (stops_at s g ts)
stops_keep n fs s more g h [] = h []
stops_keep n fs s more g h (p ∷ ts) = by_sign (is_sign s p.token)
  where
    by_sign : (c : Bool) → Keeps n (means n fs (chosen c (λ us. stuck (p ∷ ts)) more ts (p ∷ ts))) (p ∷ ts) (if c then stops (p ∷ ts) else g (p ∷ ts))
    by_sign true = record { means = refl; left = omega arith }
    by_sign false = h (p ∷ ts)

list_keeps : (n : ℕ) (c b : Bool) (a : Allowed) (fs : Frames some_items_read) (ts : List Placed) → 0 < n
    → Keeps n
    (means n fs (if_sign t.question
    (λ us. by.bare_or_not c (by.optional_item (expression n) b (items_from n (expression n) b) a) stuck us ts)
    (λ us. if_sign t.at_sign (by.rest_item (expression n) b (items_from n (expression n) b) a)
    (by.plain_item (expression n) b (items_from n (expression n) b) a) us)
    ts))
    ts (item_of_list c b a fs ts)
list_keeps n true b a fs ts h =
    let more = items_from n (expression n) b in
    on_token n fs (is_sign t.question) (by.optional_item (expression n) b more a)
    (λ us. if_sign t.at_sign (by.rest_item (expression n) b more a) (by.plain_item (expression n) b more a) us)
    (optional_item b a fs) (listed_item b a fs) (λ us. optional_keeps n b a fs us) (λ us. listed_keeps n b a fs us h) ts
list_keeps n false b a fs ts h =
    let more = items_from n (expression n) b in
    stops_keep n fs t.question (λ us. if_sign t.at_sign (by.rest_item (expression n) b more a) (by.plain_item (expression n) b more a) us)
    (listed_item b a fs)
    (λ us. listed_keeps n b a fs us h) ts

scatter_plain_keeps : (n : ℕ) (b : Bool) (a : Allowed) (fs : Frames some_items_read) (ts : List Placed)
    → Keeps n (means n fs (past_word ts (λ x line us. goes_on n b a (f.bare x line) us))) ts (scatter_plain b a fs ts)
scatter_plain_keeps n b a fs ts =
    past_a_word n fs (λ x line us. goes_on n b a (f.bare x line) us) (λ x line us. items_on b a (f.bare x line) fs us)
    (λ x line us. items_keep n b a (f.bare x line) fs us) ts

scatter_keeps : (n : ℕ) (c b : Bool) (a : Allowed) (fs : Frames some_items_read) (ts : List Placed)
    → Keeps n
    (means n fs (if_sign t.at_sign
    (λ us. by.scatter_rest (items_from n (expression n) b) a c us ts)
    (λ us. past_word us (λ x line vs. goes_on n b a (f.bare x line) vs))
    ts))
    ts (scatter_unless c b a fs ts)
scatter_keeps n true b a fs ts =
    stops_keep n fs t.at_sign (λ us. past_word us (λ x line vs. goes_on n b a (f.bare x line) vs)) (scatter_plain b a fs)
    (λ us. scatter_plain_keeps n b a fs us) ts
scatter_keeps n false b a fs ts =
    let r = record a { has_rest = true } in
    on_token n fs (is_sign t.at_sign) (λ us. past_word us (λ x line vs. goes_on n b r (f.bare_rest x line) vs))
    (λ us. past_word us (λ x line vs. goes_on n b a (f.bare x line) vs)) (scatter_rest b a fs) (scatter_plain b a fs)
    (λ us. past_a_word n fs (λ x line vs. goes_on n b r (f.bare_rest x line) vs) (λ x line vs. items_on b r (f.bare_rest x line) fs vs)
    (λ x line vs. items_keep n b r (f.bare_rest x line) fs vs) us)
    (λ us. scatter_plain_keeps n b a fs us) ts

items_by : (n : ℕ) (c b : Bool) (a : Allowed) (fs : Frames some_items_read) (ts : List Placed) → 0 < n
    → Keeps n (means n fs (by.item_by c (expression n) b (items_from n (expression n) b) a ts)) ts (item_by c b a fs ts)
items_by n true b a fs ts h = list_keeps n a.as_scatter b a fs ts h
items_by n false b a fs ts h =
    let more = items_from n (expression n) b in
    on_token n fs (is_sign t.question) (by.optional_item (expression n) b more a)
    (λ us. if_sign t.at_sign (λ vs. by.scatter_rest more a a.has_rest vs us) (λ vs. past_word vs (λ x line ws. goes_on n b a (f.bare x line) ws)) us)
    (optional_item b a fs) (scatter_unless a.has_rest b a fs)
    (λ us. optional_keeps n b a fs us) (λ us. scatter_keeps n a.has_rest b a fs us) ts

pub some_items_keep : (n : ℕ) (b : Bool) (a : Allowed) (fs : Frames some_items_read) (ts : List Placed) → length ts < n
    → Keeps n (means n fs (items_from n (expression n) b a ts)) ts (item_by a.as_list b a fs ts)
some_items_keep n b a fs ts h =
    via n (means n fs (items_from n (expression n) b a ts)) (means n fs
    (by.item_by a.as_list (expression n) b (items_from n (expression n) b) a ts)) ts
    (item_by a.as_list b a fs ts)
    (ap (λ r. means n fs r) (items_again n b a ts h)) (items_by n a.as_list b a fs ts (omega (arith, h)))
