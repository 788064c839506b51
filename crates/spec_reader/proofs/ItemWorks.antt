-- Where items of braces are read: what each token does of the work.
use Rattle.std.proofs.Common.{◌≡◌, ℕ, ◌+◌, ◌*◌, ◌<◌, Bool, true, false, List, [], ◌∷◌, ◌++◌, length, if◌then◌else◌, refl, sym, subst, arith}
use Rattle.spec_value.specs.Datum.{Text}
use Rattle.spec_program.specs.Tokens as t
use Rattle.spec_program.specs.Tokens.{FaultKind, Sign, Placed}
use Rattle.spec_program.specs.Reading.{is_sign}
use Rattle.spec_program.specs.ReadExpressions as by
use Rattle.spec_program.specs.ReadExpressions.{Allowed}
use Rattle.spec_program.specs.Frames as f
use Rattle.spec_program.specs.Frames.{some_items_read, Frames, push}
use Rattle.spec_program.specs.Moves.{begins_with}
use Rattle.spec_reader.specs.Next.{reads_expression, State, goes, stops}
use Rattle.spec_reader.specs.Ends.{items_on}
use Rattle.spec_reader.specs.Begins.{expression_item, plain_item, rest_item, optional_named, optional_item, listed_item, stops_at, item_of_list, scatter_plain, scatter_rest, scatter_unless, item_by}
use Rattle.spec_reader.specs.Work.{frames_work}
use Rattle.spec_reader.specs.Whole.{bad_at}
use Rattle.spec_reader.proofs.Working.{Does, on_token, on_a_word, on_lone_word}
use Rattle.spec_reader.proofs.EndWorks.{items_work}

plain_works : (m : ℕ) (k : FaultKind) (l : ℕ) (b : Bool) (a : Allowed) (fs : Frames some_items_read) (ts : List Placed)
    → 2 + frames_work fs + 10 * length ts < m
    → Does m (bad_at k l) (plain_item b a fs ts) (plain_item b a fs (ts ++ bad_at k l ∷ []))
plain_works m k l b a fs ts h =
    on_lone_word m k l (λ x line us. items_on b a (f.bare x line) fs us) (expression_item b a false fs) ts
    (λ x line us n. items_work m k l b a (f.bare x line) fs us (omega arith)) (record { less = omega arith; same = refl })

rest_works : (m : ℕ) (k : FaultKind) (l : ℕ) (b : Bool) (a : Allowed) (fs : Frames some_items_read) (ts : List Placed)
    → 2 + frames_work fs + 10 * length ts < m
    → Does m (bad_at k l) (rest_item b a fs ts) (rest_item b a fs (ts ++ bad_at k l ∷ []))
rest_works m k l b a fs ts h =
    on_lone_word m k l (λ x line us. items_on b (by.rest_allowed a) (f.bare_rest x line) fs us) (expression_item b a true fs) ts
    (λ x line us n. items_work m k l b (by.rest_allowed a) (f.bare_rest x line) fs us (omega arith)) (record { less = omega arith; same = refl })

named_works : (m : ℕ) (k : FaultKind) (l : ℕ) (b : Bool) (a : Allowed) (fs : Frames some_items_read) (x : Text) (ts : List Placed)
    → frames_work fs + 10 * length ts < m
    → Does m (bad_at k l) (optional_named b a fs x ts) (optional_named b a fs x (ts ++ bad_at k l ∷ []))
named_works m k l b a fs x ts h =
    on_token m k l (is_sign t.assign) (goes (reads_expression b 0 (push (f.item_default b a x) fs)))
    (items_on b (by.scatter_alone a) (f.bare_optional x) fs) ts refl
    (λ us n. record { less = omega arith; same = refl }) (items_work m k l b (by.scatter_alone a) (f.bare_optional x) fs ts h)

optional_works : (m : ℕ) (k : FaultKind) (l : ℕ) (b : Bool) (a : Allowed) (fs : Frames some_items_read) (ts : List Placed)
    → frames_work fs + 10 * length ts < m
    → Does m (bad_at k l) (optional_item b a fs ts) (optional_item b a fs (ts ++ bad_at k l ∷ []))
optional_works m k l b a fs ts h =
    on_a_word m k l (λ x line us. optional_named b a fs x us) stops ts
    (λ x line us n. named_works m k l b a fs x us (omega arith)) (record { less = omega arith; same = refl })

listed_works : (m : ℕ) (k : FaultKind) (l : ℕ) (b : Bool) (a : Allowed) (fs : Frames some_items_read) (ts : List Placed)
    → 2 + frames_work fs + 10 * length ts < m
    → Does m (bad_at k l) (listed_item b a fs ts) (listed_item b a fs (ts ++ bad_at k l ∷ []))
listed_works m k l b a fs ts h =
    on_token m k l (is_sign t.at_sign) (rest_item b a fs) (plain_item b a fs) ts refl
    (λ us n. rest_works m k l b a fs us (omega arith)) (plain_works m k l b a fs ts h)

-- where a sign may not stand
begins_same : (k : FaultKind) (l : ℕ) (s : Sign) (ts : List Placed) → begins_with s (ts ++ bad_at k l ∷ []) ≡ begins_with s ts
begins_same k l s [] = refl
begins_same k l s (p ∷ ts) = refl

stops_work : (m : ℕ) (k : FaultKind) (l : ℕ) (s : Sign) (g : List Placed → State) (ts : List Placed) → 10 * length ts < m
    → Does m (bad_at k l) (g ts) (g (ts ++ bad_at k l ∷ []))
    → Does m (bad_at k l) (stops_at s g ts) (stops_at s g (ts ++ bad_at k l ∷ []))
stops_work m k l s g ts h d =
    subst (λ c. Does m (bad_at k l) (stops_at s g ts) (if c then stops rest else g rest)) (sym (begins_same k l s ts)) (by_sign (begins_with s ts))
  where
    rest : List Placed
    rest = ts ++ bad_at k l ∷ []

    by_sign : (c : Bool) → Does m (bad_at k l) (if c then stops ts else g ts) (if c then stops rest else g rest)
    by_sign true = record { less = omega arith; same = refl }
    by_sign false = d

list_works : (m : ℕ) (k : FaultKind) (l : ℕ) (c b : Bool) (a : Allowed) (fs : Frames some_items_read) (ts : List Placed)
    → 2 + frames_work fs + 10 * length ts < m
    → Does m (bad_at k l) (item_of_list c b a fs ts) (item_of_list c b a fs (ts ++ bad_at k l ∷ []))
list_works m k l true b a fs ts h =
    on_token m k l (is_sign t.question) (optional_item b a fs) (listed_item b a fs) ts refl
    (λ us n. optional_works m k l b a fs us (omega arith)) (listed_works m k l b a fs ts h)
list_works m k l false b a fs ts h = stops_work m k l t.question (listed_item b a fs) ts (omega arith) (listed_works m k l b a fs ts h)

scatter_plain_works : (m : ℕ) (k : FaultKind) (l : ℕ) (b : Bool) (a : Allowed) (fs : Frames some_items_read) (ts : List Placed)
    → frames_work fs + 10 * length ts < m
    → Does m (bad_at k l) (scatter_plain b a fs ts) (scatter_plain b a fs (ts ++ bad_at k l ∷ []))
scatter_plain_works m k l b a fs ts h =
    on_a_word m k l (λ x line us. items_on b a (f.bare x line) fs us) stops ts
    (λ x line us n. items_work m k l b a (f.bare x line) fs us (omega arith)) (record { less = omega arith; same = refl })

scatter_rest_works : (m : ℕ) (k : FaultKind) (l : ℕ) (b : Bool) (a : Allowed) (fs : Frames some_items_read) (ts : List Placed)
    → frames_work fs + 10 * length ts < m
    → Does m (bad_at k l) (scatter_rest b a fs ts) (scatter_rest b a fs (ts ++ bad_at k l ∷ []))
scatter_rest_works m k l b a fs ts h =
    let r = record a { has_rest = true } in
    on_a_word m k l (λ x line us. items_on b r (f.bare_rest x line) fs us) stops ts
    (λ x line us n. items_work m k l b r (f.bare_rest x line) fs us (omega arith)) (record { less = omega arith; same = refl })

scatter_works : (m : ℕ) (k : FaultKind) (l : ℕ) (c b : Bool) (a : Allowed) (fs : Frames some_items_read) (ts : List Placed)
    → frames_work fs + 10 * length ts < m
    → Does m (bad_at k l) (scatter_unless c b a fs ts) (scatter_unless c b a fs (ts ++ bad_at k l ∷ []))
scatter_works m k l true b a fs ts h =
    stops_work m k l t.at_sign (scatter_plain b a fs) ts (omega arith) (scatter_plain_works m k l b a fs ts h)
scatter_works m k l false b a fs ts h =
    on_token m k l (is_sign t.at_sign) (scatter_rest b a fs) (scatter_plain b a fs) ts refl
    (λ us n. scatter_rest_works m k l b a fs us (omega arith)) (scatter_plain_works m k l b a fs ts h)

pub some_items_work : (k : FaultKind) (l : ℕ) (c b : Bool) (a : Allowed) (fs : Frames some_items_read) (ts : List Placed)
    → Does (3 + frames_work fs + 10 * length ts) (bad_at k l) (item_by c b a fs ts) (item_by c b a fs (ts ++ bad_at k l ∷ []))
some_items_work k l true b a fs ts = list_works _ k l a.as_scatter b a fs ts (omega arith)
some_items_work k l false b a fs ts =
    on_token _ k l (is_sign t.question) (optional_item b a fs) (scatter_unless a.has_rest b a fs) ts refl
    (λ us n. optional_works _ k l b a fs us (omega arith)) (scatter_works _ k l a.has_rest b a fs ts (omega arith))
