-- Items by their first tokens: each move over frames keeps what they mean.
use Rattle.std.proofs.Common.{◌≡◌, ℕ, ◌<◌, Bool, true, false, List, ◌∷◌, length, ap, ◌∙◌, arith}
use Rattle.spec_program.specs.Tokens as t
use Rattle.spec_program.specs.Tokens.{Placed}
use Rattle.spec_program.specs.Reading.{Read}
use Rattle.spec_program.specs.ReadExpressions as by
use Rattle.spec_program.specs.ReadExpressions.{FoundItems, Allowed, items_from, expression}
use Rattle.spec_program.specs.Frames as f
use Rattle.spec_program.specs.Frames.{some_items_read, Frames, push, means}
use Rattle.spec_program.specs.Moves.{at}
use Rattle.spec_program.specs.ItemChoices.{goes_on, ListItemsHold, ScatterItemsHold}
use Rattle.spec_program.proofs.MovesHold.{items_again, pushed}

begun : (n : ℕ) (b : Bool) (a : Allowed) (c : Bool) (us : List Placed) → length us < n → a.as_list ≡ c
    → items_from n (expression n) b a us ≡ by.item_by c (expression n) b (items_from n (expression n) b) a us
begun n b a c us h e = items_again n b a us h ∙ ap (λ d. by.item_by d (expression n) b (items_from n (expression n) b) a us) e

chosen : (f g : List Placed → Read FoundItems) (c d : Bool) (ts us : List Placed) → c ≡ d → by.bare_or_not c f g ts us ≡ by.bare_or_not d f g ts us
chosen f g c d ts us e = ap (λ x. by.bare_or_not x f g ts us) e

pub list_items : ListItemsHold
list_items n b a l m x ts fs h e =
    record {
      bare = λ d. ap (λ r. means n fs r) (word_first ∙ chosen bared plain (by.ends_item ts) true ts (at l (t.word x) ∷ ts) d);
      other = λ d.
          ap (λ r. means n fs r) (word_first ∙ chosen bared plain (by.ends_item ts) false ts (at l (t.word x) ∷ ts) d)
          ∙ pushed n (f.item_expression b a false) fs (expression n b 0 (at l (t.word x) ∷ ts));
      bare_rest = λ d. ap (λ r. means n fs r) (rest_first ∙ chosen rested spliced (by.ends_item ts) true ts (at m (t.word x) ∷ ts) d);
      other_rest = λ d.
          ap (λ r. means n fs r) (rest_first ∙ chosen rested spliced (by.ends_item ts) false ts (at m (t.word x) ∷ ts) d)
          ∙ pushed n (f.item_expression b a true) fs (expression n b 0 (at m (t.word x) ∷ ts));
    }
  where
    bared : List Placed → Read FoundItems
    bared us = goes_on n b a (f.bare x l) us

    plain : List Placed → Read FoundItems
    plain us = by.expression_item (expression n) b (items_from n (expression n) b) a false us

    rested : List Placed → Read FoundItems
    rested us = goes_on n b (by.rest_allowed a) (f.bare_rest x m) us

    spliced : List Placed → Read FoundItems
    spliced us = by.expression_item (expression n) b (items_from n (expression n) b) a true us

    word_first : items_from n (expression n) b a (at l (t.word x) ∷ ts) ≡ by.bare_or_not (by.ends_item ts) bared plain ts (at l (t.word x) ∷ ts)
    word_first = begun n b a true (at l (t.word x) ∷ ts) (omega (arith, h)) e

    rest_first : items_from n (expression n) b a (at l (t.sign t.at_sign) ∷ at m (t.word x) ∷ ts) ≡ by.bare_or_not (by.ends_item ts) rested spliced ts (at m (t.word x) ∷ ts)
    rest_first = begun n b a true (at l (t.sign t.at_sign) ∷ at m (t.word x) ∷ ts) h e

pub scatter_items : ScatterItemsHold
scatter_items n b a l m x ts fs h e =
    record {
      bare = ap (λ r. means n fs r) (begun n b a false (at l (t.word x) ∷ ts) (omega (arith, h)) e);
      rest = λ d.
          ap (λ r. means n fs r)
          (begun n b a false (at l (t.sign t.at_sign) ∷ at m (t.word x) ∷ ts) h e
          ∙ ap (λ c. by.scatter_rest (items_from n (expression n) b) a c (at m (t.word x) ∷ ts) (at l (t.sign t.at_sign) ∷ at m (t.word x) ∷ ts)) d);
    }
