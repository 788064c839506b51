-- Which item stands within braces: moves over frames by its first tokens, where a list is possible and where only a scatter is.
use Rattle.std.specs.Prelude.{ℕ, suc, ◌<◌, ◌≡◌, Bool, true, false, List, ◌∷◌, length}
use Rattle.spec_value.specs.Datum.{Text}
use Rattle.spec_program.specs.Tokens as t
use Rattle.spec_program.specs.Tokens.{Placed}
use Rattle.spec_program.specs.Reading.{Read}
use Rattle.spec_program.specs.ReadExpressions as by
use Rattle.spec_program.specs.ReadExpressions.{FoundItems, Allowed, items_from, expression}
use Rattle.spec_program.specs.Frames as f
use Rattle.spec_program.specs.Frames.{some_items_read, Frames, push, means}
use Rattle.spec_program.specs.Moves.{at}

-- behind an item
abbrev pub goes_on : ℕ → Bool → Allowed → f.Item → List Placed → Read FoundItems
goes_on n b a i ts = by.and_items (items_from n (expression n) b) a (f.with_item i) ts

pub record ListItems (n : ℕ) (b : Bool) (a : Allowed) (l m : ℕ) (x : Text) (ts : List Placed) (fs : Frames some_items_read) : Type 0 where
  pub bare :
      by.ends_item ts ≡ true → means n fs (items_from n (expression n) b a (at l (t.word x) ∷ ts)) ≡ means n fs (goes_on n b a (f.bare x l) ts)
  pub other :
      by.ends_item ts ≡ false
      → means n fs (items_from n (expression n) b a (at l (t.word x) ∷ ts)) ≡ means n (push (f.item_expression b a false) fs) (expression n b 0 (at l (t.word x) ∷ ts))
  pub bare_rest :
      by.ends_item ts ≡ true
      → means n fs (items_from n (expression n) b a (at l (t.sign t.at_sign) ∷ at m (t.word x) ∷ ts)) ≡ means n fs (goes_on n b (by.rest_allowed a) (f.bare_rest x m) ts)
  pub other_rest :
      by.ends_item ts ≡ false
      → means n fs (items_from n (expression n) b a (at l (t.sign t.at_sign) ∷ at m (t.word x) ∷ ts))
      ≡ means n (push (f.item_expression b a true) fs) (expression n b 0 (at m (t.word x) ∷ ts))

pub record ScatterItems (n : ℕ) (b : Bool) (a : Allowed) (l m : ℕ) (x : Text) (ts : List Placed) (fs : Frames some_items_read) : Type 0 where
  pub bare : means n fs (items_from n (expression n) b a (at l (t.word x) ∷ ts)) ≡ means n fs (goes_on n b a (f.bare x l) ts)
  pub rest :
      a.has_rest ≡ false
      → means n fs (items_from n (expression n) b a (at l (t.sign t.at_sign) ∷ at m (t.word x) ∷ ts))
      ≡ means n fs (goes_on n b (record a { has_rest = true }) (f.bare_rest x m) ts)

abbrev pub ListItemsHold : Type 0
ListItemsHold =
    (n : ℕ) (b : Bool) (a : Allowed) (l m : ℕ) (x : Text) (ts : List Placed) (fs : Frames some_items_read)
    → suc (suc (length ts)) < n → a.as_list ≡ true → ListItems n b a l m x ts fs

abbrev pub ScatterItemsHold : Type 0
ScatterItemsHold =
    (n : ℕ) (b : Bool) (a : Allowed) (l m : ℕ) (x : Text) (ts : List Placed) (fs : Frames some_items_read)
    → suc (suc (length ts)) < n → a.as_list ≡ false → ScatterItems n b a l m x ts fs
