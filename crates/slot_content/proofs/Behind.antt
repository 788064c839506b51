-- What stands behind a text that has several parts.
use Rattle.std.proofs.Common.{◌≡◌, ℕ, ◌+◌, ◌<◌, ◌≤◌, List, ◌∷◌, ◌++◌, length, get_or, drop, Option, Some, None, ap, sym, ◌∙◌, add-one, append_assoc}
use Rattle.std.specs.Borrow.{Bor}
use Rattle.std.proofs.Math.ListN.{drop_of_length-le}
use Rattle.std.proofs.Math.Seq.{drop-cons}
use Rattle.std.proofs.lemmas.List.{append_cancel_left}
use Rattle.spec_value.specs.Datum.{Text, Datum, of_list}
use Rattle.spec_value.specs.Literal.{literal, more_text, escaped}
use Rattle.slot_content.specs.Spells.{IsBehind}

-- behind the first stands what begins with the second
pub behind_both : (t a b r : Text) (o : Option (Bor Text)) → t ≡ a ++ r → IsBehind r b o → IsBehind t (a ++ b) o
behind_both t a b r None first none = λ rest e. none rest (append_cancel_left a r (b ++ rest) (sym first ∙ e ∙ append_assoc a b rest))
behind_both t a b r (Some x) first second = first ∙ ap (λ s. a ++ s) second ∙ sym (append_assoc a b x.now)

-- what is said of a rest of the work says it of the whole
abbrev pub Leads : Text → Text → Text → Text → Type 0
Leads rest front t whole = (o : Option (Bor Text)) → IsBehind rest front o → IsBehind t whole o

pub more_items : (ds : List Datum) (i : ℕ) (d : Datum) → i < length ds
    → more_text (of_list (drop i ds)) ≡ (44 ∷ 32 ∷ literal (get_or ds i d)) ++ more_text (of_list (drop (i + 1) ds))
more_items ds i d inside = rw add-one (ap (λ rest. more_text (of_list rest)) (drop-cons ds i d inside))

pub no_more_items : (ds : List Datum) (i : ℕ) (t : Text) → length ds ≤ i → t ≡ more_text (of_list (drop i ds)) ++ t
no_more_items ds i t past = ap (λ us. more_text (of_list us) ++ t) (sym (drop_of_length-le ds past))

pub no_more_escaped : (cs : Text) (i : ℕ) (t : Text) → length cs ≤ i → t ≡ escaped (drop i cs) ++ t
no_more_escaped cs i t past = ap (λ us. escaped us ++ t) (sym (drop_of_length-le cs past))
