-- Variables that are lent, as a table.
use Rattle.std.proofs.Common.{◌≡◌, ℕ, suc, ◌+◌, ◌<◌, ◌≤◌, List, [], ◌∷◌, ◌++◌, length, Option, Some, None, refl, sym, ap, ◌∙◌, cond, get_or, take, drop, ◌⊎◌, inl, inr, arith, nat_cmp, Less, Equal, Greater}
use Rattle.std.specs.Prelude.{slice_get}
use Rattle.std.proofs.Math.Seq.{drop-cons}
use Rattle.std.proofs.lemmas.Option.{slice_get-get_or}
use Rattle.std.proofs.Math.ListN.{set}
use Rattle.std.proofs.lemmas.List.{map-append, take-map, drop-map, drop_all, length-map, get_or-map}
use Rattle.std.specs.Cmp.Lexicographic.{slice_cmp}
use Rattle.spec_value.specs.Datum.{Datum, Text}
use Rattle.spec_value.specs.Table.{Named, with_name}
use Rattle.spec_world.specs.WellFormed.{has_name}
use Rattle.moo_code.specs.Slots.{others, variables_over, in_slot}
use Rattle.checkpoint_text.specs.CheckpointFramesLines.{lent_variable, lent_variables, with_value}
use Rattle.checkpoint_text.specs.declared.checkpoint_frames.lent.Lent.{Lent}
use Rattle.checkpoint_text.proofs.Spots.{Behind, comes_behind, comes_before, stands_there, comes_last}

pub one_inserted : (es : List Lent) (i : ℕ) (e : Lent) → lent_variables (take i es ++ e ∷ drop i es) ≡ take i (lent_variables es) ++ lent_variable e ∷ drop i (lent_variables es)
one_inserted es i e =
    map-append lent_variable (take i es) (e ∷ drop i es)
    ∙ (λ j. sym (take-map lent_variable i es) j ++ lent_variable e ∷ sym (drop-map lent_variable i es) j)

-- ---- where a variable stands

module _ (es : List Lent) (k : Text) (v : Datum) where
  module _ (i : ℕ) (e : Lent) (inside : i < length es) (is : e ≡ get_or es i e) where
    within : i < length (lent_variables es)
    within = omega (arith, length-map es lent_variable)

    there : lent_variable e ≡ get_or (lent_variables es) i (lent_variable e)
    there = ap lent_variable is ∙ sym (get_or-map lent_variable es i e (lent_variable e) inside)

    pub lent_behind : slice_cmp nat_cmp k e.name.now ≡ Greater → Behind (lent_variables es) k v i → Behind (lent_variables es) k v (i + 1)
    lent_behind order so_far = comes_behind (lent_variables es) k v i (lent_variable e) within there order so_far

    pub lent_before : slice_cmp nat_cmp k e.name.now ≡ Less → Behind (lent_variables es) k v i
        → with_name (lent_variables es) k v ≡ take i (lent_variables es) ++ (k, v) ∷ drop i (lent_variables es)
    lent_before order so_far = comes_before (lent_variables es) k v i (lent_variable e) within there order so_far

    pub lent_there : slice_cmp nat_cmp k e.name.now ≡ Equal → Behind (lent_variables es) k v i → with_name (lent_variables es) k v ≡ set (lent_variables es) i (k, v)
    lent_there order so_far = stands_there (lent_variables es) k v i (lent_variable e) within there order so_far

  pub lent_last : (i : ℕ) → length es ≤ i → Behind (lent_variables es) k v i
      → with_name (lent_variables es) k v ≡ take (length es) (lent_variables es) ++ (k, v) ∷ drop (length es) (lent_variables es)
  lent_last i past so_far =
      comes_last (lent_variables es) k v i (length es) (omega (arith, length-map es lent_variable)) (omega (arith, length-map es lent_variable)) so_far

-- ---- variables without slots

-- one variable more before the others
pub other_more : (names : List Text) (es : List (Text × Datum)) (i left : ℕ) (e : Text × Datum) (old new : Named Datum) → left ≡ suc i → i < length es → e ≡ get_or es i e
    → new ≡ cond (has_name names e.0) old (with_name old e.0 e.1) → old ≡ others names (drop left es) → new ≡ others names (drop i es)
other_more names es i left e old new next inside is put so_far =
    let before : old ≡ others names (drop (suc i) es) = so_far ∙ ap (λ n. others names (drop n es)) next in
    put ∙ ap (λ t. cond (has_name names e.0) t (with_name t e.0 e.1)) before
    ∙ ap (others names) (ap (λ d. d ∷ drop (suc i) es) is ∙ sym (drop-cons es i e inside))

-- ---- variables in slots

over_one : (base : Named Datum) (x : Text) (names : List Text) (o : Option Datum) (slots : List (Option Datum))
    → with_value (variables_over base names slots) x o ≡ variables_over base (x ∷ names) (o ∷ slots)
unfolding variables_over
over_one base x names None slots = refl
over_one base x names (Some v) slots = refl

pub slot_more : (base : Named Datum) (names : List Text) (slots : List (Option Datum)) (i left : ℕ) (o : Option Datum) (old new : Named Datum)
    → left ≡ suc i → i < length names → i < length slots → o ≡ in_slot (slice_get slots i) → ((x : Text) → slice_get names i ≡ Some x → new ≡ with_value old x o)
    → old ≡ variables_over base (drop left names) (drop left slots) → new ≡ variables_over base (drop i names) (drop i slots)
slot_more base names slots i left o old new next inside within value put so_far =
    let x : Text = get_or names i [] in
    let u : Option Datum = get_or slots i None in
    let before : old ≡ variables_over base (drop (suc i) names) (drop (suc i) slots) = so_far ∙ ap (λ n. variables_over base (drop n names) (drop n slots)) next in
    put x (slice_get-get_or names i [] inside) ∙ ap (λ t. with_value t x o) before
    ∙ ap (λ v. with_value (variables_over base (drop (suc i) names) (drop (suc i) slots)) x v) (value ∙ ap in_slot (slice_get-get_or slots i None within))
    ∙ over_one base x (drop (suc i) names) u (drop (suc i) slots)
    ∙ (λ j. variables_over base (sym (drop-cons names i [] inside) j) (sym (drop-cons slots i None within) j))

past_slots : (base : Named Datum) (names : List Text) → variables_over base names [] ≡ base
unfolding variables_over
past_slots base [] = refl
past_slots base (x ∷ names) = refl

past_names : (base : Named Datum) (slots : List (Option Datum)) → variables_over base [] slots ≡ base
unfolding variables_over
past_names base slots = refl

-- no name and slot is left
pub none_left : (base : Named Datum) (names : List Text) (slots : List (Option Datum)) (n : ℕ) → (length names ≤ n) ⊎ (length slots ≤ n)
    → base ≡ variables_over base (drop n names) (drop n slots)
none_left base names slots n (inl past) = sym (ap (λ ns. variables_over base ns (drop n slots)) (drop_all n names past) ∙ past_names base (drop n slots))
none_left base names slots n (inr past) = sym (ap (λ ss. variables_over base (drop n names) ss) (drop_all n slots past) ∙ past_slots base (drop n names))
