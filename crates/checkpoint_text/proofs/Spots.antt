-- Where a variable of a name stands in the order, or is to stand.
use Rattle.std.proofs.Common.{◌≡◌, ℕ, suc, ◌+◌, ◌<◌, ◌≤◌, [], ◌∷◌, ◌++◌, length, sym, ◌∙◌, ap, add-one, append_assoc, get_or, take, drop, nat_cmp, Ordering, Less, Equal, Greater}
use Rattle.std.proofs.Math.ListN.{set}
use Rattle.std.proofs.Math.Seq.{drop-cons}
use Rattle.std.proofs.lemmas.List.{take_more, take_all, drop_all, set_split}
use Rattle.std.specs.Cmp.Lexicographic.{slice_cmp}
use Rattle.std.specs.FinMap.{slice_cmp-IsAntisymmetric, nat_cmp-IsAntisymmetric}
use Rattle.std.specs.FinMap.Entries.{by_order}
use Rattle.spec_value.specs.Datum.{Datum, Text}
use Rattle.spec_value.specs.Table.{Named, with_name}

module _ (es : Named Datum) (k : Text) (v : Datum) where
  -- the name comes behind the first so many
  abbrev pub Behind : ℕ → Type 0
  Behind i = with_name es k v ≡ take i es ++ with_name (drop i es) k v

  module _ (i : ℕ) (e : Text × Datum) (inside : i < length es) (is : e ≡ get_or es i e) where
    there : drop i es ≡ e ∷ drop (suc i) es
    there = drop-cons es i e inside ∙ ap (λ d. d ∷ drop (suc i) es) (sym is)

    turned : (r : Ordering) → slice_cmp nat_cmp k e.0 ≡ r → with_name (drop i es) k v ≡ by_order r ((k, v) ∷ e ∷ drop (suc i) es) ((e.0, v) ∷ drop (suc i) es) (e ∷ with_name (drop (suc i) es) k v)
    turned r order =
        ap (λ fs. with_name fs k v) there
        ∙ ap (λ o. by_order o ((k, v) ∷ e ∷ drop (suc i) es) ((e.0, v) ∷ drop (suc i) es) (e ∷ with_name (drop (suc i) es) k v)) order

    pub comes_behind : slice_cmp nat_cmp k e.0 ≡ Greater → Behind i → Behind (i + 1)
    comes_behind order so_far =
        so_far ∙ ap (λ fs. take i es ++ fs) (turned Greater order) ∙ sym (append_assoc (take i es) (e ∷ []) (with_name (drop (suc i) es) k v))
        ∙ ap (λ fs. fs ++ with_name (drop (suc i) es) k v) (ap (λ d. take i es ++ d ∷ []) is ∙ sym (take_more es i e inside))
        ∙ ap (λ n. take (i + 1) es ++ with_name (drop n es) k v) (sym (add-one i))

    pub comes_before : slice_cmp nat_cmp k e.0 ≡ Less → Behind i → with_name es k v ≡ take i es ++ (k, v) ∷ drop i es
    comes_before order so_far = so_far ∙ ap (λ fs. take i es ++ fs) (turned Less order ∙ ap (λ fs. (k, v) ∷ fs) (sym there))

    pub stands_there : slice_cmp nat_cmp k e.0 ≡ Equal → Behind i → with_name es k v ≡ set es i (k, v)
    stands_there order so_far =
        so_far ∙ ap (λ fs. take i es ++ fs) (turned Equal order)
        ∙ ap (λ (t : Text). take i es ++ (t, v) ∷ drop (suc i) es) (sym (slice_cmp-IsAntisymmetric nat_cmp-IsAntisymmetric k e.0 order))
        ∙ sym (set_split es i (k, v) inside)

  pub comes_last : (i n : ℕ) → length es ≤ i → length es ≤ n → Behind i → with_name es k v ≡ take n es ++ (k, v) ∷ drop n es
  comes_last i n past beyond so_far =
      so_far ∙ ap (λ fs. take i es ++ with_name fs k v) (drop_all i es past) ∙ ap (λ fs. fs ++ (k, v) ∷ []) (take_all i es past ∙ sym (take_all n es beyond))
      ∙ ap (λ fs. take n es ++ (k, v) ∷ fs) (sym (drop_all n es beyond))
