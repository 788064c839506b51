-- Lists in a strictly rising order: an item comes or goes, and they are walked.
use Rattle.std.proofs.Common.{◌≡◌, Bool, true, false, not, List, [], ◌∷◌, Some, None, cond, is_eq, refl, sym, ◌∙◌, ap, subst, Ordering, Less, Equal, Greater}
use Rattle.std.specs.Prelude.{filter}
use Rattle.std.specs.List.{AllByRecursion}
use Rattle.std.specs.List.Sorted.{IsStrictlySortedBy}
use Rattle.std.specs.Ordering.{eq_by_cmp, is_lt, is_le, ordering_reverse}
use Rattle.std.specs.Cmp.{IsTotalOrder, tied_itself}
use Rattle.std.specs.FinMap.{IsAntisymmetric}
use Rattle.std.specs.FinMap.Entries.{by_order}
use Rattle.due_table.specs.Order.{with_item, without_item, first_item_from}

module _ {K : Type 0} {R : K → K → Ordering} (o : IsTotalOrder R) (exact : IsAntisymmetric R) where
  abbrev pub IsBefore : K → List K → Type 0
  IsBefore k js = AllByRecursion (λ j. R k j ≡ Less) js

  above : (i k : K) → R i k ≡ Less → R k i ≡ Greater
  above i k e = o.antisymm k i ∙ ap ordering_reverse e

  below : (i k : K) → R i k ≡ Greater → R k i ≡ Less
  below i k e = o.antisymm k i ∙ ap ordering_reverse e

  before_less : (i k : K) (js : List K) → R i k ≡ Less → IsBefore k js → IsBefore i js
  before_less i k [] e h = tt
  before_less i k (j ∷ js) e h = (o.trans i k j e h.0, before_less i k js e h.1)

  -- ---- one comes

  pub with_before : (k j : K) (js : List K) → R k j ≡ Less → with_item R k (j ∷ js) ≡ k ∷ j ∷ js
  with_before k j js e = ap (λ r. by_order r (k ∷ j ∷ js) (j ∷ js) (j ∷ with_item R k js)) e

  with_there : (k j : K) (js : List K) → R k j ≡ Equal → with_item R k (j ∷ js) ≡ j ∷ js
  with_there k j js e = ap (λ r. by_order r (k ∷ j ∷ js) (j ∷ js) (j ∷ with_item R k js)) e

  pub with_behind : (k j : K) (js : List K) → R k j ≡ Greater → with_item R k (j ∷ js) ≡ j ∷ with_item R k js
  with_behind k j js e = ap (λ r. by_order r (k ∷ j ∷ js) (j ∷ js) (j ∷ with_item R k js)) e

  with_first : (k : K) (js : List K) → IsBefore k js → with_item R k js ≡ k ∷ js
  with_first k [] h = refl
  with_first k (j ∷ js) h = with_before k j js h.0

  before_with : (i k : K) (js : List K) → R i k ≡ Less → IsBefore i js → IsBefore i (with_item R k js)
  before_with i k [] e h = (e, tt)
  before_with i k (j ∷ js) e h = go (R k j) (before_with i k js e h.1)
    where
      go : (r : Ordering) → IsBefore i (with_item R k js) → IsBefore i (by_order r (k ∷ j ∷ js) (j ∷ js) (j ∷ with_item R k js))
      go Less rest = (e, h)
      go Equal rest = h
      go Greater rest = (h.0, rest)

  pub sorted_with : (k : K) (js : List K) → IsStrictlySortedBy R js → IsStrictlySortedBy R (with_item R k js)
  unfolding IsStrictlySortedBy
  sorted_with k [] h = (tt, tt)
  sorted_with k (j ∷ js) h = go (R k j) refl (sorted_with k js h.1)
    where
      go : (r : Ordering) → R k j ≡ r → IsStrictlySortedBy R (with_item R k js) → IsStrictlySortedBy R (by_order r (k ∷ j ∷ js) (j ∷ js) (j ∷ with_item R k js))
      go Less e rest = ((e, before_less k j js e h.0), h)
      go Equal e rest = h
      go Greater e rest = (before_with j k js (below k j e) h.0, rest)

  -- two come

  before_both : (i k j : K) (js : List K) → R i k ≡ Less → R i j ≡ Less → with_item R i (with_item R k (j ∷ js)) ≡ i ∷ with_item R k (j ∷ js)
  before_both i k j js ik ij = go (R k j)
    where
      go : (r : Ordering) → with_item R i (by_order r (k ∷ j ∷ js) (j ∷ js) (j ∷ with_item R k js)) ≡ i ∷ by_order r (k ∷ j ∷ js) (j ∷ js) (j ∷ with_item R k js)
      go Less = with_before i k (j ∷ js) ik
      go Equal = with_before i j js ij
      go Greater = with_before i j (with_item R k js) ij

  lesser_with : (i k : K) (js : List K) → R i k ≡ Less → with_item R i (with_item R k js) ≡ with_item R k (with_item R i js)
  lesser_with i k [] e = with_before i k [] e ∙ sym (with_behind k i [] (above i k e))
  lesser_with i k (j ∷ js) e = go (R i j) refl (lesser_with i k js e)
    where
      go : (r : Ordering) → R i j ≡ r → with_item R i (with_item R k js) ≡ with_item R k (with_item R i js) → with_item R i (with_item R k (j ∷ js)) ≡ with_item R k (with_item R i (j ∷ js))
      go Less ij later = before_both i k j js e ij ∙ sym (with_behind k i (j ∷ js) (above i k e)) ∙ ap (with_item R k) (sym (with_before i j js ij))
      go Equal ij later =
          let kj : R k j ≡ Greater = above j k (sym (o.congr i j k ij) ∙ e) in
          ap (with_item R i) (with_behind k j js kj) ∙ with_there i j (with_item R k js) ij ∙ sym (with_behind k j js kj) ∙ ap (with_item R k) (sym (with_there i j js ij))
      go Greater ij later =
          let kj : R k j ≡ Greater = above j k (o.trans j i k (below i j ij) e) in
          ap (with_item R i) (with_behind k j js kj) ∙ with_behind i j (with_item R k js) ij ∙ ap (λ xs. j ∷ xs) later ∙ sym (with_behind k j (with_item R i js) kj)
          ∙ ap (with_item R k) (sym (with_behind i j js ij))

  pub with_with : (i k : K) (js : List K) → eq_by_cmp R i k ≡ false → with_item R i (with_item R k js) ≡ with_item R k (with_item R i js)
  with_with i k js other = go (R i k) refl other
    where
      go : (r : Ordering) → R i k ≡ r → is_eq r ≡ false → with_item R i (with_item R k js) ≡ with_item R k (with_item R i js)
      go Less e h = lesser_with i k js e
      go Equal e h = cc
      go Greater e h = sym (lesser_with k i js (below i k e))

  -- ---- one goes

  kept : (i j : K) (js : List K) → eq_by_cmp R i j ≡ false → without_item R i (j ∷ js) ≡ j ∷ without_item R i js
  kept i j js e = ap (λ b. cond (not b) (j ∷ without_item R i js) (without_item R i js)) e

  gone : (i j : K) (js : List K) → eq_by_cmp R i j ≡ true → without_item R i (j ∷ js) ≡ without_item R i js
  gone i j js e = ap (λ b. cond (not b) (j ∷ without_item R i js) (without_item R i js)) e

  before_without : (i k : K) (js : List K) → IsBefore k js → IsBefore k (without_item R i js)
  before_without i k [] h = tt
  before_without i k (j ∷ js) h = go (not (eq_by_cmp R i j)) (before_without i k js h.1)
    where
      go : (b : Bool) → IsBefore k (without_item R i js) → IsBefore k (cond b (j ∷ without_item R i js) (without_item R i js))
      go true rest = (h.0, rest)
      go false rest = rest

  pub without_with : (i k : K) (js : List K) → eq_by_cmp R i k ≡ false → IsStrictlySortedBy R js → without_item R i (with_item R k js) ≡ with_item R k (without_item R i js)
  unfolding IsStrictlySortedBy
  without_with i k [] other h = kept i k [] other
  without_with i k (j ∷ js) other h = go (R k j) refl (without_with i k js other h.1)
    where
      behind_it : R k j ≡ Greater → without_item R i (with_item R k js) ≡ with_item R k (without_item R i js) → (b : Bool) → eq_by_cmp R i j ≡ b
          → without_item R i (j ∷ with_item R k js) ≡ with_item R k (without_item R i (j ∷ js))
      behind_it kj later true t = gone i j (with_item R k js) t ∙ later ∙ ap (with_item R k) (sym (gone i j js t))
      behind_it kj later false t = kept i j (with_item R k js) t ∙ ap (λ xs. j ∷ xs) later ∙ sym (with_behind k j (without_item R i js) kj) ∙ ap (with_item R k) (sym (kept i j js t))

      go : (r : Ordering) → R k j ≡ r → without_item R i (with_item R k js) ≡ with_item R k (without_item R i js) → without_item R i (with_item R k (j ∷ js)) ≡ with_item R k (without_item R i (j ∷ js))
      go Less kj later =
          ap (without_item R i) (with_before k j js kj) ∙ kept i k (j ∷ js) other ∙ sym (with_first k (without_item R i (j ∷ js)) (before_without i k (j ∷ js) (kj, before_less k j js kj h.0)))
      go Equal kj later =
          let ij : eq_by_cmp R i j ≡ false = ap (eq_by_cmp R i) (sym (exact k j kj)) ∙ other in
          ap (without_item R i) (with_there k j js kj) ∙ kept i j js ij ∙ sym (with_there k j (without_item R i js) kj) ∙ ap (with_item R k) (sym (kept i j js ij))
      go Greater kj later = ap (without_item R i) (with_behind k j js kj) ∙ behind_it kj later (eq_by_cmp R i j) refl

  -- one that is not there

  abbrev pub IsNone : K → List K → Type 0
  IsNone k js = AllByRecursion (λ j. eq_by_cmp R k j ≡ false) js

  pub none_goes : (k : K) (js : List K) → IsNone k js → without_item R k js ≡ js
  none_goes k [] h = refl
  none_goes k (j ∷ js) h = kept k j js h.0 ∙ ap (λ xs. j ∷ xs) (none_goes k js h.1)

  pub comes_and_goes : (k : K) (js : List K) → IsNone k js → without_item R k (with_item R k js) ≡ js
  comes_and_goes k [] h = gone k k [] (ap is_eq (tied_itself o k))
  comes_and_goes k (j ∷ js) h = go (R k j) refl (comes_and_goes k js h.1)
    where
      go : (r : Ordering) → R k j ≡ r → without_item R k (with_item R k js) ≡ js → without_item R k (with_item R k (j ∷ js)) ≡ j ∷ js
      go Less e later = ap (without_item R k) (with_before k j js e) ∙ gone k k (j ∷ js) (ap is_eq (tied_itself o k)) ∙ none_goes k (j ∷ js) h
      go Equal e later = let t : true ≡ false = ap is_eq (sym e) ∙ h.0 in cc
      go Greater e later = ap (without_item R k) (with_behind k j js e) ∙ kept k j (with_item R k js) h.0 ∙ ap (λ xs. j ∷ xs) later

  -- ---- a walk

  -- this one and those behind it
  abbrev pub from : K → List K → List K
  from k js = filter (λ j. is_le (R k j)) js

  abbrev pub behind : K → List K → List K
  behind k js = filter (λ j. is_lt (R k j)) js

  pub none_from : (k : K) (js : List K) → None ≡ first_item_from R k js → from k js ≡ []
  none_from k [] is = refl
  none_from k (j ∷ js) is = go (none_from k js) (is_le (R k j)) is
    where
      go : (None ≡ first_item_from R k js → from k js ≡ []) → (b : Bool) → None ≡ cond b (Some j) (first_item_from R k js) → cond b (j ∷ from k js) (from k js) ≡ []
      go later true h = cc
      go later false h = later h

  found_behind : (i k f : K) (js : List K) → IsBefore i js → Some f ≡ first_item_from R k js → R i f ≡ Less
  found_behind i k f [] h is = cc
  found_behind i k f (j ∷ js) h is = go (found_behind i k f js h.1) (is_le (R k j)) is
    where
      same : Some f ≡ Some j → j ≡ f
      same e = cc

      go : (Some f ≡ first_item_from R k js → R i f ≡ Less) → (b : Bool) → Some f ≡ cond b (Some j) (first_item_from R k js) → R i f ≡ Less
      go later true t = subst (λ x. R i x ≡ Less) (same t) h.0
      go later false t = later t

  all_from : (k : K) (js : List K) → IsBefore k js → from k js ≡ js
  all_from k [] h = refl
  all_from k (j ∷ js) h = ap (λ r. cond (is_le r) (j ∷ from k js) (from k js)) h.0 ∙ ap (λ xs. j ∷ xs) (all_from k js h.1)

  all_behind : (k : K) (js : List K) → IsBefore k js → behind k js ≡ js
  all_behind k [] h = refl
  all_behind k (j ∷ js) h = ap (λ r. cond (is_lt r) (j ∷ behind k js) (behind k js)) h.0 ∙ ap (λ xs. j ∷ xs) (all_behind k js h.1)

  before_from : (k j : K) (js : List K) → is_le (R k j) ≡ true → IsBefore j js → IsBefore k js
  before_from k j js le h = go (R k j) refl le
    where
      go : (r : Ordering) → R k j ≡ r → is_le r ≡ true → IsBefore k js
      go Less e t = before_less k j js e h
      go Equal e t = subst (λ x. IsBefore x js) (sym (exact k j e)) h
      go Greater e t = cc

  pub some_from : (k f : K) (js : List K) → IsStrictlySortedBy R js → Some f ≡ first_item_from R k js → from k js ≡ f ∷ behind f js
  unfolding IsStrictlySortedBy
  some_from k f [] h is = cc
  some_from k f (j ∷ js) h is = go (some_from k f js h.1) (is_le (R k j)) refl is
    where
      same : Some f ≡ Some j → j ≡ f
      same e = cc

      own : behind j (j ∷ js) ≡ js
      own = ap (λ r. cond (is_lt r) (j ∷ behind j js) (behind j js)) (tied_itself o j) ∙ all_behind j js h.0

      go : (Some f ≡ first_item_from R k js → from k js ≡ f ∷ behind f js) → (b : Bool) → is_le (R k j) ≡ b → Some f ≡ cond b (Some j) (first_item_from R k js)
          → cond b (j ∷ from k js) (from k js) ≡ f ∷ behind f (j ∷ js)
      go later true t found = subst (λ x. j ∷ from k js ≡ x ∷ behind x (j ∷ js)) (same found) (ap (λ xs. j ∷ xs) (all_from k js (before_from k j js t h.0) ∙ sym own))
      go later false t found =
          later found ∙ ap (λ xs. f ∷ xs) (sym (ap (λ r. cond (is_lt r) (j ∷ behind f js) (behind f js)) (above j f (found_behind j k f js h.0 found))))
