-- What is chosen of a table, from one key to the next.
use Rattle.std.proofs.Common.{◌≡◌, ◌↔◌, ℕ, zero, suc, ◌+◌, ◌≤◌, List, [], ◌∷◌, ◌++◌, length, drop, Option, Some, None, IsTrue, refl, sym, ◌∙◌, ap, arith, add-one, unwrap_or}
use Rattle.std.specs.Prelude.{slice_get}
use Rattle.std.specs.Ordering.{nat_cmp}
use Rattle.std.specs.FinMap.{is_sorted}
use Rattle.world_table.specs.Entries.{first_from}
use Rattle.world.specs.Picked.{before, chosen}
use Rattle.world.proofs.Walks.{from, from_first, none_from, some_from}

module _ {X T : Type 0} (p : ℕ → X → Option T) (es : List (ℕ × X)) where
  abbrev pub left : ℕ → List T
  left k = chosen p (from k es)

  pub all_left : left 0 ≡ chosen p es
  all_left = ap (chosen p) (from_first es)

  pub nothing_left : (k : ℕ) → None ≡ first_from k es → left k ≡ []
  nothing_left k is = ap (chosen p) (none_from k es is)

  pub next_left : (k : ℕ) (f : ℕ × X) → IsTrue (is_sorted nat_cmp es) → Some f ≡ first_from k es → left k ≡ before (p f.0 f.1) (left (f.0 + 1))
  next_left k f sorted is = ap (chosen p) (some_from k es f sorted is)

  -- ---- what was gathered, before what is left

  abbrev pub Gathered : ℕ → List T → Type 0
  Gathered k ts = ts ++ left k ≡ chosen p es

  join_one : (ts us : List T) (t : T) → (ts ++ t ∷ []) ++ us ≡ ts ++ t ∷ us
  join_one [] us t = refl
  join_one (s ∷ ts) us t = ap (λ vs. s ∷ vs) (join_one ts us t)

  join_none : (ts : List T) → ts ++ [] ≡ ts
  join_none [] = refl
  join_none (t ∷ ts) = ap (λ us. t ∷ us) (join_none ts)

  pub one_gathered : (k : ℕ) (f : ℕ × X) (t : T) (ts : List T) → IsTrue (is_sorted nat_cmp es) → Some f ≡ first_from k es → Some t ≡ p f.0 f.1 → Gathered k ts → Gathered (f.0 + 1) (ts ++ t ∷ [])
  one_gathered k f t ts sorted is chose h =
      join_one ts (left (f.0 + 1)) t ∙ ap (λ o. ts ++ before o (left (f.0 + 1))) chose ∙ ap (λ us. ts ++ us) (sym (next_left k f sorted is)) ∙ h

  pub none_gathered : (k : ℕ) (f : ℕ × X) (ts : List T) → IsTrue (is_sorted nat_cmp es) → Some f ≡ first_from k es → None ≡ p f.0 f.1 → Gathered k ts → Gathered (f.0 + 1) ts
  none_gathered k f ts sorted is chose h =
      ap (λ o. ts ++ before o (left (f.0 + 1))) chose ∙ ap (λ us. ts ++ us) (sym (next_left k f sorted is)) ∙ h

  pub all_gathered : (k : ℕ) (ts : List T) → None ≡ first_from k es → Gathered k ts → ts ≡ chosen p es
  all_gathered k ts is h = sym (join_none ts) ∙ ap (λ us. ts ++ us) (sym (nothing_left k is)) ∙ h

  -- ---- what is left, beside the rest of other items

  abbrev pub Matches : ℕ → ℕ → List T → Type 0
  Matches k n xs = (chosen p es ≡ xs) ↔ (left k ≡ drop n xs)

  pub first_matches : (xs : List T) → Matches 0 0 xs
  first_matches xs = (λ e. all_left ∙ e, λ e. sym all_left ∙ e)

  drop_got : (xs : List T) (n : ℕ) (t : T) → slice_get xs n ≡ Some t → drop n xs ≡ t ∷ drop (suc n) xs
  drop_got [] n t is = cc
  drop_got (x ∷ xs) zero t is = ap (λ o. unwrap_or o x ∷ xs) is
  drop_got (x ∷ xs) (suc n) t is = drop_got xs n t is

  got_drop : (xs us : List T) (n : ℕ) (t : T) → drop n xs ≡ t ∷ us → slice_get xs n ≡ Some t
  got_drop [] us zero t is = cc
  got_drop [] us (suc n) t is = cc
  got_drop (x ∷ xs) us zero t is = cc
  got_drop (x ∷ xs) us (suc n) t is = got_drop xs us n t is

  no_more : (xs : List T) (n : ℕ) → [] ≡ drop n xs → n ≤ length xs → n ≡ length xs
  no_more [] n is le = omega arith
  no_more (x ∷ xs) zero is le = cc
  no_more (x ∷ xs) (suc n) is le = ap suc (no_more xs n is (omega arith))

  dropped_all : (xs : List T) (n : ℕ) → n ≡ length xs → drop n xs ≡ []
  dropped_all [] zero is = refl
  dropped_all [] (suc n) is = refl
  dropped_all (x ∷ xs) zero is = absurd (omega (arith, is))
  dropped_all (x ∷ xs) (suc n) is = dropped_all xs n (omega (arith, is))

  cons_parts : (t : T) (us vs : List T) → t ∷ us ≡ t ∷ vs → us ≡ vs
  cons_parts t us vs e = cc

  pub one_matches : (k n : ℕ) (f : ℕ × X) (t : T) (xs : List T) → IsTrue (is_sorted nat_cmp es) → Some f ≡ first_from k es → Some t ≡ p f.0 f.1 → slice_get xs n ≡ Some t → Matches k n xs → Matches (f.0 + 1) (n + 1) xs
  one_matches k n f t xs sorted is chose there h =
      let here : left k ≡ t ∷ left (f.0 + 1) = next_left k f sorted is ∙ ap (λ o. before o (left (f.0 + 1))) (sym chose) in
      let rest : drop n xs ≡ t ∷ drop (n + 1) xs = drop_got xs n t there ∙ ap (λ m. t ∷ drop m xs) (sym (add-one n)) in
      (λ e. cons_parts t _ _ (sym here ∙ h.0 e ∙ rest), λ e. h.1 (here ∙ ap (λ us. t ∷ us) e ∙ sym rest))

  pub none_matches : (k n : ℕ) (f : ℕ × X) (xs : List T) → IsTrue (is_sorted nat_cmp es) → Some f ≡ first_from k es → None ≡ p f.0 f.1 → Matches k n xs → Matches (f.0 + 1) n xs
  none_matches k n f xs sorted is chose h =
      let here : left k ≡ left (f.0 + 1) = next_left k f sorted is ∙ ap (λ o. before o (left (f.0 + 1))) (sym chose) in
      (λ e. sym here ∙ h.0 e, λ e. h.1 (here ∙ e))

  pub one_there : (k n : ℕ) (f : ℕ × X) (t : T) (xs : List T) → IsTrue (is_sorted nat_cmp es) → Some f ≡ first_from k es → Some t ≡ p f.0 f.1 → Matches k n xs → chosen p es ≡ xs → slice_get xs n ≡ Some t
  one_there k n f t xs sorted is chose h e =
      let here : left k ≡ t ∷ left (f.0 + 1) = next_left k f sorted is ∙ ap (λ o. before o (left (f.0 + 1))) (sym chose) in
      got_drop xs (left (f.0 + 1)) n t (sym (h.0 e) ∙ here)

  pub there_is : (n : ℕ) (t : T) (xs : List T) → slice_get xs n ≡ Some t → n + 1 ≤ length xs
  there_is n t [] is = cc
  there_is zero t (x ∷ xs) is = omega arith
  there_is (suc n) t (x ∷ xs) is = let rest : n + 1 ≤ length xs = there_is n t xs is in omega arith

  pub all_match : (k n : ℕ) (xs : List T) → None ≡ first_from k es → n ≤ length xs → Matches k n xs → ((n ≡ length xs) ↔ (chosen p es ≡ xs))
  all_match k n xs is le h = (λ e. h.1 (nothing_left k is ∙ sym (dropped_all xs n e)), λ e. no_more xs n (sym (nothing_left k is) ∙ h.0 e) le)
