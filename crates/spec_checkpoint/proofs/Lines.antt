-- Each line ends at the first line end.
use Rattle.std.proofs.Common.{◌≡◌, ℕ, suc, List, [], ◌∷◌, ◌++◌, length, IsTrue, not, ◌==◌, Bool, true, refl, eq-eqb, sym, subst, ◌∙◌, arith, append_assoc}
use Rattle.std.specs.List.{list_all}
use Rattle.spec_value.specs.Datum.{Text}
use Rattle.spec_value.proofs.Entries.{first_holds, second_holds}
use Rattle.spec_world.specs.Checkpoint.{with_line_ends}
use Rattle.spec_checkpoint.specs.Lines.{is_line, are_lines, LinesReadOnce, WholeLinesReadOnce}
use Rattle.spec_checkpoint.proofs.Numbers.{head_same, tail_same}

-- up to the first such character, which stands in neither text
module _ (stop : ℕ) where
  abbrev pub is_without : Text → Bool
  is_without t = list_all (λ c. not (c == stop)) t

  no_stop : (c : ℕ) → IsTrue (not (c == stop)) → c ≡ stop → ⊥
  no_stop c h e = let k : IsTrue (not (stop == stop)) = subst (λ d. IsTrue (not (d == stop))) e h in let same : stop == stop ≡ true = eq-eqb stop stop refl in cc

  pub cut_same : (t u r s : Text) → IsTrue (is_without t) → IsTrue (is_without u) → t ++ stop ∷ r ≡ u ++ stop ∷ s → (t ≡ u) × (r ≡ s)
  cut_same [] [] r s h k e = (refl, tail_same stop stop r s e)
  cut_same [] (d ∷ u) r s h k e = absurd (no_stop d (first_holds (not (d == stop)) (is_without u) k) (sym (head_same stop d r (u ++ stop ∷ s) e)))
  cut_same (c ∷ t) [] r s h k e = absurd (no_stop c (first_holds (not (c == stop)) (is_without t) h) (head_same c stop (t ++ stop ∷ r) s e))
  cut_same (c ∷ t) (d ∷ u) r s h k e =
      let rest = cut_same t u r s (second_holds (not (c == stop)) (is_without t) h) (second_holds (not (d == stop)) (is_without u) k) (tail_same c d (t ++ stop ∷ r) (u ++ stop ∷ s) e) in
      (λ i. head_same c d (t ++ stop ∷ r) (u ++ stop ∷ s) e i ∷ rest.0 i, rest.1)

pub line_same : (t u r s : Text) → IsTrue (is_line t) → IsTrue (is_line u) → t ++ 10 ∷ r ≡ u ++ 10 ∷ s → (t ≡ u) × (r ≡ s)
line_same = cut_same 10

length_same : (m n : ℕ) → suc m ≡ suc n → m ≡ n
length_same m n e = omega (arith, e)

goes : (t : Text) (ts : List Text) (r : Text) → with_line_ends (t ∷ ts) ++ r ≡ t ++ 10 ∷ (with_line_ends ts ++ r)
goes t ts r = append_assoc t (10 ∷ with_line_ends ts) r

pub lines_read_once : LinesReadOnce
lines_read_once [] [] r s n h k e = (refl, e)
lines_read_once [] (u ∷ us) r s n h k e = absurd (omega (arith, n))
lines_read_once (t ∷ ts) [] r s n h k e = absurd (omega (arith, n))
lines_read_once (t ∷ ts) (u ∷ us) r s n h k e =
    let p = line_same t u (with_line_ends ts ++ r) (with_line_ends us ++ s) (first_holds (is_line t) (are_lines ts) h) (first_holds (is_line u) (are_lines us) k) (sym (goes t ts r) ∙ e ∙ goes u us s) in
    let q = lines_read_once ts us r s (length_same (length ts) (length us) n) (second_holds (is_line t) (are_lines ts) h) (second_holds (is_line u) (are_lines us) k) p.1 in
    (λ i. p.0 i ∷ q.0 i, q.1)

some_line : (t r : Text) → t ++ 10 ∷ r ≡ [] → ⊥
some_line [] r e = cc
some_line (c ∷ t) r e = cc

pub whole_lines_read_once : WholeLinesReadOnce
whole_lines_read_once [] [] h k e = refl
whole_lines_read_once [] (u ∷ us) h k e = absurd (some_line u (with_line_ends us) (sym e))
whole_lines_read_once (t ∷ ts) [] h k e = absurd (some_line t (with_line_ends ts) e)
whole_lines_read_once (t ∷ ts) (u ∷ us) h k e =
    let p = line_same t u (with_line_ends ts) (with_line_ends us) (first_holds (is_line t) (are_lines ts) h) (first_holds (is_line u) (are_lines us) k) e in
    let q = whole_lines_read_once ts us (second_holds (is_line t) (are_lines ts) h) (second_holds (is_line u) (are_lines us) k) p.1 in
    λ i. p.0 i ∷ q i
