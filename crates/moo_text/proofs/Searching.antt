-- Steps of a replacement through a text.
use Rattle.std.proofs.Common.{◌≡◌, ℕ, zero, suc, ◌+◌, ◌-◌, ◌<◌, ◌≤◌, Bool, true, false, List, [], ◌∷◌, ◌++◌, length, drop, take, refl, ap, sym, ◌∙◌, arith, append_assoc, if◌then◌else◌, ◌&&◌}
use Rattle.std.proofs.Common.{length-drop}
use Rattle.std.proofs.lemmas.List.{drop_all, take_all, append-nil}
use Rattle.spec_value.specs.TextSearch.{same_character, begins, replaced}

replaced-drop : (cased : Bool) (t u : List ℕ) (n : ℕ) (s : List ℕ) → replaced cased t u n s ≡ replaced cased t u 0 (drop n s)
replaced-drop cased t u zero s = refl
replaced-drop cased t u (suc n) [] = refl
replaced-drop cased t u (suc n) (c ∷ s) = replaced-drop cased t u n s

pub replaced_here : (cased : Bool) (t u s : List ℕ) → 0 < length t → 0 < length s → begins cased s t ≡ true → replaced cased t u 0 s ≡ u ++ replaced cased t u 0 (drop (length t) s)
replaced_here cased [] u s h k e = absurd (omega arith)
replaced_here cased (d ∷ t) u [] h k e = absurd (omega arith)
replaced_here cased (d ∷ t) u (c ∷ s) h k e =
    ap (λ b. if b then u ++ replaced cased (d ∷ t) u (length (d ∷ t) - 1) s else c ∷ replaced cased (d ∷ t) u 0 s) e
    ∙ ap (λ x. u ++ x) (let one : length (d ∷ t) - 1 ≡ length t = omega arith in ap (λ m. replaced cased (d ∷ t) u m s) one ∙ replaced-drop cased (d ∷ t) u (length t) s)

pub replaced_on : (cased : Bool) (t u s : List ℕ) → 0 < length s → begins cased s t ≡ false → replaced cased t u 0 s ≡ take 1 s ++ replaced cased t u 0 (drop 1 s)
replaced_on cased t u [] k e = absurd (omega arith)
replaced_on cased t u (c ∷ s) k e = ap (λ b. if b then u ++ replaced cased t u (length t - 1) s else c ∷ replaced cased t u 0 s) e

pub begins_length : (cased : Bool) (s t : List ℕ) → begins cased s t ≡ true → length t ≤ length s
begins_length cased s [] e = omega arith
begins_length cased [] (d ∷ t) e = absurd (cc)
begins_length cased (c ∷ s) (d ∷ t) e = omega (arith, begins_length cased s t (second (same_character cased c d) (begins cased s t) e))
  where
    second : (a b : Bool) → (a && b) ≡ true → b ≡ true
    second true b h = h
    second false b h = absurd (cc)

drop_more : (n m : ℕ) (xs : List ℕ) → drop n (drop m xs) ≡ drop (m + n) xs
drop_more n zero xs = let e : n ≡ 0 + n = omega arith in ap (λ k. drop k xs) e
drop_more n (suc m) [] = ap (drop n) (drop_all (suc m) [] (omega arith)) ∙ drop_all n [] (omega arith) ∙ sym (drop_all (suc m + n) [] (omega arith))
drop_more n (suc m) (x ∷ xs) = let e : suc (m + n) ≡ suc m + n = omega arith in drop_more n m xs ∙ ap (λ k. drop k (x ∷ xs)) e

some_left : (s : List ℕ) (n : ℕ) → n < length s → 0 < length (drop n s)
some_left s n h = omega (arith, length-drop n s)

-- one step further, from a place on
pub replaced_at : (cased : Bool) (s t u out : List ℕ) (n : ℕ) → 0 < length t → n < length s → begins cased (drop n s) t ≡ true → (out ++ u) ++ replaced cased t u 0 (drop (n + length t) s) ≡ out ++ replaced cased t u 0 (drop n s)
replaced_at cased s t u out n h k e =
    append_assoc out u (replaced cased t u 0 (drop (n + length t) s))
    ∙ ap (λ x. out ++ (u ++ replaced cased t u 0 x)) (sym (drop_more (length t) n s))
    ∙ ap (λ x. out ++ x) (sym (replaced_here cased t u (drop n s) h (some_left s n k) e))

-- past places at which nothing stands
over : (cased : Bool) (t u s : List ℕ) (d : ℕ) → d ≤ length s → ((k : ℕ) → k < d → begins cased (drop k s) t ≡ true → ⊥) → take d s ++ replaced cased t u 0 (drop d s) ≡ replaced cased t u 0 s
over cased t u s zero h none = refl
over cased t u [] (suc d) h none = absurd (omega arith)
over cased t u (c ∷ s) (suc d) h none =
    ap (λ x. c ∷ x) (over cased t u s d (omega arith) (λ k l. none (suc k) (omega arith)))
    ∙ sym (replaced_on cased t u (c ∷ s) (omega arith) (is_false (begins cased (c ∷ s) t) (none 0 (omega arith))))
  where
    is_false : (b : Bool) → (b ≡ true → ⊥) → b ≡ false
    is_false true h = absurd (h refl)
    is_false false h = refl

-- from one place to the next at which the text stands, and behind it
pub replaced_next : (cased : Bool) (s t u out : List ℕ) (n next : ℕ) → 0 < length t → n ≤ next → next + length t ≤ length s → begins cased (drop next s) t ≡ true → ((k : ℕ) → n ≤ k → k < next → begins cased (drop k s) t ≡ true → ⊥) → ((out ++ take (next - n) (drop n s)) ++ u) ++ replaced cased t u 0 (drop (next + length t) s) ≡ out ++ replaced cased t u 0 (drop n s)
replaced_next cased s t u out n next h low high here none =
    let passed = take (next - n) (drop n s) in
    let place : n + (next - n) ≡ next = omega arith in
    replaced_at cased s t u (out ++ passed) next h (omega arith) here
    ∙ append_assoc out passed (replaced cased t u 0 (drop next s))
    ∙ ap (λ x. out ++ (passed ++ replaced cased t u 0 x)) (ap (λ k. drop k s) (sym place) ∙ sym (drop_more (next - n) n s))
    ∙ ap (λ x. out ++ x) (over cased t u (drop n s) (next - n) (omega (arith, length-drop n s))
    (λ k l b. none (n + k) (omega arith) (omega arith) (ap (λ x. begins cased x t) (sym (drop_more k n s)) ∙ b)))

-- and what is left where it stands no more
pub replaced_rest : (cased : Bool) (s t u out : List ℕ) (n : ℕ) → n ≤ length s → ((k : ℕ) → n ≤ k → k ≤ length s → begins cased (drop k s) t ≡ true → ⊥) → out ++ drop n s ≡ out ++ replaced cased t u 0 (drop n s)
replaced_rest cased s t u out n h none =
    let rest = drop n s in
    ap (λ x. out ++ x)
    (sym (append-nil rest) ∙ ap (λ x. x ++ replaced cased t u 0 []) (sym (take_all (length rest) rest (omega arith)))
    ∙ ap (λ x. take (length rest) rest ++ replaced cased t u 0 x) (sym (drop_all (length rest) rest (omega arith)))
    ∙ over cased t u rest (length rest) (omega arith)
    (λ k l b. none (n + k) (omega arith) (omega (arith, length-drop n s)) (ap (λ x. begins cased x t) (sym (drop_more k n s)) ∙ b)))
