-- To reach along an outline is to go down the layout.
use Rattle.std.proofs.Common.{◌≡◌, ℕ, zero, suc, ◌+◌, Bool, List, [], ◌∷◌, ◌++◌, Option, Some, None, length, refl, ap, sym, ◌∙◌, arith}
use Rattle.spec_program.specs.Tree.{Program}
use Rattle.moo_code.specs.Layout.{Layout, stop, own, inner, gap, Link, front, reception_size, size, entry, link_at, chunk, whole_layout}
use Rattle.moo_code.specs.Stands.{front_of, link_of, part_of}
use Rattle.moo_program.specs.Drafting.{count}
use Rattle.moo_program.specs.Outline.{receives, outline_of}
use Rattle.moo_program.specs.declared.outline.Step.{Step}
use Rattle.moo_program.specs.declared.outline.Step.TheVariants.{Own, Part, Close, Gap}
use Rattle.moo_places.specs.Seeking.{one_if}
use Rattle.moo_places.specs.Reaching.{last_from, in_chunk, last_at_path, closed, reach}
use Rattle.moo_places.proofs.Sought.{steps_in, steps_count, steps_of_inner, size_of_reception, outline_is}

-- how many parts beyond a layout's own
abbrev pub beyond : ℕ → Layout → Option ℕ
beyond n stop = Some n
beyond n (own op ns l) = beyond n l
beyond zero (inner k a l) = None
beyond (suc n) (inner k a l) = beyond n l
beyond zero (gap l) = None
beyond (suc n) (gap l) = beyond n l

abbrev pub part_or : Option ℕ → Option ℕ → (ℕ → Option ℕ) → Option ℕ
part_or None here go = here
part_or (Some m) here go = go m

no_chunk : (n m : ℕ) (l : Layout) → beyond n l ≡ Some m → chunk n l ≡ None
no_chunk n m stop e = refl
no_chunk n m (own op ns l) e = no_chunk n m l e
no_chunk zero m (inner k a l) e = absurd (cc)
no_chunk (suc n) m (inner k a l) e = no_chunk n m l e
no_chunk zero m (gap l) e = absurd (cc)
no_chunk (suc n) m (gap l) e = no_chunk n m l e

-- no part has the number 0
no_zero : (ss : List Step) (path : List ℕ) (b : ℕ) → reach ss zero zero path b ≡ None
no_zero [] path b = refl
no_zero (Own ∷ ss) path b = no_zero ss path (suc b)
no_zero (Part o c m ∷ ss) path b = refl
no_zero (Close r ∷ ss) path b = refl
no_zero (Gap ∷ ss) path b = refl

passed : (xs ss : List Step) (n : ℕ) (path : List ℕ) (b : ℕ) → reach (xs ++ ss) (suc (length xs)) n path b ≡ reach ss (suc zero) n path b
passed [] ss n path b = refl
passed (x ∷ xs) ss n path b = passed xs ss n path b

behind_part : (a : Layout) (r : Bool) (ss : List Step) (n : ℕ) (path : List ℕ) (b : ℕ)
    → reach (steps_in a ++ Close r ∷ ss) (suc (count a)) n path b ≡ reach ss zero n path (b + one_if r)
behind_part a r ss n path b = ap (λ c. reach (steps_in a ++ Close r ∷ ss) (suc c) n path b) (sym (steps_count a)) ∙ passed (steps_in a) (Close r ∷ ss) n path b

abbrev here : ℕ → List ℕ → ℕ → Layout → Option ℕ
here n path b l = in_chunk (chunk n l) (λ a. last_at_path path (b + (entry (suc n) l + front_of (link_at n l))) a)

abbrev Reached : Layout → List Step → ℕ → List ℕ → ℕ → Type 0
Reached l ss n path b = reach (steps_in l ++ ss) zero (suc n) path b ≡ part_or (beyond n l) (here n path b l) (λ m. reach ss zero (suc m) path (b + size l))

pub reached : (l : Layout) (ss : List Step) (n : ℕ) (path : List ℕ) (b : ℕ) → Reached l ss n path b
reached stop ss n path b = let z : b ≡ b + 0 = omega arith in ap (λ b. reach ss zero (suc n) path b) z
reached (own op ns l) ss n path b =
    let y : suc b + (entry (suc n) l + front_of (link_at n l)) ≡ b + (suc (entry (suc n) l) + front_of (link_at n l)) = omega arith in
    let z : suc b + size l ≡ b + suc (size l) = omega arith in
    reached l ss n path (suc b) ∙ ap (λ y. part_or (beyond n l) (in_chunk (chunk n l) (λ a. last_at_path path y a)) (λ m. reach ss zero (suc m) path (suc b + size l))) y
    ∙ ap (λ z. part_or (beyond n l) (here n path b (own op ns l)) (λ m. reach ss zero (suc m) path z)) z
reached (gap l) ss zero path b = refl
reached (gap l) ss (suc n) path b = reached l ss n path b
reached (inner k a l) ss zero [] b =
    let z : b + front k ≡ b + (0 + front k) = omega arith in
    ap (λ xs. reach xs zero 1 [] b) (steps_of_inner k a l ss) ∙ ap (λ b. last_from b (size a)) z
reached (inner k a l) ss zero (zero ∷ path) b =
    ap (λ xs. reach xs zero 1 (zero ∷ path) b) (steps_of_inner k a l ss) ∙ no_zero (steps_in a ++ Close (receives k.reception) ∷ (steps_in l ++ ss)) path (b + front k)
reached (inner k a l) ss zero (suc j ∷ path) b =
    let z : b + front k ≡ b + (0 + front k) = omega arith in
    ap (λ xs. reach xs zero 1 (suc j ∷ path) b) (steps_of_inner k a l ss)
    ∙ ap (λ b. reach (steps_in a ++ Close (receives k.reception) ∷ (steps_in l ++ ss)) zero (suc j) path b) z
    ∙ reached a (Close (receives k.reception) ∷ (steps_in l ++ ss)) j path (b + (0 + front k)) ∙ inside (beyond j a) refl
  where
    inside : (r : Option ℕ) → beyond j a ≡ r
        → part_or r (here j path (b + (0 + front k)) a) (λ m. reach (Close (receives k.reception) ∷ (steps_in l ++ ss)) zero (suc m) path (b + (0 + front k) + size a)) ≡ here j path (b + (0 + front k)) a
    inside None e = refl
    inside (Some m) e = sym (ap (λ c. in_chunk c (λ d. last_at_path path (b + (0 + front k) + (entry (suc j) a + front_of (link_at j a))) d)) (no_chunk j m a e))
reached (inner k a l) ss (suc n) path b =
    let c = b + front k + size a in
    let d = c + one_if (receives k.reception) in
    let s = size_of_reception k.reception in
    let y : d + (entry (suc n) l + front_of (link_at n l)) ≡ b + (front k + (size a + (reception_size k.reception + entry (suc n) l)) + front_of (link_at n l)) = omega (arith, s) in
    let z : d + size l ≡ b + (front k + (size a + (reception_size k.reception + size l))) = omega (arith, s) in
    ap (λ xs. reach xs zero (suc (suc n)) path b) (steps_of_inner k a l ss) ∙ behind_part a (receives k.reception) (steps_in l ++ ss) (suc n) path c
    ∙ reached l ss n path d ∙ ap (λ y. part_or (beyond n l) (in_chunk (chunk n l) (λ a. last_at_path path y a)) (λ m. reach ss zero (suc m) path (d + size l))) y
    ∙ ap (λ z. part_or (beyond n l) (here (suc n) path b (inner k a l)) (λ m. reach ss zero (suc m) path z)) z

pub is_reached : (p : Program) (n : ℕ) (path : List ℕ) → reach (outline_of p) zero n path 0 ≡ last_at_path (n ∷ path) 0 (whole_layout p)
is_reached p zero path = no_zero (outline_of p) path 0
is_reached p (suc n) path =
    ap (λ ss. reach ss zero (suc n) path 0) (outline_is p) ∙ reached (whole_layout p) [] n path 0 ∙ within (beyond n (whole_layout p)) refl
  where
    within : (r : Option ℕ) → beyond n (whole_layout p) ≡ r → part_or r (here n path 0 (whole_layout p)) (λ m. reach [] zero (suc m) path (0 + size (whole_layout p))) ≡ here n path 0 (whole_layout p)
    within None e = refl
    within (Some m) e =
        sym (ap (λ c. in_chunk c (λ d. last_at_path path (0 + (entry (suc n) (whole_layout p) + front_of (link_at n (whole_layout p)))) d)) (no_chunk n m (whole_layout p) e))
