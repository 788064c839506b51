-- Lists that are told in the other order.
use Rattle.std.proofs.Common.{◌≡◌, List, [], ◌∷◌, ◌++◌, map, length, IsTrue, Bool, true, refl, ap, sym, ◌∙◌, arith, append_assoc, length-append}
use Rattle.std.specs.List.{list_all}
use Rattle.std.proofs.lemmas.List.{append-nil}
use Rattle.spec_value.specs.Datum.{Text}
use Rattle.spec_value.proofs.Entries.{first_holds, second_holds, both_hold}
use Rattle.spec_checkpoint.proofs.Runs.{first_same, rest_same, each_of}

module _ {A : Type 0} where
  abbrev pub turned : List A → List A
  turned [] = []
  turned (x ∷ xs) = turned xs ++ x ∷ []

  not_empty : (xs : List A) (a : A) → [] ≡ xs ++ a ∷ [] → ⊥
  not_empty [] a e = cc
  not_empty (x ∷ xs) a e = cc

  ends_same : (xs ys : List A) (a b : A) → xs ++ a ∷ [] ≡ ys ++ b ∷ [] → (xs ≡ ys) × (a ≡ b)
  ends_same [] [] a b e = (refl, first_same a b [] [] e)
  ends_same [] (y ∷ ys) a b e = absurd (not_empty ys b (rest_same a y [] (ys ++ b ∷ []) e))
  ends_same (x ∷ xs) [] a b e = absurd (not_empty xs a (sym (rest_same x b (xs ++ a ∷ []) [] e)))
  ends_same (x ∷ xs) (y ∷ ys) a b e =
      let rest = ends_same xs ys a b (rest_same x y (xs ++ a ∷ []) (ys ++ b ∷ []) e) in
      (λ i. first_same x y (xs ++ a ∷ []) (ys ++ b ∷ []) e i ∷ rest.0 i, rest.1)

  pub turned_same : (xs ys : List A) → turned xs ≡ turned ys → xs ≡ ys
  turned_same [] [] e = refl
  turned_same [] (y ∷ ys) e = absurd (not_empty (turned ys) y e)
  turned_same (x ∷ xs) [] e = absurd (not_empty (turned xs) x (sym e))
  turned_same (x ∷ xs) (y ∷ ys) e = let p = ends_same (turned xs) (turned ys) x y e in let rest = turned_same xs ys p.0 in λ i. p.1 i ∷ rest i

  one_more : (test : A → Bool) (xs : List A) (x : A) → IsTrue (list_all test xs) → IsTrue (test x) → IsTrue (list_all test (xs ++ x ∷ []))
  one_more test [] x h k = both_hold (test x) true k refl
  one_more test (y ∷ ys) x h k = both_hold (test y) (list_all test (ys ++ x ∷ [])) (first_holds (test y) (list_all test ys) h) (one_more test ys x (second_holds (test y) (list_all test ys) h) k)

  pub turned_holds : (test : A → Bool) (xs : List A) → IsTrue (list_all test xs) → IsTrue (list_all test (turned xs))
  turned_holds test [] h = refl
  turned_holds test (x ∷ xs) h = one_more test (turned xs) x (turned_holds test xs (second_holds (test x) (list_all test xs) h)) (first_holds (test x) (list_all test xs) h)

  each_more : (lines : A → List Text) (xs : List A) (x : A) → each_of lines (xs ++ x ∷ []) ≡ each_of lines xs ++ lines x
  each_more lines [] x = append-nil (lines x)
  each_more lines (y ∷ ys) x = ap (λ ts. lines y ++ ts) (each_more lines ys x) ∙ sym (append_assoc (lines y) (each_of lines ys) (lines x))

  pub each_turned : (lines : A → List Text) (x : A) (xs : List A) → each_of lines (turned (x ∷ xs)) ≡ each_of lines (turned xs) ++ lines x
  each_turned lines x xs = each_more lines (turned xs) x

  -- what stands last is as long on both sides
  too_long : (x : A) (xs a b : List A) → length a ≡ length b → a ≡ (x ∷ xs) ++ b → ⊥
  too_long x xs a b n e = absurd (omega (arith, n, ap length e, length-append xs b))

  pub parted_same : (xs ys a b : List A) → length a ≡ length b → xs ++ a ≡ ys ++ b → (xs ≡ ys) × (a ≡ b)
  parted_same [] [] a b n e = (refl, e)
  parted_same [] (y ∷ ys) a b n e = absurd (too_long y ys a b n e)
  parted_same (x ∷ xs) [] a b n e = absurd (too_long x xs b a (sym n) (sym e))
  parted_same (x ∷ xs) (y ∷ ys) a b n e =
      let rest = parted_same xs ys a b n (rest_same x y (xs ++ a) (ys ++ b) e) in (λ i. first_same x y (xs ++ a) (ys ++ b) e i ∷ rest.0 i, rest.1)

module _ {A B : Type 0} (f : A → B) where
  map_more : (xs : List A) (x : A) → map f (xs ++ x ∷ []) ≡ map f xs ++ f x ∷ []
  map_more [] x = refl
  map_more (y ∷ ys) x = ap (λ zs. f y ∷ zs) (map_more ys x)

  pub map_turned : (xs : List A) → map f (turned xs) ≡ turned (map f xs)
  map_turned [] = refl
  map_turned (x ∷ xs) = map_more (turned xs) x ∙ ap (λ ys. ys ++ f x ∷ []) (map_turned xs)
