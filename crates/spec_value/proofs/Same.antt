-- `same` tells equal values.
use Rattle.std.proofs.Common.{◌≡◌, ℕ, ℤ, List, [], ◌∷◌, refl, ap, IsTrue, Ordering, Less, Equal, Greater, int_cmp, is_eq, sym, subst, ◌∙◌}
use Rattle.std.specs.Prelude.{◌==◌}
use Rattle.std.proofs.lemmas.Bool.{eqb-true, eq-eqb}
use Rattle.std.specs.Cmp.{int_cmp_total, tied_itself}
use Rattle.std.specs.Ordering.{int_eq}
use Rattle.std.specs.FinMap.{int_cmp-IsAntisymmetric}
use Rattle.spec_value.specs.Datum.{Datum, integer, object, text, error, list, Data, no_data, item, same, same_data, ErrorCode, error_number, same_text}
use Rattle.spec_value.specs.DatumCode.{error_at, error_back}
use Rattle.spec_value.specs.Laws.{SameDecides}
use Rattle.spec_value.proofs.Entries.{first_holds, second_holds, both_hold}

pub same_integer : (m n : ℤ) → IsTrue (int_eq m n) → m ≡ n
same_integer m n h = go (int_cmp m n) refl h
  where
    go : (r : Ordering) → int_cmp m n ≡ r → IsTrue (is_eq r) → m ≡ n
    go Less e h = cc
    go Equal e h = int_cmp-IsAntisymmetric m n e
    go Greater e h = cc

pub same_texts : (s t : List ℕ) → IsTrue (same_text s t) → s ≡ t
same_texts [] [] h = refl
same_texts (c ∷ s) (d ∷ t) h = λ i. eqb-true c d (first_holds (c == d) _ h) i ∷ same_texts s t (second_holds (c == d) _ h) i
same_texts _ _ h = cc

same_errors : (e f : ErrorCode) → error_number e ≡ error_number f → e ≡ f
same_errors e f h = sym (error_back e) ∙ ap error_at h ∙ error_back f

mutual
  unfolding same

  same_is : (x y : Datum) → IsTrue (same x y) → x ≡ y
  same_is (integer m) (integer n) h = ap integer (same_integer m n h)
  same_is (object m) (object n) h = ap object (same_integer m n h)
  same_is (text s) (text t) h = ap text (same_texts s t h)
  same_is (error e) (error f) h = ap error (same_errors e f (eqb-true (error_number e) (error_number f) h))
  same_is (list xs) (list ys) h = ap list (same_data_is xs ys h)
  same_is _ _ h = cc

  same_data_is : (xs ys : Data) → IsTrue (same_data xs ys) → xs ≡ ys
  same_data_is no_data no_data h = refl
  same_data_is (item x xs) (item y ys) h = λ i. item (same_is x y (first_holds (same x y) _ h) i) (same_data_is xs ys (second_holds (same x y) _ h) i)
  same_data_is _ _ h = cc

pub integer_itself : (m : ℤ) → IsTrue (int_eq m m)
integer_itself m = ap is_eq (tied_itself int_cmp_total m)

pub text_itself : (s : List ℕ) → IsTrue (same_text s s)
text_itself [] = refl
text_itself (c ∷ s) = both_hold (c == c) (same_text s s) (eq-eqb c c refl) (text_itself s)

mutual
  unfolding same

  same_itself : (x : Datum) → IsTrue (same x x)
  same_itself (integer m) = integer_itself m
  same_itself (object m) = integer_itself m
  same_itself (text s) = text_itself s
  same_itself (error e) = eq-eqb (error_number e) (error_number e) refl
  same_itself (list xs) = data_itself xs

  data_itself : (xs : Data) → IsTrue (same_data xs xs)
  data_itself no_data = refl
  data_itself (item x xs) = both_hold (same x x) (same_data xs xs) (same_itself x) (data_itself xs)

pub same_decides : SameDecides
same_decides x y = (same_is x y, λ e. subst (λ z. IsTrue (same x z)) e (same_itself x))
