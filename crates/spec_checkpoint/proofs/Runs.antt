-- Lists in front of others are read in one way: runs of what passes a test, and records that begin as nothing behind them does.
use Rattle.std.proofs.Common.{◌≡◌, ℕ, List, [], ◌∷◌, ◌++◌, map, IsTrue, Bool, true, false, not, refl, sym, subst, ◌∙◌, append_assoc}
use Rattle.std.specs.List.{list_all}
use Rattle.spec_value.specs.Datum.{Text}
use Rattle.spec_value.proofs.Entries.{first_holds, second_holds}

pub not_both : (b : Bool) → IsTrue b → IsTrue (not b) → ⊥
not_both true h k = cc
not_both false h k = cc

module _ {A : Type 0} where
  pub first_same : (a b : A) (r s : List A) → (a ∷ r) ≡ (b ∷ s) → a ≡ b
  first_same a b r s e = cc

  pub rest_same : (a b : A) (r s : List A) → (a ∷ r) ≡ (b ∷ s) → r ≡ s
  rest_same a b r s e = cc

  module _ (test : A → Bool) where
    -- nothing that passes comes first
    abbrev pub stops : List A → Bool
    stops [] = true
    stops (x ∷ xs) = not (test x)

    pub runs_read_once : (xs ys r s : List A) → IsTrue (list_all test xs) → IsTrue (list_all test ys) → IsTrue (stops r) → IsTrue (stops s) → xs ++ r ≡ ys ++ s → (xs ≡ ys) × (r ≡ s)
    runs_read_once [] [] r s h k f g e = (refl, e)
    runs_read_once [] (y ∷ ys) r s h k f g e =
        let n : IsTrue (stops (y ∷ (ys ++ s))) = subst (λ t. IsTrue (stops t)) e f in
        absurd (not_both (test y) (first_holds (test y) (list_all test ys) k) n)
    runs_read_once (x ∷ xs) [] r s h k f g e =
        let n : IsTrue (stops (x ∷ (xs ++ r))) = subst (λ t. IsTrue (stops t)) (sym e) g in
        absurd (not_both (test x) (first_holds (test x) (list_all test xs) h) n)
    runs_read_once (x ∷ xs) (y ∷ ys) r s h k f g e =
        let rest = runs_read_once xs ys r s (second_holds (test x) (list_all test xs) h) (second_holds (test y) (list_all test ys) k) f g (rest_same x y (xs ++ r) (ys ++ s) e) in
        (λ i. first_same x y (xs ++ r) (ys ++ s) e i ∷ rest.0 i, rest.1)

-- ---- records: their lines tell a key of each

abbrev pub each_of : {X : Type 0} → (X → List Text) → List X → List Text
each_of lines [] = []
each_of lines (x ∷ xs) = lines x ++ each_of lines xs

-- a record begins as nothing behind the records does, and is read where what stands behind it is of some kind
pub record AreRecords {X Y : Type 0} (lines : X → List Text) (key : X → Y) (holds : X → Bool) (begins behind : List Text → Bool) : Type 0 where
  pub starts : (x : X) (r : List Text) → IsTrue (begins (lines x ++ r))
  pub goes : (x : X) (r : List Text) → IsTrue (behind (lines x ++ r))
  pub one : (x y : X) (r s : List Text) → IsTrue (holds x) → IsTrue (holds y) → IsTrue (behind r) → IsTrue (behind s) → lines x ++ r ≡ lines y ++ s → (key x ≡ key y) × (r ≡ s)

module _ {X Y : Type 0} (lines : X → List Text) (key : X → Y) (holds : X → Bool) (begins behind : List Text → Bool) (are : AreRecords lines key holds begins behind) where
  next : (xs : List X) (r : List Text) → IsTrue (behind r) → IsTrue (behind (each_of lines xs ++ r))
  next [] r h = h
  next (x ∷ xs) r h = subst (λ ts. IsTrue (behind ts)) (sym (append_assoc (lines x) (each_of lines xs) r)) (are.goes x (each_of lines xs ++ r))

  pub records_read_once : (xs ys : List X) (r s : List Text) → IsTrue (list_all holds xs) → IsTrue (list_all holds ys) → IsTrue (behind r) → IsTrue (behind s)
      → IsTrue (not (begins r)) → IsTrue (not (begins s)) → each_of lines xs ++ r ≡ each_of lines ys ++ s → (map key xs ≡ map key ys) × (r ≡ s)
  records_read_once [] [] r s h k f g m n e = (refl, e)
  records_read_once [] (y ∷ ys) r s h k f g m n e =
      absurd (not_both (begins r) (subst (λ ts. IsTrue (begins ts)) (sym (e ∙ append_assoc (lines y) (each_of lines ys) s)) (are.starts y (each_of lines ys ++ s))) m)
  records_read_once (x ∷ xs) [] r s h k f g m n e =
      absurd (not_both (begins s) (subst (λ ts. IsTrue (begins ts)) (sym (sym e ∙ append_assoc (lines x) (each_of lines xs) r)) (are.starts x (each_of lines xs ++ r))) n)
  records_read_once (x ∷ xs) (y ∷ ys) r s h k f g m n e =
      let p = are.one x y (each_of lines xs ++ r) (each_of lines ys ++ s) (first_holds (holds x) (list_all holds xs) h) (first_holds (holds y) (list_all holds ys) k) (next xs r f) (next ys s g)
      (sym (append_assoc (lines x) (each_of lines xs) r) ∙ e ∙ append_assoc (lines y) (each_of lines ys) s) in
      let q = records_read_once xs ys r s (second_holds (holds x) (list_all holds xs) h) (second_holds (holds y) (list_all holds ys) k) f g m n p.1 in
      (λ i. p.0 i ∷ q.0 i, q.1)

-- ---- the first character of the first line

abbrev pub begins_with : (List ℕ → Bool) → List Text → Bool
begins_with test [] = false
begins_with test (t ∷ ts) = test t
