-- Records that are read one by one: those that have been read, and those that are left.
use Rattle.std.proofs.Common.{◌≡◌, ◌<◌, ◌≤◌, ℕ, zero, suc, Bool, ◌&&◌, List, [], ◌∷◌, ◌++◌, length, drop, Some, IsTrue, refl, sym, ap, ◌∙◌, arith, slice_get, append_assoc}
use Rattle.std.specs.List.{list_all}
use Rattle.std.proofs.Math.ListN.{drop_of_length-le}
use Rattle.std.proofs.lemmas.List.{append-nil}
use Rattle.spec_value.proofs.Entries.{first_holds, second_holds, both_hold}

module _ {A : Type 0} where
  pub next_at : (xs : List A) (i : ℕ) → i < length xs → (x : A) × (slice_get xs i ≡ Some x) × (drop i xs ≡ x ∷ drop (suc i) xs)
  next_at [] i l = absurd (omega arith)
  next_at (x ∷ xs) zero l = (x, refl, refl)
  next_at (x ∷ xs) (suc i) l = next_at xs i (omega arith)

  pub holds_at : (p : A → Bool) (xs : List A) (i : ℕ) (x : A) → slice_get xs i ≡ Some x → IsTrue (list_all p xs) → IsTrue (p x)
  holds_at p [] i x e h = cc
  holds_at p (y ∷ ys) zero x e h = let same : y ≡ x = cc in let one = first_holds (p y) (list_all p ys) h in rw same at one
  holds_at p (y ∷ ys) (suc i) x e h = holds_at p ys i x e (second_holds (p y) (list_all p ys) h)

  -- one more has been read
  pub one_read : (done now : List A) (y x : A) (left later whole : List A) → now ≡ done ++ y ∷ [] → y ≡ x → left ≡ x ∷ later → done ++ left ≡ whole → now ++ later ≡ whole
  one_read done now y x left later whole e same at before =
      ap (λ ys. ys ++ later) e ∙ append_assoc done (y ∷ []) later ∙ ap (λ z. done ++ z ∷ later) same ∙ ap (λ zs. done ++ zs) (sym at) ∙ before

  -- all have been read
  pub all_read : (done whole : List A) (xs : List A) (i : ℕ) → length xs ≤ i → done ++ drop i xs ≡ whole → done ≡ whole
  all_read done whole xs i l e = sym (append-nil done) ∙ ap (λ ys. done ++ ys) (sym (drop_of_length-le xs l)) ∙ e

  pub both_of_all : (p q : A → Bool) (xs : List A) → IsTrue (list_all p xs) → IsTrue (list_all q xs) → IsTrue (list_all (λ x. p x && q x) xs)
  both_of_all p q [] h k = refl
  both_of_all p q (x ∷ xs) h k =
      both_hold (p x && q x) (list_all (λ y. p y && q y) xs) (both_hold (p x) (q x) (first_holds (p x) (list_all p xs) h) (first_holds (q x) (list_all q xs) k))
      (both_of_all p q xs (second_holds (p x) (list_all p xs) h) (second_holds (q x) (list_all q xs) k))
