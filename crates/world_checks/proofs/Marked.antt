-- What the marks of numbers are once one of them got another.
use Rattle.std.proofs.Common.{◌≡◌, ◌∙◌, refl, sym, ap, subst, ℕ, ℤ, pos, negsuc, ◌&&◌, List, cond}
use Rattle.std.specs.Prelude.{◌==◌, nat_lt, slice_index, if◌then◌else◌}
use Rattle.std.specs.Bool.{one_answer}
use Rattle.std.specs.Ordering.{int_eq}
use Rattle.std.proofs.lemmas.Bool.Decides.{Decides-eqb, Decides-int_eq}
use Rattle.world_checks.specs.Marks.{mark_of, mark_after}

abbrev size : ℤ → ℕ
size (pos k) = k
size (negsuc k) = k

same_above : (k j : ℕ) → (k == j) ≡ int_eq (pos k) (pos j)
same_above k j =
    one_answer (k == j) (int_eq (pos k) (pos j)) (Decides-eqb k j)
    (λ h. ap size ((Decides-int_eq (pos k) (pos j)).0 h), λ e. (Decides-int_eq (pos k) (pos j)).1 (ap pos e))

same_below : (k j : ℕ) → (k == j) ≡ int_eq (negsuc k) (negsuc j)
same_below k j =
    one_answer (k == j) (int_eq (negsuc k) (negsuc j)) (Decides-eqb k j)
    (λ h. ap size ((Decides-int_eq (negsuc k) (negsuc j)).0 h), λ e. (Decides-int_eq (negsuc k) (negsuc j)).1 (ap negsuc e))

-- a list of marks with another one at an index
abbrev OneSet : List ℕ → List ℕ → ℕ → ℕ → Type 0
OneSet a b index mark = (k : ℕ) → slice_index b k ≡ (if k == index && nat_lt index 1048576 then mark else slice_index a k)

pub put_above : (a b c : List ℕ) (index mark : ℕ) (number : ℤ) → number ≡ pos index → OneSet a b index mark → (n : ℤ) → mark_of (b, c) n ≡ mark_after (a, c) number mark n
put_above a b c index mark number is h n = subst (λ z. mark_of (b, c) n ≡ mark_after (a, c) z mark n) (sym is) (go n)
  where
    go : (n : ℤ) → mark_of (b, c) n ≡ mark_after (a, c) (pos index) mark n
    go (pos k) = h k ∙ ap (λ e. cond (e && nat_lt index 1048576) mark (slice_index a k)) (same_above k index)
    go (negsuc k) = refl

pub put_below : (a b c : List ℕ) (index mark : ℕ) (number : ℤ) → number ≡ negsuc index → OneSet a b index mark → (n : ℤ) → mark_of (c, b) n ≡ mark_after (c, a) number mark n
put_below a b c index mark number is h n = subst (λ z. mark_of (c, b) n ≡ mark_after (c, a) z mark n) (sym is) (go n)
  where
    go : (n : ℤ) → mark_of (c, b) n ≡ mark_after (c, a) (negsuc index) mark n
    go (pos k) = refl
    go (negsuc k) = h k ∙ ap (λ e. cond (e && nat_lt index 1048576) mark (slice_index a k)) (same_below k index)
