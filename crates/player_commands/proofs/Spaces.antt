-- Spaces at the front, and what stands behind the first word.
use Rattle.std.proofs.Common.{◌≡◌, refl, ap, sym, ◌∙◌, ℕ, [], ◌∷◌, suc, ◌+◌, ◌<◌, ◌≤◌, arith}
use Rattle.std.specs.Prelude.{length, slice_index_or, drop, if◌then◌else◌}
use Rattle.std.proofs.Math.Seq.{drop-cons}
use Rattle.std.proofs.lemmas.Bool.{ne_eqb}
use Rattle.std.proofs.lemmas.List.{drop_all, at_drop_all}
use Rattle.spec_value.specs.Datum.{Text}
use Rattle.spec_world.specs.Words.{Remainders, remainders, without_spaces, after_first}

pub one_on : (i : ℕ) → suc i ≡ i + 1
one_on i = omega arith

pub here : (t : Text) (i : ℕ) → i < length t → drop i t ≡ slice_index_or t i 0 ∷ drop (i + 1) t
here t i l = drop-cons t i 0 l ∙ ap (λ k. slice_index_or t i 0 ∷ drop k t) (one_on i)

space_goes : (c : ℕ) (t : Text) → c ≡ 32 → without_spaces (c ∷ t) ≡ without_spaces t
unfolding without_spaces
space_goes c t h = ap (λ k. without_spaces (k ∷ t)) h

other_stays : (c : ℕ) (t : Text) → (c ≡ 32 → ⊥) → without_spaces (c ∷ t) ≡ c ∷ t
unfolding without_spaces
other_stays c t h = ap (λ b. if b then without_spaces t else c ∷ t) (ne_eqb c 32 h)

pub one_space : (t : Text) (i : ℕ) → i < length t → slice_index_or t i 0 ≡ 32 → without_spaces (drop i t) ≡ without_spaces (drop (i + 1) t)
one_space t i l h = ap without_spaces (here t i l) ∙ space_goes (slice_index_or t i 0) (drop (i + 1) t) h

pub no_space : (t : Text) (i : ℕ) → i < length t → (slice_index_or t i 0 ≡ 32 → ⊥) → without_spaces (drop i t) ≡ drop i t
no_space t i l h = ap without_spaces (here t i l) ∙ other_stays (slice_index_or t i 0) (drop (i + 1) t) h ∙ sym (here t i l)

none_left : without_spaces [] ≡ []
unfolding without_spaces
none_left = refl

pub all_passed : (t : Text) (i j : ℕ) → length t ≤ i → length t ≤ j → without_spaces (drop i t) ≡ drop j t
all_passed t i j l m = at_drop_all without_spaces t i l ∙ none_left ∙ sym (drop_all j t m)

pub at_the_start : (t : Text) → after_first t ≡ (remainders t).before
unfolding after_first
at_the_start t = refl

pub next_character : (f : Remainders → Text) (t : Text) (i : ℕ) → i < length t → f (remainders (drop i t)) ≡ f (remainders (slice_index_or t i 0 ∷ drop (i + 1) t))
next_character f t i l = ap (λ x. f (remainders x)) (here t i l)
