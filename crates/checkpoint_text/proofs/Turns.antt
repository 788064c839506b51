-- One item more of those whose lines are written.
use Rattle.std.proofs.Common.{◌≡◌, ℕ, suc, ◌+◌, ◌<◌, ℤ, List, ◌∷◌, ◌++◌, length, drop, get_or, refl, sym, ap, ◌∙◌, add-one, append_assoc}
use Rattle.std.proofs.Math.Seq.{drop-cons}
use Rattle.spec_value.specs.Datum.{Text}
use Rattle.spec_value.specs.Table.{Numbered, at}
use Rattle.spec_world.specs.Checkpoint.{with_line_ends}
use Rattle.checkpoint_text.specs.Each.{of_found, of_each}
use Rattle.checkpoint_text.proofs.Joined.{lines_behind}

pub next_lines : {X : Type 0} (one : X → List Text) (all : List X → List Text) → ((x : X) (xs : List X) → all (x ∷ xs) ≡ one x ++ all xs)
    → (xs : List X) (i : ℕ) (x : X) (old new whole : Text) → i < length xs → x ≡ get_or xs i x
    → new ≡ old ++ with_line_ends (one x) → old ++ with_line_ends (all (drop i xs)) ≡ whole → new ++ with_line_ends (all (drop (i + 1) xs)) ≡ whole
next_lines one all split xs i x old new whole inside is wrote so_far =
    let rest : List Text = all (drop (suc i) xs) in
    ap (λ n. new ++ with_line_ends (all (drop n xs))) (add-one i) ∙ ap (λ t. t ++ with_line_ends rest) wrote
    ∙ append_assoc old (with_line_ends (one x)) (with_line_ends rest) ∙ ap (λ t. old ++ t) (sym (lines_behind (one x) rest))
    ∙ ap (λ ts. old ++ with_line_ends ts) (sym (split x (drop (suc i) xs)))
    ∙ ap (λ ys. old ++ with_line_ends (all ys)) (ap (λ y. y ∷ drop (suc i) xs) is ∙ sym (drop-cons xs i x inside)) ∙ so_far

-- one key more of a table
pub next_found : {X : Type 0} (f : ℤ → X → List Text) (m : Numbered X) (ks : List ℤ) (i : ℕ) (k : ℤ) (old new whole : Text) → i < length ks → k ≡ get_or ks i k
    → new ≡ old ++ with_line_ends (of_found f k (at m k)) → old ++ with_line_ends (of_each f m (drop i ks)) ≡ whole
    → new ++ with_line_ends (of_each f m (drop (i + 1) ks)) ≡ whole
next_found f m ks i k old new whole = next_lines (λ j. of_found f j (at m j)) (of_each f m) (λ j js. refl) ks i k old new whole
