-- Where the constructs down a path hold what they must, the pieces that stand there do.
use Rattle.std.proofs.Common.{◌≡◌, ℕ, zero, suc, ◌+◌, ◌≤◌, false, ◌&&◌, List, [], ◌∷◌, length, take, drop, Option, Some, None, IsTrue, subst, sym, refl, arith}
use Rattle.spec_value.specs.Datum.{Datum}
use Rattle.spec_value.proofs.Entries.{first_holds, second_holds, both_hold}
use Rattle.spec_program.specs.Construct.{Construct, Piece}
use Rattle.spec_program.specs.Place.{Part, part_at, held_count, pieces_at, in_part, in_tree}
use Rattle.spec_world.specs.WellFormed.{held_fits, is_loop, loops, part_fits, pieces_fit}
use Rattle.held_values.specs.Descent.{on_part, on_tree, fits_down}
use Rattle.held_values.proofs.Telling.{held_so_many}

-- ---- a step down

pub fits_step : (around : ℕ) (c : Construct) (n : ℕ) (path : List ℕ) (vs : List Datum) (x : Part) (d : Construct) → part_at c n ≡ Some x → x.tree ≡ Some d
    → IsTrue (held_fits around x.held (take (held_count x.held) vs)) → IsTrue (fits_down (is_loop c + around) d path (drop (held_count x.held) vs))
    → IsTrue (fits_down around c (n ∷ path) vs)
fits_step around c n path vs x d e t h g =
    let inner : IsTrue (on_tree x.tree (λ z. fits_down (is_loop c + around) z path (drop (held_count x.held) vs))) =
    subst (λ o. IsTrue (on_tree o (λ z. fits_down (is_loop c + around) z path (drop (held_count x.held) vs)))) (sym t) g in
    subst (λ o. IsTrue (on_part o (λ y. held_fits around y.held (take (held_count y.held) vs) && on_tree y.tree (λ z. fits_down (is_loop c + around) z path (drop (held_count y.held) vs))))) (sym e)
    (both_hold (held_fits around x.held (take (held_count x.held) vs)) _ h inner)

-- ---- the pieces

nothing : {P : Type 0} → IsTrue false → P
nothing h = absurd (cc)

abbrev piece : Construct → ℕ → ℕ → List Datum → Piece
piece c n k vs = record { construct = c; part = n; held = take k vs }

into : (c : Construct) (n : ℕ) (path : List ℕ) (vs : List Datum) (ps : List Piece) (r : Construct × List Piece) (x : Part) (t : Option Construct) → part_at c n ≡ Some x
    → IsTrue (held_fits (loops ps) x.held (take (held_count x.held) vs) && on_tree t (λ d. fits_down (is_loop c + loops ps) d path (drop (held_count x.held) vs)))
    → IsTrue (pieces_fit ps)
    → in_tree t (held_count x.held) (λ d k. pieces_at d path (drop k vs) (piece c n k vs ∷ ps)) ≡ Some r
    → ((d : Construct) (ws : List Datum) (qs : List Piece) → IsTrue (fits_down (loops qs) d path ws) → IsTrue (pieces_fit qs) → pieces_at d path ws qs ≡ Some r → IsTrue (pieces_fit r.1))
    → IsTrue (pieces_fit r.1)
into c n path vs ps r x None e h f g on = nothing (second_holds (held_fits (loops ps) x.held (take (held_count x.held) vs)) false h)
into c n path vs ps r x (Some d) e h f g on =
    let held = first_holds (held_fits (loops ps) x.held (take (held_count x.held) vs)) _ h in
    let here : IsTrue (part_fits (loops ps) (take (held_count x.held) vs) (part_at c n)) = subst (λ o. IsTrue (part_fits (loops ps) (take (held_count x.held) vs) o)) (sym e) held in
    on d (drop (held_count x.held) vs) (piece c n (held_count x.held) vs ∷ ps) (second_holds (held_fits (loops ps) x.held (take (held_count x.held) vs)) _ h)
    (both_hold (part_fits (loops ps) (take (held_count x.held) vs) (part_at c n)) _ here f) g

through : (c : Construct) (n : ℕ) (path : List ℕ) (vs : List Datum) (ps : List Piece) (r : Construct × List Piece) (o : Option Part) → part_at c n ≡ o
    → IsTrue (on_part o (λ x. held_fits (loops ps) x.held (take (held_count x.held) vs) && on_tree x.tree (λ d. fits_down (is_loop c + loops ps) d path (drop (held_count x.held) vs))))
    → IsTrue (pieces_fit ps)
    → in_part o (λ d k. pieces_at d path (drop k vs) (piece c n k vs ∷ ps)) ≡ Some r
    → ((d : Construct) (ws : List Datum) (qs : List Piece) → IsTrue (fits_down (loops qs) d path ws) → IsTrue (pieces_fit qs) → pieces_at d path ws qs ≡ Some r → IsTrue (pieces_fit r.1))
    → IsTrue (pieces_fit r.1)
through c n path vs ps r None e h f g on = nothing h
through c n path vs ps r (Some x) e h f g on = into c n path vs ps r x x.tree e h f g on

pub pieces_down : (path : List ℕ) (c : Construct) (vs : List Datum) (ps : List Piece) (r : Construct × List Piece) → IsTrue (fits_down (loops ps) c path vs) → IsTrue (pieces_fit ps)
    → pieces_at c path vs ps ≡ Some r → IsTrue (pieces_fit r.1)
pieces_down [] c [] ps r h f g = let is : (c, ps) ≡ r = cc in subst (λ y. IsTrue (pieces_fit y.1)) is f
pieces_down [] c (v ∷ vs) ps r h f g = absurd (cc)
pieces_down (n ∷ path) c vs ps r h f g = through c n path vs ps r (part_at c n) refl h f g (λ d ws qs. pieces_down path d ws qs r)

-- ---- and the other way round

pub down_pieces : (path : List ℕ) (c : Construct) (vs : List Datum) (ps : List Piece) (r : Construct × List Piece) → pieces_at c path vs ps ≡ Some r → IsTrue (pieces_fit r.1)
    → IsTrue (fits_down (loops ps) c path vs) × IsTrue (pieces_fit ps)
down_pieces [] c [] ps r g h = let is : (c, ps) ≡ r = cc in (refl, subst (λ y. IsTrue (pieces_fit y.1)) (sym is) h)
down_pieces [] c (v ∷ vs) ps r g h = absurd (cc)
down_pieces (n ∷ path) c vs ps r g h = by_part (part_at c n) refl g (λ d ws qs k. down_pieces path d ws qs r k h)
  where
    by_tree : (x : Part) (t : Option Construct) → part_at c n ≡ Some x → in_tree t (held_count x.held) (λ d k. pieces_at d path (drop k vs) (piece c n k vs ∷ ps)) ≡ Some r
        → ((d : Construct) (ws : List Datum) (qs : List Piece) → pieces_at d path ws qs ≡ Some r → IsTrue (fits_down (loops qs) d path ws) × IsTrue (pieces_fit qs))
        → IsTrue (held_fits (loops ps) x.held (take (held_count x.held) vs) && on_tree t (λ d. fits_down (is_loop c + loops ps) d path (drop (held_count x.held) vs))) × IsTrue (pieces_fit ps)
    by_tree x None e g on = absurd (cc)
    by_tree x (Some d) e g on =
        let both = on d (drop (held_count x.held) vs) (piece c n (held_count x.held) vs ∷ ps) g in
        let here : IsTrue (part_fits (loops ps) (take (held_count x.held) vs) (part_at c n)) = first_holds (part_fits (loops ps) (take (held_count x.held) vs) (part_at c n)) _ both.1 in
        let held : IsTrue (held_fits (loops ps) x.held (take (held_count x.held) vs)) = subst (λ o. IsTrue (part_fits (loops ps) (take (held_count x.held) vs) o)) e here in (
          both_hold (held_fits (loops ps) x.held (take (held_count x.held) vs)) _ held both.0,
          second_holds (part_fits (loops ps) (take (held_count x.held) vs) (part_at c n)) _ both.1,
        )

    by_part : (o : Option Part) → part_at c n ≡ o → in_part o (λ d k. pieces_at d path (drop k vs) (piece c n k vs ∷ ps)) ≡ Some r
        → ((d : Construct) (ws : List Datum) (qs : List Piece) → pieces_at d path ws qs ≡ Some r → IsTrue (fits_down (loops qs) d path ws) × IsTrue (pieces_fit qs))
        → IsTrue (on_part o (λ x. held_fits (loops ps) x.held (take (held_count x.held) vs) && on_tree x.tree (λ d. fits_down (is_loop c + loops ps) d path (drop (held_count x.held) vs)))) × IsTrue (pieces_fit ps)
    by_part None e g on = absurd (cc)
    by_part (Some x) e g on = by_tree x x.tree e g on

-- ---- a step down tells

pub step_none : (around : ℕ) (c : Construct) (n : ℕ) (path : List ℕ) (vs : List Datum) → part_at c n ≡ None → IsTrue (fits_down around c (n ∷ path) vs) → IsTrue false
step_none around c n path vs e h =
    subst (λ o. IsTrue (on_part o (λ x. held_fits around x.held (take (held_count x.held) vs) && on_tree x.tree (λ d. fits_down (is_loop c + around) d path (drop (held_count x.held) vs))))) e h

step_here : (around : ℕ) (c : Construct) (n : ℕ) (path : List ℕ) (vs : List Datum) (x : Part) → part_at c n ≡ Some x → IsTrue (fits_down around c (n ∷ path) vs)
    → IsTrue (held_fits around x.held (take (held_count x.held) vs) && on_tree x.tree (λ d. fits_down (is_loop c + around) d path (drop (held_count x.held) vs)))
step_here around c n path vs x e h =
    subst (λ o. IsTrue (on_part o (λ y. held_fits around y.held (take (held_count y.held) vs) && on_tree y.tree (λ d. fits_down (is_loop c + around) d path (drop (held_count y.held) vs))))) e h

pub step_held : (around : ℕ) (c : Construct) (n : ℕ) (path : List ℕ) (vs : List Datum) (x : Part) → part_at c n ≡ Some x → IsTrue (fits_down around c (n ∷ path) vs)
    → IsTrue (held_fits around x.held (take (held_count x.held) vs))
step_held around c n path vs x e h = first_holds (held_fits around x.held (take (held_count x.held) vs)) _ (step_here around c n path vs x e h)

pub step_leaf : (around : ℕ) (c : Construct) (n : ℕ) (path : List ℕ) (vs : List Datum) (x : Part) → part_at c n ≡ Some x → x.tree ≡ None → IsTrue (fits_down around c (n ∷ path) vs) → IsTrue false
step_leaf around c n path vs x e t h =
    subst (λ o. IsTrue (on_tree o (λ d. fits_down (is_loop c + around) d path (drop (held_count x.held) vs)))) t
    (second_holds (held_fits around x.held (take (held_count x.held) vs)) _ (step_here around c n path vs x e h))

pub step_deeper : (around : ℕ) (c : Construct) (n : ℕ) (path : List ℕ) (vs : List Datum) (x : Part) (d : Construct) → part_at c n ≡ Some x → x.tree ≡ Some d
    → IsTrue (fits_down around c (n ∷ path) vs) → IsTrue (fits_down (is_loop c + around) d path (drop (held_count x.held) vs))
step_deeper around c n path vs x d e t h =
    subst (λ o. IsTrue (on_tree o (λ z. fits_down (is_loop c + around) z path (drop (held_count x.held) vs)))) t
    (second_holds (held_fits around x.held (take (held_count x.held) vs)) _ (step_here around c n path vs x e h))

pub step_enough : (around : ℕ) (c : Construct) (n : ℕ) (path : List ℕ) (vs : List Datum) (x : Part) → part_at c n ≡ Some x → IsTrue (fits_down around c (n ∷ path) vs)
    → held_count x.held ≤ length vs
step_enough around c n path vs x e h =
    let all = held_so_many around x.held (take (held_count x.held) vs) (step_held around c n path vs x e h) in
    enough (held_count x.held) vs all
  where
    enough : (k : ℕ) (vs : List Datum) → length (take k vs) ≡ k → k ≤ length vs
    enough zero vs e = omega arith
    enough (suc k) [] e = absurd (omega (arith, e))
    enough (suc k) (v ∷ vs) e = let rest = enough k vs (omega (arith, e)) in omega (arith, rest)
