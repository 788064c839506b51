-- Parts are found by their numbers.
use Rattle.std.proofs.Common.{◌≡◌, ℕ, List, [], ◌∷◌, ◌++◌, Bool, true, map, drop, get_or, refl, ap, sym, ◌∙◌}
use Rattle.std.specs.Prelude.{◌==◌, ◌&&◌}
use Rattle.std.specs.List.{list_all}
use Rattle.std.proofs.lemmas.Bool.{eq-eqb}
use Rattle.std.proofs.lemmas.List.{append_assoc}
use Rattle.moo_code.specs.Instruction.{placed}
use Rattle.moo_code.specs.Machine.{place_for}
use Rattle.moo_code.proofs.Rows.Numbers.{Placed, placed_here, placed_later}
use Rattle.moo_program.specs.Counts.{are_placed}
use Rattle.moo_program.specs.Meaning.{part_meant}
use Rattle.moo_program.specs.declared.instruction.Part.{Part}

inside : (front : List ℕ) (n : ℕ) (more : List ℕ) → Placed (front ++ n ∷ more) n
inside [] n more = placed_here n n more refl
inside (m ∷ front) n more = placed_later m n (front ++ n ∷ more) (inside front n more)

abbrev found_in : List (ℕ × ℕ) → List Part → Bool
found_in qs ps = list_all (λ p. place_for 0 qs p.number == p.place) ps

each_found : (to : ℕ → ℕ) (front ns : List ℕ) (ps : List Part) → map part_meant ps ≡ placed to ns → found_in (placed to (front ++ ns)) ps ≡ true
each_found to front ns [] h = refl
each_found to front [] (p ∷ ps) h = absurd (cc)
each_found to front (n ∷ ns) (p ∷ ps) h =
    let number : p.number ≡ n = ap (λ (qs : List (ℕ × ℕ)). (get_or qs 0 (0, 0)).0) h in
    let place : p.place ≡ to n = ap (λ (qs : List (ℕ × ℕ)). (get_or qs 0 (0, 0)).1) h in
    let here : place_for 0 (placed to (front ++ n ∷ ns)) p.number ≡ p.place =
    ap (place_for 0 (placed to (front ++ n ∷ ns))) number ∙ inside front n ns 0 to ∙ sym place in
    let others : found_in (placed to (front ++ n ∷ ns)) ps ≡ true =
    ap (λ ms. found_in (placed to ms) ps) (sym (append_assoc front (n ∷ []) ns)) ∙ each_found to (front ++ n ∷ []) ns ps (ap (λ (qs : List (ℕ × ℕ)). drop 1 qs) h) in
    ap (λ b. b && found_in (placed to (front ++ n ∷ ns)) ps) (eq-eqb (place_for 0 (placed to (front ++ n ∷ ns)) p.number) p.place here) ∙ others

pub placed_all : (to : ℕ → ℕ) (ns : List ℕ) (ps : List Part) → map part_meant ps ≡ placed to ns → are_placed ps ≡ true
placed_all to ns ps h = ap (λ qs. found_in qs ps) h ∙ each_found to [] ns ps h
