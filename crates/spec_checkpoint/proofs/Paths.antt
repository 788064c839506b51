-- The place of a frame: the numbers of the parts on its path, between dots.
use Rattle.std.proofs.Common.{◌≡◌, ℕ, ◌<◌, ◌^◌, List, [], ◌∷◌, ◌++◌, map, IsTrue, Bool, ◌&&◌, nat_le, refl, ap, sym, subst, ◌∙◌, codes}
use Rattle.std.specs.List.{list_all}
use Rattle.std.specs.Fmt.{decimal, digits}
use Rattle.std.proofs.lemmas.Fmt.{decimal_injective}
use Rattle.std.proofs.lemmas.List.{append-nil}
use Rattle.spec_value.specs.Datum.{Text, is_value}
use Rattle.spec_value.proofs.Entries.{first_holds, second_holds, both_hold}
use Rattle.spec_program.specs.Construct.{Piece}
use Rattle.spec_world.specs.Checkpoint.{with_dots, path, part_numbers}
use Rattle.spec_checkpoint.specs.Holding.{is_number, piece_holds}
use Rattle.spec_checkpoint.proofs.Numbers.{tail_same, numbers_read_once}
use Rattle.spec_checkpoint.proofs.Fields.{number_small}
use Rattle.spec_checkpoint.proofs.Turned.{turned, turned_same, turned_holds, map_turned}

-- the innermost first
abbrev pub parts_of : List Piece → List ℕ
parts_of ps = map (λ p. p.part) ps

-- ---- numbers from 1

abbrev pub is_place : ℕ → Bool
is_place n = nat_le 1 n && is_number n

place_small : (n : ℕ) → IsTrue (is_place n) → n < 2 ^ 64
place_small n h = number_small n (second_holds (nat_le 1 n) (is_number n) h)

no_dot : (r : Text) → [] ≡ 46 ∷ r → ⊥
no_dot r e = cc

dots_same : (m n : ℕ) (ms ns : List ℕ) → IsTrue (is_place m) → IsTrue (is_place n) → IsTrue (list_all is_place ms) → IsTrue (list_all is_place ns)
    → with_dots (decimal m) (map decimal ms) ≡ with_dots (decimal n) (map decimal ns) → (m ∷ ms) ≡ (n ∷ ns)
dots_same m n [] [] h k f g e = ap (λ x. x ∷ []) (decimal_injective m n (place_small m h) (place_small n k) e)
dots_same m n [] (b ∷ ns) h k f g e =
    let later : Text = 46 ∷ with_dots (decimal b) (map decimal ns) in
    absurd (no_dot (with_dots (decimal b) (map decimal ns)) (numbers_read_once m n [] later (place_small m h) (place_small n k) refl refl (append-nil (decimal m) ∙ e)).1)
dots_same m n (a ∷ ms) [] h k f g e =
    let later : Text = 46 ∷ with_dots (decimal a) (map decimal ms) in
    absurd (no_dot (with_dots (decimal a) (map decimal ms)) (numbers_read_once n m [] later (place_small n k) (place_small m h) refl refl (append-nil (decimal n) ∙ sym e)).1)
dots_same m n (a ∷ ms) (b ∷ ns) h k f g e =
    let x : Text = with_dots (decimal a) (map decimal ms) in
    let y : Text = with_dots (decimal b) (map decimal ns) in
    let p = numbers_read_once m n (46 ∷ x) (46 ∷ y) (place_small m h) (place_small n k) refl refl e in
    let rest = dots_same a b ms ns (first_holds (is_place a) (list_all is_place ms) f) (first_holds (is_place b) (list_all is_place ns) g)
    (second_holds (is_place a) (list_all is_place ms) f) (second_holds (is_place b) (list_all is_place ns) g) (tail_same 46 46 x y p.1) in
    λ i. p.0 i ∷ rest i

no_beginning : (n : ℕ) (ns : List ℕ) → IsTrue (is_place n) → codes "0" ≡ with_dots (decimal n) (map decimal ns) → ⊥
unfolding digits
no_beginning n [] h e =
    let z : 0 ≡ n = (numbers_read_once 0 n [] [] (number_small 0 refl) (place_small n h) refl refl (e ∙ sym (append-nil (decimal n)))).0 in
    let k : IsTrue (is_place 0) = subst (λ m. IsTrue (is_place m)) (sym z) h in cc
no_beginning n (b ∷ ns) h e =
    let later : Text = 46 ∷ with_dots (decimal b) (map decimal ns) in
    absurd (no_dot (with_dots (decimal b) (map decimal ns)) (numbers_read_once 0 n [] later (number_small 0 refl) (place_small n h) refl refl e).1)

paths_same : (ms ns : List ℕ) → IsTrue (list_all is_place ms) → IsTrue (list_all is_place ns) → path (map decimal ms) ≡ path (map decimal ns) → ms ≡ ns
paths_same [] [] h k e = refl
paths_same [] (n ∷ ns) h k e = absurd (no_beginning n ns (first_holds (is_place n) (list_all is_place ns) k) e)
paths_same (m ∷ ms) [] h k e = absurd (no_beginning m ms (first_holds (is_place m) (list_all is_place ms) h) (sym e))
paths_same (m ∷ ms) (n ∷ ns) h k e =
    dots_same m n ms ns (first_holds (is_place m) (list_all is_place ms) h) (first_holds (is_place n) (list_all is_place ns) k) (second_holds (is_place m) (list_all is_place ms) h) (second_holds (is_place n) (list_all is_place ns) k) e

numbers_of : (ps : List Piece) → part_numbers ps ≡ turned (map decimal (parts_of ps))
numbers_of [] = refl
numbers_of (p ∷ ps) = ap (λ ts. ts ++ decimal p.part ∷ []) (numbers_of ps)

parts_place : (ps : List Piece) → IsTrue (list_all piece_holds ps) → IsTrue (list_all is_place (parts_of ps))
parts_place [] h = refl
parts_place (p ∷ ps) h =
    both_hold (is_place p.part) (list_all is_place (parts_of ps)) (first_holds (is_place p.part) (list_all is_value p.held) (first_holds (piece_holds p) (list_all piece_holds ps) h))
    (parts_place ps (second_holds (piece_holds p) (list_all piece_holds ps) h))

pub parts_told : (ps qs : List Piece) → IsTrue (list_all piece_holds ps) → IsTrue (list_all piece_holds qs) → path (part_numbers ps) ≡ path (part_numbers qs) → parts_of ps ≡ parts_of qs
parts_told ps qs h k e =
    turned_same (parts_of ps) (parts_of qs)
    (paths_same (turned (parts_of ps)) (turned (parts_of qs)) (turned_holds is_place (parts_of ps) (parts_place ps h)) (turned_holds is_place (parts_of qs) (parts_place qs k))
    (ap path (map_turned decimal (parts_of ps) ∙ sym (numbers_of ps)) ∙ e ∙ ap path (numbers_of qs ∙ sym (map_turned decimal (parts_of qs)))))
