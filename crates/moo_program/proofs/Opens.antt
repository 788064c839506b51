-- Where parts begin.
use Rattle.std.proofs.Common.{◌≡◌, ◌≢◌, ℕ, zero, suc, ◌+◌, ◌-◌, ◌≤◌, ◌<◌, List, [], ◌∷◌, ◌++◌, drop, map, get_or, length, refl, ap, sym, ◌∙◌, arith}
use Rattle.std.proofs.lemmas.List.{drop-drop}
use Rattle.moo_program.specs.Drafting.{Draught, item_of}
use Rattle.moo_program.specs.declared.moo_bytecode.draft.Item.{Item}
use Rattle.moo_program.specs.Assembling.{Open, place_of, scan}
use Rattle.moo_program.proofs.Lists.{item_next}

pub part_place : (c : Open) (n : ℕ) → n ≢ 0 → place_of c n ≡ get_or c.starts (n - 1) c.end
part_place c zero h = absurd (h refl)
part_place c (suc n) h = let e : suc n - 1 ≡ n = omega arith in ap (λ k. get_or c.starts k c.end) (sym e)

pub scan_skip : (n b : ℕ) (ds : List Draught) → scan n b ds ≡ scan 0 b (drop n ds)
scan_skip zero b ds = refl
scan_skip (suc n) b [] = refl
scan_skip (suc n) b (d ∷ ds) = scan_skip n b ds

pub drop_map : {A B : Type 0} (f : A → B) (n : ℕ) (xs : List A) → drop n (map f xs) ≡ map f (drop n xs)
drop_map f zero xs = refl
drop_map f (suc n) [] = refl
drop_map f (suc n) (x ∷ xs) = drop_map f n xs

-- past an item, with what is within it
pub scan_next : (ss more : List ℕ) (place after skipped i k : ℕ) (xs : List Item) (x : Item) (all : List ℕ) → i < length xs → x ≡ get_or xs i x → k ≡ suc (i + skipped)
    → ((ds : List Draught) → more ++ scan skipped after ds ≡ ss ++ scan 0 place (item_of x ∷ ds)) → ss ++ scan 0 place (map item_of (drop i xs)) ≡ all
    → more ++ scan 0 after (map item_of (drop k xs)) ≡ all
scan_next ss more place after skipped i k xs x all h is at passed before =
    let rest : List Draught = map item_of (drop (i + 1) xs) in
    let n : k ≡ i + 1 + skipped = omega (arith, at) in
    let far : map item_of (drop k xs) ≡ drop skipped rest =
    ap (λ k. map item_of (drop k xs)) n ∙ ap (map item_of) (sym (drop-drop skipped (i + 1) xs)) ∙ sym (drop_map item_of skipped (drop (i + 1) xs)) in
    ap (λ ds. more ++ scan 0 after ds) far ∙ ap (λ ss. more ++ ss) (sym (scan_skip skipped after rest)) ∙ passed rest
    ∙ ap (λ ys. ss ++ scan 0 place (map item_of ys)) (sym (item_next xs i x h is)) ∙ before
