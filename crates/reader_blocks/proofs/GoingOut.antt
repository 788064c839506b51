-- Strays that are gone over, the last one first.
use Rattle.std.proofs.Common.{◌≡◌, ℕ, ◌+◌, ◌<◌, ◌≤◌, suc, true, false, if◌then◌else◌, List, [], ◌∷◌, ◌++◌, length, map, drop, get_or, Option, sym, ap, ◌∙◌, append_assoc, add-one}
use Rattle.std.proofs.Math.Seq.{drop-cons}
use Rattle.std.proofs.Math.ListN.{drop_of_length-le}
use Rattle.std.proofs.lemmas.List.{map-append, append-nil}
use Rattle.std.proofs.lemmas.List.Elements.{filter-append}
use Rattle.spec_value.specs.Datum.{Text}
use Rattle.spec_program.specs.ReadPrograms.{out_of_loop, goes_out, cut}
use Rattle.moo_reader.specs.declared.block.Stray.{Stray}
use Rattle.moo_reader.specs.BlockViews.{stray_of, strays_of}
use Rattle.moo_reader.proofs.Lists.{strays_before}

first_left : (ss : List Stray) (i : ℕ) (s : Stray) → i < length ss → s ≡ get_or ss i s → drop i ss ≡ (s ∷ []) ++ drop (i + 1) ss
first_left ss i s h e = drop-cons ss i s h ∙ ap (λ x. x ∷ drop (suc i) ss) (sym e) ∙ ap (λ j. s ∷ drop j ss) (sym (add-one i))

strays_left : (ss : List Stray) (i : ℕ) (s : Stray) → i < length ss → s ≡ get_or ss i s
    → strays_of (drop i ss) ≡ strays_of (drop (i + 1) ss) ++ stray_of s ∷ []
strays_left ss i s h e = ap strays_of (first_left ss i s h e) ∙ strays_before (drop (i + 1) ss) (s ∷ [])

out_left : (own : Option Text) (ss : List Stray) (i : ℕ) (s : Stray) → i < length ss → s ≡ get_or ss i s
    → out_of_loop own (strays_of (drop i ss))
    ≡ out_of_loop own (strays_of (drop (i + 1) ss)) ++ (if goes_out own (stray_of s) then stray_of s ∷ [] else [])
out_left own ss i s h e =
    ap (out_of_loop own) (strays_left ss i s h e) ∙ filter-append (goes_out own) (strays_of (drop (i + 1) ss)) (stray_of s ∷ [])

pub one_out : (own : Option Text) (others ss : List Stray) (i : ℕ) (s t : Stray) → i < length ss → s ≡ get_or ss i s
    → goes_out own (stray_of s) ≡ true → stray_of t ≡ stray_of s
    → out_of_loop own (strays_of (drop (i + 1) ss)) ++ strays_of (others ++ t ∷ []) ≡ out_of_loop own (strays_of (drop i ss)) ++ strays_of others
one_out own others ss i s t h e g k =
    let rest = out_of_loop own (strays_of (drop (i + 1) ss)) in
    ap (λ x. rest ++ x) (strays_before (t ∷ []) others)
    ∙ ap (λ x. rest ++ (x ∷ strays_of others)) k
    ∙ sym (append_assoc rest (stray_of s ∷ []) (strays_of others))
    ∙ ap (λ c. (rest ++ (if c then stray_of s ∷ [] else [])) ++ strays_of others) (sym g)
    ∙ ap (λ x. x ++ strays_of others) (sym (out_left own ss i s h e))

pub one_taken : (own : Option Text) (others ss : List Stray) (i : ℕ) (s : Stray) → i < length ss → s ≡ get_or ss i s
    → goes_out own (stray_of s) ≡ false
    → out_of_loop own (strays_of (drop (i + 1) ss)) ++ strays_of others ≡ out_of_loop own (strays_of (drop i ss)) ++ strays_of others
one_taken own others ss i s h e g =
    let rest = out_of_loop own (strays_of (drop (i + 1) ss)) in
    ap (λ x. x ++ strays_of others) (sym (append-nil rest))
    ∙ ap (λ c. (rest ++ (if c then stray_of s ∷ [] else [])) ++ strays_of others) (sym g)
    ∙ ap (λ x. x ++ strays_of others) (sym (out_left own ss i s h e))

pub none_left : (own : Option Text) (others ss : List Stray) (i : ℕ) → length ss ≤ i
    → out_of_loop own (strays_of (drop i ss)) ++ strays_of others ≡ strays_of others
none_left own others ss i h = ap (λ x. out_of_loop own (strays_of x) ++ strays_of others) (drop_of_length-le ss h)

pub one_cut : (others ss : List Stray) (i : ℕ) (s t : Stray) → i < length ss → s ≡ get_or ss i s → stray_of t ≡ cut (stray_of s)
    → map cut (strays_of (drop (i + 1) ss)) ++ strays_of (others ++ t ∷ []) ≡ map cut (strays_of (drop i ss)) ++ strays_of others
one_cut others ss i s t h e k =
    let rest = map cut (strays_of (drop (i + 1) ss)) in
    ap (λ x. rest ++ x) (strays_before (t ∷ []) others)
    ∙ ap (λ x. rest ++ (x ∷ strays_of others)) k
    ∙ sym (append_assoc rest (cut (stray_of s) ∷ []) (strays_of others))
    ∙ ap (λ x. x ++ strays_of others) (sym (ap (map cut) (strays_left ss i s h e) ∙ map-append cut (strays_of (drop (i + 1) ss)) (stray_of s ∷ [])))

pub all_cut : (others ss : List Stray) (i : ℕ) → length ss ≤ i → map cut (strays_of (drop i ss)) ++ strays_of others ≡ strays_of others
all_cut others ss i h = ap (λ x. map cut (strays_of x) ++ strays_of others) (drop_of_length-le ss h)
