-- One item of a scattering assignment more.
use Rattle.std.proofs.Common.{◌≡◌, ℕ, suc, ◌+◌, ◌<◌, ◌≤◌, List, [], ◌∷◌, ◌++◌, drop, get_or, length, refl, ap, sym, ◌∙◌, arith}
use Rattle.std.proofs.lemmas.List.{drop_all, append_assoc, append-nil}
use Rattle.moo_code.specs.Instruction as code
use Rattle.moo_code.specs.Instruction.{placed}
use Rattle.moo_code.specs.Layout.{slots_of, default_parts}
use Rattle.moo_tree.specs.ExpressionView.{items_of}
use Rattle.moo_tree.specs.declared.expression.Item.{Item}
use Rattle.moo_tree.specs.declared.expression.Item.TheVariants.{Required, Optional, Rest, Default}
use Rattle.moo_program.proofs.Lists.{item_next}

slots_apart : (x : Item) (xs : List Item) → slots_of (items_of (x ∷ xs)) ≡ slots_of (items_of (x ∷ [])) ++ slots_of (items_of xs)
slots_apart (Required y) xs = refl
slots_apart (Optional y) xs = refl
slots_apart (Rest y) xs = refl
slots_apart (Default y e) xs = refl

parts_apart : (n : ℕ) (x : Item) (xs : List Item) → default_parts n (items_of (x ∷ xs)) ≡ default_parts n (items_of (x ∷ [])) ++ default_parts (suc n) (items_of xs)
parts_apart n (Required y) xs = refl
parts_apart n (Optional y) xs = refl
parts_apart n (Rest y) xs = refl
parts_apart n (Default y e) xs = refl

placed_append : (to : ℕ → ℕ) (ns ms : List ℕ) → placed to (ns ++ ms) ≡ placed to ns ++ placed to ms
placed_append to [] ms = refl
placed_append to (n ∷ ns) ms = ap (λ ps. (n, to n) ∷ ps) (placed_append to ns ms)

pub slots_step : (old new all : List code.Slot) (items : List Item) (i : ℕ) (x : Item) → i < length items → x ≡ get_or items i x → new ≡ old ++ slots_of (items_of (x ∷ []))
    → old ++ slots_of (items_of (drop i items)) ≡ all → new ++ slots_of (items_of (drop (i + 1) items)) ≡ all
slots_step old new all items i x h is e before =
    ap (λ ss. ss ++ slots_of (items_of (drop (i + 1) items))) e ∙ append_assoc old (slots_of (items_of (x ∷ []))) (slots_of (items_of (drop (i + 1) items)))
    ∙ ap (λ ss. old ++ ss) (sym (slots_apart x (drop (i + 1) items))) ∙ ap (λ xs. old ++ slots_of (items_of xs)) (sym (item_next items i x h is)) ∙ before

pub slots_end : (old all : List code.Slot) (items : List Item) (i : ℕ) → length items ≤ i → old ++ slots_of (items_of (drop i items)) ≡ all → old ≡ all
slots_end old all items i h before = sym (ap (λ xs. old ++ slots_of (items_of xs)) (drop_all i items h) ∙ append-nil old) ∙ before

pub defaults_step : (to : ℕ → ℕ) (old new all : List (ℕ × ℕ)) (items : List Item) (i n : ℕ) (x : Item) → i < length items → x ≡ get_or items i x → n ≡ suc i
    → new ≡ old ++ placed to (default_parts n (items_of (x ∷ []))) → old ++ placed to (default_parts (suc i) (items_of (drop i items))) ≡ all
    → new ++ placed to (default_parts (suc (i + 1)) (items_of (drop (i + 1) items))) ≡ all
defaults_step to old new all items i n x h is at e before =
    let k : suc (i + 1) ≡ suc (suc i) = omega arith in
    ap (λ ps. ps ++ placed to (default_parts (suc (i + 1)) (items_of (drop (i + 1) items)))) (e ∙ ap (λ n. old ++ placed to (default_parts n (items_of (x ∷ [])))) at)
    ∙ append_assoc old (placed to (default_parts (suc i) (items_of (x ∷ [])))) (placed to (default_parts (suc (i + 1)) (items_of (drop (i + 1) items))))
    ∙ ap (λ k. old ++ (placed to (default_parts (suc i) (items_of (x ∷ []))) ++ placed to (default_parts k (items_of (drop (i + 1) items))))) k
    ∙ ap (λ ps. old ++ ps)
    (sym (placed_append to (default_parts (suc i) (items_of (x ∷ []))) (default_parts (suc (suc i)) (items_of (drop (i + 1) items)))) ∙ ap (placed to) (sym (parts_apart (suc i) x (drop (i + 1) items))))
    ∙ ap (λ xs. old ++ placed to (default_parts (suc i) (items_of xs))) (sym (item_next items i x h is)) ∙ before

pub defaults_end : (to : ℕ → ℕ) (old all : List (ℕ × ℕ)) (items : List Item) (i n : ℕ) → length items ≤ i → old ++ placed to (default_parts n (items_of (drop i items))) ≡ all → old ≡ all
defaults_end to old all items i n h before = sym (ap (λ xs. old ++ placed to (default_parts n (items_of xs))) (drop_all i items h) ∙ append-nil old) ∙ before
