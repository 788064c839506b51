-- How many items a layout adds to a draft, and how much code.
use Rattle.std.proofs.Common.{Bool, ◌≡◌, ℕ, ◌+◌, ◌-◌, length, reverse, sym, ap, ◌∙◌, arith}
use Rattle.std.proofs.lemmas.List.{length-map, length-reverse}
use Rattle.moo_code.specs.Layout.{Layout, stop, own, inner, gap, size}
use Rattle.moo_program.specs.declared.moo_bytecode.draft.Draft.{Draft}
use Rattle.moo_program.specs.Drafting.{State, state, item_of, over, count, with_part, with_close}

pub items_over : (l : Layout) (s : State) → length (over l s).0 ≡ count l + length s.0
items_over stop s = omega arith
items_over (own op ns l) s = omega (arith, items_over l s)
items_over (inner k a l) s = omega (arith, items_over a (with_close k.reception k.caught (over l s)), items_over l s)
items_over (gap l) s = omega (arith, items_over l s)

pub size_over : (l : Layout) (s : State) → (over l s).1 ≡ size l + s.1
size_over stop s = omega arith
size_over (own op ns l) s = omega (arith, size_over l s)
size_over (inner k a l) s = omega (arith, size_over a (with_close k.reception k.caught (over l s)), size_over l s)
size_over (gap l) s = size_over l s

items_are : (d : Draft) → length (state d).0 ≡ length d.items.items
items_are d = length-map (reverse d.items.items) item_of ∙ length-reverse d.items.items

-- a part that was put since a mark
pub closed : (l : Layout) (before after : Draft) (items size_before : ℕ) (o : Bool) → state after ≡ over l (state before) → items ≡ length before.items.items → size_before ≡ before.size
    → with_part o (length after.items.items - items) (after.size - size_before) (state after) ≡ with_part o (count l) (size l) (over l (state before))
closed l before after items size_before o e n m =
    let a : length after.items.items ≡ count l + length before.items.items = sym (items_are after) ∙ ap (λ s. length s.0) e ∙ items_over l (state before) ∙ ap (λ k. count l + k) (items_are before) in
    let b : after.size ≡ size l + before.size = ap (λ s. s.1) e ∙ size_over l (state before) in
    let c : length after.items.items - items ≡ count l = omega (arith, a, n) in
    let d : after.size - size_before ≡ size l = omega (arith, b, m) in
    ap (λ c. with_part o c (after.size - size_before) (state after)) c ∙ ap (λ d. with_part o (count l) d (state after)) d ∙ ap (with_part o (count l) (size l)) e
