-- From each place something is found, since the line upwards ends.
use Rattle.std.proofs.Common.{◌≡◌, ◌<◌, ◌≤◌, ◌⊎◌, inl, inr, ℕ, ◌+◌, Bool, List, Option, Some, length, IsTrue, get_or, ap, sym, subst, ◌∙◌, arith}
use Rattle.std.proofs.lemmas.Bool.{cases_eq}
use Rattle.upwards.specs.Ways.{IsRight, IsWay, HaveWays, first_filled, nearest_of, is_known}
use Rattle.upwards.proofs.Short.{short}
use Rattle.upwards.proofs.Ways.{nearest_known, all_known}
use Rattle.upwards.specs.declared.nearest.Upwards.{Upwards}
use Rattle.upwards.specs.declared.nearest.Nearest.{Nearest}
use Rattle.upwards.specs.declared.nearest.Nearest.TheVariants.{Unknown}
use Rattle.upwards.proofs.nearest.known_everywhere.Goals as goal

-- what a search gives at a place
abbrev Searched : Upwards → ℕ → Nearest → Type 0
Searched u place found =
    (filled : List Bool) (line : List ℕ) → IsRight filled u → IsWay u.parents.items (Some place) line → length line ≤ length u.parents.items → found ≡ nearest_of (first_filled filled line)

at_place : (u : Upwards) (parents : List (Option ℕ)) (place : ℕ) (found : Nearest) → u.parents.items ≡ parents → Searched u place found → (filled : List Bool) → IsRight filled u → HaveWays parents → place < length parents
    → (line : List ℕ) × IsWay u.parents.items (Some place) line × (found ≡ nearest_of (first_filled filled line))
at_place u parents place found same search filled r lines lt =
    let w = lines place lt in
    let l = subst (λ ps. IsWay ps (Some place) w.0) (sym same) w.1 in
    (w.0, l, search filled w.0 r l (short u.parents.items (Some place) w.0 l))

none_unknown : (n : Nearest) (m : Option ℕ) → n ≡ nearest_of m → n ≡ Unknown → ⊥
none_unknown n m e u = let k : IsTrue (is_known Unknown) = subst (λ z. IsTrue (is_known z)) (sym e ∙ u) (nearest_known m) in cc

below_or_at : (i n : ℕ) → i < n + 1 → (i < n) ⊎ (i ≡ n)
below_or_at i n h = go (cases_eq i n)
  where
    go : (i ≡ n) ⊎ (i ≡ n → ⊥) → (i < n) ⊎ (i ≡ n)
    go (inl e) = inr e
    go (inr ne) = inl (omega arith)

pub returns-in-Unknown : goal.returns-in-Unknown
returns-in-Unknown c = λ filled r lines.
    let inv = c.loop-place.invariant in
    let now = inv.1 filled r lines in
    let lt : c.loop-place.place < length c.args.all.parents.items = omega (arith, c.len-place-end.ensures) in
    let found = at_place c.loop-place.all c.args.all.parents.items c.loop-place.place c.search.result inv.0 c.search.ensures filled now.0 lines lt in
    none_unknown c.search.result (first_filled filled found.0) found.2 c.in-Unknown.is

pub loop-place-preserved : goal.loop-place-preserved
loop-place-preserved c =
    let inv = c.loop-place.invariant in (
      c.note.ensures.parents ∙ inv.0,
      λ filled r lines.
          let now = inv.1 filled r lines in
          let lt : c.loop-place.place < length c.args.all.parents.items = omega (arith, c.len-place-end.ensures) in
          let found = at_place c.loop-place.all c.args.all.parents.items c.loop-place.place c.search.result inv.0 c.search.ensures filled now.0 lines lt in
          let is = found.2 in
          let known : IsTrue (is_known c.search.result) = subst (λ z. IsTrue (is_known z)) (sym is) (nearest_known (first_filled filled found.0)) in (
            c.note.ensures.right filled found.0 now.0 found.1 is,
            λ i h. go c.loop-place.all c.note.new.self c.loop-place.place i (below_or_at i c.loop-place.place h)
                (λ k. c.note.ensures.known known i (now.1 i k))
                (c.note.ensures.start known (subst (λ ps. c.loop-place.place < length ps) (sym inv.0) lt) now.0.same),
          ),
    )
  where
    go : (u v : Upwards) (place i : ℕ) → (i < place) ⊎ (i ≡ place) → (i < place → IsTrue (is_known (get_or v.nearest.items i Unknown)))
        → IsTrue (is_known (get_or v.nearest.items place Unknown)) → IsTrue (is_known (get_or v.nearest.items i Unknown))
    go u v place i (inl k) later here = later k
    go u v place i (inr e) later here = subst (λ j. IsTrue (is_known (get_or v.nearest.items j Unknown))) (sym e) here

pub returns : goal.returns
returns c = λ filled r lines.
    let inv = c.loop-place.invariant in
    let now = inv.1 filled r lines in
    let count : length c.loop-place.all.parents.items ≡ length c.args.all.parents.items = ap length inv.0 in
    (inv.0, all_known filled c.loop-place.all now.0 (λ i h. now.1 i (omega (arith, count, h, c.len-place-end.ensures, c.loop-place-test.false))))
