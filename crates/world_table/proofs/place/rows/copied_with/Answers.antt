use Rattle.std.proofs.Common.{◌≡◌, ◌-◌, ◌++◌, List, ◌∷◌, [], take, length, replicate, ap, ◌∙◌, arith}
use Rattle.std.proofs.lemmas.List.{take_min}
use Rattle.std.proofs.lemmas.Slice.{between_to_end}
use Rattle.world_table.specs.Branch.{Branch, nowhere}
use Rattle.world_table.proofs.Rows.{with_built, with_last}
use Rattle.world_table.proofs.place.rows.copied_with.Goals as goal
use Rattle.world_table.proofs.place.rows.copied_with.Goals.{then-at-places+in_ok-share_onto-2, else-at-places}

pub returns : goal.returns
returns g c =
    let bs = c.args.places.now in
    let before = c.min-before.result in
    let first : take before bs ≡ take c.args.at bs = ap (λ n. take n bs) c.min-before.ensures ∙ take_min c.args.at bs in
    let front : c.push_reserved.new.self.items ≡ take c.args.at bs ++ replicate (c.args.at - before) nowhere ++ c.args.branch ∷ [] =
    c.push_reserved.ensures.items ∙ ap (λ (ds : List (Branch g.row.R.Denot)). ds ++ c.args.branch ∷ [])
    (c.push_vacant.ensures.items ∙ ap (λ (ds : List (Branch g.row.R.Denot)). ds ++ replicate (c.args.at - before) nowhere)
    (c.in_ok-share_onto.ensures.items ∙ ap (λ (ds : List (Branch g.row.R.Denot)). ds ++ take before bs) c.in_ok-copies.ensures.items ∙ first)) in
    let missing : c.args.at - before ≡ c.args.at - length bs = omega (arith, c.min-before.ensures) in
    elim c.if-at-places.branch [
      | then-at-places+in_ok-share_onto-2 w ↦ ap (λ v. v.items) w.copies-is
          ∙ w.in_ok-share_onto-2.ensures.items
          ∙ with_built c.args.at _ bs c.push_reserved.new.self.items _ c.args.branch missing front (between_to_end bs _ _ (omega arith))
      | else-at-places w ↦ ap (λ v. v.items) w.copies-is ∙ with_last c.args.at _ bs c.push_reserved.new.self.items c.args.branch missing (omega (arith, w.if-at-places)) front
    ]
