-- Each place on the way, of which nothing is known, has the same nearest record as the start.
use Rattle.std.proofs.Common.{◌<◌, ◌≡◌, ℕ, zero, suc, [], length, set, Some, None, IsTrue, get_or, refl, ap, sym, subst, ◌∙◌, arith}
use Rattle.std.proofs.Math.ListN.{length-set}
use Rattle.upwards.specs.Ways.{IsWay, nearest_of, is_known}
use Rattle.upwards.proofs.Ways.{go_on, right_unknown, noted_right, noted_known, noted_here}
use Rattle.upwards.specs.declared.nearest.Upwards.{Upwards}
use Rattle.upwards.specs.declared.nearest.Nearest.{Nearest}
use Rattle.upwards.specs.declared.nearest.Nearest.TheVariants.{Unknown}
use Rattle.upwards.proofs.nearest.Upwards.note.Goals as goal

-- of the start something is known after the first step
started : (u v : Upwards) (start place step : ℕ) (n : Nearest) → (same : v.parents.items ≡ u.parents.items) → (now : v.nearest.items ≡ set u.nearest.items place n) → IsTrue (is_known n) → start < length u.nearest.items
    → (step ≡ 0 → place ≡ start) → (0 < step → IsTrue (is_known (get_or u.nearest.items start Unknown))) → IsTrue (is_known (get_or v.nearest.items start Unknown))
started u v start place zero n same now k there first later =
    let e = first refl in
    subst (λ i. IsTrue (is_known (get_or v.nearest.items i Unknown))) e
    (subst (λ m. IsTrue (is_known m)) (sym (noted_here [] u v place n same now (subst (λ i. i < length u.nearest.items) (sym e) there))) k)
started u v start place (suc step) n same now k there first later = noted_known [] u v place n same now k start (later (omega arith))

pub returns-in-None-clause-right : goal.returns-in-None-clause-right
returns-in-None-clause-right c = λ filled line r h found.
    let inv = c.loop-step.invariant in
    let w = inv.right filled line r h found in
    noted_right filled c.loop-step.self c.set.new.self c.loop-step.place c.args.found c.set.ensures.parents c.set.ensures.nearest w.0 w.1.0
    (subst (λ ps. IsWay ps (Some c.loop-step.place) w.1.0) (sym inv.parents) w.1.1) (found ∙ ap nearest_of (sym w.1.2))

pub returns-in-None-clause-known : goal.returns-in-None-clause-known
returns-in-None-clause-known c = λ k i h. noted_known [] c.loop-step.self c.set.new.self c.loop-step.place c.args.found c.set.ensures.parents c.set.ensures.nearest k i (c.loop-step.invariant.known k i h)

pub returns-in-None-clause-start : goal.returns-in-None-clause-start
returns-in-None-clause-start c = λ k there same.
    let inv = c.loop-step.invariant in
    let within : c.args.start < length c.args.self.now.nearest.items = omega arith in
    started c.loop-step.self c.set.new.self c.args.start c.loop-step.place c.loop-step._step c.args.found c.set.ensures.parents c.set.ensures.nearest k (omega (arith, inv.count)) inv.first (λ lt. inv.start lt k within)

pub loop-step-preserved : goal.loop-step-preserved
loop-step-preserved c =
    let inv = c.loop-step.invariant in
    record {
      parents = c.set.ensures.parents ∙ inv.parents;
      count = ap length c.set.ensures.nearest ∙ length-set c.loop-step.self.nearest.items c.loop-step.place c.args.found ∙ inv.count;
      right = λ filled line r h found.
          let w = inv.right filled line r h found in
          let l = subst (λ ps. IsWay ps (Some c.loop-step.place) w.1.0) (sym inv.parents) w.1.1 in
          let empty = right_unknown filled c.loop-step.self w.0 c.loop-step.place w.1.0 l c.known.result c.known.ensures c.in-Unknown.is in
          let f = go_on filled c.loop-step.self.parents.items c.loop-step.place c.in-Some.parent w.1.0 l empty (c.in-Some.ensures ∙ ap (λ ps. get_or ps c.loop-step.place None) c.set.ensures.parents) in (
            noted_right filled c.loop-step.self c.set.new.self c.loop-step.place c.args.found c.set.ensures.parents c.set.ensures.nearest w.0 w.1.0 l (found ∙ ap nearest_of (sym w.1.2)),
            (f.later, subst (λ ps. IsWay ps (Some c.in-Some.parent) f.later) inv.parents f.is_way, f.finds ∙ w.1.2),
          );
      known = λ k i h. noted_known [] c.loop-step.self c.set.new.self c.loop-step.place c.args.found c.set.ensures.parents c.set.ensures.nearest k i (inv.known k i h);
      first = λ e. absurd (omega (arith, e));
      start = λ lt k within.
          started c.loop-step.self c.set.new.self c.args.start c.loop-step.place c.loop-step._step c.args.found c.set.ensures.parents c.set.ensures.nearest k (omega (arith, inv.count)) inv.first (λ lt. inv.start lt k within);
    }
