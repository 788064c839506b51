use Rattle.std.proofs.Common.{◌≡◌, ◌∙◌, [], ◌∷◌, ◌++◌, vec_items, sym, ap, subst, arith}
use Rattle.speculate.specs.Lanes.{Each}
use Rattle.speculate.specs.Moves.{Move}
use Rattle.speculate.specs.declared.lane.Lane.{Lane}
use Rattle.speculate.proofs.Strands.{woven_next, woven_through}
use Rattle.speculate.proofs.weaving.weave.Goals as goal

pub at-preserved : goal.at-preserved
at-preserved c = record {
  len = omega arith;
  room = omega arith;
  woven = λ base end first.
      woven_next base end c.args.steps.now c.at.at (vec_items c.at.outcomes) (vec_items c.push_reserved.new.self) c.at.lanes.items c.next_told.new.lanes.items c.lane_of.result c.in-Some.told
      (c.at.invariant.woven base end first) c.requires c.in-Some.ensures
      (sym (ap (λ (m : Move). m.position) c.told.view_is) ∙ c.if-position-at.false)
      (c.push_reserved.ensures.items ∙ ap (λ (m : Move). vec_items c.at.outcomes ++ m.outcome ∷ []) c.told.view_is);
}

pub returns : goal.returns
returns c base end first =
    let used : Each (λ (l : Lane). l.told.items ≡ []) c.at.lanes.items = subst (Each (λ (l : Lane). l.told.items ≡ [])) c.as_slice-2.ensures.value (c.are_used_up.ensures c.if-not-are_used_up.false) in
    let out = woven_through base end c.args.steps.now c.at.at (vec_items c.at.outcomes) c.at.lanes.items (c.at.invariant.woven base end first) (omega arith) used in
    (out.0, out.1, omega arith)
