use Rattle.std.proofs.Common.{◌≡◌, ◌∙◌, get_or, vec_len, sym, ap, arith}
use Rattle.std.proofs.lemmas.Bool.{eqb-true}
use Rattle.std.proofs.lemmas.List.{nil_from_length}
use Rattle.speculate.specs.declared.lane.Lane.{Lane}
use Rattle.speculate.proofs.Strands.{used_more, used_all}
use Rattle.speculate.proofs.weaving.are_used_up.Goals as goal

pub lane-init : goal.lane-init
lane-init c i a below there = absurd (omega (arith, below))

pub lane-preserved : goal.lane-preserved
lane-preserved c =
    let l : Lane = get_or c.args.lanes.now c.lane.lane c.index-lanes-lane.result in
    let none : vec_len l.told ≡ 0 = eqb-true (vec_len l.told) 0 (sym c.is_empty.ensures ∙ c.if-not-is_empty.false) in
    used_more c.args.lanes.now c.lane.lane c.index-lanes-lane.result (omega arith) c.index-lanes-lane.is
    (ap (λ (x : Lane). x.told.items) c.index-lanes-lane.is ∙ nil_from_length l.told.items (omega (arith, l.told.ok.0))) c.lane.invariant

pub returns : goal.returns
returns c done = used_all c.args.lanes.now c.lane.lane (omega arith) c.lane.invariant
