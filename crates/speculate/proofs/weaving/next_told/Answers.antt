use Rattle.std.proofs.Common.{◌≡◌, ◌++◌, Option, None, Some, IfSome, slice_get, slice_set, refl, arith, length}
use Rattle.std.specs.Option.{option_to_list}
use Rattle.std.proofs.lemmas.Option.{slice_get_read}
use Rattle.speculate.specs.Lanes.{IsTaken}
use Rattle.speculate.specs.Moves.{Move}
use Rattle.speculate.specs.declared.lane.Lane.{Lane}
use Rattle.speculate.proofs.Strands.{taken}
use Rattle.speculate.proofs.weaving.next_told.Goals as goal

pub returns : goal.returns
returns c = go c.pop.result c.pop.ensures.items
  where
    left : Lane
    left = record c.index_mut.result.now { told = c.pop.new.self }

    was : slice_get c.args.lanes.now.items c.args.lane ≡ Some c.index_mut.result.now
    was = slice_get_read c.args.lanes.now.items (length c.args.lanes.now.items) c.args.lane c.index_mut.result.now refl (omega arith) c.index_mut.ensures.value

    go : (r : Option Move) → c.index_mut.result.now.told.items ≡ c.pop.new.self.items ++ option_to_list r
        → IfSome r (λ t. IsTaken c.args.lanes.now.items c.args.lane t (slice_set c.args.lanes.now.items c.args.lane left))
    go None e = tt
    go (Some t) e = taken c.args.lanes.now.items (slice_set c.args.lanes.now.items c.args.lane left) c.args.lane c.index_mut.result.now left t was refl refl refl e
