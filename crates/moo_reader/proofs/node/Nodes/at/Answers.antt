use Rattle.std.proofs.Common.{length, ap, arith}
use Rattle.std.proofs.lemmas.List.{length-map}
use Rattle.moo_reader.specs.Marks.{node_at}
use Rattle.moo_reader.proofs.Marks.{place_within}
use Rattle.moo_reader.proofs.node.Nodes.at.Goals as goal

pub overflow_sub-result : goal.overflow_sub-result
overflow_sub-result c =
    let viewed = ap (λ x. length x) c.self.view_is in
    let as_many = length-map c.self.inside.marks.items (node_at c.self.inside.base) in
    let asked = c.requires in
    place_within c.self.inside.base c.self.inside.marks.items c.args.place c.index-mark.result.now c.self.invariant
    (omega (arith, viewed, as_many, asked)) c.index-mark.ensures
