use Rattle.std.proofs.Common.{◌∙◌, ap, not, w32}
use Rattle.std.proofs.lemmas.Int.{to_z-of_z}
use Rattle.builtins.proofs.BuiltinsLinksRows.{refused_absent, refused_denied, not_refused}
use Rattle.builtins.proofs.builtins_links.acting.refusal.Goals as goal

pub returns-then-is_none-clause-left : goal.returns-then-is_none-clause-left
returns-then-is_none-clause-left g c =
    let object = to_z-of_z w32 c.args.object c.ranges.object in
    let programmer = to_z-of_z w32 c.args.programmer c.ranges.programmer in
    refused_absent g.V.View.holds g.V.View.now c.args.programmer c.args.object c.in_ok-header.header c.args.view.now c.read_header.new.view (c.is_none.ensures ∙ ap not c.if-is_none.true)
    (rw object at c.in_ok-header.ensures.left)

pub returns-then-not-allowed-clause-left : goal.returns-then-not-allowed-clause-left
returns-then-not-allowed-clause-left g c =
    let object = to_z-of_z w32 c.args.object c.ranges.object in
    let programmer = to_z-of_z w32 c.args.programmer c.ranges.programmer in
    refused_denied g.V.View.holds g.V.View.now c.args.programmer c.args.object c.in_ok-header.header c.args.view.now c.read_header.new.view c.may.new.view (c.is_none.ensures ∙ ap not c.if-is_none.false)
    (rw object at c.in_ok-header.ensures.left) (rw (object, programmer, c.if-not-allowed.true) at c.in_ok-allowed.ensures.left)

pub returns-clause-left : goal.returns-clause-left
returns-clause-left g c =
    let object = to_z-of_z w32 c.args.object c.ranges.object in
    let programmer = to_z-of_z w32 c.args.programmer c.ranges.programmer in
    not_refused g.V.View.holds g.V.View.now c.args.programmer c.args.object c.in_ok-header.header c.args.view.now c.read_header.new.view c.may.new.view (c.is_none.ensures ∙ ap not c.if-is_none.false)
    (rw object at c.in_ok-header.ensures.left) (rw (object, programmer, c.if-not-allowed.false) at c.in_ok-allowed.ensures.left)
