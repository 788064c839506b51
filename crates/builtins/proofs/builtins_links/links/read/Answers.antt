use Rattle.std.proofs.Common.{◌≡◌, None, sym, ◌∙◌, rules, w32, to_z, of_z}
use Rattle.std.proofs.lemmas.Int.{to_z-of_z}
use Rattle.builtins.proofs.BuiltinsLinksRows.{reads_not, reads_unlinked, reads_taken, reads_line}
use Rattle.builtins.proofs.builtins_links.links.read.Goals as goal

pub returns-then-not-allowed-clause-left : goal.returns-then-not-allowed-clause-left
returns-then-not-allowed-clause-left g c =
    let player = to_z-of_z w32 c.args.player c.ranges.player in
    let programmer = to_z-of_z w32 c.args.programmer c.ranges.programmer in
    reads_not g.V.View.holds g.V.View.now c.args.deeds.now c.args.programmer c.args.player c.args.view.now c.may.new.view (rw (player, programmer, c.if-not-allowed.true) at c.in_ok-allowed.ensures.left)

pub returns-in_default-clause-left : goal.returns-in_default-clause-left
returns-in_default-clause-left g c =
    let player = to_z-of_z w32 c.args.player c.ranges.player in
    let programmer = to_z-of_z w32 c.args.programmer c.ranges.programmer in
    let none : c.in_ok-link.field-0 ≡ None = first_of (search rules, cc) in
    reads_unlinked g.V.View.holds g.V.View.now c.args.deeds.now c.args.programmer c.args.player c.args.view.now c.may.new.view c.connection.new.view
    (rw (player, programmer, c.if-not-allowed.false) at c.in_ok-allowed.ensures.left) (rw (player, none) at c.in_ok-link.ensures.left)

pub returns-then-is_some-clause-left : goal.returns-then-is_some-clause-left
returns-then-is_some-clause-left g c =
    let player = to_z-of_z w32 c.args.player c.ranges.player in
    let programmer = to_z-of_z w32 c.args.programmer c.ranges.programmer in
    let link : to_z w32 (of_z w32 c.in-Some.link) ≡ c.in-Some.link = search rules in
    reads_taken g.V.View.holds g.V.View.now c.args.deeds.now c.args.programmer c.args.player c.args.view.now c.may.new.view c.connection.new.view c.reader.new.view c.in-Some.link c.in_ok-other.other
    (sym c.is_some.ensures ∙ c.if-is_some.true) (rw (player, programmer, c.if-not-allowed.false) at c.in_ok-allowed.ensures.left) (rw (player, c.in-Some.is) at c.in_ok-link.ensures.left)
    (rw link at c.in_ok-other.ensures.left)

pub returns-clause-left : goal.returns-clause-left
returns-clause-left g c =
    let player = to_z-of_z w32 c.args.player c.ranges.player in
    let programmer = to_z-of_z w32 c.args.programmer c.ranges.programmer in
    let link : to_z w32 (of_z w32 c.in-Some.link) ≡ c.in-Some.link = search rules in
    reads_line g.V.View.holds g.V.View.now c.args.deeds.now c.args.programmer c.args.player c.args.view.now c.may.new.view c.connection.new.view c.reader.new.view c.wait_for_line.new.deeds c.in-Some.link
    c.in_ok-other.other c.in_ok-effect.effect (sym c.is_some.ensures ∙ c.if-is_some.false) (rw (player, programmer, c.if-not-allowed.false) at c.in_ok-allowed.ensures.left)
    (rw (player, c.in-Some.is) at c.in_ok-link.ensures.left) (rw link at c.in_ok-other.ensures.left) (rw link at c.in_ok-effect.ensures)
