use Rattle.std.proofs.Common.{◌≡◌, ◌++◌, Some, not, sym, ap, ◌∙◌, rules, w32, to_z, of_z}
use Rattle.std.proofs.lemmas.Int.{to_z-of_z}
use Rattle.spec_world.specs.Inherit.{ancestors}
use Rattle.spec_world.specs.Questions.{header_at}
use Rattle.rules.specs.Lines.{from}
use Rattle.rules.proofs.Walks.{line_ends, line_goes_on, nearer_by}
use Rattle.rules.proofs.Tellings.{known_on, told_on, nearer_told}
use Rattle.rules.proofs.inherit.line.ancestors.Goals as goal

pub returns-then-is_none-clause-left : goal.returns-then-is_none-clause-left
returns-then-is_none-clause-left g c =
    let object = to_z-of_z w32 c.args.object c.ranges.object in
    let at : to_z w32 (of_z w32 c.in-Some.at) ≡ c.in-Some.at = search rules in
    told_on g.V.View.holds g.V.View.now c.args.view.now c.loop-next.view c.read_header.new.view
    (λ w. ancestors w c.args.object ≡ c.loop-next.line.items ++ from w (Some c.in-Some.at)) (λ w. header_at w c.in-Some.at ≡ c.in_ok-header.header) (λ w. ancestors w c.args.object ≡ c.loop-next.line.items)
    c.requires.well_formed (rw (c.in-Some.is, object) at c.loop-next.invariant.left) (rw at at c.in_ok-header.ensures.left)
    (λ w sound so is. line_ends w c.in-Some.at c.in_ok-header.header (ancestors w c.args.object) c.loop-next.line.items sound so is (ap not (c.is_none.ensures ∙ ap not c.if-is_none.true)))

pub loop-next-smaller-in_ok-push : goal.loop-next-smaller-in_ok-push
loop-next-smaller-in_ok-push g c =
    let object = to_z-of_z w32 c.args.object c.ranges.object in
    let at : to_z w32 (of_z w32 c.in-Some.at) ≡ c.in-Some.at = search rules in
    rw c.in-Some.is (nearer_told g.V.View.holds g.V.View.now g.V.View.home c.loop-next.view c.read_header.new.view (λ w. header_at w c.in-Some.at ≡ c.in_ok-header.header) c.parent_in-next.result (Some c.in-Some.at)
    c.loop-next.invariant.well_formed (rw at at c.in_ok-header.ensures.left) c.in_ok-header.ensures.lasts.home_is_left c.in_ok-header.ensures.lasts.home_stays
    (λ w sound is. nearer_by w c.in-Some.at c.in_ok-header.header c.parent_in-next.result sound is c.parent_in-next.ensures))

pub loop-next-preserved-in_ok-push : goal.loop-next-preserved-in_ok-push
loop-next-preserved-in_ok-push g c =
    let object = to_z-of_z w32 c.args.object c.ranges.object in
    let at : to_z w32 (of_z w32 c.in-Some.at) ≡ c.in-Some.at = search rules in
    record {
      anchor = c.in_ok-header.ensures.lasts.anchor_stays ∙ c.loop-next.invariant.anchor;
      home = c.in_ok-header.ensures.lasts.home_stays ∙ c.loop-next.invariant.home;
      there = c.in_ok-header.ensures.lasts.home_is_left;
      well_formed = known_on g.V.View.holds g.V.View.now c.loop-next.view c.read_header.new.view (λ w. header_at w c.in-Some.at ≡ c.in_ok-header.header) c.loop-next.invariant.well_formed (rw at at c.in_ok-header.ensures.left);
      left =
          rw object (told_on g.V.View.holds g.V.View.now c.args.view.now c.loop-next.view c.read_header.new.view
          (λ w. ancestors w c.args.object ≡ c.loop-next.line.items ++ from w (Some c.in-Some.at)) (λ w. header_at w c.in-Some.at ≡ c.in_ok-header.header) (λ w. ancestors w c.args.object ≡ c.push.new.self.items ++ from w c.parent_in-next.result)
          c.requires.well_formed (rw (c.in-Some.is, object) at c.loop-next.invariant.left) (rw at at c.in_ok-header.ensures.left)
          (λ w sound so is. line_goes_on w c.in-Some.at c.in_ok-header.header c.parent_in-next.result (ancestors w c.args.object) c.loop-next.line.items sound so is (ap not (c.is_none.ensures ∙ ap not c.if-is_none.false)) c.parent_in-next.ensures
          ∙ ap (λ items. items ++ from w c.parent_in-next.result) (sym (rw at at c.in_ok-push.ensures.items))));
    }
