use Rattle.std.proofs.Common.{◌≡◌, Some, None, true, false, refl, sym, ap, ◌∙◌, subst, rules, w32, to_z, of_z}
use Rattle.std.specs.Ordering.{int_eq}
use Rattle.std.proofs.lemmas.Int.{to_z-of_z, of_z-to_z}
use Rattle.spec_value.proofs.Same.{integer_itself}
use Rattle.spec_world.specs.World.{Header}
use Rattle.spec_world.specs.Questions.{header_at}
use Rattle.spec_world.specs.Whereabouts.{is_inside}
use Rattle.rules.proofs.Tellings.{known_on, told_as, told_before, told_on}
use Rattle.builtins.proofs.Parents.{unlike}
use Rattle.builtins.proofs.Ways.{nearer_told, met, left_out, further}
use Rattle.builtins.proofs.builtins_staged.places.is_inside.Goals as goal

pub loop-next-init : goal.loop-next-init
loop-next-init g c =
    let what = to_z-of_z w32 c.args.what c.ranges.what in
    let place = to_z-of_z w32 c.args.place c.ranges.place in
    record {
      anchor = refl;
      home = refl;
      there = c.requires.home;
      well_formed = c.requires.well_formed;
      left = rw (what, place) (told_before g.V.View.holds g.V.View.now c.args.view.now (λ w. is_inside w c.args.what c.args.place ≡ is_inside w c.args.what c.args.place) (λ w is. refl));
    }

pub returns-in_default-clause-left : goal.returns-in_default-clause-left
returns-in_default-clause-left g c =
    let what = to_z-of_z w32 c.args.what c.ranges.what in
    let place = to_z-of_z w32 c.args.place c.ranges.place in
    let next = c.loop-next.next-is in
    let bits : of_z w32 c.loop-next.next ≡ c.loop-next.next-bits = ap (of_z w32) (sym c.loop-next.next-is) ∙ of_z-to_z w32 c.loop-next.next-bits c.loop-next.auto.next-fits.fits in
    let far : int_eq c.args.what c.loop-next.next ≡ false = unlike c.args.what c.loop-next.next (λ e. c.loop-next-test.true (sym (ap (of_z w32) e ∙ bits))) in
    told_on g.V.View.holds g.V.View.now c.args.view.now c.loop-next.view c.read_header.new.view (λ w. is_inside w c.args.what c.args.place ≡ is_inside w c.args.what c.loop-next.next) (λ w. header_at w c.loop-next.next ≡ None) (λ w. is_inside w c.args.what c.args.place ≡ false)
    c.requires.well_formed (rw (what, place, next) at c.loop-next.invariant.left) (rw (next, c.in_default.is) at c.in_ok-header.ensures.left)
    (λ w sound so none. so ∙ left_out w c.args.what c.loop-next.next far none)

pub loop-next-smaller : goal.loop-next-smaller
loop-next-smaller g c =
    let what = to_z-of_z w32 c.args.what c.ranges.what in
    let place = to_z-of_z w32 c.args.place c.ranges.place in
    let next = c.loop-next.next-is in
    let bits : of_z w32 c.loop-next.next ≡ c.loop-next.next-bits = ap (of_z w32) (sym c.loop-next.next-is) ∙ of_z-to_z w32 c.loop-next.next-bits c.loop-next.auto.next-fits.fits in
    let far : int_eq c.args.what c.loop-next.next ≡ false = unlike c.args.what c.loop-next.next (λ e. c.loop-next-test.true (sym (ap (of_z w32) e ∙ bits))) in
    let whole : to_z w32 (of_z w32 c.header.inside.location) ≡ c.header.inside.location = search rules in
    let at : to_z w32 (of_z w32 c.header.inside.location) ≡ c.in-Some.header.location = whole ∙ ap (λ (h : Header). h.location) c.header.view_is in
    rw (at, next) (nearer_told g.V.View.holds g.V.View.now g.V.View.home c.loop-next.view c.read_header.new.view (λ w. header_at w c.loop-next.next ≡ Some c.in-Some.header) (c.in-Some.header).location c.loop-next.next
    c.loop-next.invariant.well_formed (rw (next, c.in-Some.is) at c.in_ok-header.ensures.left) c.in_ok-header.ensures.lasts.home_is_left c.in_ok-header.ensures.lasts.home_stays
    (λ w sound is. (further w sound c.args.what c.loop-next.next c.in-Some.header far is).1))

pub loop-next-preserved : goal.loop-next-preserved
loop-next-preserved g c =
    let what = to_z-of_z w32 c.args.what c.ranges.what in
    let place = to_z-of_z w32 c.args.place c.ranges.place in
    let next = c.loop-next.next-is in
    let bits : of_z w32 c.loop-next.next ≡ c.loop-next.next-bits = ap (of_z w32) (sym c.loop-next.next-is) ∙ of_z-to_z w32 c.loop-next.next-bits c.loop-next.auto.next-fits.fits in
    let far : int_eq c.args.what c.loop-next.next ≡ false = unlike c.args.what c.loop-next.next (λ e. c.loop-next-test.true (sym (ap (of_z w32) e ∙ bits))) in
    let whole : to_z w32 (of_z w32 c.header.inside.location) ≡ c.header.inside.location = search rules in
    let at : to_z w32 (of_z w32 c.header.inside.location) ≡ c.in-Some.header.location = whole ∙ ap (λ (h : Header). h.location) c.header.view_is in
    record {
      anchor = c.in_ok-header.ensures.lasts.anchor_stays ∙ c.loop-next.invariant.anchor;
      home = c.in_ok-header.ensures.lasts.home_stays ∙ c.loop-next.invariant.home;
      there = c.in_ok-header.ensures.lasts.home_is_left;
      well_formed = known_on g.V.View.holds g.V.View.now c.loop-next.view c.read_header.new.view (λ w. header_at w c.loop-next.next ≡ Some c.in-Some.header) c.loop-next.invariant.well_formed (rw (next, c.in-Some.is) at c.in_ok-header.ensures.left);
      left =
          rw (what, place, at) (told_on g.V.View.holds g.V.View.now c.args.view.now c.loop-next.view c.read_header.new.view (λ w. is_inside w c.args.what c.args.place ≡ is_inside w c.args.what c.loop-next.next) (λ w. header_at w c.loop-next.next ≡ Some c.in-Some.header)
          (λ w. is_inside w c.args.what c.args.place ≡ is_inside w c.args.what (c.in-Some.header).location)
          c.requires.well_formed (rw (what, place, next) at c.loop-next.invariant.left) (rw (next, c.in-Some.is) at c.in_ok-header.ensures.left)
          (λ w sound so is. so ∙ (further w sound c.args.what c.loop-next.next c.in-Some.header far is).0));
    }

pub returns-clause-left : goal.returns-clause-left
returns-clause-left g c =
    let what = to_z-of_z w32 c.args.what c.ranges.what in
    let place = to_z-of_z w32 c.args.place c.ranges.place in
    let next = c.loop-next.next-is in
    let same : c.args.what ≡ c.loop-next.next = sym what ∙ ap (to_z w32) (sym c.loop-next-test.false) ∙ next in
    let here : int_eq c.args.what c.loop-next.next ≡ true = subst (λ z. int_eq c.args.what z ≡ true) same (integer_itself c.args.what) in
    told_as g.V.View.holds g.V.View.now c.args.view.now c.loop-next.view (λ w. is_inside w c.args.what c.args.place ≡ is_inside w c.args.what c.loop-next.next) (λ w. is_inside w c.args.what c.args.place ≡ true)
    c.requires.well_formed (rw (what, place, next) at c.loop-next.invariant.left) (λ w sound so. so ∙ met w c.args.what c.loop-next.next here)
