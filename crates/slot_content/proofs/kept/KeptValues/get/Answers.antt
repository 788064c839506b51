use Rattle.std.proofs.Common.{◌≡◌, ◌<◌, length, ap, refl, ◌∙◌, arith}
use Rattle.std.specs.List.{slice_get}
use Rattle.std.proofs.lemmas.Option.{slice_get_read}
use Rattle.slot_content.proofs.Pieces.{read_same, copied}
use Rattle.slot_content.proofs.kept.KeptValues.get.Goals as goal

pub index-requires : goal.index-requires
index-requires c =
    let same = read_same _ _ _ (rw c.deref.ensures at c.in-Some.ensures) c.self.invariant.values c.self.invariant.room in
    omega (arith, c.in-Some.values.now.ok, ap length same, ap length c.self.view_is, c.requires)

pub returns-in-Some : goal.returns-in-Some
returns-in-Some c =
    let same = read_same _ _ _ (rw c.deref.ensures at c.in-Some.ensures) c.self.invariant.values c.self.invariant.room in
    let whole : c.args.self.now ≡ c.in-Some.values.now.items = cc (same, c.self.view_is) in
    let inside : c.args.place < length c.in-Some.values.now.items = omega (arith, c.requires, ap length whole) in
    copied _ c.clone.result _ c.index.result.now c.clone.ensures.cases (ap (λ vs. slice_get vs c.args.place) whole ∙ slice_get_read _ _ _ _ refl inside c.index.ensures)
