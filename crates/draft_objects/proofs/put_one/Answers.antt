use Rattle.std.proofs.Common.{◌≡◌, Some, rules, ap, ◌∙◌, w32, SFits, to_z, of_z}
use Rattle.std.proofs.lemmas.Int.{to_z-of_z}
use Rattle.spec_world.specs.Questions.{put_record}
use Rattle.named_objects.specs.Told.{Told}
use Rattle.draft_objects.proofs.Puts.{on_ok}
use Rattle.draft_objects.proofs.put_one.Goals as goal

pub returns : goal.returns
returns c = λ w o x h is told_so names.
    let same = c.in_ok-object.ensures w o x h is told_so names in
    let fits : SFits w32 c.args.record.number = search rules in
    let number : to_z w32 (of_z w32 c.args.record.number) ≡ o = to_z-of_z w32 c.args.record.number fits ∙ ap (λ (t : Told). t.number) told_so in
    on_ok c.put.result c.put.ensures.ok (λ e. e ∙ (λ i. record (c.args.draft.now) { objects = put_record c.args.draft.now.objects (number i) (Some (same i)) }))
