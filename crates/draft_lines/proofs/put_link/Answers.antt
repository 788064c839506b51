use Rattle.std.proofs.Common.{◌≡◌, Some, ◌∙◌, rules, w32, SFits, to_z, of_z}
use Rattle.std.proofs.lemmas.Int.{to_z-of_z}
use Rattle.spec_world.specs.Questions.{put_record}
use Rattle.draft_objects.proofs.Puts.{on_ok}
use Rattle.draft_lines.proofs.put_link.Goals as goal

pub returns : goal.returns
returns c =
    let fits : SFits w32 c.args.entry.0 = search rules in
    let back : to_z w32 (of_z w32 c.args.entry.0) ≡ c.args.entry.0 = to_z-of_z w32 c.args.entry.0 fits in
    on_ok c.put.result c.put.ensures.ok (λ e. e ∙ (λ i. record (c.args.draft.now) { links = put_record c.args.draft.now.links (back i) (Some c.args.entry.1) }))
