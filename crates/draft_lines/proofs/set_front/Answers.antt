use Rattle.std.proofs.Common.{◌≡◌, ◌∙◌, rules, w32, SFits, to_z, of_z}
use Rattle.std.proofs.lemmas.Int.{to_z-of_z}
use Rattle.draft_objects.proofs.Puts.{on_ok}
use Rattle.draft_lines.proofs.Fronts.{next_stays}
use Rattle.draft_lines.proofs.set_front.Goals as goal

pub returns : goal.returns
returns c = λ one low high.
    let stays = next_stays c.args.next c.args.draft.now.next one low high in
    let fits : SFits w32 c.args.greatest = search rules in
    let back : to_z w32 (of_z w32 c.args.greatest) ≡ c.args.greatest = to_z-of_z w32 c.args.greatest fits in
    let numbered = c.in_ok-put.ensures.ok ∙ (λ i. record (c.args.draft.now) { next = stays i }) in
    let greatest = c.set_greatest.ensures ∙ (λ i. record (numbered i) { greatest = back i }) in
    on_ok c.put-2.result c.put-2.ensures.ok (λ e. e ∙ (λ i. record (greatest i) { ending = c.args.is_ending }))
