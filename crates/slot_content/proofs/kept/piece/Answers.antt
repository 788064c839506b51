use Rattle.std.proofs.Common.{◌+◌, length, IsTrue, ap, sym, subst, ◌∙◌, arith, pos}
use Rattle.spec_value.specs.Datum.{integer, is_text}
use Rattle.slot_content.proofs.Pieces.{marks_length, marks_within, marks_ordered, literals_text, mark_is, front_is, back_is, piece_at}
use Rattle.slot_content.proofs.kept.piece.Goals as goal

pub index-requires : goal.index-requires
index-requires c = omega (arith, c.args.kept.now.marks.ok, ap length c.requires.kept.marks, marks_length 0 c.args.kept.now.values.value.items, c.requires.place)

pub index-requires-2 : goal.index-requires-2
index-requires-2 c = omega (arith, c.args.kept.now.marks.ok, ap length c.requires.kept.marks, marks_length 0 c.args.kept.now.values.value.items, c.requires.place)

pub front-requires-clause-text : goal.front-requires-clause-text
front-requires-clause-text c = subst (λ t. IsTrue (is_text t)) (sym (c.as_str.ensures.value ∙ c.requires.kept.text)) (literals_text c.args.kept.now.values.value.items c.requires.kept.values)

pub front-requires-clause-count : goal.front-requires-clause-count
front-requires-clause-count c =
    let vs = c.args.kept.now.values.value.items in
    let end = mark_is _ vs (c.args.place + 1) _ c.requires.kept.marks (omega (arith, c.requires.place)) c.index-2.ensures in
    omega (arith, end, marks_within vs (c.args.place + 1), ap length (c.as_str.ensures.value ∙ c.requires.kept.text))

pub back-requires-clause-count : goal.back-requires-clause-count
back-requires-clause-count c =
    let vs = c.args.kept.now.values.value.items in
    let start = mark_is _ vs c.args.place _ c.requires.kept.marks (omega (arith, c.requires.place)) c.index.ensures in
    let end = mark_is _ vs (c.args.place + 1) _ c.requires.kept.marks (omega (arith, c.requires.place)) c.index-2.ensures in
    let front = c.front.ensures.value ∙ front_is _ vs (c.args.place + 1) _ (c.as_str.ensures.value ∙ c.requires.kept.text) end in
    omega (arith, start, ap length front, marks_ordered vs c.args.place (integer (pos 0)) c.requires.place)

pub returns : goal.returns
returns c =
    let vs = c.args.kept.now.values.value.items in
    let start = mark_is _ vs c.args.place _ c.requires.kept.marks (omega (arith, c.requires.place)) c.index.ensures in
    let end = mark_is _ vs (c.args.place + 1) _ c.requires.kept.marks (omega (arith, c.requires.place)) c.index-2.ensures in
    let front = c.front.ensures.value ∙ front_is _ vs (c.args.place + 1) _ (c.as_str.ensures.value ∙ c.requires.kept.text) end in
    piece_at vs c.args.place _ (integer (pos 0)) c.requires.place c.requires.kept.values (c.back.ensures.value ∙ back_is _ vs c.args.place _ (integer (pos 0)) c.requires.place front start)
