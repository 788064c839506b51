use Rattle.std.proofs.Common.{length, sym, ◌∙◌, refl, arith}
use Rattle.std.proofs.lemmas.Option.{slice_get_read}
use Rattle.spec_program.specs.Place.{any_list}
use Rattle.held_values.proofs.Telling.{last_kind, one_longer, first_kinds}
use Rattle.held_values.proofs.ValueKinds.{kinds_and_list}
use Rattle.held_values.proofs.held.ends_in_list.Goals as goal

pub returns-then-is_one_more-clause-kinds : goal.returns-then-is_one_more-clause-kinds
returns-then-is_one_more-clause-kinds c t kinds fit =
    let vs = c.args.held.now in
    let total = c.is_one_more.ensures.tells c.if-is_one_more.true in
    let at = slice_get_read vs (length vs) c.args.count c.index-held-count.result refl (omega (arith, total)) c.index-held-count.is in
    kinds_and_list kinds c.args.count vs c.index-held-count.result total at (sym c.is_list.ensures ∙ t) fit

pub returns-then-is_one_more-clause-finds : goal.returns-then-is_one_more-clause-finds
returns-then-is_one_more-clause-finds c kinds e h =
    c.is_list.ensures ∙ last_kind kinds c.args.count any_list c.args.held.now c.index-held-count.result e h c.index-held-count.is

pub returns-else-is_one_more-clause-finds : goal.returns-else-is_one_more-clause-finds
returns-else-is_one_more-clause-finds c kinds e h =
    let more = c.is_one_more.ensures.finds (one_longer kinds c.args.count any_list c.args.held.now e h) in
    cc (more, c.if-is_one_more.false)

pub returns-then-is_one_more-clause-first : goal.returns-then-is_one_more-clause-first
returns-then-is_one_more-clause-first c kinds e h = first_kinds kinds c.args.count any_list c.args.held.now e h

pub returns-else-is_one_more-clause-first : goal.returns-else-is_one_more-clause-first
returns-else-is_one_more-clause-first c kinds e h = first_kinds kinds c.args.count any_list c.args.held.now e h
