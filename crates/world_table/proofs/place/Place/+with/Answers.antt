use Rattle.std.proofs.Common.{◌-◌, sym, ap, ◌∙◌, arith}
use Rattle.std.proofs.lemmas.List.{get_or_read, get_or_past}
use Rattle.world_table.specs.Branch.{Branch, nowhere}
use Rattle.world_table.proofs.Rows.{put_record, put_branch, put_block, child_branch}
use Rattle.world_table.proofs.place.Place.+with.Goals as goal

pub returns-then-levels-eq0-clause-entries : goal.returns-then-levels-eq0-clause-entries
returns-then-levels-eq0-clause-entries g t c = c.of_record.ensures.entries ∙ put_record c.args.levels c.args.key _ _ c.requires.branch c.if-levels-eq0.true

pub with-requires : goal.with-requires
with-requires g t c κs within =
    let child = child_branch (c.args.levels - 1) _ _ _ c.places-places.ensures.row.branches c.if-at-places.true c.index-places-at.is in
    (omega arith, (within, (child, (omega arith, omega arith))))

pub changed-requires-clause-branch : goal.changed-requires-clause-branch
changed-requires-clause-branch g t c =
    let child = child_branch (c.args.levels - 1) _ _ _ c.places-places.ensures.row.branches c.if-at-places.true c.index-places-at.is in
    put_branch _ _ _ _ _ child c.in_ok-branch.ensures.height c.in_ok-branch.ensures.entries

pub returns-in_ok-branch-clause-entries : goal.returns-in_ok-branch-clause-entries
returns-in_ok-branch-clause-entries g t c =
    let same = ap (λ (b : Branch g.row.R.Denot). b.entries) (get_or_read _ _ _ c.if-at-places.true c.index-places-at.is nowhere) in
    let whole = put_block c.args.levels c.args.key c.index_of-at.result c.args.value.value c.places-places.result.now c.in_ok-branch.branch c.index-places-at.result c.args.self.now.entries
    (omega arith) c.places-places.ensures.row.branches c.index_of-at.ensures.value same c.in_ok-branch.ensures.entries c.places-places.ensures.entries in
    rw whole at c.changed.ensures.entries

pub returns-in_ok-branch-2-clause-entries : goal.returns-in_ok-branch-2-clause-entries
returns-in_ok-branch-2-clause-entries g t c =
    let same = c.nothing.ensures.entries ∙ sym (ap (λ (b : Branch g.row.R.Denot). b.entries) (get_or_past c.places-places.result.now c.index_of-at.result nowhere (omega arith))) in
    let whole = put_block c.args.levels c.args.key c.index_of-at.result c.args.value.value c.places-places.result.now c.in_ok-branch-2.branch c.nothing.result c.args.self.now.entries
    (omega arith) c.places-places.ensures.row.branches c.index_of-at.ensures.value same c.in_ok-branch-2.ensures.entries c.places-places.ensures.entries in
    rw whole at c.changed-else-at-places.ensures.entries
