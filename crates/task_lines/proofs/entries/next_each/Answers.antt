use Rattle.std.proofs.Common.{◌≡◌, suc, Bool, min, ◌^◌, if◌then◌else◌, ◌+◌, ◌==◌, ◌∷◌, [], ◌++◌, map, ap, sym, subst, IsTrue, ◌∙◌, append_assoc, false, ◌-◌, arith}
use Rattle.std.proofs.lemmas.List.{map-append}
use Rattle.std.proofs.lemmas.Result.{err_from_is_err_and}
use Rattle.spec_world.specs.Checkpoint.{entry_lines}
use Rattle.moo_task.specs.Frames.{outer_of}
use Rattle.checkpoint_lines.specs.Rows.{Left}
use Rattle.checkpoint_lines.proofs.Giving.{gives_passed}
use Rattle.task_lines.specs.Entries.{lines_of, may_follow, outer_for, is_native, is_native_outer}
use Rattle.task_lines.proofs.Loops.{next_entry, no_longer_first, one_more, native_outer, verbs_more}
use Rattle.spec_faults.specs.Awaited as awaited
use Rattle.task_lines.proofs.Telling.{tells_passed}
use Rattle.checkpoint_lines.proofs.Going.{Goes}
use Rattle.task_lines.specs.declared.entry.Place.{Place}
use Rattle.task_lines.specs.Awaiting.{verbs_behind}
use Rattle.task_lines.proofs.EntryTold.{last_is, first_is, verbs_on, verbs_before, entry_failed, one_entered, all_entered}
use Rattle.task_lines.proofs.entries.next_each.Goals as goal

pub returns-in_err-entry-clause-reads : goal.returns-in_err-entry-clause-reads
returns-in_err-entry-clause-reads c = λ es rest h f n l.
    let inv = c.entries.invariant.0 es rest h f n l in
    let next = next_entry c.args.is_fork c.entries.index c.args.count c.entries.is_behind_native c.entries.verbs inv.0 c.entries-test.true inv.2 inv.3 inv.4 in
    let here = subst (λ ys. Left c.entries.lines (lines_of ys ++ rest)) next.are inv.5 in
    let on = subst (Left c.entries.lines) (append_assoc (entry_lines next.entry) (lines_of next.rest) rest) here in
    let memory = c.in_err-entry.ensures.reads next.entry (lines_of next.rest ++ rest) next.reads next.stands on in
    let passed = err_from_is_err_and c.from_residual.result c.from_residual.ensures.1 in
    gives_passed c.from_residual.result passed.0 _ passed.1 (cc (passed.2, memory))

pub entries-preserved : goal.entries-preserved
entries-preserved c =
    let there : Place = record { is_fork = c.args.is_fork; is_first = c.entries.index == 0; is_last = c.entries.index + 1 == c.args.count; is_behind_native = c.entries.is_behind_native; verbs = c.entries.verbs } in
    let is_other : Bool = is_native_outer (outer_of c.in_ok-entry.entry) in
    let so_many : c.verbs_with-verbs.result ≡ verbs_behind c.entries.verbs is_other =
    c.verbs_with-verbs.ensures ∙ ap (λ b. if b then c.entries.verbs else min (c.entries.verbs + 1) (2 ^ 32 - 1)) c.is_native-is_behind_native.ensures ∙ verbs_on there is_other c.in_ok-entry.ensures.stands in (
      λ es rest h f n l.
          let inv = c.entries.invariant.0 es rest h f n l in
          let next = next_entry c.args.is_fork c.entries.index c.args.count c.entries.is_behind_native c.entries.verbs inv.0 c.entries-test.true inv.2 inv.3 inv.4 in
          let here = subst (λ ys. Left c.entries.lines (lines_of ys ++ rest)) next.are inv.5 in
          let on = subst (Left c.entries.lines) (append_assoc (entry_lines next.entry) (lines_of next.rest) rest) here in
          let entry = c.in_ok-entry.ensures.reads next.entry (lines_of next.rest ++ rest) next.reads next.stands on in
          let native = c.is_native-is_behind_native.ensures ∙ native_outer c.args.is_fork next.entry (outer_of c.in_ok-entry.entry) entry.0 in
          let pushed = ap (map outer_of) c.in_ok-push.ensures.items ∙ map-append outer_of c.entries.entries.items (c.in_ok-entry.entry ∷ []) in
          let verbs =
          c.verbs_with-verbs.ensures
          ∙ verbs_more c.args.is_fork (c.entries.index == 0) (c.entries.index + 1 == c.args.count) c.entries.is_behind_native c.entries.verbs next.entry c.is_native-is_behind_native.result native next.stands in
          let follows =
          subst (λ b. IsTrue (may_follow c.args.is_fork b c.is_native-is_behind_native.result c.verbs_with-verbs.result next.rest)) (no_longer_first c.entries.index)
          (subst (λ b. IsTrue (may_follow c.args.is_fork false b c.verbs_with-verbs.result next.rest)) (sym native)
          (subst (λ v. IsTrue (may_follow c.args.is_fork false (is_native next.entry) v next.rest)) (sym verbs) next.follows)) in
          let all =
          one_more (map outer_of c.entries.entries.items) (map outer_of c.push.new.self.items) (map (outer_for c.args.is_fork) es) (outer_of c.in_ok-entry.entry) (outer_for c.args.is_fork) next.entry next.rest inv.0 pushed entry.0
          next.are inv.1 in
          (next.rest, all, next.left, next.all, follows, entry.1),
      first_is c.entries.index ∙ sym (ap (λ v. v == 0) so_many ∙ verbs_before there is_other c.entries.invariant.1 c.in_ok-entry.ensures.stands),
      one_entered c.args.is_fork c.args.lines.now c.entries.lines c.args.count c.entries.index c.entries.verbs c.entries.is_behind_native c.entries.invariant.2 c.entries-test.true c.next_entry.new.lines c.verbs_with-verbs.result c.is_native-is_behind_native.result
          (subst (λ v. Goes c.entries.lines c.next_entry.new.lines (awaited.entry c.args.is_fork c.entries.verbs c.entries.is_behind_native (suc (c.args.count - (c.entries.index + 1))) ∷ []) (awaited.entry c.args.is_fork v c.is_native-is_behind_native.result (c.args.count - (c.entries.index + 1)) ∷ [])) (sym so_many)
          (subst (λ b. Goes c.entries.lines c.next_entry.new.lines (awaited.entry c.args.is_fork c.entries.verbs c.entries.is_behind_native (suc (c.args.count - (c.entries.index + 1))) ∷ []) (awaited.entry c.args.is_fork (verbs_behind c.entries.verbs is_other) b (c.args.count - (c.entries.index + 1)) ∷ [])) (sym c.is_native-is_behind_native.ensures)
          (c.in_ok-entry.ensures.tells (c.args.count - (c.entries.index + 1)) (record { first = c.entries.invariant.1; last = last_is c.entries.index c.args.count c.entries-test.true })))),
    )

pub returns-in_err-entry-clause-tells : goal.returns-in_err-entry-clause-tells
returns-in_err-entry-clause-tells c =
    let passed = err_from_is_err_and c.from_residual.result c.from_residual.ensures.1 in
    tells_passed c.from_residual.result passed.0 c.in_err-entry.field-0.0 c.args.lines.now _ (awaited.entry c.args.is_fork 0 false c.args.count ∷ []) (λ _. []) passed.1 (cc (passed.2))
    (entry_failed c.args.is_fork c.args.lines.now c.entries.lines c.args.count c.entries.index c.entries.verbs c.entries.is_behind_native c.entries.invariant.2 c.entries-test.true c.in_err-entry.field-0.0 (c.in_err-entry.ensures.tells (c.args.count - (c.entries.index + 1)) (record { first = c.entries.invariant.1; last = last_is c.entries.index c.args.count c.entries-test.true })))

pub returns-clause-tells : goal.returns-clause-tells
returns-clause-tells c = all_entered c.args.is_fork c.args.lines.now c.entries.lines c.args.count c.entries.index c.entries.verbs c.entries.is_behind_native c.entries.invariant.2 (omega (arith, c.entries-test.false))
