use Rattle.std.proofs.Common.{◌≡◌, ◌≤◌, ◌<◌, ℤ, suc, ◌+◌, List, [], ◌∷◌, ◌++◌, length, map, drop, ap, sym, subst, ◌∙◌, arith}
use Rattle.std.proofs.Math.ListN.{drop_of_length-le}
use Rattle.std.proofs.lemmas.List.{append-nil, length-append}
use Rattle.std.proofs.lemmas.Result.{err_from_is_err_and}
use Rattle.spec_world.specs.World.{Object}
use Rattle.spec_world.specs.Checkpoint.{each_object}
use Rattle.checkpoint_lines.specs.Rows.{Left}
use Rattle.checkpoint_lines.proofs.Giving.{gives_passed}
use Rattle.named_objects.specs.Told.{told, shown_object}
use Rattle.named_objects.proofs.Tables.{found_at}
use Rattle.object_lines.specs.Readable.{is_object_read}
use Rattle.object_lines.specs.Between.{AreBetween}
use Rattle.object_lines.proofs.Lists.{next_at, holds_at}
use Rattle.object_lines.proofs.ObjectParts.{objects_on}
use Rattle.object_lines.proofs.Between.{from_same, one_more_between, counts}
use Rattle.checkpoint_lines.proofs.Going.{passed_on, one_fails, all_of_them, no_memory}
use Rattle.spec_faults.specs.Awaited.{again}
use Rattle.spec_faults.specs.Awaited as awaited
use Rattle.object_lines.proofs.objects.next_objects.Goals as goal

pub reading-init : goal.reading-init
reading-init c =
    let parts = c.into_parts-records in
    let left = sym (parts.ensures.place.0 ∙ c.in_ok-joined.ensures.place.0) in
    let count = sym (parts.ensures.place.1 ∙ c.in_ok-joined.ensures.place.1) in
    let many = parts.ensures.many in
    let most = c.in_ok-joined.ensures.most in
    let done = c.len-done.ensures in (
      from_same c.args.lines.now parts.result.0 parts.result.1 parts.result.2.items left count parts.ensures.between,
      (omega (arith, many, most, done), omega (arith, many, most, done)),
    )

pub returns-in_err-record-clause-reads : goal.returns-in_err-record-clause-reads
returns-in_err-record-clause-reads c = λ w rest f h n l.
    let i = length c.reading.records.items in
    let inv = c.reading.invariant in
    let within : i < length w.objects = omega (arith, inv.1) in
    let before = inv.0.reads w 0 rest f h (omega (arith, within)) l in
    let same : 0 + i ≡ i = omega arith in
    let left = subst (λ k. Left c.reading.lines (each_object w (drop k w.objects) ++ rest)) same before.0 in
    let at = next_at w.objects i within in
    let there = found_at w.objects i (at.0).0 (at.0).1 f.objects_in_order at.1 in
    let later : List (ℤ × Object) = drop (suc i) w.objects in
    let here = subst (λ us. Left c.reading.lines us) (objects_on w at.0 later rest) (subst (λ us. Left c.reading.lines (each_object w us ++ rest)) at.2 left) in
    let memory = c.in_err-record.ensures.reads w (at.0).0 (at.0).1 (each_object w later ++ rest) f there (holds_at is_object_read w.objects i at.0 at.1 h) here in
    let passed = err_from_is_err_and c.from_residual-in_err-record.result c.from_residual-in_err-record.ensures.1 in
    gives_passed c.from_residual-in_err-record.result passed.0 _ passed.1 (cc (passed.2, memory))

pub returns-in_err-record-clause-tells : goal.returns-in_err-record-clause-tells
returns-in_err-record-clause-tells c =
    let inv = c.reading.invariant in
    let some = counts c.args.lines.now c.reading.lines c.reading.records.items c.args.count c.reading._object inv.1.0 inv.1.1 inv.0 in
    let passed = err_from_is_err_and c.from_residual-in_err-record.result c.from_residual-in_err-record.ensures.1 in
    passed_on c.from_residual-in_err-record.result passed.0 _ c.args.lines.now _ (again c.args.count awaited.each_object ∷ []) (λ _. []) passed.1 passed.2
    (one_fails _ c.args.lines.now c.reading.lines c.args.count c.reading._object awaited.each_object (omega arith) some c.in_err-record.ensures.tells)

pub returns-in_err-push-clause-tells : goal.returns-in_err-push-clause-tells
returns-in_err-push-clause-tells c =
    let passed = err_from_is_err_and c.from_residual-in_err-push.result c.from_residual-in_err-push.ensures.1 in
    no_memory c.from_residual-in_err-push.result passed.0 c.args.lines.now _ (again c.args.count awaited.each_object ∷ []) (λ _. []) passed.1 passed.2

pub reading-preserved : goal.reading-preserved
reading-preserved c =
    let inv = c.reading.invariant in
    let rs = c.reading.records.items in
    let r = c.in_ok-record.record in
    let items : c.push.new.self.items ≡ rs ++ r ∷ [] = c.in_ok-push.ensures.items in
    let long : length c.push.new.self.items ≡ length rs + length (r ∷ []) = ap length items ∙ length-append rs (r ∷ []) in (
      subst (λ ts. AreBetween c.args.lines.now c.next_object.new.lines ts) (sym items)
          (one_more_between c.args.lines.now c.reading.lines c.next_object.new.lines rs r inv.0 c.in_ok-record.ensures.reads c.in_ok-record.ensures.tells),
      (omega (arith, long, inv.1), omega (arith, inv.1)),
    )

pub returns-clause-reads : goal.returns-clause-reads
returns-clause-reads c = λ w rest f h n l.
    let rs = c.reading.records.items in
    let inv = c.reading.invariant in
    let past : length w.objects ≤ 0 + length rs = omega (arith, inv.1) in
    let whole = inv.0.reads w 0 rest f h (omega (arith, inv.1)) l in
    let none = drop_of_length-le w.objects past in
    let left : Left c.reading.lines rest = subst (λ us. Left c.reading.lines (each_object w us ++ rest)) none whole.0 in
    (record { well_formed = f; all = sym (append-nil (map told rs)) ∙ ap (λ es. map told rs ++ map (shown_object w) es) (sym none) ∙ whole.1 }, left)

pub returns-clause-tells : goal.returns-clause-tells
returns-clause-tells c =
    let inv = c.reading.invariant in
    let some = counts c.args.lines.now c.reading.lines c.reading.records.items c.args.count c.reading._object inv.1.0 inv.1.1 inv.0 in
    all_of_them c.args.lines.now c.reading.lines c.args.count c.reading._object awaited.each_object (omega arith) some
