-- The names are gathered from one record that defines any to the next; each has a name at least, so they end in time.
use Rattle.std.proofs.Common.{◌≡◌, ◌++◌, length, IsSomeAnd, sym, ap, subst, ◌∙◌, arith}
use Rattle.std.proofs.lemmas.List.{length-append}
use Rattle.std.proofs.lemmas.Bool.{ltb-false}
use Rattle.upwards.specs.Ways.{IsWay, parents_of}
use Rattle.named_objects.specs.Ways.{defines_of, filled_of, names_at}
use Rattle.named_objects.proofs.PropertyNames.{done, more, within_parents, some_names}
use Rattle.named_objects.proofs.names.names_of.Goals as goal

pub returns-in_default : goal.returns-in_default
returns-in_default c = λ way same known l count.
    let w = c.loop-definer.invariant way same known l count in
    let e = done c.args.records.now w.1 c.loop-definer.names.items (names_at (defines_of c.args.records.now) way) c.loop-definer.definer c.in_default.is w.3 w.4 in
    subst (λ ts. IsSomeAnd c.so_many.result (λ v. v.items ≡ ts)) e (c.so_many.ensures (ap length e ∙ sym count))

pub returns-in_default-get : goal.returns-in_default-get
returns-in_default-get c = λ way same known l count.
    let w = c.loop-definer.invariant way same known l count in
    let lt = within_parents c.args.records.now (parents_of c.args.upwards.now) w.0 w.1 c.loop-definer.definer c.in-Some.place c.in-Some.is w.2 w.3 in
    absurd (omega (arith, lt, same, ltb-false c.in-Some.place (length c.args.records.now) (sym c.in_default-get.ensures.lookup.0)))

pub returns-then-saturating_sub-len : goal.returns-then-saturating_sub-len
returns-then-saturating_sub-len c = λ way same known l count.
    let w = c.loop-definer.invariant way same known l count in
    let m = more c.args.records.now (parents_of c.args.upwards.now) w.0 w.1 c.loop-definer.names.items (names_at (defines_of c.args.records.now) way) c.loop-definer.definer c.in-Some.place c.in-Some-get.record.now c.in-Some.is w.2 w.3 w.4 c.in-Some-get.ensures.lookup.3.0 c.in-Some-get.ensures.lookup.1 in
    absurd (omega (arith, m.room, count, c.len.ensures, c.saturating_sub.ensures, c.len-in-loop-definer.ensures, c.if-saturating_sub-len.true))

pub loop-definer-preserved : goal.loop-definer-preserved
loop-definer-preserved c = λ way same known l count.
    let w = c.loop-definer.invariant way same known l count in
    let m = more c.args.records.now (parents_of c.args.upwards.now) w.0 w.1 c.loop-definer.names.items (names_at (defines_of c.args.records.now) way) c.loop-definer.definer c.in-Some.place c.in-Some-get.record.now c.in-Some.is w.2 w.3 w.4 c.in-Some-get.ensures.lookup.3.0 c.in-Some-get.ensures.lookup.1 in
    let up = subst (λ o. IsWay (parents_of c.args.upwards.now) o m.later) (sym c.above.ensures) m.is_way in
    let pushed = c.in_ok-push_all.ensures ∙ ap (λ ts. c.loop-definer.names.items ++ ts) c.deref.ensures.value in
    let longer = ap length pushed ∙ length-append c.loop-definer.names.items c.in-Some-get.record.now.lists.defines.items in (
      c.above.result,
      m.later,
      up,
      c.definer-definer-in-loop-definer.ensures (filled_of c.args.records.now) m.later known up,
      ap (λ ts. ts ++ names_at (defines_of c.args.records.now) m.later) pushed ∙ m.whole,
      omega (arith, longer, m.some, w.5),
    )

pub returns-in-Some-definer : goal.returns-in-Some-definer
returns-in-Some-definer c = λ way same known l count.
    let w = c.loop-definer.invariant way same known l count in
    let some = some_names c.args.records.now (parents_of c.args.upwards.now) w.0 w.1 c.loop-definer.definer c.in-Some-definer.field-0 c.in-Some-definer.is w.2 w.3 in
    absurd (omega (arith, some, w.5, count, ap length w.4, length-append c.loop-definer.names.items (names_at (defines_of c.args.records.now) w.1), c.loop-definer-test.false))

pub returns-in-None : goal.returns-in-None
returns-in-None c = λ way same known l count.
    let w = c.loop-definer.invariant way same known l count in
    let e = done c.args.records.now w.1 c.loop-definer.names.items (names_at (defines_of c.args.records.now) way) c.loop-definer.definer c.in-None.is w.3 w.4 in
    subst (λ ts. IsSomeAnd c.so_many-in-None.result (λ v. v.items ≡ ts)) e (c.so_many-in-None.ensures (ap length e ∙ sym count))
