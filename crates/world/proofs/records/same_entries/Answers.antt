use Rattle.std.proofs.Common.{◌≤◌, ◌<◌, ap, ◌∙◌, Some, refl, arith}
use Rattle.world.proofs.Walks.{same_at_first, same_behind, found_reaches, found_within, one_ends, one_entry, both_end}
use Rattle.world.proofs.records.same_entries.Goals as goal
use Rattle.world.proofs.records.same_entries.Goals.{then-number-other_number-via-then-number-other_number, then-number-other_number-via-else-number-other_number+then-not-is_same}

pub loop-number-init : goal.loop-number-init
loop-number-init g c = record { within = omega arith; same = same_at_first _ _ }

pub returns-in_default-next_from : goal.returns-in_default-next_from
returns-in_default-next_from g c = (λ h. absurd (cc), λ e. absurd (one_ends _ _ _ _ c.in-Some.ensures c.in_default-next_from.ensures e))

pub returns-then-number-other_number : goal.returns-then-number-other_number
returns-then-number-other_number g c =
    let one = λ (e : _). one_entry c.loop-number.key c.args.a.now.entries c.args.b.now.entries (c.in-Some.number, c.in-Some.record.now) (c.in-Some-next_from.other_number, c.in-Some-next_from.other.now) c.in-Some.ensures c.in-Some-next_from.ensures e in
    elim c.then-number-other_number.branch [
      | then-number-other_number-via-then-number-other_number w ↦ (λ h. absurd (cc), λ e. absurd (w.if-number-other_number.true (ap (λ p. p.0) (one e))))
      | then-number-other_number-via-else-number-other_number+then-not-is_same w ↦ (λ h. absurd (cc), λ e. w.if-not-is_same.ensures.1 (ap (λ p. p.1) (one e)))
    ]

pub overflow_add-key : goal.overflow_add-key
overflow_add-key g c =
    let below : c.in-Some.number < 4294967296 = found_within 4294967296 c.loop-number.key c.args.a.now.entries (c.in-Some.number, c.in-Some.record.now) c.requires c.in-Some.ensures in
    omega arith

pub loop-number-smaller : goal.loop-number-smaller
loop-number-smaller g c =
    let below : c.in-Some.number < 4294967296 = found_within 4294967296 c.loop-number.key c.args.a.now.entries (c.in-Some.number, c.in-Some.record.now) c.requires c.in-Some.ensures in
    let above : c.loop-number.key ≤ c.in-Some.number = found_reaches c.loop-number.key c.args.a.now.entries (c.in-Some.number, c.in-Some.record.now) c.in-Some.ensures in
    omega arith

pub loop-number-preserved : goal.loop-number-preserved
loop-number-preserved g c =
    let below : c.in-Some.number < 4294967296 = found_within 4294967296 c.loop-number.key c.args.a.now.entries (c.in-Some.number, c.in-Some.record.now) c.requires c.in-Some.ensures in
    record {
      within = omega arith;
      same =
          same_behind c.loop-number.key c.args.a.now.entries c.args.b.now.entries (c.in-Some.number, c.in-Some.record.now) c.len.ensures.sorted c.len-2.ensures.sorted c.in-Some.ensures
          (ap Some (λ i. (c.if-number-other_number.false i, c.if-not-is_same.ensures.0 refl i)) ∙ c.in-Some-next_from.ensures) c.loop-number.invariant.same;
    }

pub returns : goal.returns
returns g c = both_end _ _ _ _ _ _ c.is_none.ensures c.in_default.ensures c.next_from-2.ensures c.loop-number.invariant.same
