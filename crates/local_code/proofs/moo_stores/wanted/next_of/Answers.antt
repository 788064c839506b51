use Rattle.std.proofs.Common.{sym, subst, map}
use Rattle.moo_program.specs.Counts.{kind_meant}
use Rattle.moo_program.specs.Meaning.{part_meant}
use Rattle.local_code.specs.Wanting.{IsLeftOut}
use Rattle.local_code.proofs.Wanting.{wants}
use Rattle.local_code.proofs.moo_stores.wanted.next_of.Goals as goal

pub returns-in_ok-place : goal.returns-in_ok-place
returns-in_ok-place c xs count =
    let items = c.as_slice-items.result.now in
    let out : IsLeftOut (map kind_meant items) c.in_ok-item.item c.args.count =
    subst (λ is. IsLeftOut (map kind_meant is) c.in_ok-item.item c.args.count) (sym c.as_slice-items.ensures.value) (c.is_left_out.ensures c.if-is_left_out.true) in
    rw (← c.as_slice-items.ensures.value, ← c.as_slice-parts.ensures.value)
    (wants items (map part_meant c.as_slice-parts.result.now) c.args.done c.in_ok-item.item c.args.count c.in_ok-place.place xs c.in_ok-item.ensures.within c.in_ok-item.ensures.next out
    count c.in_ok-place.ensures)
