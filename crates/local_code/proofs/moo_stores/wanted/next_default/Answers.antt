use Rattle.std.proofs.Common.{◌∙◌, ◌<◌, sym, arith, length}
use Rattle.local_code.proofs.Wanting.{passes}
use Rattle.local_code.proofs.moo_stores.wanted.next_default.Goals as goal

pub loop-i-preserved : goal.loop-i-preserved
loop-i-preserved c names vs h =
    let in_items : c.loop-i.i < length c.args.items.now = omega arith in
    c.loop-i.invariant names vs h
    ∙ passes names c.args.items.now vs c.loop-i.i _ in_items h (sym c.is_default.ensures ∙ c.if-is_default.false)
