use Rattle.std.proofs.Common.{◌≡◌, IfOk, sym, subst}
use Rattle.object_lines.specs.Held.{held_of}
use Rattle.object_lines.proofs.HeldParts.{of_items}
use Rattle.object_lines.proofs.link.held_in.Goals as goal

pub returns-in-Some-clause-reads : goal.returns-in-Some-clause-reads
returns-in-Some-clause-reads c = λ g e.
    let it = of_items g c.args.value.now c.in-Some.items.now e c.in-Some.ensures.reads (λ z. let yes = c.is_zero.ensures.1 z in cc (yes, c.if-is_zero.false)) in
    subst (λ m. IfOk c.held_items.result (λ h. h ≡ held_of m)) (sym it.1) (c.held_items.ensures.reads it.0 it.2)
