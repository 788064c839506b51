use Rattle.std.proofs.Common.{◌≡◌, ◌∙◌, ap, sym, drop, map, true, false}
use Rattle.spec_value.specs.Datum.{same_text}
use Rattle.spec_value.specs.Table.{named}
use Rattle.moo_task.proofs.Next.{next_place}
use Rattle.moo_task.specs.Variables.{variable_of}
use Rattle.moo_task.proofs.Finding.{found_at}
use Rattle.moo_task.proofs.variables.find_among.Goals as goal

pub returns-then-eq : goal.returns-then-eq
returns-then-eq c =
    let v = c.variable-item.result in
    let same : same_text c.args.name.now v.name ≡ true = ap (same_text c.args.name.now) (sym c.as_str.ensures) ∙ sym c.eq.ensures ∙ c.if-eq.true in
    sym (found_at c.args.variables.now c.loop-variable.variable-index v c.args.name.now true c.loop-variable-test.true c.variable-item.is same)
    ∙ c.loop-variable.invariant

pub loop-variable-preserved : goal.loop-variable-preserved
loop-variable-preserved c =
    let v = c.variable-item.result in
    let other : same_text c.args.name.now v.name ≡ false = ap (same_text c.args.name.now) (sym c.as_str.ensures) ∙ sym c.eq.ensures ∙ c.if-eq.false in
    ap (λ k. named (map variable_of (drop k c.args.variables.now)) c.args.name.now) (next_place c.loop-variable.variable-index)
    ∙ sym (found_at c.args.variables.now c.loop-variable.variable-index v c.args.name.now false c.loop-variable-test.true c.variable-item.is other)
    ∙ c.loop-variable.invariant
