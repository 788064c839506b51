use Rattle.std.proofs.Common.{◌≡◌, ◌∙◌, ap, ◌++◌, ℕ, None, arith}
use Rattle.std.specs.Prelude.{replicate}
use Rattle.moo_task.proofs.begin.put_own.Goals as goal

pub returns : goal.returns
returns c =
    let all : c.own._name ≡ c.args.own = omega (arith, c.own-test.false, c.own.auto._name-end) in
    c.own.invariant ∙ ap (λ (n : ℕ). c.args.slots.now.items ++ replicate n None) all
