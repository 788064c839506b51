use Rattle.std.proofs.Common.{◌≡◌, ◌∙◌, sym, true, codes}
use Rattle.spec_value.specs.Datum.{same_text}
use Rattle.local_code.proofs.Oks.{if_ok}
use Rattle.running.proofs.Steps.{calls_there}
use Rattle.running.proofs.moo_run.calling.call.Goals as goal

pub returns-then-passes-clause-calls : goal.returns-then-passes-clause-calls
returns-then-passes-clause-calls g c =
    let passes : same_text c.args.name.now (codes "pass") ≡ true = sym c.is_pass-passes.ensures ∙ c.if-passes.true in
    if_ok _ _ c.pass.result
    (λ o asks. calls_there g.V.View.holds g.V.View.now c.args.view.now c.pass.new.view c.args.deeds.now c.args.task.now c.pass.new.task c.args.name.now o
    (λ w h. let x = asks w h in (x.0, x.1 c.args.name.now passes)))
    c.pass.ensures.led
