use Rattle.std.proofs.Common.{◌∙◌, ap, refl, subst, suc}
use Rattle.moo_task.specs.Outcomes.{around, led}
use Rattle.moo_task.specs.declared.outcome.Outcome.TheVariants.{On}
use Rattle.running.specs.Called.{shown_called, HasList}
use Rattle.running.proofs.Asked.{entered}
use Rattle.running.proofs.moo_asking.leading.led_by_call.Goals as goal

pub returns-then-verbs-ge-MOST_WAITING-clause-led : goal.returns-then-verbs-ge-MOST_WAITING-clause-led
returns-then-verbs-ge-MOST_WAITING-clause-led c s =
    ap (λ x. shown_called (around c.args.task.now s) c.args.task.now.frame.call x c.args.task.now.frame.state) c.in-Entered.is
    ∙ entered c.args.task.now s (led c.in_ok-outcome-in-Entered.outcome s c.enter.new.self) c.in_ok-end-in-Entered.end c.in-Entered.call (c.in-Entered.found.verb).program
    c.in_ok-program-in-Entered.program c.in-Entered.arguments c.in_ok-end-in-Entered.ensures c.in_ok-program-in-Entered.ensures
    (subst HasList c.in-Entered.is c.requires) (c.in_ok-outcome-in-Entered.ensures.led s)

pub returns-in_ok-enter_verb-in-Entered-clause-led : goal.returns-in_ok-enter_verb-in-Entered-clause-led
returns-in_ok-enter_verb-in-Entered-clause-led c s =
    ap (λ x. shown_called (around c.args.task.now s) c.args.task.now.frame.call x c.args.task.now.frame.state) c.in-Entered.is
    ∙ entered c.args.task.now s (led On s c.enter_verb.new.self) (suc c.args.task.now.frame.state.place) c.in-Entered.call (c.in-Entered.found.verb).program
    c.in_ok-program-in-Entered.program c.in-Entered.arguments refl c.in_ok-program-in-Entered.ensures
    (subst HasList c.in-Entered.is c.requires) (c.in_ok-enter_verb-in-Entered.ensures.led s (suc c.args.task.now.frame.state.place))
