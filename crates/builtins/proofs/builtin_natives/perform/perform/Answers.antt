use Rattle.builtins_view.specs.Requests.{request_of, said_of}
use Rattle.builtins_view.specs.declared.builtin_requests.request.Request.TheVariants.{Asks, Changes, OfItself, Acts, Calls}
use Rattle.builtins.proofs.Acts.{known_so}
use Rattle.builtins.proofs.builtin_natives.perform.perform.Goals as goal

pub returns-in_ok-asked-in-Asks-clause-does : goal.returns-in_ok-asked-in-Asks-clause-does
returns-in_ok-asked-in-Asks-clause-does g c =
    known_so g.V.View.holds g.V.View.now c.args.view.now c.asked.new.view c.args.task.now (λ z. said_of (request_of z)) c.args.deeds.now c.args.deeds.now c.in_ok-asked-in-Asks.field-0 c.args.request (Asks c.in-Asks.asking) c.in-Asks.is c.in_ok-asked-in-Asks.ensures.does

pub returns-in_ok-changed-in-Changes-clause-does : goal.returns-in_ok-changed-in-Changes-clause-does
returns-in_ok-changed-in-Changes-clause-does g c =
    known_so g.V.View.holds g.V.View.now c.args.view.now c.changed.new.view c.args.task.now (λ z. said_of (request_of z)) c.args.deeds.now c.args.deeds.now c.in_ok-changed-in-Changes.field-0 c.args.request (Changes c.in-Changes.changing) c.in-Changes.is c.in_ok-changed-in-Changes.ensures.does

pub returns-in_ok-about_itself-in-OfItself-clause-does : goal.returns-in_ok-about_itself-in-OfItself-clause-does
returns-in_ok-about_itself-in-OfItself-clause-does g c =
    known_so g.V.View.holds g.V.View.now c.args.view.now c.args.view.now c.args.task.now (λ z. said_of (request_of z)) c.args.deeds.now c.about_itself.new.deeds c.in_ok-about_itself-in-OfItself.field-0 c.args.request (OfItself c.in-OfItself.own) c.in-OfItself.is (λ w left. (left, c.in_ok-about_itself-in-OfItself.ensures (g.V.View.now c.args.view.now w)))

pub returns-in_ok-act-in-Acts-clause-does : goal.returns-in_ok-act-in-Acts-clause-does
returns-in_ok-act-in-Acts-clause-does g c =
    known_so g.V.View.holds g.V.View.now c.args.view.now c.act.new.view c.args.task.now (λ z. said_of (request_of z)) c.args.deeds.now c.act.new.deeds c.in_ok-act-in-Acts.field-0 c.args.request (Acts c.in-Acts.acting) c.in-Acts.is c.in_ok-act-in-Acts.ensures.does

pub returns-in_ok-call_verb-in-Calls-clause-does : goal.returns-in_ok-call_verb-in-Calls-clause-does
returns-in_ok-call_verb-in-Calls-clause-does g c =
    known_so g.V.View.holds g.V.View.now c.args.view.now c.call_verb.new.view c.args.task.now (λ z. said_of (request_of z)) c.args.deeds.now c.call_verb.new.deeds c.in_ok-call_verb-in-Calls.field-0 c.args.request (Calls c.in-Calls.calling) c.in-Calls.is c.in_ok-call_verb-in-Calls.ensures.does
