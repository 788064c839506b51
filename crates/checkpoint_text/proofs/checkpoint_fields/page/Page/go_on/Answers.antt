use Rattle.checkpoint_text.proofs.Nested.{next_comes}
use Rattle.checkpoint_text.proofs.checkpoint_fields.page.Page.go_on.Goals as goal

pub returns-in_ok-push-in-Some : goal.returns-in_ok-push-in-Some
returns-in_ok-push-in-Some c =
    next_comes c.args.self.now c.put.new.self c.in-Some.next.now c.in-Some.rest c.args.begun.now.items c.push.new.self.items c.args.rest.now
    c.in_ok-put-in-Some.ensures c.in_ok-push-in-Some.ensures.items c.in-Some.ensures.cases.0
