use Rattle.checkpoint_text.proofs.Nested.{first_comes}
use Rattle.checkpoint_text.proofs.checkpoint_fields.page.Page.open_list.Goals as goal

pub returns-in_ok-push-in-Some : goal.returns-in_ok-push-in-Some
returns-in_ok-push-in-Some c =
    first_comes c.args.self.now c.put.new.self c.in-Some.first.now c.in-Some.rest c.args.begun.now.items c.push.new.self.items c.args.items.now
    c.in_ok-put.ensures c.in_ok-push-in-Some.ensures.items c.in-Some.ensures.cases.0
