use Rattle.moo_task.proofs.Callers.{told_whole, told_none}
use Rattle.moo_task.proofs.task_telling.lines.traceback.Goals.{in-Some+in_ok-line+in_ok-push+in_ok-push_callers, in_default}
use Rattle.moo_task.proofs.task_telling.lines.traceback.Goals as goal

pub returns : goal.returns
returns c = elim c.match-split_first.branch [
  | in-Some+in_ok-line+in_ok-push+in_ok-push_callers w ↦
      told_whole c.push-2.new.self.items c.match-split_first.lines.items w.push.new.self.items c.in_ok-end.end w.in_ok-line.line c.args.why.now c.args.verbs.now w.in-Some.innermost.now w.in-Some.outer.now
      c.in_ok-push-2.ensures.items c.in_ok-end.ensures (rw w.lines-is w.in_ok-push_callers.ensures) (rw c.new-lines.ensures.items at w.in_ok-push.ensures.items) w.in_ok-line.ensures w.in-Some.ensures.cases.0
  | in_default w ↦
      told_none c.push-2.new.self.items c.match-split_first.lines.items c.in_ok-end.end c.args.why.now c.args.verbs.now c.in_ok-push-2.ensures.items c.in_ok-end.ensures
      (rw w.lines-is c.new-lines.ensures.items) w.in_default.ensures.cases
]
