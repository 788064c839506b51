use Rattle.std.proofs.Common.{◌≡◌, ◌+◌, ◌-◌, ◌<◌, suc, [], ◌++◌, length, drop, subst, arith}
use Rattle.std.proofs.Math.ListN.{drop_of_length-le}
use Rattle.std.proofs.lemmas.Result.{err_from_is_err_and}
use Rattle.checkpoint_lines.specs.Rows.{Left}
use Rattle.checkpoint_lines.proofs.Giving.{gives_passed}
use Rattle.checkpoint_lines.proofs.Rests.{next_of, front_of}
use Rattle.checkpoint_lines.proofs.LinesPassed.{passed_none, passed_more, are_next, over_lines}
use Rattle.checkpoint_lines.proofs.lines.Lines.next_lines.Goals as goal

pub returns-in_err-next_line-clause-reads : goal.returns-in_err-next_line-clause-reads
returns-in_err-next_line-clause-reads c = λ ts rest h l e.
    let within : c.lines._line < length ts = omega arith in
    let at = next_of ts rest c.lines._line within h in
    let memory = c.in_err-next_line.ensures.reads at.0 (drop (suc c.lines._line) ts ++ rest) at.1 (subst (λ us. Left c.lines.self us) at.2 (c.lines.invariant.0 ts rest h l e)) in
    let passed = err_from_is_err_and c.from_residual.result c.from_residual.ensures.1 in
    gives_passed c.from_residual.result passed.0 _ passed.1 (cc (passed.2, memory))

pub lines-init : goal.lines-init
lines-init c = (λ ts rest h l e. e, λ room. passed_none c.args.self.now room)

pub lines-preserved : goal.lines-preserved
lines-preserved c = (
  λ ts rest h l e.
      let within : c.lines._line < length ts = omega arith in
      let at = next_of ts rest c.lines._line within h in
      let row = c.in_ok-next_line.ensures.reads at.0 (drop (suc c.lines._line) ts ++ rest) at.1 (subst (λ us. Left c.lines.self us) at.2 (c.lines.invariant.0 ts rest h l e)) in
      let next : suc c.lines._line ≡ c.lines._line + 1 = omega arith in
      subst (λ n. Left c.next_line.new.self (drop n ts ++ rest)) next row.1,
  λ room. let passed = c.lines.invariant.1 room in passed_more c.args.self.now c.lines.self c.next_line.new.self _ c.lines._line passed (c.in_ok-next_line.ensures.tells passed.room),
)

pub returns-clause-reads : goal.returns-clause-reads
returns-clause-reads c = λ ts rest h l e.
    let over : drop c.lines._line ts ≡ [] = drop_of_length-le ts (omega arith) in
    let left : Left c.lines.self rest = subst (λ us. Left c.lines.self (us ++ rest)) over (c.lines.invariant.0 ts rest h l e) in
    let size : c.saturating_sub-length.result ≡ length c.args.self.now.left.now - length c.lines.self.left.now = omega arith in
    (front_of ts rest c.args.self.now.left.now c.lines.self.left.now c.saturating_sub-length.result e.0 left.0 size, left)

pub returns-in_err-next_line-clause-tells : goal.returns-in_err-next_line-clause-tells
returns-in_err-next_line-clause-tells c =
    let passed = err_from_is_err_and c.from_residual.result c.from_residual.ensures.1 in
    over_lines c.from_residual.result c.in_err-next_line.field-0.0 passed.0 c.args.self.now c.lines.self c.next_line.new.self c.args.count c.lines._line passed.1 passed.2 (omega arith)
    c.lines.invariant.1 c.in_err-next_line.ensures.tells

pub returns-clause-tells : goal.returns-clause-tells
returns-clause-tells c = λ room.
    are_next c.args.self.now c.lines.self c.args.count c.lines._line c.saturating_sub-length.result (c.lines.invariant.1 room) (omega arith) c.saturating_sub-length.ensures
