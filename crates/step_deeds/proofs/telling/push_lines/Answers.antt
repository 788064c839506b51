use Rattle.std.proofs.Common.{◌≡◌, ◌∷◌, [], ◌++◌, refl, sym, ap, subst, ◌∙◌, append_assoc, append-nil, arith, length, map, w32, to_z, of_z}
use Rattle.std.proofs.lemmas.Int.{to_z-of_z}
use Rattle.std.specs.Vec.Iter.{into_iter_items}
use Rattle.spec_moo.specs.Steps.Running.{lines_to}
use Rattle.moo_task.specs.Deeds.{told_of}
use Rattle.step_deeds.proofs.ToldLines.{line_pushed, nothing_left}
use Rattle.step_deeds.proofs.telling.push_lines.Goals as goal

pub loop-line-preserved : goal.loop-line-preserved
loop-line-preserved c =
    let l = c.loop-line in
    let player = to_z w32 (of_z w32 c.args.connection) in
    let steps : into_iter_items l.line-iterator ≡ c.in-Some.line ∷ into_iter_items c.next.new.self = c.in-Some.ensures.steps.0 in (
      append_assoc l.yielded (c.in-Some.line ∷ []) _ ∙ rw (← steps) l.invariant.0,
      let was = l.invariant.1 in let gone = c.in-Some.ensures.steps.1 in let short = ap length steps in omega arith,
      line_pushed (map told_of c.args.output.now.items) l.output.items c.push.new.self.items player l.yielded (record { player = player; line = c.in-Some.line }) refl c.in_ok-push.ensures.items l.invariant.2,
    )

pub returns : goal.returns
returns c =
    let l = c.loop-line in
    let connection = to_z-of_z w32 c.args.connection c.ranges.connection in
    let empty : into_iter_items l.line-iterator ≡ [] = nothing_left _ (sym l.invariant.1 ∙ c.in-None.ensures.steps.0) in
    let all = sym (append-nil l.yielded) ∙ rw empty at l.invariant.0 ∙ c.into_iter-line-iterator.ensures.into_iter_gives.0 in
    subst (λ ls. map told_of l.output.items ≡ map told_of c.args.output.now.items ++ lines_to c.args.connection ls) all (rw connection at l.invariant.2)
