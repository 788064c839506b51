use Rattle.std.proofs.Common.{◌≡◌, ◌∙◌, ◌<◌, ◌∷◌, [], ap, sym, arith}
use Rattle.moo_code.specs.Instruction.{in_loop}
use Rattle.moo_task.specs.declared.moo_machine.leaving.Leaving.TheVariants.{Broken, Continued}
use Rattle.moo_task.specs.Meant.{leaving_meant, failure_meant}
use Rattle.local_code.specs.Offers.{handler, offered, goes_on}
use Rattle.local_code.proofs.Offering.{loop_broken, loop_continued, broken_on, continued_on, loop_returned, loop_failed}
use Rattle.local_code.proofs.moo_unwind.offer.to_loop.Goals as goal

pub returns-else-loops-gt0-clause-shown : goal.returns-else-loops-gt0-clause-shown
returns-else-loops-gt0-clause-shown c a k out first hs =
    let none : c.in-Broken.loops ≡ 0 = omega arith in
    ap (λ l. offered a k out (handler first c.args.past c.args.height c.args.held ((0, c.args.end) ∷ []) in_loop ∷ hs) (leaving_meant l) c.args.state.now)
    (c.in-Broken.is ∙ ap (λ n. Broken n) none)
    ∙ loop_broken a k out c.args.state.now first c.args.past c.args.height c.args.held hs c.requires.held c.args.end
    ∙ ap (λ ops. goes_on a k out (record (c.args.state.now) { place = c.args.end; operands = ops })) (sym c.fall.ensures)

pub returns-else-loops-gt0-2-clause-shown : goal.returns-else-loops-gt0-2-clause-shown
returns-else-loops-gt0-2-clause-shown c a k out first hs =
    let none : c.in-Continued.loops ≡ 0 = omega arith in
    ap (λ l. offered a k out (handler first c.args.past c.args.height c.args.held ((0, c.args.end) ∷ []) in_loop ∷ hs) (leaving_meant l) c.args.state.now)
    (c.in-Continued.is ∙ ap (λ n. Continued n) none)
    ∙ loop_continued a k out c.args.state.now first c.args.past c.args.height c.args.held hs c.requires.held c.args.end
    ∙ ap (λ ops. goes_on a k out (record (c.args.state.now) { place = c.args.past; operands = ops })) (sym c.keep_lowest.ensures)

pub returns-then-loops-gt0-clause-shown : goal.returns-then-loops-gt0-clause-shown
returns-then-loops-gt0-clause-shown c a k out first hs =
    let some : 0 < c.in-Broken.loops = omega arith in
    rw c.in-Broken.is (broken_on a k out c.args.state.now first c.args.past c.args.height c.args.held hs c.requires.held c.args.end c.in-Broken.loops some)

pub returns-then-loops-gt0-2-clause-shown : goal.returns-then-loops-gt0-2-clause-shown
returns-then-loops-gt0-2-clause-shown c a k out first hs =
    let some : 0 < c.in-Continued.loops = omega arith in
    rw c.in-Continued.is (continued_on a k out c.args.state.now first c.args.past c.args.height c.args.held hs c.requires.held c.args.end c.in-Continued.loops some)

pub returns-in-Returned-clause-shown : goal.returns-in-Returned-clause-shown
returns-in-Returned-clause-shown c a k out first hs = rw c.in-Returned.is (loop_returned a k out c.args.state.now first c.args.past c.args.height c.args.held hs c.requires.held c.args.end c.in-Returned.value)

pub returns-in-Failed-clause-shown : goal.returns-in-Failed-clause-shown
returns-in-Failed-clause-shown c a k out first hs = rw c.in-Failed.is (loop_failed a k out c.args.state.now first c.args.past c.args.height c.args.held hs c.requires.held c.args.end (failure_meant c.in-Failed.failure))
