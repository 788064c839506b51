use Rattle.std.proofs.Common.{◌≡◌, ◌∙◌, ap, refl, ℤ, w32, to_z, of_z, rules}
use Rattle.moo_task.specs.Frames.{begun}
use Rattle.moo_task.proofs.Entering.{begins}
use Rattle.moo_task.proofs.begin.begin.Goals as goal

pub returns-clause-frame : goal.returns-clause-frame
returns-clause-frame c args h =
    let player : to_z w32 (of_z w32 c.args.player) ≡ c.args.player = search rules in
    begins (to_z w32 (of_z w32 c.args.player)) c.args.program c.args.call c.args.start c.args.start args _
    c.start_slots.new.slots.items c.none.result c.let_go.new.operands (c.in_ok-start_slots.ensures args h) refl c.none.ensures c.let_go.ensures
    ∙ ap (λ (z : ℤ). begun z c.args.start c.args.call c.args.program args) player
