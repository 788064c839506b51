use Rattle.std.proofs.Common.{◌≡◌, ◌∙◌, ap, ◌∷◌, ℤ, w32, to_z, of_z, rules}
use Rattle.spec_world.specs.World.{Start}
use Rattle.moo_code.specs.Machine.{verb}
use Rattle.moo_task.specs.Frames.{kept_of, begun}
use Rattle.moo_task.specs.declared.frame.Frame.{Frame}
use Rattle.moo_task.proofs.running.Running.wait_for.Goals as goal

pub returns-clause-begins : goal.returns-clause-begins
returns-clause-begins c args h =
    let player : to_z w32 (of_z w32 c.args.self.now.player) ≡ c.args.self.now.player = search rules in
    ap kept_of c.replace-caller.ensures.after ∙ c.in_ok-called.ensures.frame args h
    ∙ ap (λ (x : Start). begun (to_z w32 (of_z w32 c.args.self.now.player)) x c.args.call c.args.program args) c.in_ok-start.ensures
    ∙ ap (λ (z : ℤ). begun z c.args.self.now.frame.start c.args.call c.args.program args) player

pub returns-clause-waits : goal.returns-clause-waits
returns-clause-waits c =
    c.in_ok-push_verb.ensures.ok ∙ ap (λ (f : Frame). verb (kept_of f) ∷ c.take_room-room.new.self) c.replace-caller.ensures.value
    ∙ ap (λ ks. verb (kept_of c.args.self.now.frame) ∷ ks) c.take_room-room.ensures

pub returns-clause-ticks : goal.returns-clause-ticks
returns-clause-ticks c = ap (λ (f : Frame). f.state.ticks) c.replace-caller.ensures.after ∙ c.in_ok-called.ensures.ticks
