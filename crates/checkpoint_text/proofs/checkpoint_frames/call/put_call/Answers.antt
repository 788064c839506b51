use Rattle.std.proofs.Common.{◌≡◌, ap, ◌∙◌, rules, w32, to_z, of_z}
use Rattle.std.specs.Prelude.{codes}
use Rattle.std.specs.Fmt.{decimal}
use Rattle.spec_value.specs.Datum.{text}
use Rattle.spec_value.specs.Literal.{literal}
use Rattle.spec_world.specs.World.{Call}
use Rattle.spec_world.specs.Checkpoint.{flag, object_text}
use Rattle.checkpoint_text.proofs.Calls.{call_joined}
use Rattle.checkpoint_text.proofs.checkpoint_frames.call.put_call.Goals as goal

pub returns : goal.returns
returns c =
    let d = c.args.call.now in
    let this : to_z w32 (of_z w32 c.call.inside.this) ≡ c.call.inside.this = search rules in
    let caller : to_z w32 (of_z w32 c.call.inside.caller) ≡ c.call.inside.caller = search rules in
    let definer : to_z w32 (of_z w32 c.call.inside.definer) ≡ c.call.inside.definer = search rules in
    let programmer : to_z w32 (of_z w32 c.call.inside.programmer) ≡ c.call.inside.programmer = search rules in
    let this_is : to_z w32 (of_z w32 c.call.inside.this) ≡ d.this = this ∙ ap (λ (x : Call). x.this) c.call.view_is in
    let caller_is : to_z w32 (of_z w32 c.call.inside.caller) ≡ d.caller = caller ∙ ap (λ (x : Call). x.caller) c.call.view_is in
    let definer_is : to_z w32 (of_z w32 c.call.inside.definer) ≡ d.definer = definer ∙ ap (λ (x : Call). x.definer) c.call.view_is in
    let programmer_is : to_z w32 (of_z w32 c.call.inside.programmer) ≡ d.programmer = programmer ∙ ap (λ (x : Call). x.programmer) c.call.view_is in
    let verb_is : c.call.inside.verb ≡ d.verb = ap (λ (x : Call). x.verb) c.call.view_is in
    let debug_is : c.call.inside.debug ≡ d.debug = ap (λ (x : Call). x.debug) c.call.view_is in
    call_joined c.args.page.now (codes "frame ") (object_text d.this) (object_text d.caller) (object_text d.definer) (object_text d.programmer)
    (literal (text d.verb)) (flag d.debug) (decimal c.args.count)
    c.put.new.self c.put_pair.new.page c.put_pair-2.new.page c.put_verb.new.page
    c.in_ok-put.ensures (rw (this_is, caller_is) at c.in_ok-put_pair.ensures) (rw (definer_is, programmer_is) at c.in_ok-put_pair-2.ensures)
    (rw (verb_is, debug_is) at c.in_ok-put_verb.ensures)
