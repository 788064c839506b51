use Rattle.std.proofs.Common.{◌≡◌, ◌∙◌, ℤ, refl, subst, rules, w32, to_z, of_z}
use Rattle.std.proofs.lemmas.Int.{to_z-of_z}
use Rattle.spec_world.specs.World.{Verb}
use Rattle.running.specs.Called.{callee_of, IsReplyOf}
use Rattle.running.proofs.moo_objects.calling.reply_asked.Goals as goal

pub returns-in_default-clause-left : goal.returns-in_default-clause-left
returns-in_default-clause-left g c = λ w is. let t = c.in_ok-found.ensures.left w is in (t.0, (t.1.0, tt))

pub returns-clause-left : goal.returns-clause-left
returns-clause-left g c =
    let found = c.in-Some.found in
    let reply = c.in_ok-reply.reply in
    let object = to_z-of_z w32 c.args.object c.ranges.object in
    let definer : to_z w32 (of_z w32 c.definer.result) ≡ c.definer.result = search rules in
    record {
      callee = callee_of c.args.object found;
      body = (found.verb).program;
      verb = λ w is.
          let t = (rw (object, c.as_str.ensures) at c.in_ok-found.ensures.left) w is in (
            t.0,
            (t.1.0, record { found = found; is_found = t.1.1 ∙ c.in-Some.is; callee = refl; program = refl }),
          );
      reply = subst (λ (v : Verb). IsReplyOf reply (callee_of c.args.object (record { definer = found.definer; verb = v })) v.program) c.verb.ensures
          (subst (λ (n : ℤ). IsReplyOf reply (callee_of c.args.object (record { definer = n; verb = c.verb.result.now })) c.verb.result.now.program) c.definer.ensures (rw (object, definer) at c.in_ok-reply.ensures));
    }
