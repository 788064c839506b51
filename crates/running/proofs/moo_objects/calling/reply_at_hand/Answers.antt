use Rattle.std.proofs.Common.{◌≡◌, refl, rules, w32, to_z, of_z}
use Rattle.std.proofs.lemmas.Int.{to_z-of_z}
use Rattle.running.specs.Called.{callee_of}
use Rattle.running.proofs.moo_objects.calling.reply_at_hand.Goals as goal

pub returns : goal.returns
returns g c =
    let object = to_z-of_z w32 c.args.object c.ranges.object in
    let definer : to_z w32 (of_z w32 c.in-Some.definer) ≡ c.in-Some.definer = search rules in
    record {
      callee = callee_of c.args.object (record { definer = c.in-Some.definer; verb = c.in-Some.verb.now });
      body = c.in-Some.verb.now.program;
      verb = λ w is. (
        is,
        (
          refl,
          record {
            found = record { definer = c.in-Some.definer; verb = c.in-Some.verb.now };
            is_found = (rw object at c.in-Some.ensures) w is;
            callee = refl;
            program = refl;
          },
        ),
      );
      reply = rw (object, definer) at c.in_ok-reply.ensures;
    }
