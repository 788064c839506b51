use Rattle.std.proofs.Common.{◌≡◌, ℤ, refl, sym, subst, rules, w32, to_z, of_z}
use Rattle.std.proofs.lemmas.Int.{to_z-of_z}
use Rattle.view.specs.Kin.{IsCalledAt}
use Rattle.running.specs.Called.{callee_of}
use Rattle.running.proofs.moo_objects.calling.reply_lent.Goals as goal

pub returns-clause-reply : goal.returns-clause-reply
returns-clause-reply g c =
    let lent = c.in-Some.lent in
    let object = to_z-of_z w32 c.args.object c.ranges.object in
    let definer : to_z w32 (of_z w32 lent.definer) ≡ lent.definer = search rules in
    record {
      callee = callee_of c.args.object (record { definer = lent.definer; verb = lent.verb.now });
      body = lent.verb.now.program;
      verb = λ w is. (
        is,
        (
          refl,
          record {
            found = record { definer = lent.definer; verb = lent.verb.now };
            is_found = ((rw (object, c.as_str.ensures) at c.in-Some.ensures) w is).0;
            callee = refl;
            program = refl;
          },
        ),
      );
      reply = rw (object, definer) at c.in_ok-reply.ensures;
    }

pub returns-clause-place : goal.returns-clause-place
returns-clause-place g c = λ w is.
    let lent = c.in-Some.lent in
    let object = to_z-of_z w32 c.args.object c.ranges.object in
    let definer : to_z w32 (of_z w32 lent.definer) ≡ lent.definer = search rules in
    subst (λ (d : ℤ). IsCalledAt (g.V.View.now c.args.view.now w) c.args.object c.args.word.now d lent.place) (sym definer) ((rw (object, c.as_str.ensures) at c.in-Some.ensures) w is).1
