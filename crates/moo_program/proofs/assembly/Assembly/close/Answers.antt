use Rattle.std.proofs.Common.{length, sym}
use Rattle.moo_program.specs.Drafting.{reception_of}
use Rattle.moo_program.specs.Names.{known}
use Rattle.moo_program.specs.Scattering.{plan_of}
use Rattle.moo_program.specs.Walking.{caught_in}
use Rattle.moo_program.proofs.Walked.{closed, popped}
use Rattle.moo_program.proofs.assembly.Assembly.close.Goals as goal

pub returns : goal.returns
returns c =
    let t = c.args.tables.now in
    record {
      walk =
          closed t c.args.self.now c.receive.new.code.items c.catch.new.handlers.items c.pop.new.self.items c.in_ok-to.to c.in-Some.around
          (reception_of c.args.reception) (caught_in c.args.caught) c.in-Some.ensures.items c.in_ok-catch.ensures c.in_ok-to.ensures.code c.in_ok-to.ensures.place;
      plans = sym (popped (plan_of (known t.names)) c.args.self.now.around.items c.pop.new.self.items c.in-Some.around c.in-Some.ensures.items);
      within = c.in_ok-to.ensures.within (length (known t.names));
    }
