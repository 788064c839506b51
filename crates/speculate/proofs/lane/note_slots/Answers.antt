use Rattle.std.proofs.Common.{arith}
use Rattle.speculate.specs.Tables.{IsThere}
use Rattle.speculate.proofs.Tables.{grows_still, grows_on, first_more, first_all}
use Rattle.speculate.proofs.lane.note_slots.Goals as goal

pub at-init : goal.at-init
at-init c = record { grows = grows_still c.args.read.now; there = λ k o below is. absurd (omega (arith, below)) }

pub at-preserved : goal.at-preserved
at-preserved c =
    let yes = c.if-not-note_slot.false in record {
      grows = grows_on c.args.read.now c.at.read c.note_slot.new.read c.at.invariant.grows c.note_slot.ensures.grows;
      there = first_more (IsThere c.note_slot.new.read) c.args.objects.now c.at.at (c.note_slot.ensures.there yes) (λ k o below is. c.note_slot.ensures.grows o (c.at.invariant.there k o below is));
    }

pub returns-clause-there : goal.returns-clause-there
returns-clause-there c done = first_all (IsThere c.at.read) c.args.objects.now c.at.at (omega arith) c.at.invariant.there
