use Rattle.std.proofs.Common.{◌≡◌, pos, rules}
use Rattle.world.proofs.Maps.{record_revised}
use Rattle.world.proofs.records.revise_record.Goals as goal

pub returns-clause-done : goal.returns-clause-done
returns-clause-done g c = λ yes.
    let is : c.args.number ≡ pos c.in-Some.key = search rules in
    record_revised (g.E.Revision.makes c.args.revision.now) c.args.number c.in-Some.key c.args.records.now.entries c.revise.new.self.entries is (c.in_ok-done.ensures.done yes)
