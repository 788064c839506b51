use Rattle.std.proofs.Common.{◌≡◌, pos, sym, ap, ◌∙◌, rules}
use Rattle.std.proofs.lemmas.Result.{on_ok_weaker}
use Rattle.spec_world.specs.Questions.{put_record}
use Rattle.world.specs.Numbered.{numbered}
use Rattle.world.proofs.Maps.{one_at, none_at}
use Rattle.world.proofs.records.set_record.Goals as goal

pub returns-in-Some-Some-clause-ok : goal.returns-in-Some-Some-clause-ok
returns-in-Some-Some-clause-ok g c =
    let is : c.args.number ≡ pos c.in-Some-Some.key = search rules in
    on_ok_weaker c.put.result
    (λ e. ap numbered e ∙ sym (one_at c.args.records.now.entries c.args.number c.in-Some-Some.key c.in-Some-Some.value is c.if-key-le-LAST_NUMBER.true) ∙ sym (ap (put_record (numbered c.args.records.now.entries) c.args.number) c.in-Some-Some.is-1))
    c.put.ensures.ok

pub returns-in-Some-None-clause-ok : goal.returns-in-Some-None-clause-ok
returns-in-Some-None-clause-ok g c =
    let is : c.args.number ≡ pos c.in-Some-None.key = search rules in
    on_ok_weaker c.remove.result
    (λ e. ap numbered e ∙ sym (none_at c.args.records.now.entries c.args.number c.in-Some-None.key is) ∙ sym (ap (put_record (numbered c.args.records.now.entries) c.args.number) c.in-Some-None.is-1))
    c.remove.ensures.ok
