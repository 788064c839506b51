use Rattle.std.proofs.Common.{rules, ◌++◌, ◌∙◌, ap, sym}
use Rattle.std.proofs.lemmas.List.{take_more_set}
use Rattle.server_rows.proofs.session_rows.devices.GivenSource.read.Goals as goal

pub returns-in-Some-clause-bytes : goal.returns-in-Some-clause-bytes
returns-in-Some-clause-bytes c =
    c.in-Some.ensures.items
    ∙ ap (λ bytes. bytes ++ c.pop_front.new.self.items) (sym (take_more_set c.args.buffer.now 0 c.in-Some.byte (search rules)))
