use Rattle.std.proofs.Common.{ℕ, ap, ◌∙◌, option_map}
use Rattle.due_table.proofs.OneMoment.{keys_from}
use Rattle.due_table.proofs.keys.next_in.Goals as goal

pub returns-in-Some : goal.returns-in-Some
returns-in-Some c = ap (option_map (λ (e : ℕ × Unit {0}). e.0)) c.in-Some.ensures ∙ keys_from c.args.key _

pub returns-in-None : goal.returns-in-None
returns-in-None c = ap (option_map (λ (e : ℕ × Unit {0}). e.0)) c.in-None.ensures ∙ keys_from c.args.key _
