use Rattle.std.proofs.Common.{ap, sym, ◌∙◌, option_map}
use Rattle.std.specs.Option.{option_and_then}
use Rattle.world_table.proofs.Walks.{first_within}
use Rattle.due_table.proofs.Walks.{first_of, first_later}
use Rattle.due_table.proofs.table.first_after.Goals as goal

pub overflow_cast-result : goal.overflow_cast-result
overflow_cast-result c = record { fits = first_within _ 0 4294967296 _ _ c.requires.0 (sym c.in-Some.ensures) }

pub returns-in-Some-next_from : goal.returns-in-Some-next_from
returns-in-Some-next_from c =
    ap (option_map (λ k. (c.in-Some.later, k))) c.in-Some-next_from.ensures ∙ ap (option_and_then first_of) c.in-Some.ensures ∙ sym (first_later _ _ c.requires.1)

pub returns-in-None-next_from : goal.returns-in-None-next_from
returns-in-None-next_from c =
    ap (option_map (λ k. (c.in-Some.later, k))) c.in-None-next_from.ensures ∙ ap (option_and_then first_of) c.in-Some.ensures ∙ sym (first_later _ _ c.requires.1)

pub returns-in-None : goal.returns-in-None
returns-in-None c = ap (option_and_then first_of) c.in-None.ensures ∙ sym (first_later _ _ c.requires.1)
