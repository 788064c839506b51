-- What the records of this crate mean.
use Rattle.std.specs.Prelude.{ℕ, ◌+◌, Option, option_map}
use Rattle.spec_world.specs.Prepositions as meant
use Rattle.rules.specs.declared.verb_match.prepositions.Preposition.{Preposition}
use Rattle.rules.specs.declared.verb_match.prepositions.Begun.{Begun}

abbrev pub preposition_of : Preposition → meant.Preposition
preposition_of p = record { start = p.start; size = p.size; set = p.set }

abbrev pub begun_of : Begun → meant.Begun
begun_of b = record { size = b.size; set = b.set }

-- behind so many words more
abbrev pub moved : ℕ → Option meant.Preposition → Option meant.Preposition
moved n p = option_map (λ (q : meant.Preposition). record q { start = q.start + n }) p
