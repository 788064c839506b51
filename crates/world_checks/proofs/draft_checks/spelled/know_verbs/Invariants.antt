use Rattle.std.proofs.Common.{◌≡◌, [], drop}
use Rattle.std.specs.List.{list_all}
use Rattle.spec_program.specs.Trees.{program_fits}
use Rattle.world_checks.proofs.draft_checks.spelled.know_verbs.Given as goal

abbrev pub invariant-loop-verb : goal.invariant-loop-verb
invariant-loop-verb l = list_all (λ v. program_fits [] v.program) l.verbs ≡ list_all (λ v. program_fits [] v.program) (drop l.verb-index l.verbs)
