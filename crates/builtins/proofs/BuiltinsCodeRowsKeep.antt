-- Where a world stands, a verb that is programmed leaves it so.
use Rattle.std.proofs.Common.{ℕ, ℤ, List, [], ◌∷◌}
use Rattle.spec_value.specs.Datum.{Datum, object, list}
use Rattle.spec_program.specs.ReadPrograms.{Parsed, program, faulty, parsed_lines}
use Rattle.spec_world.specs.Permissions.{may, program_verb}
use Rattle.spec_moo.specs.Scene.{Scene}
use Rattle.spec_moo.specs.Natives.Verbs.{texts_of, programmed, set_verb_code_row}
use Rattle.rules.specs.Standing.{IsStanding}
use Rattle.builtins_view.proofs.Keeping.{LeavesWell, Keeping, tested}
use Rattle.builtins_view.proofs.RowsKeep.{changed_verb, verb_there}

programmed_keeps : (s : Scene) (o : ℤ) (n : ℕ) (p : Parsed) → IsStanding s.world → LeavesWell (programmed s o n p)
programmed_keeps s o n (program p) h = changed_verb s.world o n (λ v. record v { program = p }) h
programmed_keeps s o n (faulty f) h = h

pub set_verb_code_keeps : (args : List Datum) → Keeping (λ s c. set_verb_code_row s c args)
set_verb_code_keeps (object o ∷ d ∷ list lines ∷ []) s c h =
    verb_there s o d _ h (λ n v. tested (may s.world c.call.programmer (program_verb o n)) _ _ h (λ k. programmed_keeps s o n (parsed_lines (texts_of lines)) h))
set_verb_code_keeps _ s c h = h
