use Rattle.std.proofs.Common.{◌≡◌, List, None, rules}
use Rattle.spec_world.specs.Step.{Step, RunsOn, AllInRange}
use Rattle.moo_script.specs.Scripts.{IsScript}
use Rattle.moo_server.proofs.Told.{of_both, played_as, may_run, whole_told, part_told, WholeTold, PartTold}
use Rattle.moo_server.proofs.play.play_script.Goals as goal

pub returns-clause-whole : goal.returns-clause-whole
returns-clause-whole g c =
    let says = rw (c.as_slice.ensures.value, c.first_number.ensures) at c.in-Ok-read_script.ensures.says in
    let played = played_as _ _ _ _ _ _ _ c.reopen.ensures.plain c.deref-2.ensures.value c.play_steps-played.ensures in
    let old = g.W.Write.contents c.args.out.now in
    let new = g.W.Write.contents c.play_steps-played.new.out in
    of_both c.args.world c.args.script c.in-Ok.world c.in-Ok-script.script (λ w s. WholeTold w.plain s.items old new c.conclude.result) c.in-Ok.is c.in-Ok-script.is
    (whole_told c.in-Ok.world.plain _ _ old new c.play_steps-played.result c.conclude.result c.conclude.ensures says played)

pub returns-clause-part : goal.returns-clause-part
returns-clause-part g c =
    let says = rw (c.as_slice.ensures.value, c.first_number.ensures) at c.in-Ok-read_script.ensures.says in
    let played = played_as _ _ _ _ _ _ _ c.reopen.ensures.plain c.deref-2.ensures.value c.play_steps-played.ensures in
    let old = g.W.Write.contents c.args.out.now in
    let new = g.W.Write.contents c.play_steps-played.new.out in
    of_both c.args.world c.args.script c.in-Ok.world c.in-Ok-script.script (λ w s. PartTold w.plain s.items old new c.conclude.result) c.in-Ok.is c.in-Ok-script.is
    (part_told c.in-Ok.world.plain _ _ old new c.play_steps-played.result c.conclude.result c.conclude.ensures says played)

pub returns-clause-numbers : goal.returns-clause-numbers
returns-clause-numbers g c =
    let says = rw (c.as_slice.ensures.value, c.first_number.ensures) at c.in-Ok-read_script.ensures.says in
    let runs : RunsOn c.in-Ok.world.plain c.in-Ok-read_script.steps.items × AllInRange c.in-Ok-read_script.steps.items = search rules in
    of_both c.args.world c.args.script c.in-Ok.world c.in-Ok-script.script
    (λ w s. (steps : List Step) → IsScript s.items w.plain.next steps → (RunsOn w.plain steps × AllInRange steps → ⊥) → ((c.conclude.result).0 ≡ None) × (c.play_steps-played.new.out ≡ c.args.out.now)) c.in-Ok.is c.in-Ok-script.is
    (λ steps h no. absurd (no (may_run c.in-Ok.world.plain c.in-Ok-script.script.items c.in-Ok-read_script.steps.items steps says runs h)))
