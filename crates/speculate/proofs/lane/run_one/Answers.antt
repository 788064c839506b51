use Rattle.std.proofs.Common.{rules, ◌≡◌, ◌++◌, ◌∷◌, [], ℤ, List, Some, Contains, slice_get, refl, ap, subst, ◌∙◌}
use Rattle.std.proofs.lemmas.Option.{slice_get_read}
use Rattle.spec_world.specs.Questions.{apply_all}
use Rattle.speculate.specs.Tables.{IsThere}
use Rattle.speculate.specs.Moves.{Move}
use Rattle.speculate.proofs.Strands.{went_on}
use Rattle.speculate.proofs.lane.run_one.Goals as goal

pub returns : goal.returns
returns c base under told =
    let old = c.args.lane.now in
    let new = c.note.new.lane in
    let step = c.index-steps-at.result in
    let m : Move = record { position = c.args.at; step = step; changes = c.in-Ok.changes; outcome = c.in-Ok.outcome } in
    let yes = c.if-not-note.false in
    let is : slice_get c.args.steps.now c.args.at ≡ Some step = slice_get_read c.args.steps.now _ c.args.at step refl c.requires.at c.index-steps-at.is in
    let there : (o : ℤ) → Contains c.in-Ok.objects.items o → IsThere new.read o =
    subst (λ (os : List ℤ). (o : ℤ) → Contains os o → IsThere new.read o) c.as_slice.ensures.value (c.note.ensures.there yes) in
    let after : c.take_over.new.world.plain ≡ apply_all c.in-Ok.changes c.args.world.now.plain = search rules in
    let more : c.tell-is_told.new.told.items ≡ old.told.items ++ m ∷ [] = c.tell-is_told.ensures told ∙ ap (λ (ms : List Move). ms ++ m ∷ []) c.note.ensures.told in
    went_on base c.args.world.now.plain c.take_over.new.world.plain c.args.steps.now old.read old.changed new.read new.changed old.net new.net
    old.next new.next old.told.items c.tell-is_told.new.told.items m c.in-Ok.objects.items under.0 under.1 is c.in-Ok.ensures.does c.note.ensures.read there c.note.ensures.changed
    (c.note.ensures.own yes) (c.note.ensures.summed yes) more after
