use Rattle.std.proofs.Common.{◌++◌, refl}
use Rattle.spec_world.specs.Checkpoint.{each_verb, with_line_ends}
use Rattle.checkpoint_text.proofs.Turns.{next_lines}
use Rattle.checkpoint_text.specs.CheckpointObjectsLines.{program_lines}
use Rattle.checkpoint_text.proofs.checkpoint_objects.verb.put_each_verb.Goals as goal

pub loop-verb-preserved : goal.loop-verb-preserved
loop-verb-preserved c =
    next_lines program_lines each_verb (λ v vs. refl) c.args.verbs.now c.loop-verb.verb-index c.verb-item.result c.loop-verb.page c.put_verb.new.page
    (c.args.page.now ++ with_line_ends (each_verb c.args.verbs.now)) c.loop-verb-test.true c.verb-item.is c.in_ok-put_verb.ensures c.loop-verb.invariant
