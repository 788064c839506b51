use Rattle.std.proofs.Common.{◌-◌, ◌<◌, ap, sym, ◌∙◌, arith, length, map}
use Rattle.std.proofs.lemmas.List.{length-map, get_or-map}
use Rattle.moo_program.specs.Names.{known}
use Rattle.moo_task.specs.Variables.{variable_of}
use Rattle.checkpoint_text.specs.CheckpointFramesLines.{lent_variables}
use Rattle.checkpoint_text.proofs.Entries.{other_more}
use Rattle.checkpoint_text.proofs.checkpoint_frames.variables.others.Goals as goal

pub loop-left-preserved : goal.loop-left-preserved
loop-left-preserved c =
    let further = c.args.further.now in
    let v = c.index-further-left.result in
    let i = c.loop-left.left - 1 in
    let lt : i < length further = omega arith in
    let n = length-map further variable_of in (
      omega arith,
      other_more (known c.args.own.now) (map variable_of further) i c.loop-left.left (variable_of v)
          (lent_variables c.loop-left.found.items) (lent_variables c.put_other.new.found.items)
          (omega arith) (omega (arith, lt, n)) (ap variable_of c.index-further-left.is ∙ sym (get_or-map variable_of further i v (variable_of v) lt))
          c.in_ok-put_other.ensures c.loop-left.invariant.1,
    )
