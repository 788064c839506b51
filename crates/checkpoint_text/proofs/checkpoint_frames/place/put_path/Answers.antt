use Rattle.std.proofs.Common.{◌++◌, map, ap, ◌∙◌, sym}
use Rattle.std.specs.Fmt.{decimal}
use Rattle.spec_world.specs.Checkpoint.{path}
use Rattle.checkpoint_text.proofs.Joined.{written_more}
use Rattle.checkpoint_text.specs.CheckpointFramesLines.{dotted}
use Rattle.checkpoint_text.proofs.Paths.{path_dotted}
use Rattle.checkpoint_text.proofs.checkpoint_frames.place.put_path.Goals as goal

pub returns-in_ok-put_further-in-Some : goal.returns-in_ok-put_further-in-Some
returns-in_ok-put_further-in-Some c =
    let n = c.in-Some.first.now in
    let ns = c.in-Some.rest.now in
    written_more c.args.page.now c.put_number.new.self c.put_further.new.page (decimal n) (dotted ns) c.in_ok-put_number-in-Some.ensures c.in_ok-put_further-in-Some.ensures
    ∙ ap (λ t. c.args.page.now ++ t) (sym (path_dotted n ns) ∙ ap (λ ms. path (map decimal ms)) (sym c.in-Some.ensures.cases.0))
