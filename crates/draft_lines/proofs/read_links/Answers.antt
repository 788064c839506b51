use Rattle.std.proofs.Common.{length, ◌++◌, refl, ◌∷◌, [], codes}
use Rattle.spec_world.specs.Checkpoint.{link_lines}
use Rattle.draft_lines.proofs.Fronts.{links_counted}
use Rattle.draft_lines.proofs.Links.{links_read}
use Rattle.std.proofs.lemmas.Result.{err_from_is_err_and}
use Rattle.checkpoint_lines.proofs.Giving.{gives_passed}
use Rattle.checkpoint_lines.proofs.Going.{passed_on, count_row, tells_then}
use Rattle.spec_faults.specs.Awaited.{again}
use Rattle.spec_faults.specs.Awaited as awaited
use Rattle.draft_lines.proofs.read_links.Goals as goal

pub returns-in_err-count : goal.returns-in_err-count
returns-in_err-count c = record {
  reads = λ w rest f h none l.
      let memory = c.in_err-count.ensures.reads (length w.links) (link_lines w.links ++ rest) refl (links_counted w.links rest) l in
      let passed = err_from_is_err_and c.from_residual.result c.from_residual.ensures.1 in
      gives_passed c.from_residual.result passed.0 _ passed.1 (cc (passed.2, memory));
  tells = let passed = err_from_is_err_and c.from_residual.result c.from_residual.ensures.1 in passed_on c.from_residual.result passed.0 c.in_err-count.field-0.0 c.args.lines.now _ (awaited.counted (codes "links") awaited.each_link ∷ []) (λ _. []) passed.1 passed.2 (c.in_err-count.ensures.tells (awaited.counted (codes "links") awaited.each_link) (λ n. again n awaited.each_link ∷ []) (count_row (codes "links") awaited.each_link));
}

pub returns : goal.returns
returns c = record {
  reads = λ w rest f h none l.
      let count = c.in_ok-count.ensures.reads (length w.links) (link_lines w.links ++ rest) refl (links_counted w.links rest) l in
      c.so_many_links.ensures.reads w rest f (links_read w f h) none count.0 count.1;
  tells = tells_then c.so_many_links.result c.args.lines.now c.next_count.new.self c.so_many_links.new.lines (awaited.counted (codes "links") awaited.each_link ∷ []) (again c.in_ok-count.count awaited.each_link ∷ []) [] (λ _. []) (c.in_ok-count.ensures.tells (awaited.counted (codes "links") awaited.each_link) (λ n. again n awaited.each_link ∷ []) (count_row (codes "links") awaited.each_link)) c.so_many_links.ensures.tells;
}
