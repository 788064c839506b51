use Rattle.spec_world.specs.Checkpoint.{with_line_ends}
use Rattle.checkpoint_lines.proofs.Rests.{rest_small}
use Rattle.checkpoint_lines.proofs.LinesLeft.{is_next, is_over}
use Rattle.checkpoint_lines.proofs.lines.Lines.next_line.Goals as goal

pub returns-in_default-clause-reads : goal.returns-in_default-clause-reads
returns-in_default-clause-reads c = λ t rest h e. absurd (c.in_default.ensures.between t (with_line_ends rest) h e.0)

pub returns-clause-reads : goal.returns-clause-reads
returns-clause-reads c = λ t rest h e.
    let seam = c.in-Some.ensures.between t (with_line_ends rest) h e.0 in
    let small = rest_small t rest e.1 in
    ((seam.0, small.0), (seam.1, small.1))

pub returns-in_default-clause-tells : goal.returns-in_default-clause-tells
returns-in_default-clause-tells c = λ room. is_over c.args.self.now c.saturating_add-count.result room c.in_default.ensures.cuts c.saturating_add-count.ensures

pub returns-clause-tells : goal.returns-clause-tells
returns-clause-tells c = λ room.
    is_next c.args.self.now (record { left = c.in-Some.rest; count = c.saturating_add-count.result }) c.in-Some.line.now room c.in-Some.ensures.cuts.0 c.in-Some.ensures.cuts.1 c.saturating_add-count.ensures
