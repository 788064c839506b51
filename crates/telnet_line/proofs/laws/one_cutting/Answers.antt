use Rattle.std.proofs.Common.{sym, ◌∙◌}
use Rattle.telnet_line.proofs.Cutter.{Nothing, bytes_of, run, cut_is}
use Rattle.telnet_line.proofs.Unfinished.{complete}
use Rattle.telnet_line.proofs.laws.one_cutting.Goals as goal

pub returns : goal.returns
returns c = record {
  some = λ stream. ((run Nothing stream).units, bytes_of (run Nothing stream).left, cut_is stream);
  units = λ stream units others rest left h k. sym (complete h).0 ∙ (complete k).0;
  rest = λ stream units others rest left h k. sym (complete h).1 ∙ (complete k).1;
}
