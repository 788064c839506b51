use Rattle.spec_program.proofs.TextMovesHold.{text_starts, tokens_start, text_faults, text_ends, last_is}
use Rattle.spec_program.proofs.parsing.whole_texts.Goals as goal

pub returns : goal.returns
returns c =
    record {
      starts = text_starts;
      tokens = tokens_start;
      faults = text_faults;
      ends = text_ends;
      last = last_is;
    }
