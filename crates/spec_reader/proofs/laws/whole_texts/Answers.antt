use Rattle.spec_reader.proofs.WholeRead.{start_means, end_means, texts_read_to_end}
use Rattle.spec_reader.proofs.laws.whole_texts.Goals as goal

pub returns : goal.returns
returns c = record { start = start_means; end = end_means; read = texts_read_to_end }
