use Rattle.std.proofs.Common.{length, refl}
use Rattle.std.proofs.lemmas.Bool.{false≢true}
use Rattle.moo_text.specs.TwoWay.{read_by}
use Rattle.moo_text.proofs.Cutting.{cut_without_repeat, cut_by_period}
use Rattle.moo_text.proofs.two_way.divide_at.Goals as goal

pub returns-then-not-repeats : goal.returns-then-not-repeats
returns-then-not-repeats c =
    rw c.max.ensures (cut_without_repeat (read_by c.args.reading c.args.sought.now) (length c.args.sought.now) c.args.suffix.place c.args.suffix.period c.requires
    (λ same. false≢true (c.if-not-repeats.ensures.1 same)))

pub returns : goal.returns
returns c = cut_by_period (read_by c.args.reading c.args.sought.now) (length c.args.sought.now) c.args.suffix.place c.args.suffix.period c.requires (c.if-not-repeats.ensures.0 refl)
