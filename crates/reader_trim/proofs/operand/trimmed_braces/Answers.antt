use Rattle.moo_reader.proofs.Boxes.{boxed_again}
use Rattle.reader_trim.specs.Shallow.{IsFew}
use Rattle.reader_trim.proofs.Few.{perhaps_scattered, surely_scattered}
use Rattle.reader_trim.proofs.operand.trimmed_braces.Goals as goal

pub returns-in_ok-boxed-in-PerhapsScatter : goal.returns-in_ok-boxed-in-PerhapsScatter
returns-in_ok-boxed-in-PerhapsScatter c =
    perhaps_scattered c.args.braces c.in-PerhapsScatter.scattering c.in_ok-boxed-in-PerhapsScatter.boxed c.in-PerhapsScatter.is
    (boxed_again IsFew c.in-PerhapsScatter.scattering c.in_ok-boxed-in-PerhapsScatter.boxed _ _ c.into_inner.ensures c.in_ok-boxed-in-PerhapsScatter.ensures.ok c.in_ok-few-in-PerhapsScatter.ensures)

pub returns-in_ok-boxed-in-SurelyScatter : goal.returns-in_ok-boxed-in-SurelyScatter
returns-in_ok-boxed-in-SurelyScatter c =
    surely_scattered c.args.braces c.in-SurelyScatter.scattering c.in_ok-boxed-in-SurelyScatter.boxed c.in-SurelyScatter.is
    (boxed_again IsFew c.in-SurelyScatter.scattering c.in_ok-boxed-in-SurelyScatter.boxed _ _ c.into_inner-in-SurelyScatter.ensures c.in_ok-boxed-in-SurelyScatter.ensures.ok c.in_ok-few-in-SurelyScatter.ensures)
