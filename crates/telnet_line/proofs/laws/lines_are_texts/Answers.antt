use Rattle.std.proofs.Common.{[], refl, sym, subst, arith}
use Rattle.std.specs.List.{AllByRecursion}
use Rattle.telnet_line.specs.Telnet.{IsText, IsEvent}
use Rattle.telnet_line.proofs.Texts.{texts, text_of}
use Rattle.telnet_line.proofs.laws.lines_are_texts.Goals as goal

pub returns : goal.returns
returns c = record {
  ended = λ stream events h. subst (AllByRecursion IsEvent) (sym h.meant) (texts h.units [] (omega arith, refl));
  begun = λ stream events reading h. subst IsText (sym h.line) (text_of h.spells.units [] (omega arith, refl));
}
