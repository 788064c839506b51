use Rattle.std.proofs.Common.{◌≡◌, ◌∙◌, [], ap, sym, rules}
use Rattle.std.specs.Prelude.{option_map}
use Rattle.player_commands.specs.CommandLinesMeant.{parts_of}
use Rattle.steps.proofs.Typed.{no_words, words_there}
use Rattle.steps.proofs.step_events.lines.words_typed.Goals as goal

pub returns-in_ok-words-in-Some : goal.returns-in_ok-words-in-Some
returns-in_ok-words-in-Some c =
    c.in_ok-words-in-Some.ensures ∙ words_there c.args.text.now (parts_of c.in-Some.parts) (sym c.in_ok-parts.ensures ∙ ap (option_map parts_of) c.in-Some.is)

pub returns-in-None : goal.returns-in-None
returns-in-None c =
    let none : c.new.result.items ≡ [] = search rules in
    none ∙ no_words c.args.text.now (sym c.in_ok-parts.ensures ∙ ap (option_map parts_of) c.in-None.is)
