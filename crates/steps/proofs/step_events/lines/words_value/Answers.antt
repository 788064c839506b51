use Rattle.std.proofs.Common.{◌≡◌, ◌∙◌, ap, List, rules}
use Rattle.spec_value.specs.Datum.{Text, list, of_list}
use Rattle.spec_moo.specs.Natives.Properties.{as_texts}
use Rattle.steps.proofs.step_events.lines.words_value.Goals as goal

pub returns : goal.returns
returns c =
    let items : c.deref.result.now ≡ c.in_ok-words.words.items = search rules in
    let value : c.in_ok-value.value ≡ list (of_list (as_texts c.in_ok-words.words.items)) = c.in_ok-value.ensures ∙ ap (λ (ts : List Text). list (of_list (as_texts ts))) items in
    value ∙ ap (λ (ts : List Text). list (of_list (as_texts ts))) c.in_ok-words.ensures
