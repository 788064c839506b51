use Rattle.std.proofs.Common.{[], ◌∙◌, sym}
use Rattle.std.proofs.lemmas.Bool.{true≢false}
use Rattle.std.proofs.lemmas.List.{append-nil}
use Rattle.spec_value.specs.Literal.{literal}
use Rattle.slot_content.proofs.spells.spells.Goals as goal

pub returns-in-None-clause-spelled : goal.returns-in-None-clause-spelled
returns-in-None-clause-spelled c = (λ no. absurd (true≢false (sym no)), λ e. absurd (c.in-None.ensures [] (c.as_bytes.ensures.value ∙ e ∙ sym (append-nil (literal c.args.value.now)))))
