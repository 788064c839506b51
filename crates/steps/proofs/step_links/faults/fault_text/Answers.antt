use Rattle.std.proofs.Common.{List, ℕ, IsTrue, ◌∙◌, sym, subst, rules}
use Rattle.spec_value.specs.Datum.{is_text}
use Rattle.steps.proofs.Codings.{text_decimal, fault_joined}
use Rattle.steps.proofs.step_links.faults.fault_text.Goals as goal

pub joined-requires-clause-second : goal.joined-requires-clause-second
joined-requires-clause-second c =
    subst (λ (t : List ℕ). IsTrue (is_text t)) (sym (c.as_str.ensures.value ∙ c.in_ok-digits.ensures.ok)) (text_decimal c.args.fault.line (search rules))

pub returns : goal.returns
returns c =
    fault_joined c.args.fault c.in-Some.kind.now c.as_str.result.now c.joined.result c.in-Some.ensures.0 (c.as_str.ensures.value ∙ c.in_ok-digits.ensures.ok) c.joined.ensures
