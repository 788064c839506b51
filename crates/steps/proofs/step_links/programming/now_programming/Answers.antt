use Rattle.std.proofs.Common.{◌≡◌, List, ℕ, ℤ, IsTrue, codes, ◌++◌, ◌∙◌, ap, sym, subst, w32}
use Rattle.std.proofs.lemmas.Int.{to_z-of_z}
use Rattle.std.specs.Fmt.{signed_decimal}
use Rattle.spec_value.specs.Datum.{object, is_text}
use Rattle.spec_value.specs.Literal.{to_text}
use Rattle.moo_value.proofs.Written.{text_shown}
use Rattle.rules.proofs.Tellings.{if_ok_as}
use Rattle.steps.proofs.Relinks.{programming_told}
use Rattle.steps.proofs.step_links.programming.now_programming.Goals as goal

pub joined-requires-clause-second : goal.joined-requires-clause-second
joined-requires-clause-second c =
    subst (λ (t : List ℕ). IsTrue (is_text t)) (sym (c.as_str.ensures.value ∙ c.in_ok-number.ensures)) (text_shown c.object-object.result c.know.ensures)

pub returns : goal.returns
returns c =
    let number = c.as_str.ensures.value ∙ c.in_ok-number.ensures ∙ ap to_text c.object-object.ensures ∙ ap (λ (z : ℤ). to_text (object z)) (to_z-of_z w32 c.args.object c.ranges.object) in
    if_ok_as (λ t. t ≡ c.as_str-2.result.now ++ (c.as_str-3.result.now ++ codes "."))
    (λ t. t ≡ codes "Now programming #" ++ (signed_decimal c.args.object ++ (codes ":" ++ (c.args.verb.now ++ codes "."))))
    (λ t is. is ∙ programming_told c.args.object c.as_str-2.result.now c.as_str-3.result.now c.args.verb.now c.as_str.result.now (c.as_str-2.ensures ∙ c.in_ok-first.ensures) number c.as_str-3.ensures) c.joined-2.result
    c.joined-2.ensures
