use Rattle.std.proofs.Common.{◌≡◌, List, ℕ, ℤ, IsTrue, codes, ◌++◌, ◌∙◌, ap, sym, subst, w32, to_z, of_z, rules}
use Rattle.spec_value.specs.Datum.{object, is_text}
use Rattle.spec_value.specs.Literal.{to_text}
use Rattle.spec_moo.specs.Leaving.{Traced}
use Rattle.spec_moo.specs.Telling.{verb_spelled}
use Rattle.moo_value.proofs.Written.{text_shown}
use Rattle.moo_task.proofs.Spelled.{then_is, spelled_is}
use Rattle.moo_task.proofs.task_telling.lines.spelled.Goals as goal

pub joined-requires-clause-first : goal.joined-requires-clause-first
joined-requires-clause-first c =
    subst (λ (t : List ℕ). IsTrue (is_text t)) (sym (c.as_str.ensures.value ∙ c.in_ok-number.ensures)) (text_shown c.object-definer.result c.know.ensures)

pub returns : goal.returns
returns c =
    let definer : to_z w32 (of_z w32 c.verb.inside.definer) ≡ c.verb.inside.definer = search rules in
    let number = c.as_str.ensures.value ∙ c.in_ok-number.ensures ∙ ap to_text c.object-definer.ensures ∙ ap (λ (z : ℤ). to_text (object z)) (definer ∙ ap (λ (t : Traced). t.definer) c.verb.view_is) in
    then_is c.joined.result (c.as_str.result.now ++ (codes ":" ++ c.as_str-2.result.now)) (verb_spelled c.args.verb.now) c.joined.ensures
    (spelled_is c.args.verb.now c.as_str.result.now c.as_str-2.result.now number (c.as_str-2.ensures ∙ ap (λ (t : Traced). t.verb) c.verb.view_is))
