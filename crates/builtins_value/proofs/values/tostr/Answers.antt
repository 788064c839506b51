use Rattle.std.proofs.Common.{◌++◌, ap, sym, ◌∙◌, append_assoc, string_bytes, drop, ◌+◌}
use Rattle.spec_value.specs.Literal.{to_text}
use Rattle.spec_value.specs.PureBuiltins.{joined_texts}
use Rattle.moo_value.proofs.Characters.{is_text-append}
use Rattle.moo_value.proofs.Written.{text_shown}
use Rattle.builtins_value.proofs.Rows.{joined_on}
use Rattle.builtins_value.proofs.values.tostr.Goals as goal

pub loop-value-preserved : goal.loop-value-preserved
loop-value-preserved c =
    let out = string_bytes c.loop-value.text in
    let value = c.value-item.result in
    let items = c.args.arguments.now in
    let i = c.loop-value.value-index in
    let on = joined_on items i value c.loop-value-test.true in
    let here = rw (← c.value-item.is) at on in
    record {
      allowed = rw c.in_ok-write_str.ensures (is_text-append out (to_text value) c.loop-value.invariant.allowed (text_shown value c.know.ensures));
      left = rw c.in_ok-write_str.ensures (append_assoc out (to_text value) (joined_texts (drop (i + 1) items)) ∙ ap (λ x. out ++ x) (sym here) ∙ c.loop-value.invariant.left);
    }
