use Rattle.std.proofs.Common.{◌≡◌, ℕ, ◌-◌, List, ◌++◌, length, take, sym, ap, ◌∙◌, subst, arith}
use Rattle.std.specs.Prelude.{min}
use Rattle.std.proofs.lemmas.List.{take_min}
use Rattle.telnet_line.specs.Telnet.{max_line, IsText}
use Rattle.telnet_line.specs.TelnetSteps.{with_all}
use Rattle.telnet_line.proofs.Texts.{text_all}
use Rattle.telnet_line.proofs.line_buffer.LineBuffer.push_all.Goals as goal

grown : (new old characters : List ℕ) (count len : ℕ) → new ≡ old ++ take count characters → count ≡ min (max_line - len) (length characters) → len ≡ length old → new ≡ with_all old characters
grown new old characters count len e k h =
    e ∙ ap (λ x. old ++ x) (ap (λ x. take x characters) k ∙ take_min (max_line - len) characters ∙ ap (λ x. take (max_line - x) characters) h)

now_is : (c : goal.In_ok-extend_from_slice) → c.extend_from_slice.new.self.items ≡ with_all c.self.inside.text.items c.args.characters.now
now_is c = grown _ _ _ _ _ c.in_ok-extend_from_slice.ensures.items c.min-count.ensures (omega (arith, c.len-room.ensures, c.self.inside.text.ok.0))

pub invariant_of-self-2 : goal.invariant_of-self-2
invariant_of-self-2 c = subst IsText (sym (now_is c)) (text_all _ _ c.self.invariant c.requires)

pub returns-clause-ok : goal.returns-clause-ok
returns-clause-ok c = now_is c ∙ ap (λ x. with_all x c.args.characters.now) c.self.view_is
