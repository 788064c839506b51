use Rattle.std.proofs.Common.{◌≡◌, ℕ, List, [], ◌∷◌, map, IsTrue, IfOk, MatchOption, Option, Some, Result, Ok, Err, ap, sym, ◌∙◌}
use Rattle.std.specs.Prelude.{option_map}
use Rattle.std.specs.declared.vec.Vec.{Vec}
use Rattle.std.specs.declared.alloc.Global.{Global}
use Rattle.std.specs.declared.alloc.AllocError.{AllocError}
use Rattle.std.specs.Fmt.{decimal}
use Rattle.spec_world.specs.Checkpoint as text_of
use Rattle.spec_faults.specs.Plain.{number_in, between_dots, is_path, path_in}
use Rattle.line_fields.specs.Said.{Says, are_parts}
use Rattle.line_fields.specs.Values.{are_places}
use Rattle.line_fields.proofs.Dots.{no_parts}
use Rattle.line_fields.proofs.DotsSaid.{beginning_said, path_is}
use Rattle.line_fields.proofs.PlainNumbers.{not_so}
use Rattle.line_fields.proofs.number.path.Goals as goal

pub returns-then-is_zero : goal.returns-then-is_zero
returns-then-is_zero c = record {
  reads = λ ns h e. c.new.ensures.items ∙ no_parts ns h (sym e ∙ c.is_zero.ensures.0 c.if-is_zero.true);
  fault = let said = beginning_said c.args.text.now (c.is_zero.ensures.0 c.if-is_zero.true) in (said.0, ap Some (said.1 ∙ sym c.new.ensures.items));
}

pub returns : goal.returns
returns c = record { reads = go; fault = said c.dotted.result c.dotted.ensures.fault }
  where
    go : (ns : List ℕ) → IsTrue (are_places ns) → c.args.text.now ≡ text_of.path (map decimal ns) → IfOk c.dotted.result (λ o. MatchOption o ⊥ (λ v. v.items ≡ ns))
    go [] h e = absurd (cc (c.is_zero.ensures.1 e, c.if-is_zero.false))
    go (m ∷ ms) h e = c.dotted.ensures.reads m ms h e

    said : (r : Result (Option (Vec ℕ Global)) AllocError)
        → IfOk r (λ o. Says (option_map (λ v. v.items) o) (are_parts (between_dots c.args.text.now)) (Some (map number_in (between_dots c.args.text.now))))
        → IfOk r (λ o. Says (option_map (λ v. v.items) o) (is_path c.args.text.now) (Some (path_in c.args.text.now)))
    said (Ok o) h = path_is c.args.text.now (option_map (λ v. v.items) o) (not_so c.is_zero.result (c.args.text.now ≡ 48 ∷ []) c.is_zero.ensures.1 c.if-is_zero.false) h
    said (Err x) h = h
