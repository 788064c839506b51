-- The lines that are left of a text.
use Rattle.std.proofs.Common.{◌≡◌, ℕ, suc, ◌+◌, min, [], ◌∷◌, ◌++◌, length, IsTrue, refl, ap, sym, ◌∙◌, arith, append_assoc, length-append}
use Rattle.spec_value.specs.Datum.{Text}
use Rattle.spec_value.proofs.Entries.{both_hold}
use Rattle.spec_world.specs.Checkpoint.{with_line_ends}
use Rattle.spec_checkpoint.specs.Lines.{is_line, are_lines}
use Rattle.spec_faults.specs.Cutting.{Cut, lines_of}
use Rattle.spec_faults.proofs.LinesBack.{lines_spelled, lines_told}
use Rattle.checkpoint_lines.specs.declared.fault.DecodeError.TheVariants.{Line}
use Rattle.checkpoint_lines.specs.declared.fault.FaultKind.TheVariants as kind
use Rattle.checkpoint_lines.specs.declared.lines.Lines.{Lines}
use Rattle.checkpoint_lines.specs.Told.{HasRoom, IsNext, IsOver}

pub line_left : (left line rest : Text) → IsTrue (is_line line) → left ≡ line ++ 10 ∷ rest → lines_of left ≡ record { lines = line ∷ (lines_of rest).lines; rest = (lines_of rest).rest }
line_left left line rest h e =
    let s = lines_spelled rest in
    let k : Cut = lines_of rest in
    ap lines_of (e ∙ ap (λ u. line ++ 10 ∷ u) (sym s.whole) ∙ sym (append_assoc line (10 ∷ with_line_ends k.lines) k.rest))
    ∙ lines_told (line ∷ k.lines) k.rest (both_hold (is_line line) (are_lines k.lines) h s.lines) s.rest

pub none_left : (left : Text) → IsTrue (is_line left) → lines_of left ≡ record { lines = []; rest = left }
none_left left h = lines_told [] left refl h

pub is_next : (l m : Lines) (line : Text) → HasRoom l → IsTrue (is_line line) → l.left.now ≡ line ++ 10 ∷ m.left.now → m.count ≡ min (l.count + 1) 18446744073709551615
    → IsNext line l m
is_next l m line room h e count =
    let long : length l.left.now ≡ length line + suc (length m.left.now) = ap length e ∙ length-append line (10 ∷ m.left.now) in
    let more : m.count ≡ suc l.count = omega arith in
    record { cut = line_left l.left.now line m.left.now h e; count = more; room = omega arith }

pub is_over : (l : Lines) (n : ℕ) → HasRoom l → IsTrue (is_line l.left.now) → n ≡ min (l.count + 1) 18446744073709551615 → IsOver (Line n kind.Ended) l
is_over l n room h count =
    let more : n ≡ suc l.count = omega arith in
    record { cut = none_left l.left.now h; error = ap (λ i. Line i kind.Ended) more }
