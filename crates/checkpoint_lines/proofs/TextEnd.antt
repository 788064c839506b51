-- The end of a text: its last line, and that nothing stands behind it.
use Rattle.std.proofs.Common.{◌≡◌, ℕ, suc, ◌+◌, ◌==◌, min, true, false, List, [], ◌∷◌, ◌++◌, length, codes, None, Result, Err, IsTrue, refl, ap, sym, subst, ◌∙◌, arith}
use Rattle.std.proofs.lemmas.Bool.Decides.{nat_tests}
use Rattle.spec_value.specs.Datum.{Text}
use Rattle.spec_world.specs.Checkpoint as fault
use Rattle.spec_checkpoint.specs.Lines.{is_line}
use Rattle.spec_faults.specs.Cutting.{lines_of, fields_in, field_at}
use Rattle.spec_faults.specs.Forms.{is_other_word, one_is, end_form}
use Rattle.spec_faults.specs.Awaited.{one, goes_on}
use Rattle.spec_faults.specs.Faults.{fault_at, fault_among}
use Rattle.checkpoint_lines.specs.declared.fault.DecodeError.{DecodeError}
use Rattle.checkpoint_lines.specs.declared.row.Row.{Row}
use Rattle.checkpoint_lines.specs.declared.lines.Lines.{Lines}
use Rattle.checkpoint_lines.specs.Rows.{row_fields}
use Rattle.checkpoint_lines.specs.Told.{IsFault, fault_left, lines_in, HasRoom, GoesOn, TellsHeaded, Ends, IsNextRow, IsHeaded}
use Rattle.checkpoint_lines.proofs.Telling.{row_goes, all_meet, in_places, listed, one_word}
use Rattle.checkpoint_lines.proofs.LinesLeft.{line_left, none_left}
use Rattle.checkpoint_lines.proofs.Going.{one_row}

-- another line stands there
pub passed_end : {A : Type 0} (res : Result A DecodeError) (e d : DecodeError) (l m : Lines) → res ≡ Err d → d ≡ e → (HasRoom l → TellsHeaded e l (codes "end") 0) → Ends res l m (one end_form ∷ [])
passed_end res e d l m was is tells =
    subst (λ s. Ends s l m (one end_form ∷ [])) (sym was)
    (λ room. subst (λ f. IsFault f (fault_left l (one end_form ∷ []))) (sym is) (tells room (one end_form) [] (λ ts. goes_on []) (one_row end_form) refl refl []))

ends_cut : (t : Text) → t ≡ codes "end" → (length (fields_in t) == 1) ≡ true
ends_cut t e = ap (λ u. length (fields_in u) == 1) e

-- the last line stands there
end_goes : (l m : Lines) (r : Row) → IsNextRow r l m × IsHeaded r (codes "end") 0 → GoesOn l m (one end_form ∷ []) []
end_goes l m r n =
    let ts : List Text = in_places 1 0 (row_fields r) in
    let is : row_fields r ≡ ts = listed 1 (row_fields r) n.1.many in
    let words : one_is is_other_word end_form ts ≡ false = one_word (codes "end") [] (field_at (row_fields r) 0) [] n.1.word refl in
    let met = all_meet r end_form ts is refl n.0.filled words refl refl (ends_cut (field_at (row_fields r) 0) n.1.word) in
    row_goes l m r (one end_form) (λ _. end_form) (λ ts. goes_on []) [] n.0 (one_row end_form) met.1 refl

over : (t : Text) → (length t == 0) ≡ true → t ≡ []
over [] h = refl
over (c ∷ t) h = absurd (grind (arith, nat_tests))

pub ends : (l m : Lines) (r : Row) → (HasRoom l → IsNextRow r l m × IsHeaded r (codes "end") 0) → (length m.left.now == 0) ≡ true → HasRoom l
    → (fault_left l (one end_form ∷ []) ≡ None) × (lines_in l ≡ m.count)
ends l m r there none room =
    let g = end_goes l m r (there room) in
    let nothing = over m.left.now none in
    let lines = ap (λ t. length (lines_of t).lines) nothing in
    let all = g.lines in
    (g.fault [] ∙ ap (λ t. fault_among (lines_of t).lines (lines_of t).rest (suc m.count) []) nothing, omega arith)

-- another line behind it
pub line_behind : (l m : Lines) (r : Row) (line rest : Text) (n : ℕ) → (HasRoom l → IsNextRow r l m × IsHeaded r (codes "end") 0) → IsTrue (is_line line) → m.left.now ≡ line ++ 10 ∷ rest
    → n ≡ min (m.count + 1) 18446744073709551615 → HasRoom l → fault_left l (one end_form ∷ []) ≡ fault_at n fault.line
line_behind l m r line rest n there h e count room =
    let g = end_goes l m r (there room) in
    let more = g.room in
    let at : suc m.count ≡ n = omega arith in
    g.fault [] ∙ ap (λ k. fault_among k.lines k.rest (suc m.count) []) (line_left m.left.now line rest h e) ∙ ap (λ i. fault_at i fault.line) at

some_ended : (t : Text) (n : ℕ) → (length t == 0) ≡ false → fault_among [] t n [] ≡ fault_at n fault.ended
some_ended [] n h = cc
some_ended (c ∷ t) n h = refl

-- what stands behind it has no line end
pub text_behind : (l m : Lines) (r : Row) (n : ℕ) → (HasRoom l → IsNextRow r l m × IsHeaded r (codes "end") 0) → IsTrue (is_line m.left.now) → (length m.left.now == 0) ≡ false
    → n ≡ min (m.count + 1) 18446744073709551615 → HasRoom l → fault_left l (one end_form ∷ []) ≡ fault_at n fault.ended
text_behind l m r n there h some count room =
    let g = end_goes l m r (there room) in
    let more = g.room in
    let at : suc m.count ≡ n = omega arith in
    g.fault [] ∙ ap (λ k. fault_among k.lines k.rest (suc m.count) []) (none_left m.left.now h) ∙ some_ended m.left.now (suc m.count) some ∙ ap (λ i. fault_at i fault.ended) at
