-- What readers of a line in fields tell of it.
use Rattle.std.proofs.Common.{◌≡◌, ℕ, suc, ◌==◌, ◌&&◌, Bool, true, false, not, List, [], ◌∷◌, length, Some, Result, Ok, Err, IsTrue, if◌then◌else◌, refl, ap, sym, subst, ◌∙◌}
use Rattle.std.proofs.lemmas.Bool.{eqb-true}
use Rattle.std.specs.List.{list_all}
use Rattle.spec_value.specs.Datum.{Text, same_text}
use Rattle.spec_value.proofs.Entries.{first_holds, second_holds}
use Rattle.spec_value.proofs.Same.{same_texts}
use Rattle.spec_world.specs.Checkpoint as fault
use Rattle.spec_faults.specs.Cutting.{among, fields_in, field_at, is_filled}
use Rattle.spec_faults.specs.Forms.{Wanted, word, is_other_word, is_misspelt, is_no_value, one_is, has_form, least, fault_of}
use Rattle.spec_faults.specs.Awaited.{Awaited, Verdict, by_fault}
use Rattle.line_fields.specs.Cutting.{first_fields}
use Rattle.checkpoint_lines.specs.declared.fault.DecodeError.{DecodeError}
use Rattle.checkpoint_lines.specs.declared.fault.DecodeError.TheVariants.{Line}
use Rattle.checkpoint_lines.specs.declared.fault.FaultKind.TheVariants as kind
use Rattle.checkpoint_lines.specs.declared.row.Row.{Row}
use Rattle.checkpoint_lines.specs.declared.lines.Lines.{Lines}
use Rattle.checkpoint_lines.specs.Rows.{row_fields}
use Rattle.checkpoint_lines.specs.Told.{HasRoom, TellsFault, Tells, IsNext, all_fields, line_fields, is_cut, row_fault, IsRow, IsNextRow, NewRow, NextRow, IsHeaded, TellsHeaded, NextWith, is_test}
use Rattle.checkpoint_lines.proofs.Telling.{line_faulty, some_field, cut_fields}
use Rattle.checkpoint_lines.proofs.FirstFields.{first_all, last_cut, filled_first, never, no_head}

-- ---- a line whose fields have not the form

formless : (ws : List Wanted) (ts : List Text) → has_form ws ts ≡ false → fault_of ws ts ≡ Some fault.line
formless ws ts h = ap (λ b. least b (one_is is_misspelt ws ts) (one_is is_no_value ws ts)) h

line_formless : (l m : Lines) (line : Text) (a : Awaited) (form : List Text → List Wanted) (next : List Text → Verdict) → IsNext line l m → IsRow a form next
    → has_form (form (fields_in line)) (fields_in line) ≡ false → TellsFault (Line m.count kind.Line) l (a ∷ [])
line_formless l m line a form next n is h =
    line_faulty l m line a kind.Line n is.first (is.told line ∙ ap (λ o. by_fault o (fields_in line) next) (formless (form (fields_in line)) (fields_in line) h))

-- a field is empty
empty_formless : (ws : List Wanted) (ts : List Text) → list_all is_filled ts ≡ false → has_form ws ts ≡ false
empty_formless ws ts h = ap (λ b. length ts == length ws && (b && not (one_is is_other_word ws ts))) h ∙ never (length ts == length ws)

-- ---- the next line in fields

next_row : (r : Row) (l m : Lines) (line : Text) → IsNext line l m → r.line ≡ m.count → IsTrue (list_all is_filled (row_fields r)) → line_fields r ≡ fields_in line → IsNextRow r l m
next_row r l m line n number filled fields = record { line = line; next = n; fields = fields; filled = filled; number = number }

pub row_next : (res : Result Row DecodeError) (l m : Lines) (line : Text) (ts : List Text) → (HasRoom l → IsNext line l m) → ts ≡ fields_in line → NewRow res m.count ts → NextRow res l m
row_next (Ok r) l m line ts n e new = λ room.
    let cut : is_cut (row_fields r) ≡ true = last_cut (row_fields r) line (new.1 ∙ e) in
    (next_row r l m line (n room) new.0 (subst (λ us. IsTrue (list_all is_filled us)) (sym new.1) new.2) (cut_fields (row_fields r) cut ∙ new.1 ∙ e), cut)
row_next (Err d) l m line ts n e new = λ room a form next is.
    subst (λ f. TellsFault f l (a ∷ [])) (sym new.0)
    (line_formless l m line a form next (n room) is (empty_formless (form (fields_in line)) (fields_in line) (ap (list_all is_filled) (sym e) ∙ new.1)))

-- ---- the next line with a word

first_empty : (n : ℕ) (t : Text) → list_all is_filled (first_fields n (fields_in t)) ≡ false → list_all is_filled (fields_in t) ≡ false
first_empty n t h = go (list_all is_filled (fields_in t)) refl
  where
    go : (b : Bool) → list_all is_filled (fields_in t) ≡ b → list_all is_filled (fields_in t) ≡ false
    go false e = e
    go true e = let all = filled_first n (fields_in t) (some_field (among 0) t) e in absurd (cc (all, h))

-- a field is empty
pub headed_empty : (res : Result Row DecodeError) (e d : DecodeError) (l m : Lines) (line w : Text) (n : ℕ) (ts : List Text) → res ≡ Err d → d ≡ e → (HasRoom l → IsNext line l m)
    → ts ≡ first_fields n (fields_in line) → NewRow (Err e) m.count ts → NextWith res l m w n
headed_empty res e d l m line w n ts was is next es new =
    subst (λ s. NextWith s l m w n) (sym was)
    (λ room a ws after row many tests.
    subst (λ f. TellsFault f l (a ∷ [])) (sym (is ∙ new.0))
    (line_formless l m line a (λ us. word w ∷ ws) after (next room) row
    (empty_formless (word w ∷ ws) (fields_in line) (first_empty n line (ap (list_all is_filled) (sym es) ∙ new.1)))))

-- the word stands there
pub headed : (r : Row) (l m : Lines) (line w : Text) (n : ℕ) (ts : List Text) (has : Bool) → (HasRoom l → IsNext line l m) → ts ≡ first_fields n (fields_in line) → NewRow (Ok r) m.count ts
    → has ≡ (length (row_fields r) == suc n && same_text (field_at (row_fields r) 0) w) → has ≡ true → HasRoom l → IsNextRow r l m × IsHeaded r w n
headed r l m line w n ts has next es new e so room =
    let both : (length (row_fields r) == suc n && same_text (field_at (row_fields r) 0) w) ≡ true = sym e ∙ so in (
      next_row r l m line (next room) new.0 (subst (λ us. IsTrue (list_all is_filled us)) (sym new.1) new.2) (ap all_fields (new.1 ∙ es) ∙ first_all n (fields_in line) line refl),
      record {
        many = eqb-true (length (row_fields r)) (suc n) (first_holds (length (row_fields r) == suc n) (same_text (field_at (row_fields r) 0) w) both);
        word = same_texts (field_at (row_fields r) 0) w (second_holds (length (row_fields r) == suc n) (same_text (field_at (row_fields r) 0) w) both);
      },
    )

line_is_line : (r : Row) → row_fault r kind.Line ≡ Line r.line kind.Line
line_is_line r = go (is_cut (row_fields r))
  where
    go : (b : Bool) → Line r.line (if b then kind.Line else kind.Line) ≡ Line r.line kind.Line
    go true = refl
    go false = refl

-- another line
pub not_headed : (r : Row) (e : DecodeError) (l m : Lines) (line w : Text) (n : ℕ) (ts : List Text) (has : Bool) → (HasRoom l → IsNext line l m) → ts ≡ first_fields n (fields_in line) → NewRow (Ok r) m.count ts
    → has ≡ (length (row_fields r) == suc n && same_text (field_at (row_fields r) 0) w) → has ≡ false → e ≡ row_fault r kind.Line → HasRoom l → TellsHeaded e l w n
not_headed r e l m line w n ts has next es new is other fails room a ws after row many tests =
    subst (λ f. TellsFault f l (a ∷ [])) (sym (fails ∙ line_is_line r ∙ ap (λ i. Line i kind.Line) new.0))
    (line_formless l m line a (λ us. word w ∷ ws) after (next room) row
    (no_head w n ws (fields_in line) many
    (ap (λ us. length us == suc n && same_text (field_at us 0) w) (sym (new.1 ∙ es)) ∙ sym is ∙ other)))

-- ---- an error that is passed on

pub passed_headed : {A : Type 0} (res : Result A DecodeError) (e d : DecodeError) (l m : Lines) (w : Text) (n : ℕ) (a : Awaited) (ws : List Wanted) (next : List Text → Verdict) (after : A → List Awaited)
    → res ≡ Err d → d ≡ e → (HasRoom l → TellsHeaded e l w n) → IsRow a (λ _. word w ∷ ws) next → length ws ≡ n → IsTrue (list_all is_test ws) → Tells res l m (a ∷ []) after
passed_headed res e d l m w n a ws next after was is tells row many tests =
    subst (λ s. Tells s l m (a ∷ []) after) (sym was) (λ room. subst (λ f. TellsFault f l (a ∷ [])) (sym is) (tells room a ws next row many tests))
