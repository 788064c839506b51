-- A verb is read from its line and the lines of its program, which end where a line ends otherwise.
use Rattle.std.proofs.Common.{◌≡◌, ℕ, List, [], ◌∷◌, ◌++◌, length, IsTrue, Bool, false, not, ◌==◌, refl, ap, sym, subst, ◌∙◌, codes, append_assoc, map-id}
use Rattle.std.specs.List.{list_all}
use Rattle.std.specs.Fmt.{decimal}
use Rattle.std.proofs.lemmas.List.{append-nil, append_cancel_left}
use Rattle.spec_value.specs.Datum.{Text, is_text, text, in_number_range}
use Rattle.spec_value.specs.Literal.{literal}
use Rattle.spec_value.proofs.Entries.{first_holds, second_holds}
use Rattle.spec_program.specs.Trees.{is_tree}
use Rattle.spec_program.specs.Spelling.{canonical_lines}
use Rattle.spec_spelling.proofs.ProgramsCut.{one_tree}
use Rattle.spec_world.specs.World.{Verb}
use Rattle.spec_world.specs.Checkpoint.{object_text, verb_bits, part_text, preposition_number, verb_line, each_verb}
use Rattle.spec_checkpoint.specs.Holding.{preposition_holds, verb_holds}
use Rattle.spec_checkpoint.specs.VerbsTold.{VerbsReadOnce}
use Rattle.spec_checkpoint.proofs.Numbers.{tail_same}
use Rattle.spec_checkpoint.proofs.Lines.{cut_same}
use Rattle.spec_checkpoint.proofs.CodeLines.{closes, code_closed}
use Rattle.spec_checkpoint.proofs.Runs.{first_same, rest_same, stops, runs_read_once, each_of, AreRecords, records_read_once, begins_with}
use Rattle.spec_checkpoint.proofs.Fields.{quoted_same, object_same, has, four_bits, part_no_space, whole_part, preposition_no_space, whole_preposition}
use Rattle.spec_checkpoint.proofs.OpenLines.{decimal_open, not_closed_behind}

abbrev pub verb_record : Verb → List Text
verb_record v = verb_line v (length (canonical_lines v.program)) ∷ canonical_lines v.program

-- its name, owner, bits and specifier, and what else stands on the line
abbrev specified : Verb → Text → Text
specified v r =
    literal (text v.names) ++ (32 ∷ (object_text v.owner ++ (32 ∷ (verb_bits v ++ (32 ∷ (part_text v.direct ++ (32 ∷ (preposition_number v.preposition ++ (32 ∷ (part_text v.indirect ++ (32 ∷ r)))))))))))

verb_told : (v u : Verb) (r s : Text) → IsTrue (verb_holds v) → IsTrue (verb_holds u) → specified v r ≡ specified u s → canonical_lines v.program ≡ canonical_lines u.program → v ≡ u
verb_told v u r s h k e same =
    let h1 = second_holds (is_text v.names) _ h in
    let k1 = second_holds (is_text u.names) _ k in
    let h2 = second_holds (in_number_range v.owner) _ h1 in
    let k2 = second_holds (in_number_range u.owner) _ k1 in
    let hp = first_holds (preposition_holds v.preposition) (is_tree v.program) h2 in
    let kp = first_holds (preposition_holds u.preposition) (is_tree u.program) k2 in
    let a1 : Text = part_text v.indirect ++ (32 ∷ r) in
    let b1 : Text = part_text u.indirect ++ (32 ∷ s) in
    let a2 : Text = preposition_number v.preposition ++ (32 ∷ a1) in
    let b2 : Text = preposition_number u.preposition ++ (32 ∷ b1) in
    let a3 : Text = part_text v.direct ++ (32 ∷ a2) in
    let b3 : Text = part_text u.direct ++ (32 ∷ b2) in
    let a4 : Text = verb_bits v ++ (32 ∷ a3) in
    let b4 : Text = verb_bits u ++ (32 ∷ b3) in
    let n = quoted_same v.names u.names (32 ∷ (object_text v.owner ++ (32 ∷ a4))) (32 ∷ (object_text u.owner ++ (32 ∷ b4))) e in
    let o = object_same v.owner u.owner (32 ∷ a4) (32 ∷ b4) (first_holds (in_number_range v.owner) _ h1) (first_holds (in_number_range u.owner) _ k1) refl refl
    (tail_same 32 32 (object_text v.owner ++ (32 ∷ a4)) (object_text u.owner ++ (32 ∷ b4)) n.1) in
    let fv = four_bits v.readable v.writable v.callable v.debug in
    let fu = four_bits u.readable u.writable u.callable u.debug in
    let c = cut_same 32 (verb_bits v) (verb_bits u) a3 b3 fv.4 fu.4 (tail_same 32 32 a4 b4 o.1) in
    let d = cut_same 32 (part_text v.direct) (part_text u.direct) a2 b2 (part_no_space v.direct) (part_no_space u.direct) c.1 in
    let p = cut_same 32 (preposition_number v.preposition) (preposition_number u.preposition) a1 b1 (preposition_no_space v.preposition) (preposition_no_space u.preposition) d.1 in
    let q = cut_same 32 (part_text v.indirect) (part_text u.indirect) r s (part_no_space v.indirect) (part_no_space u.indirect) p.1 in
    let readable : v.readable ≡ u.readable = sym fv.0 ∙ ap (has 114) c.0 ∙ fu.0 in
    let writable : v.writable ≡ u.writable = sym fv.1 ∙ ap (has 119) c.0 ∙ fu.1 in
    let callable : v.callable ≡ u.callable = sym fv.2 ∙ ap (has 120) c.0 ∙ fu.2 in
    let debug : v.debug ≡ u.debug = sym fv.3 ∙ ap (has 100) c.0 ∙ fu.3 in
    let direct = whole_part v.direct u.direct d.0 in
    let preposition = whole_preposition v.preposition u.preposition hp kp p.0 in
    let indirect = whole_part v.indirect u.indirect q.0 in
    let program = one_tree v.program u.program (second_holds (preposition_holds v.preposition) (is_tree v.program) h2) (second_holds (preposition_holds u.preposition) (is_tree u.program) k2) same in
    λ i. record {
      names = n.0 i;
      owner = o.0 i;
      readable = readable i;
      writable = writable i;
      callable = callable i;
      debug = debug i;
      direct = direct i;
      preposition = preposition i;
      indirect = indirect i;
      program = program i;
    }

abbrev pub is_verb_line : Text → Bool
is_verb_line [] = false
is_verb_line (c ∷ t) = c == 118

verb_line_open : (v : Verb) (n : ℕ) → IsTrue (not (closes (verb_line v n)))
verb_line_open v n =
    let line : Text = specified v [] in
    subst (λ t. IsTrue (not (closes t))) (placed v n) (not_closed_behind (codes "verb " ++ line) (decimal n) (decimal_open n))
  where
    step : (a b c : Text) → (a ++ (32 ∷ b)) ++ c ≡ a ++ (32 ∷ (b ++ c))
    step a b c = append_assoc a (32 ∷ b) c

    placed : (v : Verb) (n : ℕ) → (codes "verb " ++ specified v []) ++ decimal n ≡ verb_line v n
    placed v n =
        let l1 : Text = part_text v.indirect ++ (32 ∷ []) in
        let l2 : Text = preposition_number v.preposition ++ (32 ∷ l1) in
        let l3 : Text = part_text v.direct ++ (32 ∷ l2) in
        let l4 : Text = verb_bits v ++ (32 ∷ l3) in
        let l5 : Text = object_text v.owner ++ (32 ∷ l4) in
        ap (λ t. codes "verb " ++ t)
        (step (literal (text v.names)) l5 (decimal n)
        ∙ ap (λ t. literal (text v.names) ++ (32 ∷ t))
        (step (object_text v.owner) l4 (decimal n)
        ∙ ap (λ t. object_text v.owner ++ (32 ∷ t))
        (step (verb_bits v) l3 (decimal n)
        ∙ ap (λ t. verb_bits v ++ (32 ∷ t))
        (step (part_text v.direct) l2 (decimal n)
        ∙ ap (λ t. part_text v.direct ++ (32 ∷ t))
        (step (preposition_number v.preposition) l1 (decimal n)
        ∙ ap (λ t. preposition_number v.preposition ++ (32 ∷ t)) (step (part_text v.indirect) [] (decimal n)))))))

verb_same : (v u : Verb) (r s : List Text) → IsTrue (verb_holds v) → IsTrue (verb_holds u) → IsTrue (stops closes r) → IsTrue (stops closes s)
    → verb_record v ++ r ≡ verb_record u ++ s → (v ≡ u) × (r ≡ s)
verb_same v u r s h k f g e =
    let line = first_same (verb_line v (length (canonical_lines v.program))) (verb_line u (length (canonical_lines u.program))) (canonical_lines v.program ++ r) (canonical_lines u.program ++ s) e in
    let later = rest_same (verb_line v (length (canonical_lines v.program))) (verb_line u (length (canonical_lines u.program))) (canonical_lines v.program ++ r) (canonical_lines u.program ++ s) e in
    let code = runs_read_once closes (canonical_lines v.program) (canonical_lines u.program) r s (code_closed v.program) (code_closed u.program) f g later in (
      verb_told v u (decimal (length (canonical_lines v.program))) (decimal (length (canonical_lines u.program))) h k
          (append_cancel_left (codes "verb ") (specified v (decimal (length (canonical_lines v.program)))) (specified u (decimal (length (canonical_lines u.program)))) line) code.0,
      code.1,
    )

verbs_are : AreRecords verb_record (λ v. v) verb_holds (begins_with is_verb_line) (stops closes)
verbs_are = record { starts = λ v r. refl; goes = λ v r. verb_line_open v (length (canonical_lines v.program)); one = verb_same }

verbs_each : (vs : List Verb) → each_verb vs ≡ each_of verb_record vs
verbs_each [] = refl
verbs_each (v ∷ vs) = ap (λ ts. verb_record v ++ ts) (verbs_each vs)

-- in front of a line that is neither a verb's nor a program's
pub verbs_in_front : (vs us : List Verb) (r s : List Text) → IsTrue (list_all verb_holds vs) → IsTrue (list_all verb_holds us) → IsTrue (stops closes r) → IsTrue (stops closes s)
    → IsTrue (not (begins_with is_verb_line r)) → IsTrue (not (begins_with is_verb_line s)) → each_verb vs ++ r ≡ each_verb us ++ s → (vs ≡ us) × (r ≡ s)
verbs_in_front vs us r s h k f g m n e =
    let p = records_read_once verb_record (λ v. v) verb_holds (begins_with is_verb_line) (stops closes) (verbs_are) vs us r s h k f g m n
    (ap (λ ts. ts ++ r) (sym (verbs_each vs)) ∙ e ∙ ap (λ ts. ts ++ s) (verbs_each us)) in
    (sym (map-id vs) ∙ p.0 ∙ map-id us, p.1)

pub verbs_read_once : VerbsReadOnce
verbs_read_once vs us h k e =
    (verbs_in_front vs us [] [] h k refl refl refl refl
    (append-nil (each_verb vs) ∙ rest_same _ _ (each_verb vs) (each_verb us) e ∙ sym (append-nil (each_verb us)))).0
