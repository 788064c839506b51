-- The fields of a line in their order, and then line by line.
use Rattle.std.proofs.Common.{◌≡◌, ℤ, List, [], ◌∷◌, ◌++◌, Option, Some, None, IsTrue, ◌&&◌, refl, ap, sym, ◌∙◌, append_assoc}
use Rattle.std.specs.List.{list_all}
use Rattle.std.specs.Fmt.{signed_decimal}
use Rattle.spec_value.specs.Datum.{Text, Datum, object, text, list, item, to_list, in_number_range, is_value}
use Rattle.spec_value.specs.Literal.{escaped, literal}
use Rattle.spec_value.proofs.Entries.{first_holds, second_holds}
use Rattle.spec_world.specs.World.{Link, Programming}
use Rattle.spec_world.specs.Checkpoint.{object_text, text_list, lines_held, programming_held, link_lines, variable_lines, literal_lines}
use Rattle.spec_checkpoint.specs.Records.{link_holds, LinksReadOnce, VariablesReadOnce, HeldReadOnce}
use Rattle.spec_checkpoint.proofs.Numbers.{tail_same, signed_read_once}
use Rattle.spec_checkpoint.proofs.Quoted.{texts_read_once}
use Rattle.spec_checkpoint.proofs.Fields.{whole_value, list_back, texts_in, texts_back}

first_line : (t u : Text) (ts us : List Text) → (t ∷ ts) ≡ (u ∷ us) → t ≡ u
first_line t u ts us e = cc

later_lines : (t u : Text) (ts us : List Text) → (t ∷ ts) ≡ (u ∷ us) → ts ≡ us
later_lines t u ts us e = cc

-- ---- what a link is programming

abbrev lines_in : Datum → Option (List Text)
lines_in (list xs) = Some (texts_in (to_list xs))
lines_in _ = None

lines_back : (o : Option (List Text)) → lines_in (lines_held o) ≡ o
lines_back None = refl
lines_back (Some ts) = ap Some (ap texts_in (list_back (text_list ts)) ∙ texts_back ts)

abbrev programming_in : Datum → Option Programming
programming_in (list (item (object o) (item (text t) (item v xs)))) = Some (record { object = o; verb = t; lines = lines_in v })
programming_in _ = None

programming_back : (g : Option Programming) → programming_in (programming_held g) ≡ g
programming_back None = refl
programming_back (Some g) = ap (λ o. Some (record g { lines = o })) (lines_back g.lines)

-- ---- links

link_same : (e f : ℤ × Link) → IsTrue (link_holds e) → IsTrue (link_holds f)
    → signed_decimal e.0 ++ (32 ∷ (object_text (e.1).person ++ (32 ∷ literal (programming_held (e.1).programming))))
    ≡ signed_decimal f.0 ++ (32 ∷ (object_text (f.1).person ++ (32 ∷ literal (programming_held (f.1).programming))))
    → e ≡ f
link_same e f h k is =
    let a = second_holds (in_number_range e.0) (in_number_range (e.1).person && is_value (programming_held (e.1).programming)) h in
    let b = second_holds (in_number_range f.0) (in_number_range (f.1).person && is_value (programming_held (f.1).programming)) k in
    let behind_e : Text = signed_decimal (e.1).person ++ (32 ∷ literal (programming_held (e.1).programming)) in
    let behind_f : Text = signed_decimal (f.1).person ++ (32 ∷ literal (programming_held (f.1).programming)) in
    let n = signed_read_once e.0 f.0 (32 ∷ 35 ∷ behind_e) (32 ∷ 35 ∷ behind_f)
    (first_holds (in_number_range e.0) (in_number_range (e.1).person && is_value (programming_held (e.1).programming)) h)
    (first_holds (in_number_range f.0) (in_number_range (f.1).person && is_value (programming_held (f.1).programming)) k) refl refl is in
    let p = signed_read_once (e.1).person (f.1).person (32 ∷ literal (programming_held (e.1).programming)) (32 ∷ literal (programming_held (f.1).programming))
    (first_holds (in_number_range (e.1).person) (is_value (programming_held (e.1).programming)) a)
    (first_holds (in_number_range (f.1).person) (is_value (programming_held (f.1).programming)) b) refl refl
    (tail_same 35 35 behind_e behind_f (tail_same 32 32 (35 ∷ behind_e) (35 ∷ behind_f) n.1)) in
    let v = whole_value (programming_held (e.1).programming) (programming_held (f.1).programming)
    (second_holds (in_number_range (e.1).person) (is_value (programming_held (e.1).programming)) a)
    (second_holds (in_number_range (f.1).person) (is_value (programming_held (f.1).programming)) b)
    (tail_same 32 32 (literal (programming_held (e.1).programming)) (literal (programming_held (f.1).programming)) p.1) in
    let g : (e.1).programming ≡ (f.1).programming = sym (programming_back (e.1).programming) ∙ ap programming_in v ∙ programming_back (f.1).programming in
    λ i. (n.0 i, record { person = p.0 i; programming = g i })

after_link : (a b : Text) → (108 ∷ 105 ∷ 110 ∷ 107 ∷ 32 ∷ a) ≡ (108 ∷ 105 ∷ 110 ∷ 107 ∷ 32 ∷ b) → a ≡ b
after_link a b e = cc

pub links_read_once : LinksReadOnce
links_read_once [] [] h k e = refl
links_read_once [] (f ∷ fs) h k e = cc
links_read_once (x ∷ es) [] h k e = cc
links_read_once (x ∷ es) (f ∷ fs) h k e =
    let a = link_same x f (first_holds (link_holds x) (list_all link_holds es) h) (first_holds (link_holds f) (list_all link_holds fs) k) (after_link _ _ (first_line _ _ (link_lines es) (link_lines fs) e)) in
    let b = links_read_once es fs (second_holds (link_holds x) (list_all link_holds es) h) (second_holds (link_holds f) (list_all link_holds fs) k) (later_lines _ _ (link_lines es) (link_lines fs) e) in
    λ i. a i ∷ b i

-- ---- variables

after_var : (a b : Text) → (118 ∷ 97 ∷ 114 ∷ 32 ∷ 34 ∷ a) ≡ (118 ∷ 97 ∷ 114 ∷ 32 ∷ 34 ∷ b) → a ≡ b
after_var a b e = cc

variable_same : (e f : Text × Datum) → IsTrue (is_value e.1) → IsTrue (is_value f.1)
    → (escaped e.0 ++ 34 ∷ []) ++ (32 ∷ literal e.1) ≡ (escaped f.0 ++ 34 ∷ []) ++ (32 ∷ literal f.1) → e ≡ f
variable_same e f h k is =
    let n = texts_read_once e.0 f.0 (32 ∷ literal e.1) (32 ∷ literal f.1) (sym (append_assoc (escaped e.0) (34 ∷ []) (32 ∷ literal e.1)) ∙ is ∙ append_assoc (escaped f.0) (34 ∷ []) (32 ∷ literal f.1)) in
    let v = whole_value e.1 f.1 h k (tail_same 32 32 (literal e.1) (literal f.1) n.1) in
    λ i. (n.0 i, v i)

pub variables_read_once : VariablesReadOnce
variables_read_once [] [] h k e = refl
variables_read_once [] (f ∷ fs) h k e = cc
variables_read_once (x ∷ es) [] h k e = cc
variables_read_once (x ∷ es) (f ∷ fs) h k e =
    let a = variable_same x f (first_holds (is_value x.1) (list_all (λ y. is_value y.1) es) h) (first_holds (is_value f.1) (list_all (λ y. is_value y.1) fs) k) (after_var _ _ (first_line _ _ (variable_lines es) (variable_lines fs) e)) in
    let b = variables_read_once es fs (second_holds (is_value x.1) (list_all (λ y. is_value y.1) es) h) (second_holds (is_value f.1) (list_all (λ y. is_value y.1) fs) k) (later_lines _ _ (variable_lines es) (variable_lines fs) e) in
    λ i. a i ∷ b i

-- ---- values held

pub held_read_once : HeldReadOnce
held_read_once [] [] h k e = refl
held_read_once [] (u ∷ us) h k e = cc
held_read_once (v ∷ vs) [] h k e = cc
held_read_once (v ∷ vs) (u ∷ us) h k e =
    let a = whole_value v u (first_holds (is_value v) (list_all is_value vs) h) (first_holds (is_value u) (list_all is_value us) k) (first_line (literal v) (literal u) (literal_lines vs) (literal_lines us) e) in
    let b = held_read_once vs us (second_holds (is_value v) (list_all is_value vs) h) (second_holds (is_value u) (list_all is_value us) k) (later_lines (literal v) (literal u) (literal_lines vs) (literal_lines us) e) in
    λ i. a i ∷ b i
