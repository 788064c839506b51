-- Where the characters of a field stand: none of them ends it.
use Rattle.std.proofs.Common.{◌≡◌, ℕ, suc, ◌+◌, ◌-◌, ◌<◌, ◌≤◌, ◌^◌, min, [], ◌∷◌, ◌++◌, length, drop, get_or, IsTrue, Bool, true, false, not, ◌==◌, ◌&&◌, ◌||◌, if◌then◌else◌, Option, Some, None, refl, ap, sym, subst, ◌∙◌, arith, length-append}
use Rattle.std.proofs.lemmas.List.{append-nil}
use Rattle.std.proofs.Math.Seq.{drop-cons}
use Rattle.std.proofs.Math.ListN.{drop_of_length-le}
use Rattle.std.proofs.lemmas.Bool.Decides.{nat_tests}
use Rattle.spec_value.specs.Datum.{Text, ErrorCode, no_error, type_mismatch, zero_division, permission_denied, property_not_found, verb_not_found, variable_not_found, invalid_indirection, recursive_move, too_many_calls, range_error, wrong_argument_count, move_refused, invalid_argument, limit_exceeded, float_error, Datum, integer, object, text, error, list, Data, no_data, item}
use Rattle.spec_value.specs.Literal.{error_name, escape, escaped, literal, data_text, more_text}
use Rattle.spec_value.proofs.Entries.{first_holds, second_holds}
use Rattle.line_fields.specs.declared.fields.Place.{Place}
use Rattle.line_fields.specs.Fields.{Field, word, held, spelled, is_plain, is_word, is_field}
use Rattle.line_fields.specs.Places.{ends_field, behind, lists_behind}
use Rattle.line_fields.proofs.Words.{are_plain, signed_plain}

abbrev pub at : ℕ → Place
at n = record { lists = n; quoted = false; escaped = false }

abbrev within : ℕ → Place
within n = record { lists = n; quoted = true; escaped = false }

-- none of the characters ends a field, and they lead from one place to another
abbrev Leads : Place → Text → Place → Type 0
Leads p [] q = p ≡ q
Leads p (c ∷ t) q = (ends_field p c ≡ false) × Leads (behind p c) t q

leads_on : (p q s : Place) (t u : Text) → Leads p t q → Leads q u s → Leads p (t ++ u) s
leads_on p q s [] u h k = subst (λ r. Leads r u s) (sym h) k
leads_on p q s (c ∷ t) u h k = (h.0, leads_on (behind p c) q s t u h.1 k)

-- ---- characters that are no marks

plain_ends : (n c : ℕ) → IsTrue (is_plain c) → ends_field (at n) c ≡ false
plain_ends n c h = grind (arith, nat_tests)

plain_lists : (n c : ℕ) → IsTrue (is_plain c) → lists_behind n c ≡ n
plain_lists n c h = grind (arith, nat_tests)

plain_quoted : (c : ℕ) → IsTrue (is_plain c) → (c == 34) ≡ false
plain_quoted c h = grind (arith, nat_tests)

plain_behind : (n c : ℕ) → IsTrue (is_plain c) → behind (at n) c ≡ at n
plain_behind n c h = λ i. record { lists = plain_lists n c h i; quoted = plain_quoted c h i; escaped = false }

plain_leads : (n : ℕ) (t : Text) → IsTrue (are_plain t) → Leads (at n) t (at n)
plain_leads n [] h = refl
plain_leads n (c ∷ t) h =
    let here = first_holds (is_plain c) (are_plain t) h in
    (plain_ends n c here, subst (λ p. Leads p t (at n)) (sym (plain_behind n c here)) (plain_leads n t (second_holds (is_plain c) (are_plain t) h)))

-- ---- within a text

never : (b : Bool) → (b && false) ≡ false
never true = refl
never false = refl

escape_leads : (n c : ℕ) → Leads (within n) (escape c) (within n)
escape_leads n c = go (c == 34 || c == 92) refl
  where
    no_quote : (c == 34 || c == 92) ≡ false → not (c == 34) ≡ true
    no_quote h = grind (arith, nat_tests)

    no_backslash : (c == 34 || c == 92) ≡ false → (c == 92) ≡ false
    no_backslash h = grind (arith, nat_tests)

    go : (b : Bool) → (c == 34 || c == 92) ≡ b → Leads (within n) (if b then 92 ∷ c ∷ [] else c ∷ []) (within n)
    go true h = (refl, (never (c == 32 && n == 0), refl))
    go false h = (never (c == 32 && n == 0), λ i. record { lists = n; quoted = no_quote h i; escaped = no_backslash h i })

escaped_leads : (n : ℕ) (t : Text) → Leads (within n) (escaped t) (within n)
escaped_leads n [] = refl
escaped_leads n (c ∷ t) = leads_on (within n) (within n) (within n) (escape c) (escaped t) (escape_leads n c) (escaped_leads n t)

text_leads : (n : ℕ) (t : Text) → Leads (at n) (literal (text t)) (at n)
text_leads n t = (refl, leads_on (within n) (within n) (at n) (escaped t) (34 ∷ []) (escaped_leads n t) (refl, refl))

-- ---- values

error_plain : (e : ErrorCode) → IsTrue (are_plain (error_name e))
error_plain no_error = refl
error_plain type_mismatch = refl
error_plain zero_division = refl
error_plain permission_denied = refl
error_plain property_not_found = refl
error_plain verb_not_found = refl
error_plain variable_not_found = refl
error_plain invalid_indirection = refl
error_plain recursive_move = refl
error_plain too_many_calls = refl
error_plain range_error = refl
error_plain wrong_argument_count = refl
error_plain move_refused = refl
error_plain invalid_argument = refl
error_plain limit_exceeded = refl
error_plain float_error = refl

deeper : (n : ℕ) → n + 1 < 2 ^ 64 → behind (at n) 123 ≡ at (n + 1)
deeper n h = let m : min (n + 1) (2 ^ 64 - 1) ≡ n + 1 = omega arith in λ i. record { lists = m i; quoted = false; escaped = false }

closes : (n : ℕ) → Leads (at (n + 1)) (125 ∷ []) (at n)
closes n = let m : (n + 1) - 1 ≡ n = omega arith in (refl, λ i. record { lists = m i; quoted = false; escaped = false })

no_end : (n : ℕ) → 0 < n → ends_field (at n) 32 ≡ false
no_end n h = grind (arith, nat_tests)

mutual
  value_leads : (v : Datum) (n : ℕ) → n + length (literal v) < 2 ^ 64 → Leads (at n) (literal v) (at n)
  value_leads (integer z) n h = plain_leads n (literal (integer z)) (signed_plain z)
  value_leads (object z) n h = plain_leads n (literal (object z)) (signed_plain z)
  value_leads (text t) n h = text_leads n t
  value_leads (error e) n h = plain_leads n (error_name e) (error_plain e)
  value_leads (list xs) n h =
      let room = length-append (data_text xs) (125 ∷ []) in (
        refl,
        subst (λ p. Leads p (data_text xs ++ 125 ∷ []) (at n)) (sym (deeper n (omega arith)))
            (leads_on (at (n + 1)) (at (n + 1)) (at n) (data_text xs) (125 ∷ []) (data_leads xs (n + 1) (omega arith) (omega arith)) (closes n)),
      )

  data_leads : (xs : Data) (n : ℕ) → 0 < n → n + length (data_text xs) < 2 ^ 64 → Leads (at n) (data_text xs) (at n)
  data_leads no_data n p h = refl
  data_leads (item x xs) n p h =
      let room = length-append (literal x) (more_text xs) in
      leads_on (at n) (at n) (at n) (literal x) (more_text xs) (value_leads x n (omega arith)) (more_leads xs n p (omega arith))

  more_leads : (xs : Data) (n : ℕ) → 0 < n → n + length (more_text xs) < 2 ^ 64 → Leads (at n) (more_text xs) (at n)
  more_leads no_data n p h = refl
  more_leads (item x xs) n p h =
      let room = length-append (literal x) (more_text xs) in
      (refl, (no_end n p, leads_on (at n) (at n) (at n) (literal x) (more_text xs) (value_leads x n (omega arith)) (more_leads xs n p (omega arith))))

-- ---- fields

word_plain : (t : Text) → IsTrue (is_word t) → IsTrue (are_plain t)
word_plain [] h = cc
word_plain (c ∷ t) h = h

field_leads : (f : Field) → IsTrue (is_field f) → length (spelled f) < 2 ^ 64 → Leads (at 0) (spelled f) (at 0)
field_leads (word t) h l = plain_leads 0 t (word_plain t h)
field_leads (held v) h l = value_leads v 0 (omega arith)

-- where a field ends, counted on from a number
abbrev pub end_from : ℕ → Place → Text → Option ℕ
end_from i p [] = None
end_from i p (c ∷ t) = if ends_field p c then Some i else end_from (suc i) (behind p c) t

passed : (i j : ℕ) (p q : Place) (t u : Text) → Leads p t q → j ≡ length t + i → end_from i p (t ++ u) ≡ end_from j q u
passed i j p q [] u h e = let same : i ≡ j = omega arith in λ k. end_from (same k) (h k) u
passed i j p q (c ∷ t) u h e = rw h.0 (passed (suc i) j (behind p c) q t u h.1 (omega arith))

pub field_between : (f : Field) (r line : Text) → IsTrue (is_field f) → length line < 2 ^ 64 → line ≡ spelled f ++ 32 ∷ r → end_from 0 (at 0) line ≡ Some (length (spelled f))
field_between f r line h l e =
    let room : length line ≡ length (spelled f) + length (32 ∷ r) = ap length e ∙ length-append (spelled f) (32 ∷ r) in
    ap (end_from 0 (at 0)) e ∙ passed 0 (length (spelled f)) (at 0) (at 0) (spelled f) (32 ∷ r) (field_leads f h (omega arith)) (omega arith)

pub field_last : (f : Field) (line : Text) → IsTrue (is_field f) → length line < 2 ^ 64 → line ≡ spelled f → end_from 0 (at 0) line ≡ None
field_last f line h l e =
    let room : length line ≡ length (spelled f) = ap length e in
    ap (end_from 0 (at 0)) (e ∙ sym (append-nil (spelled f))) ∙ passed 0 (length (spelled f)) (at 0) (at 0) (spelled f) [] (field_leads f h (omega arith)) (omega arith)

-- a line from one of its characters on
pub ends_here : (i : ℕ) (p : Place) (line : Text) (d : ℕ) → i < length line → ends_field p (get_or line i d) ≡ true → end_from i p (drop i line) ≡ Some i
ends_here i p line d l e = ap (end_from i p) (drop-cons line i d l) ∙ chosen (ends_field p (get_or line i d)) e
  where
    chosen : (b : Bool) → b ≡ true → (if b then Some i else end_from (suc i) (behind p (get_or line i d)) (drop (suc i) line)) ≡ Some i
    chosen true h = refl
    chosen false h = cc

pub ends_nowhere : (i : ℕ) (p : Place) (line : Text) → length line ≤ i → end_from i p (drop i line) ≡ None
ends_nowhere i p line l = ap (end_from i p) (drop_of_length-le line l)
