-- A line is cut in its fields.
use Rattle.std.proofs.Common.{◌≡◌, ℕ, zero, suc, ◌-◌, ◌==◌, ◌||◌, Bool, true, false, if◌then◌else◌, ℤ, pos, negsuc, List, [], ◌∷◌, ◌++◌, IsTrue, refl, ap, sym, subst, ◌∙◌, arith}
use Rattle.std.proofs.lemmas.Bool.Decides.{nat_tests}
use Rattle.std.proofs.lemmas.List.{append-nil}
use Rattle.std.specs.List.{list_all}
use Rattle.std.specs.Fmt.{decimal, signed_decimal}
use Rattle.spec_value.specs.Datum.{Text, ErrorCode, no_error, type_mismatch, zero_division, permission_denied, property_not_found, verb_not_found, variable_not_found, invalid_indirection, recursive_move, too_many_calls, range_error, wrong_argument_count, move_refused, invalid_argument, limit_exceeded, float_error, Datum, integer, object, text, error, list, Data, no_data, item}
use Rattle.spec_value.specs.Literal.{error_name, escape, escaped, literal, data_text, more_text}
use Rattle.spec_value.proofs.Entries.{first_holds, second_holds, both_hold}
use Rattle.spec_program.specs.Names.{is_digit}
use Rattle.spec_world.specs.Checkpoint.{fields, spaced_by}
use Rattle.spec_checkpoint.proofs.Numbers.{are_digits, decimal_digits}
use Rattle.spec_faults.specs.Cutting as spot
use Rattle.spec_faults.specs.Cutting.{Spot, among, quoted, behind, ends_field, onto_first, with_next, spot_behind, fields_from, fields_in}
use Rattle.spec_faults.specs.FieldLaws.{FieldsSpelled, is_unmarked, IsField, unmarked, spelled, FieldsTold}

-- ---- what is cut

onto_joined : (c : ℕ) (ts : List Text) → fields (onto_first c ts) ≡ c ∷ fields ts
onto_joined c [] = refl
onto_joined c (t ∷ []) = refl
onto_joined c (t ∷ u ∷ ts) = refl

abbrev some : List Text → Bool
some [] = false
some (t ∷ ts) = true

some_onto : (c : ℕ) (ts : List Text) → IsTrue (some (onto_first c ts))
some_onto c [] = refl
some_onto c (t ∷ ts) = refl

some_fields : (s : Spot) (t : Text) → IsTrue (some (fields_from s t))
some_fields s [] = refl
some_fields s (c ∷ t) = go (ends_field s c) (fields_from (spot_behind (ends_field s c) s c) t)
  where
    go : (b : Bool) (ts : List Text) → IsTrue (some (with_next b c ts))
    go true ts = refl
    go false ts = some_onto c ts

space_joined : (c : ℕ) (ts : List Text) → c ≡ 32 → IsTrue (some ts) → fields ([] ∷ ts) ≡ c ∷ fields ts
space_joined c [] e h = cc
space_joined c (t ∷ ts) e h = ap (λ d. d ∷ spaced_by t ts) (sym e)

space_of : (s : Spot) (c : ℕ) → ends_field s c ≡ true → c ≡ 32
space_of (among zero) c h = grind (arith, nat_tests)
space_of (among (suc n)) c h = cc
space_of (quoted n) c h = cc
space_of (spot.escaped n) c h = cc

next_joined : (b : Bool) (s : Spot) (c : ℕ) (ts : List Text) → ends_field s c ≡ b → IsTrue (some ts) → fields (with_next b c ts) ≡ c ∷ fields ts
next_joined true s c ts h k = space_joined c ts (space_of s c h) k
next_joined false s c ts h k = onto_joined c ts

joined_from : (s : Spot) (t : Text) → fields (fields_from s t) ≡ t
joined_from s [] = refl
joined_from s (c ∷ t) =
    let r : Spot = spot_behind (ends_field s c) s c in
    next_joined (ends_field s c) s c (fields_from r t) refl (some_fields r t) ∙ ap (λ u. c ∷ u) (joined_from r t)

pub fields_spelled : FieldsSpelled
fields_spelled t = joined_from (among 0) t

-- ---- fields are cut again

-- none of the characters ends a field, and they lead from one spot to another
abbrev Leads : Spot → Text → Spot → Type 0
Leads p [] q = p ≡ q
Leads p (c ∷ t) q = (ends_field p c ≡ false) × Leads (behind p c) t q

leads_on : (p q s : Spot) (t u : Text) → Leads p t q → Leads q u s → Leads p (t ++ u) s
leads_on p q s [] u h k = subst (λ r. Leads r u s) (sym h) k
leads_on p q s (c ∷ t) u h k = (h.0, leads_on (behind p c) q s t u h.1 k)

unmarked_ends : (n c : ℕ) → IsTrue (is_unmarked c) → ends_field (among n) c ≡ false
unmarked_ends zero c h = grind (arith, nat_tests)
unmarked_ends (suc n) c h = refl

unmarked_behind : (n c : ℕ) → IsTrue (is_unmarked c) → behind (among n) c ≡ among n
unmarked_behind n c h = rw (no_quote h) (rw (no_open h) (rw (no_close h) refl))
  where
    no_quote : IsTrue (is_unmarked c) → (c == 34) ≡ false
    no_quote k = grind (arith, nat_tests)

    no_open : IsTrue (is_unmarked c) → (c == 123) ≡ false
    no_open k = grind (arith, nat_tests)

    no_close : IsTrue (is_unmarked c) → (c == 125) ≡ false
    no_close k = grind (arith, nat_tests)

unmarked_leads : (n : ℕ) (t : Text) → IsTrue (list_all is_unmarked t) → Leads (among n) t (among n)
unmarked_leads n [] h = refl
unmarked_leads n (c ∷ t) h =
    let here = first_holds (is_unmarked c) (list_all is_unmarked t) h in
    (unmarked_ends n c here, subst (λ p. Leads p t (among n)) (sym (unmarked_behind n c here)) (unmarked_leads n t (second_holds (is_unmarked c) (list_all is_unmarked t) h)))

digit_unmarked : (c : ℕ) → IsTrue (is_digit c) → IsTrue (is_unmarked c)
digit_unmarked c h = grind (arith, nat_tests)

digits_unmarked : (t : Text) → IsTrue (are_digits t) → IsTrue (list_all is_unmarked t)
digits_unmarked [] h = refl
digits_unmarked (c ∷ t) h = both_hold (is_unmarked c) (list_all is_unmarked t) (digit_unmarked c (first_holds (is_digit c) (are_digits t) h)) (digits_unmarked t (second_holds (is_digit c) (are_digits t) h))

pub decimal_unmarked : (n : ℕ) → IsTrue (list_all is_unmarked (decimal n))
decimal_unmarked n = digits_unmarked (decimal n) (decimal_digits n)

pub signed_unmarked : (z : ℤ) → IsTrue (list_all is_unmarked (signed_decimal z))
signed_unmarked (pos n) = decimal_unmarked n
signed_unmarked (negsuc n) = decimal_unmarked (suc n)

escape_leads : (n c : ℕ) → Leads (quoted n) (escape c) (quoted n)
escape_leads n c = go (c == 34 || c == 92) refl
  where
    no_quote : (c == 34 || c == 92) ≡ false → (c == 34) ≡ false
    no_quote h = grind (arith, nat_tests)

    no_backslash : (c == 34 || c == 92) ≡ false → (c == 92) ≡ false
    no_backslash h = grind (arith, nat_tests)

    go : (b : Bool) → (c == 34 || c == 92) ≡ b → Leads (quoted n) (if b then 92 ∷ c ∷ [] else c ∷ []) (quoted n)
    go true h = (refl, (refl, refl))
    go false h = (refl, rw (no_quote h) (rw (no_backslash h) refl))

escaped_leads : (n : ℕ) (t : Text) → Leads (quoted n) (escaped t) (quoted n)
escaped_leads n [] = refl
escaped_leads n (c ∷ t) = leads_on (quoted n) (quoted n) (quoted n) (escape c) (escaped t) (escape_leads n c) (escaped_leads n t)

error_unmarked : (e : ErrorCode) → IsTrue (list_all is_unmarked (error_name e))
error_unmarked no_error = refl
error_unmarked type_mismatch = refl
error_unmarked zero_division = refl
error_unmarked permission_denied = refl
error_unmarked property_not_found = refl
error_unmarked verb_not_found = refl
error_unmarked variable_not_found = refl
error_unmarked invalid_indirection = refl
error_unmarked recursive_move = refl
error_unmarked too_many_calls = refl
error_unmarked range_error = refl
error_unmarked wrong_argument_count = refl
error_unmarked move_refused = refl
error_unmarked invalid_argument = refl
error_unmarked limit_exceeded = refl
error_unmarked float_error = refl

shallower : (n : ℕ) → suc n - 1 ≡ n
shallower n = omega arith

mutual
  value_leads : (v : Datum) (n : ℕ) → Leads (among n) (literal v) (among n)
  value_leads (integer z) n = unmarked_leads n (signed_decimal z) (signed_unmarked z)
  value_leads (object z) n = unmarked_leads n (35 ∷ signed_decimal z) (signed_unmarked z)
  value_leads (text t) n = (no_space n, leads_on (quoted n) (quoted n) (among n) (escaped t) (34 ∷ []) (escaped_leads n t) (refl, refl))
    where
      no_space : (m : ℕ) → ends_field (among m) 34 ≡ false
      no_space zero = refl
      no_space (suc m) = refl
  value_leads (error e) n = unmarked_leads n (error_name e) (error_unmarked e)
  value_leads (list xs) n =
      (no_space n, leads_on (among (suc n)) (among (suc n)) (among n) (data_text xs) (125 ∷ []) (data_leads xs n) (refl, ap among (shallower n)))
    where
      no_space : (m : ℕ) → ends_field (among m) 123 ≡ false
      no_space zero = refl
      no_space (suc m) = refl

  data_leads : (xs : Data) (n : ℕ) → Leads (among (suc n)) (data_text xs) (among (suc n))
  data_leads no_data n = refl
  data_leads (item x xs) n = leads_on (among (suc n)) (among (suc n)) (among (suc n)) (literal x) (more_text xs) (value_leads x (suc n)) (more_leads xs n)

  more_leads : (xs : Data) (n : ℕ) → Leads (among (suc n)) (more_text xs) (among (suc n))
  more_leads no_data n = refl
  more_leads (item x xs) n = (refl, (refl, leads_on (among (suc n)) (among (suc n)) (among (suc n)) (literal x) (more_text xs) (value_leads x (suc n)) (more_leads xs n)))

field_leads : (t : Text) → IsField t → Leads (among 0) t (among 0)
field_leads _ (unmarked t h) = unmarked_leads 0 t h
field_leads _ (spelled v) = value_leads v 0

-- ---- one by one

abbrev all_onto : Text → List Text → List Text
all_onto [] ts = ts
all_onto (c ∷ t) ts = onto_first c (all_onto t ts)

passed : (p q : Spot) (t u : Text) → Leads p t q → fields_from p (t ++ u) ≡ all_onto t (fields_from q u)
passed p q [] u h = ap (λ s. fields_from s u) h
passed p q (c ∷ t) u h = ap (λ b. with_next b c (fields_from (spot_behind b p c) (t ++ u))) h.0 ∙ ap (onto_first c) (passed (behind p c) q t u h.1)

onto_text : (t u : Text) (ts : List Text) → all_onto t (u ∷ ts) ≡ (t ++ u) ∷ ts
onto_text [] u ts = refl
onto_text (c ∷ t) u ts = ap (onto_first c) (onto_text t u ts)

pub fields_told : FieldsTold
fields_told t [] h = ap fields_in (sym (append-nil t)) ∙ passed (among 0) (among 0) t [] (field_leads t h.0) ∙ onto_text t [] [] ∙ ap (λ u. u ∷ []) (append-nil t)
fields_told t (u ∷ ts) h =
    passed (among 0) (among 0) t (32 ∷ fields (u ∷ ts)) (field_leads t h.0)
    ∙ ap (λ us. all_onto t ([] ∷ us)) (fields_told u ts h.1)
    ∙ onto_text t [] (u ∷ ts) ∙ ap (λ s. s ∷ u ∷ ts) (append-nil t)
