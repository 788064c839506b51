-- Fields of a line have characters, and no line end stands in them.
use Rattle.std.proofs.Common.{◌≡◌, ℕ, zero, suc, pos, negsuc, ◌<◌, ◌≤◌, get_or, List, [], ◌∷◌, map, length, IsTrue, Bool, true, false, not, ◌==◌, ◌&&◌, ◌||◌, eq-eqb, ◌∙◌, Bor, refl, ap, arith}
use Rattle.std.proofs.lemmas.Bool.Decides.{nat_tests}
use Rattle.std.specs.List.{list_all, list_any}
use Rattle.std.proofs.lemmas.Fmt.{decimal_nonempty}
use Rattle.std.specs.Fmt.{decimal}
use Rattle.spec_value.specs.Datum.{Text, ErrorCode, no_error, type_mismatch, zero_division, permission_denied, property_not_found, verb_not_found, variable_not_found, invalid_indirection, recursive_move, too_many_calls, range_error, wrong_argument_count, move_refused, invalid_argument, limit_exceeded, float_error, Datum, integer, object, text, error, list, is_value, same_text}
use Rattle.spec_value.specs.Literal.{error_name, literal}
use Rattle.spec_value.proofs.Entries.{first_holds, second_holds, both_hold}
use Rattle.spec_world.specs.Checkpoint.{fields}
use Rattle.spec_checkpoint.specs.Lines.{is_line}
use Rattle.spec_checkpoint.proofs.Numbers.{small}
use Rattle.spec_checkpoint.proofs.ValuesUnbroken.{line_then, value_line}
use Rattle.line_fields.specs.Fields.{Field, word, held, spelled, all_spelled, is_plain, is_word, is_field, are_fields}
use Rattle.line_fields.proofs.Words.{are_plain}
use Rattle.spec_faults.specs.Cutting.{fields_in, field_at, is_filled}
use Rattle.checkpoint_lines.specs.Told.{is_cut}

-- ---- no line end

plain_line : (c : ℕ) → IsTrue (is_plain c) → IsTrue (not (c == 10))
plain_line c h = grind (arith, nat_tests)

all_plain_line : (t : Text) → IsTrue (are_plain t) → IsTrue (is_line t)
all_plain_line [] h = refl
all_plain_line (c ∷ t) h = both_hold (not (c == 10)) (is_line t) (plain_line c (first_holds (is_plain c) (are_plain t) h)) (all_plain_line t (second_holds (is_plain c) (are_plain t) h))

word_line : (t : Text) → IsTrue (is_word t) → IsTrue (is_line t)
word_line [] h = cc
word_line (c ∷ t) h = all_plain_line (c ∷ t) h

field_line : (f : Field) → IsTrue (is_field f) → IsTrue (is_line (spelled f))
field_line (word t) h = word_line t h
field_line (held v) h = value_line v h

pub fields_line : (f : Field) (fs : List Field) → IsTrue (are_fields (f ∷ fs)) → IsTrue (is_line (fields (all_spelled (f ∷ fs))))
fields_line f [] h = field_line f (first_holds (is_field f) true h)
fields_line f (g ∷ gs) h =
    line_then (spelled f) (32 ∷ fields (all_spelled (g ∷ gs))) (field_line f (first_holds (is_field f) (are_fields (g ∷ gs)) h)) (fields_line g gs (second_holds (is_field f) (are_fields (g ∷ gs)) h))

-- ---- some character

some_filled : (t : Text) → 0 < length t → IsTrue (is_filled t)
some_filled [] l = absurd (omega arith)
some_filled (c ∷ t) l = refl

error_filled : (e : ErrorCode) → IsTrue (is_filled (error_name e))
error_filled no_error = refl
error_filled type_mismatch = refl
error_filled zero_division = refl
error_filled permission_denied = refl
error_filled property_not_found = refl
error_filled verb_not_found = refl
error_filled variable_not_found = refl
error_filled invalid_indirection = refl
error_filled recursive_move = refl
error_filled too_many_calls = refl
error_filled range_error = refl
error_filled wrong_argument_count = refl
error_filled move_refused = refl
error_filled invalid_argument = refl
error_filled limit_exceeded = refl
error_filled float_error = refl

literal_filled : (v : Datum) → IsTrue (is_value v) → IsTrue (is_filled (literal v))
literal_filled (integer (pos n)) h = some_filled (decimal n) (decimal_nonempty n (small n h))
literal_filled (integer (negsuc n)) h = refl
literal_filled (object z) h = refl
literal_filled (text t) h = refl
literal_filled (error e) h = error_filled e
literal_filled (list xs) h = refl

word_filled : (t : Text) → IsTrue (is_word t) → IsTrue (is_filled t)
word_filled [] h = cc
word_filled (c ∷ t) h = refl

field_filled : (f : Field) → IsTrue (is_field f) → IsTrue (is_filled (spelled f))
field_filled (word t) h = word_filled t h
field_filled (held v) h = literal_filled v h

pub fields_filled : (fs : List Field) → IsTrue (are_fields fs) → IsTrue (list_all is_filled (all_spelled fs))
fields_filled [] h = refl
fields_filled (f ∷ fs) h = both_hold (is_filled (spelled f)) (list_all is_filled (all_spelled fs)) (field_filled f (first_holds (is_field f) (are_fields fs) h)) (fields_filled fs (second_holds (is_field f) (are_fields fs) h))

-- ---- fields in their places

not_over : (t : Text) → IsTrue (is_filled t) → (length t == 0) ≡ false
not_over [] h = cc
not_over (c ∷ t) h = grind (arith, nat_tests)

pub none_empty : (bs : List (Bor Text)) → IsTrue (list_all is_filled (map (λ b. b.now) bs)) → list_any (λ b. length b.now == 0) bs ≡ false
none_empty [] h = refl
none_empty (b ∷ bs) h =
    rw (not_over b.now (first_holds (is_filled b.now) (list_all is_filled (map (λ a. a.now) bs)) h)) (none_empty bs (second_holds (is_filled b.now) (list_all is_filled (map (λ a. a.now) bs)) h))

pub field_there : (bs : List (Bor Text)) (i : ℕ) (d : Bor Text) → i < length bs → field_at (map (λ a. a.now) bs) i ≡ (get_or bs i d).now
field_there [] i d l = absurd (omega arith)
field_there (b ∷ bs) zero d l = refl
field_there (b ∷ bs) (suc i) d l = field_there bs i d (omega arith)

pub no_field : (bs : List (Bor Text)) (i : ℕ) → length bs ≤ i → field_at (map (λ a. a.now) bs) i ≡ []
no_field [] i l = refl
no_field (b ∷ bs) zero l = absurd (omega arith)
no_field (b ∷ bs) (suc i) l = no_field bs i (omega arith)

-- ---- a line with a word

pub same_text_refl : (t : Text) → same_text t t ≡ true
same_text_refl [] = refl
same_text_refl (c ∷ t) = let one : c == c ≡ true = eq-eqb c c refl in rw one (same_text_refl t)

as_many_spelled : (fs : List Field) → length (all_spelled fs) ≡ length fs
as_many_spelled [] = refl
as_many_spelled (f ∷ fs) = ap suc (as_many_spelled fs)

pub has_word : (ts : List Text) (w : Text) (fs : List Field) (n : ℕ) → ts ≡ w ∷ all_spelled fs → length fs ≡ n → (length ts == suc n && same_text (field_at ts 0) w) ≡ true
has_word ts w fs n e l =
    let many : length ts ≡ suc n = ap length e ∙ ap suc (as_many_spelled fs ∙ l) in
    let count : length ts == suc n ≡ true = eq-eqb (length ts) (suc n) many in
    let word : same_text (field_at ts 0) w ≡ true = ap (λ us. same_text (field_at us 0) w) e ∙ same_text_refl w in
    rw (count, word)

-- ---- some are empty

filled_or_not : (t : Text) → (length t == 0) ≡ not (is_filled t)
filled_or_not [] = refl
filled_or_not (c ∷ t) = not_over (c ∷ t) refl

pub some_empty : (bs : List (Bor Text)) → list_any (λ b. length b.now == 0) bs ≡ not (list_all is_filled (map (λ b. b.now) bs))
some_empty [] = refl
some_empty (b ∷ bs) = rw (filled_or_not b.now, some_empty bs) (go (is_filled b.now) (list_all is_filled (map (λ a. a.now) bs)))
  where
    go : (p q : Bool) → (not p || not q) ≡ not (p && q)
    go true q = refl
    go false q = refl

pub not_not : (p q : Bool) → not p ≡ q → p ≡ not q
not_not true true h = cc
not_not true false h = refl
not_not false true h = refl
not_not false false h = cc

-- ---- the last field

pub last_field : (bs : List (Bor Text)) (i : ℕ) (d : Bor Text) → suc i ≡ length bs → is_cut (map (λ a. a.now) bs) ≡ (length (fields_in (get_or bs i d).now) == 1)
last_field [] i d l = absurd (omega arith)
last_field (b ∷ []) zero d l = refl
last_field (b ∷ []) (suc i) d l = absurd (omega arith)
last_field (b ∷ e ∷ bs) zero d l = absurd (omega arith)
last_field (b ∷ e ∷ bs) (suc i) d l = last_field (e ∷ bs) i d (omega arith)
