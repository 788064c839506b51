-- What is told of a field is what it spells.
use Rattle.std.proofs.Common.{◌≡◌, ℕ, suc, ◌<◌, ◌^◌, ◌==◌, ◌&&◌, ℤ, pos, neg_ℤ, negsuc, Bool, true, false, List, [], ◌∷◌, Some, IsTrue, length, refl, ap, sym, subst, ◌∙◌, arith}
use Rattle.std.proofs.lemmas.Bool.Decides.{nat_tests}
use Rattle.std.proofs.lemmas.List.{append-nil}
use Rattle.std.specs.Fmt.{decimal, signed_decimal}
use Rattle.std.specs.Str.Parse.{digits_value}
use Rattle.std.specs.Cmp.Lexicographic.{pointwise}
use Rattle.std.proofs.lemmas.Fmt.{decimal_is_IsNumeral}
use Rattle.spec_value.specs.Datum.{Text, same_text, in_number_range, Datum, is_value}
use Rattle.spec_value.specs.Literal.{literal}
use Rattle.spec_value.proofs.Entries.{first_holds, second_holds, both_hold}
use Rattle.spec_value.proofs.Same.{same_texts, text_itself}
use Rattle.spec_program.specs.Names.{is_digit}
use Rattle.spec_program.specs.Tree.{Program}
use Rattle.spec_program.specs.Trees.{is_tree}
use Rattle.spec_program.specs.Spelling.{canonical_lines}
use Rattle.spec_program.specs.ReadPrograms.{Parsed, program, faulty, parsed_lines}
use Rattle.spec_spelling.proofs.ProgramsCut.{lines_read_back}
use Rattle.spec_checkpoint.proofs.Numbers.{starts_digit, decimal_starts, small}
use Rattle.spec_faults.specs.Plain.{only_if, signed_value}
use Rattle.spec_faults.specs.Literals.{value_front, is_spelling, nests, deepest}
use Rattle.spec_faults.specs.Codes.{are_lines_of, told}
use Rattle.spec_faults.specs.FieldLaws.{NumbersSpelled, NumbersTold, IsInteger, IntegersSpelled, IntegersTold, IsLiteral, ValuesSpelled, IsProgram, ProgramsSpelled, ProgramsTold}

-- ---- what is there only if a test holds

module _ {A : Type 0} where
  pub only_some : (b : Bool) (x y : A) → only_if b x ≡ Some y → IsTrue b × (x ≡ y)
  only_some true x y e = let same : x ≡ y = cc in (refl, same)
  only_some false x y e = cc

  pub some_only : (b : Bool) (x : A) → IsTrue b → only_if b x ≡ Some x
  some_only true x h = refl
  some_only false x h = cc

-- ---- numbers

pub numbers_spelled : NumbersSpelled
numbers_spelled t n e =
    let o = only_some (same_text (decimal (digits_value 10 t)) t) (digits_value 10 t) n e in
    ap decimal (sym o.1) ∙ same_texts (decimal (digits_value 10 t)) t o.0

number_same : (m n : ℕ) → m ≡ n → only_if (same_text (decimal m) (decimal n)) m ≡ Some n
number_same m n e = ap (λ k. only_if (same_text (decimal k) (decimal n)) k) e ∙ some_only (same_text (decimal n) (decimal n)) n (text_itself (decimal n))

pub numbers_told : NumbersTold
numbers_told n h = number_same (digits_value 10 (decimal n)) n (decimal_is_IsNumeral n h).1

-- ---- integers

pub integers_spelled : IntegersSpelled
integers_spelled t z e =
    let y : ℤ = signed_value t in
    let o = only_some (same_text (signed_decimal y) t && in_number_range y) y z e in
    let whole : IsInteger t y = record { spelled = same_texts (signed_decimal y) t (first_holds (same_text (signed_decimal y) t) (in_number_range y) o.0); range = second_holds (same_text (signed_decimal y) t) (in_number_range y) o.0 } in
    subst (λ x. IsInteger t x) o.1 whole

unsigned : (c : ℕ) (t : Text) → IsTrue (is_digit c) → (c == 45) ≡ false
unsigned c t h = grind (arith, nat_tests)

unsigned_value : (t : Text) → IsTrue (starts_digit t) → signed_value t ≡ pos (digits_value 10 t)
unsigned_value [] h = cc
unsigned_value (c ∷ t) h = rw (unsigned c t h) refl

starts : (n : ℕ) → n < 2 ^ 64 → IsTrue (starts_digit (decimal n))
starts n h = subst (λ t. IsTrue (starts_digit t)) (append-nil (decimal n)) (decimal_starts n [] h)

small_below : (n : ℕ) → IsTrue (in_number_range (negsuc n)) → suc n < 2 ^ 64
small_below n h = grind (arith, nat_tests)

pub signed_back : (z : ℤ) → IsTrue (in_number_range z) → signed_value (signed_decimal z) ≡ z
signed_back (pos n) h = unsigned_value (decimal n) (starts n (small n h)) ∙ ap pos (decimal_is_IsNumeral n (small n h)).1
signed_back (negsuc n) h = ap (λ m. neg_ℤ (pos m)) (decimal_is_IsNumeral (suc n) (small_below n h)).1

integer_same : (y z : ℤ) → y ≡ z → IsTrue (in_number_range z) → only_if (same_text (signed_decimal y) (signed_decimal z) && in_number_range y) y ≡ Some z
integer_same y z e h =
    ap (λ x. only_if (same_text (signed_decimal x) (signed_decimal z) && in_number_range x) x) e
    ∙ some_only (same_text (signed_decimal z) (signed_decimal z) && in_number_range z) z (both_hold (same_text (signed_decimal z) (signed_decimal z)) (in_number_range z) (text_itself (signed_decimal z)) h)

pub integers_told : IntegersTold
integers_told z h = integer_same (signed_value (signed_decimal z)) z (signed_back z h) h

-- ---- values

pub is_literal_of : (v : Datum) (t : Text) → IsTrue (is_spelling v t) → IsLiteral t v
is_literal_of v t h =
    let more = second_holds (same_text (literal v) t) (is_value v && nests deepest v) h in
    record { spelled = same_texts (literal v) t (first_holds (same_text (literal v) t) (is_value v && nests deepest v) h); range = first_holds (is_value v) (nests deepest v) more; depth = second_holds (is_value v) (nests deepest v) more }

pub values_spelled : ValuesSpelled
values_spelled t v e =
    let u : Datum = (value_front (suc (length t)) t).found in
    let o = only_some (is_spelling u t) u v e in
    subst (λ x. IsLiteral t x) o.1 (is_literal_of u t o.0)

-- ---- programs

lines_same : (ts us : List Text) → IsTrue (pointwise same_text ts us) → ts ≡ us
lines_same [] [] h = refl
lines_same [] (u ∷ us) h = cc
lines_same (t ∷ ts) [] h = cc
lines_same (t ∷ ts) (u ∷ us) h =
    let a = same_texts t u (first_holds (same_text t u) (pointwise same_text ts us) h) in
    let b = lines_same ts us (second_holds (same_text t u) (pointwise same_text ts us) h) in
    λ i. a i ∷ b i

lines_itself : (ts : List Text) → IsTrue (pointwise same_text ts ts)
lines_itself [] = refl
lines_itself (t ∷ ts) = both_hold (same_text t t) (pointwise same_text ts ts) (text_itself t) (lines_itself ts)

told_spelled : (q : Parsed) (ts : List Text) (p : Program) → told q ts ≡ Some p → IsProgram ts p
told_spelled (faulty f) ts p e = cc
told_spelled (program q) ts p e =
    let o = only_some (are_lines_of q ts) q p e in
    let whole : IsProgram ts q = record { spelled = lines_same (canonical_lines q) ts (first_holds (pointwise same_text (canonical_lines q) ts) (is_tree q) o.0); tree = second_holds (pointwise same_text (canonical_lines q) ts) (is_tree q) o.0 } in
    subst (λ x. IsProgram ts x) o.1 whole

pub programs_spelled : ProgramsSpelled
programs_spelled ts p e = told_spelled (parsed_lines ts) ts p e

pub programs_told : ProgramsTold
programs_told p h =
    ap (λ q. told q (canonical_lines p)) (lines_read_back p h)
    ∙ some_only (are_lines_of p (canonical_lines p)) p (both_hold (pointwise same_text (canonical_lines p) (canonical_lines p)) (is_tree p) (lines_itself (canonical_lines p)) h)
