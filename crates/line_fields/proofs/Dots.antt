-- A path that is read part by part.
use Rattle.std.proofs.Common.{◌≡◌, ℕ, ◌≤◌, List, [], ◌∷◌, ◌++◌, map, IsTrue, not, ◌==◌, ◌&&◌, nat_le, Option, Some, refl, subst, ◌∙◌, arith, append_assoc}
use Rattle.std.proofs.lemmas.Bool.Decides.{nat_tests}
use Rattle.std.specs.Fmt.{decimal}
use Rattle.spec_value.specs.Datum.{Text}
use Rattle.spec_value.proofs.Entries.{first_holds, second_holds, both_hold}
use Rattle.spec_program.specs.Names.{is_digit}
use Rattle.spec_world.specs.Checkpoint.{with_dots, path}
use Rattle.spec_checkpoint.specs.Holding.{is_number}
use Rattle.spec_checkpoint.proofs.Numbers.{are_digits, decimal_digits}
use Rattle.spec_checkpoint.proofs.Fields.{number_small}
use Rattle.line_fields.specs.Values.{are_places}
use Rattle.line_fields.proofs.Numbers.{leading, decimal_leads}
use Rattle.line_fields.proofs.Stops.{without}

pub place_number : (m : ℕ) (ms : List ℕ) → IsTrue (are_places (m ∷ ms)) → IsTrue (is_number m)
place_number m ms h = second_holds (nat_le 1 m) (is_number m) (first_holds (nat_le 1 m && is_number m) (are_places ms) h)

pub place_above : (m : ℕ) (ms : List ℕ) → IsTrue (are_places (m ∷ ms)) → 1 ≤ m
place_above m ms h = let one = first_holds (nat_le 1 m) (is_number m) (first_holds (nat_le 1 m && is_number m) (are_places ms) h) in grind (arith, nat_tests)

pub place_below : (m : ℕ) (ms : List ℕ) → IsTrue (are_places (m ∷ ms)) → m ≤ 9223372036854775807
place_below m ms h = let small = place_number m ms h in grind (arith, nat_tests)

digit_no_dot : (c : ℕ) → IsTrue (is_digit c) → IsTrue (not (c == 46))
digit_no_dot c h = grind (arith, nat_tests)

digits_no_dot : (t : Text) → IsTrue (are_digits t) → IsTrue (without 46 t)
digits_no_dot [] h = refl
digits_no_dot (c ∷ t) h = both_hold (not (c == 46)) (without 46 t) (digit_no_dot c (first_holds (is_digit c) (are_digits t) h)) (digits_no_dot t (second_holds (is_digit c) (are_digits t) h))

decimal_no_dot : (n : ℕ) → IsTrue (without 46 (decimal n))
decimal_no_dot n = digits_no_dot (decimal n) (decimal_digits n)

-- no path begins with a zero
leads_on : (t u : Text) → IsTrue (leading t) → IsTrue (leading (t ++ u))
leads_on [] u h = cc
leads_on (c ∷ t) u h = h

pub dots_lead : (m : ℕ) (ms : List ℕ) → IsTrue (are_places (m ∷ ms)) → with_dots (decimal m) (map decimal ms) ≡ 48 ∷ [] → ⊥
dots_lead m ms h e =
    let lead = decimal_leads m (number_small m (place_number m ms h)) (place_above m ms h) in
    let k : IsTrue (leading (48 ∷ [])) = subst (λ t. IsTrue (leading t)) e (all ms lead) in cc
  where
    all : (ns : List ℕ) → IsTrue (leading (decimal m)) → IsTrue (leading (with_dots (decimal m) (map decimal ns)))
    all [] l = l
    all (n ∷ ns) l = leads_on (decimal m) (46 ∷ with_dots (decimal n) (map decimal ns)) l

-- the parts that stand behind those that were read
pub record Behind (m : ℕ) (ms found : List ℕ) (rest : Text) : Type 0 where
  pub first : ℕ
  pub others : List ℕ
  pub are : IsTrue (are_places (first ∷ others))
  pub told : found ++ first ∷ others ≡ m ∷ ms
  pub left : rest ≡ with_dots (decimal first) (map decimal others)

abbrev pub ReadSoFar : Text → List ℕ → Text → Type 0
ReadSoFar text found rest = (m : ℕ) (ms : List ℕ) → IsTrue (are_places (m ∷ ms)) → text ≡ with_dots (decimal m) (map decimal ms) → Behind m ms found rest

pub read_begun : (text : Text) → ReadSoFar text [] text
read_begun text m ms h e = record { first = m; others = ms; are = h; told = refl; left = e }

-- what comes of the next part
abbrev pub ReadsPart : Text → Option ℕ → Type 0
ReadsPart text o = (n : ℕ) → 1 ≤ n → n ≤ 9223372036854775807 → text ≡ decimal n → o ≡ Some n

module _ (m : ℕ) (ms : List ℕ) (rest : Text) (found : List ℕ) where
  -- one more, where another one stands behind it
  pub part_read : (front back : Text) (o : Option ℕ) → Behind m ms found rest → ((t r : Text) → IsTrue (without 46 t) → rest ≡ t ++ 46 ∷ r → (front ≡ t) × (back ≡ r))
      → ((t : Text) → IsTrue (without 46 t) → rest ≡ t → ⊥) → ReadsPart front o → (n : ℕ) × (o ≡ Some n) × Behind m ms (found ++ n ∷ []) back
  part_read front back o b between last reads = step b.first b.others b.are b.told b.left
    where
      step : (a : ℕ) (later : List ℕ) → IsTrue (are_places (a ∷ later)) → found ++ a ∷ later ≡ m ∷ ms → rest ≡ with_dots (decimal a) (map decimal later) → (n : ℕ) × (o ≡ Some n) × Behind m ms (found ++ n ∷ []) back
      step a [] are told left = absurd (last (decimal a) (decimal_no_dot a) left)
      step a (b ∷ bs) are told left =
          let seam = between (decimal a) (with_dots (decimal b) (map decimal bs)) (decimal_no_dot a) left in (
            a,
            reads a (place_above a (b ∷ bs) are) (place_below a (b ∷ bs) are) seam.0,
            record {
              first = b;
              others = bs;
              are = second_holds (nat_le 1 a && is_number a) (are_places (b ∷ bs)) are;
              told = append_assoc found (a ∷ []) (b ∷ bs) ∙ told;
              left = seam.1;
            },
          )

  -- the last one
  pub last_read : (o : Option ℕ) → Behind m ms found rest → ((t r : Text) → IsTrue (without 46 t) → rest ≡ t ++ 46 ∷ r → ⊥) → ReadsPart rest o → (n : ℕ) × (o ≡ Some n) × (found ++ n ∷ [] ≡ m ∷ ms)
  last_read o b between reads = step b.first b.others b.are b.told b.left
    where
      step : (a : ℕ) (later : List ℕ) → IsTrue (are_places (a ∷ later)) → found ++ a ∷ later ≡ m ∷ ms → rest ≡ with_dots (decimal a) (map decimal later) → (n : ℕ) × (o ≡ Some n) × (found ++ n ∷ [] ≡ m ∷ ms)
      step a [] are told left = (a, reads a (place_above a [] are) (place_below a [] are) left, told)
      step a (b ∷ bs) are told left = absurd (between (decimal a) (with_dots (decimal b) (map decimal bs)) (decimal_no_dot a) left)

pub no_parts : (ns : List ℕ) → IsTrue (are_places ns) → path (map decimal ns) ≡ 48 ∷ [] → [] ≡ ns
no_parts [] h e = refl
no_parts (m ∷ ms) h e = absurd (dots_lead m ms h e)
