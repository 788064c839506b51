-- A line that is cut field by field.
use Rattle.std.proofs.Common.{◌≡◌, ℕ, suc, arith, length, length-append, List, [], ◌∷◌, ◌++◌, IsTrue, true, refl, ap, ◌∙◌, append_assoc}
use Rattle.spec_value.specs.Datum.{Text}
use Rattle.spec_value.proofs.Entries.{first_holds, second_holds}
use Rattle.spec_world.specs.Checkpoint.{fields}
use Rattle.line_fields.specs.Fields.{Field, spelled, all_spelled, is_field, are_fields}

-- the fields that stand behind those that were cut off
pub record Behind (f : Field) (fs : List Field) (cut : List Text) (rest : Text) : Type 0 where
  pub first : Field
  pub others : List Field
  pub are : IsTrue (are_fields (first ∷ others))
  pub told : cut ++ all_spelled (first ∷ others) ≡ all_spelled (f ∷ fs)
  pub left : rest ≡ fields (all_spelled (first ∷ others))

abbrev pub CutSoFar : Text → List Text → Text → Type 0
CutSoFar line cut rest = (f : Field) (fs : List Field) → IsTrue (are_fields (f ∷ fs)) → line ≡ fields (all_spelled (f ∷ fs)) → Behind f fs cut rest

pub cut_begun : (line : Text) → CutSoFar line [] line
cut_begun line f fs h e = record { first = f; others = fs; are = h; told = refl; left = e }

spelled_length : (fs : List Field) → length (all_spelled fs) ≡ length fs
spelled_length [] = refl
spelled_length (f ∷ fs) = ap suc (spelled_length fs)

module _ (f : Field) (fs : List Field) (rest : Text) (cut : List Text) where
  -- one more, where another one stands behind it
  pub cut_on : (front back : Text) → Behind f fs cut rest → ((g : Field) (r : Text) → IsTrue (is_field g) → rest ≡ spelled g ++ 32 ∷ r → (front ≡ spelled g) × (back ≡ r))
      → ((g : Field) → IsTrue (is_field g) → rest ≡ spelled g → ⊥) → Behind f fs (cut ++ front ∷ []) back
  cut_on front back b between last = step b.first b.others b.are b.told b.left
    where
      step : (g : Field) (gs : List Field) → IsTrue (are_fields (g ∷ gs)) → cut ++ all_spelled (g ∷ gs) ≡ all_spelled (f ∷ fs) → rest ≡ fields (all_spelled (g ∷ gs)) → Behind f fs (cut ++ front ∷ []) back
      step g [] are told left = absurd (last g (first_holds (is_field g) true are) left)
      step g (k ∷ ks) are told left =
          let seam = between g (fields (all_spelled (k ∷ ks))) (first_holds (is_field g) (are_fields (k ∷ ks)) are) left in
          record {
            first = k;
            others = ks;
            are = second_holds (is_field g) (are_fields (k ∷ ks)) are;
            told = append_assoc cut (front ∷ []) (all_spelled (k ∷ ks)) ∙ ap (λ t. cut ++ t ∷ all_spelled (k ∷ ks)) seam.0 ∙ told;
            left = seam.1;
          }

  -- the last one
  pub cut_over : Behind f fs cut rest → ((g : Field) (r : Text) → IsTrue (is_field g) → rest ≡ spelled g ++ 32 ∷ r → ⊥) → cut ++ rest ∷ [] ≡ all_spelled (f ∷ fs)
  cut_over b between = step b.first b.others b.are b.told b.left
    where
      step : (g : Field) (gs : List Field) → IsTrue (are_fields (g ∷ gs)) → cut ++ all_spelled (g ∷ gs) ≡ all_spelled (f ∷ fs) → rest ≡ fields (all_spelled (g ∷ gs)) → cut ++ rest ∷ [] ≡ all_spelled (f ∷ fs)
      step g [] are told left = ap (λ t. cut ++ t ∷ []) left ∙ told
      step g (k ∷ ks) are told left = absurd (between g (fields (all_spelled (k ∷ ks))) (first_holds (is_field g) (are_fields (k ∷ ks)) are) left)

  -- the last one, where so many were cut off
  pub cut_counted : (n : ℕ) → Behind f fs cut rest → length cut ≡ n → length fs ≡ n → cut ++ rest ∷ [] ≡ all_spelled (f ∷ fs)
  cut_counted n b l m = step b.first b.others b.told b.left
    where
      step : (g : Field) (gs : List Field) → cut ++ all_spelled (g ∷ gs) ≡ all_spelled (f ∷ fs) → rest ≡ fields (all_spelled (g ∷ gs)) → cut ++ rest ∷ [] ≡ all_spelled (f ∷ fs)
      step g [] told left = ap (λ t. cut ++ t ∷ []) left ∙ told
      step g (k ∷ ks) told left =
          let room : length (cut ++ all_spelled (g ∷ k ∷ ks)) ≡ length (all_spelled (f ∷ fs)) = ap length told in
          let parts = length-append cut (all_spelled (g ∷ k ∷ ks)) in
          let all = spelled_length (f ∷ fs) in
          absurd (omega (arith, room, parts, all, l, m))
