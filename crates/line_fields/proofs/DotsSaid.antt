-- What a path says, part by part.
use Rattle.std.proofs.Common.{◌≡◌, ℕ, zero, suc, ◌≤◌, ◌==◌, ◌&&◌, ◌||◌, nat_le, not, Bool, true, false, List, [], ◌∷◌, ◌++◌, map, Option, Some, None, IsTrue, refl, ap, sym, ◌∙◌, arith, append_assoc, codes}
use Rattle.std.proofs.lemmas.Bool.Decides.{nat_tests}
use Rattle.std.specs.List.{list_all}
use Rattle.std.specs.Fmt.{digits}
use Rattle.spec_value.specs.Datum.{Text, same_text}
use Rattle.spec_value.proofs.Entries.{first_holds, second_holds}
use Rattle.spec_value.proofs.Same.{same_texts}
use Rattle.spec_faults.specs.Cutting.{onto_first}
use Rattle.spec_faults.specs.Plain.{passes, number_of, is_number, number_in, or_zero, with_dot, between_dots, is_path, beginning, path_in}
use Rattle.line_fields.specs.Said.{Says, greatest, are_parts}

-- ---- where dots cut

abbrev no_dots : Text → Bool
no_dots t = list_all (λ c. not (c == 46)) t

no_dot : (c : ℕ) → IsTrue (not (c == 46)) → (c == 46) ≡ false
no_dot c h = grind (arith, nat_tests)

cut_last : (t : Text) → IsTrue (no_dots t) → between_dots t ≡ t ∷ []
cut_last [] h = refl
cut_last (c ∷ t) h = ap (λ b. with_dot b c (between_dots t)) (no_dot c (first_holds (not (c == 46)) (no_dots t) h)) ∙ ap (onto_first c) (cut_last t (second_holds (not (c == 46)) (no_dots t) h))

cut_first : (t r : Text) → IsTrue (no_dots t) → between_dots (t ++ 46 ∷ r) ≡ t ∷ between_dots r
cut_first [] r h = refl
cut_first (c ∷ t) r h =
    ap (λ b. with_dot b c (between_dots (t ++ 46 ∷ r))) (no_dot c (first_holds (not (c == 46)) (no_dots t) h)) ∙ ap (onto_first c) (cut_first t r (second_holds (not (c == 46)) (no_dots t) h))

-- ---- so far

-- of these parts some are read, and it depends on the others
pub record SaidSoFar (all : List Text) (found : List ℕ) (left : List Text) : Type 0 where
  pub test : are_parts all ≡ are_parts left
  pub said : map number_in all ≡ found ++ map number_in left

pub said_begun : (text : Text) → SaidSoFar (between_dots text) [] (between_dots text)
said_begun text = record { test = refl; said = refl }

module _ (all : List Text) (found : List ℕ) (rest : Text) where
  pub one_said : (part behind : Text) (n : ℕ) → SaidSoFar all found (between_dots rest) → IsTrue (no_dots part) × (rest ≡ part ++ 46 ∷ behind) → Says (Some n) (is_number 1 greatest part) (number_of part)
      → SaidSoFar all (found ++ n ∷ []) (between_dots behind)
  one_said part behind n so cut says =
      let parts : between_dots rest ≡ part ∷ between_dots behind = ap between_dots cut.1 ∙ cut_first part behind cut.0 in
      record {
        test = so.test ∙ ap are_parts parts ∙ ap (λ b. b && are_parts (between_dots behind)) says.0;
        said =
            so.said ∙ ap (λ ts. found ++ map number_in ts) parts ∙ ap (λ o. found ++ or_zero o ∷ map number_in (between_dots behind)) says.1
            ∙ sym (append_assoc found (n ∷ []) (map number_in (between_dots behind)));
      }

  pub none_there : (part behind : Text) → SaidSoFar all found (between_dots rest) → IsTrue (no_dots part) × (rest ≡ part ++ 46 ∷ behind) → is_number 1 greatest part ≡ false → are_parts all ≡ false
  none_there part behind so cut none =
      so.test ∙ ap are_parts (ap between_dots cut.1 ∙ cut_first part behind cut.0) ∙ ap (λ b. b && are_parts (between_dots behind)) none

  pub last_said : (n : ℕ) → SaidSoFar all found (between_dots rest) → IsTrue (no_dots rest) → Says (Some n) (is_number 1 greatest rest) (number_of rest)
      → (are_parts all ≡ true) × (map number_in all ≡ found ++ n ∷ [])
  last_said n so none says =
      let parts : between_dots rest ≡ rest ∷ [] = cut_last rest none in (
        so.test ∙ ap are_parts parts ∙ ap (λ b. b && true) says.0,
        so.said ∙ ap (λ ts. found ++ map number_in ts) parts ∙ ap (λ o. found ++ or_zero o ∷ []) says.1,
      )

  pub last_none : SaidSoFar all found (between_dots rest) → IsTrue (no_dots rest) → is_number 1 greatest rest ≡ false → are_parts all ≡ false
  last_none so none says = so.test ∙ ap are_parts (cut_last rest none) ∙ ap (λ b. b && true) says

-- ---- the beginning

pub beginning_said : (t : Text) → t ≡ 48 ∷ [] → (is_path t ≡ true) × (path_in t ≡ [])
unfolding digits
beginning_said t e = (ap is_path e, ap path_in e)

no_zero : (t : Text) → (t ≡ 48 ∷ [] → ⊥) → same_text t (codes "0") ≡ false
no_zero t h = go (same_text t (codes "0")) refl
  where
    go : (b : Bool) → same_text t (codes "0") ≡ b → same_text t (codes "0") ≡ false
    go true e = absurd (h (same_texts t (codes "0") e))
    go false e = e

at_least : (t : Text) → IsTrue (is_number 1 greatest t) → 1 ≤ number_in t
at_least t h = go (number_of t) h
  where
    go : (o : Option ℕ) → IsTrue (passes (λ n. nat_le 1 n && nat_le n greatest) o) → 1 ≤ or_zero o
    go None k = cc
    go (Some n) k = let one = first_holds (nat_le 1 n) (nat_le n greatest) k in grind (arith, nat_tests)

no_beginning : (ts : List Text) → IsTrue (are_parts ts) → beginning (map number_in ts) ≡ map number_in ts
no_beginning [] h = refl
no_beginning (t ∷ ts) h = go (number_in t) (map number_in ts) (at_least t (first_holds (is_number 1 greatest t) (are_parts ts) h))
  where
    go : (n : ℕ) (ns : List ℕ) → 1 ≤ n → beginning (n ∷ ns) ≡ n ∷ ns
    go zero ns k = absurd (omega (arith, k))
    go (suc n) ns k = refl

-- of any other text the path is that of its parts
pub path_is : (t : Text) (o : Option (List ℕ)) → (t ≡ 48 ∷ [] → ⊥) → Says o (are_parts (between_dots t)) (Some (map number_in (between_dots t))) → Says o (is_path t) (Some (path_in t))
path_is t None h says = ap (λ b. b || are_parts (between_dots t)) (no_zero t h) ∙ says
path_is t (Some ns) h says =
    let test : is_path t ≡ are_parts (between_dots t) = ap (λ b. b || are_parts (between_dots t)) (no_zero t h) in
    (test ∙ says.0, ap Some (no_beginning (between_dots t) says.0) ∙ says.1)
