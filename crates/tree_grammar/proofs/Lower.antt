-- A word in lower case is a keyword where it is spelled as one.
use Rattle.std.proofs.Common.{arith, ◌≡◌, ℕ, Bool, true, false, not, ◌&&◌, [], ◌∷◌, IsTrue, refl, ap, ◌∙◌}
use Rattle.std.proofs.lemmas.Bool.Decides.{nat_tests}
use Rattle.std.specs.List.{list_all, list_any}
use Rattle.std.specs.Char.{to_ascii_lowercase}
use Rattle.spec_value.specs.Datum.{Text, same_text, fold_case}
use Rattle.spec_value.proofs.Entries.{first_holds, second_holds}
use Rattle.spec_program.specs.Names.{is_keyword, keywords}
use Rattle.spec_program.specs.Trees.{begins_name, continues_name, is_lower_word, is_name}

lower_character : (c : ℕ) → IsTrue (continues_name c) → to_ascii_lowercase c ≡ c
lower_character c h = grind (arith, nat_tests)

all_lower : (x : Text) → IsTrue (list_all continues_name x) → fold_case x ≡ x
all_lower [] h = refl
all_lower (c ∷ x) h =
    let y = lower_character c (first_holds (continues_name c) (list_all continues_name x) h) in
    let z = all_lower x (second_holds (continues_name c) (list_all continues_name x) h) in
    ap (λ d. d ∷ fold_case x) y ∙ ap (λ u. c ∷ u) z

begins_all : (c : ℕ) → IsTrue (begins_name c) → IsTrue (continues_name c)
begins_all c h = grind (arith, nat_tests)

lower_word : (x : Text) → IsTrue (is_lower_word x) → fold_case x ≡ x
lower_word [] h = absurd (cc h)
lower_word (c ∷ x) h =
    let y = lower_character c (begins_all c (first_holds (begins_name c) (list_all continues_name x) h)) in
    let z = all_lower x (second_holds (begins_name c) (list_all continues_name x) h) in
    ap (λ d. d ∷ fold_case x) y ∙ ap (λ u. c ∷ u) z

same_keyword : (x : Text) → (is_lower_word x && not (is_keyword x)) ≡ is_name x
same_keyword x = go (is_lower_word x) refl
  where
    go : (b : Bool) → is_lower_word x ≡ b → (b && not (list_any (same_text (fold_case x)) keywords)) ≡ (b && not (list_any (same_text x) keywords))
    go true e = ap (λ y. not (list_any (same_text y) keywords)) (lower_word x e)
    go false e = refl

pub free_word : (x : Text) (b : Bool) → true ≡ is_lower_word x → b ≡ is_keyword x → not b ≡ is_name x
free_word x b l k = ap not k ∙ ap (λ d. d && not (is_keyword x)) l ∙ same_keyword x
