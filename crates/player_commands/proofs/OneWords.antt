-- The parts of a line that is one word.
use Rattle.std.proofs.Common.{◌≡◌, refl, ap, sym, ◌∙◌, ℕ, [], ◌∷◌, ◌++◌}
use Rattle.std.specs.Prelude.{Bool, true, false, not, ◌&&◌, ◌==◌, if◌then◌else◌, IsTrue, Some, None, codes}
use Rattle.std.specs.List.{list_all}
use Rattle.spec_value.specs.Datum.{Text}
use Rattle.spec_world.specs.Words as meant
use Rattle.spec_world.specs.Words.{Readings, Remainders, sign, readings, read_sign, remainders, leave_sign, words, after_first, expanded, expanded_front, without_spaces, onto, as_words}
use Rattle.spec_world.specs.Prepositions.{find_preposition}
use Rattle.spec_world.specs.CommandLines.{line_parts, parts_of_words, parts_at}
use Rattle.player_commands.specs.OneWord.{is_plain, is_word, parts_of_word}

-- ---- what is known of a plain character, and of a word

pub record Plain (c : ℕ) : Type 0 where
  pub no_space : (c == 32) ≡ false
  pub no_quote : (c == 34) ≡ false
  pub no_backslash : (c == 92) ≡ false

three : (a b d : Bool) → IsTrue (a && b && d) → IsTrue a × IsTrue b × IsTrue d
three true true true h = (refl, refl, refl)
three false b d h = cc
three true false d h = cc
three true true false h = cc

not_then : (a : Bool) → IsTrue (not a) → a ≡ false
not_then false h = refl
not_then true h = cc

plain : (c : ℕ) → IsTrue (is_plain c) → Plain c
plain c h =
    let k = three (not (c == 32)) (not (c == 34)) (not (c == 92)) h in
    record { no_space = not_then (c == 32) k.0; no_quote = not_then (c == 34) k.1; no_backslash = not_then (c == 92) k.2 }

both : (a b : Bool) → IsTrue (a && b) → IsTrue a × IsTrue b
both true b h = (refl, h)
both false b h = cc

by_sign : (a b d : Bool) → a ≡ false → b ≡ false → d ≡ false → (if a then meant.space else if b then meant.quote else if d then meant.backslash else meant.other) ≡ meant.other
by_sign false false false h i j = refl
by_sign true b d h i j = cc
by_sign false true d h i j = cc
by_sign false false true h i j = cc

other_sign : (c : ℕ) → Plain c → sign c ≡ meant.other
other_sign c p = by_sign (c == 32) (c == 34) (c == 92) p.no_space p.no_quote p.no_backslash

-- ---- words

one_read : (t : Text) → IsTrue (list_all is_plain t) → (readings t).bare ≡ (t, [])
one_read [] h = refl
one_read (c ∷ t) h =
    let k = both (is_plain c) (list_all is_plain t) h in
    ap (λ s. (read_sign s c (readings t)).bare) (other_sign c (plain c k.0)) ∙ ap (onto c) (one_read t k.1)

one_of_words : (c : ℕ) (t : Text) → IsTrue (list_all is_plain (c ∷ t)) → words (c ∷ t) ≡ (c ∷ t) ∷ []
unfolding words
one_of_words c t h =
    let k = both (is_plain c) (list_all is_plain t) h in
    ap (λ s. (read_sign s c (readings t)).between) (other_sign c (plain c k.0)) ∙ ap (λ r. as_words (onto c r)) (one_read t k.1)

-- ---- what stands behind

none_behind : (t : Text) → IsTrue (list_all is_plain t) → (remainders t).bare ≡ []
none_behind [] h = refl
none_behind (c ∷ t) h =
    let k = both (is_plain c) (list_all is_plain t) h in
    ap (λ s. (leave_sign s t (remainders t)).bare) (other_sign c (plain c k.0)) ∙ none_behind t k.1

nothing_after : (c : ℕ) (t : Text) → IsTrue (list_all is_plain (c ∷ t)) → after_first (c ∷ t) ≡ []
unfolding after_first
nothing_after c t h =
    let k = both (is_plain c) (list_all is_plain t) h in
    ap (λ s. (leave_sign s t (remainders t)).before) (other_sign c (plain c k.0)) ∙ none_behind t k.1

-- ---- at the front

no_spaces : (c : ℕ) (t : Text) → Plain c → without_spaces (c ∷ t) ≡ c ∷ t
unfolding without_spaces
no_spaces c t p = ap (λ b. if b then without_spaces t else c ∷ t) p.no_space

by_signs : (a b d : Bool) (c : ℕ) (t : Text) → a ≡ false → b ≡ false → d ≡ false
    → (if a then codes "say " ++ t else if b then codes "emote " ++ t else if d then codes "eval " ++ t else c ∷ t) ≡ c ∷ t
by_signs false false false c t h i j = refl
by_signs true b d c t h i j = cc
by_signs false true d c t h i j = cc
by_signs false false true c t h i j = cc

itself : (c : ℕ) (t : Text) → Plain c → (c == 58) ≡ false → (c == 59) ≡ false → expanded (c ∷ t) ≡ c ∷ t
unfolding expanded
itself c t p h i = ap expanded_front (no_spaces c t p) ∙ by_signs (c == 34) (c == 58) (c == 59) c t p.no_quote h i

-- ---- parts

parts_there : (c : ℕ) (t : Text) → expanded (c ∷ t) ≡ c ∷ t → IsTrue (list_all is_plain (c ∷ t)) → line_parts (c ∷ t) ≡ Some (parts_of_word (c ∷ t))
unfolding line_parts find_preposition
parts_there c t e h =
    ap (λ x. parts_of_words x (words x)) e
    ∙ ap (parts_of_words (c ∷ t)) (one_of_words c t h)
    ∙ ap (λ a. Some (parts_at (c ∷ t) [] a None)) (nothing_after c t h)

pub one_word : (t : Text) → IsTrue (is_word t) → line_parts t ≡ Some (parts_of_word t)
one_word [] h = cc
one_word (c ∷ t) h =
    let k = three (not (c == 58)) (not (c == 59)) (list_all is_plain (c ∷ t)) h in
    let p = plain c (both (is_plain c) (list_all is_plain t) k.2).0 in
    parts_there c t (itself c t p (not_then (c == 58) k.0) (not_then (c == 59) k.1)) k.2
