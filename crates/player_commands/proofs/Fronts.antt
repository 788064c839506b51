-- Signs at the front of a line, and words with spaces between them.
use Rattle.std.proofs.Common.{◌≡◌, refl, ap, sym, ◌∙◌, ℕ, List, [], ◌∷◌, ◌++◌, ◌+◌, suc, ◌<◌, arith}
use Rattle.std.specs.Prelude.{Bool, true, false, length, slice_index_or, drop, if◌then◌else◌, ◌==◌, codes, Some, None, IsTrue}
use Rattle.std.proofs.lemmas.Bool.{ne_eqb}
use Rattle.std.proofs.Math.Seq.{drop-cons}
use Rattle.std.proofs.lemmas.List.{append_assoc, append-nil}
use Rattle.spec_value.specs.Datum.{Text, is_text}
use Rattle.moo_value.proofs.Characters.{is_text-append}
use Rattle.spec_world.specs.CommandLines.{line_parts, parts_of_words, parts_at}
use Rattle.spec_world.specs.Prepositions.{find_preposition}
use Rattle.spec_world.specs.Words.{words, after_first, expanded, expanded_front, without_spaces, spelled_out, spaced}
use Rattle.player_commands.proofs.Spaces.{one_on}
use Rattle.player_commands.specs.declared.command_lines.parts.Front.{Front}
use Rattle.player_commands.specs.declared.command_lines.parts.Front.TheVariants.{Say, Emote, Eval, Plain}
use Rattle.player_commands.specs.CommandLinesMeant.{with_front}

pub say_front : (t : Text) → 0 < length t → slice_index_or t 0 0 ≡ 34 → expanded_front t ≡ with_front Say t
say_front [] l h = absurd (omega arith)
say_front (c ∷ t) l h = ap (λ k. spelled_out k t) h

pub emote_front : (t : Text) → 0 < length t → slice_index_or t 0 0 ≡ 58 → expanded_front t ≡ with_front Emote t
emote_front [] l h = absurd (omega arith)
emote_front (c ∷ t) l h = ap (λ k. spelled_out k t) h

pub eval_front : (t : Text) → 0 < length t → slice_index_or t 0 0 ≡ 59 → expanded_front t ≡ with_front Eval t
eval_front [] l h = absurd (omega arith)
eval_front (c ∷ t) l h = ap (λ k. spelled_out k t) h

by_tests : (a b d : Bool) (c : ℕ) (t : Text) → a ≡ false → b ≡ false → d ≡ false
    → (if a then codes "say " ++ t else if b then codes "emote " ++ t else if d then codes "eval " ++ t else c ∷ t) ≡ c ∷ t
by_tests false false false c t h i j = refl
by_tests true b d c t h i j = cc
by_tests false true d c t h i j = cc
by_tests false false true c t h i j = cc

pub plain_front : (t : Text) → (slice_index_or t 0 0 ≡ 34 → ⊥) → (slice_index_or t 0 0 ≡ 58 → ⊥) → (slice_index_or t 0 0 ≡ 59 → ⊥) → expanded_front t ≡ with_front Plain t
plain_front [] h i j = refl
plain_front (c ∷ t) h i j = by_tests (c == 34) (c == 58) (c == 59) c t (ne_eqb c 34 h) (ne_eqb c 58 i) (ne_eqb c 59 j)

pub nothing_behind : (a b : Text) → a ++ (b ++ []) ≡ a ++ b
nothing_behind a b = ap (λ t. a ++ t) (append-nil b)

pub front_spelled : (line rest : Text) (f : Front) → rest ≡ without_spaces line → expanded_front rest ≡ with_front f rest → expanded line ≡ with_front f rest
unfolding expanded
front_spelled line rest f h e = ap expanded_front (sym h) ∙ e

-- a word more, behind a space
pub one_word_more : (t : Text) (w : Text) (ws : List Text) → spaced (((t ++ 32 ∷ []) ++ w) ∷ ws) ≡ spaced (t ∷ w ∷ ws)
one_word_more t w [] = append_assoc t (32 ∷ []) w
one_word_more t w (v ∷ ws) = append_assoc (t ++ 32 ∷ []) w (32 ∷ spaced (v ∷ ws)) ∙ append_assoc t (32 ∷ []) (w ++ 32 ∷ spaced (v ∷ ws))

pub rest_on : (t u w : Text) (ws : List Text) (i : ℕ) → i < length ws → w ≡ slice_index_or ws i w → u ≡ (t ++ 32 ∷ []) ++ w → spaced (t ∷ drop i ws) ≡ spaced (u ∷ drop (i + 1) ws)
rest_on t u w ws i l h e =
    ap (λ x. spaced (t ∷ x)) (drop-cons ws i w l)
    ∙ ap (λ x. spaced (t ∷ x ∷ drop (suc i) ws)) (sym h)
    ∙ sym (one_word_more t w (drop (suc i) ws))
    ∙ ap (λ x. spaced (x ∷ drop (suc i) ws)) (sym e)
    ∙ ap (λ k. spaced (u ∷ drop k ws)) (one_on i)

pub grown : (t w : Text) → IsTrue (is_text t) → IsTrue (is_text w) → IsTrue (is_text ((t ++ 32 ∷ []) ++ w))
grown t w h g = is_text-append (t ++ 32 ∷ []) w (is_text-append t (32 ∷ []) h refl) g

-- ---- parts

pub no_parts : (line : Text) (ws : List Text) → length ws ≡ 0 → parts_of_words line ws ≡ None
no_parts line [] h = refl
no_parts line (w ∷ ws) h = absurd (omega arith)

pub some_parts : (line : Text) (ws : List Text) (v : Text) (rest : List Text) → ws ≡ v ∷ rest → parts_of_words line ws ≡ Some (parts_at v rest (after_first line) (find_preposition rest))
some_parts line ws v rest h = ap (parts_of_words line) h

pub parts_are : (line e : Text) → expanded line ≡ e → line_parts line ≡ parts_of_words e (words e)
unfolding line_parts
parts_are line e h = ap (λ x. parts_of_words x (words x)) h
