-- The words of a line, by its parts.
use Rattle.std.proofs.Common.{◌≡◌, ◌∙◌, ap, sym, refl, List, [], ◌∷◌, Option, Some, None}
use Rattle.spec_value.specs.Datum.{Text}
use Rattle.spec_world.specs.CommandLines.{Parts, parts_at, parts_of_words, line_parts}
use Rattle.spec_world.specs.Prepositions.{Preposition, find_preposition}
use Rattle.spec_world.specs.Words.{words, after_first, expanded}

parts_in_front : (v : Text) (vs : List Text) (argstr : Text) (o : Option Preposition) → (parts_at v vs argstr o).verb ∷ (parts_at v vs argstr o).args ≡ v ∷ vs
parts_in_front v vs argstr None = refl
parts_in_front v vs argstr (Some p) = refl

-- no words where it has no parts
pub no_words : (t : Text) → line_parts t ≡ None → [] ≡ words (expanded t)
unfolding line_parts
no_words t none = go (words (expanded t)) none
  where
    go : (ws : List Text) → parts_of_words (expanded t) ws ≡ None → [] ≡ ws
    go [] e = refl
    go (w ∷ ws) e = cc

pub words_there : (t : Text) (p : Parts) → line_parts t ≡ Some p → p.verb ∷ p.args ≡ words (expanded t)
unfolding line_parts
words_there t p some = go (words (expanded t)) some
  where
    go : (ws : List Text) → parts_of_words (expanded t) ws ≡ Some p → p.verb ∷ p.args ≡ ws
    go [] e = cc
    go (w ∷ ws) e =
        let argstr = after_first (expanded t) in
        let is : parts_at w ws argstr (find_preposition ws) ≡ p = cc (e) in
        ap (λ (x : Parts). x.verb ∷ x.args) (sym is) ∙ parts_in_front w ws argstr (find_preposition ws)
