-- The tokens that are left, as those of the definitions, and what is taken of them.
use Rattle.std.specs.Prelude.{◌≡◌, ℕ, Bool, false, List, [], ◌∷◌, Option, Some, None}
use Rattle.spec_value.specs.Datum.{Text}
use Rattle.spec_program.specs.Tokens as meant
use Rattle.spec_program.specs.Reading.{is_keyword}
use Rattle.spec_program.specs.ReadExpressions.{ends_item}
use Rattle.moo_token.specs.declared.token.Placed.{Placed}
use Rattle.moo_token.specs.declared.fault.TokenFault.{TokenFault}
use Rattle.moo_token.specs.Views.{place_of, places, ending_of}
use Rattle.moo_token.specs.Meaning.{place_meant, all_meant, ending_meant}
use Rattle.reader_frames.specs.declared.left.Left.{Left}
use Rattle.reader_frames.specs.declared.left.Word.{Word}

abbrev pub left_of : Left → List meant.Placed
left_of l = all_meant (places l.rest.value.tokens.items) (ending_of l.rest.value.fault)

abbrev pub word_of : Option Word → Option (Text × ℕ)
word_of None = None
word_of (Some w) = Some (w.text, w.line)

-- the first token, or none before the text's fault or its end
abbrev pub Takes : List meant.Placed → Option Placed → List meant.Placed → Option TokenFault → Type 0
Takes old None new fault = (old ≡ new) × (new ≡ ending_meant (ending_of fault))
Takes old (Some p) new fault = old ≡ place_meant (place_of p) ∷ new

abbrev pub begins_with_keyword : meant.Keyword → List meant.Placed → Bool
begins_with_keyword k [] = false
begins_with_keyword k (p ∷ ts) = is_keyword k p.token

abbrev pub second_ends_item : List meant.Placed → Bool
second_ends_item [] = false
second_ends_item (p ∷ ts) = ends_item ts
