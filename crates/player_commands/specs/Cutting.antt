-- What the rest of a line adds to the words of which a part was read.
use Rattle.std.specs.Prelude.{◌≡◌, ℕ, List, [], ◌∷◌, ◌++◌, Bool, true, false, IsTrue}
use Rattle.spec_value.specs.Datum.{Text, is_text}
use Rattle.spec_world.specs.Words as meant
use Rattle.spec_world.specs.Words.{Reading, Readings, onto, as_words}
use Rattle.player_commands.specs.declared.command_lines.cutting.Sign.{Sign}
use Rattle.player_commands.specs.declared.command_lines.cutting.Sign.TheVariants.{Space, Quote, Backslash, Other}
use Rattle.player_commands.specs.declared.command_lines.cutting.Place.{Place}
use Rattle.player_commands.specs.declared.command_lines.cutting.Place.TheVariants.{Between, Bare, Quoted}
use Rattle.player_commands.specs.declared.command_lines.cutting.Cutting.{Cutting}

abbrev pub sign_of : Sign → meant.Sign
sign_of Space = meant.space
sign_of Quote = meant.quote
sign_of Backslash = meant.backslash
sign_of Other = meant.other

-- a word that goes on so, and the words behind it
abbrev pub goes_on : Text → Reading → List Text
goes_on word r = (word ++ r.0) ∷ r.1

abbrev pub pending : Place → Bool → Text → Readings → List Text
pending Between false word r = r.between
pending Between true word r = r.between_escaped
pending Bare false word r = goes_on word r.bare
pending Bare true word r = goes_on word r.bare_escaped
pending Quoted false word r = goes_on word r.quoted
pending Quoted true word r = goes_on word r.quoted_escaped

abbrev pub rest_of : Cutting → Readings → List Text
rest_of c r = c.words.items ++ pending c.place c.escaped c.word.items r

-- the same with one more character in the word
abbrev pub with_character : ℕ → Place → Text → Readings → List Text
with_character c Between word r = as_words (onto c r.bare)
with_character c Bare word r = goes_on word (onto c r.bare)
with_character c Quoted word r = goes_on word (onto c r.quoted)

-- there is no word between words
abbrev pub none_between : Place → Text → Type 0
none_between Between word = word ≡ []
none_between p word = Unit {0}

pub record Fits (c : Cutting) : Type 0 where
  pub characters : IsTrue (is_text c.word.items)
  pub between : none_between c.place c.word.items
