-- The words of a line (Programmer's Manual, "The Built-in Command Parser"): cut at spaces; double quotes group; a backslash takes the next character.
use Rattle.std.specs.Prelude.{ℕ, List, [], ◌∷◌, ◌++◌, ◌==◌, if◌then◌else◌, codes}
use Rattle.spec_value.specs.Datum.{Text}

-- ---- what a character does

pub data Sign : Type 0 where
  space quote backslash other : Sign

abbrev pub sign : ℕ → Sign
sign c = if c == 32 then space else if c == 34 then quote else if c == 92 then backslash else other

-- the rest of the word under way, and the words behind it
abbrev pub Reading : Type 0
Reading = Text × List Text

abbrev pub onto : ℕ → Reading → Reading
onto c r = (c ∷ r.0, r.1)

abbrev pub as_words : Reading → List Text
as_words r = r.0 ∷ r.1

-- ---- words

-- what a text says to one who comes to it between words, within a word, and within quotes; and behind a backslash in each of these
pub record Readings : Type 0 where
  pub between : List Text
  pub bare : Reading
  pub quoted : Reading
  pub between_escaped : List Text
  pub bare_escaped : Reading
  pub quoted_escaped : Reading

-- an open quote runs to the end, and a last backslash is nothing
abbrev pub at_the_end : Readings
at_the_end = record { between = []; bare = ([], []); quoted = ([], []); between_escaped = []; bare_escaped = ([], []); quoted_escaped = ([], []) }

-- behind a backslash the character is one of the word
abbrev pub taken : ℕ → Readings → List Text → Reading → Reading → Readings
taken c r b s q = record {
  between = b;
  bare = s;
  quoted = q;
  between_escaped = as_words (onto c r.bare);
  bare_escaped = onto c r.bare;
  quoted_escaped = onto c r.quoted;
}

abbrev pub read_sign : Sign → ℕ → Readings → Readings
read_sign space c r = taken c r r.between ([], r.between) (onto c r.quoted)
read_sign quote c r = taken c r (as_words r.quoted) r.quoted r.bare
read_sign backslash c r = taken c r r.between_escaped r.bare_escaped r.quoted_escaped
read_sign other c r = taken c r (as_words (onto c r.bare)) (onto c r.bare) (onto c r.quoted)

abbrev pub readings : Text → Readings
readings [] = at_the_end
readings (c ∷ t) = read_sign (sign c) c (readings t)

unfoldable pub words : Text → List Text
words t = (readings t).between

-- ---- what stands behind the first word

unfoldable pub without_spaces : Text → Text
without_spaces [] = []
without_spaces (c ∷ t) = if c == 32 then without_spaces t else c ∷ t

-- to one who comes to the text before the first word, within it, and within its quotes; and behind a backslash in these
pub record Remainders : Type 0 where
  pub before : Text
  pub bare : Text
  pub quoted : Text
  pub bare_escaped : Text
  pub quoted_escaped : Text

abbrev pub nothing_left : Remainders
nothing_left = record { before = []; bare = []; quoted = []; bare_escaped = []; quoted_escaped = [] }

abbrev pub leaving : Remainders → Text → Text → Text → Remainders
leaving r b s q = record { before = b; bare = s; quoted = q; bare_escaped = r.bare; quoted_escaped = r.quoted }

abbrev pub leave_sign : Sign → Text → Remainders → Remainders
leave_sign space t r = leaving r r.before (without_spaces t) r.quoted
leave_sign quote t r = leaving r r.quoted r.quoted r.bare
leave_sign backslash t r = leaving r r.bare_escaped r.bare_escaped r.quoted_escaped
leave_sign other t r = leaving r r.bare r.bare r.quoted

abbrev pub remainders : Text → Remainders
remainders [] = nothing_left
remainders (c ∷ t) = leave_sign (sign c) t (remainders t)

-- the text as it was typed behind the first word and the spaces after it
unfoldable pub after_first : Text → Text
after_first t = (remainders t).before

-- ---- joined again

-- one space between two
abbrev pub spaced : List Text → Text
spaced [] = []
spaced (t ∷ []) = t
spaced (t ∷ u ∷ ts) = t ++ 32 ∷ spaced (u ∷ ts)

-- ---- signs at the front of a line

abbrev pub spelled_out : ℕ → Text → Text
spelled_out c t =
    if c == 34 then codes "say " ++ t else if c == 58 then codes "emote " ++ t else if c == 59 then codes "eval " ++ t else c ∷ t

abbrev pub expanded_front : Text → Text
expanded_front [] = []
expanded_front (c ∷ t) = spelled_out c t

-- without the spaces at its front; `"`, `:` and `;` there stand for `say `, `emote ` and `eval `
unfoldable pub expanded : Text → Text
expanded t = expanded_front (without_spaces t)
