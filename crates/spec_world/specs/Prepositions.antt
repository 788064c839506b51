-- Prepositions (Programmer's Manual, "The Built-in Command Parser"): the sets, and where one stands among words.
use Rattle.std.specs.Prelude.{ℕ, suc, Bool, true, false, ◌&&◌, nat_lt, List, [], ◌∷◌, length, if◌then◌else◌, Option, Some, None, option_map, codes}
use Rattle.spec_value.specs.Datum.{Text, fold_case, same_text}

-- a preposition is of one to three words
abbrev pub Phrase : Type 0
Phrase = List Text

-- the sets by their numbers from 0, each with its members
abbrev pub sets : List (List Phrase)
sets =
    ((codes "with" ∷ []) ∷ (codes "using" ∷ []) ∷ [])
    ∷ ((codes "at" ∷ []) ∷ (codes "to" ∷ []) ∷ [])
    ∷ ((codes "in" ∷ codes "front" ∷ codes "of" ∷ []) ∷ [])
    ∷ ((codes "in" ∷ []) ∷ (codes "inside" ∷ []) ∷ (codes "into" ∷ []) ∷ [])
    ∷ ((codes "on" ∷ codes "top" ∷ codes "of" ∷ []) ∷ (codes "on" ∷ []) ∷ (codes "onto" ∷ []) ∷ (codes "upon" ∷ []) ∷ [])
    ∷ ((codes "out" ∷ codes "of" ∷ []) ∷ (codes "from" ∷ codes "inside" ∷ []) ∷ (codes "from" ∷ []) ∷ [])
    ∷ ((codes "over" ∷ []) ∷ [])
    ∷ ((codes "through" ∷ []) ∷ [])
    ∷ ((codes "under" ∷ []) ∷ (codes "underneath" ∷ []) ∷ (codes "beneath" ∷ []) ∷ [])
    ∷ ((codes "behind" ∷ []) ∷ [])
    ∷ ((codes "beside" ∷ []) ∷ [])
    ∷ ((codes "for" ∷ []) ∷ (codes "about" ∷ []) ∷ [])
    ∷ ((codes "is" ∷ []) ∷ [])
    ∷ ((codes "as" ∷ []) ∷ [])
    ∷ ((codes "off" ∷ []) ∷ (codes "off" ∷ codes "of" ∷ []) ∷ [])
    ∷ []

-- the words begin with the phrase, the case of letters ignored
abbrev pub stands_first : Phrase → List Text → Bool
stands_first [] words = true
stands_first (p ∷ ps) [] = false
stands_first (p ∷ ps) (t ∷ ts) = same_text p (fold_case t) && stands_first ps ts

-- ---- the longest preposition at the front of words

pub record Begun : Type 0 where
  pub size : ℕ  -- words of the preposition
  pub set : ℕ

abbrev pub longer : Begun → Option Begun → Option Begun
longer b None = Some b
longer b (Some c) = if nat_lt c.size b.size then Some b else Some c

abbrev pub among : ℕ → List Phrase → List Text → Option Begun
among n [] words = None
among n (p ∷ ps) words = if stands_first p words then longer (record { size = length p; set = n }) (among n ps words) else among n ps words

abbrev pub either_longer : Option Begun → Option Begun → Option Begun
either_longer None c = c
either_longer (Some b) c = longer b c

abbrev pub from_set : ℕ → List (List Phrase) → List Text → Option Begun
from_set n [] words = None
from_set n (ps ∷ more) words = either_longer (among n ps words) (from_set (suc n) more words)

abbrev pub longest : List Text → Option Begun
longest words = from_set 0 sets words

-- ---- the earliest place, and there the longest

pub record Preposition : Type 0 where
  pub start : ℕ  -- words before it
  pub size : ℕ
  pub set : ℕ

abbrev pub one_later : Preposition → Preposition
one_later p = record p { start = suc p.start }

abbrev pub first_or : Option Begun → Option Preposition → Option Preposition
first_or None later = option_map one_later later
first_or (Some b) later = Some (record { start = 0; size = b.size; set = b.set })

unfoldable pub find_preposition : List Text → Option Preposition
find_preposition [] = None
find_preposition (t ∷ ts) = first_or (longest (t ∷ ts)) (find_preposition ts)
