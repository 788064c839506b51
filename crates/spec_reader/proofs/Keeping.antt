-- How a step keeps what is still to be read: by what is taken of the tokens.
use Rattle.std.proofs.Common.{◌≡◌, ℕ, Bool, true, false, List, [], ◌∷◌, refl, sym, ◌∙◌, arith}
use Rattle.spec_value.specs.Datum.{Text, fold_case}
use Rattle.std.specs.Prelude.{Option, Some, None}
use Rattle.spec_program.specs.Tokens as t
use Rattle.spec_program.specs.Tokens.{Token, Placed}
use Rattle.spec_program.specs.Reading.{Read, stuck, and_then, chosen, if_token, past_word, word_or_stuck}
use Rattle.spec_program.specs.ReadPrograms.{FoundBlock, perhaps_word, word_there}
use Rattle.spec_program.specs.Frames.{Kind, Of, Frames, means}
use Rattle.spec_reader.specs.Next.{Next, State, goes, stops, next_means, if_there, taken, on, if_word, taken_word, on_word}
use Rattle.spec_reader.specs.Laws.{Keeps}

pub now : (n : ℕ) (x : Next) (ts : List Placed) (r : Read FoundBlock) → r ≡ next_means n x ts → Keeps n r ts (goes x ts)
now n x ts r e = record { means = sym e; left = omega arith }

pub via : (n : ℕ) (r q : Read FoundBlock) (ts : List Placed) (s : State) → r ≡ q → Keeps n q ts s → Keeps n r ts s
via n r q ts s e k = record { means = k.means ∙ sym e; left = k.left }

pub later : (n : ℕ) (r : Read FoundBlock) (p : Placed) (ts : List Placed) (s : State) → Keeps n r ts s → Keeps n r (p ∷ ts) s
later n r p ts s k = let l = k.left in record { means = k.means; left = omega (arith, l) }

-- a token that is there or not
pub on_token : {a : Kind} (n : ℕ) (fs : Frames a) (test : Token → Bool) (there absent : List Placed → Read (Of a)) (f g : List Placed → State)
    → ((us : List Placed) → Keeps n (means n fs (there us)) us (f us)) → ((us : List Placed) → Keeps n (means n fs (absent us)) us (g us))
    → (ts : List Placed) → Keeps n (means n fs (if_token test there absent ts)) ts (on f g (taken test ts))
on_token n fs test there absent f g h k [] = k []
on_token n fs test there absent f g h k (p ∷ ts) = by_test (test p.token)
  where
    by_test : (c : Bool) → Keeps n (means n fs (chosen c there absent ts (p ∷ ts))) (p ∷ ts) (on f g (if_there c p ts))
    by_test true = later n (means n fs (there ts)) p ts (f ts) (h ts)
    by_test false = k (p ∷ ts)

pub past : {a : Kind} (n : ℕ) (fs : Frames a) (test : Token → Bool) (there : List Placed → Read (Of a)) (x : Next)
    → ((us : List Placed) → means n fs (there us) ≡ next_means n x us)
    → (ts : List Placed) → Keeps n (means n fs (if_token test there stuck ts)) ts (on (goes x) stops (taken test ts))
past n fs test there x h ts =
    on_token n fs test there stuck (goes x) stops
    (λ us. now n x us (means n fs (there us)) (h us)) (λ us. record { means = refl; left = omega arith }) ts

-- a word that must be there
pub past_a_word : {a : Kind} (n : ℕ) (fs : Frames a) (there : Text → ℕ → List Placed → Read (Of a)) (f : Text → ℕ → List Placed → State)
    → ((x : Text) (line : ℕ) (us : List Placed) → Keeps n (means n fs (there x line us)) us (f x line us))
    → (ts : List Placed) → Keeps n (means n fs (past_word ts there)) ts (on_word f stops (taken_word ts))
past_a_word n fs there f h [] = record { means = refl; left = omega arith }
past_a_word n fs there f h (p ∷ ts) = by_token p.token
  where
    by_token : (k : Token) → Keeps n (means n fs (word_or_stuck k p.line there ts (p ∷ ts))) (p ∷ ts) (on_word f stops (if_word k p.line ts (p ∷ ts)))
    by_token (t.word x) = later n (means n fs (there x p.line ts)) p ts (f x p.line ts) (h x p.line ts)
    by_token _ = record { means = refl; left = omega arith }

-- a word that is perhaps there
pub perhaps : {a : Kind} (n : ℕ) (fs : Frames a) (more : Option Text → List Placed → Read (Of a)) (f : Text → ℕ → List Placed → State)
    (g : List Placed → State)
    → ((x : Text) (line : ℕ) (us : List Placed) → Keeps n (means n fs (more (Some (fold_case x)) us)) us (f x line us))
    → ((us : List Placed) → Keeps n (means n fs (more None us)) us (g us))
    → (ts : List Placed) → Keeps n (means n fs (and_then (perhaps_word ts) more)) ts (on_word f g (taken_word ts))
perhaps n fs more f g h k [] = k []
perhaps n fs more f g h k (p ∷ ts) = by_token p.token
  where
    by_token : (x : Token) → Keeps n (means n fs (and_then (word_there x ts (p ∷ ts)) more)) (p ∷ ts) (on_word f g (if_word x p.line ts (p ∷ ts)))
    by_token (t.word x) = later n (means n fs (more (Some (fold_case x)) ts)) p ts (f x p.line ts) (h x p.line ts)
    by_token _ = k (p ∷ ts)
