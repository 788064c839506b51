-- Where a text stands in another, by its characters: from the definitions of a search to what a search by places finds.
use Rattle.std.proofs.Common.{◌≡◌, ℕ, zero, suc, ◌+◌, ◌-◌, ◌<◌, ◌≤◌, Bool, true, false, List, [], ◌∷◌, length, get_or, drop, refl, ap, sym, ◌∙◌, arith, Option, Some, None, option_map, ◌&&◌}
use Rattle.std.proofs.Common.{◌++◌, take, length-drop, length-append}
use Rattle.std.proofs.lemmas.List.{get_or-drop}
use Rattle.std.proofs.lemmas.Bool.{eq-eqb, eqb-true, false≢true}
use Rattle.std.specs.Char.{to_ascii_lowercase}
use Rattle.memchr.specs.Find.{IsFirst}
use Rattle.memchr.specs.TwoWay.{OccursIn}
use Rattle.spec_value.specs.TextSearch.{same_character, begins, at_front, or_else, first_at, last_at, replaced}
use Rattle.moo_text.specs.TwoWay.{character}
use Rattle.moo_text.proofs.Searching.{begins_length, replaced_next, replaced_rest}

-- the characters of a text, from its front and from its end
abbrev pub forward : Bool → List ℕ → ℕ → ℕ
forward cased s k = character cased (get_or s k 0)

abbrev pub backward : Bool → List ℕ → ℕ → ℕ
backward cased s k = character cased (get_or s (length s - 1 - k) 0)

-- t stands in s at a place, and as far from its end
abbrev pub Stands : Bool → List ℕ → List ℕ → ℕ → Type 0
Stands cased s t = OccursIn (forward cased t) (length t) (forward cased s) (length s)

abbrev pub StandsBack : Bool → List ℕ → List ℕ → ℕ → Type 0
StandsBack cased s t = OccursIn (backward cased t) (length t) (backward cased s) (length s)

same_if : (cased : Bool) (c d : ℕ) → character cased c ≡ character cased d → same_character cased c d ≡ true
same_if true c d e = eq-eqb c d e
same_if false c d e = eq-eqb (to_ascii_lowercase c) (to_ascii_lowercase d) e

if_same : (cased : Bool) (c d : ℕ) → same_character cased c d ≡ true → character cased c ≡ character cased d
if_same true c d e = eqb-true c d e
if_same false c d e = eqb-true (to_ascii_lowercase c) (to_ascii_lowercase d) e

both : (a b : Bool) → a ≡ true → b ≡ true → (a && b) ≡ true
both true b p q = q
both false b p q = p

left : (a b : Bool) → (a && b) ≡ true → a ≡ true
left true b h = refl
left false b h = h

right : (a b : Bool) → (a && b) ≡ true → b ≡ true
right true b h = h
right false b h = absurd (false≢true h)

begins_if : (cased : Bool) (s t : List ℕ) → length t ≤ length s → ((j : ℕ) → j < length t → forward cased s j ≡ forward cased t j) → begins cased s t ≡ true
begins_if cased [] [] l e = refl
begins_if cased (c ∷ s) [] l e = refl
begins_if cased [] (d ∷ t) l e = absurd (omega arith)
begins_if cased (c ∷ s) (d ∷ t) l e =
    both (same_character cased c d) (begins cased s t) (same_if cased c d (e 0 (omega arith)))
    (begins_if cased s t (omega arith) (λ j k. e (suc j) (omega arith)))

if_begins : (cased : Bool) (s t : List ℕ) → begins cased s t ≡ true → (j : ℕ) → j < length t → forward cased s j ≡ forward cased t j
if_begins cased s [] b j l = absurd (omega arith)
if_begins cased [] (d ∷ t) b j l = absurd (false≢true b)
if_begins cased (c ∷ s) (d ∷ t) b zero l = if_same cased c d (left (same_character cased c d) (begins cased s t) b)
if_begins cased (c ∷ s) (d ∷ t) b (suc j) l = if_begins cased s t (right (same_character cased c d) (begins cased s t) b) j (omega arith)

pub stands_begins : (cased : Bool) (s t : List ℕ) (k : ℕ) → Stands cased s t k → begins cased (drop k s) t ≡ true
stands_begins cased s t k h =
    let fits = h.fits in
    begins_if cased (drop k s) t (omega (arith, length-drop k s)) (λ j l. ap (character cased) (get_or-drop k s j 0) ∙ h.reads j l)

pub begins_stands : (cased : Bool) (s t : List ℕ) (k : ℕ) → k ≤ length s → begins cased (drop k s) t ≡ true → Stands cased s t k
begins_stands cased s t k l b = record {
  fits = omega (arith, begins_length cased (drop k s) t b, length-drop k s);
  reads = λ j m. ap (character cased) (sym (get_or-drop k s j 0)) ∙ if_begins cased (drop k s) t b j m;
}

pub back_stands : (cased : Bool) (s t : List ℕ) (k : ℕ) → StandsBack cased s t k → Stands cased s t (length s - length t - k)
back_stands cased s t k h =
    let m = length t in
    let n = length s in
    let fits = h.fits in
    record {
      fits = omega arith;
      reads = λ j l.
          let mirrored = m - 1 - j in
          let at_s : n - 1 - (k + mirrored) ≡ n - m - k + j = omega arith in
          let at_t : m - 1 - mirrored ≡ j = omega arith in
          ap (forward cased s) (sym at_s) ∙ h.reads mirrored (omega arith) ∙ ap (forward cased t) at_t;
    }

pub stands_back : (cased : Bool) (s t : List ℕ) (p : ℕ) → Stands cased s t p → StandsBack cased s t (length s - length t - p)
stands_back cased s t p h =
    let m = length t in
    let n = length s in
    let fits = h.fits in
    record {
      fits = omega arith;
      reads = λ j l.
          let mirrored = m - 1 - j in
          let at_s : p + mirrored ≡ n - 1 - (n - m - p + j) = omega arith in
          ap (forward cased s) (sym at_s) ∙ h.reads mirrored (omega arith);
    }

-- ---- the first and the last place

none_at : (b : Bool) → (b ≡ true → ⊥) → at_front b ≡ None
none_at true h = absurd (h refl)
none_at false h = refl

first_none : (cased : Bool) (s t : List ℕ) → ((k : ℕ) → k ≤ length s → begins cased (drop k s) t ≡ true → ⊥) → first_at cased s t ≡ None
first_none cased [] t h = none_at (begins cased [] t) (h 0 (omega arith))
first_none cased (c ∷ s) t h =
    ap (λ o. or_else o (option_map suc (first_at cased s t))) (none_at (begins cased (c ∷ s) t) (h 0 (omega arith)))
    ∙ ap (option_map suc) (first_none cased s t (λ k l. h (suc k) (omega arith)))

first_some : (cased : Bool) (s t : List ℕ) (k : ℕ) → k ≤ length s → begins cased (drop k s) t ≡ true → ((j : ℕ) → j < k → begins cased (drop j s) t ≡ true → ⊥) → first_at cased s t ≡ Some k
first_some cased [] t zero l b h = ap at_front b
first_some cased [] t (suc k) l b h = absurd (omega arith)
first_some cased (c ∷ s) t zero l b h = ap (λ v. or_else (at_front v) (option_map suc (first_at cased s t))) b
first_some cased (c ∷ s) t (suc k) l b h =
    ap (λ o. or_else o (option_map suc (first_at cased s t))) (none_at (begins cased (c ∷ s) t) (h 0 (omega arith)))
    ∙ ap (option_map suc) (first_some cased s t k (omega arith) b (λ j i. h (suc j) (omega arith)))

last_none : (cased : Bool) (s t : List ℕ) → ((k : ℕ) → k ≤ length s → begins cased (drop k s) t ≡ true → ⊥) → last_at cased s t ≡ None
last_none cased [] t h = none_at (begins cased [] t) (h 0 (omega arith))
last_none cased (c ∷ s) t h =
    ap (λ o. or_else (option_map suc o) (at_front (begins cased (c ∷ s) t))) (last_none cased s t (λ k l. h (suc k) (omega arith)))
    ∙ none_at (begins cased (c ∷ s) t) (h 0 (omega arith))

last_some : (cased : Bool) (s t : List ℕ) (k : ℕ) → k ≤ length s → begins cased (drop k s) t ≡ true → ((j : ℕ) → k < j → j ≤ length s → begins cased (drop j s) t ≡ true → ⊥) → last_at cased s t ≡ Some k
last_some cased [] t zero l b h = ap at_front b
last_some cased [] t (suc k) l b h = absurd (omega arith)
last_some cased (c ∷ s) t zero l b h =
    ap (λ o. or_else (option_map suc o) (at_front (begins cased (c ∷ s) t))) (last_none cased s t (λ j i. h (suc j) (omega arith) (omega arith)))
    ∙ ap at_front b
last_some cased (c ∷ s) t (suc k) l b h =
    ap (λ o. or_else (option_map suc o) (at_front (begins cased (c ∷ s) t))) (last_some cased s t k (omega arith) b (λ j i m. h (suc j) (omega arith) (omega arith)))

pub first_is : (cased : Bool) (s t : List ℕ) (r : Option ℕ) → IsFirst (Stands cased s t) 0 (length s + 1) r → r ≡ first_at cased s t
first_is cased s t None h = sym (first_none cased s t (λ k l b. h k (omega arith) (omega arith) (begins_stands cased s t k l b)))
first_is cased s t (Some k) h =
    let high = h.0.high in
    sym (first_some cased s t k (omega arith) (stands_begins cased s t k h.1)
    (λ j l b. h.0.before j (omega arith) l (begins_stands cased s t j (omega arith) b)))

pub last_is : (cased : Bool) (s t : List ℕ) (r : Option ℕ) → IsFirst (StandsBack cased s t) 0 (length s + 1) r → option_map (λ k. length s - length t - k) r ≡ last_at cased s t
last_is cased s t None h =
    sym (last_none cased s t (λ k l b.
    h (length s - length t - k) (omega arith) (omega arith) (stands_back cased s t k (begins_stands cased s t k l b))))
last_is cased s t (Some k) h =
    let fits = h.1.fits in
    sym (last_some cased s t (length s - length t - k) (omega arith) (stands_begins cased s t (length s - length t - k) (back_stands cased s t k h.1))
    (λ j l m b.
    let stands = begins_stands cased s t j m b in
    let room = stands.fits in
    h.0.before (length s - length t - j) (omega arith) (omega arith) (stands_back cased s t j stands)))

-- nothing is sought: it stands everywhere
pub first_of_nothing : (cased : Bool) (s t : List ℕ) → length t ≡ 0 → Some 0 ≡ first_at cased s t
first_of_nothing cased s t e = sym (first_some cased s t 0 (omega arith) (begins_if cased s t (omega arith) (λ j l. absurd (omega arith))) (λ j l. absurd (omega arith)))

pub last_of_nothing : (cased : Bool) (s t : List ℕ) → length t ≡ 0 → Some (length s) ≡ last_at cased s t
last_of_nothing cased s t e = sym (last_some cased s t (length s) (omega arith) (begins_if cased (drop (length s) s) t (omega arith) (λ j l. absurd (omega arith))) (λ j l m. absurd (omega arith)))

-- ---- replacement

module _ (cased : Bool) (s t u out : List ℕ) (n : ℕ) where
  -- from one place to the next at which the text stands, and behind it
  pub replaced_step : (passed once more : List ℕ) (next : ℕ) → 0 < length t → IsFirst (Stands cased s t) n (length s + 1) (Some next) → passed ≡ take (next - n) (drop n s) → once ≡ out ++ passed → more ≡ once ++ u → more ++ replaced cased t u 0 (drop (next + length t) s) ≡ out ++ replaced cased t u 0 (drop n s)
  replaced_step passed once more next some found e f g =
      let next_is = replaced_next cased s t u out n next some found.0.low found.1.fits (stands_begins cased s t next found.1)
      (λ k a b h. found.0.before k a b (begins_stands cased s t k (let high = found.0.high in omega arith) h)) in
      ap (λ x. x ++ replaced cased t u 0 (drop (next + length t) s)) (g ∙ ap (λ x. x ++ u) (f ∙ ap (λ x. out ++ x) e)) ∙ next_is

  -- what is left where it stands no more
  pub replaced_end : (rest all whole : List ℕ) → n ≤ length s → IsFirst (Stands cased s t) n (length s + 1) None → rest ≡ drop n s → all ≡ out ++ rest → out ++ replaced cased t u 0 (drop n s) ≡ whole → all ≡ whole
  replaced_end rest all whole h found e f g =
      f ∙ ap (λ x. out ++ x) e
      ∙ replaced_rest cased s t u out n h (λ k a b i. found k a (omega arith) (begins_stands cased s t k b i))
      ∙ g

-- the whole is as long as its front
pub long_as_front : (out more whole : List ℕ) (n : ℕ) → n ≤ length out → out ++ more ≡ whole → n ≤ length whole
long_as_front out more whole n h e = omega (arith, ap length e, length-append out more)
