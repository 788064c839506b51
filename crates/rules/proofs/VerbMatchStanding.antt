-- Prepositions at the front of words.
use Rattle.std.proofs.Common.{◌≡◌, ℕ, zero, suc, ◌+◌, ◌-◌, ◌<◌, ◌≤◌, Bool, true, false, ◌&&◌, List, [], ◌∷◌, length, take, drop, Option, Some, None, refl, sym, ap, ◌∙◌, arith, if◌then◌else◌}
use Rattle.std.specs.Prelude.{nat_lt}
use Rattle.std.proofs.lemmas.Bool.{lt-ltb, le-ltb, ltb-true, ltb-false}
use Rattle.std.proofs.lemmas.List.{take_rest, drop_all}
use Rattle.spec_value.specs.Datum.{Text, fold_case, same_text}
use Rattle.spec_world.specs.Prepositions.{Phrase, stands_first, Begun, longer, either_longer, Preposition, first_or, longest, find_preposition}
use Rattle.rules.specs.VerbMatchMeant.{moved}

-- ---- the longer one

abbrev one_of : Bool → Begun → Begun → Option Begun
one_of p a b = if p then Some a else Some b

pub either_assoc : (x y z : Option Begun) → either_longer (either_longer x y) z ≡ either_longer x (either_longer y z)
either_assoc None y z = refl
either_assoc (Some a) None z = refl
either_assoc (Some a) (Some b) None = go (nat_lt b.size a.size)
  where
    go : (p : Bool) → either_longer (one_of p a b) None ≡ one_of p a b
    go true = refl
    go false = refl
either_assoc (Some a) (Some b) (Some c) = go (nat_lt b.size a.size) (nat_lt c.size b.size) refl refl
  where
    go : (p q : Bool) → nat_lt b.size a.size ≡ p → nat_lt c.size b.size ≡ q → either_longer (one_of p a b) (Some c) ≡ longer a (one_of q b c)
    go true true x y =
        let first = ltb-true b.size a.size x in
        let second = ltb-true c.size b.size y in
        ap (λ r. one_of r a c) (lt-ltb c.size a.size (omega arith)) ∙ sym (ap (λ r. one_of r a b) x)
    go true false x y = refl
    go false true x y = ap (λ r. one_of r b c) y ∙ sym (ap (λ r. one_of r a b) x)
    go false false x y =
        let first = ltb-false b.size a.size x in
        let second = ltb-false c.size b.size y in
        ap (λ r. one_of r b c) y ∙ sym (ap (λ r. one_of r a c) (le-ltb c.size a.size (omega arith)))

-- ---- where one stands

-- too few words
pub stands_short : (ps : Phrase) (ts : List Text) → length ts < length ps → stands_first ps ts ≡ false
stands_short [] ts h = absurd (omega arith)
stands_short (p ∷ ps) [] h = refl
stands_short (p ∷ ps) (t ∷ ts) h = ap (λ b. same_text p (fold_case t) && b) (stands_short ps ts (omega arith)) ∙ and_false (same_text p (fold_case t))
  where
    and_false : (b : Bool) → (b && false) ≡ false
    and_false true = refl
    and_false false = refl

-- nothing moves
pub not_moved : (p : Option Preposition) → moved 0 p ≡ p
not_moved None = refl
not_moved (Some p) = let e : p.start + 0 ≡ p.start = omega arith in ap (λ n. Some (record p { start = n })) e

moved_later : (k : ℕ) (p : Option Preposition) → moved k (first_or None p) ≡ moved (k + 1) p
moved_later k None = refl
moved_later k (Some p) = let e : suc p.start + k ≡ p.start + (k + 1) = omega arith in ap (λ n. Some (record p { start = n })) e

split : (ts : List Text) (k : ℕ) → k < length ts → (t : Text) × (drop k ts ≡ t ∷ drop (k + 1) ts)
split [] k h = absurd (omega arith)
split (t ∷ ts) zero h = (t, refl)
split (t ∷ ts) (suc k) h = let more : suc k + 1 ≡ suc (k + 1) = omega arith in ((split ts k (omega arith)).0, (split ts k (omega arith)).1 ∙ ap (λ m. (split ts k (omega arith)).0 ∷ drop m (t ∷ ts)) (sym more))

found_on : (ts : List Text) (t : Text) (rest : List Text) → ts ≡ t ∷ rest → find_preposition ts ≡ first_or (longest ts) (find_preposition rest)
unfolding find_preposition
found_on ts t rest e = ap find_preposition e ∙ ap (λ x. first_or (longest x) (find_preposition rest)) (sym e)

pub found_here : (ts : List Text) (k : ℕ) (b : Begun) → k < length ts → longest (take (length ts - k) (drop k ts)) ≡ Some b
    → moved k (find_preposition (drop k ts)) ≡ Some (record { start = k; size = b.size; set = b.set })
found_here ts k b h e =
    let next = split ts k h in
    let zeros : 0 + k ≡ k = omega arith in
    ap (moved k) (found_on (drop k ts) next.0 (drop (k + 1) ts) next.1)
    ∙ ap (λ o. moved k (first_or o (find_preposition (drop (k + 1) ts)))) (ap longest (sym (take_rest ts k)) ∙ e)
    ∙ ap (λ n. Some (record { start = n; size = b.size; set = b.set })) zeros

pub found_later : (ts : List Text) (k : ℕ) → k < length ts → longest (take (length ts - k) (drop k ts)) ≡ None
    → moved (k + 1) (find_preposition (drop (k + 1) ts)) ≡ moved k (find_preposition (drop k ts))
found_later ts k h e =
    let next = split ts k h in
    sym (ap (moved k) (found_on (drop k ts) next.0 (drop (k + 1) ts) next.1)
    ∙ ap (λ o. moved k (first_or o (find_preposition (drop (k + 1) ts)))) (ap longest (sym (take_rest ts k)) ∙ e)
    ∙ moved_later k (find_preposition (drop (k + 1) ts)))

pub none_left : (k : ℕ) (ts : List Text) → length ts ≤ k → moved k (find_preposition (drop k ts)) ≡ None
unfolding find_preposition
none_left k ts h = ap (λ r. moved k (find_preposition r)) (drop_all k ts h)
