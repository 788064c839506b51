-- A question that is found among those that were asked.
use Rattle.std.proofs.Common.{◌≡◌, ◌<◌, ℕ, zero, suc, List, [], ◌∷◌, map, length, Option, Some, None, IfSome, Contains, slice_index_or, arith, refl, sym, ap, subst}
use Rattle.spec_world.specs.World.{World}
use Rattle.spec_world.specs.Questions as meant
use Rattle.spec_world.specs.Questions.{ask, Agrees}
use Rattle.view.specs.Meanings.{question_of}
use Rattle.world.specs.Seen.{read_on, seen_of}
use Rattle.world.specs.declared.noted.Noted.{Noted}

-- what stands at a place is there
pub stands_at : {X : Type 0} (xs : List X) (i : ℕ) (x : X) → i < length xs → x ≡ slice_index_or xs i x → Contains xs x
stands_at xs i x under is = (i, under, sym is)

index_mapped : {X Y : Type 0} (f : X → Y) (xs : List X) (k : ℕ) (x : X) → k < length xs → slice_index_or xs k x ≡ x → slice_index_or (map f xs) k (f x) ≡ f x
index_mapped f [] k x under is = absurd (omega (arith, under))
index_mapped f (y ∷ ys) zero x under is = ap f is
index_mapped f (y ∷ ys) (suc k) x under is = index_mapped f ys k x (omega (arith, under)) is

length_mapped : {X Y : Type 0} (f : X → Y) (xs : List X) → length (map f xs) ≡ length xs
length_mapped f [] = refl
length_mapped f (x ∷ xs) = ap suc (length_mapped f xs)

-- what a note says is among what the notes say
pub read_among : (w : World) (ns : List Noted) (n : Noted) (q : meant.Question) → Contains ns n → q ≡ question_of n.question
    → Contains (map (read_on w) ns) record { question = q; answer = (read_on w n).answer }
read_among w ns n q among is =
    subst (λ p. Contains (map (read_on w) ns) record { question = p; answer = (read_on w n).answer }) (sym is)
    (among.0, subst (λ k. among.0 < k) (sym (length_mapped (read_on w) ns)) among.1, index_mapped (read_on w) ns among.0 n among.1 among.2)

given_at : (w : World) (rs : List meant.Read) (k : ℕ) (r : meant.Read) → Agrees w rs → k < length rs → slice_index_or rs k r ≡ r → ask w r.question ≡ r.answer
given_at w [] k r of_w under is = absurd (omega (arith, under))
given_at w (s ∷ rs) zero r of_w under is = subst (λ (p : meant.Read). ask w p.question ≡ p.answer) is of_w.0
given_at w (s ∷ rs) (suc k) r of_w under is = given_at w rs k r of_w.1 (omega (arith, under)) is

-- a world that agrees with reads gives each of their answers
pub given : (w : World) (rs : List meant.Read) (r : meant.Read) → Contains rs r → Agrees w rs → ask w r.question ≡ r.answer
given w rs r among of_w = given_at w rs among.0 r of_w among.1 among.2

-- with the world that was asked, what was asked is what was read
pub held : (own : Option World) (home : World) (ns : List Noted) → IfSome own (λ w. w ≡ home) → (own ≡ None → ns ≡ []) → seen_of own ns ≡ map (read_on home) ns
held None home ns is none = ap (map (read_on home)) (sym (none refl))
held (Some w) home ns is none = ap (λ v. map (read_on v) ns) is

pub held_by_one : (own : Option World) (w : World) → own ≡ Some w → IfSome own (λ v. v ≡ w)
held_by_one own w is = subst (λ o. IfSome o (λ v. v ≡ w)) (sym is) refl

pub held_by_some : {X : Type 0} (own : Option World) (w : World) (a b : X) → own ≡ Some w → own ≡ None → a ≡ b
held_by_some own w a b is none = cc
