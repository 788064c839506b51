-- What positions hold.
use Rattle.std.proofs.Common.{◌∙◌, get_or, inl, inr, ◌≡◌, ℕ, zero, suc, ◌<◌, ◌≤◌, List, [], ◌∷◌, length, drop, replicate, Some, None, slice_get, slice_set, refl, ap, subst, arith}
use Rattle.std.specs.List.{All}
use Rattle.std.proofs.lemmas.Option.{slice_get_cases, slice_get_within}
use Rattle.spec_world.specs.Step.{Step}
use Rattle.speculate.specs.declared.held.Held.{Held}
use Rattle.speculate.specs.declared.held.Held.TheVariants.{Empty, Loss, Holds}
use Rattle.speculate.specs.BoardState.{FitsStep, EachFits}
use Rattle.speculate.specs.Progress.{ready, AllHeld}

pub fits_at : (ss : List Step) (hs : List Held) (k : ℕ) (s : Step) (h : Held) → EachFits ss hs → slice_get ss k ≡ Some s → slice_get hs k ≡ Some h → FitsStep s h
fits_at [] hs k s h fits a b = cc
fits_at (x ∷ ss) [] k s h fits a b = absurd fits
fits_at (x ∷ ss) (y ∷ hs) zero s h fits a b =
    let e : x ≡ s = cc in
    let f : y ≡ h = cc in
    let P : Step → Type 0 = λ z. FitsStep z h in
    let Q : Held → Type 0 = λ z. FitsStep x z in subst P e (subst Q f fits.0)
fits_at (x ∷ ss) (y ∷ hs) (suc k) s h fits a b = fits_at ss hs k s h fits.1 a b

-- past the steps no position holds nothing, since there is none
pub past_end_not_free : (ss : List Step) (hs : List Held) (k : ℕ) → EachFits ss hs → length ss ≤ k → slice_get hs k ≡ Some Empty → ⊥
past_end_not_free [] [] k fits le free = cc
past_end_not_free [] (y ∷ hs) k fits le free = absurd fits
past_end_not_free (x ∷ ss) [] k fits le free = absurd fits
past_end_not_free (x ∷ ss) (y ∷ hs) zero fits le free = absurd (omega arith)
past_end_not_free (x ∷ ss) (y ∷ hs) (suc k) fits le free = past_end_not_free ss hs k fits.1 (omega arith) free

pub fits_set : (ss : List Step) (hs : List Held) (k : ℕ) (s : Step) (h : Held) → EachFits ss hs → slice_get ss k ≡ Some s → FitsStep s h → EachFits ss (slice_set hs k h)
fits_set [] hs k s h fits a new = cc
fits_set (x ∷ ss) [] k s h fits a new = absurd fits
fits_set (x ∷ ss) (y ∷ hs) zero s h fits a new =
    let e : s ≡ x = cc in
    let P : Step → Type 0 = λ z. FitsStep z h in (subst P e new, fits.1)
fits_set (x ∷ ss) (y ∷ hs) (suc k) s h fits a new = (fits.0, fits_set ss hs k s h fits.1 a new)

-- what fits any step
pub fits_any : (ss : List Step) (hs : List Held) (k : ℕ) (h : Held) → ((s : Step) → FitsStep s h) → EachFits ss hs → EachFits ss (slice_set hs k h)
fits_any [] [] k h any fits = tt
fits_any [] (y ∷ hs) k h any fits = absurd fits
fits_any (x ∷ ss) [] k h any fits = absurd fits
fits_any (x ∷ ss) (y ∷ hs) zero h any fits = (any x, fits.1)
fits_any (x ∷ ss) (y ∷ hs) (suc k) h any fits = (fits.0, fits_any ss hs k h any fits.1)

pub fits_empty : (ss : List Step) → EachFits ss (replicate (length ss) Empty)
fits_empty [] = tt
fits_empty (s ∷ ss) = (tt, fits_empty ss)

pub fits_length : (ss : List Step) (hs : List Held) → EachFits ss hs → length hs ≡ length ss
fits_length [] [] fits = refl
fits_length [] (y ∷ hs) fits = absurd fits
fits_length (x ∷ ss) [] fits = absurd fits
fits_length (x ∷ ss) (y ∷ hs) fits = ap suc (fits_length ss hs fits.1)

-- ---- how many places hold something

pub ready_past_end : (hs : List Held) (k : ℕ) → slice_get hs k ≡ None → ready (drop k hs) ≡ 0
ready_past_end [] zero past = refl
ready_past_end [] (suc k) past = refl
ready_past_end (y ∷ hs) zero past = cc
ready_past_end (y ∷ hs) (suc k) past = ready_past_end hs k past

pub ready_empty : (hs : List Held) (k : ℕ) → slice_get hs k ≡ Some Empty → ready (drop k hs) ≡ 0
ready_empty [] k is = cc
ready_empty (y ∷ hs) zero is =
    let e : y ≡ Empty = cc in rw e refl
ready_empty (y ∷ hs) (suc k) is = ready_empty hs k is

pub ready_more : (hs : List Held) (k : ℕ) (h e : Held) → slice_get hs k ≡ Some h → (h ≡ Empty → ⊥) → ready (drop k hs) ≡ suc (ready (drop (suc k) (slice_set hs k e)))
ready_more [] k h e is some = cc
ready_more (Empty ∷ hs) zero h e is some = absurd (some cc)
ready_more (Loss ∷ hs) zero h e is some = refl
ready_more (Holds g seen ∷ hs) zero h e is some = refl
ready_more (y ∷ hs) (suc k) h e is some = ready_more hs k h e is some

pub ready_all : (hs : List Held) → AllHeld hs → ready hs ≡ length hs
ready_all [] all = refl
ready_all (Empty ∷ hs) all = absurd (all.0 refl)
ready_all (Loss ∷ hs) all = ap suc (ready_all hs all.1)
ready_all (Holds g seen ∷ hs) all = ap suc (ready_all hs all.1)

pub held_all : (hs : List Held) (k : ℕ) → ((i : ℕ) → k ≤ i → i < length hs → slice_get hs i ≡ Some Empty → ⊥) → AllHeld (drop k hs)
held_all [] zero full = tt
held_all [] (suc k) full = tt
held_all (h ∷ hs) zero full = ((λ e. full 0 (omega arith) (omega arith) (ap Some e)), held_all hs zero (λ i a b e. full (suc i) (omega arith) (omega arith) e))
held_all (h ∷ hs) (suc k) full = held_all hs k (λ i a b e. full (suc i) (omega arith) (omega arith) e)

-- ---- one place

pub set_not_empty : (hs : List Held) (k : ℕ) → slice_get (slice_set hs k Loss) k ≡ Some Empty → ⊥
set_not_empty [] k is = cc
set_not_empty (h ∷ hs) zero is = cc
set_not_empty (h ∷ hs) (suc k) is = set_not_empty hs k is

-- what holds of each place holds of what one holds
pub held_at : (P : Held → Type 0) (hs : List Held) (k : ℕ) (h : Held) → All P hs → slice_get hs k ≡ Some h → P h
held_at P hs k h all is = elim (slice_get_cases hs k).1 [ inl a ↦ there a.0 a.1 a.2 a.3 | inr a ↦ absurd (omega (arith, a.0, slice_get_within hs k h is)) ]
  where
    there : (x : Held) → k < length hs → slice_get hs k ≡ Some x → get_or hs k x ≡ x → P h
    there x within is_x at_x =
        let e : x ≡ h = cc in subst P (at_x ∙ e) (all k x within)

pub set_back : (hs : List Held) (k : ℕ) (h e : Held) → slice_get hs k ≡ Some h → slice_set (slice_set hs k e) k h ≡ hs
set_back [] k h e is = cc
set_back (y ∷ hs) zero h e is =
    let f : h ≡ y = cc in rw f refl
set_back (y ∷ hs) (suc k) h e is = ap (λ (t : List Held). y ∷ t) (set_back hs k h e is)

pub length_set : (hs : List Held) (k : ℕ) (h : Held) → length (slice_set hs k h) ≡ length hs
length_set [] k h = refl
length_set (y ∷ hs) zero h = refl
length_set (y ∷ hs) (suc k) h = ap suc (length_set hs k h)

-- what was taken out is put back
pub restored : (hs hs' hs'' : List Held) (k : ℕ) (h h' : Held) → hs' ≡ slice_set hs k Empty → hs'' ≡ slice_set hs' k h' → h' ≡ h → slice_get hs k ≡ Some h → hs'' ≡ hs
restored hs hs' hs'' k h h' out back same is = rw (back, out, same) (set_back hs k h Empty is)
