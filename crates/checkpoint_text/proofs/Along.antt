-- The slots of an object along its ancestors.
use Rattle.std.proofs.Common.{◌≡◌, ℕ, zero, suc, ℤ, Some, None, List, [], ◌∷◌, ◌++◌, length, refl, sym, ap, ◌∙◌, append_assoc}
use Rattle.std.specs.Prelude.{codes}
use Rattle.std.proofs.lemmas.List.{append-nil}
use Rattle.spec_value.specs.Datum.{Text}
use Rattle.spec_world.specs.World.{World, Object, object_at}
use Rattle.spec_world.specs.Inherit.{line, line_onto, line_bound, ancestors, slot_of}
use Rattle.spec_world.specs.Checkpoint.{counted, slot_line, slots_named, names_defined, slots_along, slot_lines, with_line_ends}
use Rattle.checkpoint_text.proofs.Joined.{lines_more}
use Rattle.checkpoint_text.specs.CheckpointObjectsLines.{slots_of}

module _ (w : World) (o : ℤ) where
  pub no_slots_along : (n : ℕ) (p : ℤ) → object_at w p ≡ None → slots_along w o (line n w p) ≡ []
  unfolding line
  no_slots_along zero p none = refl
  no_slots_along (suc n) p none = ap (λ m. slots_along w o (line_onto (line n w) p m)) none

  module _ (x : Object) (there : object_at w o ≡ Some x) where
    own_slots : (ts : List Text) → slots_named w o ts ≡ slots_of x ts
    own_slots [] = refl
    own_slots (t ∷ ts) = λ i. slot_line (slot_of (there i) t) ++ own_slots ts i

    pub more_slots_along : (n : ℕ) (p : ℤ) (y : Object) → object_at w p ≡ Some y → slots_along w o (line (suc n) w p) ≡ slots_of x y.defines ++ slots_along w o (line n w y.header.parent)
    unfolding line
    more_slots_along n p y is =
        ap (λ m. slots_along w o (line_onto (line n w) p m)) is
        ∙ ap (λ m. slots_named w o (names_defined m) ++ slots_along w o (line n w y.header.parent)) is
        ∙ ap (λ ts. ts ++ slots_along w o (line n w y.header.parent)) (own_slots y.defines)

    -- one ancestor more
    pub more_found : (found new : List Text) (n m : ℕ) (p q : ℤ) (y : Object) (whole : List Text) → n ≡ suc m → object_at w p ≡ Some y → q ≡ y.header.parent
        → new ≡ found ++ slots_of x y.defines → found ++ slots_along w o (line n w p) ≡ whole → new ++ slots_along w o (line m w q) ≡ whole
    more_found found new n m p q y whole next is up adds so_far =
        (λ i. adds i ++ slots_along w o (line m w (up i))) ∙ append_assoc found (slots_of x y.defines) (slots_along w o (line m w y.header.parent))
        ∙ ap (λ ts. found ++ ts) (sym (more_slots_along m p y is)) ∙ ap (λ k. found ++ slots_along w o (line k w p)) (sym next) ∙ so_far

  -- what is no object has no ancestors
  pub all_found : (found : List Text) (n : ℕ) (p : ℤ) (whole : List Text) → object_at w p ≡ None → found ++ slots_along w o (line n w p) ≡ whole → found ≡ whole
  all_found found n p whole none so_far = sym (append-nil found) ∙ ap (λ ts. found ++ ts) (sym (no_slots_along n p none)) ∙ so_far

  pub no_more : (found : List Text) (n : ℕ) (p : ℤ) (whole : List Text) → n ≡ 0 → found ++ slots_along w o (line n w p) ≡ whole → found ≡ whole
  unfolding line
  no_more found n p whole last so_far = sym (append-nil found) ∙ ap (λ k. found ++ slots_along w o (line k w p)) (sym last) ∙ so_far

  pub first_found : (n : ℕ) → n ≡ line_bound w → slots_along w o (line n w o) ≡ slots_along w o (ancestors w o)
  unfolding ancestors
  first_found n is = ap (λ k. slots_along w o (line k w o)) is

  -- the count, and each of them
  pub slots_written : (old counts new : Text) (n : ℕ) (found : List Text) → n ≡ length found → found ≡ slots_along w o (ancestors w o)
      → counts ≡ old ++ with_line_ends (counted (codes "slots") n ∷ []) → new ≡ counts ++ with_line_ends found → new ≡ old ++ with_line_ends (slot_lines w o)
  slots_written old counts new n found count all e f =
      lines_more old counts new (counted (codes "slots") n ∷ []) found e f
      ∙ ap (λ k. old ++ with_line_ends (counted (codes "slots") k ∷ found)) count
      ∙ ap (λ ts. old ++ with_line_ends (counted (codes "slots") (length ts) ∷ ts)) all
