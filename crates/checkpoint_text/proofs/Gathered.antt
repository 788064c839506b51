-- What threads made, in order.
use Rattle.std.proofs.Common.{◌≡◌, ◌∷◌, [], ◌++◌, List, ℕ, Result, Ok, Err, map, refl, ap, subst, sym, ◌∙◌}
use Rattle.std.specs.Prelude.{IfOk, MatchResult}
use Rattle.std.specs.List.{AllZip, Contains, flat_map}
use Rattle.std.proofs.lemmas.List.Concat.{flat_map-cons}

together : {X Y V : Type 0} (text : Y → List ℕ) (view : X → Y) (items : V → List ℕ) (x : X) (xs : List X) (v : V) (vs : List V)
    → items v ≡ text (view x) → flat_map items vs ≡ flat_map text (map view xs) → flat_map items (v ∷ vs) ≡ flat_map text (map view (x ∷ xs))
together text view items x xs v vs e f =
    flat_map-cons items v vs ∙ ap (λ (t : List ℕ). t ++ flat_map items vs) e ∙ ap (λ (l : List ℕ). text (view x) ++ l) f ∙ sym (flat_map-cons text (view x) (map view xs))

module _ {X Y V : Type 0} (E : Type 0) (text : Y → List ℕ) (view : X → Y) (items : V → List ℕ) (Made : X → Result V E → Type 0) (reads : (x : X) (v : V) → Made x (Ok v) → items v ≡ text (view x)) where
  gathered : (xs : List X) (vs : List V) → AllZip Made xs (map Ok vs) → flat_map items vs ≡ flat_map text (map view xs)
  gathered [] [] h = refl
  gathered [] (v ∷ vs) h = absurd h
  gathered (x ∷ xs) [] h = absurd h
  gathered (x ∷ xs) (v ∷ vs) h = together text view items x xs v vs (reads x v h.0) (gathered xs vs h.1)

  -- all that was made, one behind the other, is the text of all of it
  pub all_gathered : {C : Type 0} (r : Result C E) (get : C → List V) (xs : List X) (ys : List (Result V E)) → AllZip Made xs ys
      → MatchResult r (λ c. (vs : List V) × (ys ≡ map Ok vs) × (get c ≡ vs)) (λ e. Contains ys (Err e))
      → (whole : List ℕ) → flat_map text (map view xs) ≡ whole → IfOk r (λ c. flat_map items (get c) ≡ whole)
  all_gathered (Ok c) get xs ys z m whole e = rw m.2 (gathered xs m.0 (subst (λ (l : List (Result V E)). AllZip Made xs l) m.1 z) ∙ e)
  all_gathered (Err e) get xs ys z m whole f = tt
