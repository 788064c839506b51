-- The lines of some objects, piece by piece.
use Rattle.std.proofs.Common.{◌≡◌, ℕ, ℤ, true, List, [], ◌∷◌, ◌++◌, ◌<◌, length, refl, sym, ap, ◌∙◌, arith, append_assoc}
use Rattle.std.specs.Prelude.{◌==◌}
use Rattle.std.specs.List.{flat_map}
use Rattle.std.proofs.lemmas.List.Concat.{flat_map-cons}
use Rattle.std.proofs.lemmas.Bool.Decides.{Decides-eqb}
use Rattle.rayon.specs.Lists.{chunks_of}
use Rattle.rayon.proofs.ToStd.{chunks_of-concat}
use Rattle.spec_value.specs.Datum.{Text}
use Rattle.spec_value.specs.Table.{Numbered, at}
use Rattle.spec_world.specs.World.{World}
use Rattle.spec_world.specs.Checkpoint.{object_lines, with_line_ends}
use Rattle.checkpoint_text.specs.Each.{of_found, of_each}
use Rattle.checkpoint_text.specs.Parts.{objects_text}
use Rattle.checkpoint_text.proofs.Joined.{lines_behind}

module _ {X : Type 0} (f : ℤ → X → List Text) (m : Numbered X) where
  abbrev written : List ℤ → Text
  written ks = with_line_ends (of_each f m ks)

  each_behind : (ks js : List ℤ) → of_each f m (ks ++ js) ≡ of_each f m ks ++ of_each f m js
  each_behind [] js = refl
  each_behind (k ∷ ks) js =
      ap (λ ts. of_found f k (at m k) ++ ts) (each_behind ks js) ∙ sym (append_assoc (of_found f k (at m k)) (of_each f m ks) (of_each f m js))

  written_behind : (ks js : List ℤ) → written (ks ++ js) ≡ written ks ++ written js
  written_behind ks js = ap with_line_ends (each_behind ks js) ∙ lines_behind (of_each f m ks) (of_each f m js)

  written_each : (kss : List (List ℤ)) → flat_map written kss ≡ written (flat_map (λ ks. ks) kss)
  written_each [] = refl
  written_each (ks ∷ kss) =
      flat_map-cons written ks kss ∙ ap (λ t. written ks ++ t) (written_each kss) ∙ sym (written_behind ks (flat_map (λ js. js) kss))
      ∙ ap written (sym (flat_map-cons (λ js. js) ks kss))

  in_pieces : (size : ℕ) (ks : List ℤ) → 0 < size → flat_map written (chunks_of size ks) ≡ written ks
  in_pieces size ks some = written_each (chunks_of size ks) ∙ ap written (chunks_of-concat size ks some)

pub objects_in_pieces : (w : World) (size : ℕ) (ks : List ℤ) → 0 < size → flat_map (objects_text w) (chunks_of size ks) ≡ objects_text w ks
unfolding objects_text
objects_in_pieces w size ks some = in_pieces (object_lines w) w.objects size ks some

pub objects_behind : (w : World) (ks js : List ℤ) → objects_text w (ks ++ js) ≡ objects_text w ks ++ objects_text w js
unfolding objects_text
objects_behind w ks js = written_behind (object_lines w) w.objects ks js

pub no_objects : (w : World) → objects_text w [] ≡ []
unfolding objects_text
no_objects w = refl

pub none_left : (ks : List ℤ) → true ≡ (length ks == 0) → ks ≡ []
none_left [] e = refl
none_left (k ∷ ks) e = let zero = (Decides-eqb (length (k ∷ ks)) 0).0 (sym e) in absurd (omega (arith, zero))
