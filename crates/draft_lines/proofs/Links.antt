-- Links of a well-formed world are connections.
use Rattle.std.proofs.Common.{◌≡◌, ℕ, zero, suc, Bool, List, [], ◌∷◌, Some, IsTrue, refl, slice_get}
use Rattle.std.specs.Prelude.{◌||◌, pos, neg_ℤ, ◌-ℤ◌}
use Rattle.std.specs.Ordering.{int_eq}
use Rattle.std.specs.List.{list_all}
use Rattle.spec_value.proofs.Entries.{first_holds, both_hold}
use Rattle.spec_world.specs.World.{World}
use Rattle.spec_world.specs.WellFormed.{IsWellFormed, is_connection, on_object}
use Rattle.spec_checkpoint.specs.Records.{link_holds}
use Rattle.named_objects.proofs.Tables.{found_at}
use Rattle.object_lines.specs.Readable.{is_link_read}
use Rattle.object_lines.proofs.Lists.{holds_at}

by_places : {A : Type 0} (p : A → Bool) (xs : List A) → ((i : ℕ) (x : A) → slice_get xs i ≡ Some x → IsTrue (p x)) → IsTrue (list_all p xs)
by_places p [] h = refl
by_places p (x ∷ xs) h = both_hold (p x) (list_all p xs) (h zero x refl) (by_places p xs (λ i y e. h (suc i) y e))

pub links_read : (w : World) → IsWellFormed w → IsTrue (list_all link_holds w.links) → IsTrue (list_all is_link_read w.links)
links_read w f h =
    by_places is_link_read w.links (λ i e at.
    both_hold (is_connection e.0) (link_holds e)
    (first_holds (is_connection e.0) (int_eq (e.1).person (neg_ℤ (pos 3) -ℤ e.0) || on_object w (e.1).person (λ x. x.header.is_player))
    (f.links e.0 e.1 (found_at w.links i e.0 e.1 f.links_in_order at)))
    (holds_at link_holds w.links i e at h))
