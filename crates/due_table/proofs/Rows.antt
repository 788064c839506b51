-- Worked rows.
use Rattle.std.specs.Prelude.{◌≡◌, [], ◌∷◌, Some, None, refl}
use Rattle.due_table.specs.Pairs.{with_pair, without_pair, first_pair_from}

pub later_key_behind : with_pair (5, 8) ((3, 9) ∷ (5, 2) ∷ (7, 1) ∷ []) ≡ (3, 9) ∷ (5, 2) ∷ (5, 8) ∷ (7, 1) ∷ []
later_key_behind = refl

pub once_each : with_pair (5, 2) ((3, 9) ∷ (5, 2) ∷ []) ≡ (3, 9) ∷ (5, 2) ∷ []
once_each = refl

pub one_goes : without_pair (5, 2) ((3, 2) ∷ (5, 2) ∷ (5, 8) ∷ []) ≡ (3, 2) ∷ (5, 8) ∷ []
one_goes = refl

pub from_its_own_moment : first_pair_from (5, 3) ((3, 9) ∷ (5, 2) ∷ (5, 8) ∷ (7, 1) ∷ []) ≡ Some (5, 8)
from_its_own_moment = refl

pub from_a_later_moment : first_pair_from (5, 9) ((3, 9) ∷ (5, 2) ∷ (5, 8) ∷ (7, 1) ∷ []) ≡ Some (7, 1)
from_a_later_moment = refl

pub nothing_behind : first_pair_from (7, 2) ((3, 9) ∷ (7, 1) ∷ []) ≡ None
nothing_behind = refl
