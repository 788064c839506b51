-- A table of which one record was changed.
use Rattle.std.specs.Prelude.{◌≡◌, ℕ, List, Some}
use Rattle.std.specs.Ordering.{nat_cmp}
use Rattle.std.specs.FinMap.{find, put}

pub record Revises {V : Type 0} (Makes : V → V → Type 0) (key : ℕ) (old new : List (ℕ × V)) : Type 0 where
  pub before : V
  pub after : V
  pub found : find nat_cmp key old ≡ Some before
  pub made : Makes before after
  pub entries : new ≡ put nat_cmp key after old
