-- Steps (Programmer's Manual, "Server Commands and Database Assumptions" and "Tasks"), and the ranges of their fields.
use Rattle.std.specs.Prelude.{ℕ, suc, ℤ, nat_le, nat_lt, List, [], ◌∷◌, length, Bool, true, ◌&&◌, ◌==◌, IsTrue}
use Rattle.std.specs.List.{list_all}
use Rattle.spec_value.specs.Datum.{Text, is_text, in_number_range}
use Rattle.spec_world.specs.World.{World}
use Rattle.spec_world.specs.WellFormed.{is_connection, is_moment}

-- a connection opens, ends or sends a line; a task is due
pub data Event : Type 0 where
  open_link close_link : ℤ → Event
  line_of : ℤ → Text → Event
  ready_task : ℤ → Event

-- the key is that of the step's random words
pub record Step : Type 0 where
  pub number : ℕ
  pub moment : ℕ
  pub key : List ℕ
  pub event : Event

abbrev pub event_in_range : Event → Bool
event_in_range (open_link c) = is_connection c
event_in_range (close_link c) = is_connection c
event_in_range (line_of c t) = is_connection c && (nat_le (length t) 4096 && is_text t)
event_in_range (ready_task i) = in_number_range i

-- each field of a step is in its range
abbrev pub in_range : Step → Bool
in_range s =
    nat_le 1 s.number && nat_le s.number 33554431 && is_moment s.moment
    && (length s.key == 32) && list_all (λ b. nat_lt b 256) s.key && event_in_range s.event

abbrev pub runs_on : ℕ → List Step → Bool
runs_on n [] = true
runs_on n (s ∷ ss) = (s.number == n) && runs_on (suc n) ss

-- the steps' numbers run on, without a gap, from the world's next one
abbrev pub RunsOn : World → List Step → Type 0
RunsOn w ss = IsTrue (runs_on w.next ss)

abbrev pub AllInRange : List Step → Type 0
AllInRange ss = IsTrue (list_all in_range ss)
