-- Worked rows, true by computation: which tasks are due, and in what order.
use Rattle.std.proofs.Common.{◌≡◌, pos, negsuc, [], ◌∷◌, Some, None, refl}
use Rattle.spec_value.specs.Datum.{integer}
use Rattle.spec_value.specs.Table.{Numbered}
use Rattle.spec_world.specs.World.{Task, Waiting, forked, timed, idle, reading_on}
use Rattle.world.specs.Due.{by_moment, due_ids, first_due_from}

abbrev of_waiting : Waiting → Task
of_waiting why = record { player = pos 2; waiting = why; entries = [] }

-- two wait for the moment 7, one for 5, and two for none
abbrev five_tasks : Numbered Task
five_tasks =
    (negsuc 3, of_waiting (forked 7)) ∷ (pos 65, of_waiting idle) ∷ (pos 66, of_waiting (timed 7 (integer (pos 1)))) ∷ (pos 129, of_waiting (forked 5))
    ∷ (pos 130, of_waiting (reading_on (pos 1))) ∷ []

pub earliest_first : by_moment five_tasks ≡ (5, pos 129) ∷ (7, negsuc 3) ∷ (7, pos 66) ∷ []
earliest_first = refl

pub none_yet : due_ids 4 five_tasks ≡ []
none_yet = refl

pub at_its_moment : due_ids 5 five_tasks ≡ pos 129 ∷ []
at_its_moment = refl

pub all_past : due_ids 8 five_tasks ≡ pos 129 ∷ negsuc 3 ∷ pos 66 ∷ []
all_past = refl

pub first_of_all : first_due_from 0 (pos 0) (by_moment five_tasks) ≡ Some (5, pos 129)
first_of_all = refl

pub next_at_a_moment : first_due_from 7 (negsuc 2) (by_moment five_tasks) ≡ Some (7, pos 66)
next_at_a_moment = refl

pub none_after : first_due_from 7 (pos 67) (by_moment five_tasks) ≡ None
none_after = refl
