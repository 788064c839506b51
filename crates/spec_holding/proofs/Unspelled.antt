-- That world is well formed, and the one after its step is not.
use Rattle.std.proofs.Common.{◌≡◌, ℤ, pos, Bool, true, false, [], ◌∷◌, Some, None, IsTrue, refl, sym, subst, cond, codes}
use Rattle.std.specs.Ordering.{int_eq}
use Rattle.spec_value.specs.Datum.{integer}
use Rattle.spec_value.specs.Table.{at}
use Rattle.spec_value.proofs.Same.{same_integer}
use Rattle.spec_program.specs.Tree.{the_end}
use Rattle.spec_world.specs.World.{frame_entry, Task, forked}
use Rattle.spec_world.specs.WellFormed.{once, links_read, id_fits, entries_fit, wait_fits, TaskStands, IsWellFormed}
use Rattle.spec_moo.specs.Opened.{opened}
use Rattle.spec_moo.specs.Steps.{play}
use Rattle.spec_holding.specs.Unspelled.{nobodys_call, nothing_typed, queued_task, unspelled, its_step, NeedsSpelling}
use Rattle.spec_holding.proofs.HeldValues.{same_some}

one_task : (P : ℤ → Task → Type 0) → P (pos 1) queued_task → (i : ℤ) (t : Task) → at unspelled.tasks i ≡ Some t → P i t
one_task P h i t e = go (int_eq i (pos 1)) refl e
  where
    go : (b : Bool) → int_eq i (pos 1) ≡ b → cond b (Some queued_task) None ≡ Some t → P i t
    go true k l = subst (λ u. P i u) (same_some _ t l) (subst (λ j. P j queued_task) (sym (same_integer i (pos 1) k)) h)
    go false k l = cc

is_well_formed : IsWellFormed unspelled
unfolding once links_read
is_well_formed =
    record {
      objects_in_order = refl;
      tasks_in_order = refl;
      links_in_order = refl;
      greatest_in_range = refl;
      next_in_range = refl;
      numbers = λ o x e. cc;
      parents_end = λ o x e. cc;
      locations_end = λ o x e. cc;
      children = λ o x e. cc;
      parents = λ o x e. cc;
      contents = λ o x e. cc;
      locations = λ o x e. cc;
      names_on_a_line = λ o x e. cc;
      slot_order = λ o x e. cc;
      slots = λ o x e. cc;
      definers = λ o x e. cc;
      links = λ c k e. cc;
      persons = refl;
      task_ids = one_task (λ i t. IsTrue (id_fits unspelled i t)) refl;
      task_entries = one_task (λ i t. IsTrue (entries_fit unspelled i t)) refl;
      task_waits = one_task (λ i t. IsTrue (wait_fits unspelled i t)) refl;
      task_places = one_task (λ i t. TaskStands t t.waiting) tt;
      readers = refl;
    }

-- its `fork` gives the variable the id of the new task
after_task : Task
after_task =
    record {
      player = pos 0;
      waiting = forked 0;
      entries =
          frame_entry (record { call = nobodys_call; start = nothing_typed; program = the_end; variables = (codes "X", integer (pos 65)) ∷ []; pieces = [] }) ∷ [];
    }

is_there : at (play unspelled (its_step ∷ [])).0.tasks (pos 65) ≡ Some after_task
unfolding opened after_task
is_there = refl

pub needs_spelling : NeedsSpelling
unfolding after_task
needs_spelling stays =
    let h : IsTrue (entries_fit (play unspelled (its_step ∷ [])).0 (pos 65) after_task) = (stays unspelled (its_step ∷ []) is_well_formed refl).task_entries (pos 65) after_task is_there in cc
