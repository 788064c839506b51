-- A task comes, is another one, or goes.
use Rattle.std.proofs.Common.{◌≡◌, ℕ, ◌<◌, ℤ, List, [], Option, Some, None, IsTrue, refl, sym, ◌∙◌, ap, subst}
use Rattle.std.specs.Option.{option_and_then}
use Rattle.std.specs.Ordering.{nat_cmp}
use Rattle.std.specs.Cmp.{nat_cmp_total}
use Rattle.std.specs.FinMap.{is_sorted, nat_cmp-IsAntisymmetric}
use Rattle.spec_world.specs.World.{Task}
use Rattle.spec_world.specs.Questions.{put_task}
use Rattle.moo_task.specs.Waits.{read_on}
use Rattle.world.specs.Due.{by_moment}
use Rattle.world.specs.Numbered.{signed_key, signed}
use Rattle.world.specs.Picked.{changed}
use Rattle.world.specs.Tasks.{AreTasks}
use Rattle.world.proofs.Maps.{with_signed, without_signed}
use Rattle.world.proofs.Picked.{all_changed, picked_put, picked_removed}

-- what the table then is
pub task_put : (es new : List (ℕ × Task)) (i : ℤ) (k : ℕ) (t : Option Task) → signed_key k ≡ i → new ≡ changed nat_cmp k t es → signed new ≡ put_task (signed es) i t
task_put es new i k None is e = ap signed e ∙ sym (without_signed es i k is)
task_put es new i k (Some t) is e = ap signed e ∙ sym (with_signed es i k t is)

-- its readers are those that read
one_kept : (es : List (ℕ × Task)) (rs : List (ℕ × ℤ)) (ds : List (ℕ × ℕ)) (k : ℕ) (t : Option Task) → k < 4294967296 → IsTrue (is_sorted nat_cmp es) → AreTasks es rs ds
    → AreTasks (changed nat_cmp k t es) (changed nat_cmp k (option_and_then (λ t. read_on t.waiting) t) rs) (by_moment (changed nat_cmp k t es))
one_kept es rs ds k None within sorted h =
    record {
      ids = all_changed nat_cmp_total nat_cmp-IsAntisymmetric (λ e. e.0 < 4294967296) k None es tt h.ids;
      readers = ap (changed nat_cmp k None) h.readers ∙ sym (picked_removed nat_cmp_total nat_cmp-IsAntisymmetric (λ t. read_on t.waiting) k es);
      moments = refl;
    }
one_kept es rs ds k (Some t) within sorted h =
    record {
      ids = all_changed nat_cmp_total nat_cmp-IsAntisymmetric (λ e. e.0 < 4294967296) k (Some t) es within h.ids;
      readers = ap (changed nat_cmp k (read_on t.waiting)) h.readers ∙ sym (picked_put nat_cmp_total nat_cmp-IsAntisymmetric (λ t. read_on t.waiting) k t es sorted);
      moments = refl;
    }

pub tasks_kept : (es new : List (ℕ × Task)) (rs later : List (ℕ × ℤ)) (ds after : List (ℕ × ℕ)) (k : ℕ) (t : Option Task) → k < 4294967296 → IsTrue (is_sorted nat_cmp es) → AreTasks es rs ds
    → new ≡ changed nat_cmp k t es → later ≡ changed nat_cmp k (option_and_then (λ t. read_on t.waiting) t) rs → after ≡ by_moment (changed nat_cmp k t es) → AreTasks new later after
tasks_kept es new rs later ds after k t within sorted h new_is later_is after_is =
    let kept = one_kept es rs ds k t within sorted h in
    subst (λ (x : List (ℕ × Task) × List (ℕ × ℤ) × List (ℕ × ℕ)). AreTasks x.0 x.1 x.2) (λ i. (sym new_is i, sym later_is i, sym after_is i)) kept

pub no_tasks : AreTasks [] [] []
no_tasks = record { ids = tt; readers = refl; moments = refl }
