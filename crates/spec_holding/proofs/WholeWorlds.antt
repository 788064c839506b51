-- A well-formed world whose programs texts spell stays one.
use Rattle.std.proofs.Common.{◌≡◌, ◌∙◌, ◌⊎◌, inl, inr, ℤ, ◌&&◌, false, List, [], ◌∷◌, Some, None, IsTrue, refl, sym, ap, cond}
use Rattle.std.specs.Ordering.{int_eq}
use Rattle.std.specs.List.{list_all}
use Rattle.spec_value.specs.Table.{at, is_named, is_numbered}
use Rattle.spec_value.proofs.Entries.{first_holds, second_holds, both_hold}
use Rattle.spec_value.proofs.Same.{integer_itself}
use Rattle.spec_program.specs.Trees.{program_fits}
use Rattle.spec_world.specs.World.{World, Object, Entry, frame_entry, native_entry, Task}
use Rattle.spec_world.specs.WellFormed.{is_variable, pieces_fit, frame_fits, IsWellFormed}
use Rattle.spec_world.specs.Agreeing.{frame_holds}
use Rattle.spec_world.proofs.Trees.{same_or_not}
use Rattle.spec_world.proofs.Recycling.{below_none}
use Rattle.spec_world.proofs.WorldsKept.{agrees_is_well_formed, well_formed_agrees}
use Rattle.spec_moo.specs.Steps.{play1, play}
use Rattle.spec_moo.proofs.StepWorlds.{steps_keep, lists_keep}
use Rattle.spec_holding.specs.UnderWay.{are_programmed, EntriesFit, TasksHold, WorldHolds}
use Rattle.spec_holding.specs.Whole.{entry_spelled, TextsSpell, StaysWholeOnce, StaysWhole}
use Rattle.spec_holding.proofs.WorldsHold.{object_programmed}
use Rattle.spec_holding.proofs.ChangesHold.{entries_there}
use Rattle.spec_holding.proofs.StepsHold.{steps_hold, lists_hold, frames_are_whole}

-- ---- what is found in a table, and its entries

later_found : {X : Type 0} (e : ℤ × X) (es : List (ℤ × X)) → IsTrue (is_numbered (e ∷ es)) → (q : ℤ) (x : X) → at es q ≡ Some x → at (e ∷ es) q ≡ Some x
later_found {X} e es h q x k = go (same_or_not q e.0)
  where
    go : (q ≡ e.0) ⊎ (int_eq q e.0 ≡ false) → cond (int_eq q e.0) (Some e.1) (at es q) ≡ Some x
    go (inl s) = let clash : None ≡ Some x = sym (below_none e.0 es (first_holds _ _ h)) ∙ ap (at es) (sym s) ∙ k in absurd (cc (clash))
    go (inr s) = ap (λ b. cond b (Some e.1) (at es q)) s ∙ k

first_found : {X : Type 0} (e : ℤ × X) (es : List (ℤ × X)) → at (e ∷ es) e.0 ≡ Some e.1
first_found e es = ap (λ b. cond b (Some e.1) (at es e.0)) (integer_itself e.0)

each_object : (es : List (ℤ × Object)) → IsTrue (is_numbered es) → ((o : ℤ) (x : Object) → at es o ≡ Some x → IsTrue (are_programmed x))
    → IsTrue (list_all (λ e. are_programmed e.1) es)
each_object [] h each = refl
each_object (e ∷ es) h each =
    both_hold (are_programmed e.1) _ (each e.0 e.1 (first_found e es)) (each_object es (second_holds _ _ h) (λ o x k. each o x (later_found e es h o x k)))

each_task : (es : List (ℤ × Task)) → IsTrue (is_numbered es) → ((i : ℤ) (t : Task) → at es i ≡ Some t → EntriesFit t.entries) → TasksHold es
each_task [] h each = tt
each_task (e ∷ es) h each = (each e.0 e.1 (first_found e es), each_task es (second_holds _ _ h) (λ i t k. each i t (later_found e es h i t k)))

-- ---- entries

entries_hold : (es : List Entry) → IsTrue (list_all frame_holds es) → IsTrue (list_all entry_spelled es) → EntriesFit es
entries_hold [] h k = tt
entries_hold (frame_entry f ∷ es) h k =
    let fits : IsTrue (frame_fits f) = first_holds (frame_fits f) _ h in
    let variables : IsTrue (is_named f.variables && list_all (λ e. is_variable e.0) f.variables) = first_holds (is_named f.variables && list_all (λ e. is_variable e.0) f.variables) (pieces_fit f.pieces) fits in (
      (
        (first_holds (is_named f.variables) _ variables, second_holds (is_named f.variables) _ variables),
        (second_holds (is_named f.variables && list_all (λ e. is_variable e.0) f.variables) (pieces_fit f.pieces) fits, first_holds (program_fits [] f.program) _ k),
      ),
      entries_hold es (second_holds (frame_fits f) _ h) (second_holds (program_fits [] f.program) _ k),
    )
entries_hold (native_entry n ∷ es) h k = (tt, entries_hold es h k)

entries_spelled : (es : List Entry) → EntriesFit es → IsTrue (list_all entry_spelled es)
entries_spelled [] h = refl
entries_spelled (frame_entry f ∷ es) h = both_hold (program_fits [] f.program) _ ((h.0).1).1 (entries_spelled es h.1)
entries_spelled (native_entry n ∷ es) h = entries_spelled es h.1

-- ---- worlds

holds_whole : (w : World) → IsWellFormed w → TextsSpell w → WorldHolds w
holds_whole w h k = (
  each_object w.objects h.objects_in_order k.0,
  each_task w.tasks h.tasks_in_order (λ i t e. entries_hold t.entries ((well_formed_agrees w h).1 i t e) (k.1 i t e)),
)

spelled : (w : World) → WorldHolds w → TextsSpell w
spelled w h = ((λ o x e. object_programmed w o x h e), (λ i t e. entries_spelled t.entries (entries_there w.tasks i t h.1 e)))

pub stays_whole_once : StaysWholeOnce
stays_whole_once w s h k r =
    let a = (well_formed_agrees w h).0 in
    let after = steps_hold w s a (holds_whole w h k) in
    (agrees_is_well_formed (play1 w s).0 (steps_keep w s a r) (frames_are_whole (play1 w s).0 after), spelled (play1 w s).0 after)

pub stays_whole : StaysWhole
stays_whole w ss h k r =
    let a = (well_formed_agrees w h).0 in
    let after = lists_hold w ss a (holds_whole w h k) r in
    (agrees_is_well_formed (play w ss).0 (lists_keep w ss a r) (frames_are_whole (play w ss).0 after), spelled (play w ss).0 after)
