-- Slots whose lines have no fault.
use Rattle.std.proofs.Common.{◌≡◌, ◌⊎◌, inl, inr, ℤ, Bool, true, false, List, [], ◌∷◌, map, Option, Some, None, IsTrue, is_some, is_lt, is_eq, cond, Ordering, Less, Equal, Greater, nat_cmp, refl, ap, sym, subst, ◌∙◌}
use Rattle.std.specs.List.{list_all}
use Rattle.std.specs.Cmp.Lexicographic.{slice_cmp}
use Rattle.std.specs.FinMap.Entries.{below_all}
use Rattle.spec_value.specs.Datum.{Text, same_text, fold_case}
use Rattle.spec_value.specs.Table.{Named, named, is_named}
use Rattle.spec_value.proofs.Entries.{first_holds, second_holds, both_hold}
use Rattle.spec_value.proofs.Same.{same_texts, text_itself}
use Rattle.spec_world.specs.World.{World, Slot, Object, object_at}
use Rattle.spec_world.specs.Inherit.{ancestors, slot_of, slot_at}
use Rattle.spec_world.specs.WellFormed.{folded_names, defined_on, has_name, slot_names, IsWellFormed}
use Rattle.spec_world.specs.Checkpoint.{slot_line, slots_named, names_defined, slots_along}
use Rattle.spec_world.proofs.SlotTables.{text_or_not, sought, key_there, here_name, later_name, has_both}
use Rattle.spec_world.proofs.Households.{of_named}
use Rattle.spec_checkpoint.specs.Holding.{slot_holds}
use Rattle.spec_checkpoint.proofs.SlotRecords.{found_holds, named_holds}
use Rattle.spec_faults.specs.Forms as form
use Rattle.spec_faults.specs.Reach.{content_near}
use Rattle.spec_faults.proofs.Clear.{AllClear, clear_parts}
use Rattle.spec_faults.proofs.NearFields.{either_way, slot_near}

-- ---- what holds of whatever is found in a table by name holds of each of its entries

named_below : (k : Text) (es : Named Slot) → IsTrue (below_all (slice_cmp nat_cmp) k es) → named es k ≡ None
named_below k [] h = refl
named_below k (e ∷ es) h = go (named_below k es (second_holds _ _ h)) (slice_cmp nat_cmp k e.0) (first_holds _ _ h)
  where
    go : named es k ≡ None → (r : Ordering) → IsTrue (is_lt r) → cond (is_eq r) (Some e.1) (named es k) ≡ None
    go later Less i = later
    go later Equal i = cc
    go later Greater i = later

missing : (o : Option Slot) → o ≡ None → is_some o ≡ true → ⊥
missing None e h = cc
missing (Some s) e h = cc

abbrev found_near : Option Slot → Bool
found_near None = true
found_near (Some s) = content_near s.content

abbrev FoundNear : Named Slot → Type 0
FoundNear es = (q : Text) → IsTrue (has_name (map (λ e. e.0) es) q) → IsTrue (found_near (named es q))

first_near : (e : Text × Slot) (es : Named Slot) → FoundNear (e ∷ es) → IsTrue (content_near (e.1).content)
first_near e es found =
    subst (λ b. IsTrue (found_near (cond b (Some e.1) (named es e.0)))) (sought e.0 e.0 ∙ text_itself e.0) (found e.0 (here_name e.0 (map (λ d. d.0) es)))

later_near : (e : Text × Slot) (es : Named Slot) → IsTrue (below_all (slice_cmp nat_cmp) e.0 es) → FoundNear (e ∷ es) → FoundNear es
later_near e es below found q h = go (text_or_not q e.0)
  where
    go : (q ≡ e.0) ⊎ (same_text q e.0 ≡ false) → IsTrue (found_near (named es q))
    go (inl s) = absurd (missing (named es q) (ap (named es) s ∙ named_below e.0 es below) (key_there es q ∙ h))
    go (inr d) = subst (λ b. IsTrue (found_near (cond b (Some e.1) (named es q)))) (sought q e.0 ∙ d) (found q (later_name e.0 q (map (λ x. x.0) es) h))

each_near : (es : Named Slot) → IsTrue (is_named es) → FoundNear es → IsTrue (list_all (λ e. content_near (e.1).content) es)
each_near [] h found = refl
each_near (e ∷ es) h found =
    both_hold (content_near (e.1).content) _ (first_near e es found) (each_near es (second_holds (below_all (slice_cmp nat_cmp) e.0 es) (is_named es) h) (later_near e es (first_holds (below_all (slice_cmp nat_cmp) e.0 es) (is_named es) h) found))

-- ---- the slots that are shown

line_near : (m : Option Slot) → IsTrue (found_holds m) → AllClear form.slot_form (slot_line m) → IsTrue (found_near m)
line_near None h c = refl
line_near (Some s) h c = slot_near s h c.0

module _ (w : World) (o : ℤ) (x : Object) (is : object_at w o ≡ Some x) (hold : IsTrue (list_all (λ e. slot_holds e.1) x.slots)) where
  shown_near : (t : Text) → AllClear form.slot_form (slot_line (slot_at w o t)) → IsTrue (found_near (named x.slots (fold_case t)))
  shown_near t c = line_near (named x.slots (fold_case t)) (named_holds x.slots hold (fold_case t)) (subst (λ m. AllClear form.slot_form (slot_line (slot_of m t))) is c)

  names_near : (ts : List Text) → AllClear form.slot_form (slots_named w o ts) → (q : Text) → IsTrue (has_name (map fold_case ts) q) → IsTrue (found_near (named x.slots q))
  names_near [] c q h = cc
  names_near (t ∷ ts) c q h =
      let p = clear_parts form.slot_form (slot_line (slot_at w o t)) (slots_named w o ts) c in
      either_way (same_text q (fold_case t)) (has_name (map fold_case ts) q) (IsTrue (found_near (named x.slots q)))
      (λ s. subst (λ z. IsTrue (found_near (named x.slots z))) (sym (same_texts q (fold_case t) s)) (shown_near t p.0)) (names_near ts p.1 q) h

  defined_near : (m : Option Object) → AllClear form.slot_form (slots_named w o (names_defined m)) → (q : Text) → IsTrue (has_name (folded_names m) q) → IsTrue (found_near (named x.slots q))
  defined_near None c q h = cc
  defined_near (Some y) c q h = names_near y.defines c q h

  along_near : (ps : List ℤ) → AllClear form.slot_form (slots_along w o ps) → (q : Text) → IsTrue (has_name (defined_on w ps) q) → IsTrue (found_near (named x.slots q))
  unfolding defined_on
  along_near [] c q h = cc
  along_near (p ∷ ps) c q h =
      let a = clear_parts form.slot_form (slots_named w o (names_defined (object_at w p))) (slots_along w o ps) c in
      either_way (has_name (folded_names (object_at w p)) q) (has_name (defined_on w ps) q) (IsTrue (found_near (named x.slots q)))
      (defined_near (object_at w p) a.0 q) (along_near ps a.1 q) (sym (has_both (folded_names (object_at w p)) (defined_on w ps) q) ∙ h)

  pub slots_near : IsWellFormed w → AllClear form.slot_form (slots_along w o (ancestors w o)) → IsTrue (list_all (λ e. content_near (e.1).content) x.slots)
  slots_near wf c =
      let names : List Text = defined_on w (ancestors w o) in
      each_near x.slots (wf.slot_order o x is)
      (λ q h. along_near (ancestors w o) c q (of_named (has_name names) (slot_names x) (first_holds (list_all (has_name names) (slot_names x)) (list_all (has_name (slot_names x)) names) (wf.slots o x is)) q h))
