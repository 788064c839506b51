-- The slots of an object by the names along its line.
use Rattle.std.proofs.Common.{◌≡◌, ◌⊎◌, inl, inr, ℤ, suc, Bool, true, false, ◌||◌, List, [], ◌∷◌, ◌++◌, map, length, Option, Some, None, refl, sym, ap, subst, ◌∙◌, cond, IsTrue, is_some, nat_cmp, arith}
use Rattle.std.specs.List.{list_all}
use Rattle.std.specs.Cmp.Lexicographic.{slice_cmp}
use Rattle.std.specs.FinMap.Entries.{same_entries}
use Rattle.std.proofs.lemmas.List.{map-append}
use Rattle.spec_value.specs.Datum.{Text, fold_case, same_text}
use Rattle.spec_value.specs.Table.{Named, named, with_name, is_named}
use Rattle.spec_value.proofs.Entries.{first_holds, second_holds}
use Rattle.spec_value.proofs.Keys.{as_type}
use Rattle.spec_value.proofs.Same.{text_itself}
use Rattle.spec_world.specs.World.{World, Object, Slot, object_at}
use Rattle.spec_world.specs.Inherit.{ancestors, slot_at, slot_of}
use Rattle.spec_world.specs.WellFormed.{folded_names, defined_on, has_name, slot_names, IsWellFormed}
use Rattle.spec_world.specs.Checkpoint.{names_defined}
use Rattle.spec_world.proofs.SlotChanges.{names_total, names_apart}
use Rattle.spec_world.proofs.SlotTables.{key_there, named_with, with_sorted, here_name, later_name, text_or_not}
use Rattle.spec_world.proofs.Households.{of_named, same_tests}
use Rattle.named_objects.specs.Told.{names_along, with_found, slots_found, object_names, all_named}

-- ---- names along a line, in lower case

folded : (m : Option Object) → folded_names m ≡ map fold_case (names_defined m)
folded None = refl
folded (Some x) = refl

pub defined_along : (w : World) (ps : List ℤ) → defined_on w ps ≡ map fold_case (names_along w ps)
unfolding defined_on
defined_along w [] = refl
defined_along w (p ∷ ps) = (λ n. folded (object_at w p) n ++ defined_along w ps n) ∙ sym (map-append fold_case (names_defined (object_at w p)) (names_along w ps))

-- ---- each name has its slot

nothing : IsTrue false → ⊥
nothing e = cc

module _ (w : World) (o : ℤ) (x : Object) (is : object_at w o ≡ Some x) where
  slot_there : (t : Text) → slot_at w o t ≡ named x.slots (fold_case t)
  slot_there t = ap (λ m. slot_of m t) is

  abbrev HaveSlots : List Text → Type 0
  HaveSlots ts = (q : Text) → IsTrue (has_name (map fold_case ts) q) → IsTrue (is_some (named x.slots q))

  later_slots : (t : Text) (ts : List Text) → HaveSlots (t ∷ ts) → HaveSlots ts
  later_slots t ts h q k = h q (later_name (fold_case t) q (map fold_case ts) k)

  as_many : (ts : List Text) → HaveSlots ts → length (slots_found w o ts) ≡ length ts
  as_many [] h = refl
  as_many (t ∷ ts) h = go (slot_at w o t) (slot_there t) (h (fold_case t) (here_name (fold_case t) (map fold_case ts))) (as_many ts (later_slots t ts h))
    where
      go : (m : Option Slot) → m ≡ named x.slots (fold_case t) → IsTrue (is_some (named x.slots (fold_case t))) → length (slots_found w o ts) ≡ length ts
          → length (with_found m (slots_found w o ts)) ≡ suc (length ts)
      go None e k later = absurd (nothing (subst (λ n. IsTrue (is_some n)) (sym e) k))
      go (Some s) e k later = ap suc later

  by_names : (ts : List Text) → HaveSlots ts → (es : Named Slot) (q : Text)
      → named (all_named es ts (slots_found w o ts)) q ≡ cond (has_name (map fold_case ts) q) (named x.slots q) (named es q)
  by_names [] h es q = refl
  by_names (t ∷ ts) h es q = go (slot_at w o t) (slot_there t) (h (fold_case t) (here_name (fold_case t) (map fold_case ts))) (λ fs. by_names ts (later_slots t ts h) fs q)
    where
      later : Bool
      later = has_name (map fold_case ts) q

      sort : (s : Slot) → Some s ≡ named x.slots (fold_case t) → (b : Bool) → (q ≡ fold_case t) ⊎ (same_text q (fold_case t) ≡ false)
          → cond b (named x.slots q) (cond (same_text q (fold_case t)) (Some s) (named es q)) ≡ cond (same_text q (fold_case t) || b) (named x.slots q) (named es q)
      sort s e b (inl same) =
          let y : same_text q (fold_case t) ≡ true = subst (λ z. same_text q z ≡ true) same (text_itself q) in
          let here : Some s ≡ named x.slots q = e ∙ ap (named x.slots) (sym same) in
          ap (λ c. cond b (named x.slots q) (cond c (Some s) (named es q))) y ∙ either b here ∙ ap (λ c. cond (c || b) (named x.slots q) (named es q)) (sym y)
        where
          either : (b : Bool) → Some s ≡ named x.slots q → cond b (named x.slots q) (Some s) ≡ named x.slots q
          either true k = refl
          either false k = k
      sort s e b (inr other) =
          ap (λ c. cond b (named x.slots q) (cond c (Some s) (named es q))) other ∙ ap (λ c. cond (c || b) (named x.slots q) (named es q)) (sym other)

      go : (m : Option Slot) → m ≡ named x.slots (fold_case t) → IsTrue (is_some (named x.slots (fold_case t)))
          → ((fs : Named Slot) → named (all_named fs ts (slots_found w o ts)) q ≡ cond (has_name (map fold_case ts) q) (named x.slots q) (named fs q))
          → named (all_named es (t ∷ ts) (with_found m (slots_found w o ts))) q ≡ cond (same_text q (fold_case t) || has_name (map fold_case ts) q) (named x.slots q) (named es q)
      go None e k more = absurd (nothing (subst (λ n. IsTrue (is_some n)) (sym e) k))
      go (Some s) e k more =
          more (with_name es (fold_case t) s)
          ∙ ap (cond (has_name (map fold_case ts) q) (named x.slots q)) (named_with es (fold_case t) q s)
          ∙ sort s e (has_name (map fold_case ts) q) (text_or_not q (fold_case t))

pub stay_sorted : (ts : List Text) (ss : List Slot) (es : Named Slot) → IsTrue (is_named es) → IsTrue (is_named (all_named es ts ss))
stay_sorted [] ss es h = h
stay_sorted (t ∷ ts) [] es h = h
stay_sorted (t ∷ ts) (s ∷ ss) es h = stay_sorted ts ss (with_name es (fold_case t) s) (with_sorted es (fold_case t) s h)

-- ---- and there are no other slots

slots_there : (w : World) (o : ℤ) (x : Object) → IsWellFormed w → object_at w o ≡ Some x → (t : Text) → is_some (named x.slots t) ≡ has_name (map fold_case (object_names w o)) t
slots_there w o x h is t =
    let qs : List Text = defined_on w (ancestors w o) in
    key_there x.slots t
    ∙ same_tests (has_name (slot_names x) t) (has_name qs t) (of_named (has_name qs) (slot_names x) (first_holds (list_all (has_name qs) (slot_names x)) _ (h.slots o x is)) t)
    (of_named (has_name (slot_names x)) qs (second_holds (list_all (has_name qs) (slot_names x)) (list_all (has_name (slot_names x)) qs) (h.slots o x is)) t)
    ∙ ap (λ rs. has_name rs t) (defined_along w (ancestors w o))

none_there : (m : Option Slot) → is_some m ≡ false → m ≡ None
none_there None e = refl
none_there (Some s) e = cc

-- an object has as many slots as names, and they are its slots by these names
pub slots_are_those : (w : World) (o : ℤ) (x : Object) → IsWellFormed w → object_at w o ≡ Some x
    → (length (slots_found w o (object_names w o)) ≡ length (object_names w o)) × (all_named [] (object_names w o) (slots_found w o (object_names w o)) ≡ x.slots)
slots_are_those w o x h is =
    let ts : List Text = object_names w o in
    let there = slots_there w o x h is in
    let have = λ (q : Text) (k : IsTrue (has_name (map fold_case ts) q)). there q ∙ k in (
      as_many w o x is ts have,
      same_entries (slice_cmp nat_cmp) names_total names_apart (all_named [] ts (slots_found w o ts)) x.slots (as_type _ (stay_sorted ts (slots_found w o ts) [] refl)) (as_type _ (h.slot_order o x is))
          (λ q. by_names w o x is ts have [] q ∙ whole (has_name (map fold_case ts) q) (named x.slots q) (there q)),
    )
  where
    whole : (b : Bool) (m : Option Slot) → is_some m ≡ b → cond b m None ≡ m
    whole true m e = refl
    whole false m e = sym (none_there m e)

-- ---- where no slots are left

pub nothing_left : {A : Type 0} (xs : List A) → length xs ≡ 0 → xs ≡ []
nothing_left [] e = refl
nothing_left (x ∷ xs) e = absurd (omega (arith, e))

pub named_end : (es : Named Slot) (ts : List Text) (ss : List Slot) → ss ≡ [] → all_named es ts ss ≡ es
named_end es ts ss none = ap (all_named es ts) none ∙ go ts
  where
    go : (ts : List Text) → all_named es ts [] ≡ es
    go [] = refl
    go (t ∷ ts) = refl
