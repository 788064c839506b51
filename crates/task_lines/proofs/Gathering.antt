-- Variables that are read one by one come to the table that the lines tell.
use Rattle.std.proofs.Common.{◌≡◌, ◌∙◌, refl, sym, ap, subst, cond, ℕ, zero, suc, ◌<◌, Bool, true, false, List, [], ◌∷◌, ◌++◌, length, drop, replicate, Option, Some, None, IsTrue, arith, nat_cmp, is_lt, is_eq, Ordering, Less, Equal, Greater}
use Rattle.std.specs.Prelude.{slice_get, slice_set, if◌then◌else◌}
use Rattle.std.specs.Bool.{nat_lt}
use Rattle.std.specs.Cmp.Lexicographic.{slice_cmp}
use Rattle.std.specs.FinMap.Entries.{below_all}
use Rattle.std.specs.List.{list_all}
use Rattle.std.proofs.lemmas.Bool.{ltb-true}
use Rattle.spec_value.specs.Datum.{Datum, Text, same_text}
use Rattle.spec_value.specs.Table.{Named, named, is_named}
use Rattle.spec_value.proofs.Entries.{first_holds, second_holds}
use Rattle.spec_value.proofs.Same.{same_texts, text_itself}
use Rattle.spec_world.specs.WellFormed.{has_name, names_once}
use Rattle.spec_world.proofs.SlotChanges.{names_total, itself}
use Rattle.spec_world.proofs.SlotTables.{sought}
use Rattle.moo_code.specs.Slots.{slot_of, in_slot, variables_over, others}
use Rattle.moo_code.proofs.Slots.{same_tables, variables_sorted, others_sorted, others_named, others_stay, others_have_none, slot_is_variable, name_has_slot}
use Rattle.moo_program.specs.Names.{found_place}
use Rattle.moo_program.proofs.Slots.{has_is}
use Rattle.task_lines.specs.Gathering.{first_of, value_now, Gathers, slots_with, further_with}
use Rattle.task_lines.specs.Tasks.{variable_reads}

-- ---- a table's entries are found in it

some_same : (a b : Text × Datum) → Some a ≡ Some b → a ≡ b
some_same a b e = cc

below_another : (x y : Text) → IsTrue (is_lt (slice_cmp nat_cmp x y)) → same_text y x ≡ false
below_another x y h = go (same_text y x) refl
  where
    clash : (r : Ordering) → IsTrue (is_lt r) → IsTrue (is_eq r) → ⊥
    clash Less h e = cc
    clash Equal h e = cc
    clash Greater h e = cc

    go : (b : Bool) → same_text y x ≡ b → b ≡ false
    go false e = refl
    go true e =
        let same : y ≡ x = same_texts y x e in
        absurd (clash (slice_cmp nat_cmp x x) (subst (λ u. IsTrue (is_lt (slice_cmp nat_cmp x u))) same h) (itself names_total x))

is_below : (x : Text) (es : Named Datum) (n : ℕ) (e : Text × Datum) → IsTrue (below_all (slice_cmp nat_cmp) x es) → slice_get es n ≡ Some e → same_text e.0 x ≡ false
is_below x [] n e h is = cc
is_below x (f ∷ es) zero e h is =
    subst (λ (d : Text × Datum). same_text d.0 x ≡ false) (some_same f e is) (below_another x f.0 (first_holds (is_lt (slice_cmp nat_cmp x f.0)) _ h))
is_below x (f ∷ es) (suc n) e h is = is_below x es n e (second_holds (is_lt (slice_cmp nat_cmp x f.0)) _ h) is

first_found : (q : Text) (f : Text × Datum) (es : List (Text × Datum)) → named (f ∷ es) q ≡ cond (same_text q f.0) (Some f.1) (named es q)
first_found q f es = ap (λ b. cond b (Some f.1) (named es q)) (sought q f.0)

pub named_there : (es : Named Datum) (n : ℕ) (e : Text × Datum) → IsTrue (is_named es) → slice_get es n ≡ Some e → named es e.0 ≡ Some e.1
named_there [] n e h is = cc
named_there (f ∷ es) zero e h is =
    subst (λ (d : Text × Datum). named (f ∷ es) d.0 ≡ Some d.1) (some_same f e is) (first_found f.0 f es ∙ ap (λ b. cond b (Some f.1) (named es f.0)) (text_itself f.0))
named_there (f ∷ es) (suc n) e h is =
    first_found e.0 f es
    ∙ ap (λ b. cond b (Some f.1) (named es e.0)) (is_below f.0 es n e (first_holds (below_all (slice_cmp nat_cmp) f.0 es) _ h) is)
    ∙ named_there es n e (second_holds (below_all (slice_cmp nat_cmp) f.0 es) _ h) is

-- ---- slots

none_in : (n i : ℕ) → in_slot (slice_get (replicate n None) i) ≡ None
none_in zero i = refl
none_in (suc n) zero = refl
none_in (suc n) (suc i) = none_in n i

set_here : (ss : List (Option Datum)) (i : ℕ) (o : Option Datum) → i < length ss → in_slot (slice_get (slice_set ss i o) i) ≡ o
set_here [] i o h = absurd (omega arith)
set_here (s ∷ ss) zero o h = refl
set_here (s ∷ ss) (suc i) o h = set_here ss i o (omega arith)

set_elsewhere : (ss : List (Option Datum)) (i j : ℕ) (o : Option Datum) → (i ≡ j → ⊥) → slice_get (slice_set ss i o) j ≡ slice_get ss j
set_elsewhere [] i j o h = refl
set_elsewhere (s ∷ ss) zero zero o h = absurd (h refl)
set_elsewhere (s ∷ ss) zero (suc j) o h = refl
set_elsewhere (s ∷ ss) (suc i) zero o h = refl
set_elsewhere (s ∷ ss) (suc i) (suc j) o h = set_elsewhere ss i j o (λ e. h (ap suc e))

one_slot : (names : List Text) (x q : Text) → has_name names x ≡ true → has_name names q ≡ true → slot_of names x ≡ slot_of names q → x ≡ q
one_slot names x q h k e =
    let both : Some x ≡ Some q = sym (name_has_slot names x h) ∙ ap (slice_get names) e ∙ name_has_slot names q k in cc

-- ---- one by one

none_first : (o : Option Datum) → first_of o None ≡ o
none_first None = refl
none_first (Some v) = refl

pub none_yet : (names : List Text) (n : ℕ) (table : Named Datum) → Gathers names (replicate n None) [] table table
none_yet names n table q = ap (λ o. first_of o (named table q)) (go (has_name names q))
  where
    go : (b : Bool) → (if b then in_slot (slice_get (replicate n None) (slot_of names q)) else None) ≡ None
    go true = none_in n (slot_of names q)
    go false = refl

-- what has a value already has that of the table
taken : (o : Option Datum) (v : Datum) (left table : Option Datum) → first_of o (Some v) ≡ table → table ≡ Some v → first_of (Some v) left ≡ table
taken o v left table h is = sym is

in_place : (names : List Text) (slots : List (Option Datum)) (further left : List (Text × Datum)) (table : Named Datum) (e : Text × Datum) → named table e.0 ≡ Some e.1 → has_name names e.0 ≡ true → slot_of names e.0 < length slots
    → Gathers names slots further (e ∷ left) table → Gathers names (slice_set slots (slot_of names e.0) (Some e.1)) further left table
in_place names slots further left table e is there small h q = go (has_name names q) refl (same_text q e.0) refl (ap (first_of (value_now names slots further q)) (sym (first_found q e left)) ∙ h q)
  where
    new : List (Option Datum)
    new = slice_set slots (slot_of names e.0) (Some e.1)

    go : (b : Bool) → has_name names q ≡ b → (k : Bool) → same_text q e.0 ≡ k
        → first_of (if has_name names q then in_slot (slice_get slots (slot_of names q)) else named further q) (cond k (Some e.1) (named left q)) ≡ named table q
        → first_of (if has_name names q then in_slot (slice_get new (slot_of names q)) else named further q) (named left q) ≡ named table q
    go b n true same g =
        let alike : q ≡ e.0 = same_texts q e.0 same in
        let known : has_name names q ≡ true = ap (has_name names) alike ∙ there in
        ap (λ c. first_of (if c then in_slot (slice_get new (slot_of names q)) else named further q) (named left q)) known
        ∙ ap (λ i. first_of (in_slot (slice_get new i)) (named left q)) (ap (slot_of names) alike)
        ∙ ap (λ o. first_of o (named left q)) (set_here slots (slot_of names e.0) (Some e.1) small)
        ∙ sym (ap (named table) alike ∙ is)
    go true n false same g =
        let apart : slot_of names e.0 ≡ slot_of names q → ⊥ =
        λ s. (let alike : e.0 ≡ q = one_slot names e.0 q there n s in let clash : same_text q e.0 ≡ true = subst (λ u. same_text q u ≡ true) (sym alike) (text_itself q) in absurd (cc (clash, same))) in
        ap (λ c. first_of (if c then in_slot (slice_get new (slot_of names q)) else named further q) (named left q)) n
        ∙ ap (λ o. first_of (in_slot o) (named left q)) (set_elsewhere slots (slot_of names e.0) (slot_of names q) (Some e.1) apart)
        ∙ sym (ap (λ c. first_of (if c then in_slot (slice_get slots (slot_of names q)) else named further q) (named left q)) n)
        ∙ g
    go false n false same g =
        ap (λ c. first_of (if c then in_slot (slice_get new (slot_of names q)) else named further q) (named left q)) n
        ∙ sym (ap (λ c. first_of (if c then in_slot (slice_get slots (slot_of names q)) else named further q) (named left q)) n)
        ∙ g

named_behind : (fs : List (Text × Datum)) (e : Text × Datum) (q : Text) → named (fs ++ e ∷ []) q ≡ first_of (named fs q) (cond (same_text q e.0) (Some e.1) None)
named_behind [] e q = first_found q e []
named_behind (f ∷ fs) e q = first_found q f (fs ++ e ∷ []) ∙ go (same_text q f.0) (named_behind fs e q) ∙ ap (λ o. first_of o (cond (same_text q e.0) (Some e.1) None)) (sym (first_found q f fs))
  where
    go : (b : Bool) → named (fs ++ e ∷ []) q ≡ first_of (named fs q) (cond (same_text q e.0) (Some e.1) None)
        → cond b (Some f.1) (named (fs ++ e ∷ []) q) ≡ first_of (cond b (Some f.1) (named fs q)) (cond (same_text q e.0) (Some e.1) None)
    go true h = refl
    go false h = h

behind_others : (names : List Text) (slots : List (Option Datum)) (further left : List (Text × Datum)) (table : Named Datum) (e : Text × Datum) → has_name names e.0 ≡ false
    → Gathers names slots further (e ∷ left) table → Gathers names slots (further ++ e ∷ []) left table
behind_others names slots further left table e out h q = go (has_name names q) refl (same_text q e.0) refl (ap (first_of (value_now names slots further q)) (sym (first_found q e left)) ∙ h q)
  where
    shift : (o : Option Datum) (k : Bool) (p : Option Datum) → first_of (first_of o (cond k (Some e.1) None)) p ≡ first_of o (cond k (Some e.1) p)
    shift (Some v) k p = refl
    shift None true p = refl
    shift None false p = refl

    go : (b : Bool) → has_name names q ≡ b → (k : Bool) → same_text q e.0 ≡ k
        → first_of (if has_name names q then in_slot (slice_get slots (slot_of names q)) else named further q) (cond k (Some e.1) (named left q)) ≡ named table q
        → first_of (if has_name names q then in_slot (slice_get slots (slot_of names q)) else named (further ++ e ∷ []) q) (named left q) ≡ named table q
    go true n true same g =
        let alike : q ≡ e.0 = same_texts q e.0 same in
        let known : has_name names q ≡ false = ap (has_name names) alike ∙ out in absurd (cc (known, n))
    go true n false same g =
        ap (λ c. first_of (if c then in_slot (slice_get slots (slot_of names q)) else named (further ++ e ∷ []) q) (named left q)) n
        ∙ sym (ap (λ c. first_of (if c then in_slot (slice_get slots (slot_of names q)) else named further q) (named left q)) n) ∙ g
    go false n k same g =
        ap (λ c. first_of (if c then in_slot (slice_get slots (slot_of names q)) else named (further ++ e ∷ []) q) (named left q)) n
        ∙ ap (λ o. first_of o (named left q)) (named_behind further e q ∙ ap (λ j. first_of (named further q) (cond j (Some e.1) None)) same)
        ∙ shift (named further q) k (named left q)
        ∙ sym (ap (λ c. first_of (if c then in_slot (slice_get slots (slot_of names q)) else named further q) (cond k (Some e.1) (named left q))) n) ∙ g

-- ---- all of them

pub all_gathered : (names : List Text) (slots : List (Option Datum)) (further : List (Text × Datum)) (table : Named Datum) → IsTrue (is_named table) → IsTrue (names_once names)
    → Gathers names slots further [] table → variables_over (others names further) names slots ≡ table
all_gathered names slots further table sorted once h =
    same_tables (variables_over (others names further) names slots) table (variables_sorted (others names further) names slots (others_sorted names further)) sorted
    (λ q. go q (has_name names q) refl ∙ sym (none_first (value_now names slots further q)) ∙ h q)
  where
    go : (q : Text) (b : Bool) → has_name names q ≡ b → named (variables_over (others names further) names slots) q ≡ value_now names slots further q
    go q true n =
        slot_is_variable (others names further) names slots (slot_of names q) q (others_have_none names further) once (name_has_slot names q n)
        ∙ sym (ap (λ c. if c then in_slot (slice_get slots (slot_of names q)) else named further q) n)
    go q false n =
        others_stay (others names further) names slots q n ∙ others_named names further q
        ∙ ap (λ c. if c then None else named further q) n
        ∙ sym (ap (λ c. if c then in_slot (slice_get slots (slot_of names q)) else named further q) n)

-- ---- one variable of the lines

pub variable_at : (es : Named Datum) (i : ℕ) → i < length es → IsTrue (list_all variable_reads es) → (e : Text × Datum) × (slice_get es i ≡ Some e) × IsTrue (variable_reads e) × (drop i es ≡ e ∷ drop (suc i) es)
variable_at [] i small h = absurd (omega (arith, small))
variable_at (e ∷ es) zero small h = (e, refl, first_holds (variable_reads e) _ h, refl)
variable_at (e ∷ es) (suc i) small h = variable_at es i (omega (arith, small)) (second_holds (variable_reads e) _ h)

pub one_gathered : (names : List Text) (slots : List (Option Datum)) (further left : List (Text × Datum)) (table : Named Datum) (e : Text × Datum) (p : Option ℕ)
    → p ≡ (if nat_lt (slot_of names e.0) (length names) then Some (slot_of names e.0) else None) → has_name names e.0 ≡ nat_lt (slot_of names e.0) (length names)
    → named table e.0 ≡ Some e.1 → length slots ≡ length names → Gathers names slots further (e ∷ left) table
    → Gathers names (slots_with p slots e.1) (further_with p further e) left table
one_gathered names slots further left table e p is known there count h = go (nat_lt (slot_of names e.0) (length names)) refl
  where
    go : (b : Bool) → nat_lt (slot_of names e.0) (length names) ≡ b → Gathers names (slots_with p slots e.1) (further_with p further e) left table
    go true n =
        let small : slot_of names e.0 < length names = ltb-true (slot_of names e.0) (length names) n in
        let place : p ≡ Some (slot_of names e.0) = is ∙ ap (λ b. if b then Some (slot_of names e.0) else None) n in
        subst (λ q. Gathers names (slots_with q slots e.1) (further_with q further e) left table) (sym place)
        (in_place names slots further left table e there (known ∙ n) (omega (arith, small, count)) h)
    go false n =
        let place : p ≡ None = is ∙ ap (λ b. if b then Some (slot_of names e.0) else None) n in
        subst (λ q. Gathers names (slots_with q slots e.1) (further_with q further e) left table) (sym place)
        (behind_others names slots further left table e (known ∙ n) h)

-- as it was put
pub one_put : (names : List Text) (slots now : List (Option Datum)) (further later left : List (Text × Datum)) (table : Named Datum) (e v : Text × Datum) → v ≡ e
    → now ≡ slots_with (found_place names v.0) slots v.1 → later ≡ further_with (found_place names v.0) further v
    → named table e.0 ≡ Some e.1 → length slots ≡ length names → Gathers names slots further (e ∷ left) table → Gathers names now later left table
one_put names slots now further later left table e v same put behind there count h =
    let p : Option ℕ = found_place names e.0 in
    let slots_are : now ≡ slots_with p slots e.1 = put ∙ ap (λ (u : Text × Datum). slots_with (found_place names u.0) slots u.1) same in
    let further_are : later ≡ further_with p further e = behind ∙ ap (λ (u : Text × Datum). further_with (found_place names u.0) further u) same in
    subst (λ ss. Gathers names ss later left table) (sym slots_are)
    (subst (λ fs. Gathers names (slots_with p slots e.1) fs left table) (sym further_are) (one_gathered names slots further left table e p refl (has_is names e.0) there count h))
