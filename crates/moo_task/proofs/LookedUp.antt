-- Variables that are looked up by their names.
use Rattle.std.proofs.Common.{◌≡◌, ◌∙◌, ap, sym, refl, ℕ, suc, ◌+◌, ◌-◌, ◌<◌, ◌≤◌, ◌||◌, Bool, true, false, cond, List, [], ◌∷◌, length, drop, map, get_or, add-one, Bor, Option, Some, None, is_some, ⊎_elim, arith}
use Rattle.std.specs.Prelude.{option_map, slice_get, nat_lt}
use Rattle.std.specs.BTreeMap.{BTreeMap}
use Rattle.std.specs.Str.{bytes_eq}
use Rattle.std.proofs.lemmas.Bool.{lt-ltb, le-ltb, cases_lt}
use Rattle.std.proofs.lemmas.List.{append-nil, drop_all, drop_more}
use Rattle.spec_value.specs.Datum.{Datum, Text, same_text}
use Rattle.spec_value.specs.Table.{named}
use Rattle.spec_program.specs.Tree.{Program}
use Rattle.spec_world.specs.WellFormed.{has_name}
use Rattle.spec_world.proofs.SlotTables.{text_turned}
use Rattle.moo_code.specs.Names.{starting_names, names_of}
use Rattle.moo_code.specs.Slots.{slot_of, variables_with, in_slot}
use Rattle.moo_program.specs.Names.{known, found_place}
use Rattle.moo_program.proofs.Slots.{known_count, slot_starting, slot_own, starting_within, has_is, found_is, found_not}
use Rattle.moo_task.specs.Copying.{slot_from, slot_at, HasSlots, value_at, HasValues}
use Rattle.moo_task.specs.Variables.{variable_of}
use Rattle.moo_task.specs.declared.variables.Variable.{Variable}
use Rattle.moo_task.proofs.Finding.{found_at, held_in_slot, held_further}

-- ---- slots of names

one_first : (n : ℕ) (b h : Bool) (k : ℕ) → cond b (Some n) (cond h (Some (suc n + k)) None) ≡ cond (b || h) (Some (n + cond b 0 (suc k))) None
one_first n true h k = let e : n ≡ n + 0 = omega arith in ap Some e
one_first n false true k = let e : suc n + k ≡ n + suc k = omega arith in ap Some e
one_first n false false k = refl

from_first : (n : ℕ) (y : Text) (ys : List Text) (x : Text) → cond (same_text x y) (Some n) (slot_from (suc n) ys x) ≡ slot_from n (y ∷ ys) x
from_first n y ys x = one_first n (same_text x y) (has_name ys x) (slot_of ys x)

pub none_from : (n i : ℕ) (names : List Text) (x : Text) → length names ≤ i → None ≡ slot_from n (drop i names) x
none_from n i names x all = sym (ap (λ ns. slot_from n ns x) (drop_all i names all))

-- one name more, before those that are there
pub slots_before : (names : List Text) (i n : ℕ) (y key : Text) (m more : BTreeMap (Bor Text) ℕ) → i < length names → y ≡ get_or names i y → key ≡ y
    → ((x : Text) → slot_at m x ≡ slot_from (suc n) (drop (suc i) names) x) → ((x : Text) → slot_at more x ≡ cond (bytes_eq key x) (Some n) (slot_at m x))
    → (x : Text) → slot_at more x ≡ slot_from n (drop i names) x
slots_before names i n y key m more small is keyed before put x =
    let later : drop i names ≡ y ∷ drop (suc i) names =
    drop_more names i y small ∙ ap (λ z. z ∷ drop (i + 1) names) (sym is) ∙ ap (λ k. y ∷ drop k names) (add-one i) in
    put x ∙ ap (cond (bytes_eq key x) (Some n)) (before x)
    ∙ ap (λ b. cond b (Some n) (slot_from (suc n) (drop (suc i) names) x)) (ap (λ k. bytes_eq k x) keyed ∙ sym (text_turned x y))
    ∙ from_first n y (drop (suc i) names) x ∙ ap (λ ns. slot_from n ns x) (sym later)

pub from_next : (n i j : ℕ) (names : List Text) (m : BTreeMap (Bor Text) ℕ) → i ≡ suc j → ((x : Text) → slot_at m x ≡ slot_from (n + i) (drop i names) x)
    → (x : Text) → slot_at m x ≡ slot_from (suc (n + j)) (drop (suc j) names) x
from_next n i j names m e before x =
    let k : n + suc j ≡ suc (n + j) = omega arith in
    before x ∙ ap (λ i. slot_from (n + i) (drop i names) x) e ∙ ap (λ k. slot_from k (drop (suc j) names) x) k

pub from_start : (names : List Text) (i : ℕ) (m : BTreeMap (Bor Text) ℕ) → i ≡ 0 → ((x : Text) → slot_at m x ≡ slot_from (17 + i) (drop i names) x) → HasSlots names m
from_start names i m e before x = before x ∙ ap (λ i. slot_from (17 + i) (drop i names) x) e

known_none : (x : Text) → slot_of (known []) x ≡ slot_of starting_names x
unfolding known
known_none x = ap (λ ns. slot_of ns x) (append-nil starting_names)

found : (names : List Text) (x : Text) (k : ℕ) → k ≡ slot_of names x → k < length names → Some k ≡ found_place names x
found names x k is small =
    ap Some is ∙ sym (ap (λ b. cond b (Some (slot_of names x)) None) (lt-ltb (slot_of names x) (length names) (omega (arith, is, small))))

-- one of those that every verb begins with
pub slot_first : (own : List Text) (x : Text) (k : ℕ) → k ≡ slot_of (known []) x → k < 17 → Some k ≡ found_place (known own) x
slot_first own x k is small =
    let early : slot_of starting_names x < 17 = omega (arith, is, small, known_none x) in
    let at : k ≡ slot_of (known own) x = is ∙ known_none x ∙ sym (slot_starting own x early) in
    let within : k < length (known own) = omega (arith, small, known_count own) in
    found (known own) x k at within

-- another one
pub slot_later : (own : List Text) (x : Text) (k : ℕ) → k ≡ slot_of (known []) x → 17 ≤ k → slot_from 17 own x ≡ found_place (known own) x
slot_later own x k is great =
    let late : 17 ≤ slot_of starting_names x = omega (arith, is, great, known_none x) in
    let at : slot_of (known own) x ≡ 17 + slot_of own x = omega (arith, slot_own own x late, starting_within x, late) in
    ⊎_elim
    (λ small.
    let within : 17 + slot_of own x < length (known own) = omega (arith, small, known_count own) in
    ap (λ b. cond b (Some (17 + slot_of own x)) None) (has_is own x ∙ lt-ltb (slot_of own x) (length own) small)
    ∙ found (known own) x (17 + slot_of own x) (sym at) within)
    (λ no.
    let beyond : length (known own) ≤ slot_of (known own) x = omega (arith, no, at, known_count own) in
    ap (λ b. cond b (Some (17 + slot_of own x)) None) (has_is own x ∙ le-ltb (slot_of own x) (length own) no)
    ∙ sym (ap (λ b. cond b (Some (slot_of (known own) x)) None) (le-ltb (slot_of (known own) x) (length (known own)) beyond)))
    (cases_lt (slot_of own x) (length own))

is_there : {X : Type 0} (b : Bool) (v : X) → is_some (cond b (Some v) None) ≡ b
is_there true v = refl
is_there false v = refl

pub found_has : (names : List Text) (x : Text) → is_some (found_place names x) ≡ has_name names x
found_has names x = is_there (nat_lt (slot_of names x) (length names)) (slot_of names x) ∙ sym (has_is names x)

-- ---- values of variables

pub shown : (b : Bool) (v : Bor Datum) (o : Option (Bor Datum)) → option_map (λ w. w.now) (cond b (Some v) o) ≡ cond b (Some v.now) (option_map (λ w. w.now) o)
shown true v o = refl
shown false v o = refl

pub no_values : (i : ℕ) (vs : List Variable) (x : Text) → length vs ≤ i → None ≡ named (map variable_of (drop i vs)) x
no_values i vs x all = sym (ap (λ us. named (map variable_of us) x) (drop_all i vs all))

-- one variable more, before those that are there
pub values_before : (vs : List Variable) (i : ℕ) (u : Variable) (key : Text) (v : Datum) (m more : BTreeMap (Bor Text) (Bor Datum)) → i < length vs → u ≡ get_or vs i u
    → key ≡ u.name → v ≡ u.value → ((x : Text) → value_at m x ≡ named (map variable_of (drop (suc i) vs)) x)
    → ((x : Text) → value_at more x ≡ cond (bytes_eq key x) (Some v) (value_at m x)) → (x : Text) → value_at more x ≡ named (map variable_of (drop i vs)) x
values_before vs i u key v m more small is keyed valued before put x =
    put x ∙ ap (cond (bytes_eq key x) (Some v)) (before x) ∙ ap (λ w. cond (bytes_eq key x) (Some w) (named (map variable_of (drop (suc i) vs)) x)) valued
    ∙ sym (found_at vs i u x (bytes_eq key x) small is (text_turned x u.name ∙ ap (λ k. bytes_eq k x) (sym keyed)))

pub values_next : (vs : List Variable) (i j : ℕ) (m : BTreeMap (Bor Text) (Bor Datum)) → i ≡ suc j → ((x : Text) → value_at m x ≡ named (map variable_of (drop i vs)) x)
    → (x : Text) → value_at m x ≡ named (map variable_of (drop (suc j) vs)) x
values_next vs i j m e before x = before x ∙ ap (λ i. named (map variable_of (drop i vs)) x) e

pub values_start : (vs : List Variable) (i : ℕ) (m : BTreeMap (Bor Text) (Bor Datum)) → i ≡ 0 → ((x : Text) → value_at m x ≡ named (map variable_of (drop i vs)) x)
    → HasValues (map variable_of vs) m
values_start vs i m e before x = before x ∙ ap (λ i. named (map variable_of (drop i vs)) x) e

-- ---- in a verb

pub in_its_slot : (p : Program) (further : List (Text × Datum)) (slots : List (Option Datum)) (x : Text) (names : List Text) (k : ℕ) → names ≡ names_of p
    → Some k ≡ found_place names x → in_slot (slice_get slots k) ≡ named (variables_with p further slots) x
in_its_slot p further slots x names k same e =
    let is = found_is (names_of p) x k (sym (e ∙ ap (λ ns. found_place ns x) same)) in
    held_in_slot p further slots x k is.1 is.0

pub without_slot : (p : Program) (further es : List (Text × Datum)) (slots : List (Option Datum)) (x : Text) (names : List Text) → names ≡ names_of p → es ≡ further
    → None ≡ found_place names x → named es x ≡ named (variables_with p further slots) x
without_slot p further es slots x names same these e =
    let is = found_not (names_of p) x (sym (e ∙ ap (λ ns. found_place ns x) same)) in
    ap (λ es. named es x) these ∙ held_further p further slots x (length (names_of p)) (sym is) (omega arith)
