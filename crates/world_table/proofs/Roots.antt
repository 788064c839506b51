-- What is said of a whole table: its root is read with the whole key.
use Rattle.std.proofs.Common.{◌≡◌, ℕ, zero, suc, ◌+◌, ◌-◌, ◌*◌, ◌/◌, ◌%◌, ◌^◌, ◌<◌, ◌≤◌, ◌==◌, ◌↔◌, Bool, true, false, cond, T, IsTrue, List, [], ◌∷◌, length, get_or, Option, Some, None, is_some, option_map, refl, sym, ap, subst, ◌∙◌, arith, eqb→eq, eq-eqb, zero-add, zero-mul, ⊎_elim}
use Rattle.std.proofs.lemmas.Bool.{cases_lt}
use Rattle.std.proofs.Math.Nat.{mod-eq_of_lt, pow-le-pow_right}
use Rattle.std.proofs.lemmas.Nat.{pow_pos, shr_split, shr_below, mod_below}
use Rattle.std.proofs.lemmas.Float.{T_from_true}
use Rattle.std.specs.Cmp.{nat_cmp_total}
use Rattle.std.specs.Ordering.{nat_cmp}
use Rattle.std.specs.FinMap.{find, put, is_sorted}
use Rattle.std.specs.FinMap.Entries.{length-put, length_without}
use Rattle.world_table.specs.Branch.{Branch, reach, Rises, IsBranch}
use Rattle.world_table.specs.Entries.{without}
use Rattle.world_table.proofs.Rising.{bounds, sorted, find_above, length_within}
use Rattle.world_table.proofs.Rows.{at_levels}

-- ---- which keys fit

pub fits_decides : (key k : ℕ) → IsTrue (key / 2 ^ k == 0) ↔ key < 2 ^ k
fits_decides key k = (
  λ e. let none : key / 2 ^ k ≡ 0 = eqb→eq (key / 2 ^ k) 0 (T_from_true _ e) in
      let whole : key / 2 ^ k * 2 ^ k + key % 2 ^ k ≡ key = shr_split key k in
      let nothing : key / 2 ^ k * 2 ^ k ≡ 0 = ap (λ (n : ℕ). n * 2 ^ k) none ∙ zero-mul (2 ^ k) in
      let low = mod_below key (2 ^ k) (pow_pos k) in omega arith,
  λ h. eq-eqb (key / 2 ^ k) 0 (let one : key / 2 ^ k < 2 ^ 0 = shr_below key 0 k (subst (λ (n : ℕ). key < 2 ^ n) (sym (zero-add k)) h) in omega arith),
)

pub reach_bound : (levels : ℕ) → levels ≤ 12 → reach levels ≤ 2 ^ 60
reach_bound levels h = pow-le-pow_right {n = 2} (omega arith) {i = 5 * levels} {j = 60} (omega arith)

is_true : (b : Bool) → T b → b ≡ true
is_true true h = refl
is_true false h = absurd h

module _ {V : Type 0} where
  -- ---- what is found and changed

  pub find_root : (levels key : ℕ) (b : Branch V) → IsBranch levels b → key < reach levels → find nat_cmp (key % reach b.height) b.entries ≡ find nat_cmp key b.entries
  find_root levels key b h p = at_levels (find nat_cmp) (λ j k. refl) levels key b h ∙ ap (λ (k : ℕ). find nat_cmp k b.entries) (mod-eq_of_lt p)

  pub without_root : (levels key : ℕ) (b : Branch V) → IsBranch levels b → key < reach levels → without (key % reach b.height) b.entries ≡ without key b.entries
  without_root levels key b h p = at_levels without (λ j k. refl) levels key b h ∙ ap (λ (k : ℕ). without k b.entries) (mod-eq_of_lt p)

  pub find_beyond : (levels key : ℕ) (b : Branch V) → IsBranch levels b → reach levels ≤ key → find nat_cmp key b.entries ≡ None
  find_beyond levels key b h p = find_above key 0 (reach levels) b.entries p h.rises

  not_some : (x : V) → Some x ≡ None → ⊥
  not_some x e = subst T (ap is_some e) tt

  pub found_within : (levels key : ℕ) (x : V) (b : Branch V) → IsBranch levels b → Some x ≡ find nat_cmp key b.entries → key < reach levels
  found_within levels key x b h is =
      ⊎_elim (λ (p : key < reach levels). p) (λ (p : reach levels ≤ key). absurd (not_some x (is ∙ find_beyond levels key b h p))) (cases_lt key (reach levels))

  -- ---- how many entries there are

  pub entries_bound : (levels : ℕ) (b : Branch V) → levels ≤ 12 → IsBranch levels b → length b.entries ≤ 2 ^ 60
  entries_bound levels b p h = let most = length_within 0 (reach levels) b.entries h.rises in let bound = reach_bound levels p in omega arith

  put_length : (levels key : ℕ) (v : V) (b : Branch V) → IsBranch levels b → length (put nat_cmp key v b.entries) ≡ cond (is_some (find nat_cmp key b.entries)) (length b.entries) (length b.entries + 1)
  put_length levels key v b h = length-put nat_cmp nat_cmp_total key v b.entries (sorted 0 (reach levels) b.entries h.rises)

  -- o is what was found, and r the answer in the program
  pub put_length_some : {T : Type 0} (levels key : ℕ) (v : V) (b : Branch V) (f : T → V) (r : Option T) (x : T) → IsBranch levels b → r ≡ Some x → option_map f r ≡ find nat_cmp key b.entries
      → length (put nat_cmp key v b.entries) ≡ length b.entries
  put_length_some levels key v b f r x h is found = put_length levels key v b h ∙ ap (λ o. cond (is_some o) (length b.entries) (length b.entries + 1)) (sym found ∙ ap (option_map f) is)

  pub put_length_none : {T : Type 0} (levels key : ℕ) (v : V) (b : Branch V) (f : T → V) (r : Option T) → IsBranch levels b → r ≡ None → option_map f r ≡ find nat_cmp key b.entries
      → length (put nat_cmp key v b.entries) ≡ length b.entries + 1
  put_length_none levels key v b f r h is found = put_length levels key v b h ∙ ap (λ o. cond (is_some o) (length b.entries) (length b.entries + 1)) (sym found ∙ ap (option_map f) is)

  without_length : (levels key : ℕ) (b : Branch V) → IsBranch levels b → cond (is_some (find nat_cmp key b.entries)) 1 0 + length (without key b.entries) ≡ length b.entries
  without_length levels key b h = length_without nat_cmp nat_cmp_total key b.entries (sorted 0 (reach levels) b.entries h.rises)

  pub without_length_some : (levels key : ℕ) (b : Branch V) → IsBranch levels b → is_some (find nat_cmp key b.entries) ≡ true → length (without key b.entries) ≡ length b.entries - 1
  without_length_some levels key b h is =
      let whole : 1 + length (without key b.entries) ≡ length b.entries = ap (λ t. cond t 1 0 + length (without key b.entries)) (sym is) ∙ without_length levels key b h in
      omega arith

  -- ---- the order and the bound of the keys

  pub root_sorted : (levels : ℕ) (b : Branch V) → IsBranch levels b → IsTrue (is_sorted nat_cmp b.entries)
  root_sorted levels b h = is_true (is_sorted nat_cmp b.entries) (sorted 0 (reach levels) b.entries h.rises)

  each_below : (low high : ℕ) (es : List (ℕ × V)) → Rises low high es → (k : ℕ) (d : ℕ × V) → k < length es → (get_or es k d).0 < high
  each_below low high [] h k d p = absurd (omega arith)
  each_below low high (e ∷ es) h zero d p = let most = bounds (e.0 + 1) high es h.1 in omega arith
  each_below low high (e ∷ es) h (suc k) d p = each_below (e.0 + 1) high es h.1 k d (omega arith)

  pub root_within : (levels : ℕ) (b : Branch V) → IsBranch levels b → (k : ℕ) (d : ℕ × V) → k < length b.entries → (get_or b.entries k d).0 < reach levels
  root_within levels b h = each_below 0 (reach levels) b.entries h.rises
