-- Tables stay sound, and what a sound table is.
use Rattle.std.proofs.Common.{◌≡◌, ℕ, ◌+◌, ◌<◌, ◌==◌, suc, Bool, true, false, cond, not, List, [], ◌∷◌, ◌++◌, length, refl, sym, ◌∙◌, arith, Ordering, Less, Equal, Greater, Some, unwrap_or}
use Rattle.std.specs.List.{AllByRecursion, All}
use Rattle.std.specs.List.Sorted.{IsStrictlySortedBy}
use Rattle.std.specs.Ordering.{nat_cmp, eq_by_cmp}
use Rattle.std.specs.FinMap.{find, put}
use Rattle.std.specs.FinMap.Entries.{by_order}
use Rattle.std.proofs.lemmas.Bool.Decides.{nat_tests}
use Rattle.std.proofs.lemmas.List.Elements.{All-from_recursion}
use Rattle.world_table.specs.Branch.{Rises}
use Rattle.world_table.proofs.Rising.{Rises-put, Rises-without, bounds}
use Rattle.due_table.specs.Order.{with_item, without_item}
use Rattle.due_table.specs.Pairs.{pair_cmp}
use Rattle.due_table.specs.Held.{AreKeys, IsSound, at_moment, pairs_of, keys_at, kept_at}
use Rattle.due_table.proofs.Ranked.{all_kept, first_key, keys_with, keys_without}
use Rattle.due_table.proofs.Later.{AreLater, pairs_later, earlier, same_moment}

abbrev Moments : Type 0
Moments = List (ℕ × List ℕ)

abbrev AllHeld : Moments → Type 0
AllHeld = AllByRecursion (λ e. AreKeys e.1)

held_put : (m : ℕ) (ks : List ℕ) (es : Moments) → AreKeys ks → AllHeld es → AllHeld (put nat_cmp m ks es)
held_put m ks [] own h = (own, tt)
held_put m ks (e ∷ es) own h = go (nat_cmp m e.0) (held_put m ks es own h.1)
  where
    go : (r : Ordering) → AllHeld (put nat_cmp m ks es) → AllHeld (by_order r ((m, ks) ∷ e ∷ es) ((e.0, ks) ∷ es) (e ∷ put nat_cmp m ks es))
    go Less rest = (own, h)
    go Equal rest = (own, h.1)
    go Greater rest = (h.0, rest)

held_with : (m k : ℕ) (es : Moments) → k < 4294967296 → AllHeld es → AreKeys (with_item nat_cmp k (keys_at m es))
held_with m k [] p h = first_key k p
held_with m k (e ∷ es) p h = go (eq_by_cmp nat_cmp m e.0) (held_with m k es p h.1)
  where
    go : (b : Bool) → AreKeys (with_item nat_cmp k (keys_at m es)) → AreKeys (with_item nat_cmp k (unwrap_or (cond b (Some e.1) (find nat_cmp m es)) []))
    go true rest = keys_with k e.1 p h.0
    go false rest = rest

held_without : (m k : ℕ) (es : Moments) → AllHeld es → 0 < length (without_item nat_cmp k (keys_at m es)) → AreKeys (without_item nat_cmp k (keys_at m es))
held_without m k [] h p = absurd (omega arith)
held_without m k (e ∷ es) h p = go (eq_by_cmp nat_cmp m e.0) (held_without m k es h.1) p
  where
    go : (b : Bool) → (0 < length (without_item nat_cmp k (keys_at m es)) → AreKeys (without_item nat_cmp k (keys_at m es)))
        → 0 < length (without_item nat_cmp k (unwrap_or (cond b (Some e.1) (find nat_cmp m es)) [])) → AreKeys (without_item nat_cmp k (unwrap_or (cond b (Some e.1) (find nat_cmp m es)) []))
    go true rest p = keys_without k e.1 p h.0
    go false rest p = rest p

sound_kept : (m : ℕ) (ks : List ℕ) (es : Moments) → m < 4294967296 → (0 < length ks → AreKeys ks) → IsSound es → IsSound (kept_at m ks es)
sound_kept m [] es p own h = (Rises-without 0 4294967296 m es h.0, all_kept (λ e. AreKeys e.1) (λ e. not (eq_by_cmp nat_cmp m e.0)) es h.1)
sound_kept m (k ∷ ks) es p own h = (Rises-put 0 4294967296 m (k ∷ ks) es (omega arith) p h.0, held_put m (k ∷ ks) es (own (omega arith)) h.1)

pub sound_with : (m k : ℕ) (es : Moments) → m < 4294967296 → k < 4294967296 → IsSound es → IsSound (put nat_cmp m (with_item nat_cmp k (keys_at m es)) es)
sound_with m k es p q h =
    let own = held_with m k es q h.1 in
    (Rises-put 0 4294967296 m (with_item nat_cmp k (keys_at m es)) es (omega arith) p h.0, held_put m (with_item nat_cmp k (keys_at m es)) es own h.1)

pub sound_without : (m k : ℕ) (es : Moments) → m < 4294967296 → IsSound es → IsSound (kept_at m (without_item nat_cmp k (keys_at m es)) es)
sound_without m k es p h = sound_kept m (without_item nat_cmp k (keys_at m es)) es p (held_without m k es h.1) h

pub nothing_held : IsSound []
nothing_held = (omega arith, tt)

-- ---- what a sound table is

own_later : (m k : ℕ) (ks : List ℕ) (ps : List (ℕ × ℕ)) → AllByRecursion (λ j. nat_cmp k j ≡ Less) ks → AreLater m ps → AllByRecursion (λ q. pair_cmp nat_cmp (m, k) q ≡ Less) (at_moment m ks ++ ps)
own_later m k [] [] h l = tt
own_later m k [] (q ∷ qs) h l = (earlier (m, k) q l.0, own_later m k [] qs h l.1)
own_later m k (j ∷ js) ps h l = (same_moment m k j ∙ h.0, own_later m k js ps h.1 l)

own_sorted : (m : ℕ) (ks : List ℕ) (ps : List (ℕ × ℕ)) → IsStrictlySortedBy nat_cmp ks → AreLater m ps → IsStrictlySortedBy (pair_cmp nat_cmp) ps → IsStrictlySortedBy (pair_cmp nat_cmp) (at_moment m ks ++ ps)
unfolding IsStrictlySortedBy
own_sorted m [] ps h l rest = rest
own_sorted m (k ∷ ks) ps h l rest = (own_later m k ks ps h.0 l, own_sorted m ks ps h.1 l rest)

rising_pairs : (low high : ℕ) (es : Moments) → Rises low high es → AllHeld es → IsStrictlySortedBy (pair_cmp nat_cmp) (pairs_of es)
unfolding IsStrictlySortedBy
rising_pairs low high [] h held = tt
rising_pairs low high (e ∷ es) h held =
    own_sorted e.0 e.1 (pairs_of es) held.0.sorted (pairs_later e.0 (e.0 + 1) high es (omega arith) h.1) (rising_pairs (e.0 + 1) high es h.1 held.1)

pub sorted_pairs : (es : Moments) → IsSound es → IsStrictlySortedBy (pair_cmp nat_cmp) (pairs_of es)
sorted_pairs es h = rising_pairs 0 4294967296 es h.0 h.1

abbrev pub IsWithin : ℕ × ℕ → Type 0
IsWithin p = (p.0 < 4294967296) × (p.1 < 4294967296)

own_within : (m : ℕ) (ks : List ℕ) (ps : List (ℕ × ℕ)) → m < 4294967296 → AllByRecursion (λ k. k < 4294967296) ks → AllByRecursion IsWithin ps → AllByRecursion IsWithin (at_moment m ks ++ ps)
own_within m [] ps p h rest = rest
own_within m (k ∷ ks) ps p h rest = ((p, h.0), own_within m ks ps p h.1 rest)

pub each_within : (low : ℕ) (es : Moments) → Rises low 4294967296 es → AllHeld es → AllByRecursion IsWithin (pairs_of es)
each_within low [] h held = tt
each_within low (e ∷ es) h held =
    let most = bounds (e.0 + 1) 4294967296 es h.1 in
    own_within e.0 e.1 (pairs_of es) (omega arith) held.0.within (each_within (e.0 + 1) es h.1 held.1)

pub pairs_within : (es : Moments) → IsSound es → All IsWithin (pairs_of es)
pairs_within es h = All-from_recursion IsWithin (pairs_of es) (each_within 0 es h.0 h.1)

some_there : (n : ℕ) → (suc n == 0) ≡ false
some_there n = grind (arith, nat_tests)

pub no_pairs : (es : Moments) → IsSound es → (length es == 0) ≡ (length (pairs_of es) == 0)
no_pairs [] h = refl
no_pairs (e ∷ es) h = some_there (length es) ∙ sym (go e.1 h.1.0.some)
  where
    go : (ks : List ℕ) → 0 < length ks → (length (at_moment e.0 ks ++ pairs_of es) == 0) ≡ false
    go [] p = absurd (omega arith)
    go (k ∷ ks) p = some_there (length (at_moment e.0 ks ++ pairs_of es))
