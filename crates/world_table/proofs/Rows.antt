-- Rows of branches: what a block's entries are, and how a change of one branch changes them.
use Rattle.std.proofs.Common.{Result, Ok, Err, OnOk, OnErr, ◌≡◌, ℕ, zero, suc, ◌+◌, ◌-◌, ◌*◌, ◌/◌, ◌%◌, ◌^◌, ◌<◌, ◌≤◌, List, [], ◌∷◌, ◌++◌, length, get_or, set, take, drop, replicate, None, append-nil, append_assoc, refl, sym, ap, subst, ◌∙◌, arith, zero-add, ⊎_elim}
use Rattle.std.proofs.lemmas.Bool.{cases_lt}
use Rattle.std.proofs.lemmas.List.{get_or_read, get_or_past, take_more, drop_all, length-take, take-append-drop}
use Rattle.std.specs.Ordering.{nat_cmp}
use Rattle.std.specs.FinMap.{find, put}
use Rattle.std.specs.FinMap.Entries.{by_order}
use Rattle.std.proofs.lemmas.Nat.{pow_pos, pow-add, mod-pow-add, mod_below}
use Rattle.world_table.specs.Branch.{Branch, reach, raised, joined, Rises, IsBranch, AreBranches, IsRow, IsAlike, nowhere, with_branch}
use Rattle.world_table.specs.Entries.{without}
use Rattle.world_table.proofs.Rising.{cmp_equal, bounds, from_lower, to_higher, Rises-append, Rises-raised, Rises-put, Rises-without, find_before, find_after, find-raised, put_before, put_after, put-raised, without_before, without_after, without-raised, without_absent}

-- ---- how far levels reach

pub reach-suc : (l : ℕ) → reach (l + 1) ≡ 32 * reach l
reach-suc l = ap (λ (n : ℕ). 2 ^ n) (let e : 5 * (l + 1) ≡ 5 + 5 * l = omega arith in e) ∙ pow-add 2 5 (5 * l)

pub reach_pos : (l : ℕ) → 0 < reach l
reach_pos l = pow_pos (5 * l)

-- the part of a key that one more level reads
pub key_split : (key l : ℕ) → key % reach (l + 1) ≡ (key / reach l % 32) * reach l + key % reach l
key_split key l = ap (λ (n : ℕ). key % 2 ^ n) (let e : 5 * (l + 1) ≡ 5 + 5 * l = omega arith in e) ∙ mod-pow-add key 5 (5 * l)

module _ {V : Type 0} where
  -- ---- a row's keys

  pub own_keys : (l start : ℕ) (b : Branch V) → IsBranch l b → Rises start (start + reach l) (raised start b.entries)
  own_keys l start b h = from_lower (start + 0) start (start + reach l) _ (omega arith) (Rises-raised start 0 (reach l) b.entries h.rises)

  pub row_keys : (l start : ℕ) (bs : List (Branch V)) → AreBranches l bs → Rises start (start + length bs * reach l) (joined (reach l) start bs)
  row_keys l start [] h = omega arith
  row_keys l start (b ∷ bs) h =
      let own : Rises start (start + reach l) (raised start b.entries) = own_keys l start b h.0 in
      let rest : Rises (start + reach l) (start + reach l + length bs * reach l) (joined (reach l) (start + reach l) bs) = row_keys l (start + reach l) bs h.1 in
      to_higher start (start + reach l + length bs * reach l) _ _ (omega arith) (Rises-append start (start + reach l) _ _ _ own rest)

  -- ---- what is found in a row

  pub find-row : (l start key i r : ℕ) (bs : List (Branch V)) → AreBranches l bs → r < reach l → key ≡ start + (i * reach l + r)
      → find nat_cmp key (joined (reach l) start bs) ≡ find nat_cmp r (get_or bs i nowhere).entries
  find-row l start key i r [] h q e = refl
  find-row l start key zero r (b ∷ bs) h q e =
      find_before key (start + reach l) _ (raised start b.entries) _ (omega arith) (row_keys l (start + reach l) bs h.1)
      ∙ ap (λ (k : ℕ). find nat_cmp k (raised start b.entries)) (let f : key ≡ start + r = omega arith in f)
      ∙ find-raised start r b.entries
  find-row l start key (suc i) r (b ∷ bs) h q e =
      find_after key start (start + reach l) (raised start b.entries) _ (omega arith) (own_keys l start b h.0)
      ∙ find-row l (start + reach l) key i r bs h.1 q (omega arith)

  -- ---- a change at one key

  -- it moves with the key, and leaves the entries below and above as they are
  pub record IsLocal (change : ℕ → List (ℕ × V) → List (ℕ × V)) : Type 0 where
    pub moved : (n k : ℕ) (es : List (ℕ × V)) → change (n + k) (raised n es) ≡ raised n (change k es)
    pub before : (k a b : ℕ) (xs ys : List (ℕ × V)) → k < a → Rises a b ys → change k (xs ++ ys) ≡ change k xs ++ ys
    pub after : (k a b : ℕ) (xs ys : List (ℕ × V)) → b ≤ k → Rises a b xs → change k (xs ++ ys) ≡ xs ++ change k ys

  pub put_local : (v : V) → IsLocal (λ k. put nat_cmp k v)
  put_local v = record {
    moved = λ n k es. put-raised n k v es;
    before = λ k a b xs ys. put_before k a b v xs ys;
    after = λ k a b xs ys. put_after k a b v xs ys;
  }

  pub without_local : IsLocal without
  without_local = record { moved = without-raised; before = without_before; after = without_after }

  pub changed_row : (change : ℕ → List (ℕ × V) → List (ℕ × V)) → IsLocal change → (l start key i r : ℕ) (bs : List (Branch V)) (b : Branch V)
      → AreBranches l bs → r < reach l → key ≡ start + (i * reach l + r) → b.entries ≡ change r (get_or bs i nowhere).entries
      → joined (reach l) start (with_branch i b bs) ≡ change key (joined (reach l) start bs)
  changed_row change is l start key zero r [] b h q e new =
      append-nil (raised start b.entries)
      ∙ ap (raised start) new
      ∙ sym (is.moved start r [])
      ∙ ap (λ (k : ℕ). change k []) (let f : start + r ≡ key = omega arith in f)
  changed_row change is l start key (suc i) r [] b h q e new = changed_row change is l (start + reach l) key i r [] b h q (omega arith) new
  changed_row change is l start key zero r (c ∷ cs) b h q e new =
      ap (λ es. raised start es ++ joined (reach l) (start + reach l) cs) new
      ∙ ap (λ es. es ++ joined (reach l) (start + reach l) cs) (sym (is.moved start r c.entries) ∙ ap (λ (k : ℕ). change k (raised start c.entries)) (let f : start + r ≡ key = omega arith in f))
      ∙ sym (is.before key (start + reach l) _ (raised start c.entries) _ (omega arith) (row_keys l (start + reach l) cs h.1))
  changed_row change is l start key (suc i) r (c ∷ cs) b h q e new =
      ap (λ es. raised start c.entries ++ es) (changed_row change is l (start + reach l) key i r cs b h.1 q (omega arith) new)
      ∙ sym (is.after key start (start + reach l) (raised start c.entries) _ (omega arith) (own_keys l start c h.0))

  -- ---- the branches of a row

  pub is_nowhere : (b : Branch V) → b.height ≡ 0 → b.entries ≡ [] → b ≡ nowhere
  is_nowhere b low none = ap (λ (h : ℕ). record { height = h; entries = b.entries }) low ∙ ap (λ (es : List (ℕ × V)). record { height = 0; entries = es }) none

  pub nowhere_branch : (l : ℕ) → IsBranch l (nowhere {V = V})
  nowhere_branch l = record { rises = omega arith; within = omega arith; lower = λ _. refl }

  pub branch_at : (l i : ℕ) (bs : List (Branch V)) → AreBranches l bs → IsBranch l (get_or bs i nowhere)
  branch_at l i [] h = nowhere_branch l
  branch_at l zero (b ∷ bs) h = h.0
  branch_at l (suc i) (b ∷ bs) h = branch_at l i bs h.1

  pub child_branch : (l i : ℕ) (bs : List (Branch V)) (b : Branch V) → AreBranches l bs → i < length bs → b ≡ get_or bs i b → IsBranch l b
  child_branch l i bs b h p is = subst (IsBranch l) (sym (get_or_read bs i b p is nowhere)) (branch_at l i bs h)

  AreBranches-with : (l i : ℕ) (bs : List (Branch V)) (b : Branch V) → AreBranches l bs → IsBranch l b → AreBranches l (with_branch i b bs)
  AreBranches-with l zero [] b h n = (n, tt)
  AreBranches-with l zero (c ∷ cs) b h n = (n, h.1)
  AreBranches-with l (suc i) [] b h n = (nowhere_branch l, AreBranches-with l i [] b h n)
  AreBranches-with l (suc i) (c ∷ cs) b h n = (h.0, AreBranches-with l i cs b h.1 n)

  length-with : (i n : ℕ) (bs : List (Branch V)) (b : Branch V) → length bs ≤ n → i < n → length (with_branch i b bs) ≤ n
  length-with zero n [] b p q = omega arith
  length-with zero n (c ∷ cs) b p q = omega arith
  length-with (suc i) n [] b p q = let rest = length-with i (n - 1) [] b (omega arith) (omega arith) in omega arith
  length-with (suc i) n (c ∷ cs) b p q = let rest = length-with i (n - 1) cs b (omega arith) (omega arith) in omega arith

  pub is_row_with : (l i : ℕ) (bs : List (Branch V)) (b : Branch V) → IsRow l bs → i < 32 → IsBranch l b → IsRow l (with_branch i b bs)
  is_row_with l i bs b row p n = record { size = length-with i 32 bs b row.size p; branches = AreBranches-with l i bs b row.branches n }

  -- a write to a place that there is
  pub set_is : (i : ℕ) (bs : List (Branch V)) (b : Branch V) → i < length bs → set bs i b ≡ with_branch i b bs
  set_is i [] b p = absurd (omega arith)
  set_is zero (c ∷ cs) b p = refl
  set_is (suc i) (c ∷ cs) b p = ap (λ (ds : List (Branch V)). c ∷ ds) (set_is i cs b (omega arith))

  -- what is built of the branches before the place, of empty ones, of the one at the place, and of those after it
  with_none : (i : ℕ) (b : Branch V) → replicate i nowhere ++ b ∷ [] ≡ with_branch i b []
  with_none zero b = refl
  with_none (suc i) b = ap (λ (ds : List (Branch V)). nowhere ∷ ds) (with_none i b)

  with_is : (i n : ℕ) (bs : List (Branch V)) (b : Branch V) → n ≡ i - length bs → take i bs ++ replicate n nowhere ++ b ∷ drop (suc i) bs ≡ with_branch i b bs
  with_is zero n [] b e = ap (λ (m : ℕ). replicate m nowhere ++ b ∷ []) (let none : n ≡ 0 = omega arith in none)
  with_is zero n (c ∷ cs) b e = ap (λ (m : ℕ). replicate m nowhere ++ b ∷ cs) (let none : n ≡ 0 = omega arith in none)
  with_is (suc i) n [] b e = ap (λ (m : ℕ). replicate m nowhere ++ b ∷ []) (let all : n ≡ suc i = omega arith in all) ∙ with_none (suc i) b
  with_is (suc i) n (c ∷ cs) b e = ap (λ (ds : List (Branch V)). c ∷ ds) (with_is i n cs b (omega arith))

  pub with_built : (i n : ℕ) (bs front rest : List (Branch V)) (b : Branch V) → n ≡ i - length bs → front ≡ take i bs ++ replicate n nowhere ++ b ∷ [] → rest ≡ drop (i + 1) bs
      → front ++ rest ≡ with_branch i b bs
  with_built i n bs front rest b e is end =
      ap (λ (ds : List (Branch V)). ds ++ rest) is
      ∙ append_assoc (take i bs ++ replicate n nowhere) (b ∷ []) rest
      ∙ ap (λ (ds : List (Branch V)). take i bs ++ replicate n nowhere ++ b ∷ ds) (end ∙ ap (λ (m : ℕ). drop m bs) (let up : i + 1 ≡ suc i = omega arith in up))
      ∙ with_is i n bs b e

  pub with_last : (i n : ℕ) (bs front : List (Branch V)) (b : Branch V) → n ≡ i - length bs → length bs ≤ i → front ≡ take i bs ++ replicate n nowhere ++ b ∷ []
      → front ≡ with_branch i b bs
  with_last i n bs front b e p is = sym (append-nil front) ∙ with_built i n bs front [] b e is (sym (drop_all (i + 1) bs (omega arith)))

  -- ---- empty branches behind

  joined_behind : (w start : ℕ) (bs : List (Branch V)) (b : Branch V) → b.entries ≡ [] → joined w start (bs ++ b ∷ []) ≡ joined w start bs
  joined_behind w start [] b e = ap (λ es. raised start es ++ []) e
  joined_behind w start (c ∷ cs) b e = ap (λ es. raised start c.entries ++ es) (joined_behind w (start + w) cs b e)

  pub AreBranches-front : (l : ℕ) (bs cs : List (Branch V)) → AreBranches l (bs ++ cs) → AreBranches l bs
  AreBranches-front l [] cs h = tt
  AreBranches-front l (b ∷ bs) cs h = (h.0, AreBranches-front l bs cs h.1)

  joined_vacant : (w start n : ℕ) (bs : List (Branch V)) → joined w start (bs ++ replicate n nowhere) ≡ joined w start bs
  joined_vacant w start zero [] = refl
  joined_vacant w start (suc n) [] = joined_vacant w (start + w) n []
  joined_vacant w start n (c ∷ cs) = ap (λ es. raised start c.entries ++ es) (joined_vacant w (start + w) n cs)

  AreBranches-vacant : (l n : ℕ) (bs : List (Branch V)) → AreBranches l bs → AreBranches l (bs ++ replicate n nowhere)
  AreBranches-vacant l zero [] h = tt
  AreBranches-vacant l (suc n) [] h = (nowhere_branch l, AreBranches-vacant l n [] h)
  AreBranches-vacant l n (c ∷ cs) h = (h.0, AreBranches-vacant l n cs h.1)

  pub alike_same : (bs : List (Branch V)) → IsAlike bs bs
  alike_same bs = record { entries = λ w s. refl; branches = λ l h. h }

  pub alike_vacant : (n : ℕ) (bs : List (Branch V)) → IsAlike bs (bs ++ replicate n nowhere)
  alike_vacant n bs = record { entries = λ w s. joined_vacant w s n bs; branches = λ l h. AreBranches-vacant l n bs h }

  pub alike_less : (old bs : List (Branch V)) (i : ℕ) (b : Branch V) → i < length bs → b ≡ get_or bs i b → b.entries ≡ [] → IsAlike old (take (i + 1) bs) → IsAlike old (take i bs)
  alike_less old bs i b p at none is =
      let more : take (i + 1) bs ≡ take i bs ++ b ∷ [] = take_more bs i b p ∙ ap (λ (c : Branch V). take i bs ++ c ∷ []) (sym at) in
      record {
        entries = λ w s. sym (joined_behind w s (take i bs) b none) ∙ ap (joined w s) (sym more) ∙ is.entries w s;
        branches = λ l h. AreBranches-front l (take i bs) (b ∷ []) (subst (AreBranches l) more (is.branches l h));
      }

  -- the last branch, which is empty now, may be left out
  pub last_vacated : (w start i : ℕ) (bs : List (Branch V)) (b : Branch V) → i + 1 ≡ length bs → b.entries ≡ [] → joined w start (with_branch i b bs) ≡ joined w start (take i bs)
  last_vacated w start i [] b p e = absurd (omega arith)
  last_vacated w start zero (c ∷ []) b p e = ap (λ es. raised start es ++ []) e
  last_vacated w start zero (c ∷ d ∷ cs) b p e = absurd (omega arith)
  last_vacated w start (suc i) (c ∷ cs) b p e = ap (λ es. raised start c.entries ++ es) (last_vacated w (start + w) i cs b (omega arith) e)

  -- ---- the block above a row

  -- what is asked of a lower branch, which is empty, may be asked with more of the key
  pub at_levels : {X : Type 0} (f : ℕ → List (ℕ × V) → X) → ((j k : ℕ) → f j [] ≡ f k []) → (l key : ℕ) (b : Branch V) → IsBranch l b
      → f (key % reach b.height) b.entries ≡ f (key % reach l) b.entries
  at_levels f same l key b h =
      let most = h.within in
      ⊎_elim
      (λ (p : b.height < l). subst (λ es. f (key % reach b.height) es ≡ f (key % reach l) es) (sym (h.lower p)) (same _ _))
      (λ (p : l ≤ b.height). ap (λ (n : ℕ). f (key % reach n) b.entries) (let e : b.height ≡ l = omega arith in e))
      (cases_lt b.height l)

  pub find_block : (l key i : ℕ) (bs : List (Branch V)) → AreBranches l bs → i ≡ key / reach l % 32
      → find nat_cmp (key % reach l) (get_or bs i nowhere).entries ≡ find nat_cmp (key % reach (l + 1)) (joined (reach l) 0 bs)
  find_block l key i bs h e =
      sym (find-row l 0 (key % reach (l + 1)) i (key % reach l) bs h (mod_below key (reach l) (reach_pos l))
      (key_split key l ∙ ap (λ (j : ℕ). j * reach l + key % reach l) (sym e) ∙ sym (zero-add _)))

  pub find_there : (l key i : ℕ) (bs : List (Branch V)) (b : Branch V) → AreBranches l bs → i ≡ key / reach l % 32 → i < length bs → b ≡ get_or bs i b
      → find nat_cmp (key % reach b.height) b.entries ≡ find nat_cmp (key % reach (l + 1)) (joined (reach l) 0 bs)
  find_there l key i bs b h e p is =
      at_levels (find nat_cmp) (λ j k. refl) l key b (child_branch l i bs b h p is)
      ∙ ap (λ (c : Branch V). find nat_cmp (key % reach l) c.entries) (get_or_read bs i b p is nowhere)
      ∙ find_block l key i bs h e

  pub find_behind : (l key i : ℕ) (bs : List (Branch V)) → AreBranches l bs → i ≡ key / reach l % 32 → length bs ≤ i
      → None ≡ find nat_cmp (key % reach (l + 1)) (joined (reach l) 0 bs)
  find_behind l key i bs h e p = ap (λ (c : Branch V). find nat_cmp (key % reach l) c.entries) (sym (get_or_past bs i nowhere p)) ∙ find_block l key i bs h e

  pub changed_block : (change : ℕ → List (ℕ × V) → List (ℕ × V)) → IsLocal change → (l key i : ℕ) (bs : List (Branch V)) (b : Branch V)
      → AreBranches l bs → i ≡ key / reach l % 32 → b.entries ≡ change (key % reach l) (get_or bs i nowhere).entries
      → joined (reach l) 0 (with_branch i b bs) ≡ change (key % reach (l + 1)) (joined (reach l) 0 bs)
  changed_block change is l key i bs b h e new =
      changed_row change is l 0 (key % reach (l + 1)) i (key % reach l) bs b h (mod_below key (reach l) (reach_pos l))
      (key_split key l ∙ ap (λ (j : ℕ). j * reach l + key % reach l) (sym e) ∙ sym (zero-add _)) new

-- ---- a branch with one record more

-- at the last level
alone : {V : Type 0} (k high : ℕ) (v : V) (es : List (ℕ × V)) → k ≡ 0 → high ≤ 1 → Rises 0 high es → (0, v) ∷ [] ≡ put nat_cmp k v es
alone k high v [] e p h = ap (λ (n : ℕ). (n, v) ∷ []) (sym e)
alone k high v (x ∷ []) e p h =
    let top : x.0 + 1 ≤ high = h.1 in
    let first : x.0 ≡ 0 = omega arith in
    ap (λ (n : ℕ). (n, v) ∷ []) (sym first) ∙ ap (λ r. by_order r ((k, v) ∷ x ∷ []) ((x.0, v) ∷ []) (x ∷ (k, v) ∷ [])) (sym (cmp_equal k x.0 (omega arith)))
alone k high v (x ∷ y ∷ es) e p h =
    let next : x.0 + 1 ≤ y.0 = h.1.0 in
    let top = bounds (y.0 + 1) high es h.1.1 in
    absurd (omega arith)

pub put_record : {V : Type 0} (l key : ℕ) (v : V) (b : Branch V) → IsBranch l b → l ≡ 0 → (0, v) ∷ [] ≡ put nat_cmp (key % reach l) v b.entries
put_record l key v b h e =
    let one : reach l ≡ 1 = ap reach e in
    let low = mod_below key (reach l) (reach_pos l) in
    alone (key % reach l) (reach l) v b.entries (omega arith) (omega arith) h.rises

pub put_branch : {V : Type 0} (l key : ℕ) (v : V) (b p : Branch V) → IsBranch l b → p.height ≡ l → p.entries ≡ put nat_cmp (key % reach l) v b.entries → IsBranch l p
put_branch l key v b p h e new = record {
  rises = subst (Rises 0 (reach l)) (sym new) (Rises-put 0 (reach l) (key % reach l) v b.entries (omega arith) (mod_below key (reach l) (reach_pos l)) h.rises);
  within = omega arith;
  lower = λ q. absurd (omega arith);
}

-- ---- a block with one branch changed

pub put_block : {V : Type 0} (levels key i : ℕ) (v : V) (bs : List (Branch V)) (b c : Branch V) (es : List (ℕ × V)) → 0 < levels → AreBranches (levels - 1) bs
    → i ≡ key / reach (levels - 1) % 32 → c.entries ≡ (get_or bs i nowhere).entries → b.entries ≡ put nat_cmp (key % reach (levels - 1)) v c.entries → es ≡ joined (reach (levels - 1)) 0 bs
    → joined (reach (levels - 1)) 0 (with_branch i b bs) ≡ put nat_cmp (key % reach levels) v es
put_block levels key i v bs b c es above h e is new whole =
    changed_block (λ k. put nat_cmp k v) (put_local v) (levels - 1) key i bs b h e (new ∙ ap (put nat_cmp (key % reach (levels - 1)) v) is)
    ∙ ap (λ (n : ℕ). put nat_cmp (key % reach n) v (joined (reach (levels - 1)) 0 bs)) (let up : levels - 1 + 1 ≡ levels = omega arith in up)
    ∙ ap (put nat_cmp (key % reach levels) v) (sym whole)

-- ---- a branch with one record less

pub without_branch : {V : Type 0} (l k : ℕ) (b p : Branch V) → IsBranch l b → p.height ≤ b.height → (p.height < b.height → p.entries ≡ []) → p.entries ≡ without k b.entries → IsBranch l p
without_branch l k b p h low empty new = let most = h.within in record {
  rises = subst (Rises 0 (reach l)) (sym new) (Rises-without 0 (reach l) k b.entries h.rises);
  within = omega arith;
  lower = λ q. ⊎_elim empty (λ (r : b.height ≤ p.height). new ∙ ap (without k) (h.lower (omega arith))) (cases_lt p.height b.height);
}

pub without_block : {V : Type 0} (below key i : ℕ) (bs : List (Branch V)) (b c s : Branch V) → AreBranches below bs → i ≡ key / reach below % 32 → i < length bs → c ≡ get_or bs i c
    → b.entries ≡ without (key % reach c.height) c.entries → record { height = below + 1; entries = joined (reach below) 0 bs } ≡ s
    → joined (reach below) 0 (with_branch i b bs) ≡ without (key % reach s.height) s.entries
without_block {V} below key i bs b c s h e p is new whole =
    changed_block without without_local below key i bs b h e
    (new ∙ at_levels without (λ j k. refl) below key c (child_branch below i bs c h p is) ∙ ap (λ (d : Branch V). without (key % reach below) d.entries) (get_or_read bs i c p is nowhere))
    ∙ ap (λ (d : Branch V). without (key % reach d.height) d.entries) whole

-- where the row does not reach the place, there is no such record
pub without_behind : {V : Type 0} (below key i : ℕ) (bs : List (Branch V)) (s : Branch V) → AreBranches below bs → i ≡ key / reach below % 32 → length bs ≤ i
    → record { height = below + 1; entries = joined (reach below) 0 bs } ≡ s → s.entries ≡ without (key % reach s.height) s.entries
without_behind {V} below key i bs s h e p whole =
    let none = find_behind below key i bs h e p ∙ ap (λ (d : Branch V). find nat_cmp (key % reach d.height) d.entries) whole in
    sym (without_absent (key % reach s.height) s.entries (sym none))

-- ---- rows that are made shorter or longer

pub row_alike : {V : Type 0} (l : ℕ) (old new : List (Branch V)) → IsRow l old → IsAlike old new → length new ≤ 32 → IsRow l new
row_alike l old new row is p = record { size = p; branches = is.branches l row.branches }

pub row_set : {V : Type 0} (l i : ℕ) (bs : List (Branch V)) (b : Branch V) → IsRow l bs → i < length bs → IsBranch l b → IsRow l (set bs i b)
row_set l i bs b row p n = subst (IsRow l) (sym (set_is i bs b p)) (is_row_with l i bs b row (let most = row.size in omega arith) n)

pub row_cut : {V : Type 0} (l n : ℕ) (bs : List (Branch V)) → IsRow l bs → IsRow l (take n bs)
row_cut l n bs row = record {
  size = let most = row.size in let len = length-take n bs in omega arith;
  branches = AreBranches-front l (take n bs) (drop n bs) (subst (AreBranches l) (sym (take-append-drop n bs)) row.branches);
}

-- the last branch is empty now, and is left out with the empty ones before it
pub without_last : {V : Type 0} (below key i n : ℕ) (bs part : List (Branch V)) (b c s : Branch V) → AreBranches below bs → i ≡ key / reach below % 32 → i + 1 ≡ length bs → c ≡ get_or bs i c
    → b.entries ≡ [] → b.entries ≡ without (key % reach c.height) c.entries → record { height = below + 1; entries = joined (reach below) 0 bs } ≡ s → part ≡ take i bs → IsAlike part (take n part)
    → joined (reach below) 0 (take n part) ≡ without (key % reach s.height) s.entries
without_last below key i n bs part b c s h e last is none new whole front alike =
    alike.entries (reach below) 0
    ∙ ap (joined (reach below) 0) front
    ∙ sym (last_vacated (reach below) 0 i bs b last none)
    ∙ without_block below key i bs b c s h e (omega arith) is new whole

-- ---- changes in place

-- whether the change was made or not, the branch stays one
pub put_kept : {V T E : Type 0} (r : Result T E) (l key : ℕ) (v : V) (b p : Branch V) → IsBranch l b → OnOk r (p.height ≡ l) → OnOk r (p.entries ≡ put nat_cmp (key % reach l) v b.entries) → OnErr r (p ≡ b) → IsBranch l p
put_kept (Ok x) l key v b p h height entries err = put_branch l key v b p h height entries
put_kept (Err e) l key v b p h height entries err = subst (IsBranch l) (sym err) h

pub put_within : {V : Type 0} (below levels key i : ℕ) (v : V) (bs : List (Branch V)) (b c : Branch V) (es : List (ℕ × V)) → below + 1 ≡ levels → AreBranches below bs → i ≡ key / reach below % 32 → i < length bs
    → c ≡ get_or bs i c → joined (reach below) 0 bs ≡ es → b.entries ≡ put nat_cmp (key % reach below) v c.entries
    → joined (reach below) 0 (set bs i b) ≡ put nat_cmp (key % reach levels) v es
put_within {V} below levels key i v bs b c es up h e p is whole new =
    ap (joined (reach below) 0) (set_is i bs b p)
    ∙ changed_block (λ k. put nat_cmp k v) (put_local v) below key i bs b h e (new ∙ ap (λ (d : Branch V). put nat_cmp (key % reach below) v d.entries) (get_or_read bs i c p is nowhere))
    ∙ ap (λ (n : ℕ). put nat_cmp (key % reach n) v (joined (reach below) 0 bs)) up
    ∙ ap (put nat_cmp (key % reach levels) v) whole
