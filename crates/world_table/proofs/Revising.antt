-- A record that is changed where it lies.
use Rattle.std.proofs.Common.{◌≡◌, ℕ, ◌+◌, ◌/◌, ◌%◌, ◌<◌, ◌≤◌, Bool, true, false, T, List, length, get_or, set, Some, is_some, refl, sym, ap, subst, ◌∙◌, arith, ⊎_elim, Ok, Err}
use Rattle.std.proofs.Math.Nat.{mod-eq_of_lt}
use Rattle.std.proofs.lemmas.Bool.{cases_lt}
use Rattle.std.specs.Prelude.{Result, IfOk, OnErr}
use Rattle.std.specs.Ordering.{nat_cmp}
use Rattle.std.specs.FinMap.{find, put}
use Rattle.world_table.specs.Branch.{Branch, reach, joined, IsBranch, AreBranches}
use Rattle.world_table.specs.Revised.{Revises}
use Rattle.world_table.proofs.Roots.{put_length_some}
use Rattle.world_table.proofs.Rows.{child_branch, find_there, put_branch, put_within}

-- what holds of a value that is there
pub ok_as : {A E : Type 0} (P Q : A → Type 0) → ((a : A) → P a → Q a) → (r : Result A E) → IfOk r P → IfOk r Q
ok_as P Q f (Ok a) h = f a h
ok_as P Q f (Err e) h = tt

module _ {V : Type 0} (Makes : V → V → Type 0) where
  -- a branch in which something is found has all its levels
  found_full : (l k : ℕ) (x : V) (b : Branch V) → IsBranch l b → find nat_cmp k b.entries ≡ Some x → b.height ≡ l
  found_full l k x b h is =
      let most = h.within in
      ⊎_elim
      (λ (p : b.height < l). absurd (subst T (ap is_some (sym is ∙ ap (find nat_cmp k) (h.lower p))) tt))
      (λ (p : l ≤ b.height). let e : b.height ≡ l = omega arith in e)
      (cases_lt b.height l)

  revised_branch : (l key : ℕ) (b p : Branch V) → IsBranch l b → p.height ≡ b.height → Revises Makes (key % reach b.height) b.entries p.entries → IsBranch l p
  revised_branch l key b p h same r =
      let full = found_full l _ r.before b h r.found in
      put_branch l key r.after b p h (same ∙ full) (r.entries ∙ ap (λ (n : ℕ). put nat_cmp (key % reach n) r.after b.entries) full)

  -- whether the change was made or not, the branch stays one
  pub revised_kept : (l key : ℕ) (done : Bool) (b p : Branch V) → IsBranch l b → p.height ≡ b.height
      → (done ≡ true → Revises Makes (key % reach b.height) b.entries p.entries) → (done ≡ false → p ≡ b) → IsBranch l p
  revised_kept l key done b p h same =
      elim done as (λ d. (d ≡ true → Revises Makes (key % reach b.height) b.entries p.entries) → (d ≡ false → p ≡ b) → IsBranch l p) [
        | true ↦ λ yes no. revised_branch l key b p h same (yes refl)
        | false ↦ λ yes no. subst (IsBranch l) (sym (no refl)) h
      ]

  -- also where it was left for want of memory
  pub revised_by : {E : Type 0} (l key : ℕ) (r : Result Bool E) (b p : Branch V) → IsBranch l b → p.height ≡ b.height
      → IfOk r (λ d. d ≡ true → Revises Makes (key % reach b.height) b.entries p.entries) → IfOk r (λ d. d ≡ false → p ≡ b) → OnErr r (p ≡ b) → IsBranch l p
  revised_by l key (Ok d) b p h same made left err = revised_kept l key d b p h same made left
  revised_by l key (Err e) b p h same made left err = subst (IsBranch l) (sym err) h

  same_length : (l key : ℕ) (b p : Branch V) → IsBranch l b → Revises Makes (key % reach b.height) b.entries p.entries → length b.entries ≡ length p.entries
  same_length l key b p h r =
      sym (ap length r.entries ∙ put_length_some l (key % reach b.height) r.after b (λ x. x) (Some r.before) r.before h refl (sym r.found))

  -- and has as many entries
  pub revised_length : (l key : ℕ) (done : Bool) (b p : Branch V) → IsBranch l b
      → (done ≡ true → Revises Makes (key % reach b.height) b.entries p.entries) → (done ≡ false → p ≡ b) → length b.entries ≡ length p.entries
  revised_length l key done b p h =
      elim done as (λ d. (d ≡ true → Revises Makes (key % reach b.height) b.entries p.entries) → (d ≡ false → p ≡ b) → length b.entries ≡ length p.entries) [
        | true ↦ λ yes no. same_length l key b p h (yes refl)
        | false ↦ λ yes no. ap (λ (c : Branch V). length c.entries) (sym (no refl))
      ]

  pub block_revises : (below key i : ℕ) (bs : List (Branch V)) (b c s : Branch V) → AreBranches below bs → i ≡ key / reach below % 32 → i < length bs → c ≡ get_or bs i c
      → record { height = below + 1; entries = joined (reach below) 0 bs } ≡ s → Revises Makes (key % reach c.height) c.entries b.entries
      → Revises Makes (key % reach s.height) s.entries (joined (reach below) 0 (set bs i b))
  block_revises below key i bs b c s h e p is whole r =
      let full = found_full below _ r.before c (child_branch below i bs c h p is) r.found in
      let new : b.entries ≡ put nat_cmp (key % reach below) r.after c.entries = r.entries ∙ ap (λ (n : ℕ). put nat_cmp (key % reach n) r.after c.entries) full in
      record {
        before = r.before;
        after = r.after;
        found = ap (λ (d : Branch V). find nat_cmp (key % reach d.height) d.entries) (sym whole) ∙ sym (find_there below key i bs c h e p is) ∙ r.found;
        made = r.made;
        entries =
            put_within below (below + 1) key i r.after bs b c s.entries refl h e p is (ap (λ (d : Branch V). d.entries) whole) new
            ∙ ap (λ (n : ℕ). put nat_cmp (key % reach n) r.after s.entries) (ap (λ (d : Branch V). d.height) whole);
      }

  -- a root is read with the whole key
  pub root_revises : (levels key : ℕ) (b p : Branch V) → IsBranch levels b → key < reach levels → Revises Makes (key % reach b.height) b.entries p.entries → Revises Makes key b.entries p.entries
  root_revises levels key b p h low r =
      let full = found_full levels _ r.before b h r.found in
      subst (λ (k : ℕ). Revises Makes k b.entries p.entries) (ap (λ (n : ℕ). key % reach n) full ∙ mod-eq_of_lt low) r
