-- The first of some changes, one after another.
use Rattle.std.proofs.Common.{◌≡◌, ℕ, zero, suc, ◌+◌, ◌<◌, ◌≤◌, List, [], ◌∷◌, map, length, take, get_or, refl, sym, ◌∙◌, ap, add-one, arith}
use Rattle.spec_world.specs.World.{World}
use Rattle.spec_world.specs.Questions.{apply, apply_all}
use Rattle.view.specs.Meanings.{change_of}
use Rattle.view.specs.declared.change.Change.{Change}

taken_suc : (cs : List Change) (i : ℕ) (c : Change) (w : World) → i < length cs → c ≡ get_or cs i c
    → apply_all (map change_of (take (suc i) cs)) w ≡ apply (change_of c) (apply_all (map change_of (take i cs)) w)
taken_suc [] i c w lt is = absurd (omega arith)
taken_suc (d ∷ cs) zero c w lt is = ap (λ (x : Change). apply (change_of x) w) (sym is)
taken_suc (d ∷ cs) (suc i) c w lt is = taken_suc cs i c (apply (change_of d) w) (omega arith) is

-- the first ones, and the one behind them
pub taken_more : (cs : List Change) (i : ℕ) (c : Change) (w : World) → i < length cs → c ≡ get_or cs i c
    → apply_all (map change_of (take (i + 1) cs)) w ≡ apply (change_of c) (apply_all (map change_of (take i cs)) w)
taken_more cs i c w lt is = ap (λ (n : ℕ). apply_all (map change_of (take n cs)) w) (add-one i) ∙ taken_suc cs i c w lt is

pub all_taken : (cs : List Change) (i : ℕ) (w : World) → length cs ≤ i → apply_all (map change_of (take i cs)) w ≡ apply_all (map change_of cs) w
all_taken [] zero w le = refl
all_taken [] (suc i) w le = refl
all_taken (c ∷ cs) zero w le = absurd (omega arith)
all_taken (c ∷ cs) (suc i) w le = all_taken cs i (apply (change_of c) w) (omega arith)
