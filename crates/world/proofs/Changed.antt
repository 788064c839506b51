-- Changes in turn.
use Rattle.std.proofs.Common.{◌≡◌, ℕ, zero, suc, ◌+◌, ◌<◌, ◌≤◌, List, [], ◌∷◌, map, length, drop, get_or, refl, ◌∙◌, ap, add-one, arith}
use Rattle.spec_world.specs.World.{World}
use Rattle.spec_world.specs.Questions.{apply, apply_all}
use Rattle.view.specs.Meanings.{change_of}
use Rattle.view.specs.declared.change.Change.{Change}

rest_suc : (cs : List Change) (i : ℕ) (c : Change) (w : World) → i < length cs → c ≡ get_or cs i c
    → apply_all (map change_of (drop (suc i) cs)) (apply (change_of c) w) ≡ apply_all (map change_of (drop i cs)) w
rest_suc [] i c w lt is = absurd (omega arith)
rest_suc (d ∷ cs) zero c w lt is = ap (λ (x : Change). apply_all (map change_of cs) (apply (change_of x) w)) is
rest_suc (d ∷ cs) (suc i) c w lt is = rest_suc cs i c w (omega arith) is

-- the change at an index, and then those behind it
pub rest_applied : (cs : List Change) (i : ℕ) (c : Change) (w : World) → i < length cs → c ≡ get_or cs i c
    → apply_all (map change_of (drop (i + 1) cs)) (apply (change_of c) w) ≡ apply_all (map change_of (drop i cs)) w
rest_applied cs i c w lt is = ap (λ (n : ℕ). apply_all (map change_of (drop n cs)) (apply (change_of c) w)) (add-one i) ∙ rest_suc cs i c w lt is

pub all_applied : (cs : List Change) (i : ℕ) (w : World) → length cs ≤ i → apply_all (map change_of (drop i cs)) w ≡ w
all_applied [] zero w le = refl
all_applied [] (suc i) w le = refl
all_applied (c ∷ cs) zero w le = absurd (omega arith)
all_applied (c ∷ cs) (suc i) w le = all_applied cs i w (omega arith)
