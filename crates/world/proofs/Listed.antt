-- What a world lists is chosen of its tables.
use Rattle.std.proofs.Common.{◌≡◌, ℕ, suc, ◌<◌, ◌≤◌, ℤ, pos, int_le, Bool, true, false, cond, List, [], ◌∷◌, map, filter, Option, Some, None, refl, sym, ◌∙◌, ap, subst, arith, All}
use Rattle.std.specs.List.{AllByRecursion}
use Rattle.std.specs.Ordering.{int_eq}
use Rattle.spec_value.specs.Table.{Numbered}
use Rattle.spec_world.specs.World.{Task, Link, Waiting, forked, timed, idle, reading_on}
use Rattle.spec_world.specs.Links.{reads_on}
use Rattle.moo_task.specs.Waits.{read_on}
use Rattle.world.specs.Numbered.{numbered, signed_key, signed}
use Rattle.world.specs.Picked.{pick, before, chosen}
use Rattle.world.specs.Tasks.{AreIds, reading, AreTasks}

-- ---- tasks

pub all_ids : (es : List (ℕ × Task)) → chosen (λ k _. Some (signed_key k)) es ≡ map (λ e. e.0) (signed es)
all_ids [] = refl
all_ids (e ∷ es) = ap (λ is. signed_key e.0 ∷ is) (all_ids es)

pub readers_of : (c : ℤ) (es : List (ℕ × Task)) → chosen (λ k d. cond (int_eq c d) (Some (signed_key k)) None) (reading es) ≡ map (λ e. e.0) (filter (λ e. reads_on c (e.1).waiting) (signed es))
readers_of c [] = refl
readers_of c (e ∷ es) = go (e.1).waiting (readers_of c es)
  where
    either : (b : Bool) (ds : Numbered Task) (is : List ℤ) → is ≡ map (λ x. x.0) ds → before (cond b (Some (signed_key e.0)) None) is ≡ map (λ x. x.0) (cond b ((signed_key e.0, e.1) ∷ ds) ds)
    either true ds is h = ap (λ js. signed_key e.0 ∷ js) h
    either false ds is h = h

    go : (why : Waiting) → chosen (λ k d. cond (int_eq c d) (Some (signed_key k)) None) (reading es) ≡ map (λ x. x.0) (filter (λ x. reads_on c (x.1).waiting) (signed es))
        → chosen (λ k d. cond (int_eq c d) (Some (signed_key k)) None) (pick e.0 (read_on why) (reading es))
        ≡ map (λ x. x.0) (cond (reads_on c why) ((signed_key e.0, e.1) ∷ filter (λ x. reads_on c (x.1).waiting) (signed es)) (filter (λ x. reads_on c (x.1).waiting) (signed es)))
    go (forked m) h = h
    go (timed m v) h = h
    go idle h = h
    go (reading_on d) h = either (int_eq c d) (filter (λ x. reads_on c (x.1).waiting) (signed es)) _ h

pub reading_ids : (es : List (ℕ × Task)) → AreIds es → AreIds (reading es)
reading_ids [] h = tt
reading_ids (e ∷ es) h = go (reading_ids es h.1) (read_on (e.1).waiting)
  where
    go : AreIds (reading es) → (c : Option ℤ) → AreIds (pick e.0 c (reading es))
    go rest None = rest
    go rest (Some c) = (h.0, rest)

-- the same from the readers that are known
pub known_ids : (es : List (ℕ × Task)) (rs : List (ℕ × ℤ)) (ds : List (ℕ × ℕ)) → AreTasks es rs ds → AreIds rs
known_ids es rs ds h = subst (λ (xs : List (ℕ × ℤ)). AreIds xs) (sym h.readers) (reading_ids es h.ids)

pub known_readers : (c : ℤ) (es : List (ℕ × Task)) (rs : List (ℕ × ℤ)) (ds : List (ℕ × ℕ)) → AreTasks es rs ds
    → chosen (λ k d. cond (int_eq c d) (Some (signed_key k)) None) rs ≡ map (λ e. e.0) (filter (λ e. reads_on c (e.1).waiting) (signed es))
known_readers c es rs ds h = ap (λ (xs : List (ℕ × ℤ)). chosen (λ k d. cond (int_eq c d) (Some (signed_key k)) None) xs) h.readers ∙ readers_of c es

-- ---- numbers

pub all_numbers : {X : Type 0} (es : List (ℕ × X)) → chosen (λ k _. Some (pos k)) es ≡ map (λ e. e.0) (numbered es)
all_numbers [] = refl
all_numbers (e ∷ es) = ap (λ ns. pos e.0 ∷ ns) (all_numbers es)

-- ---- links

pub logged_in : (es : List (ℕ × Link)) → chosen {T = ℤ × ℤ} (λ k l. cond (int_le (pos 0) l.person) (Some (pos k, l.person)) None) es ≡ map (λ e. (e.0, (e.1).person)) (filter (λ e. int_le (pos 0) (e.1).person) (numbered es))
logged_in [] = refl
logged_in (e ∷ es) = go (int_le (pos 0) (e.1).person) (logged_in es)
  where
    go : (b : Bool) → chosen {T = ℤ × ℤ} (λ k l. cond (int_le (pos 0) l.person) (Some (pos k, l.person)) None) es ≡ map (λ x. (x.0, (x.1).person)) (filter (λ x. int_le (pos 0) (x.1).person) (numbered es))
        → before {T = ℤ × ℤ} (cond b (Some (pos e.0, (e.1).person)) None) (chosen {T = ℤ × ℤ} (λ k l. cond (int_le (pos 0) l.person) (Some (pos k, l.person)) None) es)
        ≡ map (λ x. (x.0, (x.1).person)) (cond b ((pos e.0, e.1) ∷ filter (λ x. int_le (pos 0) (x.1).person) (numbered es)) (filter (λ x. int_le (pos 0) (x.1).person) (numbered es)))
    go true h = ap (λ ps. (pos e.0, (e.1).person) ∷ ps) h
    go false h = h

-- ---- keys in range

pub within : {X : Type 0} (m n : ℕ) (es : List (ℕ × X)) → m ≤ n → All (λ e. e.0 < m) es → AllByRecursion (λ e. e.0 < n) es
within m n [] le all = tt
within m n (e ∷ es) le all = let first : e.0 < m = all 0 e (omega arith) in (omega arith, within m n es le (λ j d lt. all (suc j) d (omega arith)))
