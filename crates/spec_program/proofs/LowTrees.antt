-- The nodes that are listed with a tree tell how high it is.
use Rattle.std.proofs.Common.{Bool, true, Some, None, if◌then◌else◌, nat_lt, ◌≡◌, ◌≤◌, ℕ, zero, suc, List, [], ◌∷◌, ◌++◌, map, false, IsTrue, refl, leb-true, le-leb, arith}
use Rattle.std.specs.Prelude.{nat_le, max}
use Rattle.std.proofs.lemmas.Bool.{ltb-false}
use Rattle.std.specs.List.{list_all}
use Rattle.spec_value.proofs.Entries.{first_holds, second_holds}
use Rattle.spec_program.specs.Reading.{Node, deeper, under}
use Rattle.spec_program.specs.ReadPrograms.{too_deep, greatest_depth}
use Rattle.spec_program.proofs.ReadFits.{and_also}

-- none is deeper
abbrev pub Within : ℕ → List Node → Type 0
Within d ns = IsTrue (list_all (λ n. nat_le n.depth d) ns)

-- a height that no bound on the nodes falls below
pub record Low (h : ℕ) (ns : List Node) : Type 0 where
  pub bound : (d : ℕ) → Within d ns → h ≤ d

pub nothing : Low 0 []
nothing = record { bound = λ d w. omega arith }

left_within : (d : ℕ) (ns ms : List Node) → Within d (ns ++ ms) → Within d ns
left_within d [] ms w = refl
left_within d (n ∷ ns) ms w = and_also (first_holds (nat_le n.depth d) _ w) (left_within d ns ms (second_holds (nat_le n.depth d) _ w))

right_within : (d : ℕ) (ns ms : List Node) → Within d (ns ++ ms) → Within d ms
right_within d [] ms w = w
right_within d (n ∷ ns) ms w = right_within d ns ms (second_holds (nat_le n.depth d) _ w)

pub side : {h k : ℕ} {ns ms : List Node} → Low h ns → Low k ms → Low (max h k) (ns ++ ms)
side {h} {k} {ns} {ms} l m =
    record {
      bound = λ d w. let x : h ≤ d = l.bound d (left_within d ns ms w) in let y : k ≤ d = m.bound d (right_within d ns ms w) in omega (arith, x, y);
    }

shallower : (d : ℕ) (ns : List Node) → Within (suc d) (map deeper ns) → Within d ns
shallower d [] w = refl
shallower d (n ∷ ns) w =
    let x : suc n.depth ≤ suc d = leb-true (suc n.depth) (suc d) (first_holds (nat_le (suc n.depth) (suc d)) _ w) in
    and_also (le-leb n.depth d (omega (arith, x))) (shallower d ns (second_holds (nat_le (suc n.depth) (suc d)) _ w))

under_bound : (h line : ℕ) (ns : List Node) → Low h ns → (d : ℕ) → Within d (under line ns) → suc h ≤ d
under_bound h line ns l zero w = let x : 1 ≤ 0 = leb-true 1 0 w in omega (arith, x)
under_bound h line ns l (suc d) w = let x : h ≤ d = l.bound d (shallower d ns (second_holds (nat_le 1 (suc d)) _ w)) in omega (arith, x)

pub beneath : {h line : ℕ} {ns : List Node} → Low h ns → Low (suc h) (under line ns)
beneath {h} {line} {ns} l = record { bound = under_bound h line ns l }

pub leaf : {line : ℕ} → Low 1 (under line [])
leaf {line} = beneath {line = line} nothing

-- another height that is no greater
pub at_most : {h : ℕ} {ns : List Node} (k : ℕ) → k ≤ h → Low h ns → Low k ns
at_most {h} {ns} k le l = record { bound = λ d w. let x : h ≤ d = l.bound d w in omega (arith, le, x) }

-- what no fault of nesting is found in
pub within_limit : (ns : List Node) → too_deep ns ≡ None → Within greatest_depth ns
within_limit [] e = refl
within_limit (n ∷ ns) e = go (within_limit ns) (nat_lt greatest_depth n.depth) refl e
  where
    go : (too_deep ns ≡ None → Within greatest_depth ns) → (b : Bool) → nat_lt greatest_depth n.depth ≡ b → (if b then Some n.line else too_deep ns) ≡ None
        → Within greatest_depth (n ∷ ns)
    go later true k m = absurd (cc m)
    go later false k m = let x : n.depth ≤ greatest_depth = ltb-false greatest_depth n.depth k in and_also (le-leb n.depth greatest_depth x) (later m)
