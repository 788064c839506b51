-- Down a tree, step by step.
use Rattle.std.proofs.Common.{◌≡◌, ◌∙◌, ap, sym, refl, subst, ℕ, zero, suc, ◌+◌, ◌<◌, List, [], ◌∷◌, ◌++◌, length, drop, drop-cons, get_or, Option, Some, None, append_assoc, arith}
use Rattle.std.proofs.lemmas.List.{append-nil}
use Rattle.spec_program.specs.Construct.{Construct, Piece}
use Rattle.spec_program.specs.Place.{Part, part_at, tree_of, held_count, Linked}
use Rattle.moo_code.specs.Paths.{past, path_of}
use Rattle.tree_parts.specs.Arriving.{with_rest, into, arrives}
use Rattle.tree_parts.specs.Arrived.{in_tree, step_of}

-- ---- a step

abbrev pub after : List ℕ → Option (Construct × ℕ) → Option Construct
after path None = None
after path (Some b) = arrives b.0 path b.1

with_rest_after : (path : List ℕ) (t : Option Construct) (o : Option ℕ) → with_rest t o (λ d j. arrives d path j) ≡ after path (in_tree t o)
with_rest_after path None o = refl
with_rest_after path (Some d) None = refl
with_rest_after path (Some d) (Some j) = refl

into_after : (path : List ℕ) (o : Option Part) (k : ℕ) → into o k (λ d j. arrives d path j) ≡ after path (step_of o k)
into_after path None k = refl
into_after path (Some x) k = with_rest_after path x.tree (past (held_count x.held) k)

-- from a part number of the path on
pub arrives_from : (c : Construct) (path : List ℕ) (i n k : ℕ) → i < length path → n ≡ get_or path i 0
    → arrives c (drop i path) k ≡ after (drop (i + 1) path) (step_of (part_at c n) k)
arrives_from c path i n k small is =
    let d : suc i ≡ i + 1 = omega arith in
    ap (λ l. arrives c l k) (drop-cons path i 0 small)
    ∙ ap (λ m. arrives c (m ∷ drop (suc i) path) k) (sym is)
    ∙ into_after (drop (suc i) path) (part_at c n) k
    ∙ ap (λ j. after (drop j path) (step_of (part_at c n) k)) d

-- ---- pieces along a path

pub record Chain (root c : Construct) (path : List ℕ) : Type 0 where
  pub pieces : List Piece
  pub linked : Linked c pieces root
  pub path_is : path_of pieces ≡ path

step_tree : (o : Option Part) (k : ℕ) (b : Construct × ℕ) → step_of o k ≡ Some b → tree_of o ≡ Some b.0
step_tree None k b e = absurd (cc)
step_tree (Some x) k b e = in_part x.tree (past (held_count x.held) k) e
  where
    in_part : (t : Option Construct) (j : Option ℕ) → in_tree t j ≡ Some b → t ≡ Some b.0
    in_part None j e = absurd (cc)
    in_part (Some d) None e = absurd (cc)
    in_part (Some d) (Some j) e = let h : (d, j) ≡ b = cc in ap (λ (z : Construct × ℕ). Some z.0) h

below : (root c d : Construct) (ps : List Piece) (n : ℕ) (path : List ℕ) → Linked c ps root
    → ((b : Construct) (j : ℕ) (qs : List Piece) → Linked b qs root → arrives b path j ≡ Some d → Chain root d (path_of qs ++ path))
    → (k : ℕ) (o : Option (Construct × ℕ)) → step_of (part_at c n) k ≡ o → after path o ≡ Some d → Chain root d (path_of ps ++ n ∷ path)
below root c d ps n path h go k None p e = absurd (cc)
below root c d ps n path h go k (Some b) p e =
    let more : Chain root d ((path_of ps ++ n ∷ []) ++ path) =
    go b.0 b.1 (record { construct = c; part = n; held = [] } ∷ ps) (step_tree (part_at c n) k b p, h) e in
    record { pieces = more.pieces; linked = more.linked; path_is = more.path_is ∙ append_assoc (path_of ps) (n ∷ []) path }

chained : (root c d : Construct) (ps : List Piece) (path : List ℕ) (k : ℕ) → Linked c ps root → arrives c path k ≡ Some d → Chain root d (path_of ps ++ path)
chained root c d ps [] zero h e =
    let same : c ≡ d = cc in
    record { pieces = ps; linked = subst (λ z. Linked z ps root) same h; path_is = sym (append-nil (path_of ps)) }
chained root c d ps [] (suc k) h e = absurd (cc)
chained root c d ps (n ∷ path) k h e =
    below root c d ps n path h (λ b j qs link there. chained root b d qs path j link there) k (step_of (part_at c n) k) refl (sym (into_after path (part_at c n) k) ∙ e)

pub chain : (root c : Construct) (path : List ℕ) (k : ℕ) → arrives root path k ≡ Some c → Chain root c path
chain root c path k e = chained root root c [] path k refl e
