-- Pieces along a path, with the values that they hold.
use Rattle.std.proofs.Common.{◌≡◌, ◌∙◌, ap, sym, refl, subst, ℕ, zero, suc, ◌+◌, List, [], ◌∷◌, ◌++◌, length, take, drop, Option, Some, None, append_assoc, arith}
use Rattle.std.proofs.lemmas.List.{append-nil, length-take-le, length-drop, take-append-drop}
use Rattle.spec_value.specs.Datum.{Datum}
use Rattle.spec_program.specs.Construct.{Construct, of_program, Piece}
use Rattle.spec_program.specs.Place.{Part, part_at, tree_of, held_count, Linked}
use Rattle.spec_world.specs.World.{Frame}
use Rattle.moo_code.specs.Layout.{outermost}
use Rattle.moo_code.specs.Paths.{past, path_of, last_at}
use Rattle.moo_code.specs.Performing.{onto}
use Rattle.moo_code.specs.Rebuilding.{from_deepest}
use Rattle.moo_code.specs.Stands.{part_count, Counted, operands, kept_of, Waits}
use Rattle.moo_code.proofs.Paths.{calls_wait}
use Rattle.tree_parts.specs.Arriving.{with_rest, into, arrives, CallsStand}

-- ---- stacks

pub onto_onto : (vs st us : List Datum) → onto (onto vs st) us ≡ onto st (vs ++ us)
onto_onto [] st us = refl
onto_onto (v ∷ vs) st us = onto_onto vs (v ∷ st) us

pub onto_behind : (st us : List Datum) → onto st us ≡ from_deepest st ++ us
onto_behind [] us = refl
onto_behind (v ∷ st) us =
    onto_behind st (v ∷ us) ∙ sym (append_assoc (from_deepest st) (v ∷ []) us) ∙ ap (λ l. l ++ us) (sym (onto_behind st (v ∷ [])))

-- what holds values puts them behind those around it
pub deepest_first : (vs st : List Datum) → from_deepest (onto vs st) ≡ from_deepest st ++ vs
deepest_first vs st = onto_onto vs st [] ∙ ap (onto st) (append-nil vs) ∙ onto_behind st vs

pub turned_back : (st : List Datum) → from_deepest (from_deepest st) ≡ st
turned_back st = onto_onto st [] [] ∙ append-nil st

pub as_deep : (st us : List Datum) → from_deepest st ≡ from_deepest us → st ≡ us
as_deep st us e = sym (turned_back st) ∙ ap from_deepest e ∙ turned_back us

pub length_onto : (vs st : List Datum) → length (onto vs st) ≡ length vs + length st
length_onto [] st = omega arith
length_onto (v ∷ vs) st = omega (arith, length_onto vs (v ∷ st))

-- ---- a path

record Arrival (root c : Construct) (path : List ℕ) (vs : List Datum) : Type 0 where
  pieces : List Piece
  linked : Linked c pieces root
  counted : Counted pieces
  path_is : path_of pieces ≡ path
  held : from_deepest (operands pieces) ≡ vs

some_past : (k o j : ℕ) → past k o ≡ Some j → o ≡ k + j
some_past zero o j e = let h : o ≡ j = cc in omega (arith, h)
some_past (suc k) zero j e = absurd (cc)
some_past (suc k) (suc o) j e = omega (arith, some_past k o j e)

-- whatever stands behind a part with these values
abbrev Onward : Construct → Construct → Construct → List Piece → ℕ → List ℕ → Type 0
Onward root c d ps n path =
    (x : Construct) (us ws : List Datum) → Linked x (record { construct = c; part = n; held = us } ∷ ps) root → length us ≡ part_count (part_at c n) → arrives x path (length ws) ≡ Some d
    → Arrival root d (path_of (record { construct = c; part = n; held = us } ∷ ps) ++ path) (from_deepest (onto us (operands ps)) ++ ws)

by_part : (root c d : Construct) (ps : List Piece) (n : ℕ) (path : List ℕ) (vs : List Datum) → Linked c ps root → Counted ps → Onward root c d ps n path
    → (o : Option Part) → part_at c n ≡ o → into o (length vs) (λ d j. arrives d path j) ≡ Some d → Arrival root d (path_of ps ++ n ∷ path) (from_deepest (operands ps) ++ vs)
by_part root c d ps n path vs h k go None p e = absurd (cc)
by_part root c d ps n path vs h k go (Some x) p e = in_tree x.tree refl e
  where
    on : (y : Construct) (us ws : List Datum) → tree_of (part_at c n) ≡ Some y → length us ≡ part_count (part_at c n) → us ++ ws ≡ vs → arrives y path (length ws) ≡ Some d
        → Arrival root d (path_of ps ++ n ∷ path) (from_deepest (operands ps) ++ vs)
    on y us ws link count both e =
        let more = go y us ws (link, h) count e in
        record {
          pieces = more.pieces;
          linked = more.linked;
          counted = more.counted;
          path_is = more.path_is ∙ append_assoc (path_of ps) (n ∷ []) path;
          held =
              more.held ∙ ap (λ l. l ++ ws) (deepest_first us (operands ps)) ∙ append_assoc (from_deepest (operands ps)) us ws
              ∙ ap (λ l. from_deepest (operands ps) ++ l) both;
        }

    in_rest : (y : Construct) (o : Option ℕ) → x.tree ≡ Some y → past (held_count x.held) (length vs) ≡ o → with_rest (Some y) o (λ d j. arrives d path j) ≡ Some d
        → Arrival root d (path_of ps ++ n ∷ path) (from_deepest (operands ps) ++ vs)
    in_rest y None t q e = absurd (cc)
    in_rest y (Some j) t q e =
        let count : ℕ = held_count x.held in
        let all : length vs ≡ count + j = some_past count (length vs) j q in
        let left : length (drop count vs) ≡ j = omega (arith, all, length-drop count vs) in
        on y (take count vs) (drop count vs) (ap tree_of p ∙ t)
        (length-take-le count vs (omega (arith, all)) ∙ ap part_count (sym p))
        (take-append-drop count vs)
        (ap (arrives y path) left ∙ e)

    in_tree : (t : Option Construct) → x.tree ≡ t → with_rest t (past (held_count x.held) (length vs)) (λ d j. arrives d path j) ≡ Some d
        → Arrival root d (path_of ps ++ n ∷ path) (from_deepest (operands ps) ++ vs)
    in_tree None t e = absurd (cc)
    in_tree (Some y) t e = in_rest y (past (held_count x.held) (length vs)) t refl e

arrived : (root c d : Construct) (ps : List Piece) (path : List ℕ) (vs : List Datum) → Linked c ps root → Counted ps → arrives c path (length vs) ≡ Some d
    → Arrival root d (path_of ps ++ path) (from_deepest (operands ps) ++ vs)
arrived root c d ps [] [] h k e =
    let same : c ≡ d = cc in
    record {
      pieces = ps;
      linked = subst (λ z. Linked z ps root) same h;
      counted = k;
      path_is = sym (append-nil (path_of ps));
      held = sym (append-nil (from_deepest (operands ps)));
    }
arrived root c d ps [] (v ∷ vs) h k e = absurd (cc)
arrived root c d ps (n ∷ path) vs h k e =
    by_part root c d ps n path vs h k (λ x us ws link count e. arrived root x d (record { construct = c; part = n; held = us } ∷ ps) path ws link (count, k) e) (part_at c n) refl e

-- ---- a call

pub calls_stand : CallsStand
calls_stand k path c e call at =
    let vs : List Datum = from_deepest k.operands in
    let count : length vs ≡ length k.operands = omega (arith, length_onto k.operands []) in
    let there : Arrival (of_program k.program) c path vs = arrived (of_program k.program) (of_program k.program) c [] path vs refl tt (ap (arrives (of_program k.program) path) count ∙ e) in
    let f : Frame = record { call = k.call; start = k.start; program = k.program; variables = k.variables; pieces = there.pieces } in
    let held : operands there.pieces ≡ k.operands = as_deep (operands there.pieces) k.operands there.held in
    let place : last_at outermost (of_program k.program) (path_of there.pieces) ≡ k.place = ap (last_at outermost (of_program k.program)) there.path_is ∙ at in
    let waits : Waits f (kept_of f (last_at outermost (of_program f.program) (path_of f.pieces))) = calls_wait f c call there.linked there.counted in
    let same : kept_of f (last_at outermost (of_program f.program) (path_of f.pieces)) ≡ k =
    λ i. record { call = k.call; start = k.start; program = k.program; variables = k.variables; place = place i; operands = held i } in
    record { frame = f; waits = subst (Waits f) same waits; stands = (c, call, there.linked) }
