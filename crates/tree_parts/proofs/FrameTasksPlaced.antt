-- Verbs at the places of calls.
use Rattle.std.proofs.Common.{◌≡◌, ◌∙◌, ap, sym, refl, subst, ℕ, zero, suc, pred, ◌+◌, Bool, List, [], ◌∷◌, length, Option, Some, None, IsTrue}
use Rattle.spec_program.specs.Tree.{Program}
use Rattle.spec_program.specs.Construct.{Construct, of_program}
use Rattle.moo_code.specs.Layout.{outermost, layout, size}
use Rattle.moo_code.specs.Machine.{Kept}
use Rattle.moo_code.specs.Paths.{last_at}
use Rattle.moo_code.specs.Stands.{body, start}
use Rattle.moo_code.proofs.Paths.{is_placed}
use Rattle.moo_places.specs.Reaching.{last_from, last_at_path}
use Rattle.moo_places.proofs.Reached.{path_is_reached}
use Rattle.tree_parts.specs.Arriving.{arrives, StandsThere}
use Rattle.tree_parts.proofs.Arrived.{calls_stand}
use Rattle.tree_parts.specs.Places.{place_at}
use Rattle.tree_parts.specs.Arrived.{is_call_there}
use Rattle.tree_parts.proofs.Descent.{Chain, chain}

some_path : (p : Program) (path : List ℕ) (m : ℕ) → place_at p path ≡ Some m → last_at_path path 0 (layout outermost (of_program p)) ≡ Some m
some_path p [] m e = absurd (cc)
some_path p (n ∷ path) m e = e

last_is : (b n m : ℕ) → last_from b n ≡ Some m → b + pred n ≡ m
last_is b zero m e = absurd (cc)
last_is b (suc n) m e = cc

-- the place of what stands at a path, in both senses
same_place : (p : Program) (c : Construct) (path : List ℕ) (m : ℕ) → Chain (of_program p) c path → place_at p path ≡ Some m → last_at outermost (of_program p) path ≡ m
same_place p c path m h e =
    ap (last_at outermost (of_program p)) (sym h.path_is) ∙ is_placed p c h.pieces h.linked
    ∙ last_is (start h.pieces) (size (body h.pieces c)) m
    (sym (path_is_reached p c h.pieces h.linked) ∙ ap (λ l. last_at_path l 0 (layout outermost (of_program p))) h.path_is ∙ some_path p path m e)

stands_by : (k : Kept) (path : List ℕ) → place_at k.program path ≡ Some k.place → IsTrue (is_call_there (arrives (of_program k.program) path (length k.operands))) → StandsThere k
stands_by k path at call = go (arrives (of_program k.program) path (length k.operands)) refl call
  where
    go : (o : Option Construct) → arrives (of_program k.program) path (length k.operands) ≡ o → IsTrue (is_call_there o) → StandsThere k
    go None e i = cc
    go (Some c) e i = calls_stand k path c e i (same_place k.program c path k.place (chain (of_program k.program) c path (length k.operands) e) at)

pub stands_there : (k : Kept) (path : List ℕ) (tree : Program) (count place : ℕ) (so : Bool) → place_at k.program path ≡ Some place → place ≡ k.place → tree ≡ k.program → count ≡ length k.operands
    → so ≡ is_call_there (arrives (of_program tree) path count) → IsTrue so → StandsThere k
stands_there k path tree count place so at same whole all is h =
    stands_by k path (at ∙ ap Some same)
    (subst IsTrue (is ∙ ap (λ t. is_call_there (arrives (of_program t) path count)) whole ∙ ap (λ n. is_call_there (arrives (of_program k.program) path n)) all) h)
