-- Where values are held down a path there is a call, and it has a place.
use Rattle.std.proofs.Common.{◌≡◌, ◌∙◌, ap, sym, refl, ℕ, ◌+◌, pos, Bool, true, false, List, [], ◌∷◌, ◌++◌, replicate, Option, Some, None, IsTrue, if◌then◌else◌, append_assoc}
use Rattle.std.specs.Prelude.{option_map}
use Rattle.std.proofs.lemmas.List.{append-nil, length-replicate}
use Rattle.spec_value.specs.Datum.{integer}
use Rattle.spec_program.specs.Tree.{Program}
use Rattle.spec_program.specs.Construct.{Construct, of_program, Piece}
use Rattle.spec_program.specs.Place.{Holds, Part, part_at, tree_of, Linked, is_call}
use Rattle.spec_world.specs.World.{Frame}
use Rattle.spec_world.specs.WellFormed.{is_loop}
use Rattle.spec_faults.specs.Codes.{in_tree, in_part, holds_down}
use Rattle.moo_code.specs.Paths.{path_of, last_at}
use Rattle.moo_code.specs.Layout.{outermost}
use Rattle.moo_code.specs.Stands.{part_count, Counted, kept_of}
use Rattle.moo_code.proofs.Paths.{calls_wait}
use Rattle.tree_parts.specs.Places.{place_at}
use Rattle.tree_parts.proofs.Found.{placed_call}

-- pieces along a path, from a call outwards, that hold as many values as they must
pub record LeadsOut (root : Construct) (path : List ℕ) : Type 0 where
  pub call : Construct
  pub is : IsTrue (is_call call)
  pub pieces : List Piece
  pub linked : Linked call pieces root
  pub counted : Counted pieces
  pub along : path_of pieces ≡ path

-- whatever construct the path goes on from
abbrev Onward : Construct → List ℕ → Type 0
Onward root path = (around : ℕ) (c : Construct) (ps : List Piece) (hs : List (ℕ × Holds)) → Linked c ps root → Counted ps → holds_down around c path ≡ Some hs → LeadsOut root (path_of ps ++ path)

abbrev with_part : Construct → ℕ → List Piece → List Piece
with_part c n ps = record { construct = c; part = n; held = replicate (part_count (part_at c n)) (integer (pos 0)) } ∷ ps

module _ (root c : Construct) (ps : List Piece) (around inside n : ℕ) (path : List ℕ) (hs : List (ℕ × Holds)) (linked : Linked c ps root) (counted : Counted ps) (onward : Onward root path) where
  in_the_rest : (d : Construct) (h : ℕ × Holds) (o : Option (List (ℕ × Holds))) → tree_of (part_at c n) ≡ Some d → holds_down inside d path ≡ o → option_map (λ gs. h ∷ gs) o ≡ Some hs → LeadsOut root (path_of ps ++ n ∷ path)
  in_the_rest d h None link down e = absurd (cc)
  in_the_rest d h (Some gs) link down e =
      let more = onward inside d (with_part c n ps) gs (link, linked) (length-replicate (part_count (part_at c n)) (integer (pos 0)), counted) down in
      record {
        call = more.call;
        is = more.is;
        pieces = more.pieces;
        linked = more.linked;
        counted = more.counted;
        along = more.along ∙ append_assoc (path_of ps) (n ∷ []) path;
      }

  in_the_tree : (x : Part) (t : Option Construct) → part_at c n ≡ Some x → x.tree ≡ t → in_tree (around, x.held) t (λ d. holds_down inside d path) ≡ Some hs → LeadsOut root (path_of ps ++ n ∷ path)
  in_the_tree x None part tree e = absurd (cc)
  in_the_tree x (Some d) part tree e = in_the_rest d (around, x.held) (holds_down inside d path) (ap tree_of part ∙ tree) refl e

  in_the_part : (o : Option Part) → part_at c n ≡ o → in_part around o (λ d. holds_down inside d path) ≡ Some hs → LeadsOut root (path_of ps ++ n ∷ path)
  in_the_part None part e = absurd (cc)
  in_the_part (Some x) part e = in_the_tree x x.tree part refl e

at_call : (root c : Construct) (ps : List Piece) (hs : List (ℕ × Holds)) (b : Bool) → Linked c ps root → Counted ps → is_call c ≡ b → ◌≡◌ {A = Option (List (ℕ × Holds))} (if b then Some [] else None) (Some hs) → LeadsOut root (path_of ps ++ [])
at_call root c ps hs true linked counted is e = record { call = c; is = is; pieces = ps; linked = linked; counted = counted; along = sym (append-nil (path_of ps)) }
at_call root c ps hs false linked counted is e = absurd (cc)

leads_out : (root : Construct) (path : List ℕ) → Onward root path
leads_out root [] around c ps hs linked counted e = at_call root c ps hs (is_call c) linked counted refl e
leads_out root (n ∷ path) around c ps hs linked counted e =
    in_the_part root c ps around (is_loop c + around) n path hs linked counted (λ a d qs gs l k f. leads_out root path a d qs gs l k f) (part_at c n) refl e

-- its place
pub place_there : (p : Program) (path : List ℕ) (hs : List (ℕ × Holds)) → holds_down 0 (of_program p) path ≡ Some hs → place_at p path ≡ None → ⊥
place_there p path hs e none =
    let out = leads_out (of_program p) path 0 (of_program p) [] hs refl tt e in
    let f : Frame =
    record {
      call = record { this = pos 0; caller = pos 0; definer = pos 0; programmer = pos 0; verb = []; debug = false };
      start = record { argstr = []; dobj = pos 0; dobjstr = []; prepstr = []; iobj = pos 0; iobjstr = [] };
      program = p;
      variables = [];
      pieces = out.pieces;
    } in
    let waits = calls_wait f out.call out.is out.linked out.counted in
    let at = placed_call f (kept_of f (last_at outermost (of_program p) (path_of out.pieces))) waits (out.call, out.is, out.linked) in
    absurd (cc (sym none ∙ ap (place_at p) (sym out.along) ∙ at))
