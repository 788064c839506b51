-- What is wanted of the pieces that a verb holds, and down a path to its call.
use Rattle.std.proofs.Common.{◌≡◌, ◌∙◌, ap, sym, refl, ℕ, ◌+◌, nat_le, ◌≤◌, leb-true, ◌&&◌, pos, true, not, ◌==◌, length, List, [], ◌∷◌, ◌++◌, map, Option, Some, None, IsTrue, append_assoc, arith}
use Rattle.std.proofs.lemmas.Bool.Decides.{nat_tests}
use Rattle.std.proofs.lemmas.List.{append-nil}
use Rattle.spec_value.specs.Datum.{Datum, integer, object, list, Data, no_data, item, of_list}
use Rattle.spec_value.proofs.Entries.{first_holds, second_holds, both_hold}
use Rattle.spec_program.specs.Construct.{Construct, Piece}
use Rattle.spec_program.specs.Place.{Kind, any_value, any_list, code_list, all_codes, Holds, holds, walks_list, walks_range, why_left, Part, part_at, tree_of, Linked, is_call}
use Rattle.spec_world.specs.WellFormed.{nonempty, count, kind_fits, kinds_fit, held_fits, is_loop, loops, part_fits, pieces_fit}
use Rattle.spec_world.specs.Checkpoint.{values_held}
use Rattle.moo_code.specs.Paths.{path_of}
use Rattle.held_values.specs.declared.fits.Wanted.{Wanted}
use Rattle.held_values.specs.Wanted.{wanted_fits, all_fit, of_kind, wanted_in, wanted_of, wanted_by, in_part, in_tree, if_call, wanted_down}

pub items_there : (vs : List Datum) → not (length vs == 0) ≡ nonempty (of_list vs)
items_there [] = refl
items_there (v ∷ vs) = grind (arith, nat_tests)

-- ---- what fits is wanted

kind_wanted : (k : Kind) (before : Option Datum) (v : Datum) → IsTrue (kind_fits k v) → IsTrue (wanted_fits (of_kind k) before v)
kind_wanted any_value before v h = refl
kind_wanted any_list before v h = h
kind_wanted code_list before (list vs) h = refl
kind_wanted code_list before _ h = cc
kind_wanted all_codes before v h = h

kinds_wanted : (ks : List Kind) (before : Option Datum) (vs : List Datum) → IsTrue (kinds_fit ks vs) → IsTrue (all_fit before (map of_kind ks) vs)
kinds_wanted [] before [] h = refl
kinds_wanted [] before (v ∷ vs) h = cc
kinds_wanted (k ∷ ks) before [] h = cc
kinds_wanted (k ∷ ks) before (v ∷ vs) h =
    both_hold (wanted_fits (of_kind k) before v) _ (kind_wanted k before v (first_holds (kind_fits k v) _ h)) (kinds_wanted ks (Some v) vs (second_holds (kind_fits k v) _ h))

some_item : (xs : Data) (k : ℕ) → IsTrue (nat_le 1 k && nat_le k (count xs)) → IsTrue (nonempty xs)
some_item (item x xs) k h = refl
some_item no_data k h =
    let least : 1 ≤ k = leb-true 1 k (first_holds (nat_le 1 k) _ h) in
    let most : k ≤ 0 = leb-true k 0 (second_holds (nat_le 1 k) (nat_le k 0) h) in
    absurd (omega (arith, least, most))

list_walked : (around : ℕ) (before : Option Datum) (vs : List Datum) → IsTrue (held_fits around walks_list vs) → IsTrue (all_fit before (wanted_in around walks_list) vs)
list_walked around before (list xs ∷ integer (pos k) ∷ []) h = both_hold (nonempty xs) _ (some_item xs k h) (both_hold _ true h refl)
list_walked around before _ h = cc

range_walked : (around : ℕ) (before : Option Datum) (vs : List Datum) → IsTrue (held_fits around walks_range vs) → IsTrue (all_fit before (wanted_in around walks_range) vs)
range_walked around before (integer a ∷ integer b ∷ []) h = both_hold _ true h refl
range_walked around before (object a ∷ object b ∷ []) h = both_hold _ true h refl
range_walked around before _ h = cc

left_wanted : (around : ℕ) (before : Option Datum) (vs : List Datum) → IsTrue (held_fits around why_left vs) → IsTrue (all_fit before (wanted_in around why_left) vs)
left_wanted around before (list vs ∷ []) h = both_hold _ true h refl
left_wanted around before _ h = cc

held_wanted : (around : ℕ) (hs : Holds) (before : Option Datum) (vs : List Datum) → IsTrue (held_fits around hs vs) → IsTrue (all_fit before (wanted_in around hs) vs)
held_wanted around (holds kinds) before vs h = kinds_wanted kinds before vs h
held_wanted around walks_list before vs h = list_walked around before vs h
held_wanted around walks_range before vs h = range_walked around before vs h
held_wanted around why_left before vs h = left_wanted around before vs h

part_wanted : (around : ℕ) (o : Option Part) (before : Option Datum) (vs : List Datum) → IsTrue (part_fits around vs o) → IsTrue (all_fit before (wanted_of around o) vs)
part_wanted around None before vs h = cc
part_wanted around (Some x) before vs h = held_wanted around x.held before vs h

-- ---- and what stands behind

all_behind : (before : Option Datum) (ws us : List Wanted) (vs xs : List Datum) → IsTrue (all_fit before ws vs) → ((b : Option Datum) → IsTrue (all_fit b us xs))
    → IsTrue (all_fit before (ws ++ us) (vs ++ xs))
all_behind before [] us [] xs h more = more before
all_behind before [] us (v ∷ vs) xs h more = cc
all_behind before (w ∷ ws) us [] xs h more = cc
all_behind before (w ∷ ws) us (v ∷ vs) xs h more =
    both_hold (wanted_fits w before v) _ (first_holds (wanted_fits w before v) _ h) (all_behind (Some v) ws us vs xs (second_holds (wanted_fits w before v) _ h) more)

pub pieces_wanted : (before : Option Datum) (ps : List Piece) → IsTrue (pieces_fit ps) → IsTrue (all_fit before (wanted_by ps) (values_held ps))
pieces_wanted before [] h = refl
pieces_wanted before (p ∷ ps) h =
    all_behind before (wanted_by ps) (wanted_of (loops ps) (part_at p.construct p.part)) (values_held ps) p.held
    (pieces_wanted before ps (second_holds (part_fits (loops ps) p.held (part_at p.construct p.part)) _ h))
    (λ b. part_wanted (loops ps) (part_at p.construct p.part) b p.held (first_holds (part_fits (loops ps) p.held (part_at p.construct p.part)) (pieces_fit ps) h))

-- ---- down the path of pieces

-- one step down, whose tree is known
step_down : (around : ℕ) (ws : List Wanted) (c d : Construct) (n : ℕ) (path : List ℕ) → tree_of (part_at c n) ≡ Some d
    → wanted_down around ws c (n ∷ path) ≡ wanted_down (around + is_loop c) (ws ++ wanted_of around (part_at c n)) d path
step_down around ws c d n path e = go (part_at c n) e
  where
    on : (x : Part) (t : Option Construct) → t ≡ Some d
        → in_tree t (λ b. wanted_down (around + is_loop c) (ws ++ wanted_in around x.held) b path) ≡ wanted_down (around + is_loop c) (ws ++ wanted_in around x.held) d path
    on x None e = absurd (cc)
    on x (Some b) e = let same : b ≡ d = cc in ap (λ z. wanted_down (around + is_loop c) (ws ++ wanted_in around x.held) z path) same

    go : (o : Option Part) → tree_of o ≡ Some d
        → in_part o (λ x. in_tree x.tree (λ b. wanted_down (around + is_loop c) (ws ++ wanted_in around x.held) b path)) ≡ wanted_down (around + is_loop c) (ws ++ wanted_of around o) d path
    go None e = absurd (cc)
    go (Some x) e = on x x.tree e

-- behind pieces, whatever the path goes on with
down_pieces : (root c : Construct) (ps : List Piece) (path : List ℕ) → Linked c ps root
    → wanted_down 0 [] root (path_of ps ++ path) ≡ wanted_down (loops ps) (wanted_by ps) c path
down_pieces root c [] path h = ap (λ z. wanted_down 0 [] z path) (sym h)
down_pieces root c (p ∷ ps) path h =
    ap (wanted_down 0 [] root) (append_assoc (path_of ps) (p.part ∷ []) path)
    ∙ down_pieces root p.construct ps (p.part ∷ path) h.1
    ∙ step_down (loops ps) (wanted_by ps) p.construct c p.part path h.0
    ∙ ap (λ n. wanted_down n (wanted_by ps ++ wanted_of (loops ps) (part_at p.construct p.part)) c path) (let same : loops ps + is_loop p.construct ≡ is_loop p.construct + loops ps = omega arith in same)

pub wanted_there : (root c : Construct) (ps : List Piece) → Linked c ps root → IsTrue (is_call c) → wanted_down 0 [] root (path_of ps) ≡ Some (wanted_by ps)
wanted_there root c ps h call =
    ap (wanted_down 0 [] root) (sym (append-nil (path_of ps))) ∙ down_pieces root c ps [] h ∙ ap (λ b. if_call b (wanted_by ps)) call
