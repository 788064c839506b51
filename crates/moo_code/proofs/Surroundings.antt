-- What stands around a part, by the pieces: how many operands lie below, which loops are left, and what `$` is the length of.
use Rattle.std.proofs.Common.{◌≡◌, ℕ, zero, suc, ◌+◌, ◌≤◌, List, [], ◌∷◌, ◌++◌, length, cond, Option, Some, None, refl, sym, ap, ◌∙◌, arith, append_assoc, drop, replicate}
use Rattle.std.proofs.lemmas.List.{append-nil}
use Rattle.std.specs.Prelude.{ℤ}
use Rattle.spec_value.specs.Datum.{Datum, Text}
use Rattle.spec_value.specs.Answer.{Answer, gives, raises}
use Rattle.spec_value.specs.Table.{Named}
use Rattle.spec_program.specs.Tree.{Target, to_variable, to_property, to_index, to_range, index, range, for_each, for_range, repeat}
use Rattle.spec_program.specs.Construct.{Construct, of_expr, of_target, of_statement, of_program, Piece}
use Rattle.spec_program.specs.Place.{any_value, part_at, tree_of, arity, Linked}
use Rattle.spec_world.specs.World.{World}
use Rattle.spec_moo.specs.Scene.{Scene}
use Rattle.spec_moo.specs.Pending.{Focus}
use Rattle.spec_moo.specs.Effects.Access.{Stored, target_value, at_index, at_range, stored, with_index, with_range, whole_stored}
use Rattle.spec_moo.specs.Effects.Lists.{first_held, indexed_by, or_around, indexed_in}
use Rattle.spec_moo.specs.Effects.Loops as loops
use Rattle.spec_moo.specs.Effects.Loops.{has_name}
use Rattle.moo_code.specs.Instruction.{shape_arity, Bracketed, operand_at, target_at}
use Rattle.moo_code.specs.Layout.{shape_of, brackets_in, loops_in, loops_before, loops_left}
use Rattle.moo_code.specs.Performing.{onto, from_height, target_of, bracketed_value}
use Rattle.moo_code.specs.Machine.{Outer, seen}
use Rattle.moo_code.specs.Stands.{part_count, Counted, operands, around, Verb, pending, kept}
use Rattle.moo_code.proofs.Stacks.{onto_length, from_bottom, above_those}

-- ---- operands below

pub height_is : (ps : List Piece) → Counted ps → (around ps).height ≡ length (operands ps)
height_is [] h = refl
height_is (q ∷ ps) h = let e = height_is ps h.1 in omega (arith, e, h.0, onto_length q.held (operands ps))

-- ---- loops

loops_by : (x : Text) (ps : List Piece) → loops.loops_inside x ps ≡ loops_before x (around ps).loops → (c : Construct) → loops.past_loop x (loops.loop_name c) (loops.loops_inside x ps) ≡ loops_before x (loops_in (around ps) c)
loops_by x ps e (of_statement (for_each y d p)) = ap (λ n. cond (has_name x (Some y)) 0 (suc n)) e
loops_by x ps e (of_statement (for_range y a b p)) = ap (λ n. cond (has_name x (Some y)) 0 (suc n)) e
loops_by x ps e (of_statement (repeat y a p)) = ap (λ n. cond (has_name x y) 0 (suc n)) e
loops_by x ps e c = e

loops_are : (x : Text) (ps : List Piece) → loops.loops_inside x ps ≡ loops_before x (around ps).loops
loops_are x [] = refl
loops_are x (q ∷ ps) = loops_by x ps (loops_are x ps) q.construct

pub loops_agree : (ps : List Piece) (y : Option Text) → loops.loops_left y ps ≡ loops_left y (around ps).loops
loops_agree ps None = refl
loops_agree ps (Some x) = loops_are x ps

-- ---- targets by their shape

pub shape_arity_is : (t : Target) → shape_arity (shape_of t) ≡ arity t
shape_arity_is (to_variable x) = refl
shape_arity_is (to_property o p) = refl
shape_arity_is (to_index t i) = ap suc (shape_arity_is t)
shape_arity_is (to_range t i j) = ap (λ n. suc (suc n)) (shape_arity_is t)

pub target_arity_is : (t : Target) → arity (target_of (shape_of t)) ≡ arity t
target_arity_is (to_variable x) = refl
target_arity_is (to_property o p) = refl
target_arity_is (to_index t i) = ap suc (target_arity_is t)
target_arity_is (to_range t i j) = ap (λ n. suc (suc n)) (target_arity_is t)

pub target_value_is : (w : World) (who : ℤ) (vars : Named Datum) (t : Target) (vs : List Datum) → target_value w who vars (target_of (shape_of t)) vs ≡ target_value w who vars t vs
target_value_is w who vars (to_variable x) vs = refl
target_value_is w who vars (to_property o p) [] = refl
target_value_is w who vars (to_property o p) (a ∷ []) = refl
target_value_is w who vars (to_property o p) (a ∷ b ∷ vs) = refl
target_value_is w who vars (to_index t i) vs = ap (λ n. at_index (target_value w who vars (target_of (shape_of t)) vs) (drop n vs)) (target_arity_is t) ∙ ap (λ z. at_index z (drop (arity t) vs)) (target_value_is w who vars t vs)
target_value_is w who vars (to_range t i j) vs = ap (λ n. at_range (target_value w who vars (target_of (shape_of t)) vs) (drop n vs)) (target_arity_is t) ∙ ap (λ z. at_range z (drop (arity t) vs)) (target_value_is w who vars t vs)

pub stored_is : (w : World) (who : ℤ) (vars : Named Datum) (t : Target) (vs : List Datum) (v : Datum) → stored w who vars (target_of (shape_of t)) vs v ≡ stored w who vars t vs v
stored_is w who vars (to_variable x) vs v = refl
stored_is w who vars (to_property o p) [] v = refl
stored_is w who vars (to_property o p) (a ∷ []) v = refl
stored_is w who vars (to_property o p) (a ∷ b ∷ vs) v = refl
stored_is w who vars (to_index t i) vs v =
    let u = target_of (shape_of t) in
    ap (λ n. whole_stored (λ x. stored w who vars u vs x) (with_index (target_value w who vars u vs) (drop n vs) v)) (target_arity_is t)
    ∙ ap (λ z. whole_stored (λ x. stored w who vars u vs x) (with_index z (drop (arity t) vs) v)) (target_value_is w who vars t vs)
    ∙ same_whole (λ x. stored w who vars u vs x) (λ x. stored w who vars t vs x) (λ x. stored_is w who vars t vs x) (with_index (target_value w who vars t vs) (drop (arity t) vs) v)
  where
    same_whole : (f g : Datum → Stored) → ((x : Datum) → f x ≡ g x) → (a : Answer) → whole_stored f a ≡ whole_stored g a
    same_whole f g e (gives x) = e x
    same_whole f g e (raises x) = refl
stored_is w who vars (to_range t i j) vs v =
    let u = target_of (shape_of t) in
    ap (λ n. whole_stored (λ x. stored w who vars u vs x) (with_range (target_value w who vars u vs) (drop n vs) v)) (target_arity_is t)
    ∙ ap (λ z. whole_stored (λ x. stored w who vars u vs x) (with_range z (drop (arity t) vs) v)) (target_value_is w who vars t vs)
    ∙ same_whole (λ x. stored w who vars u vs x) (λ x. stored w who vars t vs x) (λ x. stored_is w who vars t vs x) (with_range (target_value w who vars t vs) (drop (arity t) vs) v)
  where
    same_whole : (f g : Datum → Stored) → ((x : Datum) → f x ≡ g x) → (a : Answer) → whole_stored f a ≡ whole_stored g a
    same_whole f g e (gives x) = e x
    same_whole f g e (raises x) = refl

-- ---- values behind those of a target do not count

drop_more : (n : ℕ) (vs more : List Datum) → n ≤ length vs → drop n (vs ++ more) ≡ drop n vs ++ more
drop_more zero vs more h = refl
drop_more (suc n) [] more h = absurd (omega (arith, h))
drop_more (suc n) (v ∷ vs) more h = drop_more n vs more (omega (arith, h))

index_more : (a : Answer) (vs more : List Datum) → 1 ≤ length vs → at_index a (vs ++ more) ≡ at_index a vs
index_more (raises e) vs more h = refl
index_more (gives v) [] more h = absurd (omega (arith, h))
index_more (gives v) (i ∷ vs) more h = refl

range_more : (a : Answer) (vs more : List Datum) → 2 ≤ length vs → at_range a (vs ++ more) ≡ at_range a vs
range_more (raises e) vs more h = refl
range_more (gives v) [] more h = absurd (omega (arith, h))
range_more (gives v) (i ∷ []) more h = absurd (omega (arith, h))
range_more (gives v) (i ∷ j ∷ vs) more h = refl

drop_length : (n : ℕ) (vs : List Datum) (k : ℕ) → n + k ≤ length vs → k ≤ length (drop n vs)
drop_length zero vs k h = omega (arith, h)
drop_length (suc n) [] k h = absurd (omega (arith, h))
drop_length (suc n) (v ∷ vs) k h = drop_length n vs k (omega (arith, h))

value_more : (w : World) (who : ℤ) (vars : Named Datum) (t : Target) (vs more : List Datum) → arity t ≤ length vs → target_value w who vars t (vs ++ more) ≡ target_value w who vars t vs
value_more w who vars (to_variable x) vs more h = refl
value_more w who vars (to_property o p) [] more h = absurd (omega (arith, h))
value_more w who vars (to_property o p) (a ∷ []) more h = absurd (omega (arith, h))
value_more w who vars (to_property o p) (a ∷ b ∷ vs) more h = refl
value_more w who vars (to_index t i) vs more h =
    let n : arity t ≤ length vs = omega (arith, h) in
    ap (λ z. at_index z (drop (arity t) (vs ++ more))) (value_more w who vars t vs more n) ∙ ap (at_index (target_value w who vars t vs)) (drop_more (arity t) vs more n)
    ∙ index_more (target_value w who vars t vs) (drop (arity t) vs) more (drop_length (arity t) vs 1 (omega (arith, h)))
value_more w who vars (to_range t i j) vs more h =
    let n : arity t ≤ length vs = omega (arith, h) in
    ap (λ z. at_range z (drop (arity t) (vs ++ more))) (value_more w who vars t vs more n) ∙ ap (at_range (target_value w who vars t vs)) (drop_more (arity t) vs more n)
    ∙ range_more (target_value w who vars t vs) (drop (arity t) vs) more (drop_length (arity t) vs 2 (omega (arith, h)))

first_more : (vs more : List Datum) → 1 ≤ length vs → first_held (vs ++ more) ≡ first_held vs
first_more [] more h = absurd (omega (arith, h))
first_more (v ∷ vs) more h = refl

many : (n : ℕ) → length (replicate n any_value) ≡ n
many zero = refl
many (suc n) = ap suc (many n)

none_more : (n : ℕ) → n ≡ 0 + n
none_more n = omega arith

one_more : (n : ℕ) → suc n ≡ 1 + n
one_more n = omega arith

at_least : (a b k : ℕ) → b ≡ k + a → a ≤ b
at_least a b k e = omega (arith, e)

-- ---- what `$` is the length of

module _ (f : Verb) (vars : Named Datum) (g : Focus) (ks : List Outer) (s : Scene) where
  -- with the pieces of the whole verb, and those from one outwards
  abbrev defined : List Piece → List Piece → Answer
  defined all ps = indexed_in s (pending f vars g all) ps

  abbrev meant : List Datum → Bracketed → Answer
  meant st b = bracketed_value s (seen f.player (kept f vars 0 []) ks) st b

  module _ (all : List Piece) (st : List Datum) where
    -- the operands from the bottom: those of the pieces, what the piece holds, and more
    abbrev Above : List Piece → Type 0
    Above ps = (more : List Datum) × (onto st [] ≡ onto (operands ps) [] ++ more)

    inside : (q : Piece) (ps : List Piece) → Above (q ∷ ps) → Above ps
    inside q ps h = (q.held ++ h.0, h.1 ∙ ap (λ z. z ++ h.0) (from_bottom q.held (operands ps)) ∙ append_assoc (onto (operands ps) []) q.held h.0)

    held_there : (q : Piece) (ps : List Piece) (h : Above (q ∷ ps)) → Counted ps → from_height (around ps).height st ≡ q.held ++ h.0
    held_there q ps h k =
        ap (λ n. drop n (onto st [])) (height_is ps k) ∙ ap (drop (length (operands ps))) (h.1 ∙ ap (λ z. z ++ h.0) (from_bottom q.held (operands ps))) ∙ above_those (operands ps) q.held h.0

    value_there : (q : Piece) (ps : List Piece) (h : Above (q ∷ ps)) → Counted ps → 1 ≤ length q.held → first_held q.held ≡ meant st (operand_at (around ps).height)
    value_there q ps h k n = sym (ap first_held (held_there q ps h k) ∙ first_more q.held h.0 n)

    target_there : (t : Target) (q : Piece) (ps : List Piece) (h : Above (q ∷ ps)) → Counted ps → arity t ≤ length q.held
        → target_value s.world f.call.programmer vars t q.held ≡ meant st (target_at (shape_of t) (around ps).height)
    target_there t q ps h k n =
        sym (ap (target_value s.world f.call.programmer vars (target_of (shape_of t))) (held_there q ps h k) ∙ target_value_is s.world f.call.programmer vars t (q.held ++ h.0) ∙ value_more s.world f.call.programmer vars t q.held h.0 n)

    by_piece : (q : Piece) (ps : List Piece) (c d : Construct) (n : ℕ) → tree_of (part_at d n) ≡ Some c → length q.held ≡ part_count (part_at d n) → Counted ps → Above (q ∷ ps)
        → defined all ps ≡ meant st (around ps).bracketed
        → or_around (indexed_by s (pending f vars g all) d n q.held) (defined all ps) ≡ meant st (brackets_in (around ps) d n)
    by_piece q ps c (of_expr (index a i)) zero e n k h r = r
    by_piece q ps c (of_expr (index a i)) (suc zero) e n k h r = r
    by_piece q ps c (of_expr (index a i)) (suc (suc zero)) e n k h r = value_there q ps h k (omega (arith, n))
    by_piece q ps c (of_expr (index a i)) (suc (suc (suc m))) e n k h r = cc
    by_piece q ps c (of_expr (range a i j)) zero e n k h r = r
    by_piece q ps c (of_expr (range a i j)) (suc zero) e n k h r = r
    by_piece q ps c (of_expr (range a i j)) (suc (suc zero)) e n k h r = value_there q ps h k (omega (arith, n))
    by_piece q ps c (of_expr (range a i j)) (suc (suc (suc zero))) e n k h r = value_there q ps h k (omega (arith, n))
    by_piece q ps c (of_expr (range a i j)) (suc (suc (suc (suc m)))) e n k h r = cc
    by_piece q ps c (of_target (to_index t i)) zero e n k h r = r
    by_piece q ps c (of_target (to_index t i)) (suc zero) e n k h r = r
    by_piece q ps c (of_target (to_index t i)) (suc (suc zero)) e n k h r = target_there t q ps h k (at_least (arity t) (length q.held) 0 (n ∙ many (arity t) ∙ none_more (arity t)))
    by_piece q ps c (of_target (to_index t i)) (suc (suc (suc m))) e n k h r = cc
    by_piece q ps c (of_target (to_range t i j)) zero e n k h r = r
    by_piece q ps c (of_target (to_range t i j)) (suc zero) e n k h r = r
    by_piece q ps c (of_target (to_range t i j)) (suc (suc zero)) e n k h r = target_there t q ps h k (at_least (arity t) (length q.held) 0 (n ∙ many (arity t) ∙ none_more (arity t)))
    by_piece q ps c (of_target (to_range t i j)) (suc (suc (suc zero))) e n k h r = target_there t q ps h k (at_least (arity t) (length q.held) 1 (n ∙ many (suc (arity t)) ∙ one_more (arity t)))
    by_piece q ps c (of_target (to_range t i j)) (suc (suc (suc (suc m)))) e n k h r = cc
    by_piece q ps c d m e n k h r = r

    brackets_are : (ps : List Piece) (c : Construct) → Linked c ps (of_program f.whole) → Counted ps → Above ps → defined all ps ≡ meant st (around ps).bracketed
    brackets_are [] c l k h = refl
    brackets_are (q ∷ ps) c l k h = by_piece q ps c q.construct q.part l.0 k.0 k.1 h (brackets_are ps q.construct l.1 k.1 (inside q ps h))

pub brackets_agree : (f : Verb) (vars : Named Datum) (ps : List Piece) (ks : List Outer) (c : Construct) → Linked c ps (of_program f.whole) → Counted ps → (s : Scene) (g : Focus)
    → indexed_in s (pending f vars g ps) ps ≡ bracketed_value s (seen f.player (kept f vars 0 []) ks) (operands ps) (around ps).bracketed
brackets_agree f vars ps ks c l k s g = brackets_are f vars g ks s ps (operands ps) ps c l k ([], sym (append-nil (onto (operands ps) [])))
