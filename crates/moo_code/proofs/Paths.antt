-- Places by the layout, and back.
use Rattle.std.proofs.Common.{◌≡◌, ℕ, zero, suc, pred, ◌+◌, ◌<◌, List, [], ◌∷◌, ◌++◌, Option, Some, None, refl, sym, ap, ◌∙◌, arith, append_assoc}
use Rattle.std.proofs.lemmas.List.{append-nil}
use Rattle.spec_program.specs.Tree.{Expr, Program, call, verb_call, Arguments, no_arguments, argument, splice}
use Rattle.spec_program.specs.Construct.{Construct, of_expr, of_target, of_default, of_statement, of_program, Piece}
use Rattle.spec_program.specs.Place.{Linked}
use Rattle.spec_moo.specs.Effects.Handlers.{argument_count}
use Rattle.spec_world.specs.World.{Frame}
use Rattle.moo_code.specs.Instruction.{Operation, Unraised}
use Rattle.moo_code.specs.Layout.{Around, outermost, Link, Layout, stop, own, inner, gap, front, reception_size, size, rest, reached, entry, arguments_layout, layout}
use Rattle.moo_code.specs.Stands.{Counted, around, body, link_of, front_of, part_of, start, kept_of, Waits}
use Rattle.moo_code.specs.Paths.{below, past, in_or_past, find, path_of, onto_path, in_tree, last_at, IsFound, IsPlaced, CallsWait}
use Rattle.moo_code.proofs.Places.{whole_size, same_link, same_layout, IsPart}
use Rattle.moo_code.proofs.Points.{piece, start_is, code_same, within_whole, handled_at_operation}
use Rattle.moo_code.proofs.Rows.Every.{every_construct_fits}

past_in : (k o : ℕ) → o < k → past k o ≡ None
past_in zero o h = absurd (omega (arith, h))
past_in (suc k) zero h = refl
past_in (suc k) (suc o) h = past_in k o (omega (arith, h))

past_out : (k o m : ℕ) → m ≡ k + o → past k m ≡ Some o
past_out zero o m e = let d : m ≡ o = omega (arith, e) in ap Some d
past_out (suc k) o zero e = absurd (omega (arith, e))
past_out (suc k) o (suc m) e = past_out k o m (omega (arith, e))

abbrev pub counted : ℕ → ℕ → ℕ
counted zero n = n
counted (suc j) n = counted j (suc n)

counted_is : (j n : ℕ) → counted j n ≡ j + n
counted_is zero n = omega arith
counted_is (suc j) n = let e = counted_is j (suc n) in omega (arith, e)

-- behind a part
pub find_past : (n : ℕ) (k : Link) (a l : Layout) (o m : ℕ) → o ≡ front k + (size a + (reception_size k.reception + m)) → find n (inner k a l) o ≡ find (suc n) l m
find_past n k a l o m e =
    ap (λ x. in_or_past x (Some (n ∷ [])) (λ i. in_or_past (past (size a) i) (below n (find 1 a i)) (λ j. in_or_past (past (reception_size k.reception) j) (Some []) (λ m. find (suc n) l m)))) (past_out (front k) (size a + (reception_size k.reception + m)) o e)
    ∙ ap (λ x. in_or_past x (below n (find 1 a (size a + (reception_size k.reception + m)))) (λ j. in_or_past (past (reception_size k.reception) j) (Some []) (λ m. find (suc n) l m))) (past_out (size a) (reception_size k.reception + m) (size a + (reception_size k.reception + m)) refl)
    ∙ ap (λ x. in_or_past x (Some []) (λ m. find (suc n) l m)) (past_out (reception_size k.reception) m (reception_size k.reception + m) refl)

-- in a part
find_in : (n : ℕ) (k : Link) (a l : Layout) (o m : ℕ) → o ≡ front k + m → m < size a → find n (inner k a l) o ≡ below n (find 1 a m)
find_in n k a l o m e h =
    ap (λ x. in_or_past x (Some (n ∷ [])) (λ i. in_or_past (past (size a) i) (below n (find 1 a i)) (λ j. in_or_past (past (reception_size k.reception) j) (Some []) (λ m. find (suc n) l m)))) (past_out (front k) m o e)
    ∙ ap (λ x. in_or_past x (below n (find 1 a m)) (λ j. in_or_past (past (reception_size k.reception) j) (Some []) (λ m. find (suc n) l m))) (past_in (size a) m h)

in_part : (j n : ℕ) (l : Layout) (k : Link) (a : Layout) (o : ℕ) → IsPart j l k a → o < size a → find n l (entry (suc j) l + front k + o) ≡ below (counted j n) (find 1 a o)
in_part j n stop k a o h s = cc
in_part j n (own op ns l) k a o h s =
    let d : suc (entry (suc j) l) + front k + o ≡ suc (entry (suc j) l + front k + o) = omega arith in
    ap (find n (own op ns l)) d ∙ in_part j n l k a o h s
in_part zero n (inner i b l) k a o h s =
    let f : front i ≡ front k = ap front (same_link i k h.0) in
    let e : b ≡ a = same_layout b a h.1 in
    let z : 0 + front k + o ≡ front i + o = omega (arith, f) in
    let s' : o < size b = omega (arith, s, ap size e) in
    find_in n i b l (0 + front k + o) o z s' ∙ ap (λ x. below n (find 1 x o)) e
in_part (suc j) n (inner i b l) k a o h s =
    let m : front i + (size b + (reception_size i.reception + entry (suc j) l)) + front k + o ≡ front i + (size b + (reception_size i.reception + (entry (suc j) l + front k + o))) = omega arith in
    find_past n i b l _ (entry (suc j) l + front k + o) m ∙ in_part j (suc n) l k a o h s
in_part zero n (gap l) k a o h s = cc
in_part (suc j) n (gap l) k a o h s = in_part j (suc n) l k a o h s

path_on : (path : List ℕ) (n : ℕ) (o : Option (List ℕ)) → onto_path path (below n o) ≡ onto_path (path ++ n ∷ []) o
path_on path n None = refl
path_on path n (Some more) = ap Some (sym (append_assoc path (n ∷ []) more))

no_path : (o : Option (List ℕ)) → o ≡ onto_path [] o
no_path None = refl
no_path (Some more) = refl

in_piece : (m : ℕ) (l : Layout) (k : Link) (a : Layout) (o : ℕ) → (link_of m l ≡ Some k) × (part_of m l ≡ Some a) → o < size a → find 1 l (entry m l + front k + o) ≡ below m (find 1 a o)
in_piece zero l k a o h s = cc
in_piece (suc j) l k a o h s =
    let number : counted j 1 ≡ suc j = omega (arith, counted_is j 1) in
    in_part j 1 l k a o h s ∙ ap (λ z. below z (find 1 a o)) number

pub is_found : IsFound
is_found p c [] o h small =
    let d : 0 + o ≡ o = omega arith in
    ap (find 1 (layout outermost (of_program p))) d ∙ ap (λ x. find 1 (layout outermost x) o) (sym h) ∙ no_path (find 1 (layout outermost c) o)
is_found p c (q ∷ ps) o h small =
    let r = piece every_construct_fits ps q c h.0 in
    let l = body ps q.construct in
    let s : o < size r.code = omega (arith, small, ap size (code_same every_construct_fits p q ps c h.0)) in
    let w = within_whole q.part l r.link r.code (r.link_is, r.code_is) in
    let inside : entry q.part l + front r.link + o < size l = omega (arith, s, w) in
    let d : start (q ∷ ps) + o ≡ start ps + (entry q.part l + front r.link + o) = omega (arith, start_is every_construct_fits p q ps c h.0) in
    ap (find 1 (layout outermost (of_program p))) d ∙ is_found p q.construct ps (entry q.part l + front r.link + o) h.1 inside
    ∙ ap (onto_path (path_of ps)) (in_piece q.part l r.link r.code o (r.link_is, r.code_is) s ∙ ap (λ x. below q.part (find 1 x o)) (code_same every_construct_fits p q ps c h.0)) ∙ path_on (path_of ps) q.part (find 1 (body (q ∷ ps) c) o)

-- ---- back

placed_on : (p : Program) (c : Construct) (ps : List Piece) → Linked c ps (of_program p) → (more : List ℕ) → last_at outermost (of_program p) (path_of ps ++ more) ≡ start ps + last_at (around ps) c more
placed_on p c [] h more =
    let d : last_at outermost c more ≡ 0 + last_at outermost c more = omega arith in
    ap (λ z. last_at outermost z more) (sym h) ∙ d
placed_on p c (q ∷ ps) h more =
    let l = body ps q.construct in
    let inner_ = last_at (around (q ∷ ps)) c more in
    let d : start ps + (entry q.part l + front_of (link_of q.part l) + inner_) ≡ start ps + (entry q.part l + front_of (link_of q.part l)) + inner_ = omega arith in
    ap (last_at outermost (of_program p)) (append_assoc (path_of ps) (q.part ∷ []) more) ∙ placed_on p q.construct ps h.1 (q.part ∷ more)
    ∙ ap (λ o. start ps + (entry q.part l + front_of (link_of q.part l) + in_tree o (λ d. last_at (around (q ∷ ps)) d more))) h.0 ∙ d

pub is_placed : IsPlaced
is_placed p c ps h = ap (last_at outermost (of_program p)) (sym (append-nil (path_of ps))) ∙ placed_on p c ps h []

-- ---- calls

pub rest_arguments : (x : Around) (k : ℕ) (u : Unraised) (es : Arguments) (l : Layout) → rest (argument_count es) (arguments_layout x k u es l) ≡ l
rest_arguments x k u no_arguments l = refl
rest_arguments x k u (argument e more) l = rest_arguments x k u more l
rest_arguments x k u (splice e more) l = rest_arguments x k u more l

-- a construct whose last operation stands after so many parts
waits_there : (f : Frame) (e : Expr) (n : ℕ) (op : Operation) → rest n (body f.pieces (of_expr e)) ≡ own op [] stop → Linked (of_expr e) f.pieces (of_program f.program) → Counted f.pieces
    → Waits f (kept_of f (last_at outermost (of_program f.program) (path_of f.pieces)))
waits_there f e n op is h k =
    let l = body f.pieces (of_expr e) in
    let a = whole_size n l in
    let b : size (rest n l) ≡ 1 = ap size is in
    let c : pred (size l) ≡ reached n l = ap pred (a ∙ ap (λ z. reached n l + z) b ∙ one_more (reached n l)) in
    let place = last_at outermost (of_program f.program) (path_of f.pieces) in
    let at : place ≡ start f.pieces + reached n l = is_placed f.program (of_expr e) f.pieces h ∙ ap (λ z. start f.pieces + z) c in
    record { place = place; is = refl; at = e; linked = h; counted = k; end = omega (arith, at, a, b); handled = handled_at_operation every_construct_fits f.program (of_expr e) f.pieces n place op [] stop h is at }
  where
    one_more : (n : ℕ) → n + 1 ≡ suc n
    one_more n = omega arith

pub calls_wait : CallsWait
calls_wait f (of_expr (call g es)) i h k = waits_there f (call g es) (argument_count es) _ (rest_arguments _ _ _ es _) h k
calls_wait f (of_expr (verb_call o v es)) i h k = waits_there f (verb_call o v es) (suc (suc (argument_count es))) _ (rest_arguments _ _ _ es _) h k
calls_wait f (of_expr e) i h k = cc
calls_wait f (of_target e) i h k = cc
calls_wait f (of_default y e) i h k = cc
calls_wait f (of_statement e) i h k = cc
calls_wait f (of_program e) i h k = cc
