-- Where a construct that pieces lead out of stands in a verb's code, and which handlers stand around it: lemmas that name no construct.
use Rattle.std.proofs.Common.{◌≡◌, ℕ, zero, suc, ◌+◌, ◌≤◌, ◌<◌, List, [], ◌∷◌, ◌++◌, true, cond, Option, Some, None, refl, sym, ap, ◌∙◌, subst, arith, append_assoc, drop}
use Rattle.std.specs.Prelude.{slice_get}
use Rattle.std.proofs.lemmas.List.{append-nil}
use Rattle.spec_program.specs.Tree.{Program}
use Rattle.spec_program.specs.Construct.{Construct, of_program, Piece}
use Rattle.spec_program.specs.Place.{Part, parts, part_at, nth, tree_of, held_count, Linked}
use Rattle.moo_code.specs.Instruction.{Operation, Unraised, Instruction, open_list, receive, perform, placed}
use Rattle.spec_moo.specs.Held.{Way}
use Rattle.moo_code.specs.Layout.{Around, outermost, within, received, Link, Layout, stop, own, inner, gap, front, reception_size, size, rest, reached, entry, opening, receiving, opens, layout, handler, handlers, code_of, handlers_of}
use Rattle.moo_code.specs.Machine.{handlers_at}
use Rattle.moo_code.specs.Stands.{outcome, part_count, first_size, around, body, link_of, front_of, caught_of, part_of, part_size, start, target, marks}
use Rattle.moo_code.proofs.Places.{whole_size, IsPart, part_end, Stood, Laid, LaidPart, PartLaid, laid_rest, laid_part, code_laid}
use Rattle.moo_code.proofs.Handled.{none_at_own, none_received, Around as AroundAt, in_part}
use Rattle.moo_code.proofs.Fits.{Receives, Catching, PartFits, Fits, FitsOn, after_count, AllFit}

-- ---- small equalities

unfoldable construct_or : Construct → Option Construct → Construct
construct_or c None = c
construct_or c (Some d) = d

pub same_construct : (c d : Construct) → Some c ≡ Some d → c ≡ d
unfolding construct_or
same_construct c d h = ap (λ o. construct_or c o) h

unfoldable part_or : Part → Option Part → Part
part_or p None = p
part_or p (Some q) = q

pub same_part : (p q : Part) → Some p ≡ Some q → p ≡ q
unfolding part_or
same_part p q h = ap (λ o. part_or p o) h

abbrev shift : ℕ → ℕ → ℕ
shift zero n = n
shift (suc j) n = shift j (suc n)

shift_is : (j n : ℕ) → shift j n ≡ j + n
shift_is zero n = omega arith
shift_is (suc j) n = let e = shift_is j (suc n) in omega (arith, e)

-- ---- a part of a construct

module _ (x : Around) (c : Construct) where
  record Later (j m h : ℕ) (d : Construct) (ps : List Part) (l : Layout) : Type 0 where
    link : Link
    code : Layout
    is_part : IsPart j l link code
    opened : link.opens ≡ opens d
    same : code ≡ layout (within x c m h) d
    receives : Receives x c link.reception m h d
    catching : Catching x c m h link.caught
    fits_after : Fits x c m (after_count link.reception h (outcome d)) (drop (suc j) ps) (rest (suc j) l)

  found_first : (m h : ℕ) (k : Link) (a : Layout) (o : Option Construct) (ps : List Part) (p : Part) (l : Layout)
      → PartFits x c m h k a o (λ d. Fits x c m (after_count k.reception h (outcome d)) ps l) → (d : Construct) → o ≡ Some d → Later 0 m h d (p ∷ ps) (inner k a l)
  found_first m h k a None ps p l f d e = cc
  found_first m h k a (Some b) ps p l f d e =
      subst (λ z. Later 0 m h z (p ∷ ps) (inner k a l)) (same_construct b d e)
      (record { link = k; code = a; is_part = (refl, refl); opened = f.1.0; same = f.1.1; receives = f.1.2; catching = f.0; fits_after = f.1.3 })

  at_first : (n : ℕ) (k : Link) (a : Layout) (ps : List Part) (p : Part) (l : Layout)
      → PartFits x c (suc n) (held_count p.held) k a p.tree (λ d. Fits x c (suc n) (after_count k.reception (held_count p.held) (outcome d)) ps l)
      → (q : Part) (d : Construct) → nth (p ∷ ps) 0 ≡ Some q → q.tree ≡ Some d → Later 0 (suc n) (held_count q.held) d (p ∷ ps) (inner k a l)
  at_first n k a ps p l f q d e g =
      let same : p ≡ q = same_part p q e in
      subst (λ (z : Part). Later 0 (suc n) (held_count z.held) d (p ∷ ps) (inner k a l)) same
      (found_first (suc n) (held_count p.held) k a p.tree ps p l f d (ap (λ (z : Part). z.tree) same ∙ g))

  under_tree : (m h : ℕ) (k : Link) (a : Layout) (o : Option Construct) (go : Construct → Type 0) (goal : Type 0) → PartFits x c m h k a o go → ((d : Construct) → go d → goal) → goal
  under_tree m h k a None go goal f g = absurd f.1
  under_tree m h k a (Some d) go goal f g = g d f.1.3

  mutual
    later : (n k : ℕ) (ps : List Part) (l : Layout) → Fits x c n k ps l → (j : ℕ) (q : Part) (d : Construct) → nth ps j ≡ Some q → q.tree ≡ Some d → Later j (shift j (suc n)) (held_count q.held) d ps l
    later n k [] l f j q d e g = cc
    later n k (p ∷ ps) stop f j q d e g = absurd f
    later n k (p ∷ ps) (gap l) f j q d e g = absurd f
    later n k (p ∷ ps) (own op ns l) f j q d e g =
        let r = later_on n (p ∷ ps) l f.3 j q d e g in
        record { link = r.link; code = r.code; is_part = r.is_part; opened = r.opened; same = r.same; receives = r.receives; catching = r.catching; fits_after = r.fits_after }
    later n k (p ∷ ps) (inner i a l) f zero q d e g = at_first n i a ps p l f.2 q d e g
    later n k (p ∷ ps) (inner i a l) f (suc j) q d e g =
        under_tree (suc n) (held_count p.held) i a p.tree _ (Later (suc j) (shift (suc j) (suc n)) (held_count q.held) d (p ∷ ps) (inner i a l)) f.2
        (λ b h.
        let r = later (suc n) (after_count i.reception (held_count p.held) (outcome b)) ps l h j q d e g in
        record { link = r.link; code = r.code; is_part = r.is_part; opened = r.opened; same = r.same; receives = r.receives; catching = r.catching; fits_after = r.fits_after })

    later_on : (n : ℕ) (ps : List Part) (l : Layout) → FitsOn x c n ps l → (j : ℕ) (q : Part) (d : Construct) → nth ps j ≡ Some q → q.tree ≡ Some d → Later j (shift j (suc n)) (held_count q.held) d ps l
    later_on n [] l f j q d e g = cc
    later_on n (p ∷ ps) stop f j q d e g = absurd f
    later_on n (p ∷ ps) (own op ns l) f j q d e g = absurd f
    later_on n (p ∷ ps) (inner i a l) f zero q d e g = at_first n i a ps p l f q d e g
    later_on n (p ∷ ps) (inner i a l) f (suc j) q d e g =
        under_tree (suc n) (held_count p.held) i a p.tree _ (Later (suc j) (shift (suc j) (suc n)) (held_count q.held) d (p ∷ ps) (inner i a l)) f
        (λ b h.
        let r = later (suc n) (after_count i.reception (held_count p.held) (outcome b)) ps l h j q d e g in
        record { link = r.link; code = r.code; is_part = r.is_part; opened = r.opened; same = r.same; receives = r.receives; catching = r.catching; fits_after = r.fits_after })
    later_on n (p ∷ ps) (gap l) f zero q d e g = no_tree (sym f.0 ∙ ap (λ (z : Part). z.tree) (same_part p q e) ∙ g)
      where
        no_tree : None ≡ Some d → Later 0 (suc n) (held_count q.held) d (p ∷ ps) (gap l)
        no_tree z = cc
    later_on n (p ∷ ps) (gap l) f (suc j) q d e g =
        let r = later_on (suc n) ps l f.1 j q d e g in
        record { link = r.link; code = r.code; is_part = r.is_part; opened = r.opened; same = r.same; receives = r.receives; catching = r.catching; fits_after = r.fits_after }

  -- the part with a number, which is d
  pub record PieceAt (m : ℕ) (d : Construct) : Type 0 where
    pub link : Link
    pub code : Layout
    pub link_is : link_of m (layout x c) ≡ Some link
    pub code_is : part_of m (layout x c) ≡ Some code
    pub opened : link.opens ≡ opens d
    pub same : code ≡ layout (within x c m (part_count (part_at c m))) d
    pub receives : Receives x c link.reception m (part_count (part_at c m)) d
    pub catching : Catching x c m (part_count (part_at c m)) link.caught
    pub fits_after : Fits x c m (after_count link.reception (part_count (part_at c m)) (outcome d)) (drop m (parts c)) (rest m (layout x c))

  module _ (whole : Fits x c 0 (first_size c) (parts c) (layout x c)) where
    pub piece_at : (m : ℕ) (d : Construct) → tree_of (part_at c m) ≡ Some d → PieceAt m d
    piece_at zero d e = cc
    piece_at (suc j) d e = by (nth (parts c) j) refl e
      where
        by : (o : Option Part) → nth (parts c) j ≡ o → tree_of o ≡ Some d → PieceAt (suc j) d
        by None is e = cc
        by (Some q) is e =
            let n : shift j 1 ≡ suc j = omega (arith, shift_is j 1) in
            let h : held_count q.held ≡ part_count (nth (parts c) j) = sym (ap part_count is) in
            let r : Later j (suc j) (part_count (nth (parts c) j)) d (parts c) (layout x c) =
            subst (λ z. Later j (suc j) z d (parts c) (layout x c)) h
            (subst (λ z. Later j z (held_count q.held) d (parts c) (layout x c)) n (later 0 (first_size c) (parts c) (layout x c) whole j q d is e)) in
            record { link = r.link; code = r.code; link_is = r.is_part.0; code_is = r.is_part.1; opened = r.opened; same = r.same; receives = r.receives; catching = r.catching; fits_after = r.fits_after }

-- ---- parts by their numbers

abbrev IsPiece : ℕ → Layout → Link → Layout → Type 0
IsPiece m l k a = (link_of m l ≡ Some k) × (part_of m l ≡ Some a)

pub piece_end : (m : ℕ) (l : Layout) (k : Link) (a : Layout) → IsPiece m l k a → reached m l ≡ entry m l + (front k + (size a + reception_size k.reception))
piece_end zero l k a h = cc
piece_end (suc n) l k a h = part_end n l k a h

piece_laid : (code : List Instruction) (to : ℕ → ℕ) (b m : ℕ) (l : Layout) (k : Link) (a : Layout) → Laid code to b l → IsPiece m l k a → PartLaid code to (b + entry m l) k a
piece_laid code to b zero l k a h e = cc
piece_laid code to b (suc n) l k a h e = laid_part code to b n l k a h e

piece_received : (to : ℕ → ℕ) (b m : ℕ) (l : Layout) (k : Link) (a : Layout) (pc : ℕ) → IsPiece m l k a → reception_size k.reception ≡ 1 → pc ≡ b + entry m l + (front k + size a) → handlers_at (handlers to b l) pc ≡ []
piece_received to b zero l k a pc h r p = cc
piece_received to b (suc n) l k a pc h r p = none_received to b n l k a pc h r p

in_piece : (to : ℕ → ℕ) (b m : ℕ) (l : Layout) (k : Link) (a : Layout) (pc : ℕ) → IsPiece m l k a → b + entry m l + front k ≤ pc → pc < b + entry m l + front k + size a
    → AroundAt to b l pc k a (b + entry m l + front k)
in_piece to b zero l k a pc h e f = cc
in_piece to b (suc n) l k a pc h e f = in_part to b n l k a pc h e f

pub within_whole : (m : ℕ) (l : Layout) (k : Link) (a : Layout) → IsPiece m l k a → entry m l + (front k + (size a + reception_size k.reception)) ≤ size l
within_whole m l k a h = let e = piece_end m l k a h in let f = whole_size m l in omega (arith, e, f)

module _ (fit : AllFit) where
  -- the part that a piece is in
  pub piece : (ps : List Piece) (q : Piece) (d : Construct) → tree_of (part_at q.construct q.part) ≡ Some d → PieceAt (around ps) q.construct q.part d
  piece ps q d e = piece_at (around ps) q.construct (fit (around ps) q.construct) q.part d e

  module _ (p : Program) where
    abbrev pub root : Construct
    root = of_program p

    module _ (q : Piece) (ps : List Piece) (d : Construct) (h : tree_of (part_at q.construct q.part) ≡ Some d) where
      pub start_is : start (q ∷ ps) ≡ start ps + entry q.part (body ps q.construct) + front (piece ps q d h).link
      start_is =
          let e : front_of (link_of q.part (body ps q.construct)) ≡ front (piece ps q d h).link = ap front_of (piece ps q d h).link_is in
          omega (arith, e)

      pub code_same : (piece ps q d h).code ≡ body (q ∷ ps) d
      code_same = (piece ps q d h).same

      -- where the next point stands
      pub ends_at : start ps + reached q.part (body ps q.construct) ≡ start (q ∷ ps) + size (body (q ∷ ps) d) + reception_size (piece ps q d h).link.reception
      ends_at =
          let r = piece ps q d h in
          let e = piece_end q.part (body ps q.construct) r.link r.code (r.link_is, r.code_is) in
          omega (arith, e, start_is, ap size code_same)

      pub ends_within : start (q ∷ ps) + size (body (q ∷ ps) d) + reception_size (piece ps q d h).link.reception ≤ start ps + size (body ps q.construct)
      ends_within =
          let r = piece ps q d h in
          let e = within_whole q.part (body ps q.construct) r.link r.code (r.link_is, r.code_is) in
          omega (arith, e, start_is, ap size code_same)

    -- a construct that these pieces lead out of stands where they say
    pub laid_there : (c : Construct) (ps : List Piece) → Linked c ps root → LaidPart (code_of p) (start ps) (body ps c)
    laid_there c [] h = subst (λ z. LaidPart (code_of p) 0 (layout outermost z)) (sym h) (code_laid (layout outermost root))
    laid_there c (q ∷ ps) h =
        let r = piece ps q c h.0 in
        let l = piece_laid (code_of p) (target ps q.construct) (start ps) q.part (body ps q.construct) r.link r.code (laid_there q.construct ps h.1) (r.link_is, r.code_is) in
        subst (λ z. LaidPart (code_of p) z (body (q ∷ ps) c)) (sym (start_is q ps c h.0))
        (subst (λ z. LaidPart (code_of p) (start ps + entry q.part (body ps q.construct) + front r.link) z) (code_same q ps c h.0) l.1)

    pub operation_there : (c : Construct) (ps : List Piece) (n pc : ℕ) (op : Operation) (ns : List ℕ) (l : Layout) → Linked c ps root → rest n (body ps c) ≡ own op ns l → pc ≡ start ps + reached n (body ps c)
        → slice_get (code_of p) pc ≡ Some (perform op (placed (target ps c) ns))
    operation_there c ps n pc op ns l h e at =
        let r : Laid (code_of p) (target ps c) (start ps + reached n (body ps c)) (own op ns l) =
        subst (Laid (code_of p) (target ps c) (start ps + reached n (body ps c))) e (laid_rest (code_of p) (target ps c) (start ps) n (body ps c) (laid_there c ps h)) in
        ap (slice_get (code_of p)) at ∙ r.0

    opened_there : (k : Link) (b : ℕ) → k.opens ≡ true → Stood (code_of p) b (opening k) → slice_get (code_of p) b ≡ Some open_list
    opened_there k b e h = (subst (λ z. Stood (code_of p) b (cond z (open_list ∷ []) [])) e h).0

    -- an empty list before a construct that begins with one
    pub opening_there : (q : Piece) (ps : List Piece) (c : Construct) (h : tree_of (part_at q.construct q.part) ≡ Some c) → Linked q.construct ps root → opens c ≡ true → (pc : ℕ) → suc pc ≡ start (q ∷ ps)
        → slice_get (code_of p) pc ≡ Some open_list
    opening_there q ps c h k o pc at =
        let r = piece ps q c h in
        let l = piece_laid (code_of p) (target ps q.construct) (start ps) q.part (body ps q.construct) r.link r.code (laid_there q.construct ps k) (r.link_is, r.code_is) in
        let one : front r.link ≡ 1 = ap (λ b. cond b 1 0) (r.opened ∙ o) in
        let there : pc ≡ start ps + entry q.part (body ps q.construct) = omega (arith, at, start_is q ps c h, one) in
        ap (slice_get (code_of p)) there ∙ opened_there r.link _ (r.opened ∙ o) l.0

    -- the instruction that receives a part's value
    pub receiving_there : (q : Piece) (ps : List Piece) (c : Construct) (h : tree_of (part_at q.construct q.part) ≡ Some c) → Linked q.construct ps root → (w : Way) (n : ℕ) (u : Unraised)
        → (piece ps q c h).link.reception ≡ received w n u → (pc : ℕ) → pc ≡ start (q ∷ ps) + size (body (q ∷ ps) c) → slice_get (code_of p) pc ≡ Some (receive w n (target ps q.construct 0) u)
    receiving_there q ps c h k w n u e pc at =
        let r = piece ps q c h in
        let l = piece_laid (code_of p) (target ps q.construct) (start ps) q.part (body ps q.construct) r.link r.code (laid_there q.construct ps k) (r.link_is, r.code_is) in
        let s : size r.code ≡ size (body (q ∷ ps) c) = ap size r.same in
        let there : pc ≡ start ps + entry q.part (body ps q.construct) + (front r.link + size r.code) = omega (arith, at, start_is q ps c h, s) in
        ap (slice_get (code_of p)) there
        ∙ (subst (λ z. Stood (code_of p) (start ps + entry q.part (body ps q.construct) + (front r.link + size r.code)) (receiving (target ps q.construct 0) z)) e l.2).0

    -- ---- handlers

    in_piece_there : (q : Piece) (ps : List Piece) (c : Construct) (h : tree_of (part_at q.construct q.part) ≡ Some c) (pc : ℕ) → start (q ∷ ps) ≤ pc → pc < start (q ∷ ps) + size (body (q ∷ ps) c)
        → handlers_at (handlers (target ps q.construct) (start ps) (body ps q.construct)) pc
        ≡ handlers_at (handlers (target (q ∷ ps) c) (start (q ∷ ps)) (body (q ∷ ps) c)) pc
        ++ handler (target ps q.construct) (start (q ∷ ps)) (start (q ∷ ps) + part_size (part_of q.part (body ps q.construct))) (caught_of (link_of q.part (body ps q.construct)))
    in_piece_there q ps c h pc e f =
        let r = piece ps q c h in
        let s : size r.code ≡ size (body (q ∷ ps) c) = ap size r.same in
        let first = start_is q ps c h in
        let there = in_piece (target ps q.construct) (start ps) q.part (body ps q.construct) r.link r.code pc (r.link_is, r.code_is) (omega (arith, first, e)) (omega (arith, first, f, s)) in
        subst (λ z. handlers_at (handlers (target ps q.construct) (start ps) (body ps q.construct)) pc
        ≡ handlers_at (handlers (target (q ∷ ps) c) (start (q ∷ ps)) (body (q ∷ ps) c)) pc ++ handler (target ps q.construct) (start (q ∷ ps)) (start (q ∷ ps) + part_size z) (caught_of (link_of q.part (body ps q.construct)))) (sym r.code_is)
        (subst (λ z. handlers_at (handlers (target ps q.construct) (start ps) (body ps q.construct)) pc
        ≡ handlers_at (handlers (target (q ∷ ps) c) (start (q ∷ ps)) (body (q ∷ ps) c)) pc ++ handler (target ps q.construct) (start (q ∷ ps)) (start (q ∷ ps) + size r.code) (caught_of z)) (sym r.link_is)
        (subst (λ z. handlers_at (handlers (target ps q.construct) (start ps) (body ps q.construct)) pc
        ≡ handlers_at (handlers (λ n. start (q ∷ ps) + entry n z) (start (q ∷ ps)) z) pc ++ handler (target ps q.construct) (start (q ∷ ps)) (start (q ∷ ps) + size r.code) r.link.caught) r.same
        (subst (λ z. handlers_at (handlers (target ps q.construct) (start ps) (body ps q.construct)) pc
        ≡ handlers_at (handlers (λ n. z + entry n r.code) z r.code) pc ++ handler (target ps q.construct) z (z + size r.code) r.link.caught) (sym first) there)))

    pub handled_there : (c : Construct) (ps : List Piece) → Linked c ps root → (pc : ℕ) → start ps ≤ pc → pc < start ps + size (body ps c)
        → handlers_at (handlers_of p) pc ≡ handlers_at (handlers (target ps c) (start ps) (body ps c)) pc ++ marks ps
    handled_there c [] h pc e f =
        subst (λ z. handlers_at (handlers_of p) pc ≡ handlers_at (handlers (target [] z) 0 (body [] z)) pc ++ []) (sym h) (sym (append-nil (handlers_at (handlers_of p) pc)))
    handled_there c (q ∷ ps) h pc e f =
        let first = start_is q ps c h.0 in
        let last = ends_within q ps c h.0 in
        let mine = handler (target ps q.construct) (start (q ∷ ps)) (start (q ∷ ps) + part_size (part_of q.part (body ps q.construct))) (caught_of (link_of q.part (body ps q.construct))) in
        handled_there q.construct ps h.1 pc (omega (arith, first, e)) (omega (arith, last, f))
        ∙ ap (λ z. z ++ marks ps) (in_piece_there q ps c h.0 pc e f) ∙ append_assoc (handlers_at (handlers (target (q ∷ ps) c) (start (q ∷ ps)) (body (q ∷ ps) c)) pc) mine (marks ps)

    -- at an operation of a construct stand those of the pieces around it
    pub handled_at_operation : (c : Construct) (ps : List Piece) (n pc : ℕ) (op : Operation) (ns : List ℕ) (l : Layout) → Linked c ps root → rest n (body ps c) ≡ own op ns l → pc ≡ start ps + reached n (body ps c)
        → handlers_at (handlers_of p) pc ≡ marks ps
    handled_at_operation c ps n pc op ns l h e at =
        let a = whole_size n (body ps c) in
        let b : size (rest n (body ps c)) ≡ suc (size l) = ap size e in
        handled_there c ps h pc (omega (arith, at)) (omega (arith, at, a, b)) ∙ ap (λ z. z ++ marks ps) (none_at_own (target ps c) (start ps) n (body ps c) op ns l pc e at)

    -- and where the value of a part is received
    pub handled_at_reception : (q : Piece) (ps : List Piece) (c : Construct) (h : tree_of (part_at q.construct q.part) ≡ Some c) → Linked q.construct ps root → reception_size (piece ps q c h).link.reception ≡ 1
        → (pc : ℕ) → pc ≡ start (q ∷ ps) + size (body (q ∷ ps) c) → handlers_at (handlers_of p) pc ≡ marks ps
    handled_at_reception q ps c h k one pc at =
        let r = piece ps q c h in
        let s : size r.code ≡ size (body (q ∷ ps) c) = ap size r.same in
        let there : pc ≡ start ps + entry q.part (body ps q.construct) + (front r.link + size r.code) = omega (arith, at, start_is q ps c h, s) in
        handled_there q.construct ps k pc (omega (arith, there)) (omega (arith, at, ends_within q ps c h, one))
        ∙ ap (λ z. z ++ marks ps) (piece_received (target ps q.construct) (start ps) q.part (body ps q.construct) r.link r.code pc (r.link_is, r.code_is) one there)
